use Rattle.json_lines.proofs.Basics.{◌≡◌, ◌∙◌, ◌++◌, List, ℕ, refl, sym, ap, Some, Ok, Err, kind_of, details_in, mangling_of, has_text}
use Rattle.json_lines.proofs.MeaningLemmas.{named, unnamed}
use Rattle.json_lines.proofs.meanings.symbol_meaning.Goals as goal

pub returns-in_default : goal.returns-in_default
returns-in_default g c =
    unnamed c.args.reads_paths (g.D.Demangler.answer c.args.demangler.now) (g.D.Detailed.details c.args.demangler.now) c.args.name.now (sym c.kind_of.ensures ∙ c.in_default.is)

pub returns-in-Ok : goal.returns-in-Ok
returns-in-Ok g c =
    let kind_is : kind_of c.args.name.now ≡ Some c.in-Some.kind = sym c.kind_of.ensures ∙ c.in-Some.is in
    let given = c.in-Ok.ensures in
    ap (λ (t : List ℕ). has_text c.mangling_of-mangling.result t (details_in c.in_ok-details-in-Ok.details)) (given.2 ∙ ap (λ old. old ++ given.0) c.new-text.ensures.items)
    ∙ named c.args.reads_paths (g.D.Demangler.answer c.args.demangler.now) (g.D.Detailed.details c.args.demangler.now) c.args.name.now c.symbol_of-symbol.result.now c.in-Some.kind c.mangling_of-mangling.result (details_in c.in_ok-details-in-Ok.details) (Ok given.0) kind_is c.symbol_of-symbol.ensures.symbol c.mangling_of-mangling.ensures c.in_ok-details-in-Ok.ensures given.1

pub returns : goal.returns
returns g c =
    let kind_is : kind_of c.args.name.now ≡ Some c.in-Some.kind = sym c.kind_of.ensures ∙ c.in-Some.is in
    let details = g.D.Detailed.details c.args.demangler.now in
    named c.args.reads_paths (g.D.Demangler.answer c.args.demangler.now) details c.args.name.now c.symbol_of-symbol.result.now c.in-Some.kind (mangling_of c.args.reads_paths c.in-Some.kind.lang c.symbol_of-symbol.result.now) (details c.in-Some.kind c.symbol_of-symbol.result.now) (Err c.in-Err.refusal)
    kind_is c.symbol_of-symbol.ensures.symbol refl refl
    (c.in-Err.ensures.0 c.in_default-refusal.not-Memory)
