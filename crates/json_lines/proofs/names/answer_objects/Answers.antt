use Rattle.json_lines.proofs.Basics.{◌+◌, ap, ◌∙◌, List, ◌∷◌, [], ◌++◌, ℕ, get_or, map, take, drop, Bor, refl, arith, append_assoc, reads_paths}
use Rattle.sym_command.proofs.LineLemmas.{words-more}
use Rattle.sym_command.proofs.PageLemmas.{words-split}
use Rattle.json_lines.proofs.NameLemmas.{SoFar-begin, SoFar-more, SoFar-stopped}
use Rattle.json_lines.proofs.names.answer_objects.Goals as goal

pub names-init : goal.names-init
names-init g c = record {
  so_far = SoFar-begin c.args.options.types (reads_paths c.args.options.style) (g.D.Demangler.answer c.args.demangler.now) (g.D.Detailed.details c.args.demangler.now) (g.W.Sink.taken c.args.out.now);
  out_fails = refl;
}

pub names-preserved : goal.names-preserved
names-preserved g c =
    let answers = g.D.Demangler.answer c.args.demangler.now in
    let details = g.D.Detailed.details c.args.demangler.now in
    let now : Bor (List ℕ) → List ℕ = λ name. name.now in
    let names = c.args.names.now in
    let i = c.names.name-index in
    let none : Bor (List ℕ) = record { ref_ptr = (0, 0); now = [] } in
    let name = (get_or names i none).now in
    let before = c.names.invariant in
    let done = c.in-Ok.ensures in record {
      so_far = SoFar-more c.args.options.types (reads_paths c.args.options.style) answers details (map now (take i names)) (map now (take (i + 1) names)) name c.names.one_stays _ c.in-Ok.stays
          (g.W.Sink.taken c.args.out.now) (g.W.Sink.taken c.names.out) (g.W.Sink.taken c.answer_object.new.out) before.so_far (words-more names i none c.names-test.true) done.line done.stays refl;
      out_fails = omega (arith, done.failures, before.out_fails);
    }

pub returns-in-Err-clause-err : goal.returns-in-Err-clause-err
returns-in-Err-clause-err g c =
    let answers = g.D.Demangler.answer c.args.demangler.now in
    let details = g.D.Detailed.details c.args.demangler.now in
    let now : Bor (List ℕ) → List ℕ = λ name. name.now in
    let names = c.args.names.now in
    let i = c.names.name-index in
    let none : Bor (List ℕ) = record { ref_ptr = (0, 0); now = [] } in
    let name = (get_or names i none).now in
    let more = words-more names i none c.names-test.true in
    let rest = map now (drop (i + 1) names) in
    SoFar-stopped c.args.options.types (reads_paths c.args.options.style) answers details (map now (take i names)) rest (map now names) name c.names.one_stays
    (g.W.Sink.taken c.args.out.now) (g.W.Sink.taken c.names.out) (g.W.Sink.taken c.answer_object.new.out)
    c.names.invariant.so_far (words-split names (i + 1) ∙ ap (λ (t : List (List ℕ)). t ++ rest) more ∙ append_assoc (map now (take i names)) (name ∷ []) rest) c.in-Err.ensures.err
