use Rattle.sym_print.proofs.Basics.{◌≡◌, ◌∷◌, [], ◌++◌, refl, sym, ◌∙◌, ap, arith, rules, same_from_push}
use Rattle.sym_print.proofs.Noting.{noted-whole}
use Rattle.sym_print.proofs.entries.note_whole.Goals as goal

pub returns-in-Some-clause-noted : goal.returns-in-Some-clause-noted
returns-in-Some-clause-noted g c =
    let popped : c.args.notes.now.begun.items ≡ c.pop.new.self.items ++ c.in-Some.begun ∷ [] = search rules in
    let whole = c.requires.whole in
    let same = same_from_push c.pop.new.self.items whole.1 c.in-Some.begun whole.0 (sym popped ∙ whole.2) in
    noted-whole (g.Y.Layout.unshared c.args.y.now) (g.Y.Layout.bytes_of c.args.y.now) c.args.notes.now c.add.new.self c.args._stack.now.items c.args.text.now.items
    c.args.meter.now.spent c.args.meter.now.steps c.in-Some.begun _ (ap (λ b. b.below) same.1 ∙ whole.3) (popped ∙ ap (λ v. v.items ++ c.in-Some.begun ∷ []) (sym c.add.ensures.begun)) refl refl
    (omega (arith, c.len.ensures, c.args.text.now.ok.0)) refl refl c.add.ensures.known c.requires.noted
