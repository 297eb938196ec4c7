use Rattle.cpp_press.proofs.Basics.{ap, sym, ◌∙◌, not, known_in}
use Rattle.cpp_press.proofs.Placing.{noted-fresh, noted-known}
use Rattle.cpp_press.proofs.components.Components.push.Goals.{then-is_none+in_ok-note, else-is_none}
use Rattle.cpp_press.proofs.components.Components.push.Goals as goal

pub returns-clause-first : goal.returns-clause-first
returns-clause-first c =
    elim c.if-is_none.branch [
      | then-is_none+in_ok-note w ↦ λ q.
          ap (λ s. known_in s q) w.self-is
          ∙ noted-fresh (known_in c.args.self.now) c.args.likeness q c.args.self.now.count c.first.result _ (sym c.first.ensures)
          (c.is_none.ensures ∙ ap not w.if-is_none.true) (w.in_ok-note.ensures.first q)
      | else-is_none w ↦ λ q.
          ap (λ s. known_in s q) w.self-is
          ∙ noted-known (known_in c.args.self.now) c.args.likeness q c.args.self.now.count c.first.result (sym c.first.ensures)
          (c.is_none.ensures ∙ ap not w.if-is_none.false)
    ]
