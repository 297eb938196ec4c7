use Rattle.rust_direct.proofs.Basics.{refl, ap, sym, subst, ◌∙◌, Some, IsEnded}
use Rattle.rust_direct.proofs.ArgumentsRead.{arguments-read}
use Rattle.rust_direct.proofs.direct.Direct.arguments_ended.Goals as goal

pub ended-requires : goal.ended-requires
ended-requires g c =
    subst (λ f. IsEnded g.S.Showing.IS_BRIEF c.args.s.now c.push_closing.new.self c.in-Argument.place c.in-Argument.from f f) (sym c.form_of-forms.ensures)
    (arguments-read g.S.Showing.IS_BRIEF c.args.s.now c.args.self.now _ c.push_closing.new.self c.args._is_first c.in-Argument.is_value c.in-Argument.place c.in-Argument.from
    c.pop.result c.requires.writing c.requires.letter c.pop.ensures.items (c.in_ok-place.was ∙ ap Some c.in-Argument.is) refl refl refl refl refl c.pop.ensures.room
    c.in_ok-self-in-Argument.ensures.1 c.in_ok-push_closing-in-Argument.ensures)
