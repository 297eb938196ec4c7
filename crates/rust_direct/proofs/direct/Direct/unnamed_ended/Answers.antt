use Rattle.rust_direct.proofs.Basics.{arith, [], refl, ap, subst, ◌∙◌, Some, Direct, IsNameAt}
use Rattle.rust_direct.proofs.PathsRead.{unnamed-read, piece-empty, ended-writing}
use Rattle.rust_direct.proofs.direct.Direct.unnamed_ended.Goals as goal

pub returns-in_ok-note-in-Nest-clause-writing : goal.returns-in_ok-note-in-Nest-clause-writing
returns-in_ok-note-in-Nest-clause-writing g c =
    let s = c.args.s.now in
    let name = c.in_ok-name-in-Nest.name in
    let named : IsNameAt s c.note.new.self.at [] name.end =
    subst (λ l. IsNameAt s c.note.new.self.at l name.end) (piece-empty s name.from name.to (omega (arith, c.if-name.false))) c.in_ok-name-in-Nest.ensures.2 in
    let taken : Direct = record c.note.new.self { waiting = c.pop.new.self } in
    ended-writing g.S.Showing.IS_BRIEF s (record taken { at = name.end }) c.note-in-Nest.new.self c.in-Nest.place c.args.from c.args.forms c.args.forms
    (unnamed-read g.S.Showing.IS_BRIEF s c.args.self.now c.note.new.self taken c.args.parent c.args.from c.args.forms c.pop.result c.in-Nest.letter c.in-Nest.place name.end
    c.requires.ended c.in_ok-note.ensures c.pop.ensures.items (c.in_ok-letter.was ∙ ap Some c.in-Nest.is) refl refl refl refl refl c.pop.ensures.room refl
    (omega (arith, c.if-letter-lt97.false)) named) c.in_ok-note-in-Nest.ensures
