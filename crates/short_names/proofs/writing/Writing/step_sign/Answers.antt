use Rattle.std.proofs.Common.{◌∙◌, sym, refl}
use Rattle.std.proofs.lemmas.Bool.{ne_eqb}
use Rattle.short_names.proofs.BracketLemmas.{opens_within, other_byte}
use Rattle.short_names.proofs.ClosingLemmas.{group_closes}
use Rattle.short_names.proofs.writing.Writing.step_sign.Goals as goal

pub returns-then-is_opening : goal.returns-then-is_opening
returns-then-is_opening c = λ written is.
    let e = c.in_ok-open_bracket.ensures in
    opens_within c.args.text.now c.args.self.now written c.args.byte _ is c.requires.0.2 (sym c.requires.1) c.requires.2 (sym c.is_opening.ensures ∙ c.if-is_opening.true) c.requires.3 _ refl
    e.at e.copied e.out e.brackets e.starts

pub returns-then-is_closing : goal.returns-then-is_closing
returns-then-is_closing c = λ written is.
    group_closes c.args.text.now c.args.self.now written c.args.byte c.close_group.new.self c.close_group.result is c.requires.0.2 (sym c.requires.1) c.requires.2
    (sym c.is_opening.ensures ∙ c.if-is_opening.false) (ne_eqb _ _ c.if-byte-eq62.false) (sym c.is_closing.ensures ∙ c.if-is_closing.true) c.requires.3
    c.close_group.ensures.list c.close_group.ensures.group

pub returns : goal.returns
returns c = λ written is.
    other_byte c.args.text.now c.args.self.now written c.args.byte _ is c.requires.0.2 (sym c.requires.1) c.requires.2
    (sym c.is_opening.ensures ∙ c.if-is_opening.false) c.if-byte-eq62.false (sym c.is_closing.ensures ∙ c.if-is_closing.false) c.if-byte-eq44.false c.if-byte-eq45.false c.requires.3 refl
