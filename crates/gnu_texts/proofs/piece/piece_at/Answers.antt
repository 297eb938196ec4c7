use Rattle.std.proofs.Common.{◌∙◌, sym}
use Rattle.gnu_texts.proofs.FrontLemmas.{plain-first}
use Rattle.gnu_texts.proofs.piece.piece_at.Goals as goal

pub returns-then-is_plain-clause-piece : goal.returns-then-is_plain-clause-piece
returns-then-is_plain-clause-piece c = sym (plain-first c.args.last c.args.text.now c.requires (sym c.is_plain.ensures ∙ c.if-is_plain.true))
