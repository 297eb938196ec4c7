use Rattle.short_names.proofs.Basics.{refl, is_name_byte}
use Rattle.std.proofs.lemmas.Bool.{ne_eqb}
use Rattle.short_names.proofs.runs.is_name_byte.Goals as goal

pub returns-then-byte-eq58 : goal.returns-then-byte-eq58
unfolding is_name_byte
returns-then-byte-eq58 c = rw c.if-byte-eq58.true refl

pub returns-else-byte-eq58 : goal.returns-else-byte-eq58
unfolding is_name_byte
returns-else-byte-eq58 c = rw (ne_eqb _ _ c.if-byte-eq58.false) c.is_letter.ensures
