use Rattle.std.proofs.Common.{◌≡◌, Bool, true, false, not, refl}
use Rattle.sym_languages.proofs.legacy.append_named.Goals as goal

is_so : (b : Bool) → not b ≡ false → b ≡ true
is_so true h = refl
is_so false h = absurd (cc (h))

pub push_text-requires : goal.push_text-requires
push_text-requires g c = c.is_path.ensures.yes (is_so _ c.if-not-is_path.false)
