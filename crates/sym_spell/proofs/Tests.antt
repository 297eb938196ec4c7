-- Tests that join two tests with `&&`.
use Rattle.std.proofs.Common.{◌≡◌, Bool, true, false, refl}
use Rattle.std.specs.Prelude.{◌&&◌}

pub both : {a b : Bool} → a && b ≡ true → (a ≡ true) × (b ≡ true)
both {a = true} {b} h = (refl, h)
both {a = false} {b} h = cc

pub all : {a b : Bool} → a ≡ true → b ≡ true → a && b ≡ true
all {a} {b} h k = rw (h, k) refl
