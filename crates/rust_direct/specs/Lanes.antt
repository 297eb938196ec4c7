-- What a mask of lanes says about bytes that are tested together.
use Rattle.std.specs.Prelude.{◌≡◌, ℕ, ◌+◌, ◌<◌, ◌==◌, if◌then◌else◌, Bool, true, List, get_or}
use Rattle.std.specs.Int.{w64, trailing_zeros}

-- the place of the lowest bit that is set, or the number of lanes
abbrev pub first_set : (mask : ℕ) → ℕ
first_set mask = if mask == 0 then 16 else trailing_zeros w64 mask

-- each of `count` bytes from a place on passes the test
abbrev pub EachPasses : (test : ℕ → Bool) → List ℕ → (at count : ℕ) → Type 0
EachPasses test s at count = (k : ℕ) → k < count → test (get_or s (at + k) 0) ≡ true
