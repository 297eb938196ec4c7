-- If the rest of the symbol, with the digits right before it, has only short numbers, so has the whole symbol.
use Rattle.cpp_direct.proofs.ForAnswers.{◌≡◌, ◌≤◌, ◌-◌, length, drop, true, short_numbers}
use Rattle.cpp_direct.proofs.tokens.are_numbers_short.Given as goal

abbrev pub invariant-bytes : goal.invariant-bytes
invariant-bytes l = record { high : l.at ≤ length l.s; few : l.run ≤ 19; left : short_numbers l.run (drop l.at l.s) ≡ true → short_numbers 0 l.s ≡ true }

abbrev pub decreases-bytes : goal.decreases-bytes
decreases-bytes l = length l.s - l.at
