-- if none of the bytes so far is out of bounds, they may be in a name
use Rattle.cpp_direct.proofs.ForAnswers.{◌≡◌, ◌≤◌, ◌-◌, length, true, ReachesNameBytes, NameClass}
use Rattle.cpp_direct.proofs.names.are_few_named.Given as goal

abbrev pub invariant-bytes : goal.invariant-bytes
invariant-bytes l = record { high : l.at ≤ length l.bytes; each : l.are ≡ true → ReachesNameBytes NameClass.Cpp l.bytes l.at }

abbrev pub decreases-bytes : goal.decreases-bytes
decreases-bytes l = length l.bytes - l.at
