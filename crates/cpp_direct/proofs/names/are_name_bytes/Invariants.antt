-- the bytes so far may be in a name
use Rattle.cpp_direct.proofs.ForAnswers.{◌-◌, ◌≤◌, length, ReachesNameBytes, NameClass}
use Rattle.cpp_direct.proofs.names.are_name_bytes.Given as goal

abbrev pub invariant-lanes : goal.invariant-lanes
invariant-lanes l = record { high : l.at ≤ length l.bytes; each : ReachesNameBytes NameClass.Cpp l.bytes l.at }

abbrev pub decreases-lanes : goal.decreases-lanes
decreases-lanes l = length l.bytes - l.at
