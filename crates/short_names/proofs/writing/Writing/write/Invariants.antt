use Rattle.short_names.proofs.Basics.{◌-◌, length, Written, IsAt}
use Rattle.short_names.proofs.writing.Writing.write.Given as goal

abbrev pub invariant-pieces : goal.invariant-pieces
invariant-pieces l = (written : Written) × IsAt l.text l.self written

abbrev pub decreases-pieces : goal.decreases-pieces
decreases-pieces l = length l.text - l.self.at
