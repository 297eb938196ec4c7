use Rattle.gnu_texts.proofs.Basics.{◌≡◌, ◌++◌, ◌-◌, length, drop, parted}
use Rattle.gnu_texts.proofs.clones.append_clones.Given as goal

abbrev pub invariant-bytes : goal.invariant-bytes
invariant-bytes l = record {
  so_far : l.out.items ++ parted (drop l.at l.suffix) ≡ l.initial.out.items ++ parted (drop 1 l.suffix);
}

abbrev pub decreases-bytes : goal.decreases-bytes
decreases-bytes l = length l.suffix - l.at
