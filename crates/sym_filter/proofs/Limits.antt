-- The value of a constant (`LONGEST_WORD`) that clauses name.
use Rattle.sym_filter.proofs.Basics.{◌≡◌, refl, LONGEST_WORD}

pub longest_word : LONGEST_WORD ≡ 65536
longest_word = refl
