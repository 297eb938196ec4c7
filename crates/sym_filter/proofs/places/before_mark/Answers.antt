use Rattle.sym_filter.proofs.Basics.{◌≡◌, arith, subst, take, drop, true, List, ℕ, list_all, is_no_mark}
use Rattle.sym_filter.proofs.LaneLemmas.{all-longer}
use Rattle.sym_filter.proofs.places.before_mark.Goals as goal

-- none of sixteen bytes is a mark, if the front that was found without a mark has sixteen bytes
all-of-lanes : (bytes : List ℕ) (front : ℕ) → front ≡ 16 → list_all is_no_mark (take front bytes) ≡ true → list_all is_no_mark (take 16 bytes) ≡ true
all-of-lanes bytes front is found = subst (λ (n : ℕ). list_all is_no_mark (take n bytes) ≡ true) is found

pub returns-then-second-lt-LANES-clause-no_mark : goal.returns-then-second-lt-LANES-clause-no_mark
returns-then-second-lt-LANES-clause-no_mark c =
    let text = c.args.text.now in
    let first = c.lanes_before_mark-first in
    all-longer is_no_mark text 16 c.lanes_before_mark-second.result (all-of-lanes text first.result (omega (arith, first.ensures.0, c.if-first-lt-LANES.false)) first.ensures.1) c.lanes_before_mark-second.ensures.1

pub blocks_before_mark-requires-clause-begins : goal.blocks_before_mark-requires-clause-begins
blocks_before_mark-requires-clause-begins c =
    let text = c.args.text.now in
    let first = c.lanes_before_mark-first in
    let second = c.lanes_before_mark-second in
    all-longer is_no_mark text 16 16 (all-of-lanes text first.result (omega (arith, first.ensures.0, c.if-first-lt-LANES.false)) first.ensures.1)
    (all-of-lanes (drop 16 text) second.result (omega (arith, second.ensures.0, c.if-second-lt-LANES.false)) second.ensures.1)
