-- Parts without a row are passed one after the other.
use Rattle.sym_link.proofs.Basics.{◌≡◌, refl, sym, ◌∙◌, ap, subst, arith, ℕ, ◌+◌, ◌-◌, ◌<◌, ◌≤◌, List, [], ◌∷◌, ◌++◌, length, take, drop, Ok, Err, append_assoc, length-append, length-drop, Result, length-take-le, Refusal, Row, Rule, Kind, Tree, Forest, branch, empty, token, fixed, nothing, grown, spell_all, IsTree, row_count_all, tree_count, Frame, Token, symbols_of, Found, Open, Reading, ◌>>=◌, found, standing, skipped, skipped_from, joined, Stands, Passed, passed, ended, AreAll, Fails, View, IsInside, IsRuleRow, IsTokenRow, taken_in, Takes, next_of, Begun, begun, Begins, Puts, Adds, owed_behind, owed_next, skips, IsThere, IsAt, IsOpenAt, GoesOn, BeginsIn, ClosesAll, IsTaken, IsCount, IsAhead, IsThreading, Passing, Passes, count_trees}
use Rattle.sym_link.proofs.Cases.{as_many}
use Rattle.sym_link.proofs.Lists.{all_push, all_stay, dropped_front, taken_front}
use Rattle.sym_link.proofs.Following.{fails_carried}
use Rattle.sym_link.proofs.Standing.{stands_next, tree_next, all_passed, count_joined}
use Rattle.sym_link.proofs.Taking.{of_ok}

-- the parts after the one that is passed, and where they are
record Later {V S C : Type 0} (reading : Reading V S C) (rule : Open S C) (known : List V) (at : ℕ) (state : S) (left : Forest) : Type 0 where
  rest : Forest
  from : ℕ
  count : skips left ≡ 1 + skips rest
  passes : passed reading rule known at left state ≡ (reading.between rule known state >>= λ next. passed reading rule (next.values ++ reading.rowless) from rest next.state)

later : {V S C : Type 0} (reading : Reading V S C) (rule : Open S C) (known : List V) (at : ℕ) (state : S) (left : Forest) → 0 < skips left → Later reading rule known at state left
later reading rule known at state (grown empty rest) more = record { rest = rest; from = at; count = refl; passes = refl }
later reading rule known at state (grown (fixed byte) rest) more = record { rest = rest; from = at + 1; count = refl; passes = refl }
later reading rule known at state (grown (token t) rest) more = absurd (omega (arith, more))
later reading rule known at state (grown (branch r taken parts) rest) more = absurd (omega (arith, more))
later reading rule known at state nothing more = absurd (omega (arith, more))

pub passed_none : {V S C : Type 0} (reading : Reading V S C) (rule : Open S C) (known : List V) (from : ℕ) (left : Forest) (state : S)
    → skips left ≡ 0 → passed reading rule known from left state ≡ Ok (record { known = known; from = from; left = left; state = state })
passed_none reading rule known from (grown empty rest) state none = absurd (omega (arith, none))
passed_none reading rule known from (grown (fixed byte) rest) state none = absurd (omega (arith, none))
passed_none reading rule known from (grown (token t) rest) state none = refl
passed_none reading rule known from (grown (branch r taken parts) rest) state none = refl
passed_none reading rule known from nothing state none = refl

-- as many values are known as the frame has parts
own_length : {N P K V S C : Type 0} (view : View N P K V S C) (s : List ℕ) (nodes : N) (frame : Frame K) (parts : List P) (rule : Open S C) (known : List V) (state : S)
    → IsAt view s nodes frame (drop frame.base parts) rule known state → length parts - frame.base ≡ length known
own_length view s nodes frame parts rule known state at = sym (length-drop frame.base parts) ∙ as_many (view.IsPart nodes) (drop frame.base parts) known at.parts

-- if one part denotes a list of one value, it denotes that value
single : {P V : Type 0} (Is : P → V → Type 0) (p : P) (vs : List V) → length vs ≡ 1 → AreAll Is (p ∷ []) vs → (v : V) × (vs ≡ v ∷ []) × Is p v
single Is p [] one are = absurd are
single Is p (v ∷ []) one are = (v, refl, are.0)
single Is p (v ∷ w ∷ vs) one are = absurd are.1

module _ {N P K V S C : Type 0} (view : View N P K V S C) (s : List ℕ) (Surrounds : N → K → C → Type 0) (laws : IsThreading view) (old new : N) (frame : Frame K)
    (lower parts middle : List P) (to : ℕ) (whole : Result (Passed V S) Refusal) (p : Passing view s old frame lower parts to whole)
    (less : length parts - frame.base < to) where
  more : 0 < skips p.left
  more = omega (arith, own_length view s old frame parts p.rule p.known p.state p.at, p.count, less)

  after : Later view.reading p.rule p.known p.from p.state p.left
  after = later view.reading p.rule p.known p.from p.state p.left more

  -- one part is passed, and what it denotes comes after the other parts
  pub passing_next : (context : K) (part : P) → GoesOn view s Surrounds old new frame parts middle (Ok context) → view.Grows old new
      → AreAll (view.IsPart new) (part ∷ []) view.reading.rowless
      → Passing view s new frame lower (middle ++ part ∷ []) to whole
  passing_next context part goes grows is =
      let (next, read, surrounds, holds, own, middle_is, are) = goes p.rule p.known p.state p.at in
      let one = single (view.IsPart new) part view.reading.rowless laws.one is in
      let base : length (take frame.base parts) ≡ frame.base = length-take-le frame.base parts p.base in
      let all : middle ++ part ∷ [] ≡ take frame.base parts ++ (own ++ part ∷ []) =
      ap (λ ps. ps ++ part ∷ []) middle_is ∙ append_assoc (take frame.base parts) own (part ∷ []) in
      let front : take frame.base (middle ++ part ∷ []) ≡ take frame.base parts =
      subst (λ n. take n (middle ++ part ∷ []) ≡ take frame.base parts) base (ap (λ ps. take (length (take frame.base parts)) ps) all ∙ taken_front (take frame.base parts) (own ++ part ∷ [])) in
      let back : drop frame.base (middle ++ part ∷ []) ≡ own ++ part ∷ [] =
      subst (λ n. drop n (middle ++ part ∷ []) ≡ own ++ part ∷ []) base (ap (λ ps. drop (length (take frame.base parts)) ps) all ∙ dropped_front (take frame.base parts) (own ++ part ∷ [])) in
      let count : length next.values ≡ length p.known = of_ok (view.reading.between p.rule p.known p.state) next (λ n. length n.values ≡ length p.known) read (laws.linking.keeps_count p.rule p.known p.state) in
      record {
        rule = p.rule;
        known = next.values ++ view.reading.rowless;
        from = after.from;
        left = after.rest;
        state = next.state;
        base = omega (arith, ap (λ ps. length ps) all, length-append (take frame.base parts) (own ++ part ∷ []), base);
        below = front ∙ p.below;
        at = record {
          there = p.at.there;
          number = p.at.number;
          place = p.at.place;
          kept = laws.linking.kept_stays old new frame.kept p.rule grows p.at.kept;
          parts = subst (λ ps. AreAll (view.IsPart new) ps (next.values ++ view.reading.rowless)) (sym back)
              (subst (λ vs. AreAll (view.IsPart new) (own ++ part ∷ []) (next.values ++ vs)) (sym one.1) (all_push (view.IsPart new) own next.values part one.0 are one.2));
          holds = holds;
        };
        coming = rw read at (sym after.passes) ∙ p.coming;
        count = omega (arith, p.count, after.count, count, laws.one, length-append next.values view.reading.rowless);
      }

  pub passing_fails : (e : Refusal) → GoesOn view s Surrounds old new frame parts middle (Err e) → Fails e whole
  passing_fails e goes =
      fails_carried e (view.reading.between p.rule p.known p.state) (λ next. passed view.reading p.rule (next.values ++ view.reading.rowless) after.from after.rest next.state) whole
      (goes p.rule p.known p.state p.at) (sym after.passes ∙ p.coming)

-- the rule is still open
pub open_next : {N P K V S C : Type 0} (view : View N P K V S C) (s : List ℕ) (Surrounds : N → K → C → Type 0) → IsThreading view → (old new : N) (frame : Frame K)
    (parts middle : List P) → frame.base ≤ length parts → IsOpenAt view s old frame parts
    → (context : K) (part : P) → GoesOn view s Surrounds old new frame parts middle (Ok context) → view.Grows old new
    → AreAll (view.IsPart new) (part ∷ []) view.reading.rowless
    → IsOpenAt view s new frame (middle ++ part ∷ [])
open_next view s Surrounds laws old new frame parts middle base o context part goes grows is =
    let left : Forest = grown empty nothing in
    let whole = passed view.reading o.rule o.known 0 left o.state in
    let first : Passing view s old frame (take frame.base parts) parts (length o.known + 1) whole =
    record { rule = o.rule; known = o.known; from = 0; left = left; state = o.state; base = base; below = refl; at = o.at; coming = refl; count = refl } in
    let less : length parts - frame.base < length o.known + 1 = omega (arith, own_length view s old frame parts o.rule o.known o.state o.at) in
    let next = passing_next view s Surrounds laws old new frame (take frame.base parts) parts middle (length o.known + 1) whole first less context part goes grows is in
    record { rule = next.rule; known = next.known; state = next.state; at = next.at }

-- all parts are passed
pub passing_done : {N P K V S C : Type 0} (view : View N P K V S C) (s : List ℕ) (nodes : N) (frame : Frame K) (lower parts : List P) (to : ℕ) (whole : Result (Passed V S) Refusal)
    → Passing view s nodes frame lower parts to whole → to ≤ length parts - frame.base → Passes view nodes frame lower parts (Ok tt) whole
passing_done view s nodes frame lower parts to whole p enough =
    let none : skips p.left ≡ 0 = omega (arith, own_length view s nodes frame parts p.rule p.known p.state p.at, p.count, enough) in (
      record { known = p.known; from = p.from; left = p.left; state = p.state },
      sym p.coming ∙ passed_none view.reading p.rule p.known p.from p.left p.state none,
      p.at.holds,
      p.below,
      p.base,
      p.at.parts,
    )

-- ## One after the other

-- how many nodes a rule may still add, once its next part is pushed
pub owed_pushed : {N P K V S C : Type 0} (view : View N P K V S C) (old new : N) (frame : Frame K) (parts middle : List P) (part : P) (x : ℕ) → frame.base ≤ length middle
    → Adds view old new x (owed_next view frame middle) → Adds view old new x (owed_behind view frame (middle ++ part ∷ []))
owed_pushed view old new frame parts middle part x within adds =
    (adds.0, subst (λ k. view.size new + view.owes frame.rule k ≤ view.size old + x) (omega (arith, within, length-append middle (part ∷ []))) adds.1)

-- ## A rule begins, or closes

module _ {N P K V S C : Type 0} (view : View N P K V S C) (s : List ℕ) (laws : IsThreading view) (old : N) (frame : Frame K) (parts : List P)
    (base : frame.base ≤ length parts) (rule : Open S C) (known : List V) (from : ℕ) (left : Forest) (state : S)
    (is : IsInside view s old frame (drop frame.base parts) rule known from left state) where
  there : IsThere view.table s rule
  there = record {
    kind = is.stands.kind;
    is_kind = is.stands.is_kind;
    takes = is.stands.takes;
    behind = spell_all (joined is.stands.passed left) ++ is.stands.behind;
    spelled = is.stands.spelled;
  }

  first_at : IsAt view s old frame (drop frame.base parts) rule known state
  first_at = record { there = there; number = is.number; place = is.place; kept = is.kept; parts = is.parts; holds = is.holds }

  -- the rule is open
  pub open_first : IsOpenAt view s old frame parts
  open_first = record { rule = rule; known = known; state = state; at = first_at }

  -- no part is passed yet
  passing_first : (to : ℕ) → to ≡ length known + skips left → Passing view s old frame (take frame.base parts) parts to (passed view.reading rule known from left state)
  passing_first to to_is = record {
    rule = rule;
    known = known;
    from = from;
    left = left;
    state = state;
    base = base;
    below = refl;
    at = first_at;
    coming = refl;
    count = sym to_is;
  }

  -- each part has one value
  one_each : Stands view.table s 1 rule (length known) from left
  one_each = subst (λ n. Stands view.table s n rule (length known) from left) laws.one is.stands

  -- no part is passed yet before the next part that has a row, with n parts after that one
  pub row_first : (held after to : ℕ) → IsAhead view.table frame.rule held after to → held ≡ length parts - frame.base → (next : Tree) (rest : Forest) → skipped left ≡ grown next rest
      → after ≡ tree_count rest → Passing view s old frame (take frame.base parts) parts to (passed view.reading rule known from left state)
  row_first held after to ahead held_is next rest left_is told =
      let known_is : held ≡ length known = held_is ∙ own_length view s old frame parts rule known state first_at in
      passing_first to (omega (
        arith,
        known_is,
        ahead one_each.kind rule.rule rule.taken one_each.is_kind one_each.takes (sym is.number) one_each.passed left rest next one_each.trees
            (sym one_each.counted ∙ sym known_is) left_is told,
      ))

  -- no part is passed yet before the end of the rule
  pub close_first : (count : ℕ) → IsCount view.table frame.rule count → row_count_all left ≡ 0
      → Passing view s old frame (take frame.base parts) parts count (passed view.reading rule known from left state)
  close_first count is_count none =
      passing_first count (omega (
        arith,
        is_count one_each.kind rule.rule rule.taken one_each.is_kind one_each.takes (sym is.number),
        count_trees view.table (symbols_of rule.rule) (joined one_each.passed left) one_each.trees,
        count_joined one_each.passed left,
        one_each.counted,
        all_passed left none,
      ))

  -- after parts are passed, the frame is still that of the rule
  pub passed_at : (middle : N) (passed_parts : List P) (p : Passed V S) → view.Grows old middle → AreAll (view.IsPart middle) (drop frame.base passed_parts) p.known → view.Holds middle p.state
      → IsAt view s middle frame (drop frame.base passed_parts) rule p.known p.state
  passed_at middle passed_parts p grows are holds = record {
    there = there;
    number = is.number;
    place = is.place;
    kept = laws.linking.kept_stays old middle frame.kept rule grows is.kept;
    parts = are;
    holds = holds;
  }

  pub closed_all : (middle new : N) (passed_parts new_parts : List P) (result : Result (Unit {0}) Refusal) → view.Grows old middle
      → Passes view middle frame (take frame.base parts) passed_parts (Ok tt) (passed view.reading rule known from left state)
      → ClosesAll view s middle new frame passed_parts new_parts result
      → Puts view new (take frame.base parts) new_parts result (ended view.reading rule known from left state)
  closed_all middle new passed_parts new_parts result grows (p, read, holds, below, within, are) closes =
      subst (λ ps. Puts view new ps new_parts result (ended view.reading rule known from left state)) below
      (rw read (closes rule p.known p.state (passed_at middle passed_parts p grows are holds)))

  pub closed_none : (middle : N) (passed_parts : List P) (e : Refusal) → Passes view middle frame (take frame.base parts) passed_parts (Err e) (passed view.reading rule known from left state)
      → Fails e (ended view.reading rule known from left state)
  closed_none middle passed_parts e fails =
      fails_carried e (passed view.reading rule known from left state) (λ p. view.reading.close rule p.known p.state) (ended view.reading rule known from left state) fails refl

  module _ (Surrounds : N → K → C → Type 0) (rows : List Row) (row : Row) (inside : Rule) (taken : List ℕ) (inner : Forest) (row_is : IsRuleRow rows row inside taken inner (skipped_from from left))
      (rest : Forest) (left_is : skipped left ≡ grown (branch inside taken inner) rest) where
    next_there : (behind : List ℕ) × (drop (skipped_from from left) s ≡ taken ++ (spell_all inner ++ behind))
    next_there = stands_next view.table s (length view.reading.rowless) rule (length known) from left inside taken inner rest is.stands left_is

    tree_there : (kind : ℕ) × (kind < view.table.kinds) × IsTree view.table (Kind kind) (branch inside taken inner)
    tree_there = tree_next view.table s (length view.reading.rowless) rule (length known) from left inside taken inner rest laws.linking.sound is.stands left_is

    abbrev whole : Result (Begun V S C) Refusal
    whole = next_of view.reading rule known from left state >>= begun view.reading inside taken (skipped_from from left) inner

    pub begins_passed : (middle : N) (passed_parts : List P) (e : Refusal) → Passes view middle frame (take frame.base parts) passed_parts (Err e) (passed view.reading rule known from left state)
        → Fails e whole
    begins_passed middle passed_parts e fails =
        fails_carried e (next_of view.reading rule known from left state) (begun view.reading inside taken (skipped_from from left) inner) whole
        (fails_carried e (passed view.reading rule known from left state) (λ p. view.reading.between rule p.known p.state) (next_of view.reading rule known from left state) fails refl) refl

    module _ (middle later : N) (passed_parts new_parts : List P) (grows : view.Grows old middle)
        (passes : Passes view middle frame (take frame.base parts) passed_parts (Ok tt) (passed view.reading rule known from left state)) where
      pub begins_gone : (e : Refusal) → GoesOn view s Surrounds middle later frame passed_parts new_parts (Err e) → Fails e whole
      begins_gone e goes =
          rw passes.1
          (fails_carried e (view.reading.between rule passes.0.known passes.0.state) (begun view.reading inside taken (skipped_from from left) inner)
          (view.reading.between rule passes.0.known passes.0.state >>= begun view.reading inside taken (skipped_from from left) inner)
          (goes rule passes.0.known passes.0.state (passed_at middle passed_parts passes.0 grows passes.5 passes.2)) refl)

      pub begins_refused : (new : N) (context : K) (e : Refusal) → GoesOn view s Surrounds middle later frame passed_parts new_parts (Ok context)
          → BeginsIn view s Surrounds rows later new context row (Err e) → Fails e whole
      begins_refused new context e goes begins =
          let (next, went, surrounds, held, own, own_is, own_are) = goes rule passes.0.known passes.0.state (passed_at middle passed_parts passes.0 grows passes.5 passes.2) in
          let r = standing inside taken (skipped_from from left) next.context next.state in
          let then_of : S → Result (Begun V S C) Refusal = λ st. Ok (record { rule = r; values = next.values; state = st }) in
          rw (passes.1, went)
          (fails_carried e (view.reading.begin r inner) then_of (view.reading.begin r inner >>= then_of) (begins next.context next.state inside taken inner (skipped_from from left) row_is tree_there.0 tree_there.1 tree_there.2 next_there.0 next_there.1 surrounds held) refl)

      pub begins_right : (new : N) (context kept : K) → GoesOn view s Surrounds middle later frame passed_parts new_parts (Ok context) → view.Grows later new
          → BeginsIn view s Surrounds rows later new context row (Ok kept) → Begins view new (take frame.base parts) new_parts (Ok kept) whole
      begins_right new context kept goes grown_on begins =
          let (next, went, surrounds, held, own, own_is, own_are) = goes rule passes.0.known passes.0.state (passed_at middle passed_parts passes.0 grows passes.5 passes.2) in
          let (after, began, is_kept, holds) = begins next.context next.state inside taken inner (skipped_from from left) row_is tree_there.0 tree_there.1 tree_there.2 next_there.0 next_there.1 surrounds held in
          let r = standing inside taken (skipped_from from left) next.context next.state in
          rw (passes.1, went, began) (
            record { rule = r; values = next.values; state = after },
            refl,
            is_kept,
            holds,
            own,
            own_is ∙ ap (λ ps. ps ++ own) passes.3,
            all_stay (view.IsPart new) (view.IsPart later) own next.values (λ p v is. laws.linking.part_stays later new p v grown_on is) own_are,
          )

  module _ (Surrounds : N → K → C → Type 0) (row : Row) (t : Token) (row_is : IsTokenRow s row t (skipped_from from left)) where
    abbrev whole_token : Result (Found (List V) S) Refusal
    whole_token = next_of view.reading rule known from left state >>= taken_in view.reading t (skipped_from from left)

    pub token_passed : (middle : N) (passed_parts : List P) (e : Refusal) → Passes view middle frame (take frame.base parts) passed_parts (Err e) (passed view.reading rule known from left state)
        → Fails e whole_token
    token_passed middle passed_parts e fails =
        fails_carried e (next_of view.reading rule known from left state) (taken_in view.reading t (skipped_from from left)) whole_token
        (fails_carried e (passed view.reading rule known from left state) (λ p. view.reading.between rule p.known p.state) (next_of view.reading rule known from left state) fails refl) refl

    module _ (middle later : N) (passed_parts new_parts : List P) (grows : view.Grows old middle)
        (passes : Passes view middle frame (take frame.base parts) passed_parts (Ok tt) (passed view.reading rule known from left state)) where
      pub token_gone : (e : Refusal) → GoesOn view s Surrounds middle later frame passed_parts new_parts (Err e) → Fails e whole_token
      token_gone e goes =
          rw passes.1
          (fails_carried e (view.reading.between rule passes.0.known passes.0.state) (taken_in view.reading t (skipped_from from left))
          (view.reading.between rule passes.0.known passes.0.state >>= taken_in view.reading t (skipped_from from left))
          (goes rule passes.0.known passes.0.state (passed_at middle passed_parts passes.0 grows passes.5 passes.2)) refl)

      pub token_refused : (new : N) (context : K) (e : Refusal) → GoesOn view s Surrounds middle later frame passed_parts new_parts (Ok context)
          → IsTaken view s later new row (Err e) → Fails e whole_token
      token_refused new context e goes taken =
          let (next, went, surrounds, held, own, own_is, own_are) = goes rule passes.0.known passes.0.state (passed_at middle passed_parts passes.0 grows passes.5 passes.2) in
          let then_of : Found V S → Result (Found (List V) S) Refusal = λ one. Ok (found (next.values ++ one.value ∷ []) one.state) in
          rw (passes.1, went)
          (fails_carried e (view.reading.token (skipped_from from left) t next.state) then_of (view.reading.token (skipped_from from left) t next.state >>= then_of) (taken next.state t (skipped_from from left) row_is held) refl)

      pub token_right : (new : N) (context : K) (part : P) → GoesOn view s Surrounds middle later frame passed_parts new_parts (Ok context) → view.Grows later new
          → IsTaken view s later new row (Ok part) → Takes view new (take frame.base parts) (new_parts ++ part ∷ []) (Ok tt) whole_token
      token_right new context part goes grown_on taken =
          let (next, went, surrounds, held, own, own_is, own_are) = goes rule passes.0.known passes.0.state (passed_at middle passed_parts passes.0 grows passes.5 passes.2) in
          let (value, after, read, is_part, holds) = taken next.state t (skipped_from from left) row_is held in
          rw (passes.1, went, read) (
            next.values ++ value ∷ [],
            after,
            refl,
            holds,
            own ++ part ∷ [],
            ap (λ ps. ps ++ part ∷ []) (own_is ∙ ap (λ ps. ps ++ own) passes.3) ∙ append_assoc (take frame.base parts) own (part ∷ []),
            all_push (view.IsPart new) own next.values part value
                (all_stay (view.IsPart new) (view.IsPart later) own next.values (λ p v is. laws.linking.part_stays later new p v grown_on is) own_are) is_part,
          )
