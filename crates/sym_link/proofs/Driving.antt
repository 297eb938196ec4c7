-- What the driver's functions have to show, over plain variables.
use Rattle.sym_link.proofs.Basics.{length-take-le, if◌then◌else◌, add-zero, take, true, false, ◌≡◌, ◌≢◌, ◌⊎◌, inl, inr, refl, sym, ◌∙◌, ap, subst, arith, ℕ, ◌+◌, ◌-◌, ◌*◌, ◌<◌, ◌≤◌, List, [], ◌∷◌, ◌++◌, length, drop, Ok, Err, length-append, length-drop, Result, slice_index_or, OnOk, Option, Some, None, Refusal, Row, Rule, Token, bytes_of, Tree, Forest, branch, token, grown, spell_all, row_count_all, rows_of_all, tree_count, Frame, Found, ◌>>=◌, found, standing, skipped, passed_by, skipped_from, values_in, Stands, AreAll, Fails, View, IsLinking, HasRoom, TokenTakesMemory, IsOpen, IsRuleRow, IsTokenRow, values_at_once, owed_behind, owed_next, next_of, taken_in, Adds, AddsFew, ClosesRule, TakesToken, Opens, OpensRoot, link_steps, link_steps_all, Due, waiting, starting, no_part_has_row, closes_at_once, CountsClose, CountsToken, Follows, FollowsAfter, StaysWithin, CanClose, CanTake, CanBegin, EndsWith, IsShape, IsFresh, IsOnWay, IsDone, HoldsAll, Moves, CountsMove, IsDriving, IsStepTo, meaning_of, length-rows_of_all}
use Rattle.sym_link.specs.Machine as machine
use Rattle.sym_link.proofs.Standing.{NextPart, a_rule, a_token, next_part, skip_from, skip_count, stands_within, stands_end, stands_inner, stands_skip}
use Rattle.sym_link.proofs.Stepping.{some_row, none_at_once, token_at_once, rule_not_at_once, token_not_at_once, push_due, some_due, chosen}
use Rattle.sym_link.proofs.Cases.{as_many}
use Rattle.sym_link.proofs.Following.{Innermost, innermost, close_follows, close_fails}
use Rattle.sym_link.proofs.Opening.{taken_count}
use Rattle.sym_link.proofs.Taking.{of_ok, dropped_one, dropped_next, the_rule_row, rule_row_is, enter_follows, enter_fails, the_token_row, token_row_is, token_stands, token_follows, token_fails}
use Rattle.sym_link.proofs.Starting.{room_inside, room_root, IsRoot, root_of, root_row, root_follows, done}
use Rattle.sym_link.proofs.Lists.{no_last, taken_dropped, dropped_front}

-- ## A rule closes

abbrev pub closing : {N P K V S C : Type 0} (view : View N P K V S C) (s : List ℕ) (nodes : N) (frame : Frame K) (parts : List P) (can : CanClose view s nodes frame parts)
    → Innermost view s can.shape can.whole can.due nodes can.next can.lower frame parts
closing view s nodes frame parts can = innermost view s can.shape can.whole can.due nodes can.next (can.lower ++ frame ∷ []) can.lower frame parts can.follows refl

pub closing_room : {N P K V S C : Type 0} (view : View N P K V S C) (s : List ℕ) (nodes : N) (frame : Frame K) (parts : List P) → IsLinking view
    → CanClose view s nodes frame parts → HasRoom view s nodes (owed_behind view frame parts)
closing_room view s nodes frame parts laws can =
    room_inside view s can.shape can.whole can.due nodes can.next can.lower frame parts laws can.fits.symbol (closing view s nodes frame parts can)

pub inner_place : {N P K V S C : Type 0} (view : View N P K V S C) (s : List ℕ) (shape : List Row) (whole : Result (Found (List V) S) Refusal) (due : Due)
    (nodes : N) (next : ℕ) (lower : List (Frame K)) (code : Frame K) (parts : List P) → IsLinking view → Innermost view s shape whole due nodes next lower code parts → code.place < length s
inner_place view s shape whole due nodes next lower code parts laws i =
    omega (arith, i.inside.place, stands_within view.table s (length view.reading.rowless) i.top.rule (length i.known) i.top.from i.top.left laws.sound i.inside.stands)

pub closing_place : {N P K V S C : Type 0} (view : View N P K V S C) (s : List ℕ) (nodes : N) (frame : Frame K) (parts : List P) → IsLinking view
    → CanClose view s nodes frame parts → frame.place < length s
closing_place view s nodes frame parts laws can =
    inner_place view s can.shape can.whole can.due nodes can.next can.lower frame parts laws (closing view s nodes frame parts can)

pub closing_base : {N P K V S C : Type 0} (view : View N P K V S C) (s : List ℕ) (nodes : N) (frame : Frame K) (parts : List P)
    → CanClose view s nodes frame parts → frame.base ≤ length parts
closing_base view s nodes frame parts can = (closing view s nodes frame parts can).base

pub inner_open : {N P K V S C : Type 0} (view : View N P K V S C) (s : List ℕ) (shape : List Row) (whole : Result (Found (List V) S) Refusal) (due : Due)
    (nodes : N) (next : ℕ) (lower : List (Frame K)) (code : Frame K) (parts : List P) → Innermost view s shape whole due nodes next lower code parts → IsOpen view s nodes code parts
inner_open view s shape whole due nodes next lower code parts i =
    record { rule = i.top.rule; known = i.known; from = i.top.from; left = i.top.left; state = i.state; inside = i.inside }

pub closing_open : {N P K V S C : Type 0} (view : View N P K V S C) (s : List ℕ) (nodes : N) (frame : Frame K) (parts : List P)
    → CanClose view s nodes frame parts → IsOpen view s nodes frame parts
closing_open view s nodes frame parts can =
    inner_open view s can.shape can.whole can.due nodes can.next can.lower frame parts (closing view s nodes frame parts can)

no_row_left : {N P K V S C : Type 0} (view : View N P K V S C) (s : List ℕ) (shape : List Row) (whole : Result (Found (List V) S) Refusal) (due : Due)
    (nodes : N) (next : ℕ) (lower : List (Frame K)) (code : Frame K) (parts : List P) (i : Innermost view s shape whole due nodes next lower code parts) → code.end ≡ next
    → row_count_all i.top.left ≡ 0
no_row_left view s shape whole due nodes next lower code parts i ends = omega (arith, i.end, ends)

pub closed : {N P K V S C : Type 0} (view : View N P K V S C) (s : List ℕ) (shape : List Row) (whole : Result (Found (List V) S) Refusal) (due : Due)
    (old new : N) (next : ℕ) (lower : List (Frame K)) (frame : Frame K) (parts new_parts : List P) (result : Result (Unit {0}) Refusal) → IsLinking view
    → Follows view s shape whole due old next (lower ++ frame ∷ []) parts → frame.end ≡ next
    → ClosesRule view s old new frame parts new_parts result → OnOk result (Adds view old new (owed_behind view frame parts) 0) → OnOk result ((at : ℕ) → view.IsPaid old at → view.IsPaid new at)
    → (left : ℕ) → CountsClose due left
    → FollowsAfter view s shape whole left new next lower new_parts result
closed view s shape whole due old new next lower frame parts new_parts (Ok done) laws follows ends closes adds pays left counts =
    let i = innermost view s shape whole due old next (lower ++ frame ∷ []) lower frame parts follows refl in
    let none = no_row_left view s shape whole due old next lower frame parts i ends in
    let put = closes i.top.rule i.known i.top.from i.top.left i.state i.inside none in
    subst (λ ps. Follows view s shape whole (waiting left) new next lower ps) (sym put.1)
    (close_follows view s shape whole due old new next lower frame parts put.0 laws adds.0 i none put.2 adds.1 (pays i.reached i.paid) left counts)
closed view s shape whole due old new next lower frame parts new_parts (Err e) laws follows ends closes adds pays left counts =
    let i = innermost view s shape whole due old next (lower ++ frame ∷ []) lower frame parts follows refl in
    let none = no_row_left view s shape whole due old next lower frame parts i ends in
    close_fails view s shape whole due old next lower frame parts e i none (closes i.top.rule i.known i.top.from i.top.left i.state i.inside none)

-- ## A row is taken

-- the row of a rule comes next
pub record RuleNext {N P K V S C : Type 0} (view : View N P K V S C) (s : List ℕ) (shape : List Row) (whole : Result (Found (List V) S) Refusal) (due : Due)
    (nodes : N) (next : ℕ) (lower : List (Frame K)) (code : Frame K) (parts : List P) (row : Row) : Type 0 where
  pub i : Innermost view s shape whole due nodes next lower code parts
  pub rule : Rule
  pub taken : List ℕ
  pub inner : Forest
  pub rest : Forest
  pub left_is : skipped i.top.left ≡ grown (branch rule taken inner) rest
  pub row_is : IsRuleRow shape row rule taken inner (skipped_from i.top.from i.top.left)
  pub after : row.after ≡ tree_count rest
  pub row_end : row.end ≡ next + 1 + row_count_all inner
  pub no_token : row.rule < 65535
  pub more : next < length shape

-- the row of a token comes next
pub record TokenNext {N P K V S C : Type 0} (view : View N P K V S C) (s : List ℕ) (shape : List Row) (whole : Result (Found (List V) S) Refusal) (due : Due)
    (nodes : N) (next : ℕ) (lower : List (Frame K)) (code : Frame K) (parts : List P) (row : Row) : Type 0 where
  pub i : Innermost view s shape whole due nodes next lower code parts
  pub t : Token
  pub rest : Forest
  pub left_is : skipped i.top.left ≡ grown (token t) rest
  pub row_is : IsTokenRow s row t (skipped_from i.top.from i.top.left)
  pub after : row.after ≡ tree_count rest
  pub is_token : row.rule ≡ 65535
  pub more : next < length shape

-- if the next part is a rule, that rule is in the symbol
rule_stands : {N P K V S C : Type 0} (view : View N P K V S C) (s : List ℕ) (shape : List Row) (whole : Result (Found (List V) S) Refusal) (due : Due)
    (nodes : N) (next : ℕ) (lower : List (Frame K)) (code : Frame K) (parts : List P) (i : Innermost view s shape whole due nodes next lower code parts)
    (rule : Rule) (taken : List ℕ) (inner rest : Forest) → IsLinking view → skipped i.top.left ≡ grown (branch rule taken inner) rest
    → Stands view.table s (length view.reading.rowless) (standing rule taken (skipped_from i.top.from i.top.left) i.top.rule.context i.state) 0
    (skipped_from i.top.from i.top.left + length taken) inner
rule_stands view s shape whole due nodes next lower code parts i rule taken inner rest laws left_is =
    let n = length view.reading.rowless in
    let place = skipped_from i.top.from i.top.left in
    stands_inner view.table s n i.top.rule (length i.known + values_in n (passed_by i.top.left)) place rule taken inner rest i.top.rule.context i.state laws.sound
    (subst (λ f. Stands view.table s n i.top.rule (length i.known + values_in n (passed_by i.top.left)) place f) left_is
    (stands_skip view.table s n i.top.rule (length i.known) i.top.from i.top.left i.inside.stands))

inner_number : {N P K V S C : Type 0} (view : View N P K V S C) (s : List ℕ) (shape : List Row) (whole : Result (Found (List V) S) Refusal) (due : Due)
    (nodes : N) (next : ℕ) (lower : List (Frame K)) (code : Frame K) (parts : List P) (i : Innermost view s shape whole due nodes next lower code parts)
    (rule : Rule) (taken : List ℕ) (inner rest : Forest) → IsLinking view → skipped i.top.left ≡ grown (branch rule taken inner) rest → rule.number < 65535
inner_number view s shape whole due nodes next lower code parts i rule taken inner rest laws left_is =
    let st = rule_stands view s shape whole due nodes next lower code parts i rule taken inner rest laws left_is in
    laws.sound.number st.kind st.takes.byte rule st.is_kind st.takes.is_byte st.takes.found

next_row : {N P K V S C : Type 0} (view : View N P K V S C) (s : List ℕ) (shape : List Row) (whole : Result (Found (List V) S) Refusal) (due : Due)
    (nodes : N) (next : ℕ) (lower : List (Frame K)) (code : Frame K) (parts : List P) (row d : Row) → IsLinking view
    → Follows view s shape whole due nodes next (lower ++ code ∷ []) parts → code.end ≢ next → row ≡ slice_index_or shape next d
    → RuleNext view s shape whole due nodes next lower code parts row ⊎ TokenNext view s shape whole due nodes next lower code parts row
next_row view s shape whole due nodes next lower code parts row d laws follows open_still row_is =
    let i = innermost view s shape whole due nodes next (lower ++ code ∷ []) lower code parts follows refl in
    go i (next_part i.top.left (λ none. open_still (omega (arith, i.end, none))))
  where
    go : (i : Innermost view s shape whole due nodes next lower code parts) → NextPart i.top.left
        → RuleNext view s shape whole due nodes next lower code parts row ⊎ TokenNext view s shape whole due nodes next lower code parts row
    go i (a_rule rule taken inner rest left_is) =
        let place = skipped_from i.top.from i.top.left in
        let n = length view.reading.rowless in
        let rows = the_rule_row view s shape whole due nodes next lower code parts i rule taken inner rest left_is in
        let is = row_is ∙ (dropped_one shape _ next _ d rows).2 in
        inl (record {
          i = i;
          rule = rule;
          taken = taken;
          inner = inner;
          rest = rest;
          left_is = left_is;
          row_is = rule_row_is shape next (tree_count rest) place rule taken inner _ row d rows row_is;
          after = ap (λ r. r.after) is;
          row_end = ap (λ r. r.end) is;
          no_token = omega (arith, ap (λ r. r.rule) is, inner_number view s shape whole due nodes next lower code parts i rule taken inner rest laws left_is);
          more = (dropped_next shape _ next _ rows).1;
        })
    go i (a_token t rest left_is) =
        let rows = the_token_row view s shape whole due nodes next lower code parts i t rest left_is in
        let is = row_is ∙ (dropped_one shape _ next _ d rows).2 in
        inr (record {
          i = i;
          t = t;
          rest = rest;
          left_is = left_is;
          row_is = token_row_is s shape next (skipped_from i.top.from i.top.left) t _ row d view.table (length view.reading.rowless) i.top.rule _ rest rows row_is
              (token_stands view s shape whole due nodes next lower code parts i t rest left_is);
          after = ap (λ r. r.after) is;
          is_token = ap (λ r. r.rule) is;
          more = (dropped_next shape _ next _ rows).1;
        })

pub token_next : {N P K V S C : Type 0} (view : View N P K V S C) (s : List ℕ) (shape : List Row) (whole : Result (Found (List V) S) Refusal) (due : Due)
    (nodes : N) (next : ℕ) (codes : List (Frame K)) (code : Frame K) (parts : List P) (row d : Row) → IsLinking view → (last : EndsWith codes code)
    → Follows view s shape whole due nodes next codes parts → code.end ≢ next → row ≡ slice_index_or shape next d → row.rule ≡ 65535
    → TokenNext view s shape whole due nodes next last.0 code parts row
token_next view s shape whole due nodes next codes code parts row d laws last follows open_still row_is is_token =
    elim (next_row view s shape whole due nodes next last.0 code parts row d laws (subst (λ fs. Follows view s shape whole due nodes next fs parts) last.1 follows) open_still row_is) [
      | inl rule ↦ absurd (omega (arith, rule.no_token, is_token))
      | inr tok ↦ tok
    ]

pub rule_next : {N P K V S C : Type 0} (view : View N P K V S C) (s : List ℕ) (shape : List Row) (whole : Result (Found (List V) S) Refusal) (due : Due)
    (nodes : N) (next : ℕ) (codes : List (Frame K)) (code : Frame K) (parts : List P) (row d : Row) → IsLinking view → (last : EndsWith codes code)
    → Follows view s shape whole due nodes next codes parts → code.end ≢ next → row ≡ slice_index_or shape next d → row.rule ≢ 65535
    → RuleNext view s shape whole due nodes next last.0 code parts row
rule_next view s shape whole due nodes next codes code parts row d laws last follows open_still row_is no_token =
    elim (next_row view s shape whole due nodes next last.0 code parts row d laws (subst (λ fs. Follows view s shape whole due nodes next fs parts) last.1 follows) open_still row_is) [
      | inl rule ↦ rule
      | inr tok ↦ absurd (no_token tok.is_token)
    ]

-- some row comes next
pub more_rows : {N P K V S C : Type 0} (view : View N P K V S C) (s : List ℕ) (shape : List Row) (due : Due)
    (nodes : N) (next : ℕ) (codes : List (Frame K)) (code : Frame K) (parts : List P) (d : Row) → IsLinking view
    → CanTake view s shape due nodes next codes code parts → next < length shape
more_rows view s shape due nodes next codes code parts d laws can =
    elim (next_row view s shape can.whole due nodes next can.last.0 code parts (slice_index_or shape next d) d laws
    (subst (λ fs. Follows view s shape can.whole due nodes next fs parts) can.last.1 can.follows) can.open_still refl) [
      | inl rule ↦ rule.more
      | inr tok ↦ tok.more
    ]

-- what is required where a token is taken
pub record TokenAsks {N P K V S C : Type 0} (view : View N P K V S C) (s : List ℕ) (nodes : N) (frame : Frame K) (parts : List P) (row : Row) : Type 0 where
  pub room : HasRoom view s nodes (owed_behind view frame parts)
  pub stands : IsOpen view s nodes frame parts
  pub base : frame.base ≤ length parts
  pub from : row.from ≤ row.to
  pub to : row.to ≤ length s

pub token_asks : {N P K V S C : Type 0} (view : View N P K V S C) (s : List ℕ) (shape : List Row) (due : Due)
    (nodes : N) (next : ℕ) (codes : List (Frame K)) (code : Frame K) (parts : List P) (row d : Row) → IsLinking view
    → CanTake view s shape due nodes next codes code parts → row ≡ slice_index_or shape next d → row.rule ≡ 65535 → TokenAsks view s nodes code parts row
token_asks view s shape due nodes next codes code parts row d laws can row_is is_token =
    let t = token_next view s shape can.whole due nodes next codes code parts row d laws can.last can.follows can.open_still row_is is_token in
    let stands = token_stands view s shape can.whole due nodes next can.last.0 code parts t.i t.t t.rest t.left_is in
    record {
      room = room_inside view s shape can.whole due nodes next can.last.0 code parts laws can.fits.symbol t.i;
      stands = inner_open view s shape can.whole due nodes next can.last.0 code parts t.i;
      base = t.i.base;
      from = omega (arith, t.row_is.to);
      to = omega (
        arith,
        t.row_is.to,
        t.row_is.from,
        stands_end view.table s _ t.i.top.rule _ (skipped_from t.i.top.from t.i.top.left) (grown (token t.t) t.rest) laws.sound stands,
        length-append (bytes_of t.t) (spell_all t.rest),
        length-append (t.t.before ++ t.t.own) t.t.behind,
        length-append t.t.before t.t.own,
      );
    }

-- if the token of the next row takes memory of its own, the symbol has a token that does
pub token_there : {N P K V S C : Type 0} (view : View N P K V S C) (s : List ℕ) (shape : List Row) (due : Due)
    (nodes : N) (next : ℕ) (codes : List (Frame K)) (code : Frame K) (parts : List P) (row d : Row) → IsLinking view
    → CanTake view s shape due nodes next codes code parts → row ≡ slice_index_or shape next d → row.rule ≡ 65535
    → view.TakesMemory code.rule (take (row.to - row.from) (drop row.from s)) → TokenTakesMemory view s
token_there view s shape due nodes next codes code parts row d laws can row_is is_token apart =
    let t = token_next view s shape can.whole due nodes next codes code parts row d laws can.last can.follows can.open_still row_is is_token in
    record {
      rule = t.i.top.rule;
      held = length t.i.known;
      from = t.i.top.from;
      left = t.i.top.left;
      t = t.t;
      rest = t.rest;
      stands = t.i.inside.stands;
      left_is = t.left_is;
      apart = rw (← t.i.inside.number, ← t.row_is.own) apart;
    }

row_ends : (shape : List Row) (place : ℕ) (row : Row) (rule : Rule) (taken : List ℕ) (inner : Forest) → IsRuleRow shape row rule taken inner place → row.end ≤ length shape
row_ends shape place row rule taken inner is =
    omega (
      arith,
      is.end,
      ap (λ x. length x) is.rows_are,
      length-drop is.number shape,
      length-append (rows_of_all inner (place + length taken) (is.number + 1)) is.more,
      length-rows_of_all inner (place + length taken) (is.number + 1),
    )

-- what is required where a rule begins
pub record RuleAsks {N P K V S C : Type 0} (view : View N P K V S C) (s : List ℕ) (shape : List Row) (nodes : N) (frame : Frame K) (parts : List P) (row : Row) : Type 0 where
  pub room : HasRoom view s nodes (owed_behind view frame parts)
  pub stands : IsOpen view s nodes frame parts
  pub base : frame.base ≤ length parts
  pub place : row.from < length s
  pub end : row.end ≤ length shape

pub rule_asks : {N P K V S C : Type 0} (view : View N P K V S C) (s : List ℕ) (shape : List Row) (due : Due)
    (nodes : N) (next : ℕ) (codes : List (Frame K)) (code : Frame K) (parts : List P) (row d : Row) → IsLinking view
    → CanTake view s shape due nodes next codes code parts → row ≡ slice_index_or shape next d → row.rule ≢ 65535 → RuleAsks view s shape nodes code parts row
rule_asks view s shape due nodes next codes code parts row d laws can row_is no_token =
    let r = rule_next view s shape can.whole due nodes next codes code parts row d laws can.last can.follows can.open_still row_is no_token in
    let place = skipped_from r.i.top.from r.i.top.left in
    let n = length view.reading.rowless in
    let stands = rule_stands view s shape can.whole due nodes next can.last.0 code parts r.i r.rule r.taken r.inner r.rest laws r.left_is in
    record {
      room = room_inside view s shape can.whole due nodes next can.last.0 code parts laws can.fits.symbol r.i;
      stands = inner_open view s shape can.whole due nodes next can.last.0 code parts r.i;
      base = r.i.base;
      place = omega (arith, r.row_is.from, stands_within view.table s n (standing r.rule r.taken place r.i.top.rule.context r.i.state) 0 (place + length r.taken) r.inner laws.sound stands);
      end = row_ends shape place row r.rule r.taken r.inner r.row_is;
    }

-- while the innermost rule has no parts, only bytes up to its place have paid
early_base : {N P K V S C : Type 0} (view : View N P K V S C) (s : List ℕ) (shape : List Row) (whole : Result (Found (List V) S) Refusal) (due : Due)
    (nodes : N) (next : ℕ) (lower : List (Frame K)) (code : Frame K) (parts : List P) (i : Innermost view s shape whole due nodes next lower code parts)
    → length parts ≡ code.base → i.reached ≤ code.place
early_base view s shape whole due nodes next lower code parts i none =
    omega (arith, i.inside.place, i.early (sym (as_many (view.IsPart nodes) (drop code.base parts) i.known i.inside.parts) ∙ length-drop code.base parts ∙ omega (arith, none)))

-- n steps are left after a token is taken; in the step in which its rule begins, the token is the last row of the rule
abbrev pub CountsTaken : Due → (end next : ℕ) → ℕ → Type 0
CountsTaken (waiting m) end next n = m ≡ n + 1
CountsTaken (starting m most) end next n = (n ≡ m + 1) × (end ≡ next + 1)

taken_counts : (due : Due) (end next behind left : ℕ) → end ≡ next + 1 + behind → CountsTaken due end next left → CountsToken due behind left
taken_counts (waiting m) end next behind left is counts = counts
taken_counts (starting m most) end next behind left is counts = (counts.0, omega (arith, is, counts.1))

pub token_taken : {N P K V S C : Type 0} (view : View N P K V S C) (s : List ℕ) (shape : List Row) (whole : Result (Found (List V) S) Refusal) (due : Due)
    (old new : N) (next : ℕ) (codes : List (Frame K)) (code : Frame K) (parts new_parts : List P) (row d : Row) (result : Result (Unit {0}) Refusal) → IsLinking view → (last : EndsWith codes code)
    → Follows view s shape whole due old next codes parts → code.end ≢ next → row ≡ slice_index_or shape next d → row.rule ≡ 65535
    → TakesToken view s old new code parts new_parts row result → OnOk result (Adds view old new (owed_behind view code parts) (owed_behind view code new_parts))
    → OnOk result ((at : ℕ) → at ≤ row.from → (length parts ≡ code.base → at ≤ code.place) → view.IsPaid old at → view.IsPaid new row.to)
    → (left : ℕ) → CountsTaken due code.end next left → FollowsAfter view s shape whole left new (next + 1) codes new_parts result
token_taken view s shape whole due old new next codes code parts new_parts row d (Ok done) laws last follows open_still row_is is_token takes adds pays left counts =
    let t = token_next view s shape whole due old next codes code parts row d laws last follows open_still row_is is_token in
    let i = t.i in
    subst (λ fs. Follows view s shape whole (waiting left) new (next + 1) fs new_parts) (sym last.1)
    (token_follows view s shape whole due old new next last.0 code parts new_parts laws adds.0 i t.t t.rest row.to t.left_is (omega (arith, t.row_is.to, t.row_is.from))
    (takes i.top.rule i.known i.top.from i.top.left i.state t.t t.rest i.inside t.left_is t.row_is t.after) adds.1
    (pays i.reached (omega (arith, i.before, t.row_is.from, skip_from i.top.from i.top.left)) (early_base view s shape whole due old next last.0 code parts i) i.paid) left
    (taken_counts due code.end next (row_count_all t.rest) left (omega (arith, i.end, sym (skip_count i.top.left) ∙ ap row_count_all t.left_is)) counts))
token_taken view s shape whole due old new next codes code parts new_parts row d (Err e) laws last follows open_still row_is is_token takes adds pays left counts =
    let t = token_next view s shape whole due old next codes code parts row d laws last follows open_still row_is is_token in
    let i = t.i in
    token_fails view s shape whole due old next last.0 code parts e i t.t t.rest t.left_is
    (takes i.top.rule i.known i.top.from i.top.left i.state t.t t.rest i.inside t.left_is t.row_is t.after)

pub rule_begun : {N P K V S C : Type 0} (view : View N P K V S C) (s : List ℕ) (shape : List Row) (whole : Result (Found (List V) S) Refusal) (left : ℕ)
    (old new : N) (next : ℕ) (codes : List (Frame K)) (code opened : Frame K) (parts new_parts : List P) (row d : Row) → IsLinking view → (last : EndsWith codes code)
    → Follows view s shape whole (waiting (left + 1)) old next codes parts → code.end ≢ next → row ≡ slice_index_or shape next d → row.rule ≢ 65535
    → Opens view s shape old new code parts new_parts row (Ok opened.kept) → Adds view old new (owed_behind view code parts) (owed_next view code new_parts)
    → ((at : ℕ) → at ≤ row.from → view.IsPaid old at → view.IsPaid new row.from)
    → opened.rule ≡ row.rule → opened.place ≡ row.from → opened.end ≡ row.end → opened.base ≡ length new_parts
    → Follows view s shape whole (starting left (view.size old + 2)) new (next + 1) (codes ++ opened ∷ []) new_parts
rule_begun view s shape whole left old new next codes code opened parts new_parts row d laws last follows open_still row_is no_token opens adds pays number place end base =
    let r = rule_next view s shape whole (waiting (left + 1)) old next codes code parts row d laws last follows open_still row_is no_token in
    let i = r.i in
    subst (λ fs. Follows view s shape whole (starting left (view.size old + 2)) new (next + 1) (fs ++ opened ∷ []) new_parts) (sym last.1)
    (enter_follows view s shape whole left old new next last.0 code opened parts new_parts laws adds.0 i r.rule r.taken r.inner r.rest r.left_is
    (number ∙ r.row_is.rule_is) (place ∙ r.row_is.from) (end ∙ r.row_end) base
    (opens i.top.rule i.known i.top.from i.top.left i.state r.rule r.taken r.inner r.rest i.inside r.left_is r.row_is r.after) adds.1
    (subst (λ p. view.IsPaid new p) r.row_is.from (pays i.reached (omega (arith, i.before, r.row_is.from, skip_from i.top.from i.top.left)) i.paid)))

pub rule_refused : {N P K V S C : Type 0} (view : View N P K V S C) (s : List ℕ) (shape : List Row) (whole : Result (Found (List V) S) Refusal) (due : Due)
    (old new : N) (next : ℕ) (codes : List (Frame K)) (code : Frame K) (parts new_parts : List P) (row d : Row) (e : Refusal) → IsLinking view → (last : EndsWith codes code)
    → Follows view s shape whole due old next codes parts → code.end ≢ next → row ≡ slice_index_or shape next d → row.rule ≢ 65535
    → Opens view s shape old new code parts new_parts row (Err e) → Fails e whole
rule_refused view s shape whole due old new next codes code parts new_parts row d e laws last follows open_still row_is no_token opens =
    let r = rule_next view s shape whole due old next codes code parts row d laws last follows open_still row_is no_token in
    let i = r.i in
    enter_fails view s shape whole due old next last.0 code parts e i r.rule r.taken r.inner r.rest r.left_is
    (opens i.top.rule i.known i.top.from i.top.left i.state r.rule r.taken r.inner r.rest i.inside r.left_is r.row_is r.after)

-- a rule that doesn't close at once is open at the end of the step that begins it
pub begun_waits : {N P K V S C : Type 0} (view : View N P K V S C) (s : List ℕ) (shape : List Row) (whole : Result (Found (List V) S) Refusal) (left most : ℕ)
    (nodes : N) (next : ℕ) (lower : List (Frame K)) (code : Frame K) (parts : List P) (row d : Row) → IsLinking view
    → Follows view s shape whole (starting left most) nodes next (lower ++ code ∷ []) parts → code.end ≢ next → row ≡ slice_index_or shape next d → (row.rule ≡ 65535 → code.end ≢ next + 1)
    → Follows view s shape whole (waiting left) nodes next (lower ++ code ∷ []) parts
begun_waits {V = V} {S = S} {C = C} view s shape whole left most nodes next lower code parts row d laws follows open_still row_is several =
    let i = innermost view s shape whole (starting left most) nodes next (lower ++ code ∷ []) lower code parts follows refl in
    record {
      frames = i.top ∷ i.frames;
      known = i.known;
      state = i.state;
      coming = i.coming;
      rows = i.rows;
      within = i.within;
      holds = (
        record {
          lower = lower;
          code = code;
          below = take code.base parts;
          own = drop code.base parts;
          codes_are = refl;
          parts_are = sym (taken_dropped code.base parts);
          number = i.inside.number;
          place = i.inside.place;
          kept = i.inside.kept;
          end = i.end;
          base = sym (length-take-le code.base parts i.base);
          are = i.inside.parts;
          stands = subst (λ k. Stands view.table s (length view.reading.rowless) i.top.rule k i.top.from i.top.left) (sym (add-zero (length i.known))) i.inside.stands;
        },
        i.holds,
      );
      keeps = i.inside.holds;
      nests = i.nests;
      size = i.size;
      reached = i.reached;
      before = i.before;
      early = i.early;
      is_due = push_due i.top i.frames left most i.is_due (later i (next_part i.top.left (λ none. open_still (omega (arith, i.end, none)))));
      light = tt;
      paid = i.paid;
    }
  where
    later : (i : Innermost view s shape whole (starting left most) nodes next lower code parts) → NextPart i.top.left → closes_at_once i.top.left ≡ false
    later i (a_rule rule taken inner rest left_is) = rule_not_at_once i.top.left rule taken inner rest left_is
    later i (a_token t rest left_is) =
        let rows = the_token_row view s shape whole (starting left most) nodes next lower code parts i t rest left_is in
        let is_token : row.rule ≡ 65535 = ap (λ r. r.rule) (row_is ∙ (dropped_one shape _ next _ d rows).2) in
        token_not_at_once i.top.left t rest left_is (λ none. several is_token (omega (arith, i.end, none, sym (skip_count i.top.left) ∙ ap row_count_all left_is)))

-- an open rule takes at least one step
pub step_left : {N P K V S C : Type 0} (view : View N P K V S C) (s : List ℕ) (shape : List Row) (whole : Result (Found (List V) S) Refusal) (left : ℕ)
    (nodes : N) (next : ℕ) (codes : List (Frame K)) (code : Frame K) (parts : List P) → EndsWith codes code → Follows view s shape whole (waiting left) nodes next codes parts → (n : ℕ) × (left ≡ n + 1)
step_left view s shape whole left nodes next codes code parts last follows =
    let i = innermost view s shape whole (waiting left) nodes next codes last.0 code parts follows last.1 in
    some_due i.top i.frames left i.is_due

-- ## Nodes

-- a call that is refused, or closes a rule, adds at most two nodes
pub few_two : {N P K V S C : Type 0} (view : View N P K V S C) (old new : N) (frame : Frame K) (parts : List P) → IsLinking view → AddsFew view old new frame parts → view.size new ≤ view.size old + 2
few_two view old new frame parts laws few = omega (arith, few, laws.closing frame.rule (drop frame.base parts), laws.two frame.rule (length (drop frame.base parts)))

pub added_two : {N P K V S C : Type 0} (view : View N P K V S C) (old new : N) (frame : Frame K) (parts : List P) (after : ℕ) → IsLinking view → Adds view old new (owed_behind view frame parts) after
    → view.size new ≤ view.size old + 2
added_two view old new frame parts after laws adds = omega (arith, adds.1, laws.two frame.rule (length parts - frame.base))

none_own : {P V : Type 0} (Is : P → V → Type 0) (own : List P) (known : List V) → AreAll Is own known → known ≡ [] → own ≡ []
none_own Is [] known are none = refl
none_own Is (p ∷ own) [] are none = absurd are
none_own Is (p ∷ own) (v ∷ known) are none = cc

-- if a rule that closes at once is refused before its token, the nodes stay within what its step may add
refused_within : {N P K V S C : Type 0} (view : View N P K V S C) (s : List ℕ) (shape : List Row) (whole : Result (Found (List V) S) Refusal) (left most : ℕ)
    (nodes : N) (next : ℕ) (lower : List (Frame K)) (code : Frame K) (parts : List P) (i : Innermost view s shape whole (starting left most) nodes next lower code parts)
    → closes_at_once i.top.left ≡ true → view.size nodes + view.closes code.rule (drop code.base parts) ≤ most
refused_within view s shape whole left most nodes next lower code parts i at_once =
    rw (i.inside.number, none_own (view.IsPart nodes) (drop code.base parts) i.known i.inside.parts i.light.none_known) (i.light.refused at_once)

-- a rule that begins without a token stays within what its step may add
pub alone_within : {N P K V S C : Type 0} (view : View N P K V S C) (s : List ℕ) (shape : List Row) (whole : Result (Found (List V) S) Refusal) (left most : ℕ)
    (nodes : N) (next : ℕ) (lower : List (Frame K)) (code : Frame K) (parts : List P)
    → Follows view s shape whole (starting left most) nodes next (lower ++ code ∷ []) parts → StaysWithin view nodes code parts most (Ok next)
alone_within view s shape whole left most nodes next lower code parts follows =
    let i = innermost view s shape whole (starting left most) nodes next (lower ++ code ∷ []) lower code parts follows refl in (
      i.light.size,
      λ ends. refused_within view s shape whole left most nodes next lower code parts i
          (none_at_once i.top.left (no_row_left view s shape whole (starting left most) nodes next lower code parts i ends)),
    )

-- a rule with one row, which is a token's, closes at once
one_token : {N P K V S C : Type 0} (view : View N P K V S C) (s : List ℕ) (shape : List Row) (whole : Result (Found (List V) S) Refusal) (due : Due)
    (nodes : N) (next : ℕ) (lower : List (Frame K)) (code : Frame K) (parts : List P) (row : Row) (t : TokenNext view s shape whole due nodes next lower code parts row)
    → code.end ≡ next + 1 → closes_at_once t.i.top.left ≡ true
one_token view s shape whole due nodes next lower code parts row t ends =
    token_at_once t.i.top.left t.t t.rest t.left_is (omega (arith, t.i.end, ends, sym (skip_count t.i.top.left) ∙ ap row_count_all t.left_is))

-- a rule that has only a token stays within what its step may add
pub token_within : {N P K V S C : Type 0} (view : View N P K V S C) (s : List ℕ) (shape : List Row) (whole : Result (Found (List V) S) Refusal) (left most : ℕ)
    (old new : N) (next : ℕ) (lower : List (Frame K)) (code : Frame K) (parts new_parts : List P) (row d : Row) → IsLinking view
    → Follows view s shape whole (starting left most) old next (lower ++ code ∷ []) parts → code.end ≡ next + 1 → row ≡ slice_index_or shape next d → row.rule ≡ 65535
    → TakesToken view s old new code parts new_parts row (Ok tt) → Adds view old new (owed_behind view code parts) (owed_behind view code new_parts)
    → StaysWithin view new code new_parts most (Ok (next + 1))
token_within view s shape whole left most old new next lower code parts new_parts row d laws follows ends row_is is_token takes adds =
    let t = token_next view s shape whole (starting left most) old next (lower ++ code ∷ []) code parts row d laws (lower, refl) follows (omega (arith, ends)) row_is is_token in
    let i = t.i in
    let n = length view.reading.rowless in
    let at_once = one_token view s shape whole (starting left most) old next lower code parts row t ends in
    let (known, state, read, holds, own, parts_are, are) = takes i.top.rule i.known i.top.from i.top.left i.state t.t t.rest i.inside t.left_is t.row_is t.after in
    let count : length known ≡ length i.known + values_in n (passed_by i.top.left) + 1 =
    of_ok (next_of view.reading i.top.rule i.known i.top.from i.top.left i.state >>= taken_in view.reading t.t (skipped_from i.top.from i.top.left)) (found known state)
    (λ f. length f.value ≡ length i.known + values_in n (passed_by i.top.left) + 1) read
    (taken_count view.reading laws.keeps_count i.top.rule i.known i.top.from i.top.left i.state t.t (skipped_from i.top.from i.top.left)) in
    let base : length (take code.base parts) ≡ code.base = length-take-le code.base parts i.base in
    let own_is : drop code.base new_parts ≡ own =
    subst (λ k. drop k new_parts ≡ own) base (ap (λ ps. drop (length (take code.base parts)) ps) parts_are ∙ dropped_front (take code.base parts) own) in
    let held : length own ≡ length known = as_many (view.IsPart new) own known are in
    let none : length i.known ≡ 0 = ap (λ vs. length vs) i.light.none_known in
    let some : no_part_has_row i.top.left ≡ false = some_row i.top.left (λ rows. omega (arith, i.end, ends, rows)) in
    let counted : length own ≡ values_at_once n i.top.left = omega (arith, held, count, none, ap (λ b. if b then 0 else (values_in n (passed_by i.top.left) + 1)) some) in
    let behind : owed_behind view code new_parts ≡ view.owes i.top.rule.rule.number (length own) =
    ap (λ k. view.owes k (length new_parts - code.base)) i.inside.number
    ∙ ap (λ k. view.owes i.top.rule.rule.number k) (sym (length-drop code.base new_parts) ∙ ap (λ ps. length ps) own_is) in
    let before : owed_behind view code parts ≡ view.owes i.top.rule.rule.number 0 = i.owes ∙ ap (λ k. view.owes i.top.rule.rule.number k) none in
    let within : view.size new + view.closes i.top.rule.rule.number own ≤ most = omega (arith, i.light.closed at_once own counted, adds.1, behind, before) in
    let closing : view.size new + view.closes code.rule (drop code.base new_parts) ≤ most = rw (i.inside.number, own_is) within in
    (omega (arith, within), λ there. closing)

pub token_refused_within : {N P K V S C : Type 0} (view : View N P K V S C) (s : List ℕ) (shape : List Row) (whole : Result (Found (List V) S) Refusal) (left most : ℕ)
    (old new : N) (next : ℕ) (lower : List (Frame K)) (code : Frame K) (parts : List P) (row d : Row) → IsLinking view
    → Follows view s shape whole (starting left most) old next (lower ++ code ∷ []) parts → code.end ≡ next + 1 → row ≡ slice_index_or shape next d → row.rule ≡ 65535
    → AddsFew view old new code parts → view.size new ≤ most
token_refused_within view s shape whole left most old new next lower code parts row d laws follows ends row_is is_token few =
    let t = token_next view s shape whole (starting left most) old next (lower ++ code ∷ []) code parts row d laws (lower, refl) follows (omega (arith, ends)) row_is is_token in
    omega (arith, few, refused_within view s shape whole left most old next lower code parts t.i (one_token view s shape whole (starting left most) old next lower code parts row t ends))

-- ## The first row

-- what is required where the root begins
pub record RootAsks {N P K V S C : Type 0} (view : View N P K V S C) (s : List ℕ) (shape : List Row) (nodes : N) (row : Row) : Type 0 where
  pub room : HasRoom view s nodes 0
  pub end : row.end ≤ length shape
  pub more : 0 < length shape

root_at : {N P K V S C : Type 0} (view : View N P K V S C) (s : List ℕ) (shape : List Row) (tree : Tree) (row d : Row) → IsLinking view
    → IsShape view.table s shape tree → row ≡ slice_index_or shape 0 d
    → (r : IsRoot view.table tree) × IsRuleRow shape row r.rule r.taken r.inner 0 × (row.end ≡ 0 + 1 + row_count_all r.inner) × (0 < length shape)
root_at view s shape tree row d laws is row_is =
    let r = root_of view.table tree is.is_tree laws.starts in
    let rows = root_row view.table s shape tree is r in
    (r, rule_row_is shape 0 0 0 r.rule r.taken r.inner [] row d rows row_is, ap (λ x. x.end) (row_is ∙ (dropped_one shape _ 0 _ d rows).2), (dropped_next shape _ 0 _ rows).1)

pub root_asks : {N P K V S C : Type 0} (view : View N P K V S C) (s : List ℕ) (shape : List Row) (nodes : N) (codes : List (Frame K)) (parts : List P) (row d : Row) → IsLinking view
    → CanBegin view s shape nodes 0 codes parts → row ≡ slice_index_or shape 0 d → RootAsks view s shape nodes row
root_asks view s shape nodes codes parts row d laws can row_is =
    let r = root_at view s shape can.tree row d laws can.is_shape row_is in
    record {
      room = room_root view s nodes laws can.fits.symbol can.fresh.no_node can.fresh.paid;
      end = row_ends shape 0 row r.0.rule r.0.taken r.0.inner r.1;
      more = r.3;
    }

-- a symbol takes at least one step
pub root_left : {N P K V S C : Type 0} (view : View N P K V S C) (s : List ℕ) (shape : List Row) (tree : Tree) → IsLinking view → IsShape view.table s shape tree → (n : ℕ) × (link_steps tree ≡ n + 1)
root_left view s shape tree laws is =
    let r = root_of view.table tree is.is_tree laws.starts in
    (if closes_at_once r.inner then 0 else (link_steps_all r.inner + 1), omega (arith, ap link_steps r.tree_is, chosen (closes_at_once r.inner) (link_steps_all r.inner)))

pub root_begun : {N P K V S C : Type 0} (view : View N P K V S C) (s : List ℕ) (shape : List Row) (tree : Tree) (old new : N) (codes : List (Frame K)) (opened : Frame K) (parts : List P) (row d : Row)
    → IsLinking view → IsShape view.table s shape tree → length shape ≤ 4 * length s + 4 → IsFresh view old 0 codes parts → row ≡ slice_index_or shape 0 d
    → OpensRoot view s shape old new row (Ok opened.kept) → Adds view old new 0 0 → (view.IsPaid old 0 → view.IsPaid new 0)
    → opened.rule ≡ row.rule → opened.place ≡ row.from → opened.end ≡ row.end → opened.base ≡ 0 → (left : ℕ) → link_steps tree ≡ left + 1
    → Follows view s shape (meaning_of view tree) (starting left (view.size old + 2)) new 1 (codes ++ opened ∷ []) parts
root_begun view s shape tree old new codes opened parts row d laws is fits fresh row_is opens adds pays number place end base left steps =
    let r = root_at view s shape tree row d laws is row_is in
    rw (fresh.no_frame, fresh.no_part)
    (root_follows view s shape tree old new opened laws is fits r.0 fresh.no_node (number ∙ r.1.rule_is) (place ∙ r.1.from) (end ∙ r.2) base
    (opens r.0.rule r.0.taken r.0.inner r.1 fresh.holds) adds.1 (pays fresh.paid) left steps)

-- ## A move

-- a driver with an open rule has begun, and has at least one step left
pub begun_way : {N P K V S C : Type 0} (view : View N P K V S C) (s : List ℕ) (shape : List Row) (tree : Tree) (taken : ℕ) (nodes : N) (next : ℕ) (codes : List (Frame K)) (code : Frame K) (parts : List P)
    → IsOnWay view s shape tree taken nodes next codes parts → EndsWith codes code
    → (left : ℕ) × (taken + 1 + left ≡ link_steps tree) × Follows view s shape (meaning_of view tree) (waiting (left + 1)) nodes next codes parts
begun_way view s shape tree taken nodes next codes code parts way last =
    elim way [
      | inl fresh ↦ absurd (no_last last.0 code (sym fresh.0.no_frame ∙ last.1))
      | inr on ↦ (
          let some = step_left view s shape (meaning_of view tree) on.0 nodes next codes code parts last on.2 in
          (some.0, omega (arith, on.1, some.1), subst (λ n. Follows view s shape (meaning_of view tree) (waiting n) nodes next codes parts) some.1 on.2))
    ]

pub closing_way : {N P K V S C : Type 0} (view : View N P K V S C) (s : List ℕ) (shape : List Row) (tree : Tree) (taken : ℕ) (nodes : N) (next : ℕ) (codes : List (Frame K)) (code : Frame K) (parts : List P)
    → IsOnWay view s shape tree taken nodes next codes parts → (last : EndsWith codes code)
    → (left : ℕ) × (taken + 1 + left ≡ link_steps tree) × Follows view s shape (meaning_of view tree) (waiting (left + 1)) nodes next (last.0 ++ code ∷ []) parts
closing_way view s shape tree taken nodes next codes code parts way last =
    let some = begun_way view s shape tree taken nodes next codes code parts way last in
    (some.0, some.1, subst (λ fs. Follows view s shape (meaning_of view tree) (waiting (some.0 + 1)) nodes next fs parts) last.1 some.2)

-- a driver that has begun with no open rule is done
pub done_way : {N P K V S C : Type 0} (view : View N P K V S C) (s : List ℕ) (shape : List Row) (tree : Tree) (taken : ℕ) (nodes : N) (next : ℕ) (codes : List (Frame K)) (parts : List P)
    → IsLinking view → IsShape view.table s shape tree → IsOnWay view s shape tree taken nodes next codes parts → codes ≡ [] → 0 < next
    → IsDone view s shape (meaning_of view tree) nodes parts × (taken ≡ link_steps tree)
done_way view s shape tree taken nodes next codes parts laws is way no_frame later =
    elim way [
      | inl fresh ↦ absurd (omega (arith, fresh.0.next_is, later))
      | inr on ↦ (
          let over = done view s shape tree on.0 nodes next codes parts laws (root_of view.table tree is.is_tree laws.starts) on.2 no_frame in
          (over.0, omega (arith, on.1, over.1)))
    ]

-- a driver with no open rule before the first row hasn't begun
pub fresh_way : {N P K V S C : Type 0} (view : View N P K V S C) (s : List ℕ) (shape : List Row) (tree : Tree) (taken : ℕ) (nodes : N) (next : ℕ) (codes : List (Frame K)) (parts : List P)
    → IsLinking view → IsShape view.table s shape tree → IsOnWay view s shape tree taken nodes next codes parts → codes ≡ [] → next ≡ 0
    → IsFresh view nodes 0 codes parts × (taken ≡ 0)
fresh_way {V = V} {S = S} {C = C} view s shape tree taken nodes next codes parts laws is way no_frame first =
    elim way [
      | inl fresh ↦ (subst (λ n. IsFresh view nodes n codes parts) first fresh.0, fresh.1)
      | inr on ↦ absurd (some_row on.0 on.2)
    ]
  where
    no_pending : (frames : List (machine.Frame V S C)) (known : List V) → HoldsAll view s nodes frames known 0 next codes parts → drop next shape ≡ machine.pending frames next → drop next shape ≡ []
    no_pending [] known holds rows = rows
    no_pending (top ∷ frames) known (one, holds) rows = absurd (no_last one.lower one.code (sym no_frame ∙ one.codes_are))

    some_row : (left : ℕ) → Follows view s shape (meaning_of view tree) (waiting left) nodes next codes parts → ⊥
    some_row left f =
        let none : drop 0 shape ≡ [] = subst (λ n. drop n shape ≡ []) first (no_pending f.frames f.known f.holds f.rows) in
        let rows = root_row view.table s shape tree is (root_of view.table tree is.is_tree laws.starts) in
        no_cons _ _ (sym none ∙ rows)
      where
        no_cons : (x : Row) (xs : List Row) → [] ≡ x ∷ xs → ⊥
        no_cons x xs h = cc

-- ## A step

-- a driver that has not refused is on its way
pub driving_on : {N P K V S C : Type 0} (view : View N P K V S C) (s : List ℕ) (shape : List Row) (tree : Tree) (nodes : N) (steps : ℕ) (refused : Option Refusal) (next : ℕ)
    (codes : List (Frame K)) (parts : List P) → ((e : Refusal) → refused ≡ Some e → ⊥) → IsDriving view s shape tree nodes steps refused next codes parts
    → IsOnWay view s shape tree steps nodes next codes parts × (steps + length codes ≤ 2 * next) × (next ≤ length shape) × (next ≤ 2 * steps)
driving_on view s shape tree nodes steps None next codes parts open_still driving = driving
driving_on view s shape tree nodes steps (Some e) next codes parts open_still driving = absurd (open_still e refl)

-- a move that continues
pub step_moved : {N P K V S C : Type 0} (view : View N P K V S C) (s : List ℕ) (shape : List Row) (tree : Tree) (new : N) (steps : ℕ) (refused : Option Refusal)
    (next behind : ℕ) (codes new_codes : List (Frame K)) (new_parts : List P) (result : Result (Option ℕ) Refusal) (moved : Option ℕ) → result ≡ Ok moved → moved ≡ Some behind
    → ((e : Refusal) → refused ≡ Some e → ⊥) → steps + length codes ≤ 2 * next → next ≤ 2 * steps
    → Moves view s shape tree steps new new_codes new_parts result → CountsMove (length shape) next (length codes) (length new_codes) result
    → IsDriving view s shape tree new (steps + 1) refused behind new_codes new_parts
step_moved view s shape tree new steps None next behind codes new_codes new_parts result moved is on open_still few more moves counts =
    let there : result ≡ Ok (Some behind) = is ∙ ap (λ o. Ok o) on in
    let on_way : (rest : ℕ) × (steps + 1 + rest ≡ link_steps tree) × Follows view s shape (meaning_of view tree) (waiting rest) new behind new_codes new_parts = subst (λ r. Moves view s shape tree steps new new_codes new_parts r) there moves in
    let count : (2 * next + length new_codes + 1 ≤ 2 * behind + length codes) × (behind ≤ next + 2) = subst (λ r. CountsMove (length shape) next (length codes) (length new_codes) r) there counts in
    (inr (on_way.0, on_way.1, on_way.2), omega (arith, few, count.0), on_way.2.within, omega (arith, more, count.1))
step_moved view s shape tree new steps (Some e) next behind codes new_codes new_parts result moved is on open_still few more moves counts = absurd (open_still e refl)

-- a move that finds nothing left to do
pub step_done : {N P K V S C : Type 0} (view : View N P K V S C) (s : List ℕ) (shape : List Row) (tree : Tree) (taken : ℕ) (new : N)
    (new_codes : List (Frame K)) (new_parts : List P) (result : Result (Option ℕ) Refusal) (moved : Option ℕ) → result ≡ Ok moved → moved ≡ None
    → Moves view s shape tree taken new new_codes new_parts result → IsDone view s shape (meaning_of view tree) new new_parts × (taken ≡ link_steps tree)
step_done view s shape tree taken new new_codes new_parts result moved is none moves =
    let there : result ≡ Ok None = is ∙ ap (λ o. Ok o) none in
    subst (λ r. Moves view s shape tree taken new new_codes new_parts r) there moves

-- a move that is refused
pub step_refused : {N P K V S C : Type 0} (view : View N P K V S C) (s : List ℕ) (shape : List Row) (tree : Tree) (new : N) (steps : ℕ)
    (next : ℕ) (codes new_codes : List (Frame K)) (new_parts : List P) (result : Result (Option ℕ) Refusal) (e : Refusal) → result ≡ Err e
    → steps + length codes ≤ 2 * next
    → Moves view s shape tree steps new new_codes new_parts result → CountsMove (length shape) next (length codes) (length new_codes) result
    → Fails e (meaning_of view tree) × (steps + 1 ≤ 2 * length shape)
step_refused view s shape tree new steps next codes new_codes new_parts result e is few moves counts =
    let count : 2 * next + 1 ≤ 2 * length shape + length codes = subst (λ r. CountsMove (length shape) next (length codes) (length new_codes) r) is counts in
    (subst (λ r. Moves view s shape tree steps new new_codes new_parts r) is moves, omega (arith, few, count))

-- the first refusal of a step
pub refused_answer : {N P K V S C : Type 0} (view : View N P K V S C) (s : List ℕ) (shape : List Row) (tree : Tree) (new : N) (steps new_steps : ℕ) (refused new_refused : Option Refusal)
    (new_parts : List P) (e : Refusal) → ((e : Refusal) → refused ≡ Some e → ⊥) → new_steps ≡ steps + 1 → new_refused ≡ Some e → Fails e (meaning_of view tree)
    → IsStepTo view s shape tree new steps new_steps refused new_refused new_parts (Err e)
refused_answer view s shape tree new steps new_steps None new_refused new_parts e open_still counted kept fails = (fails, counted, kept)
refused_answer view s shape tree new steps new_steps (Some old) new_refused new_parts e open_still counted kept fails = absurd (open_still old refl)

pub none_kept : (refused : Option Refusal) → ((e : Refusal) → refused ≡ Some e → ⊥) → refused ≡ None
none_kept None open_still = refl
none_kept (Some e) open_still = absurd (open_still e refl)

-- ## Steps one after the other

-- less is left to do after a move
pub step_smaller : {N P K V S C : Type 0} (view : View N P K V S C) (s : List ℕ) (shape : List Row) (tree : Tree) (taken : ℕ) (new : N)
    (next behind : ℕ) (codes new_codes : List (Frame K)) (new_parts : List P) (result : Result (Option ℕ) Refusal) (moved : Option ℕ) → result ≡ Ok moved → moved ≡ Some behind
    → next ≤ length shape
    → Moves view s shape tree taken new new_codes new_parts result → CountsMove (length shape) next (length codes) (length new_codes) result
    → 2 * (length shape - behind) + length new_codes < 2 * (length shape - next) + length codes
step_smaller view s shape tree taken new next behind codes new_codes new_parts result moved is on within moves counts =
    let there : result ≡ Ok (Some behind) = is ∙ ap (λ o. Ok o) on in
    let on_way : (rest : ℕ) × (taken + 1 + rest ≡ link_steps tree) × Follows view s shape (meaning_of view tree) (waiting rest) new behind new_codes new_parts = subst (λ r. Moves view s shape tree taken new new_codes new_parts r) there moves in
    let count : (2 * next + length new_codes + 1 ≤ 2 * behind + length codes) × (behind ≤ next + 2) = subst (λ r. CountsMove (length shape) next (length codes) (length new_codes) r) there counts in
    omega (arith, count.0, within, on_way.2.within)

-- a driver that has refused nothing
pub driving_none : {N P K V S C : Type 0} (view : View N P K V S C) (s : List ℕ) (shape : List Row) (tree : Tree) (nodes : N) (steps : ℕ) (refused : Option Refusal) (next : ℕ)
    (codes : List (Frame K)) (parts : List P) → refused ≡ None → IsDriving view s shape tree nodes steps None next codes parts
    → IsDriving view s shape tree nodes steps refused next codes parts
driving_none view s shape tree nodes steps refused next codes parts none driving =
    subst (λ r. IsDriving view s shape tree nodes steps r next codes parts) (sym none) driving

-- where nothing is left to do, nothing changes
pub driving_same : {N P K V S C : Type 0} (view : View N P K V S C) (s : List ℕ) (shape : List Row) (tree : Tree) (nodes new : N) (steps : ℕ) (next : ℕ)
    (codes new_codes : List (Frame K)) (parts new_parts : List P) → new ≡ nodes → new_codes ≡ codes → new_parts ≡ parts
    → IsDriving view s shape tree nodes steps None next codes parts → IsDriving view s shape tree new steps None next new_codes new_parts
driving_same view s shape tree nodes new steps next codes new_codes parts new_parts same_nodes same_codes same_parts driving =
    rw (same_nodes, same_codes, same_parts) driving

abbrev no_refusal : Option Refusal
no_refusal = None

pub none_open : (e : Refusal) → no_refusal ≡ Some e → ⊥
none_open e h = cc
