-- A language with its nodes counted keeps the same laws, and a symbol means the same in it.
use Rattle.sym_link.proofs.Basics.{◌≡◌, refl, sym, ◌∙◌, ap, subst, arith, add-zero, ℕ, ◌+◌, List, [], ◌∷◌, ◌++◌, length, take, drop, Ok, Err, Result, OnOk, IfOk, Refusal, Row, Rule, Table, Token, Tree, Forest, branch, empty, token, fixed, nothing, grown, spell, Frame, Found, Open, Next, Reading, ◌>>=◌, found, alone, standing, unfold_tree, unfold_forest, Passed, passed, ended, Stands, Fails, View, IsLinking, HasRoom, IsInside, Begun, begun, next_of, taken_in, Begins, Takes, Gives, Puts, OpensRoot, Opens, TakesToken, ClosesRule, IsAt, IsOpenAt, Goes, GoesOn, BeginsAs, BeginsIn, ClosesAll, IsTaken, IsThreading, IsDone, meaning_of}
use Rattle.sym_core.specs.declared.refusal.Refusal.TheVariants as refusals
use Rattle.sym_link.specs.Tally.{Tally, tally, Makes, untallied, tallied, tallied_view, closing_makes, nodes_in, nodes_in_all}
use Rattle.sym_link.proofs.Steps.{bind_assoc, bind_same}
use Rattle.sym_link.proofs.Results.{ok_bind, ok_any, ok_weaker}

-- ## The laws

pub stands_untallied : {S C : Type 0} (g : Table) (s : List ℕ) (n : ℕ) (rule : Open (Tally S) C) (held from : ℕ) (left : Forest)
    → Stands g s n rule held from left → Stands g s n (untallied rule) held from left
stands_untallied g s n rule held from left stands = record {
  kind = stands.kind;
  is_kind = stands.is_kind;
  takes = stands.takes;
  passed = stands.passed;
  trees = stands.trees;
  counted = stands.counted;
  starts = stands.starts;
  behind = stands.behind;
  spelled = stands.spelled;
}

pub tallied_laws : {N P K V S C : Type 0} (view : View N P K V S C) (makes : Makes V S C) → IsLinking view → IsLinking (tallied_view view makes)
tallied_laws view makes laws = record {
  sound = laws.sound;
  starts = laws.starts;
  part_stays = laws.part_stays;
  kept_stays = λ old new kept rule. laws.kept_stays old new kept (untallied rule);
  paid_more = laws.paid_more;
  keeps_count = λ rule known now.
      ok_bind (view.reading.between (untallied rule) known now.state) _ (λ next. length next.values ≡ length known) (λ next. length next.values ≡ length known)
      (laws.keeps_count (untallied rule) known now.state) (λ next same. same);
  few = laws.few;
  two = laws.two;
  closing = laws.closing;
  two_at_once = λ s around held from left rule taken parts rest stands next at_once.
      let two = laws.two_at_once s (untallied around) held from left rule taken parts rest (stands_untallied view.table s (length view.reading.rowless) around held from left stands) next at_once in
      record { closed = two.closed; refused = two.refused };
}

pub tallied_threads : {N P K V S C : Type 0} (view : View N P K V S C) (makes : Makes V S C) → IsThreading view → IsThreading (tallied_view view makes)
tallied_threads view makes threads = record {
  linking = tallied_laws view makes threads.linking;
  grows_same = threads.grows_same;
  grows_then = threads.grows_then;
  one = threads.one;
}

-- ## What exists

pub room_untallied : {N P K V S C : Type 0} (view : View N P K V S C) (makes : Makes V S C) (s : List ℕ) (nodes : N) (more : ℕ)
    → HasRoom (tallied_view view makes) s nodes more → HasRoom view s nodes more
room_untallied view makes s nodes more room = record { fits = room.fits; size = room.size; paid = room.paid }

pub inside_untallied : {N P K V S C : Type 0} (view : View N P K V S C) (makes : Makes V S C) (s : List ℕ) (nodes : N) (frame : Frame K) (own : List P)
    (rule : Open (Tally S) C) (known : List V) (from : ℕ) (left : Forest) (now : Tally S)
    → IsInside (tallied_view view makes) s nodes frame own rule known from left now → IsInside view s nodes frame own (untallied rule) known from left now.state
inside_untallied view makes s nodes frame own rule known from left now is = record {
  number = is.number;
  place = is.place;
  kept = is.kept;
  parts = is.parts;
  holds = is.holds.0;
  stands = stands_untallied view.table s (length view.reading.rowless) rule (length known) from left is.stands;
}

pub at_untallied : {N P K V S C : Type 0} (view : View N P K V S C) (makes : Makes V S C) (s : List ℕ) (nodes : N) (frame : Frame K) (own : List P)
    (rule : Open (Tally S) C) (known : List V) (now : Tally S)
    → IsAt (tallied_view view makes) s nodes frame own rule known now → IsAt view s nodes frame own (untallied rule) known now.state
at_untallied view makes s nodes frame own rule known now is = record {
  there = record { kind = is.there.kind; is_kind = is.there.is_kind; takes = is.there.takes; behind = is.there.behind; spelled = is.there.spelled };
  number = is.number;
  place = is.place;
  kept = is.kept;
  parts = is.parts;
  holds = is.holds.0;
}

pub open_at_untallied : {N P K V S C : Type 0} (view : View N P K V S C) (makes : Makes V S C) (s : List ℕ) (nodes : N) (frame : Frame K) (parts : List P)
    → IsOpenAt (tallied_view view makes) s nodes frame parts → IsOpenAt view s nodes frame parts
open_at_untallied view makes s nodes frame parts is = record {
  rule = untallied is.rule;
  known = is.known;
  state = is.state.state;
  at = at_untallied view makes s nodes frame _ is.rule is.known is.state is.at;
}

-- ## What a symbol means is the same

-- a value and a state without the count
abbrev pub plain : {A S : Type 0} → Found A (Tally S) → Result (Found A S) Refusal
plain one = Ok (found one.value one.state.state)

behind : {A B D E : Type 0} (m : Result A Refusal) (f : A → B) (k : B → Result D Refusal) (g : D → Result E Refusal) (h : A → Result E Refusal)
    → ((x : A) → (k (f x) >>= g) ≡ h x) → (((m >>= λ x. Ok (f x)) >>= k) >>= g) ≡ (m >>= h)
behind (Ok x) f k g h same = same x
behind (Err e) f k g h same = refl

behind_plain : {A S D E : Type 0} (m : Result (Found A (Tally S)) Refusal) (p : Result (Found A S) Refusal) (k : Found A (Tally S) → Result D Refusal)
    (g : D → Result E Refusal) (h : Found A S → Result E Refusal)
    → (m >>= plain) ≡ p → ((one : Found A (Tally S)) → (k one >>= g) ≡ h (found one.value one.state.state)) → ((m >>= k) >>= g) ≡ (p >>= h)
behind_plain (Ok one) p k g h is same = same one ∙ ap (λ r. r >>= h) is
behind_plain (Err e) p k g h is same = ap (λ r. r >>= h) is

mutual
  pub tree_untallied : {V S C : Type 0} (reading : Reading V S C) (makes : Makes V S C) (context : C) (place : ℕ) (tree : Tree) (now : Tally S)
      → (unfold_tree (tallied reading makes) context place tree now >>= plain) ≡ unfold_tree reading context place tree now.state
  tree_untallied reading makes context place (branch rule taken parts) now =
      let open_rule = standing rule taken place context now in
      behind (reading.begin (untallied open_rule) parts) (λ state. tally state now.nodes)
      (λ begun. unfold_forest (tallied reading makes) open_rule [] (place + length taken) parts begun
      >>= λ inner. (tallied reading makes).close open_rule inner.value inner.state >>= alone) plain
      (λ begun. unfold_forest reading (untallied open_rule) [] (place + length taken) parts begun >>= λ inner. reading.close (untallied open_rule) inner.value inner.state >>= alone)
      (λ state. behind_plain (unfold_forest (tallied reading makes) open_rule [] (place + length taken) parts (tally state now.nodes))
      (unfold_forest reading (untallied open_rule) [] (place + length taken) parts state)
      (λ inner. (tallied reading makes).close open_rule inner.value inner.state >>= alone) plain
      (λ inner. reading.close (untallied open_rule) inner.value inner.state >>= alone)
      (forest_untallied reading makes open_rule [] (place + length taken) parts (tally state now.nodes))
      (λ inner. behind (reading.close (untallied open_rule) inner.value inner.state.state)
      (λ one. found one.value (tally one.state (inner.state.nodes + makes.at_end (untallied open_rule) inner.value inner.state.state))) alone plain alone
      (λ one. refl)))
  tree_untallied reading makes context place empty now = refl
  tree_untallied reading makes context place (fixed byte) now = refl
  tree_untallied reading makes context place (token t) now =
      behind (reading.token place t now.state) (λ one. found one.value (tally one.state now.nodes)) alone plain alone (λ one. refl)

  pub forest_untallied : {V S C : Type 0} (reading : Reading V S C) (makes : Makes V S C) (rule : Open (Tally S) C) (known : List V) (place : ℕ) (parts : Forest) (now : Tally S)
      → (unfold_forest (tallied reading makes) rule known place parts now >>= plain) ≡ unfold_forest reading (untallied rule) known place parts now.state
  forest_untallied reading makes rule known place nothing now = refl
  forest_untallied reading makes rule known place (grown first rest) now =
      let counted = now.nodes + makes.before (untallied rule) known now.state in
      behind (reading.between (untallied rule) known now.state)
      (λ next. record { context = next.context; values = next.values; state = tally next.state counted })
      (λ next. unfold_tree (tallied reading makes) next.context place first next.state
      >>= λ part. unfold_forest (tallied reading makes) rule (next.values ++ part.value) (place + length (spell first)) rest part.state) plain
      (λ next. unfold_tree reading next.context place first next.state
      >>= λ part. unfold_forest reading (untallied rule) (next.values ++ part.value) (place + length (spell first)) rest part.state)
      (λ next. behind_plain (unfold_tree (tallied reading makes) next.context place first (tally next.state counted))
      (unfold_tree reading next.context place first next.state)
      (λ part. unfold_forest (tallied reading makes) rule (next.values ++ part.value) (place + length (spell first)) rest part.state) plain
      (λ part. unfold_forest reading (untallied rule) (next.values ++ part.value) (place + length (spell first)) rest part.state)
      (tree_untallied reading makes next.context place first (tally next.state counted))
      (λ part. forest_untallied reading makes rule (next.values ++ part.value) (place + length (spell first)) rest part.state))

pub meaning_untallied : {N P K V S C : Type 0} (view : View N P K V S C) (makes : Makes V S C) (shape : Tree)
    → (meaning_of (tallied_view view makes) shape >>= plain) ≡ meaning_of view shape
meaning_untallied view makes shape = tree_untallied view.reading makes view.around 0 shape (tally view.first 0)

-- a refusal stays the same, whatever follows it
pub fails_behind : {A B : Type 0} (e : Refusal) (m : Result A Refusal) (k : A → Result B Refusal) → Fails e m → Fails e (m >>= k)
fails_behind refusals.Memory m k fails = tt
fails_behind e m k fails = ap (λ r. r >>= k) fails

pub fails_untallied : {N P K V S C : Type 0} (view : View N P K V S C) (makes : Makes V S C) (shape : Tree) (e : Refusal)
    → Fails e (meaning_of (tallied_view view makes) shape) → Fails e (meaning_of view shape)
fails_untallied view makes shape e fails =
    subst (Fails e) (meaning_untallied view makes shape) (fails_behind e (meaning_of (tallied_view view makes) shape) plain fails)

pub done_untallied : {N P K V S C : Type 0} (view : View N P K V S C) (makes : Makes V S C) (s : List ℕ) (rows : List Row) (shape : Tree) (nodes : N) (parts : List P)
    → IsDone (tallied_view view makes) s rows (meaning_of (tallied_view view makes) shape) nodes parts → IsDone view s rows (meaning_of view shape) nodes parts
done_untallied view makes s rows shape nodes parts done = record {
  part = done.part;
  value = done.value;
  state = done.state.state;
  parts_are = done.parts_are;
  means = sym (meaning_untallied view makes shape) ∙ ap (λ r. r >>= plain) done.means;
  is_part = done.is_part;
  holds = done.holds.0;
  size = done.size;
  paid = done.paid;
}

-- ## What is read with a count

-- a value, a next part and a rule that has begun, with a count
abbrev with_nodes : {A S : Type 0} → ℕ → Found A S → Result (Found A (Tally S)) Refusal
with_nodes n one = Ok (found one.value (tally one.state n))

abbrev next_with : {V S C : Type 0} → ℕ → Next V S C → Next V (Tally S) C
next_with n next = record { context = next.context; values = next.values; state = tally next.state n }

abbrev passed_with : {V S : Type 0} → ℕ → Passed V S → Passed V (Tally S)
passed_with n p = record { known = p.known; from = p.from; left = p.left; state = tally p.state n }

abbrev begun_with : {V S C : Type 0} → ℕ → Begun V S C → Begun V (Tally S) C
begun_with n b = record {
  rule = standing b.rule.rule b.rule.taken b.rule.place b.rule.context (tally b.rule.before n);
  values = b.values;
  state = tally b.state n;
}

-- beginning a rule and taking a token make no nodes
module _ {V S C : Type 0} (reading : Reading V S C) (makes : Makes V S C) where
  begun_tallied : (rule : Rule) (taken : List ℕ) (place : ℕ) (parts : Forest) (n : ℕ) (next : Next V S C)
      → begun (tallied reading makes) rule taken place parts (next_with n next) ≡ (begun reading rule taken place parts next >>= λ b. Ok (begun_with n b))
  begun_tallied rule taken place parts n next =
      let around = standing rule taken place next.context next.state in
      bind_assoc (reading.begin around parts) (λ state. Ok (tally state n))
      (λ state. Ok (record { rule = standing rule taken place next.context (tally next.state n); values = next.values; state = state }))
      ∙ sym (bind_assoc (reading.begin around parts) (λ state. Ok (record { rule = around; values = next.values; state = state })) (λ b. Ok (begun_with n b)))

  taken_tallied : (t : Token) (place n : ℕ) (next : Next V S C)
      → taken_in (tallied reading makes) t place (next_with n next) ≡ (taken_in reading t place next >>= with_nodes n)
  taken_tallied t place n next =
      bind_assoc (reading.token place t next.state) (with_nodes n) (λ one. Ok (found (next.values ++ one.value ∷ []) one.state))
      ∙ sym (bind_assoc (reading.token place t next.state) (λ one. Ok (found (next.values ++ one.value ∷ []) one.state)) (with_nodes n))

-- ## Nodes that are made only where rules close

module _ {V S C : Type 0} (reading : Reading V S C) (number : ℕ → ℕ) where
  abbrev counting : Reading V (Tally S) C
  counting = tallied reading (closing_makes number)

  passed_tallied : (rule : Open (Tally S) C) (known : List V) (from : ℕ) (left : Forest) (state : S) (n : ℕ)
      → passed counting rule known from left (tally state n) ≡ (passed reading (untallied rule) known from left state >>= λ p. Ok (passed_with n p))
  passed_tallied rule known from (grown empty rest) state n =
      bind_assoc (reading.between (untallied rule) known state) (λ next. Ok (next_with (n + 0) next)) (λ next. passed counting rule (next.values ++ reading.rowless) from rest next.state)
      ∙ bind_same (reading.between (untallied rule) known state)
      (λ next. passed counting rule (next.values ++ reading.rowless) from rest (tally next.state (n + 0)))
      (λ next. passed reading (untallied rule) (next.values ++ reading.rowless) from rest next.state >>= λ p. Ok (passed_with n p))
      (λ next. rw add-zero (passed_tallied rule (next.values ++ reading.rowless) from rest next.state n))
      ∙ sym (bind_assoc (reading.between (untallied rule) known state) (λ next. passed reading (untallied rule) (next.values ++ reading.rowless) from rest next.state) (λ p. Ok (passed_with n p)))
  passed_tallied rule known from (grown (fixed byte) rest) state n =
      bind_assoc (reading.between (untallied rule) known state) (λ next. Ok (next_with (n + 0) next)) (λ next. passed counting rule (next.values ++ reading.rowless) (from + 1) rest next.state)
      ∙ bind_same (reading.between (untallied rule) known state)
      (λ next. passed counting rule (next.values ++ reading.rowless) (from + 1) rest (tally next.state (n + 0)))
      (λ next. passed reading (untallied rule) (next.values ++ reading.rowless) (from + 1) rest next.state >>= λ p. Ok (passed_with n p))
      (λ next. rw add-zero (passed_tallied rule (next.values ++ reading.rowless) (from + 1) rest next.state n))
      ∙ sym (bind_assoc (reading.between (untallied rule) known state) (λ next. passed reading (untallied rule) (next.values ++ reading.rowless) (from + 1) rest next.state) (λ p. Ok (passed_with n p)))
  passed_tallied rule known from (grown (branch r taken parts) rest) state n = refl
  passed_tallied rule known from (grown (token t) rest) state n = refl
  passed_tallied rule known from nothing state n = refl

  next_tallied : (rule : Open (Tally S) C) (known : List V) (from : ℕ) (left : Forest) (state : S) (n : ℕ)
      → next_of counting rule known from left (tally state n) ≡ (next_of reading (untallied rule) known from left state >>= λ next. Ok (next_with n next))
  next_tallied rule known from left state n =
      ap (λ r. r >>= λ p. counting.between rule p.known p.state) (passed_tallied rule known from left state n)
      ∙ bind_assoc (passed reading (untallied rule) known from left state) (λ p. Ok (passed_with n p)) (λ p. counting.between rule p.known p.state)
      ∙ bind_same (passed reading (untallied rule) known from left state)
      (λ p. reading.between (untallied rule) p.known p.state >>= λ next. Ok (next_with (n + 0) next))
      (λ p. reading.between (untallied rule) p.known p.state >>= λ next. Ok (next_with n next))
      (λ p. rw add-zero refl)
      ∙ sym (bind_assoc (passed reading (untallied rule) known from left state) (λ p. reading.between (untallied rule) p.known p.state) (λ next. Ok (next_with n next)))

  ended_tallied : (rule : Open (Tally S) C) (known : List V) (from : ℕ) (left : Forest) (state : S) (n : ℕ)
      → ended counting rule known from left (tally state n) ≡ (ended reading (untallied rule) known from left state >>= with_nodes (n + number rule.rule.number))
  ended_tallied rule known from left state n =
      ap (λ r. r >>= λ p. counting.close rule p.known p.state) (passed_tallied rule known from left state n)
      ∙ bind_assoc (passed reading (untallied rule) known from left state) (λ p. Ok (passed_with n p)) (λ p. counting.close rule p.known p.state)
      ∙ sym (bind_assoc (passed reading (untallied rule) known from left state) (λ p. reading.close (untallied rule) p.known p.state) (with_nodes (n + number rule.rule.number)))

  next_begun : (around : Open (Tally S) C) (known : List V) (from : ℕ) (left : Forest) (state : S) (n : ℕ) (rule : Rule) (taken : List ℕ) (place : ℕ) (parts : Forest)
      → (next_of counting around known from left (tally state n) >>= begun counting rule taken place parts)
      ≡ ((next_of reading (untallied around) known from left state >>= begun reading rule taken place parts) >>= λ b. Ok (begun_with n b))
  next_begun around known from left state n rule taken place parts =
      let next = next_of reading (untallied around) known from left state in
      ap (λ r. r >>= begun counting rule taken place parts) (next_tallied around known from left state n)
      ∙ bind_assoc next (λ x. Ok (next_with n x)) (begun counting rule taken place parts)
      ∙ bind_same next (λ x. begun counting rule taken place parts (next_with n x)) (λ x. begun reading rule taken place parts x >>= λ b. Ok (begun_with n b))
      (begun_tallied reading (closing_makes number) rule taken place parts n)
      ∙ sym (bind_assoc next (begun reading rule taken place parts) (λ b. Ok (begun_with n b)))

  next_taken : (around : Open (Tally S) C) (known : List V) (from : ℕ) (left : Forest) (state : S) (n : ℕ) (t : Token) (place : ℕ)
      → (next_of counting around known from left (tally state n) >>= taken_in counting t place)
      ≡ ((next_of reading (untallied around) known from left state >>= taken_in reading t place) >>= with_nodes n)
  next_taken around known from left state n t place =
      let next = next_of reading (untallied around) known from left state in
      ap (λ r. r >>= taken_in counting t place) (next_tallied around known from left state n)
      ∙ bind_assoc next (λ x. Ok (next_with n x)) (taken_in counting t place)
      ∙ bind_same next (λ x. taken_in counting t place (next_with n x)) (λ x. taken_in reading t place x >>= with_nodes n) (taken_tallied reading (closing_makes number) t place n)
      ∙ sym (bind_assoc next (taken_in reading t place) (with_nodes n))

  -- as many nodes are counted as the rules make
  mutual
    pub tree_counts : (context : C) (place : ℕ) (tree : Tree) (now : Tally S)
        → IfOk (unfold_tree counting context place tree now) (λ whole. whole.state.nodes ≡ now.nodes + nodes_in number tree)
    tree_counts context place (branch rule taken parts) now =
        let open_rule = standing rule taken place context now in
        ok_bind (counting.begin open_rule parts) _ (λ begun. begun.nodes ≡ now.nodes) _
        (ok_any (reading.begin (untallied open_rule) parts) _ (λ begun. begun.nodes ≡ now.nodes) (λ state. refl))
        (λ begun same. ok_bind (unfold_forest counting open_rule [] (place + length taken) parts begun) _ (λ inner. inner.state.nodes ≡ begun.nodes + nodes_in_all number parts) _
        (forest_counts open_rule [] (place + length taken) parts begun)
        (λ inner more. ok_bind (counting.close open_rule inner.value inner.state) alone (λ one. one.state.nodes ≡ inner.state.nodes + number rule.number) _
        (ok_any (reading.close (untallied open_rule) inner.value inner.state.state) _ (λ one. one.state.nodes ≡ inner.state.nodes + number rule.number) (λ one. refl))
        (λ one end. omega (arith, same, more, end))))
    tree_counts context place empty now = omega arith
    tree_counts context place (fixed byte) now = omega arith
    tree_counts context place (token t) now =
        ok_bind (counting.token place t now) alone (λ one. one.state.nodes ≡ now.nodes) _
        (ok_any (reading.token place t now.state) _ (λ one. one.state.nodes ≡ now.nodes) (λ one. refl)) (λ one same. omega (arith, same))

    pub forest_counts : (rule : Open (Tally S) C) (known : List V) (place : ℕ) (parts : Forest) (now : Tally S)
        → IfOk (unfold_forest counting rule known place parts now) (λ whole. whole.state.nodes ≡ now.nodes + nodes_in_all number parts)
    forest_counts rule known place nothing now = omega arith
    forest_counts rule known place (grown first rest) now =
        let whole_counts : Found (List V) (Tally S) → Type 0 = λ whole. whole.state.nodes ≡ now.nodes + (nodes_in number first + nodes_in_all number rest) in
        ok_bind (counting.between rule known now) _ (λ next. next.state.nodes ≡ now.nodes) whole_counts
        (ok_any (reading.between (untallied rule) known now.state) _ (λ next. next.state.nodes ≡ now.nodes) (λ next. omega arith))
        (λ next same. ok_bind (unfold_tree counting next.context place first next.state) _ (λ part. part.state.nodes ≡ next.state.nodes + nodes_in number first) whole_counts
        (tree_counts next.context place first next.state)
        (λ part more. ok_weaker (unfold_forest counting rule (next.values ++ part.value) (place + length (spell first)) rest part.state)
        (λ whole. whole.state.nodes ≡ part.state.nodes + nodes_in_all number rest) whole_counts (λ whole end. omega (arith, same, more, end))
        (forest_counts rule (next.values ++ part.value) (place + length (spell first)) rest part.state)))

-- ## The moments of a language

module _ {N P K V S C : Type 0} (view : View N P K V S C) (makes : Makes V S C) where
  abbrev counted : View N P K V (Tally S) C
  counted = tallied_view view makes

  begins_tallied : (nodes : N) (lower parts : List P) (result : Result K Refusal) (read : Result (Begun V S C) Refusal) (n : ℕ) → OnOk result (view.size nodes ≡ n)
      → Begins view nodes lower parts result read → Begins counted nodes lower parts result (read >>= λ b. Ok (begun_with n b))
  begins_tallied nodes lower parts (Ok kept) read n size (b, is, is_kept, holds, own, parts_are, are) =
      (begun_with n b, ap (λ r. r >>= λ b. Ok (begun_with n b)) is, is_kept, (holds, size), own, parts_are, are)
  begins_tallied nodes lower parts (Err e) read n size fails = fails_behind e read (λ b. Ok (begun_with n b)) fails

  takes_tallied : (nodes : N) (lower parts : List P) (result : Result (Unit {0}) Refusal) (read : Result (Found (List V) S) Refusal) (n : ℕ) → OnOk result (view.size nodes ≡ n)
      → Takes view nodes lower parts result read → Takes counted nodes lower parts result (read >>= with_nodes n)
  takes_tallied nodes lower parts (Ok done) read n size (known, state, is, holds, own, parts_are, are) =
      (known, tally state n, ap (λ r. r >>= with_nodes n) is, (holds, size), own, parts_are, are)
  takes_tallied nodes lower parts (Err e) read n size fails = fails_behind e read (with_nodes n) fails

  puts_tallied : (nodes : N) (lower parts : List P) (result : Result (Unit {0}) Refusal) (read : Result (Found V S) Refusal) (n : ℕ) → OnOk result (view.size nodes ≡ n)
      → Puts view nodes lower parts result read → Puts counted nodes lower parts result (read >>= with_nodes n)
  puts_tallied nodes lower parts (Ok done) read n size (part, parts_are, (value, state, is, is_part, holds)) =
      (part, parts_are, (value, tally state n, ap (λ r. r >>= with_nodes n) is, is_part, (holds, size)))
  puts_tallied nodes lower parts (Err e) read n size fails = fails_behind e read (with_nodes n) fails

  -- a size in terms of what was counted before
  size_on : {A : Type 0} (old new : N) (result : Result A Refusal) (n more : ℕ) → view.size old ≡ n → OnOk result (view.size new ≡ view.size old + more) → OnOk result (view.size new ≡ n + more)
  size_on old new (Ok done) n more was is = omega (arith, was, is)
  size_on old new (Err e) n more was is = tt

  size_same : {A : Type 0} (old new : N) (result : Result A Refusal) (n : ℕ) → view.size old ≡ n → OnOk result (view.size new ≡ view.size old) → OnOk result (view.size new ≡ n)
  size_same old new (Ok done) n was is = omega (arith, was, is)
  size_same old new (Err e) n was is = tt

  pub root_tallied : (s : List ℕ) (rows : List Row) (old new : N) (row : Row) (result : Result K Refusal) → OnOk result (view.size new ≡ view.size old)
      → OpensRoot view s rows old new row result → OpensRoot counted s rows old new row result
  root_tallied s rows old new row result size opens rule taken parts is_row holds =
      subst (Begins counted new [] [] result) (sym (begun_tallied view.reading makes rule taken 0 parts 0 (record { context = view.around; values = []; state = view.first })))
      (begins_tallied new [] [] result _ 0 (size_same old new result 0 holds.1 size) (opens rule taken parts is_row holds.0))

  -- something is done before a part
  goes_tallied : (IsContext : N → K → C → Type 0) (nodes : N) (lower parts : List P) (result : Result K Refusal) (read : Result (Next V S C) Refusal) (n : ℕ) → OnOk result (view.size nodes ≡ n)
      → Goes view IsContext nodes lower parts result read → Goes counted IsContext nodes lower parts result (read >>= λ next. Ok (next_with n next))
  goes_tallied IsContext nodes lower parts (Ok context) read n size (next, is, is_context, holds, own, parts_are, are) =
      (next_with n next, ap (λ r. r >>= λ next. Ok (next_with n next)) is, is_context, (holds, size), own, parts_are, are)
  goes_tallied IsContext nodes lower parts (Err e) read n size fails = fails_behind e read (λ next. Ok (next_with n next)) fails

  pub between_tallied : (s : List ℕ) (IsContext : N → K → C → Type 0) (old new : N) (frame : Frame K) (parts new_parts : List P) (result : Result K Refusal)
      → ((rule : Open S C) (known : List V) (state : S) → IsAt view s old frame (drop frame.base parts) rule known state → OnOk result (view.size new ≡ view.size old + makes.before rule known state))
      → GoesOn view s IsContext old new frame parts new_parts result → GoesOn counted s IsContext old new frame parts new_parts result
  between_tallied s IsContext old new frame parts new_parts result size goes rule known now is =
      let at = at_untallied view makes s old frame (drop frame.base parts) rule known now is in
      goes_tallied IsContext new (take frame.base parts) new_parts result (view.reading.between (untallied rule) known now.state) (now.nodes + makes.before (untallied rule) known now.state)
      (size_on old new result now.nodes _ is.holds.1 (size (untallied rule) known now.state at)) (goes (untallied rule) known now.state at)

  -- a rule begins
  begins_as_tallied : (nodes : N) (rule : Open (Tally S) C) (result : Result K Refusal) (read : Result S Refusal) (n : ℕ) → OnOk result (view.size nodes ≡ n)
      → BeginsAs view nodes (untallied rule) result read → BeginsAs counted nodes rule result (read >>= λ state. Ok (tally state n))
  begins_as_tallied nodes rule (Ok kept) read n size (state, is, is_kept, holds) = (tally state n, ap (λ r. r >>= λ state. Ok (tally state n)) is, is_kept, (holds, size))
  begins_as_tallied nodes rule (Err e) read n size fails = fails_behind e read (λ state. Ok (tally state n)) fails

  pub begin_tallied : (s : List ℕ) (Surrounds : N → K → C → Type 0) (rows : List Row) (old new : N) (context : K) (row : Row) (result : Result K Refusal) → OnOk result (view.size new ≡ view.size old)
      → BeginsIn view s Surrounds rows old new context row result → BeginsIn counted s Surrounds rows old new context row result
  begin_tallied s Surrounds rows old new context row result size begins around now rule taken inner place is_row kind is_kind is_tree behind there surrounds holds =
      begins_as_tallied new (standing rule taken place around now) result (view.reading.begin (standing rule taken place around now.state) inner) now.nodes
      (size_same old new result now.nodes holds.1 size) (begins around now.state rule taken inner place is_row kind is_kind is_tree behind there surrounds holds.0)

  -- a rule closes over all its parts
  pub finish_tallied : (s : List ℕ) (old new : N) (frame : Frame K) (parts new_parts : List P) (result : Result (Unit {0}) Refusal)
      → ((rule : Open S C) (known : List V) (state : S) → IsAt view s old frame (drop frame.base parts) rule known state → OnOk result (view.size new ≡ view.size old + makes.at_end rule known state))
      → ClosesAll view s old new frame parts new_parts result → ClosesAll counted s old new frame parts new_parts result
  finish_tallied s old new frame parts new_parts result size closes rule known now is =
      let at = at_untallied view makes s old frame (drop frame.base parts) rule known now is in
      puts_tallied new (take frame.base parts) new_parts result (view.reading.close (untallied rule) known now.state) (now.nodes + makes.at_end (untallied rule) known now.state)
      (size_on old new result now.nodes _ is.holds.1 (size (untallied rule) known now.state at)) (closes (untallied rule) known now.state at)

  -- a token is taken
  gives_tallied : (nodes : N) (result : Result P Refusal) (read : Result (Found V S) Refusal) (n : ℕ) → OnOk result (view.size nodes ≡ n) → Gives view nodes result read → Gives counted nodes result (read >>= with_nodes n)
  gives_tallied nodes (Ok part) read n size (value, state, is, is_part, holds) = (value, tally state n, ap (λ r. r >>= with_nodes n) is, is_part, (holds, size))
  gives_tallied nodes (Err e) read n size fails = fails_behind e read (with_nodes n) fails

  pub text_tallied : (s : List ℕ) (old new : N) (row : Row) (result : Result P Refusal) → OnOk result (view.size new ≡ view.size old)
      → IsTaken view s old new row result → IsTaken counted s old new row result
  text_tallied s old new row result size taken now t place is_row holds =
      gives_tallied new result (view.reading.token place t now.state) now.nodes (size_same old new result now.nodes holds.1 size) (taken now.state t place is_row holds.0)

  -- a symbol that is linked has as many nodes as were counted
  pub done_nodes : (s : List ℕ) (rows : List Row) (shape : Tree) (nodes : N) (parts : List P) (count : Result (Found (List V) (Tally S)) Refusal → ℕ)
      → ((read : Found (List V) (Tally S)) → count (Ok read) ≡ read.state.nodes)
      → IsDone counted s rows (meaning_of counted shape) nodes parts → view.size nodes ≡ count (meaning_of counted shape)
  done_nodes s rows shape nodes parts count counts done = rw done.means (done.holds.1 ∙ sym (counts (found (done.value ∷ []) done.state)))

-- ## The moments of a language that makes nodes only where rules close

module _ {N P K V S C : Type 0} (view : View N P K V S C) (number : ℕ → ℕ) where
  abbrev closing_view : View N P K V (Tally S) C
  closing_view = tallied_view view (closing_makes number)

  pub opens_tallied : (s : List ℕ) (rows : List Row) (old new : N) (frame : Frame K) (parts new_parts : List P) (row : Row) (result : Result K Refusal) → OnOk result (view.size new ≡ view.size old)
      → Opens view s rows old new frame parts new_parts row result → Opens closing_view s rows old new frame parts new_parts row result
  opens_tallied s rows old new frame parts new_parts row result size opens around known from left now rule taken inner rest inside left_is row_is after =
      subst (Begins closing_view new _ new_parts result) (sym (next_begun view.reading number around known from left now.state now.nodes rule taken _ inner))
      (begins_tallied view (closing_makes number) new _ new_parts result _ now.nodes (size_same view (closing_makes number) old new result now.nodes inside.holds.1 size)
      (opens (untallied around) known from left now.state rule taken inner rest (inside_untallied view (closing_makes number) s old frame _ around known from left now inside) left_is row_is after))

  pub token_tallied : (s : List ℕ) (old new : N) (frame : Frame K) (parts new_parts : List P) (row : Row) (result : Result (Unit {0}) Refusal) → OnOk result (view.size new ≡ view.size old)
      → TakesToken view s old new frame parts new_parts row result → TakesToken closing_view s old new frame parts new_parts row result
  token_tallied s old new frame parts new_parts row result size takes around known from left now t rest inside left_is row_is after =
      subst (Takes closing_view new _ new_parts result) (sym (next_taken view.reading number around known from left now.state now.nodes t _))
      (takes_tallied view (closing_makes number) new _ new_parts result _ now.nodes (size_same view (closing_makes number) old new result now.nodes inside.holds.1 size)
      (takes (untallied around) known from left now.state t rest (inside_untallied view (closing_makes number) s old frame _ around known from left now inside) left_is row_is after))

  pub close_tallied : (s : List ℕ) (old new : N) (frame : Frame K) (parts new_parts : List P) (result : Result (Unit {0}) Refusal)
      → OnOk result (view.size new ≡ view.size old + number frame.rule)
      → ClosesRule view s old new frame parts new_parts result → ClosesRule closing_view s old new frame parts new_parts result
  close_tallied s old new frame parts new_parts result size closes rule known from left now inside none =
      subst (Puts closing_view new _ new_parts result) (sym (ended_tallied view.reading number rule known from left now.state now.nodes))
      (puts_tallied view (closing_makes number) new _ new_parts result _ _ (subst (λ k. OnOk result (view.size new ≡ now.nodes + number k)) inside.number (size_on view (closing_makes number) old new result now.nodes (number frame.rule) inside.holds.1 size))
      (closes (untallied rule) known from left now.state (inside_untallied view (closing_makes number) s old frame _ rule known from left now inside) none))

  -- a symbol that is linked has as many nodes as the rules of its tree make
  pub done_counts : (s : List ℕ) (rows : List Row) (shape : Tree) (nodes : N) (parts : List P) → IsDone closing_view s rows (meaning_of closing_view shape) nodes parts
      → view.size nodes ≡ nodes_in number shape
  done_counts s rows shape nodes parts done =
      let is : done.state.nodes ≡ 0 + nodes_in number shape = subst (λ r. IfOk r (λ whole. whole.state.nodes ≡ 0 + nodes_in number shape)) done.means
      (tree_counts view.reading number view.around 0 shape (tally view.first 0)) in
      omega (arith, is, done.holds.1)
