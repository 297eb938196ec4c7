-- A driver at the beginning of a symbol, and at its end.
use Rattle.sym_link.proofs.Basics.{◌≡◌, refl, sym, ◌∙◌, ap, subst, arith, ℕ, ◌+◌, ◌*◌, ◌≤◌, List, [], ◌∷◌, ◌++◌, length, drop, Ok, Err, false, append-nil, length-append, Result, Option, Some, None, IfOk, false≢true, Refusal, Row, Rule, Kind, Table, symbols_of, Tree, Forest, branch, empty, token, fixed, nothing, spell, spell_all, TakesRule, IsTree, AreTrees, row_count_all, rows_of, rows_of_all, Frame, Found, Reading, ◌>>=◌, found, alone, standing, unfold_tree, unfold_forest, Stands, AreAll, View, IsLinking, HasRoom, owed_behind, Begun, begun, Begins, cost, owed, link_steps, Due, waiting, starting, IsDue, IsShape, meaning_of, HoldsAll, left_from, Follows, IsDone, IsDriving, length-rows_of}
use Rattle.sym_core.specs.Number.{FitsSymbol}
use Rattle.sym_link.specs.Machine as machine
use Rattle.sym_link.proofs.Lists.{no_last}
use Rattle.sym_link.proofs.Results.{ok_any}
use Rattle.sym_link.proofs.Opening.{root_outcome}
use Rattle.sym_link.proofs.Standing.{stands_end}
use Rattle.sym_link.proofs.Stepping.{root_due}
use Rattle.sym_link.proofs.Following.{Innermost}
use Rattle.sym_link.proofs.Taking.{dropped_next, of_ok}

-- ## The root

-- A symbol's tree is a rule.
pub record IsRoot (g : Table) (tree : Tree) : Type 0 where
  pub rule : Rule
  pub taken : List ℕ
  pub inner : Forest
  pub tree_is : tree ≡ branch rule taken inner
  pub takes : TakesRule g 0 rule taken
  pub trees : AreTrees g (symbols_of rule) inner

pub root_of : (g : Table) (tree : Tree) → IsTree g (Kind 0) tree → g.may_be_empty 0 ≡ false → IsRoot g tree
root_of g (branch rule taken inner) is full = record { rule = rule; taken = taken; inner = inner; tree_is = refl; takes = is.0; trees = is.1 }
root_of g empty is full = absurd (false≢true (sym full ∙ is))
root_of g (token t) is full = absurd is
root_of g (fixed byte) is full = absurd is

-- the first row
pub root_row : (g : Table) (s : List ℕ) (shape : List Row) (tree : Tree) → IsShape g s shape tree → (r : IsRoot g tree)
    → drop 0 shape ≡ record { rule = r.rule.number; after = 0; from = 0; to = 0 + length (r.taken ++ spell_all r.inner); end = 0 + 1 + row_count_all r.inner }
    ∷ (rows_of_all r.inner (0 + length r.taken) (0 + 1) ++ [])
root_row g s shape tree is r =
    is.rows_are ∙ ap (λ t. rows_of t 0 0 0) r.tree_is
    ∙ ap (λ rs. record { rule = r.rule.number; after = 0; from = 0; to = 0 + length (r.taken ++ spell_all r.inner); end = 0 + 1 + row_count_all r.inner } ∷ rs)
    (sym (append-nil (rows_of_all r.inner (0 + length r.taken) (0 + 1))))

-- the rule that begins, with nothing known around it
abbrev BeginsRoot : {V S C : Type 0} → Rule → (taken : List ℕ) → Begun V S C → Type 0
BeginsRoot {S = S} {C = C} rule taken b = (b.values ≡ []) × ((context : C) × (before : S) × (b.rule ≡ standing rule taken 0 context before))

root_count : {V S C : Type 0} (reading : Reading V S C) (context : C) (state : S) (rule : Rule) (taken : List ℕ) (inner : Forest)
    → IfOk (begun reading rule taken 0 inner (record { context = context; values = []; state = state })) (BeginsRoot rule taken)
root_count reading context state rule taken inner =
    ok_any (reading.begin (standing rule taken 0 context state) inner)
    (λ st. Ok (record { rule = standing rule taken 0 context state; values = []; state = st })) (BeginsRoot rule taken) (λ st. (refl, (context, state, refl)))

-- A driver in which the root begins is on its way.
pub root_follows : {N P K V S C : Type 0} (view : View N P K V S C) (s : List ℕ) (shape : List Row) (tree : Tree)
    (old new : N) (opened : Frame K) → IsLinking view → IsShape view.table s shape tree → length shape ≤ 4 * length s + 4 → (r : IsRoot view.table tree) → view.size old ≡ 0
    → opened.rule ≡ r.rule.number → opened.place ≡ 0 → opened.end ≡ 0 + 1 + row_count_all r.inner → opened.base ≡ 0
    → Begins view new [] [] (Ok opened.kept) (begun view.reading r.rule r.taken 0 r.inner (record { context = view.around; values = []; state = view.first }))
    → view.size new + 0 ≤ view.size old + 0 → view.IsPaid new 0 → (left : ℕ) → link_steps tree ≡ left + 1
    → Follows view s shape (meaning_of view tree) (starting left (view.size old + 2)) new (0 + 1) (opened ∷ []) []
root_follows view s shape tree old new opened laws is fits r no_node number place end base (b, read, is_kept, holds, own, parts_are, are) added paid left steps =
    let n = length view.reading.rowless in
    let count = of_ok (begun view.reading r.rule r.taken 0 r.inner (record { context = view.around; values = []; state = view.first })) b (BeginsRoot r.rule r.taken) read
    (root_count view.reading view.around view.first r.rule r.taken r.inner) in
    let row = dropped_next shape _ 0 _ (root_row view.table s shape tree is r) in
    let bytes : r.taken ++ spell_all r.inner ≡ s = sym (ap spell r.tree_is) ∙ is.spelled in
    record {
      frames = machine.frame b.rule (0 + length r.taken) r.inner b.values ∷ [];
      known = [];
      state = b.state;
      coming = rw read at (root_outcome view.reading view.around view.first r.rule r.taken r.inner)
          ∙ ap (λ t. unfold_tree view.reading view.around 0 t view.first) (sym r.tree_is);
      rows = row.0;
      within = omega (arith, row.1);
      holds = (
        record {
          lower = [];
          code = opened;
          below = [];
          own = [];
          codes_are = refl;
          parts_are = refl;
          number = number ∙ ap (λ o. o.rule.number) (sym count.1.2);
          place = place ∙ ap (λ o. o.place) (sym count.1.2);
          kept = is_kept;
          end = end;
          base = base;
          are = tt;
          stands = subst (λ o. Stands view.table s n o 0 (0 + length r.taken) r.inner) (sym count.1.2)
              (record {
                kind = 0;
                is_kind = laws.sound.start;
                takes = r.takes;
                passed = nothing;
                trees = r.trees;
                counted = refl;
                starts = omega arith;
                behind = [];
                spelled = sym bytes ∙ ap (λ x. r.taken ++ x) (sym (append-nil (spell_all r.inner)));
              });
        },
        (refl, subst (λ vs. AreAll (view.IsPart new) [] vs) (sym count.0) tt),
      );
      keeps = holds;
      nests = (omega (arith, ap (λ x. length x) bytes, length-append r.taken (spell_all r.inner)), tt);
      size = omega (
        arith,
        no_node,
        added,
        subst (λ x. cost view.owes tree ≤ view.most (length x)) is.spelled (laws.few tree is.is_tree (rw is.spelled (omega (arith, fits, ap (λ x. length x) is.rows_are, length-rows_of tree 0 0 0)))),
        ap (λ t. cost view.owes t) r.tree_is,
        ap (λ o. view.owes o.rule.number 0) count.1.2,
      );
      is_due = root_due left r.rule r.taken r.inner (sym (ap link_steps r.tree_is) ∙ steps);
      light = record {
        none_known = refl;
        size = omega (arith, added);
        closed = λ at_once own counted. omega (arith, added, laws.closing b.rule.rule.number own, laws.two b.rule.rule.number 0);
        refused = λ at_once. omega (arith, added, laws.closing b.rule.rule.number [], laws.two b.rule.rule.number 0);
      };
      reached = 0;
      before = omega arith;
      early = λ none. omega arith;
      paid = paid;
    }

-- ## Rooms

-- the language has room to take the next row, or to close the innermost rule
pub room_inside : {N P K V S C : Type 0} (view : View N P K V S C) (s : List ℕ) (shape : List Row) (whole : Result (Found (List V) S) Refusal) (due : Due)
    (nodes : N) (next : ℕ) (lower : List (Frame K)) (code : Frame K) (parts : List P) → IsLinking view → FitsSymbol s
    → Innermost view s shape whole due nodes next lower code parts → HasRoom view s nodes (owed_behind view code parts)
room_inside view s shape whole due nodes next lower code parts laws fits i = record {
  fits = fits;
  size = omega (arith, i.size, i.owes);
  paid = laws.paid_more nodes i.reached (length s)
      (omega (arith, i.before, stands_end view.table s (length view.reading.rowless) i.top.rule (length i.known) i.top.from i.top.left laws.sound i.inside.stands)) i.paid;
}

-- the language has room to begin
pub room_root : {N P K V S C : Type 0} (view : View N P K V S C) (s : List ℕ) (nodes : N) → IsLinking view → FitsSymbol s
    → view.size nodes ≡ 0 → view.IsPaid nodes 0 → HasRoom view s nodes 0
room_root view s nodes laws fits none paid = record {
  fits = fits;
  size = omega (arith, none);
  paid = laws.paid_more nodes 0 (length s) (omega arith) paid;
}

-- ## The end

abbrev values_of : {V S : Type 0} → Result (Found (List V) S) Refusal → List V
values_of (Ok f) = f.value
values_of (Err e) = []

one_of : {A B V S : Type 0} (b : Result A Refusal) (u : A → Result B Refusal) (c : B → Result (Found V S) Refusal) (known : List V) (state : S)
    → (b >>= λ x. u x >>= λ y. c y >>= alone) ≡ Ok (found known state) → (v : V) × (known ≡ v ∷ [])
one_of (Err e) u c known state h = cc
one_of (Ok x) u c known state h = second (u x) c known state h
  where
    third : {V S : Type 0} (r : Result (Found V S) Refusal) (known : List V) (state : S) → (r >>= alone) ≡ Ok (found known state) → (v : V) × (known ≡ v ∷ [])
    third (Err e) known state h = cc
    third (Ok f) known state h = (f.value, sym (ap values_of h))

    second : {B V S : Type 0} (m : Result B Refusal) (c : B → Result (Found V S) Refusal) (known : List V) (state : S)
        → (m >>= λ y. c y >>= alone) ≡ Ok (found known state) → (v : V) × (known ≡ v ∷ [])
    second (Err e) c known state h = cc
    second (Ok y) c known state h = third (c y) known state h

-- a rule means one value
pub one_value : {V S C : Type 0} (reading : Reading V S C) (context : C) (first : S) (rule : Rule) (taken : List ℕ) (inner : Forest) (known : List V) (state : S)
    → unfold_tree reading context 0 (branch rule taken inner) first ≡ Ok (found known state) → (v : V) × (known ≡ v ∷ [])
one_value reading context first rule taken inner known state h =
    one_of (reading.begin (standing rule taken 0 context first) inner)
    (λ begun. unfold_forest reading (standing rule taken 0 context first) [] (0 + length taken) inner begun)
    (λ inner. reading.close (standing rule taken 0 context first) inner.value inner.state) known state h

-- if parts denote a list of one value, they are one part
one_part : {P V : Type 0} (Is : P → V → Type 0) (parts : List P) (v : V) → AreAll Is parts (v ∷ []) → (p : P) × (parts ≡ p ∷ []) × Is p v
one_part Is (p ∷ []) v are = (p, refl, are.0)
one_part Is [] v are = absurd are
one_part Is (p ∷ q ∷ ps) v are = absurd are.1

done_on : {N P K V S C : Type 0} (view : View N P K V S C) (s : List ℕ) (shape : List Row) (tree : Tree) (nodes : N) (next : ℕ) (codes : List (Frame K)) (parts : List P)
    → IsLinking view → IsRoot view.table tree → (frames : List (machine.Frame V S C)) (known : List V) (state : S) (reached : ℕ)
    → machine.outcome_of view.reading frames known state ≡ meaning_of view tree → next ≤ length shape
    → HoldsAll view s nodes frames known 0 next codes parts → view.Holds nodes state
    → view.size nodes + owed view.owes frames (length known) ≤ view.most (length s) → reached ≤ left_from (length s) frames → view.IsPaid nodes reached → (steps : ℕ) → IsDue (waiting steps) frames
    → codes ≡ [] → IsDone view s shape (meaning_of view tree) nodes parts × (steps ≡ 0)
done_on view s shape tree nodes next codes parts laws r [] known state reached coming within (none, are) keeps size before paid steps due no_frame =
    let one = one_value view.reading view.around view.first r.rule r.taken r.inner known state
    (ap (λ t. unfold_tree view.reading view.around 0 t view.first) (sym r.tree_is) ∙ sym coming) in
    let part = one_part (view.IsPart nodes) parts one.0 (subst (λ vs. AreAll (view.IsPart nodes) parts vs) one.1 are) in (
      record {
        part = part.0;
        value = one.0;
        state = state;
        parts_are = part.1;
        means = sym coming ∙ ap (λ vs. Ok (found vs state)) one.1;
        is_part = part.2;
        holds = keeps;
        size = omega (arith, size);
        paid = laws.paid_more nodes reached (length s) before paid;
      },
      sym due,
    )
done_on view s shape tree nodes next codes parts laws r (top ∷ frames) known state reached coming within (one, holds) keeps size before paid steps due no_frame =
    absurd (no_last one.lower one.code (sym no_frame ∙ one.codes_are))

pub done : {N P K V S C : Type 0} (view : View N P K V S C) (s : List ℕ) (shape : List Row) (tree : Tree) (steps : ℕ) (nodes : N) (next : ℕ) (codes : List (Frame K)) (parts : List P)
    → IsLinking view → IsRoot view.table tree → Follows view s shape (meaning_of view tree) (waiting steps) nodes next codes parts → codes ≡ []
    → IsDone view s shape (meaning_of view tree) nodes parts × (steps ≡ 0)
done view s shape tree steps nodes next codes parts laws r f no_frame =
    done_on view s shape tree nodes next codes parts laws r f.frames f.known f.state f.reached f.coming f.within f.holds f.keeps f.size f.before f.paid steps f.is_due no_frame

-- ## For a language's own linker

-- at every moment, refused or not, at most two steps were taken for each row
pub driving_few : {N P K V S C : Type 0} (view : View N P K V S C) (s : List ℕ) (shape : List Row) (tree : Tree) (nodes : N) (steps : ℕ) (refused : Option Refusal) (next : ℕ)
    (codes : List (Frame K)) (parts : List P) → IsDriving view s shape tree nodes steps refused next codes parts → steps ≤ 2 * length shape
driving_few view s shape tree nodes steps None next codes parts driving = omega (arith, driving.1, driving.2)
driving_few view s shape tree nodes steps (Some e) next codes parts driving = driving.1
