-- A rule is in a symbol, and so are its parts.
use Rattle.sym_link.proofs.Basics.{◌≡◌, refl, sym, ◌∙◌, ap, subst, arith, ℕ, ◌+◌, ◌-◌, ◌<◌, Bool, true, false, not, ◌&&◌, ◌||◌, ◌≤◌, List, [], ◌∷◌, ◌++◌, length, take, drop, append_assoc, append-nil, length-append, length-drop, add-zero, drop-append_seam, take-append_seam, drop-drop, Rule, Kind, Name, Number, Byte, Table, Token, symbols_of, bytes_of, Tree, Forest, branch, empty, token, fixed, nothing, grown, spell, spell_all, TakesRule, IsTree, AreTrees, row_count_all, rows_of_all, tree_count, Open, standing, HasRowNext, Owes, cost_all, skipped, passed_by, skipped_from, joined, values_in, Stands, skips, IsCount, IsAhead, false≢true, and_parts, count_trees}
use Rattle.sym_shape.specs.declared.rule.Sym.{Sym}
use Rattle.sym_shape.specs.Law.{IsSymbol, AreSymbols}
use Rattle.sym_link.specs.Sound.{IsSound}

-- ## Parts without a row that are skipped

pub skip_split : (left : Forest) → left ≡ joined (passed_by left) (skipped left)
skip_split (grown empty rest) = ap (λ f. grown empty f) (skip_split rest)
skip_split (grown (fixed byte) rest) = ap (λ f. grown (fixed byte) f) (skip_split rest)
skip_split (grown (token t) rest) = refl
skip_split (grown (branch rule taken parts) rest) = refl
skip_split nothing = refl

pub skip_from : (from : ℕ) (left : Forest) → skipped_from from left ≡ from + length (spell_all (passed_by left))
skip_from from (grown empty rest) = skip_from from rest
skip_from from (grown (fixed byte) rest) = omega (arith, skip_from (from + 1) rest)
skip_from from (grown (token t) rest) = sym (add-zero from)
skip_from from (grown (branch rule taken parts) rest) = sym (add-zero from)
skip_from from nothing = sym (add-zero from)

pub skip_rows : (left : Forest) (from number : ℕ) → rows_of_all (skipped left) (skipped_from from left) number ≡ rows_of_all left from number
skip_rows (grown empty rest) from number = rw (add-zero, add-zero) (skip_rows rest from number)
skip_rows (grown (fixed byte) rest) from number = rw add-zero (skip_rows rest (from + 1) number)
skip_rows (grown (token t) rest) from number = refl
skip_rows (grown (branch rule taken parts) rest) from number = refl
skip_rows nothing from number = refl

pub skip_count : (left : Forest) → row_count_all (skipped left) ≡ row_count_all left
skip_count (grown empty rest) = omega (arith, skip_count rest)
skip_count (grown (fixed byte) rest) = omega (arith, skip_count rest)
skip_count (grown (token t) rest) = refl
skip_count (grown (branch rule taken parts) rest) = refl
skip_count nothing = refl

pub skip_cost : (owes : Owes) (left : Forest) → cost_all owes (skipped left) ≡ cost_all owes left
skip_cost owes (grown empty rest) = omega (arith, skip_cost owes rest)
skip_cost owes (grown (fixed byte) rest) = omega (arith, skip_cost owes rest)
skip_cost owes (grown (token t) rest) = refl
skip_cost owes (grown (branch rule taken parts) rest) = refl
skip_cost owes nothing = refl

pub skip_next : (left : Forest) → HasRowNext (skipped left)
skip_next (grown empty rest) = skip_next rest
skip_next (grown (fixed byte) rest) = skip_next rest
skip_next (grown (token t) rest) = tt
skip_next (grown (branch rule taken parts) rest) = tt
skip_next nothing = tt

-- ## Joined parts

pub joined_assoc : (a b c : Forest) → joined (joined a b) c ≡ joined a (joined b c)
joined_assoc nothing b c = refl
joined_assoc (grown t a) b c = ap (λ f. grown t f) (joined_assoc a b c)

pub joined_spell : (a b : Forest) → spell_all (joined a b) ≡ spell_all a ++ spell_all b
joined_spell nothing b = refl
joined_spell (grown t a) b = ap (λ x. spell t ++ x) (joined_spell a b) ∙ sym (append_assoc (spell t) (spell_all a) (spell_all b))

pub joined_values : (n : ℕ) (a b : Forest) → values_in n (joined a b) ≡ values_in n a + values_in n b
joined_values n nothing b = omega arith
joined_values n (grown empty a) b = omega (arith, joined_values n a b)
joined_values n (grown (fixed byte) a) b = omega (arith, joined_values n a b)
joined_values n (grown (token t) a) b = omega (arith, joined_values n a b)
joined_values n (grown (branch rule taken parts) a) b = omega (arith, joined_values n a b)

joined_length : (a b : Forest) → length (spell_all (joined a b)) ≡ length (spell_all a) + length (spell_all b)
joined_length a b = ap (λ x. length x) (joined_spell a b) ∙ length-append (spell_all a) (spell_all b)

-- the part after others is a tree of one of the symbols
tree_at : (g : Table) (xs : List Sym) (front : Forest) (first : Tree) (rest : Forest) → AreSymbols g xs → AreTrees g xs (joined front (grown first rest))
    → (x : Sym) × IsSymbol g x × IsTree g x first
tree_at g (x ∷ xs) nothing first rest symbols trees = (x, symbols.0, trees.0)
tree_at g (x ∷ xs) (grown t front) first rest symbols trees = tree_at g xs front first rest symbols.1 trees.1
tree_at g [] nothing first rest symbols trees = absurd trees
tree_at g [] (grown t front) first rest symbols trees = absurd trees

-- a branch is a tree of a kind
branch_of : (g : Table) (x : Sym) (rule : Rule) (taken : List ℕ) (parts : Forest) → IsSymbol g x → IsTree g x (branch rule taken parts)
    → (kind : ℕ) × (kind < g.kinds) × TakesRule g kind rule taken × AreTrees g (symbols_of rule) parts
branch_of g (Kind k) rule taken parts symbol is = (k, symbol, is.0, is.1)
branch_of g Name rule taken parts symbol is = absurd is
branch_of g (Number kind) rule taken parts symbol is = absurd is
branch_of g (Byte b) rule taken parts symbol is = absurd is

filled : (xs : List ℕ) → (xs ≡ [] → ⊥) → 0 < length xs
filled [] full = absurd (full refl)
filled (x ∷ xs) full = omega arith

-- ## Where a rule is while it passes its parts

-- the parts that have no row are skipped
pub stands_skip : {S C : Type 0} (g : Table) (s : List ℕ) (n : ℕ) (rule : Open S C) (held from : ℕ) (left : Forest) → Stands g s n rule held from left
    → Stands g s n rule (held + values_in n (passed_by left)) (skipped_from from left) (skipped left)
stands_skip g s n rule held from left st =
    let same : joined st.passed left ≡ joined (joined st.passed (passed_by left)) (skipped left) =
    ap (λ f. joined st.passed f) (skip_split left) ∙ sym (joined_assoc st.passed (passed_by left) (skipped left)) in
    record {
      kind = st.kind;
      is_kind = st.is_kind;
      takes = st.takes;
      passed = joined st.passed (passed_by left);
      trees = subst (λ f. AreTrees g (symbols_of rule.rule) f) same st.trees;
      counted = omega (arith, st.counted, joined_values n st.passed (passed_by left));
      starts = omega (arith, st.starts, skip_from from left, joined_length st.passed (passed_by left));
      behind = st.behind;
      spelled = subst (λ f. drop rule.place s ≡ rule.taken ++ (spell_all f ++ st.behind)) same st.spelled;
    }

-- one more part, which has a value, is passed
pub stands_take : {S C : Type 0} (g : Table) (s : List ℕ) (n : ℕ) (rule : Open S C) (held from : ℕ) (first : Tree) (rest : Forest)
    → Stands g s n rule held from (grown first rest) → values_in n (grown first nothing) ≡ 1
    → Stands g s n rule (held + 1) (from + length (spell first)) rest
stands_take g s n rule held from first rest st one =
    let same : joined st.passed (grown first rest) ≡ joined (joined st.passed (grown first nothing)) rest =
    sym (joined_assoc st.passed (grown first nothing) rest) in
    record {
      kind = st.kind;
      is_kind = st.is_kind;
      takes = st.takes;
      passed = joined st.passed (grown first nothing);
      trees = subst (λ f. AreTrees g (symbols_of rule.rule) f) same st.trees;
      counted = omega (arith, st.counted, one, joined_values n st.passed (grown first nothing));
      starts = omega (arith, st.starts, joined_length st.passed (grown first nothing), ap (λ x. length x) (append-nil (spell first)));
      behind = st.behind;
      spelled = subst (λ f. drop rule.place s ≡ rule.taken ++ (spell_all f ++ st.behind)) same st.spelled;
    }

-- the bytes at the place of the remaining parts
pub stands_left : {S C : Type 0} (g : Table) (s : List ℕ) (n : ℕ) (rule : Open S C) (held from : ℕ) (left : Forest) (st : Stands g s n rule held from left)
    → drop from s ≡ spell_all left ++ st.behind
stands_left g s n rule held from left st =
    let front = rule.taken ++ spell_all st.passed in
    let whole : drop rule.place s ≡ front ++ (spell_all left ++ st.behind) =
    st.spelled ∙ ap (λ x. rule.taken ++ (x ++ st.behind)) (joined_spell st.passed left)
    ∙ ap (λ x. rule.taken ++ x) (append_assoc (spell_all st.passed) (spell_all left) st.behind)
    ∙ sym (append_assoc rule.taken (spell_all st.passed) (spell_all left ++ st.behind)) in
    let size : length front ≡ length rule.taken + length (spell_all st.passed) = length-append rule.taken (spell_all st.passed) in
    ap (λ k. drop k s) (omega (arith, st.starts, size)) ∙ sym (drop-drop (length front) rule.place s) ∙ ap (λ x. drop (length front) x) whole
    ∙ drop-append_seam front (spell_all left ++ st.behind)

-- a rule that begins is in the symbol, at the place of the next part
pub stands_inner : {S C : Type 0} (g : Table) (s : List ℕ) (n : ℕ) (rule : Open S C) (held from : ℕ) (inner_rule : Rule) (taken : List ℕ) (inner rest : Forest) (context : C) (state : S)
    → IsSound g → Stands g s n rule held from (grown (branch inner_rule taken inner) rest)
    → Stands g s n (standing inner_rule taken from context state) 0 (from + length taken) inner
stands_inner g s n rule held from inner_rule taken inner rest context state sound st =
    let symbols = sound.symbols st.kind st.takes.byte rule.rule st.is_kind st.takes.is_byte st.takes.found in
    let at = tree_at g (symbols_of rule.rule) st.passed (branch inner_rule taken inner) rest symbols st.trees in
    let is = branch_of g at.0 inner_rule taken inner at.1 at.2 in
    record {
      kind = is.0;
      is_kind = is.1;
      takes = is.2;
      passed = nothing;
      trees = is.3;
      counted = refl;
      starts = omega arith;
      behind = spell_all rest ++ st.behind;
      spelled = stands_left g s n rule held from (grown (branch inner_rule taken inner) rest) st
          ∙ append_assoc (taken ++ spell_all inner) (spell_all rest) st.behind ∙ append_assoc taken (spell_all inner) (spell_all rest ++ st.behind);
    }

-- the bytes at the place of the next part with a row, if that part is a rule
pub stands_next : {S C : Type 0} (g : Table) (s : List ℕ) (n : ℕ) (rule : Open S C) (held from : ℕ) (left : Forest) (inner_rule : Rule) (taken : List ℕ) (inner rest : Forest)
    → Stands g s n rule held from left → skipped left ≡ grown (branch inner_rule taken inner) rest
    → (behind : List ℕ) × (drop (skipped_from from left) s ≡ taken ++ (spell_all inner ++ behind))
stands_next g s n rule held from left inner_rule taken inner rest st is =
    let at : Stands g s n rule (held + values_in n (passed_by left)) (skipped_from from left) (grown (branch inner_rule taken inner) rest) =
    subst (λ f. Stands g s n rule (held + values_in n (passed_by left)) (skipped_from from left) f) is (stands_skip g s n rule held from left st) in (
      spell_all rest ++ at.behind,
      stands_left g s n rule (held + values_in n (passed_by left)) (skipped_from from left) (grown (branch inner_rule taken inner) rest) at
          ∙ append_assoc (taken ++ spell_all inner) (spell_all rest) at.behind ∙ append_assoc taken (spell_all inner) (spell_all rest ++ at.behind),
    )

-- the next part with a row is a tree of a kind, if that part is a rule
pub tree_next : {S C : Type 0} (g : Table) (s : List ℕ) (n : ℕ) (rule : Open S C) (held from : ℕ) (left : Forest) (inner_rule : Rule) (taken : List ℕ) (inner rest : Forest)
    → IsSound g → Stands g s n rule held from left → skipped left ≡ grown (branch inner_rule taken inner) rest
    → (kind : ℕ) × (kind < g.kinds) × IsTree g (Kind kind) (branch inner_rule taken inner)
tree_next g s n rule held from left inner_rule taken inner rest sound st is =
    let at : Stands g s n rule (held + values_in n (passed_by left)) (skipped_from from left) (grown (branch inner_rule taken inner) rest) =
    subst (λ f. Stands g s n rule (held + values_in n (passed_by left)) (skipped_from from left) f) is (stands_skip g s n rule held from left st) in
    let symbols = sound.symbols at.kind at.takes.byte rule.rule at.is_kind at.takes.is_byte at.takes.found in
    let part = tree_at g (symbols_of rule.rule) at.passed (branch inner_rule taken inner) rest symbols at.trees in
    let own = branch_of g part.0 inner_rule taken inner part.1 part.2 in (own.0, own.1, (own.2, own.3))

-- a rule of the symbol begins at one of its bytes
pub stands_within : {S C : Type 0} (g : Table) (s : List ℕ) (n : ℕ) (rule : Open S C) (held from : ℕ) (left : Forest) → IsSound g → Stands g s n rule held from left
    → rule.place < length s
stands_within g s n rule held from left sound st =
    omega (
      arith,
      ap (λ x. length x) (st.spelled ∙ sym (append_assoc rule.taken (spell_all (joined st.passed left)) st.behind)),
      length-drop rule.place s,
      length-append (rule.taken ++ spell_all (joined st.passed left)) st.behind,
      filled (rule.taken ++ spell_all (joined st.passed left))
          (sound.filled st.kind rule.rule rule.taken (joined st.passed left) st.is_kind (st.takes, st.trees)),
    )

-- the remaining parts of a rule end within the symbol
pub stands_end : {S C : Type 0} (g : Table) (s : List ℕ) (n : ℕ) (rule : Open S C) (held from : ℕ) (left : Forest) → IsSound g → Stands g s n rule held from left
    → from + length (spell_all left) ≤ length s
stands_end g s n rule held from left sound st =
    omega (
      arith,
      stands_within g s n rule held from left sound st,
      st.starts,
      length-drop rule.place s,
      ap (λ x. length x) st.spelled,
      length-append rule.taken (spell_all (joined st.passed left) ++ st.behind),
      length-append (spell_all (joined st.passed left)) st.behind,
      joined_length st.passed left,
    )

-- the own bytes of a token that is at a place
pub token_own : (s : List ℕ) (place : ℕ) (t : Token) (more : List ℕ) → drop place s ≡ bytes_of t ++ more
    → take (length t.own) (drop (place + length t.before) s) ≡ t.own
token_own s place t more here =
    let there : drop (place + length t.before) s ≡ t.own ++ (t.behind ++ more) =
    sym (drop-drop (length t.before) place s) ∙ ap (λ x. drop (length t.before) x) (here ∙ append_assoc (t.before ++ t.own) t.behind more ∙ append_assoc t.before t.own (t.behind ++ more))
    ∙ drop-append_seam t.before (t.own ++ (t.behind ++ more)) in
    ap (λ x. take (length t.own) x) there ∙ take-append_seam t.own (t.behind ++ more)

-- ## Rows

pub no_rows : (left : Forest) (from number : ℕ) → row_count_all left ≡ 0 → rows_of_all left from number ≡ []
no_rows nothing from number none = refl
no_rows (grown empty rest) from number none = no_rows rest (from + 0) (number + 0) (omega (arith, none))
no_rows (grown (fixed byte) rest) from number none = no_rows rest (from + 1) (number + 0) (omega (arith, none))
no_rows (grown (token t) rest) from number none = absurd (omega (arith, none))
no_rows (grown (branch rule taken parts) rest) from number none = absurd (omega (arith, none))

-- if no row is left, all remaining parts are passed
pub all_passed : (left : Forest) → row_count_all left ≡ 0 → skips left ≡ tree_count left
all_passed nothing none = refl
all_passed (grown empty rest) none = omega (arith, all_passed rest (omega (arith, none)))
all_passed (grown (fixed byte) rest) none = omega (arith, all_passed rest (omega (arith, none)))
all_passed (grown (token t) rest) none = absurd (omega (arith, none))
all_passed (grown (branch rule taken parts) rest) none = absurd (omega (arith, none))

-- if a row is left, the parts before the next one that has a row are passed
some_passed : (left rest : Forest) (next : Tree) → skipped left ≡ grown next rest → skips left + 1 + tree_count rest ≡ tree_count left
some_passed nothing rest next is = cc
some_passed (grown empty others) rest next is = omega (arith, some_passed others rest next is)
some_passed (grown (fixed byte) others) rest next is = omega (arith, some_passed others rest next is)
some_passed (grown (token t) others) rest next is = omega (arith, ap tree_count is)
some_passed (grown (branch rule taken parts) others) rest next is = omega (arith, ap tree_count is)

pub count_joined : (passed left : Forest) → tree_count (joined passed left) ≡ values_in 1 passed + tree_count left
count_joined nothing left = omega arith
count_joined (grown empty passed) left = omega (arith, count_joined passed left)
count_joined (grown (fixed byte) passed) left = omega (arith, count_joined passed left)
count_joined (grown (token t) passed) left = omega (arith, count_joined passed left)
count_joined (grown (branch rule taken parts) passed) left = omega (arith, count_joined passed left)

-- if the parts of a rule are counted, so are the parts before its next one that has a row
pub ahead_by_count : (g : Table) (number held after count : ℕ) → IsCount g number count → IsAhead g number held after (count - (after + 1))
ahead_by_count g number held after count is_count kind rule taken is_kind takes number_is parts left rest next trees held_is left_is told =
    omega (
      arith,
      is_count kind rule taken is_kind takes number_is,
      count_trees g (symbols_of rule) (joined parts left) trees,
      count_joined parts left,
      some_passed left rest next left_is,
      held_is,
      told,
    )

-- a symbol always has a row
abbrev has_row : Table → Sym → Bool
has_row g (Kind k) = not (g.may_be_empty k)
has_row g (Byte c) = false
has_row g x = true

abbrev are_none : List Sym → Bool
are_none [] = true
are_none (x ∷ xs) = false

-- each of these symbols except the last always has a row
abbrev pub are_rows : Table → List Sym → Bool
are_rows g [] = true
are_rows g (x ∷ xs) = (are_none xs || has_row g x) && are_rows g xs

-- if each part of a rule except the last has a row, no part is skipped before the next one that has a row
pub ahead_by_rows : (g : Table) (number held after : ℕ)
    → ((kind : ℕ) (rule : Rule) (taken : List ℕ) → kind < g.kinds → TakesRule g kind rule taken → rule.number ≡ number → are_rows g (symbols_of rule) ≡ true)
    → IsAhead g number held after held
ahead_by_rows g number held after rows kind rule taken is_kind takes number_is parts left rest next trees held_is left_is told =
    omega (arith, none_skipped (symbols_of rule) parts left trees (rows kind rule taken is_kind takes number_is) left_is)
  where
    rowless : (x : Sym) (xs : List Sym) → has_row g x ≡ false → are_rows g (x ∷ xs) ≡ true → are_none xs ≡ true
    rowless x [] none all = refl
    rowless x (y ∷ xs) none all = absurd (false≢true (sym none ∙ (and_parts (has_row g x) (are_rows g (y ∷ xs)) all).0))

    last : (x : Sym) (xs : List Sym) (f : Forest) → has_row g x ≡ false → are_rows g (x ∷ xs) ≡ true → AreTrees g xs f → skipped f ≡ grown next rest → ⊥
    last x [] nothing none all trees is = cc
    last x [] (grown t f) none all trees is = trees
    last x (y ∷ xs) f none all trees is = false≢true (rowless x (y ∷ xs) none all)

    first : (xs : List Sym) (left : Forest) → AreTrees g xs left → are_rows g xs ≡ true → skipped left ≡ grown next rest → skips left ≡ 0
    first xs nothing trees all is = refl
    first xs (grown (token t) f) trees all is = refl
    first xs (grown (branch r t i) f) trees all is = refl
    first (Kind k ∷ xs) (grown empty f) trees all is = absurd (last (Kind k) xs f (ap not trees.0) all trees.1 is)
    first (Byte c ∷ xs) (grown (fixed b) f) trees all is = absurd (last (Byte c) xs f refl all trees.1 is)
    first [] (grown empty f) trees all is = absurd trees
    first [] (grown (fixed b) f) trees all is = absurd trees
    first (Byte c ∷ xs) (grown empty f) trees all is = absurd trees.0
    first (Kind k ∷ xs) (grown (fixed b) f) trees all is = absurd trees.0
    first (Name ∷ xs) (grown empty f) trees all is = absurd trees.0
    first (Name ∷ xs) (grown (fixed b) f) trees all is = absurd trees.0
    first (Number n ∷ xs) (grown empty f) trees all is = absurd trees.0
    first (Number n ∷ xs) (grown (fixed b) f) trees all is = absurd trees.0

    none_skipped : (xs : List Sym) (parts left : Forest) → AreTrees g xs (joined parts left) → are_rows g xs ≡ true → skipped left ≡ grown next rest → skips left ≡ 0
    none_skipped xs nothing left trees all is = first xs left trees all is
    none_skipped (x ∷ xs) (grown t parts) left trees all is =
        none_skipped xs parts left trees.1 (and_parts (are_none xs || has_row g x) (are_rows g xs) all).1 is
    none_skipped [] (grown t parts) left trees all is = absurd trees

-- What comes next if a row is left: a rule or a token.
pub data NextPart : Forest → Type 0 where
  a_rule : {left : Forest} → (rule : Rule) (taken : List ℕ) (inner rest : Forest) → skipped left ≡ grown (branch rule taken inner) rest → NextPart left
  a_token : {left : Forest} → (t : Token) (rest : Forest) → skipped left ≡ grown (token t) rest → NextPart left

pub next_part : (left : Forest) → (row_count_all left ≡ 0 → ⊥) → NextPart left
next_part left some = go left (skipped left) refl some
  where
    go : (left next : Forest) → skipped left ≡ next → (row_count_all left ≡ 0 → ⊥) → NextPart left
    go left (grown (branch rule taken inner) rest) is some = a_rule rule taken inner rest is
    go left (grown (token t) rest) is some = a_token t rest is
    go left nothing is some = absurd (some (sym (skip_count left) ∙ ap row_count_all is))
    go left (grown empty rest) is some = absurd (subst HasRowNext is (skip_next left))
    go left (grown (fixed byte) rest) is some = absurd (subst HasRowNext is (skip_next left))
