-- The number at the end of a lambda or an unnamed type.
use Rattle.cpp_link.proofs.Basics.{◌≡◌, refl, sym, ◌∙◌, ap, subst, arith, ℕ, zero, suc, ◌+◌, ◌-◌, ◌^◌, ◌<◌, ◌≤◌, List, [], ◌∷◌, ◌++◌, length, take, drop, get_or, Bool, true, false, Result, Ok, Err, append_assoc, length-append, nat_eq, nat_lt, slice_range, if◌then◌else◌, true≢false, false≢true, eqb-true, drop-drop, get_or-drop, length-drop, drop-append_seam, take-append_seam, get_or-append_seam, Refusal, BadValue, Row, Rule, Sym, Kind, Name, Number, Byte, Table, Token, symbols_of, Tree, Forest, branch, empty, token, fixed, nothing, grown, spell, spell_all, IsTree, AreTrees, row_count, row_count_all, tree_count, rows_of, rows_of_all, Open, standing, IsRuleRow, Production, Operation, parts_of, wide, last_token, production_at, local_number, at_number, its_symbols, taken_rule, number_tested, opening, cpp, State, Around, Surroundings, Linked, Term, packs_of, around_of, IsKeptThere, is_numbered, IsRange, link_begin, Surrounds, IsKept, Holds}
use Rattle.sym_shape.proofs.Forests.{length-rows_of_all}

-- ## Parts that end in a token

-- the last of these rows
record LastRow (rows : List Row) (from to : ℕ) : Type 0 where
  pub others : List Row
  pub last : Row
  pub is : rows ≡ others ++ last ∷ []
  pub begins : last.from ≡ from
  pub ends : last.to ≡ to

record LastToken (parts : Forest) : Type 0 where
  pub front : List ℕ
  pub own : List ℕ
  pub rest : List ℕ
  pub is : (digits : List ℕ) → last_token parts digits ≡ own
  pub spelled : spell_all parts ≡ front ++ (own ++ rest)
  pub row : (at number : ℕ) → LastRow (rows_of_all parts at number) (at + length front) (at + length front + length own)

pub last_behind : (first : Tree) (rest : Forest) (own digits : List ℕ) → ((ds : List ℕ) → last_token rest ds ≡ own) → last_token (grown first rest) digits ≡ own
unfolding last_token
last_behind (token t) rest own digits is = is t.own
last_behind (branch rule taken parts) rest own digits is = is digits
last_behind empty rest own digits is = is digits
last_behind (fixed byte) rest own digits is = is digits

ends_later : (first : Tree) (rest : Forest) → LastToken rest → LastToken (grown first rest)
ends_later first rest later = record {
  front = spell first ++ later.front;
  own = later.own;
  rest = later.rest;
  is = λ digits. last_behind first rest later.own digits later.is;
  spelled = ap (λ x. spell first ++ x) later.spelled ∙ sym (append_assoc (spell first) later.front (later.own ++ later.rest));
  row = λ at number. rows at number;
}
  where
    rows : (at number : ℕ) → LastRow (rows_of_all (grown first rest) at number) (at + length (spell first ++ later.front)) (at + length (spell first ++ later.front) + length later.own)
    rows at number =
        let r = later.row (at + length (spell first)) (number + row_count first) in
        record {
          others = rows_of first (tree_count rest) at number ++ r.others;
          last = r.last;
          is = ap (λ x. rows_of first (tree_count rest) at number ++ x) r.is ∙ sym (append_assoc (rows_of first (tree_count rest) at number) r.others (r.last ∷ []));
          begins = omega (arith, r.begins, length-append (spell first) later.front);
          ends = omega (arith, r.ends, length-append (spell first) later.front);
        }

ends_here : (t : Token) → LastToken (grown (token t) nothing)
unfolding last_token
ends_here t = record {
  front = t.before;
  own = t.own;
  rest = t.behind ++ [];
  is = λ digits. refl;
  spelled = spells t.before t.own t.behind;
  row = λ at number. record { others = []; last = record { rule = 65535; after = 0; from = at + length t.before; to = at + length t.before + length t.own; end = number + 1 }; is = refl; begins = refl; ends = refl };
}
  where
    spells : (a b c : List ℕ) → (a ++ b ++ c) ++ [] ≡ a ++ (b ++ (c ++ []))
    spells a b c = append_assoc (a ++ b) c [] ∙ append_assoc a b (c ++ [])

-- the last of the symbols is a number
ends_so : List Sym → Bool
ends_so [] = false
ends_so (Number kind ∷ []) = true
ends_so (s ∷ []) = false
ends_so (s ∷ t ∷ ss) = ends_so (t ∷ ss)

last_part : (g : Table) (ss : List Sym) (parts : Forest) → ends_so ss ≡ true → AreTrees g ss parts → LastToken parts
unfolding ends_so
last_part g (s ∷ t ∷ ss) (grown first rest) ends trees = ends_later first rest (last_part g (t ∷ ss) rest ends trees.1)
last_part g (Number kind ∷ []) (grown (token t) nothing) ends trees = ends_here t
last_part g (Number kind ∷ []) (grown (branch r x i) nothing) ends trees = absurd trees.0
last_part g (Number kind ∷ []) (grown empty nothing) ends trees = absurd trees.0
last_part g (Number kind ∷ []) (grown (fixed d) nothing) ends trees = absurd trees.0
last_part g (Kind k ∷ []) parts ends trees = absurd (false≢true ends)
last_part g (Name ∷ []) parts ends trees = absurd (false≢true ends)
last_part g (Byte b ∷ []) parts ends trees = absurd (false≢true ends)
last_part g [] parts ends trees = absurd (false≢true ends)
last_part g (s ∷ ss) nothing ends trees = absurd trees
last_part g (s ∷ []) (grown first (grown second rest)) ends trees = absurd trees.1

-- ## A row of a lambda or an unnamed type

ends_with_number : (p : Production) → is_numbered p ≡ true → ends_so (parts_of p) ≡ true
unfolding is_numbered parts_of ends_so
ends_with_number Production.Lambda is = refl
ends_with_number Production.Unnamed is = refl
ends_with_number (Production.Operation Operation.ExpressionC) is = absurd (false≢true is)
ends_with_number _ is = absurd (false≢true is)

-- this row, the last one of a rule, has these digits
record HasDigits (s : List ℕ) (row : Row) (digits : List ℕ) : Type 0 where
  pub range : IsRange s row
  pub is : slice_range s row.from row.to ≡ digits

digits_last : (s : List ℕ) (rows : List Row) (row : Row) (rule : Rule) (taken : List ℕ) (inner : Forest) (place : ℕ) (behind : List ℕ) (other : Row)
    → IsRuleRow rows row rule taken inner place → place < length s → drop place s ≡ taken ++ (spell_all inner ++ behind) → LastToken inner
    → HasDigits s (get_or rows (row.end - 1) other) (last_token inner [])
digits_last s rows row rule taken inner place behind other row_is inside at last =
    let r = last.row (place + length taken) (row_is.number + 1) in
    let count : length r.others + 1 ≡ row_count_all inner = omega (arith, length-append r.others (r.last ∷ []), ap (λ x. length x) r.is, length-rows_of_all inner (place + length taken) (row_is.number + 1)) in
    let index : row.end - 1 ≡ row_is.number + suc (length r.others) = omega (arith, row_is.end, count) in
    let found : get_or rows (row.end - 1) other ≡ r.last =
    ap (λ i. get_or rows i other) index ∙ sym (get_or-drop row_is.number rows (suc (length r.others)) other)
    ∙ ap (λ x. get_or x (suc (length r.others)) other) (row_is.rows_are ∙ ap (λ x. row ∷ (x ++ row_is.more)) r.is ∙ ap (λ x. row ∷ x) (append_assoc r.others (r.last ∷ []) row_is.more))
    ∙ get_or-append_seam r.others r.last row_is.more other in
    let front = taken ++ last.front in
    let spelled : drop place s ≡ front ++ (last.own ++ (last.rest ++ behind)) =
    at ∙ ap (λ x. taken ++ (x ++ behind)) last.spelled ∙ ap (λ x. taken ++ x) (append_assoc last.front (last.own ++ last.rest) behind ∙ ap (λ x. last.front ++ x) (append_assoc last.own last.rest behind))
    ∙ sym (append_assoc taken last.front (last.own ++ (last.rest ++ behind))) in
    let there : drop r.last.from s ≡ last.own ++ (last.rest ++ behind) =
    ap (λ k. drop k s) (omega (arith, r.begins, length-append taken last.front)) ∙ sym (drop-drop (length front) place s) ∙ ap (λ x. drop (length front) x) spelled
    ∙ drop-append_seam front (last.own ++ (last.rest ++ behind)) in
    let size : r.last.to - r.last.from ≡ length last.own = omega (arith, r.begins, r.ends) in
    let bytes : length s - place ≡ length front + (length last.own + length (last.rest ++ behind)) =
    omega (arith, length-drop place s, ap (λ x. length x) spelled, length-append front (last.own ++ (last.rest ++ behind)), length-append last.own (last.rest ++ behind)) in
    let size_front : length front ≡ length taken + length last.front = length-append taken last.front in
    let range : IsRange s r.last = record { ordered = omega (arith, r.begins, r.ends); within = omega (arith, inside, bytes, size_front, r.ends) } in
    record {
      range = subst (λ x. IsRange s x) (sym found) range;
      is = ap (λ x. slice_range s x.from x.to) found
          ∙ ap (λ n. take n (drop r.last.from s)) size ∙ ap (λ x. take (length last.own) x) there ∙ take-append_seam last.own (last.rest ++ behind)
          ∙ sym (last.is []);
    }

number_is : (s : List ℕ) (rows : List Row) (row : Row) (rule : Rule) (taken : List ℕ) (inner : Forest) (place kind : ℕ) (behind : List ℕ) (other : Row)
    → IsRuleRow rows row rule taken inner place → place < length s → kind < wide.kinds → IsTree wide (Kind kind) (branch rule taken inner)
    → drop place s ≡ taken ++ (spell_all inner ++ behind) → is_numbered (production_at row.rule) ≡ true
    → HasDigits s (get_or rows (row.end - 1) other) (last_token inner [])
number_is s rows row rule taken inner place kind behind other row_is inside known tree at numbered =
    let t = taken_rule kind rule taken known tree.0 in
    let same : production_at row.rule ≡ t.production = ap production_at row_is.rule_is ∙ ap (λ r. production_at r.number) t.is ∙ at_number t.production in
    let symbols : symbols_of rule ≡ parts_of t.production = ap symbols_of t.is ∙ its_symbols t.production in
    digits_last s rows row rule taken inner place behind other row_is inside at
    (last_part wide (parts_of t.production) inner (ends_with_number t.production (sym (ap is_numbered same) ∙ numbered)) (subst (λ ss. AreTrees wide ss inner) symbols tree.1))

-- ## What the reading says

pub opens_plain : (p : Production) (parts : Forest) (place : ℕ) (state : State) → is_numbered p ≡ false → opening p parts place state ≡ Ok state
unfolding is_numbered opening
opens_plain Production.Lambda parts place state is = absurd (true≢false is)
opens_plain Production.Unnamed parts place state is = absurd (true≢false is)
opens_plain _ parts place state is = refl

opens_numbered : (p : Production) (parts : Forest) (place : ℕ) (state : State) → is_numbered p ≡ true → opening p parts place state ≡ number_tested (place - 1) (last_token parts []) state
unfolding is_numbered opening
opens_numbered Production.Lambda parts place state is = refl
opens_numbered Production.Unnamed parts place state is = refl
opens_numbered _ parts place state is = absurd (false≢true is)

abbrev pub if_fits : Bool → (place : ℕ) → State → Result State Refusal
if_fits fits place state = elim fits [ true ↦ Ok state | false ↦ Err (BadValue place) ]

tested : (place : ℕ) (digits : List ℕ) (state : State) (fits : Bool) → fits ≡ nat_lt (local_number digits) (2 ^ 64) → number_tested place digits state ≡ if_fits fits place state
unfolding number_tested
tested place digits state fits is = ap (λ b. if_fits b place state) (sym is)

pub none_before : (n : ℕ) → (1 ≤ n → ⊥) → n ≡ 0
none_before zero none = refl
none_before (suc n) none = absurd (none (omega arith))

-- a rule that begins at place 0 begins without a test
pub first_begins : (o : Open State Around) (parts : Forest) → o.place ≡ 0 → link_begin o parts ≡ Ok o.before
unfolding link_begin
first_begins o parts first = ap (λ n. if nat_eq n 0 then Ok o.before else cpp.begin o parts) first

later_begins : (o : Open State Around) (parts : Forest) (place : ℕ) → o.place ≡ place + 1 → link_begin o parts ≡ cpp.begin o parts
unfolding link_begin
later_begins o parts place later = go (nat_eq o.place 0) refl
  where
    go : (b : Bool) → nat_eq o.place 0 ≡ b → (if b then Ok o.before else cpp.begin o parts) ≡ cpp.begin o parts
    go true first = absurd (omega (arith, later, eqb-true o.place 0 first))
    go false first = refl

module _ (s : List ℕ) (rows : List Row) (row : Row) (rule : Rule) (taken : List ℕ) (inner : Forest) (place : ℕ) (around : Around) (state : State)
    (row_is : IsRuleRow rows row rule taken inner place) where
  pub plain_opens : is_numbered (production_at row.rule) ≡ false → link_begin (standing rule taken place around state) inner ≡ Ok state
  unfolding cpp link_begin
  plain_opens plain = go (nat_eq place 0)
    where
      go : (b : Bool) → (if b then Ok state else opening (production_at rule.number) inner place state) ≡ Ok state
      go true = refl
      go false = ap (λ n. opening (production_at n) inner place state) (sym row_is.rule_is) ∙ opens_plain (production_at row.rule) inner place state plain

  pub number_opens : (before kind : ℕ) (behind : List ℕ) (other : Row) (fits : Bool) → place ≡ before + 1 → place < length s → row.end ≤ length rows
      → kind < wide.kinds → IsTree wide (Kind kind) (branch rule taken inner)
      → drop place s ≡ taken ++ (spell_all inner ++ behind) → is_numbered (production_at row.rule) ≡ true
      → (row.end - 1 < length rows → (d : Row) → IsRange s (get_or rows (row.end - 1) d)
      → fits ≡ nat_lt (local_number (slice_range s (get_or rows (row.end - 1) d).from (get_or rows (row.end - 1) d).to)) (2 ^ 64))
      → link_begin (standing rule taken place around state) inner ≡ if_fits fits (place - 1) state
  unfolding cpp
  number_opens before kind behind other fits later inside within known tree at numbered is =
      let digits = number_is s rows row rule taken inner place kind behind other row_is inside known tree at numbered in
      later_begins (standing rule taken place around state) inner before later
      ∙ ap (λ n. opening (production_at n) inner place state) (sym row_is.rule_is) ∙ opens_numbered (production_at row.rule) inner place state numbered
      ∙ tested (place - 1) (last_token inner []) state fits
      (is (omega (arith, within, row_is.end)) other digits.range ∙ ap (λ ds. nat_lt (local_number ds) (2 ^ 64)) digits.is)

-- ## What is kept

pub begins_kept : (s : List ℕ) (l : Linked) (context kept : Surroundings) (around : Around) (state : State) (rule : Rule) (taken : List ℕ) (place : ℕ)
    → ((ts : List Term) → around_of ts kept ≡ around_of ts context) → ((n : ℕ) → IsKeptThere n context → IsKeptThere n kept) → packs_of kept ≡ l.packs
    → Surrounds s l context around → Holds s l state → IsKept s l kept (standing rule taken place around state)
begins_kept s l context kept around state rule taken place same there packs surrounds holds = record {
  surrounds = record { there = there _ surrounds.there; is = same _ ∙ surrounds.is; closed = surrounds.closed };
  packs = packs ∙ holds.packs;
}
