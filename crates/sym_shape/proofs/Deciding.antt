-- The reader, run on a list: it ends in a tree or in a first bad byte.
use Rattle.sym_shape.proofs.Basics.{◌≡◌, ℕ, zero, suc, ◌+◌, ◌*◌, ◌<◌, ◌≤◌, true, ◌⊎◌, inl, inr, List, [], ◌∷◌, ◌++◌, length, take, drop, get_or, refl, ap, sym, ◌∙◌, subst, arith, append_assoc, Option, Some, None, Result, Ok, Err, cases_lt, cases_eq, cases_order, take-append-drop, take-take, TokenPlace, Rule, Row, Sym, Kind, Name, Number, Byte, Table, symbols_of, Tree, IsTree, spell, IsWellShaped, BeginsWellShaped, IsFirstBad, IsMalformed, IsLawful, Entry, Symbol, Close, closed, TakesNone, open_row, place_behind, place_row, rule_stack, symbols_left, IsParse, FindsToken}
use Rattle.sym_core.proofs.Scanning.{number_found, name_found}
use Rattle.sym_shape.specs.Decided.{AreBytes, Decided}
use Rattle.sym_shape.proofs.Lists.{true_or}
use Rattle.sym_shape.proofs.Moves.{beginning}
use Rattle.sym_shape.proofs.Uniqueness.{one_tree}
use Rattle.sym_shape.proofs.Steps.{first_parse, step_close, step_byte, step_empty, step_rule, step_leaf, step_token, refuse_behind, refuse_byte, refuse_kind, refuse_token, whole_read, takes_none, at_most_steps}

-- a parse with n steps left to take ends
abbrev Ends : Table → List ℕ → ℕ → Type 0
Ends g s n = (steps at : ℕ) (stack : List Entry) (rows : List Row) → 14 + 18 * length s ≤ steps + n → IsParse g true s steps at stack rows → Decided g s

-- the end of the stack
at_end : (g : Table) (lawful : IsLawful g) (s : List ℕ) (steps at : ℕ) (rows : List Row) → IsParse g true s steps at [] rows → Decided g s
at_end g lawful s steps at rows h = elim (cases_lt at (length s)) [
  | inl behind ↦ inr (at, refuse_behind g lawful true s steps at rows behind h)
  | inr there ↦ (
      let read = whole_read g true s steps at [] rows rows h refl (omega (arith, h.within)) refl in
      inl (read.0, read.1, read.2))
]

-- a fixed byte
at_byte : (g : Table) (lawful : IsLawful g) (s : List ℕ) (n : ℕ) → Ends g s n → (steps at b : ℕ) (stack : List Entry) (rows : List Row) → 14 + 18 * length s ≤ steps + suc n → IsParse g true s steps at (Symbol (Byte b) ∷ stack) rows → Decided g s
at_byte g lawful s n below steps at b stack rows left h = elim (cases_lt at (length s)) [
  | inl more ↦ elim (cases_eq (get_or s at 0) b) [
    | inl same ↦ below (steps + 1) (at + 1) stack rows (omega arith) (step_byte g true s steps at b stack rows more same h)
    | inr other ↦ inr (at, refuse_byte g lawful true s steps at b stack rows (inr refl) (λ lt same. other same) h)
  ]
  | inr ended ↦ inr (at, refuse_byte g lawful true s steps at b stack rows (inr refl) (λ lt same. omega arith) h)
]

-- no rule of a kind may be taken
at_no_rule : (g : Table) (lawful : IsLawful g) (s : List ℕ) (n : ℕ) → Ends g s n → (steps at k : ℕ) (stack : List Entry) (rows : List Row) → 14 + 18 * length s ≤ steps + suc n → TakesNone g k true (drop at s) → IsParse g true s steps at (Symbol (Kind k) ∷ stack) rows → Decided g s
at_no_rule g lawful s n below steps at k stack rows left none h = elim (true_or (g.may_be_empty k)) [
  | inl bare ↦ below (steps + 1) at stack rows (omega arith) (step_empty g lawful true s steps at k stack rows bare none h)
  | inr full ↦ inr (at, refuse_kind g lawful true s steps at k stack rows none full h)
]

-- a kind
at_kind : (g : Table) (lawful : IsLawful g) (s : List ℕ) → AreBytes s → (n : ℕ) → Ends g s n → (steps at k : ℕ) (stack : List Entry) (rows : List Row) → 14 + 18 * length s ≤ steps + suc n → IsParse g true s steps at (Symbol (Kind k) ∷ stack) rows → Decided g s
at_kind g lawful s bytes n below steps at k stack rows left h = elim (cases_lt at (length s)) [
  | inl more ↦ at_rule more (g.rule k (get_or s at 0)) refl
  | inr ended ↦ at_no_rule g lawful s n below steps at k stack rows left (takes_none g k true s at (inr refl) (λ lt. absurd (omega arith))) h
]
  where
    at_symbols : at < length s → (rule : Rule) → g.rule k (get_or s at 0) ≡ Some rule → (xs : List Sym) → symbols_of rule ≡ xs → Decided g s
    at_symbols more rule e [] none =
        below (steps + 1) (place_behind rule at) stack (rows ++ open_row rule (symbols_left stack) at (place_behind rule at) (length rows + 1) ∷ []) (omega arith) (step_leaf g lawful true s steps at k (get_or s at 0) rule stack rows none more refl (bytes at) e h)
    at_symbols more rule e (x ∷ xs) some =
        below (steps + 1) (place_behind rule at) (rule_stack stack (length rows) rule) (rows ++ open_row rule (symbols_left stack) at at 0 ∷ []) (omega arith) (step_rule g lawful true s steps at k (get_or s at 0) 0 rule stack rows (ap beginning some) more refl (bytes at) e h)

    at_rule : at < length s → (found : Option Rule) → g.rule k (get_or s at 0) ≡ found → Decided g s
    at_rule more None e = at_no_rule g lawful s n below steps at k stack rows left (takes_none g k true s at (inr refl) (λ lt. e)) h
    at_rule more (Some rule) e = at_symbols more rule e (symbols_of rule) refl

-- a name or a number
at_token : (g : Table) (lawful : IsLawful g) (s : List ℕ) (n : ℕ) → Ends g s n → (steps at : ℕ) (x : Sym) (stack : List Entry) (rows : List Row) → 14 + 18 * length s ≤ steps + suc n → (found : Result TokenPlace ℕ) → FindsToken g.names x s at found → IsParse g true s steps at (Symbol x ∷ stack) rows → Decided g s
at_token g lawful s n below steps at x stack rows left (Ok place) read h =
    below (steps + 1) place.end stack (rows ++ place_row (symbols_left stack) place (length rows) ∷ []) (omega arith) (step_token g lawful true s steps at x place stack rows read (inr refl) h)
at_token g lawful s n below steps at x stack rows left (Err bad) breaks h =
    inr (bad, refuse_token g lawful true s steps at bad x stack rows breaks.0 breaks.1 (inr refl) h)

one_step : (g : Table) (lawful : IsLawful g) (s : List ℕ) → AreBytes s → (n : ℕ) → Ends g s n → (steps at : ℕ) (stack : List Entry) (rows : List Row) → 14 + 18 * length s ≤ steps + suc n → IsParse g true s steps at stack rows → Decided g s
one_step g lawful s bytes n below steps at [] rows left h = at_end g lawful s steps at rows h
one_step g lawful s bytes n below steps at (Close i ∷ stack) rows left h =
    below (steps + 1) at stack (closed rows i at (length rows)) (omega arith) (step_close g true s steps at i stack rows h)
one_step g lawful s bytes n below steps at (Symbol (Kind k) ∷ stack) rows left h =
    at_kind g lawful s bytes n below steps at k stack rows left h
one_step g lawful s bytes n below steps at (Symbol (Byte b) ∷ stack) rows left h =
    at_byte g lawful s n below steps at b stack rows left h
one_step g lawful s bytes n below steps at (Symbol Name ∷ stack) rows left h =
    let found = name_found g.names s at in
    at_token g lawful s n below steps at Name stack rows left found.0 found.1 h
one_step g lawful s bytes n below steps at (Symbol (Number kind) ∷ stack) rows left h =
    let found = number_found kind s at in
    at_token g lawful s n below steps at (Number kind) stack rows left found.0 found.1 h

ends : (g : Table) (lawful : IsLawful g) (s : List ℕ) → AreBytes s → (n : ℕ) → Ends g s n
ends g lawful s bytes zero = λ steps at stack rows left h. absurd (omega (arith, left, h.within, at_most_steps g steps at stack (length rows) h.counted))
ends g lawful s bytes (suc n) = λ steps at stack rows left h. one_step g lawful s bytes n (ends g lawful s bytes n) steps at stack rows left h

-- each list of bytes has a tree of the start kind or a first bad byte
pub decided : (g : Table) (lawful : IsLawful g) (s : List ℕ) → AreBytes s → Decided g s
decided g lawful s bytes = ends g lawful s bytes (14 + 18 * length s) 0 0 (Symbol (Kind 0) ∷ []) [] (omega arith) (first_parse g lawful true s)

-- if a front begins a well shaped symbol, so does each shorter front
shorter_begins : (g : Table) (s : List ℕ) (m n : ℕ) → m ≤ n → BeginsWellShaped g (take n s) → BeginsWellShaped g (take m s)
shorter_begins g s m n le whole =
    let u = take n s in
    let text : take m u ++ (drop m u ++ whole.0) ≡ u ++ whole.0 = sym (append_assoc (take m u) (drop m u) whole.0) ∙ ap (λ v. v ++ whole.0) (take-append-drop m u) in
    subst (λ v. BeginsWellShaped g v) (take-take m n s le) (drop m u ++ whole.0, subst (λ v. IsWellShaped g v) (sym text) whole.1)

-- a symbol has at most one first bad byte
pub one_bad : (g : Table) (s : List ℕ) (a b : ℕ) → IsFirstBad g s a → IsFirstBad g s b → a ≡ b
one_bad g s a b p q = elim (cases_order a b) [
  | inl same ↦ same
  | inr (inl before) ↦ absurd (p.next (omega (arith, q.within)) (shorter_begins g s (a + 1) b (omega arith) q.front))
  | inr (inr behind) ↦ absurd (q.next (omega (arith, p.within)) (shorter_begins g s (b + 1) a (omega arith) p.front))
]

-- it is decidable whether a list has only bytes
pub are_bytes : (s : List ℕ) → AreBytes s ⊎ (AreBytes s → ⊥)
are_bytes [] = inl (λ i. none i)
  where
    none : (i : ℕ) → get_or {A = ℕ} [] i 0 < 256
    none zero = omega arith
    none (suc i) = none i
are_bytes (b ∷ s) = elim (cases_lt b 256) [
  | inl small ↦ elim (are_bytes s) [
    | inl rest ↦ inl (both small rest)
    | inr other ↦ inr (λ all. other (λ i. all (suc i)))
  ]
  | inr large ↦ inr (λ all. absurd (omega (arith, all 0)))
]
  where
    both : b < 256 → AreBytes s → AreBytes (b ∷ s)
    both small rest zero = small
    both small rest (suc i) = rest i

-- a value by the symbol's tree, or by its first bad byte
of_decided : {X : Type 0} (g : Table) → (Tree → X) → (ℕ → X) → (s : List ℕ) → Decided g s → X
of_decided g shaped malformed s (inl whole) = shaped whole.0
of_decided g shaped malformed s (inr bad) = malformed bad.0

of_bytes : {X : Type 0} (g : Table) (lawful : IsLawful g) → (Tree → X) → (ℕ → X) → X → (s : List ℕ) → AreBytes s ⊎ (AreBytes s → ⊥) → X
of_bytes g lawful shaped malformed other s (inl bytes) = of_decided g shaped malformed s (decided g lawful s bytes)
of_bytes g lawful shaped malformed other s (inr none) = other

pub outcome : {X : Type 0} (g : Table) (lawful : IsLawful g) → (Tree → X) → (ℕ → X) → X → List ℕ → X
outcome g lawful shaped malformed other s = of_bytes g lawful shaped malformed other s (are_bytes s)

decided_shaped : {X : Type 0} (g : Table) (lawful : IsLawful g) (shaped : Tree → X) (malformed : ℕ → X) (s : List ℕ) (tree : Tree) → IsTree g (Kind 0) tree → spell tree ≡ s → (d : Decided g s) → of_decided g shaped malformed s d ≡ shaped tree
unfolding of_decided
decided_shaped g lawful shaped malformed s tree is text (inl whole) = ap shaped (one_tree g lawful whole.0 tree whole.1 is (whole.2 ∙ sym text))
decided_shaped g lawful shaped malformed s tree is text (inr bad) = absurd (bad.1.refused (tree, is, text))

decided_malformed : {X : Type 0} (g : Table) (shaped : Tree → X) (malformed : ℕ → X) (s : List ℕ) (at : ℕ) → IsMalformed g s at → (d : Decided g s) → of_decided g shaped malformed s d ≡ malformed at
unfolding of_decided
decided_malformed g shaped malformed s at is (inl whole) = absurd (is.refused whole)
decided_malformed g shaped malformed s at is (inr bad) = ap malformed (one_bad g s bad.0 at bad.1.first is.first)

bytes_decided : {X : Type 0} (g : Table) (lawful : IsLawful g) (shaped : Tree → X) (malformed : ℕ → X) (other y : X) (s : List ℕ) → AreBytes s → (t : AreBytes s ⊎ (AreBytes s → ⊥)) → ((d : Decided g s) → of_decided g shaped malformed s d ≡ y) → of_bytes g lawful shaped malformed other s t ≡ y
unfolding of_bytes
bytes_decided g lawful shaped malformed other y s bytes (inl all) each = each (decided g lawful s all)
bytes_decided g lawful shaped malformed other y s bytes (inr none) each = absurd (none bytes)

-- the outcome of a well shaped symbol is that of its tree
pub outcome_shaped : {X : Type 0} (g : Table) (lawful : IsLawful g) (shaped : Tree → X) (malformed : ℕ → X) (other : X) (s : List ℕ) (tree : Tree) → AreBytes s → IsTree g (Kind 0) tree → spell tree ≡ s → outcome g lawful shaped malformed other s ≡ shaped tree
unfolding outcome
outcome_shaped g lawful shaped malformed other s tree bytes is text =
    bytes_decided g lawful shaped malformed other (shaped tree) s bytes (are_bytes s) (decided_shaped g lawful shaped malformed s tree is text)

-- the outcome of a symbol that isn't well shaped is that of its first bad byte
pub outcome_malformed : {X : Type 0} (g : Table) (lawful : IsLawful g) (shaped : Tree → X) (malformed : ℕ → X) (other : X) (s : List ℕ) (at : ℕ) → AreBytes s → IsMalformed g s at → outcome g lawful shaped malformed other s ≡ malformed at
unfolding outcome
outcome_malformed g lawful shaped malformed other s at bytes is =
    bytes_decided g lawful shaped malformed other (malformed at) s bytes (are_bytes s) (decided_malformed g shaped malformed s at is)
