-- A symbol that was read fits from its first byte on, if its parts fit.
use Rattle.cpp_press_laws.proofs.Basics.{◌≡◌, ℕ, List, [], ◌∷◌, None, Ok, refl, ap, sym, subst, ◌∙◌, arith, false≢true, Tree as Shape, branch, empty, token, fixed, IsTree, Found, ◌>>=◌, found, unfold_tree, Kind, Production, number_of_kind, alternatives, parts_of, may_be_empty, abi, Term, symbol, State, Value, tree_of, text_of, part, between, meaning, empty_at_kind, ok_same, behind_bind, IsReadFrom, SymbolFits, IsSpellableSuffix}
use Rattle.sym_shape.specs.declared.rule.Sym.TheVariants.{Kind as OfKind}
use Rattle.cpp_grammar.specs.Unfolding.{cpp, byte_of, behind, first_around, first_state, first_tree, unfold_cpp}
use Rattle.cpp_grammar.proofs.ClosedTrees.{is_encoding as holds_encoding}
use Rattle.cpp_press_laws.proofs.ByKind.Rules.{all-of, kind-at, one-value}
use Rattle.cpp_press_laws.proofs.ByKind.Packs.{shape-kept}
use Rattle.cpp_press_laws.proofs.Fits.Rests.{symbol-fits}
use Rattle.cpp_press_laws.proofs.Fits.Symbols.{WholeFits}
use Rattle.cpp_press_laws.proofs.ByKind.Known.{InFront, ShapeRead, OpenedRead, opened-read, comes-as}

-- what is known before the first byte
pub first-front : InFront (OfKind (number_of_kind Kind.Symbol)) first_around 0 first_state
unfolding first_around first_state number_of_kind holds_encoding
first-front = record {
  placed = record { lambda = λ is. absurd (false≢true is); encoding = omega arith; old = tt };
  opening = λ is. absurd (false≢true is);
  prefix = tt;
}

-- a property of each tree of a symbol, and of the state after its encoding, if the encoding fits
abbrev pub OfSymbols : (Q : Term → State → Type 0) → Type 0
OfSymbols Q =
    (e : Term) (suffix : List ℕ) (new : State) → WholeFits first_around e first_state new → new.packs ≡ None → IsSpellableSuffix suffix
    → Q (symbol e suffix) new

symbol-arm : (Q : Term → State → Type 0) → OfSymbols Q → (v : Value) (new : State)
    → OpenedRead Kind.Symbol first_around 0 first_state v new Production.Symbol → Q (tree_of v) new
unfolding parts_of between meaning behind part tree_of first_around first_state
symbol-arm Q each v new o =
    let a = o.goes tt in
    let b = a.onward in
    let c = b.onward in
    let e = b.read Kind.Encoding refl in
    let packs : b.after.packs ≡ a.after.packs =
    shape-kept b.shape first_around _ a.after (found (b.value ∷ []) b.after) refl b.unfolds in
    let before : a.after ≡ first_state = a.read.0 in
    let last = c.read Kind.MaybeSuffix refl in
    comes-as (λ w s. Q (tree_of w) s) Production.Symbol tt (byte_of o.taken) first_around 0 first_state
    (a.value ∷ b.value ∷ c.value ∷ []) c.after v new c.onward
    (subst (λ s. Q (symbol (tree_of b.value) (text_of c.value)) s) (sym last.0)
    (each (tree_of b.value) (text_of c.value) b.after
    (subst (λ s. WholeFits first_around (tree_of b.value) s b.after) before e.fits) (packs ∙ ap (λ s. s.packs) before) last.1))

-- such a property holds of each tree that a symbol of the grammar is read as, from the value of its shape
symbol-read : (Q : Term → State → Type 0) → OfSymbols Q → ((t : Shape) → ShapeRead t) → (shape : Shape) (v : Value) (new : State)
    → IsTree abi (OfKind (number_of_kind Kind.Symbol)) shape
    → unfold_tree cpp first_around 0 shape first_state ≡ Ok (found (v ∷ []) new) → Q (tree_of v) new
unfolding alternatives may_be_empty
symbol-read Q each read (branch rule taken parts) v new is e =
    let o = opened-read Kind.Symbol rule taken parts (all-of ShapeRead read parts) first_around 0 first_state v new first-front is e in
    symbol-arm Q each v new o
symbol-read Q each read empty v new is e =
    absurd (false≢true (sym (empty_at_kind (number_of_kind Kind.Symbol) Kind.Symbol (kind-at Kind.Symbol)) ∙ is))
symbol-read Q each read (token t) v new is e = absurd is
symbol-read Q each read (fixed b) v new is e = absurd is

-- such a property holds of each tree that a symbol is read as, since every shape was read
pub read-as : (Q : Term → State → Type 0) → OfSymbols Q → ((t : Shape) → ShapeRead t) → (shape : Shape) (t : Term) → IsReadFrom shape t
    → (r : Found (List Value) State) → unfold_tree cpp first_around 0 shape first_state ≡ Ok r → Q t r.state
unfolding unfold_cpp first_tree number_of_kind
read-as Q each read shape t (is, e) r unfolds =
    let one = one-value shape first_around 0 first_state r unfolds in
    let same : tree_of one.value ≡ t =
    ap (λ w. first_tree (Found.value w)) (sym one.is) ∙ ok_same (first_tree r.value) t
    (sym (ap (λ w. w >>= λ whole. Ok (first_tree whole.value)) unfolds) ∙ e) in
    subst (λ u. Q u r.state) same
    (symbol-read Q each read shape one.value r.state is (unfolds ∙ ap (λ w. Ok w) one.is))

-- the tree that a symbol is read as fits
pub read-fits : ((t : Shape) → ShapeRead t) → (shape : Shape) (t : Term) → IsReadFrom shape t → SymbolFits t
unfolding unfold_cpp first_tree
read-fits read shape t (is, e) =
    let whole = behind_bind (unfold_tree cpp first_around 0 shape first_state) (λ r. Ok (first_tree r.value)) t e in
    read-as (λ u s. SymbolFits u) symbol-fits read shape t (is, e) whole.value whole.is
