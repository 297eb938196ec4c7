-- A symbol is read into the tree of a whole symbol.
use Rattle.cpp_term.proofs.Basics.{◌≡◌, refl, ap, sym, subst, ◌∙◌, ℕ, ◌+◌, List, [], ◌∷◌, length, Bool, true, false, cond, Some, None, Result, Ok, lit≤, arith, true≢false, Refusal, Kind as OfKind, Tree, branch, empty, token, fixed, IsTree, Found, Open, ◌>>=◌, Production, SYMBOL, number_of_kind, pick, kinds, may_be_empty, wide_alternatives, wide_choose, wide, wide_sheet, sheet_with, production_at, byte_of, differs, ok_same, behind_bind, at_number, known, chosen_rule}
use Rattle.sym_link.specs.Unfold.{found, alone, standing, unfold_tree, unfold_forest}
use Rattle.cpp_grammar.specs.declared.kind.Kind.{Kind}
use Rattle.cpp_grammar.specs.Term as plain_
use Rattle.cpp_grammar.specs.Unfolding as plain_unfolding
use Rattle.cpp_grammar.specs.Rescoping as plain_wide
use Rattle.cpp_term.specs.Term.{Term, symbol}
use Rattle.cpp_term.specs.Values.{State, Around, Value, tree, tree_of, text_of, part}
use Rattle.cpp_term.specs.Meaning.{meaning}
use Rattle.cpp_term.specs.Unfolding.{behind, close, cpp, first_around, first_state, first_tree, unfold_cpp}
use Rattle.cpp_term.specs.Rescoping.{cpp_wide}
use Rattle.cpp_term.specs.ReadAs.{IsReadAs}
use Rattle.cpp_term.proofs.NotedWays.{NotedWay, reading_noted_by, abi_noted, wide_noted, IsPlainNoted, abi_is_noted, wide_is_noted}
use Rattle.cpp_term.proofs.Erasing.{IsSymbolTree, reading_stands, wide_reading_stands}

first_kind : (kind : Kind) → 0 ≡ number_of_kind kind → kind ≡ Kind.Symbol
unfolding number_of_kind
first_kind Kind.Symbol e = refl
first_kind _ e = absurd (omega (arith, e))

picked_symbol : (b : Bool) (p : Production) → cond b (Some Production.Symbol) None ≡ Some p → p ≡ Production.Symbol
picked_symbol true p e = cc
picked_symbol false p e = absurd cc

symbol_alone : (byte : ℕ) (p : Production) → wide_choose Kind.Symbol byte ≡ Some p → p ≡ Production.Symbol
unfolding wide_choose wide_alternatives pick
symbol_alone byte p e = picked_symbol _ p e

symbol_there : wide.may_be_empty 0 ≡ false
unfolding wide wide_sheet sheet_with kinds may_be_empty
symbol_there = refl

-- the values are one tree, that of an encoding with what follows it
pub record IsWhole (values : List Value) : Type 0 where
  pub encoding : Term
  pub suffix : List ℕ
  pub one : values ≡ tree (symbol encoding suffix) true ∷ []

module _ (noted_way : NotedWay) (apart : IsPlainNoted noted_way) where
  pub whole_reading : (shape : Tree) (r : Found (List Value) State) → IsTree wide (OfKind SYMBOL) shape → unfold_tree (reading_noted_by noted_way) first_around 0 shape first_state ≡ Ok r → IsWhole r.value
  unfolding differs reading_noted_by close meaning
  whole_reading (branch rule taken parts) r is e =
      let whole : Open State Around = standing rule taken 0 first_around first_state in
      let byte = byte_of taken in
      let c = chosen_rule SYMBOL rule taken (known 0 (lit≤ tt)) is.0 in
      let only : c.production ≡ Production.Symbol = symbol_alone c.byte c.production (sym (ap (λ k. wide_choose k c.byte) (first_kind c.kind c.number)) ∙ c.chosen) in
      let number : production_at rule.number ≡ Production.Symbol = ap (λ x. production_at x.number) c.is ∙ at_number c.production ∙ only in
      let begun = behind_bind (noted_way.opening (production_at rule.number) first_around parts 0 first_state)
      (λ begun. unfold_forest (reading_noted_by noted_way) whole [] (0 + length taken) parts begun >>= λ inner. noted_way.close (production_at rule.number) byte first_around 0 first_state inner.value inner.state >>= alone) r e in
      let inner = behind_bind (unfold_forest (reading_noted_by noted_way) whole [] (0 + length taken) parts begun.value)
      (λ inner. noted_way.close (production_at rule.number) byte first_around 0 first_state inner.value inner.state >>= alone) r begun.next in
      let vs = inner.value.value in
      let ended = behind_bind (noted_way.close (production_at rule.number) byte first_around 0 first_state vs inner.value.state) alone r inner.next in
      let one = ended.value in
      let same : found (one.value ∷ []) one.state ≡ r = ok_same (found (one.value ∷ []) one.state) r ended.next in
      let closed : close Production.Symbol byte first_around 0 first_state vs inner.value.state ≡ Ok one = sym (ap (λ q. noted_way.close q byte first_around 0 first_state vs inner.value.state) number ∙ apart.close Production.Symbol refl byte first_around 0 first_state vs inner.value.state) ∙ ended.is in
      let means = ok_same (found (meaning Production.Symbol byte first_around vs) (behind Production.Symbol byte first_around first_state vs inner.value.state)) one closed in
      record {
        encoding = tree_of (part vs 1);
        suffix = text_of (part vs 2);
        one = sym (ap (λ x. x.value) same) ∙ sym (ap (λ x. x.value ∷ []) means);
      }
  whole_reading empty r is e = absurd (true≢false (sym is ∙ symbol_there))
  whole_reading (token u) r is e = absurd is
  whole_reading (fixed byte) r is e = absurd is

read_by : (stands_for : Result plain_.Term Refusal) (values : List Value) → IsWhole values → IsSymbolTree stands_for (first_tree values) → IsReadAs stands_for values
unfolding first_tree tree_of
read_by stands_for values w stands =
    let is : IsSymbolTree stands_for (symbol w.encoding w.suffix) = subst (λ vs. IsSymbolTree stands_for (first_tree vs)) w.one stands in
    record { encoding = w.encoding; suffix = w.suffix; one = w.one; plain = is.plain; carries = is.carries }

pub read_as : (shape : Tree) (r : Found (List Value) State) → IsTree wide (OfKind SYMBOL) shape → unfold_tree cpp first_around 0 shape first_state ≡ Ok r → IsReadAs (plain_unfolding.unfold_cpp shape) r.value
unfolding cpp reading_noted_by abi_noted
read_as shape r is e = read_by (plain_unfolding.unfold_cpp shape) r.value (whole_reading abi_noted abi_is_noted.plain shape r is e) (reading_stands shape r is e)

pub wide_read_as : (shape : Tree) (r : Found (List Value) State) → IsTree wide (OfKind SYMBOL) shape → unfold_tree cpp_wide first_around 0 shape first_state ≡ Ok r → IsReadAs (plain_wide.unfold_wide shape) r.value
unfolding cpp_wide reading_noted_by wide_noted
wide_read_as shape r is e = read_by (plain_wide.unfold_wide shape) r.value (whole_reading wide_noted wide_is_noted.plain shape r is e) (wide_reading_stands shape r is e)

pub record IsWholeTree (t : Term) : Type 0 where
  pub encoding : Term
  pub suffix : List ℕ
  pub is : t ≡ symbol encoding suffix

pub whole_symbol : (shape : Tree) (t : Term) → IsTree wide (OfKind SYMBOL) shape → unfold_cpp shape ≡ Ok t → IsWholeTree t
unfolding cpp reading_noted_by abi_noted unfold_cpp first_tree tree_of
whole_symbol shape t is e =
    let read = behind_bind (unfold_tree cpp first_around 0 shape first_state) (λ r. Ok (first_tree r.value)) t e in
    let w = whole_reading abi_noted abi_is_noted.plain shape read.value is read.is in
    record { encoding = w.encoding; suffix = w.suffix; is = sym (ok_same (first_tree read.value.value) t read.next) ∙ ap first_tree w.one }
