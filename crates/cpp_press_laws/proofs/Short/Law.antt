-- The tree that a symbol is read as has at most 64 pressed bytes for each byte of the symbol.
use Rattle.cpp_press_laws.proofs.Basics.{◌≡◌, ℕ, ◌+◌, ◌*◌, ◌≤◌, length, [], ◌∷◌, true, Result, Ok, Err, refl, ap, sym, subst, ◌∙◌, arith, false≢true, Refusal, Malformed, Tree as Shape, branch, empty, token, fixed, spell, IsTree, found, unfold_tree, Kind, Production, alternatives, number_of_kind, parts_of, is_chain, may_be_empty, abi, Term, symbol, State, Value, tree, tree_of, text_of, between, meaning, close, cpp, first_around, first_state, first_tree, unfold_cpp, empty_at_kind, ok_same, behind_bind, components_of, pressed, spelled_components, marked_components, unmarked}
use Rattle.sym_core.specs.declared.TheConstants.{MOST_BYTES}
use Rattle.sym_shape.specs.declared.rule.Sym.TheVariants.{Kind as OfKind}
use Rattle.sym_demangle.specs.Mangled.{misshapen, well_shaped}
use Rattle.cpp_grammar.specs.Values as values
use Rattle.cpp_grammar.specs.Unfolding as unfolding_
use Rattle.cpp_press_laws.specs.Short.{PressedIsShort}
use Rattle.cpp_press_laws.proofs.Ways as way
use Rattle.cpp_press_laws.proofs.ByKind.Rules.{all-of, kind-at, one-value}
use Rattle.cpp_press_laws.proofs.Components.Apart.{components-apart, components-marked}
use Rattle.cpp_press_laws.proofs.Components.FewPressed.{components-worth}
use Rattle.cpp_press_laws.proofs.Short.Size.{size}
use Rattle.cpp_press_laws.proofs.Short.Spelled.{costs, unmarked-length, all-short}
use Rattle.cpp_press_laws.proofs.Short.Worth.{worths, worths-count}
use Rattle.cpp_press_laws.proofs.Short.Slots.{costs-most}
use Rattle.cpp_press_laws.proofs.Short.Gains.{wealth, AllSmall, class_of, grant, SmallPrefix, Ready, ready_for, need, loan, returned, Gained, ShapeGains}
use Rattle.cpp_press_laws.proofs.Short.Paid.{Ended, comes-to, ended-of}
use Rattle.cpp_press_laws.proofs.Short.Lists.{held-text}
use Rattle.cpp_press_laws.proofs.Short.Every.{shape-gains}

-- ## A symbol's bytes

symbol-gains : (v : Value) (new : State) (b : ℕ) → Ended Production.Symbol first_around 0 first_state v new b → wealth new + size (tree_of v) ≤ 8 * b
unfolding parts_of between is_chain close unfolding_.behind meaning values.part class_of grant Gained Ready ready_for need loan returned SmallPrefix first_around first_state tree_of size AllSmall worths components_of
symbol-gains v new b o =
    let p0 = o.paid in
    let g0 = p0.gains in
    let p1 = p0.onward in
    let g1 = p1.gains Kind.Encoding refl tt tt (subst (λ s. AllSmall s.candidates) (sym g0.0) tt) in
    let p2 = p1.onward in
    let g2 = p2.gains Kind.MaybeSuffix refl tt tt g1.small in
    comes-to (λ w s. wealth s + size (tree_of w) ≤ 8 * b) o (p0.value ∷ p1.value ∷ p2.value ∷ []) p2.after
    (tree (symbol (tree_of p1.value) (text_of p2.value)) true) p2.after p2.onward.0 refl
    (omega (arith, o.sum, ap (λ s. wealth s) g0.0, g0.1, p0.sum, g1.few, p1.sum, g2.few, p2.sum, p2.onward.1, held-text p2.value))

symbol-paid : (shape : Shape) (v : Value) (new : State) → IsTree abi (OfKind (number_of_kind Kind.Symbol)) shape
    → unfold_tree cpp first_around 0 shape first_state ≡ Ok (found (v ∷ []) new) → wealth new + size (tree_of v) ≤ 8 * length (spell shape)
unfolding alternatives may_be_empty
symbol-paid (branch rule taken parts) v new is e =
    let o = ended-of Kind.Symbol rule taken parts (all-of ShapeGains shape-gains parts) first_around 0 first_state v new is e in
    symbol-gains v new (length (spell (branch rule taken parts))) o
symbol-paid empty v new is e =
    absurd (false≢true (sym (empty_at_kind (number_of_kind Kind.Symbol) Kind.Symbol (kind-at Kind.Symbol)) ∙ is))
symbol-paid (token t) v new is e = absurd is
symbol-paid (fixed b) v new is e = absurd is

-- ## Pressed bytes

most-bytes : MOST_BYTES ≡ 16777216
most-bytes = refl

spelled-short : (t : Term) (wealth_ b : ℕ) → worths [] (spelled_components t) ≤ wealth_ → wealth_ + size t ≤ 8 * b → b ≤ 16777216
    → length (pressed t) ≤ 64 * b
unfolding marked_components spelled_components costs
spelled-short t wealth_ b worth_ paid fits =
    let marked = components-marked t in
    let few : length (unmarked (marked_components t)) ≤ worths [] (unmarked (marked_components t)) =
    worths-count [] (unmarked (marked_components t)) in
    let same : worths [] (unmarked (marked_components t)) ≡ worths [] (spelled_components t) = ap (worths []) marked.1 in
    let one = (all-short t 0 way.as_encoding) 0 [] in
    omega (
      arith,
      ap length marked.0,
      one.short (omega (arith, few, same, worth_, paid, fits, unmarked-length (marked_components t))),
      costs-most t (marked_components t) (components-apart t),
      same,
      worth_,
      paid,
    )

read-short : (shape : Shape) (t : Term) → IsTree abi (OfKind 0) shape → unfold_cpp shape ≡ Ok t → length (spell shape) ≤ 16777216
    → length (pressed t) ≤ 64 * length (spell shape)
unfolding unfold_cpp first_tree number_of_kind
read-short shape t is e fits =
    let whole = behind_bind (unfold_tree cpp first_around 0 shape first_state) (λ r. Ok (first_tree r.value)) t e in
    let one = one-value shape first_around 0 first_state whole.value whole.is in
    let same : tree_of one.value ≡ t = ap (λ r. first_tree r.value) (sym one.is) ∙ ok_same (first_tree whole.value.value) t whole.next in
    let paid : wealth whole.value.state + size (tree_of one.value) ≤ 8 * length (spell shape) =
    symbol-paid shape one.value whole.value.state is (whole.is ∙ ap (λ r. Ok r) one.is) in
    spelled-short t (wealth whole.value.state) (length (spell shape)) (components-worth shape t (is, e) whole.value whole.is).1
    (omega (arith, paid, ap size same)) fits

pub pressed-short : PressedIsShort
pressed-short t s fits (misshapen at is e) =
    let clash : ◌≡◌ {A = Result Term Refusal} (Ok t) (Err (Malformed at)) = e in absurd cc
pressed-short t s fits (well_shaped (shape, is, spelled, e)) =
    subst (λ bytes. length (pressed t) ≤ 64 * length bytes) spelled
    (read-short shape t is (sym e) (omega (arith, fits, most-bytes, ap length spelled)))
