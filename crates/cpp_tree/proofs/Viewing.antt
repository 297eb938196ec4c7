-- What is seen of a node.
use Rattle.cpp_tree.proofs.Basics.{◌≡◌, subst, arith, lit≤, ℕ, ◌<◌, ◌≤◌, List, [], ◌∷◌, length, All-nil, All-cons, Span, erase, Node, NodeView, fields_of, Table, tree_of, trees, IsWithin, IsBelow, AreBelow, AreWithin, IsSeen, seen_of, seen_fields, no_text}
use Rattle.std.specs.List.{All}

pub none-within : (s : List ℕ) → IsWithin no_text s
none-within s = (omega arith, omega arith)

texts-within : (s : List ℕ) (text : Span) → IsWithin text s → AreWithin s (text ∷ no_text ∷ [])
texts-within s text within = All-cons (λ t. IsWithin t s) text (no_text ∷ []) within (All-cons (λ t. IsWithin t s) no_text [] (none-within s) (All-nil (λ t. IsWithin t s)))

one-below : (n part : ℕ) → part < n → All (λ p. p < n) (part ∷ [])
one-below n part h = All-cons (λ p. p < n) part [] h (All-nil (λ p. p < n))

two-below : (n part next : ℕ) → part < n → next < n → All (λ p. p < n) (part ∷ next ∷ [])
two-below n part next h i = All-cons (λ p. p < n) part (next ∷ []) h (one-below n next i)

-- a bound on a node's parts also bounds those of an equal node
pub below-as : (y : Table) (m : ℕ) {n shown : Node} → n ≡ shown → IsBelow y.bytes (length y.thunks) m n → IsBelow y.bytes (length y.thunks) m shown
below-as y m is below = subst (IsBelow y.bytes (length y.thunks) m) is below

pub told-name : (y : Table) {n shown : Node} {seen : NodeView} → n ≡ shown → seen_fields y seen ≡ fields_of (erase (tree_of y.bytes y.thunks (trees y) shown)) → AreWithin y.bytes seen.node.texts
    → ((k : ℕ) → IsBelow y.bytes (length y.thunks) k shown → AreBelow k seen) → seen.node.parts ≤ 3 → IsSeen y n seen
told-name y is fields texts parts few = rw is (record { fields = fields; texts = texts; parts = parts; few = few })

pub told-one : (y : Table) {n shown : Node} {seen : NodeView} {part : ℕ} → n ≡ shown → seen_fields y seen ≡ fields_of (erase (tree_of y.bytes y.thunks (trees y) shown))
    → AreWithin y.bytes seen.node.texts → seen.parts ≡ part ∷ 0 ∷ 0 ∷ [] → seen.node.parts ≡ 1 → ((k : ℕ) → IsBelow y.bytes (length y.thunks) k shown → part < k) → IsSeen y n seen
told-one y {part = part} is fields texts parts count held = told-name y is fields texts (λ k b. rw (count, parts) (one-below k part (held k b))) (omega (arith, count))

pub told-two : (y : Table) {n shown : Node} {seen : NodeView} {part next : ℕ} → n ≡ shown → seen_fields y seen ≡ fields_of (erase (tree_of y.bytes y.thunks (trees y) shown))
    → AreWithin y.bytes seen.node.texts → seen.parts ≡ part ∷ next ∷ 0 ∷ [] → seen.node.parts ≡ 2
    → ((k : ℕ) → IsBelow y.bytes (length y.thunks) k shown → (part < k) × (next < k)) → IsSeen y n seen
told-two y {part = part} {next = next} is fields texts parts count held =
    told-name y is fields texts (λ k b. rw (count, parts) (two-below k part next (held k b).0 (held k b).1)) (omega (arith, count))

-- The node's view has these numbers and texts, and this many parts.
seen-by : (y : Table) (m : ℕ) {n shown : Node} {seen : NodeView} {production first second a b count : ℕ} {text : Span} {parts : List ℕ}
    → n ≡ shown → IsBelow y.bytes (length y.thunks) m n → seen ≡ seen_of production (first ∷ second ∷ []) (text ∷ no_text ∷ []) count parts
    → first ≡ a → second ≡ b → seen_fields y (seen_of production (a ∷ b ∷ []) (text ∷ no_text ∷ []) count parts) ≡ fields_of (erase (tree_of y.bytes y.thunks (trees y) shown))
    → ((k : ℕ) → IsBelow y.bytes (length y.thunks) k shown → IsWithin text y.bytes × AreBelow k (seen_of production (a ∷ b ∷ []) (text ∷ no_text ∷ []) count parts))
    → count ≤ 3 → IsSeen y n seen
seen-by y m {text = text} is below seen-is first-is second-is fields held few = rw (is, seen-is, first-is, second-is) (record {
  fields = fields;
  texts = texts-within y.bytes text (held m (below-as y m is below)).0;
  parts = λ k h. (held k h).1;
  few = few;
})

pub seen-none : (y : Table) (m : ℕ) {n shown : Node} {seen : NodeView} {production first second a b : ℕ} {text : Span}
    → n ≡ shown → IsBelow y.bytes (length y.thunks) m n → seen ≡ seen_of production (first ∷ second ∷ []) (text ∷ no_text ∷ []) 0 (0 ∷ 0 ∷ 0 ∷ [])
    → first ≡ a → second ≡ b → seen_fields y (seen_of production (a ∷ b ∷ []) (text ∷ no_text ∷ []) 0 (0 ∷ 0 ∷ 0 ∷ [])) ≡ fields_of (erase (tree_of y.bytes y.thunks (trees y) shown))
    → ((k : ℕ) → IsBelow y.bytes (length y.thunks) k shown → IsWithin text y.bytes) → IsSeen y n seen
seen-none y m is below seen-is first-is second-is fields held = seen-by y m is below seen-is first-is second-is fields (λ k h. (held k h, All-nil (λ p. p < k))) (lit≤ tt)

pub seen-one : (y : Table) (m : ℕ) {n shown : Node} {seen : NodeView} {production first second a b part : ℕ} {text : Span}
    → n ≡ shown → IsBelow y.bytes (length y.thunks) m n → seen ≡ seen_of production (first ∷ second ∷ []) (text ∷ no_text ∷ []) 1 (part ∷ 0 ∷ 0 ∷ [])
    → first ≡ a → second ≡ b → seen_fields y (seen_of production (a ∷ b ∷ []) (text ∷ no_text ∷ []) 1 (part ∷ 0 ∷ 0 ∷ [])) ≡ fields_of (erase (tree_of y.bytes y.thunks (trees y) shown))
    → ((k : ℕ) → IsBelow y.bytes (length y.thunks) k shown → IsWithin text y.bytes × (part < k)) → IsSeen y n seen
seen-one y m {part = part} is below seen-is first-is second-is fields held =
    seen-by y m is below seen-is first-is second-is fields (λ k h. let it = held k h in (it.0, one-below k part it.1)) (lit≤ tt)

pub seen-two : (y : Table) (m : ℕ) {n shown : Node} {seen : NodeView} {production first second a b part next : ℕ} {text : Span}
    → n ≡ shown → IsBelow y.bytes (length y.thunks) m n → seen ≡ seen_of production (first ∷ second ∷ []) (text ∷ no_text ∷ []) 2 (part ∷ next ∷ 0 ∷ [])
    → first ≡ a → second ≡ b → seen_fields y (seen_of production (a ∷ b ∷ []) (text ∷ no_text ∷ []) 2 (part ∷ next ∷ 0 ∷ [])) ≡ fields_of (erase (tree_of y.bytes y.thunks (trees y) shown))
    → ((k : ℕ) → IsBelow y.bytes (length y.thunks) k shown → IsWithin text y.bytes × (part < k) × (next < k)) → IsSeen y n seen
seen-two y m {part = part} {next = next} is below seen-is first-is second-is fields held =
    seen-by y m is below seen-is first-is second-is fields (λ k h. let it = held k h in (it.0, two-below k part next it.1 it.2)) (lit≤ tt)

pub seen-three : (y : Table) (m : ℕ) {n shown : Node} {seen : NodeView} {production first second a b part next last : ℕ} {text : Span}
    → n ≡ shown → IsBelow y.bytes (length y.thunks) m n → seen ≡ seen_of production (first ∷ second ∷ []) (text ∷ no_text ∷ []) 3 (part ∷ next ∷ last ∷ [])
    → first ≡ a → second ≡ b → seen_fields y (seen_of production (a ∷ b ∷ []) (text ∷ no_text ∷ []) 3 (part ∷ next ∷ last ∷ [])) ≡ fields_of (erase (tree_of y.bytes y.thunks (trees y) shown))
    → ((k : ℕ) → IsBelow y.bytes (length y.thunks) k shown → IsWithin text y.bytes × (part < k) × (next < k) × (last < k)) → IsSeen y n seen
seen-three y m {part = part} {next = next} {last = last} is below seen-is first-is second-is fields held =
    seen-by y m is below seen-is first-is second-is fields (λ k h. let it = held k h in (it.0, All-cons (λ p. p < k) part (next ∷ last ∷ []) it.1 (two-below k next last it.2 it.3))) (lit≤ tt)
