-- No step of the writer changes the whole spelling: what is written, followed by what is still to be written.
use Rattle.rust_press.proofs.Basics.{◌≡◌, ℕ, zero, suc, ◌+◌, ◌-◌, ◌<◌, ◌≤◌, ◌^◌, inl, inr, length, List, [], ◌∷◌, ◌++◌, drop, slice_get, slice_set, Option, Some, None, Bool, true, false, refl, ap, arith, sym, subst, ◌∙◌, append_assoc, length-append, same_Some, slice_get_within, ◌==◌, map, get_or, slice_index_or, Span, bytes_at, symbol_in, got-there, length-trees, eqb-true, eq-eqb, Tree, of_symbol, Fields, fields_of, number_in, ReadSymbol, trees_of, fields_at, fields_in, IsView, ◌and◌, text, letter, Component, Pressed, Pressing, number62, reference, component, spelled_out, first_place, pressed, press_path, press_other, same_tree, number_at, AreFirst, front, end, front_bytes, is_component, number_bytes, reference_bytes, press_tree, ending, press_root, AreOfNodes, parts_then, press_some, ending_some, press_task, press_tasks, IsTask, AreTasks, weight_of_tree, weight_of_some, task_weight, weight_of_tasks, ArePushed, ArePlaces, Goes, placed, IsSpelled, IsNodeStep, pressed_symbol, Task, and-assoc-at, and-nothing-at, nothing-and-at}
use Rattle.rust_tree.specs.declared.view.Node.{Node}
use Rattle.std.specs.Option.{option_to_list}
use Rattle.rust_tree.specs.Symbol as tree
use Rattle.rust_press.proofs.PressSteps.{and-same, spelled-then}
use Rattle.rust_press.proofs.Sameness.{equal-tree}
use Rattle.rust_press.proofs.TreeSpellings.{first-same, parts-same, by_fields, is-text, number-text}
use Rattle.rust_press.proofs.Productions.{spelling_of, tree-spells, looked-as, compared-itself, end-none, parts-weight}

-- ## Lists of tasks

pub tasks-push : (y : ReadSymbol) (xs : List Task) (t : Task) (p : ℕ) (cs : List Component) → press_tasks y (xs ++ t ∷ []) p cs ≡ (press_task y t and press_tasks y xs) p cs
tasks-push y [] t p cs = nothing-and-at (press_task y t) p cs ∙ sym (and-nothing-at (press_task y t) p cs)
tasks-push y (x ∷ xs) t p cs =
    first-same (press_tasks y (xs ++ t ∷ [])) (press_task y t and press_tasks y xs) (press_task y x) p cs (tasks-push y xs t p cs)
    ∙ and-assoc-at (press_task y t) (press_tasks y xs) (press_task y x) p cs

pub weight-push : (y : ReadSymbol) (xs : List Task) (t : Task) → weight_of_tasks y (xs ++ t ∷ []) ≡ task_weight y t + weight_of_tasks y xs
unfolding weight_of_tasks
weight-push y [] t = refl
weight-push y (x ∷ xs) t = omega (arith, weight-push y xs t)

pub tasks-more : (y : ReadSymbol) (xs : List Task) (t : Task) → AreTasks y xs → IsTask y t → AreTasks y (xs ++ t ∷ [])
unfolding AreTasks
tasks-more y [] t are is = (is, tt)
tasks-more y (x ∷ xs) t are is = (are.0, tasks-more y xs t are.1 is)

pub tasks-less : (y : ReadSymbol) (xs : List Task) (t : Task) → AreTasks y (xs ++ t ∷ []) → IsTask y t × AreTasks y xs
unfolding AreTasks
tasks-less y [] t are = (are.0, tt)
tasks-less y (x ∷ xs) t are = let more = tasks-less y xs t are.1 in (more.0, (are.0, more.1))

-- ## Parts

dropped : (xs : List Tree) (k : ℕ) → k < length xs → (x : Tree) × (slice_get xs k ≡ Some x) × (drop k xs ≡ x ∷ drop (suc k) xs)
dropped [] k low = absurd (omega (arith, low))
dropped (x ∷ xs) zero low = (x, refl, refl)
dropped (x ∷ xs) (suc k) low = dropped xs k (omega (arith, low))

pushed-one : (y : ReadSymbol) (t : Tree) (rest : List Tree) (old now new : List Task) (node : ℕ) → ArePushed y rest old now → slice_get (trees_of y) node ≡ Some t
    → node < length (trees_of y) → new ≡ now ++ Task.Node node ∷ [] → ArePushed y (t ∷ rest) old new
pushed-one y t rest old now new node h there low is = rw is (record {
  presses = λ p cs. tasks-push y now (Task.Node node) p cs
      ∙ first-same (press_some (slice_get (trees_of y) node)) (press_tree t) (press_tasks y now) p cs (ap (λ o. press_some o p cs) there)
      ∙ and-same (press_tree t) (press_tasks y now) (parts_then rest (press_tasks y old)) h.presses p cs;
  weight = omega (arith, weight-push y now (Task.Node node), ap weight_of_some there, h.weight);
  nodes = λ are. tasks-more y now (Task.Node node) (h.nodes are) low;
})

pub pushed-more : (y : ReadSymbol) (parts : List Tree) (left : ℕ) (old now new : List Task) (node : ℕ) → 0 < left → left ≤ length parts
    → ArePushed y (drop left parts) old now → slice_get (trees_of y) node ≡ slice_get parts (left - 1) → node < length (trees_of y)
    → new ≡ now ++ Task.Node node ∷ [] → ArePushed y (drop (left - 1) parts) old new
pushed-more y parts zero old now new node some low h there room is = absurd (omega (arith, some))
pushed-more y parts (suc k) old now new node some low h there room is =
    let one : suc k - 1 ≡ k = omega arith in
    let d = dropped parts k (omega (arith, low)) in
    let at : slice_get (trees_of y) node ≡ Some d.0 = there ∙ ap (slice_get parts) one ∙ d.1 in
    subst (λ l. ArePushed y l old new) (sym (ap (λ m. drop m parts) one ∙ d.2)) (pushed-one y d.0 (drop (suc k) parts) old now new node h at room is)

-- ## What is written

pub written : (h : Pressing) (out b after whole : List ℕ) (cs : List Component) → after ≡ out ++ b → out ++ ((text b and h) (length out) cs).bytes ≡ whole
    → after ++ (h (length after) cs).bytes ≡ whole
written h out b after whole cs is so =
    ap (λ l. l ++ (h (length l) cs).bytes) is
    ∙ ap (λ n. (out ++ b) ++ (h n cs).bytes) (length-append out b)
    ∙ append_assoc out b (h (length out + length b) cs).bytes ∙ so

written-components : (h : Pressing) (out b after : List ℕ) (cs : List Component) → after ≡ out ++ b
    → (h (length after) cs).components ≡ ((text b and h) (length out) cs).components
written-components h out b after cs is = ap (λ l. (h (length l) cs).components) is ∙ ap (λ n. (h n cs).components) (length-append out b)

reference-text : (place p : ℕ) (cs : List Component) → reference place p cs ≡ text (reference_bytes place) p cs
unfolding reference_bytes
reference-text place p cs = is-text (letter 66) (number62 (place - 2)) (66 ∷ []) (number_bytes (place - 2)) (λ q ds. refl) (number-text (place - 2)) p cs

-- a component is a reference if its place is known, and otherwise it is spelled out
component-known : (t : Tree) (f : Pressing) (place p : ℕ) (cs : List Component) → first_place t cs ≡ Some place → component t f p cs ≡ reference place p cs
component-known t f place p cs is = rw is refl

component-new : (t : Tree) (f : Pressing) (p : ℕ) (cs : List Component) → first_place t cs ≡ None → component t f p cs ≡ spelled_out t f p cs
component-new t f p cs is = rw is refl

-- what a node's tree and the rest write, for each kind of step
known-step : (t : Tree) (old : Pressing) (place p : ℕ) (cs : List Component) → is_component (fields_of t).production ≡ true → first_place t cs ≡ Some place
    → (press_tree t and old) p cs ≡ (text (reference_bytes place) and old) p cs
known-step t old place p cs is known =
    first-same (press_tree t) (text (reference_bytes place)) old p cs
    (ap (λ f. f p cs) (looked-as t true is) ∙ component-known t (spelling_of t) place p cs known ∙ reference-text place p cs)

new-step : (t : Tree) (old : Pressing) (p : ℕ) (cs : List Component) → number_in (fields_of t) 0 < 2 ^ 64 → is_component (fields_of t).production ≡ true → first_place t cs ≡ None
    → (press_tree t and old) p cs ≡ by_fields (fields_of t) (ending p t and old) p cs
new-step t old p cs small is none =
    first-same (press_tree t) (spelled_out t (spelling_of t)) old p cs (ap (λ f. f p cs) (looked-as t true is) ∙ component-new t (spelling_of t) p cs none)
    ∙ spelled-then t (spelling_of t) old p cs
    ∙ tree-spells t small (ending p t and old) p cs

plain-step : (t : Tree) (old : Pressing) (p : ℕ) (cs : List Component) → number_in (fields_of t) 0 < 2 ^ 64 → is_component (fields_of t).production ≡ false
    → (press_tree t and old) p cs ≡ (text (front (fields_of t)) and parts_then (fields_of t).parts old) p cs
plain-step t old p cs small is =
    ap (λ f. (f and old) p cs) (looked-as t false is)
    ∙ tree-spells t small old p cs
    ∙ and-same (text (front (fields_of t))) _ _ (parts-same (fields_of t).parts (text (end (fields_of t)) and old) old
    (λ q ds. ap (λ b. (text b and old) q ds) (end-none (fields_of t).production (number_in (fields_of t) 1) _ is) ∙ nothing-and-at old q ds)) p cs

-- ## A step at a node

-- the state after a step at a node
pub record Left (y : ReadSymbol) (numbers : List ℕ) (whole : Pressed) (older new : List Task) (node : ℕ) (places : List (Option ℕ)) (after : List ℕ) : Type 0 where
  pub goes : Goes y numbers whole new places after
  pub fewer : weight_of_tasks y new < task_weight y (Task.Node node) + weight_of_tasks y older

-- the state at a node: the tree and the components so far
pub record At (y : ReadSymbol) (numbers : List ℕ) (whole : Pressed) (older : List Task) (node : ℕ) (t : Tree) (places : List (Option ℕ)) (out : List ℕ) (cs : List Component) : Type 0 where
  pub there : slice_get (trees_of y) node ≡ Some t
  pub places_are : ArePlaces y numbers places cs
  pub of_nodes : AreOfNodes (trees_of y) cs
  pub tasks : AreTasks y older
  pub is_here : node < length (trees_of y)
  pub bytes : out ++ ((press_tree t and press_tasks y older) (length out) cs).bytes ≡ whole.bytes
  pub spelled : ((press_tree t and press_tasks y older) (length out) cs).components ≡ whole.components

node-left : (y : ReadSymbol) (numbers : List ℕ) (whole : Pressed) (older new : List Task) (node : ℕ) (t : Tree) (places : List (Option ℕ)) (out after b : List ℕ) (cs : List Component)
    → At y numbers whole older node t places out cs → (press_tree t and press_tasks y older) (length out) cs ≡ (text b and press_tasks y new) (length out) cs → after ≡ out ++ b
    → AreTasks y new → weight_of_tasks y new < weight_of_tree t + weight_of_tasks y older → Left y numbers whole older new node places after
node-left y numbers whole older new node t places out after b cs at same is are fewer = record {
  goes = record {
    components = cs;
    places_are = at.places_are;
    of_nodes = at.of_nodes;
    nodes = are;
    bytes = written (press_tasks y new) out b after whole.bytes cs is (ap (λ one. out ++ one.bytes) (sym same) ∙ at.bytes);
    spelled = written-components (press_tasks y new) out b after cs is ∙ ap (λ one. one.components) (sym same) ∙ at.spelled;
  };
  fewer = omega (arith, fewer, ap weight_of_some at.there);
}

fields-there : (y : ReadSymbol) (node : ℕ) (t : Tree) → slice_get (trees_of y) node ≡ Some t → fields_at y node ≡ fields_of t
fields-there y node t there = ap fields_in there

known-left : (y : ReadSymbol) (numbers : List ℕ) (whole : Pressed) (older new : List Task) (node : ℕ) (t : Tree) (places : List (Option ℕ)) (out after : List ℕ) (cs : List Component) (place : ℕ)
    → At y numbers whole older node t places out cs → is_component (fields_of t).production ≡ true → slice_get places (number_at numbers node) ≡ Some (Some place)
    → new ≡ older → after ≡ out ++ reference_bytes place → Left y numbers whole older new node places after
known-left y numbers whole older new node t places out after cs place at is known same written_is =
    let first : first_place t cs ≡ Some place = same_Some _ _ (sym (at.places_are node t at.there) ∙ known) in
    node-left y numbers whole older new node t places out after (reference_bytes place) cs at
    (known-step t (press_tasks y older) place (length out) cs is first ∙ ap (λ l. (text (reference_bytes place) and press_tasks y l) (length out) cs) (sym same)) written_is
    (subst (AreTasks y) (sym same) at.tasks) (omega (arith, ap (weight_of_tasks y) same, parts-weight t))

new-left : (y : ReadSymbol) (numbers : List ℕ) (whole : Pressed) (older new : List Task) (node : ℕ) (t : Tree) (places : List (Option ℕ)) (out after : List ℕ) (cs : List Component)
    → At y numbers whole older node t places out cs → is_component (fields_of t).production ≡ true → slice_get places (number_at numbers node) ≡ Some None
    → number_in (fields_of t) 0 < 2 ^ 64 → ArePushed y (fields_of t).parts (older ++ Task.Ended node (length out) ∷ []) new → after ≡ out ++ front (fields_of t)
    → Left y numbers whole older new node places after
new-left y numbers whole older new node t places out after cs at is unknown small pushed written_is =
    let first : first_place t cs ≡ None = same_Some _ _ (sym (at.places_are node t at.there) ∙ unknown) in
    let ended : Task = Task.Ended node (length out) in
    let given : fields_at y node ≡ fields_of t = fields-there y node t at.there in
    node-left y numbers whole older new node t places out after (front (fields_of t)) cs at
    (new-step t (press_tasks y older) (length out) cs small is first
    ∙ and-same (text (front (fields_of t))) _ _ (λ q ds.
    parts-same (fields_of t).parts (text (end (fields_of t)) and (ending (length out) t and press_tasks y older)) (press_tasks y (older ++ ended ∷ []))
    (λ r es. sym (tasks-push y older ended r es
    ∙ ap (λ g. ((text (end g) and ending_some (length out) (slice_get (trees_of y) node)) and press_tasks y older) r es) given
    ∙ ap (λ o. ((text (end (fields_of t)) and ending_some (length out) o) and press_tasks y older) r es) at.there
    ∙ and-assoc-at (text (end (fields_of t))) (ending (length out) t) (press_tasks y older) r es)) q ds
    ∙ sym (pushed.presses q ds)) (length out) cs)
    written_is
    (pushed.nodes (tasks-more y older ended at.tasks (at.is_here, ap (λ g. is_component g.production) given ∙ is)))
    (omega (arith, pushed.weight, weight-push y older ended, parts-weight t))

plain-left : (y : ReadSymbol) (numbers : List ℕ) (whole : Pressed) (older new : List Task) (node : ℕ) (t : Tree) (places : List (Option ℕ)) (out after : List ℕ) (cs : List Component)
    → At y numbers whole older node t places out cs → is_component (fields_of t).production ≡ false
    → number_in (fields_of t) 0 < 2 ^ 64 → ArePushed y (fields_of t).parts older new → after ≡ out ++ front (fields_of t)
    → Left y numbers whole older new node places after
plain-left y numbers whole older new node t places out after cs at is small pushed written_is =
    node-left y numbers whole older new node t places out after (front (fields_of t)) cs at
    (plain-step t (press_tasks y older) (length out) cs small is
    ∙ and-same (text (front (fields_of t))) _ _ (λ q ds. sym (pushed.presses q ds)) (length out) cs)
    written_is (pushed.nodes at.tasks) (omega (arith, pushed.weight, parts-weight t))

step-left : (y : ReadSymbol) (numbers : List ℕ) (whole : Pressed) (older new : List Task) (node : ℕ) (t : Tree) (given : Fields) (places : List (Option ℕ)) (out after : List ℕ) (cs : List Component)
    → At y numbers whole older node t places out cs → fields_at y node ≡ given → given ≡ fields_of t → IsNodeStep y node (number_at numbers node) places older out new after
    → Left y numbers whole older new node places after
step-left y numbers whole older new node t given places out after cs at one two (inl (is, inl (place, known, same, bytes))) =
    known-left y numbers whole older new node t places out after cs place at (sym (ap (λ g. is_component g.production) (one ∙ two)) ∙ is) known same bytes
step-left y numbers whole older new node t given places out after cs at one two (inl (is, inr (unknown, s))) =
    new-left y numbers whole older new node t places out after cs at (sym (ap (λ g. is_component g.production) (one ∙ two)) ∙ is) unknown
    (subst (λ g. number_in g 0 < 2 ^ 64) (one ∙ two) s.small) (subst (λ g. ArePushed y g.parts (older ++ Task.Ended node (length out) ∷ []) new) (one ∙ two) s.pushed)
    (s.bytes ∙ ap (λ g. out ++ front g) (one ∙ two))
step-left y numbers whole older new node t given places out after cs at one two (inr (is, s)) =
    plain-left y numbers whole older new node t places out after cs at (sym (ap (λ g. is_component g.production) (one ∙ two)) ∙ is)
    (subst (λ g. number_in g 0 < 2 ^ 64) (one ∙ two) s.small) (subst (λ g. ArePushed y g.parts older new) (one ∙ two) s.pushed)
    (s.bytes ∙ ap (λ g. out ++ front g) (one ∙ two))

pub node-goes : (y : ReadSymbol) (numbers : List ℕ) (whole : Pressed) (tasks older new : List Task) (node : ℕ) (places : List (Option ℕ)) (out after : List ℕ)
    → Goes y numbers whole tasks places out → tasks ≡ older ++ Task.Node node ∷ [] → IsNodeStep y node (number_at numbers node) places older out new after
    → Goes y numbers whole new places after × (weight_of_tasks y new < weight_of_tasks y tasks)
node-goes y numbers whole tasks older new node places out after g is s =
    let split = tasks-less y older (Task.Node node) (subst (AreTasks y) is g.nodes) in
    let own = got-there (trees_of y) node split.0 in
    let t : Tree = own.0 in
    let same : press_tasks y tasks (length out) g.components ≡ (press_tree t and press_tasks y older) (length out) g.components =
    ap (λ l. press_tasks y l (length out) g.components) is ∙ tasks-push y older (Task.Node node) (length out) g.components
    ∙ ap (λ o. (press_some o and press_tasks y older) (length out) g.components) own.1 in
    let at : At y numbers whole older node t places out g.components = record {
      there = own.1;
      places_are = g.places_are;
      of_nodes = g.of_nodes;
      tasks = split.1;
      is_here = split.0;
      bytes = ap (λ one. out ++ one.bytes) (sym same) ∙ g.bytes;
      spelled = ap (λ one. one.components) (sym same) ∙ g.spelled;
    } in
    let left = step-left y numbers whole older new node t (fields_of t) places out after g.components at (fields-there y node t own.1) refl s in
    (left.goes, omega (arith, left.fewer, ap (weight_of_tasks y) is, weight-push y older (Task.Node node)))

-- ## What the code has of a node

first-text : (f : Span → List ℕ) (spans : List Span) (texts : List (List ℕ)) (d : Span) → length spans ≡ 2 → map f spans ≡ texts → f (get_or spans 0 d) ≡ slice_index_or texts 0 []
first-text f [] texts d long is = absurd (omega (arith, long))
first-text f (x ∷ xs) texts d long is = ap (λ l. slice_index_or l 0 []) is

front-is : (s : List ℕ) (view : Node) (given : Fields) (t : List ℕ) → length view.texts ≡ 2 → IsView s view given → t ≡ bytes_at s (get_or view.texts 0 (record { from = 0; to = 0 }))
    → front_bytes view.production (get_or view.numbers 0 0) (get_or view.numbers 1 0) t ≡ front given
front-is s view given t long h is =
    ap (λ p. front_bytes p (get_or view.numbers 0 0) (get_or view.numbers 1 0) t) h.production
    ∙ ap (λ ns. front_bytes given.production (get_or ns 0 0) (get_or ns 1 0) t) h.numbers
    ∙ ap (front_bytes given.production (get_or given.numbers 0 0) (get_or given.numbers 1 0)) (is ∙ first-text (bytes_at s) view.texts given.texts (record { from = 0; to = 0 }) long h.texts)

pub spelled-is : (y : ReadSymbol) (node : ℕ) (view : Node) (t : List ℕ) (old : List Task) (out : List ℕ) (new : List Task) (after : List ℕ)
    → length view.texts ≡ 2 → IsView y.bytes view (fields_at y node) → t ≡ bytes_at y.bytes (get_or view.texts 0 (record { from = 0; to = 0 }))
    → get_or view.numbers 0 0 < 2 ^ 64 → ArePushed y (fields_at y node).parts old new
    → after ≡ out ++ front_bytes view.production (get_or view.numbers 0 0) (get_or view.numbers 1 0) t → IsSpelled y node old out new after
spelled-is y node view t old out new after long h is small pushed bytes = record {
  pushed = pushed;
  small = subst (λ ns. get_or ns 0 0 < 2 ^ 64) h.numbers small;
  bytes = bytes ∙ ap (λ l. out ++ l) (front-is y.bytes view (fields_at y node) t long h is);
}

pub none-there : (places : List (Option ℕ)) (k n : ℕ) → n ≡ k → k < length places → (o : Option ℕ) → o ≡ get_or places n None → ((x : ℕ) → o ≡ Some x → ⊥) → slice_get places k ≡ Some None
none-there places k n same low o is never = rw (sym same) (go places n (omega (arith, low, same)) o is never)
  where
    go : (ps : List (Option ℕ)) (m : ℕ) → m < length ps → (o : Option ℕ) → o ≡ get_or ps m None → ((x : ℕ) → o ≡ Some x → ⊥) → slice_get ps m ≡ Some None
    go [] m low o is never = absurd (omega (arith, low))
    go (p ∷ ps) zero low None is never = ap Some (sym is)
    go (p ∷ ps) zero low (Some x) is never = absurd (never x refl)
    go (p ∷ ps) (suc m) low o is never = go ps m (omega (arith, low)) o is never

-- ## The end of a component

set-here : {A : Type 0} (ps : List A) (k : ℕ) (x : A) → k < length ps → slice_get (slice_set ps k x) k ≡ Some x
set-here [] k x low = absurd (omega (arith, low))
set-here (p ∷ ps) zero x low = refl
set-here (p ∷ ps) (suc k) x low = set-here ps k x (omega (arith, low))

set-other : {A : Type 0} (ps : List A) (k j : ℕ) (x : A) → (k ≡ j → ⊥) → slice_get (slice_set ps k x) j ≡ slice_get ps j
set-other [] k j x apart = refl
set-other (p ∷ ps) zero zero x apart = absurd (apart refl)
set-other (p ∷ ps) zero (suc j) x apart = refl
set-other (p ∷ ps) (suc k) zero x apart = refl
set-other (p ∷ ps) (suc k) (suc j) x apart = set-other ps k j x (λ e. apart (ap suc e))

-- the first place of a tree, after one more component
one-later : Option ℕ → Bool → ℕ → Option ℕ
one-later (Some p) same place = Some p
one-later None true place = Some place
one-later None false place = None

later-is : (u own : Tree) (place : ℕ) (cs : List Component) → first_place u (record { place = place; own = own } ∷ cs) ≡ one-later (first_place u cs) (same_tree u own) place
unfolding one-later
later-is u own place cs = go (first_place u cs) (same_tree u own)
  where
    go : (o : Option ℕ) (b : Bool) → elim o as (λ _. Option ℕ) [ Some p ↦ Some p | None ↦ elim b as (λ _. Option ℕ) [ true ↦ Some place | false ↦ None ] ] ≡ one-later o b place
    go (Some p) b = refl
    go None true = refl
    go None false = refl

-- The table of places follows the components: k is the number of the tree that ended, and j that of another tree.
place-goes : (places : List (Option ℕ)) (k j place : ℕ) (t u : Tree) (old other : Option ℕ) → slice_get places k ≡ Some old → slice_get places j ≡ Some other
    → (k ≡ j → t ≡ u) → (t ≡ u → k ≡ j) → (t ≡ u → old ≡ other) → same_tree t t ≡ true
    → slice_get (placed places k place) j ≡ Some (one-later other (same_tree u t) place)
unfolding one-later
place-goes places k j place t u (Some p) other here there numbers trees olds itself = go other there olds (same_tree u t) refl
  where
    none-some : {q : ℕ} → Some q ≡ None → ⊥
    none-some bad = cc

    kept : placed places k place ≡ places
    kept = ap (λ o. elim o as (λ _. List (Option ℕ)) [ Some known ↦ elim known as (λ _. List (Option ℕ)) [ Some q ↦ places | None ↦ slice_set places k (Some place) ] | None ↦ places ]) here

    go : (o : Option ℕ) → slice_get places j ≡ Some o → (t ≡ u → Some p ≡ o) → (b : Bool) → same_tree u t ≡ b → slice_get (placed places k place) j ≡ Some (one-later o b place)
    go (Some q) there olds b is = ap (λ l. slice_get l j) kept ∙ there
    go None there olds false is = ap (λ l. slice_get l j) kept ∙ there
    go None there olds true is = absurd (none-some (olds (sym (equal-tree u t is))))
place-goes places k j place t u None other here there numbers trees olds itself = go (k == j) refl
  where
    none-some : {q : ℕ} → None ≡ Some q → ⊥
    none-some bad = cc

    set : placed places k place ≡ slice_set places k (Some place)
    set = ap (λ o. elim o as (λ _. List (Option ℕ)) [ Some known ↦ elim known as (λ _. List (Option ℕ)) [ Some q ↦ places | None ↦ slice_set places k (Some place) ] | None ↦ places ]) here

    rest : (o : Option ℕ) → slice_get places j ≡ Some o → (k ≡ j → ⊥) → (b : Bool) → same_tree u t ≡ b → slice_get (slice_set places k (Some place)) j ≡ Some (one-later o b place)
    rest (Some q) there apart b is = set-other places k j (Some place) apart ∙ there
    rest None there apart false is = set-other places k j (Some place) apart ∙ there
    rest None there apart true is = absurd (apart (trees (sym (equal-tree u t is))))

    same : (o : Option ℕ) → None ≡ o → t ≡ u → k ≡ j → slice_get (slice_set places k (Some place)) j ≡ Some (one-later o (same_tree u t) place)
    same (Some q) bad e one = absurd (none-some bad)
    same None is e one =
        ap (slice_get (slice_set places k (Some place))) (sym one) ∙ set-here places k (Some place) (slice_get_within places k None here)
        ∙ ap (λ b. Some (one-later None b place)) (sym (subst (λ v. same_tree v t ≡ true) e itself))

    go : (b : Bool) → (k == j) ≡ b → slice_get (placed places k place) j ≡ Some (one-later other (same_tree u t) place)
    go true is = let one : k ≡ j = eqb-true k j is in ap (λ l. slice_get l j) set ∙ same other (olds (numbers one)) (numbers one) one
    go false is = ap (λ l. slice_get l j) set ∙ rest other there (λ e. true-false (sym (eq-eqb k j e) ∙ is)) (same_tree u t) refl
      where
        true-false : true ≡ false → ⊥
        true-false bad = cc

places-go : (y : ReadSymbol) (numbers : List ℕ) (node : ℕ) (t : Tree) (place : ℕ) (places : List (Option ℕ)) (cs : List Component)
    → AreFirst (trees_of y) numbers → slice_get (trees_of y) node ≡ Some t → same_tree t t ≡ true → ArePlaces y numbers places cs
    → ArePlaces y numbers (placed places (number_at numbers node) place) (record { place = place; own = t } ∷ cs)
places-go y numbers node t place places cs are there itself known i u at =
    place-goes places (number_at numbers node) (number_at numbers i) place t u (first_place t cs) (first_place u cs) (known node t there) (known i u at)
    (λ e. same_Some _ _ (sym there ∙ are.same node i (low node t there) (low i u at) e ∙ at))
    (λ e. are.equal node i (low node t there) (low i u at) (there ∙ ap Some e ∙ sym at))
    (λ e. ap (λ v. first_place v cs) e) itself
    ∙ ap Some (sym (later-is u t place cs))
  where
    low : (m : ℕ) (v : Tree) → slice_get (trees_of y) m ≡ Some v → m < length numbers
    low m v is = omega (arith, are.long, slice_get_within (trees_of y) m v is)

ending-then : (t : Tree) (place : ℕ) (old : Pressing) (p : ℕ) (cs : List Component) → ((ending place t and old) p cs).bytes ≡ (old p (record { place = place; own = t } ∷ cs)).bytes
ending-then t place old p cs = let none : p + 0 ≡ p = omega arith in ap (λ q. (old q (record { place = place; own = t } ∷ cs)).bytes) none

ending-spells : (t : Tree) (place : ℕ) (old : Pressing) (p : ℕ) (cs : List Component)
    → ((ending place t and old) p cs).components ≡ (old p (record { place = place; own = t } ∷ cs)).components
ending-spells t place old p cs = let none : p + 0 ≡ p = omega arith in ap (λ q. (old q (record { place = place; own = t } ∷ cs)).components) none

pub end-goes : (y : ReadSymbol) (numbers : List ℕ) (whole : Pressed) (tasks older : List Task) (node place : ℕ) (places left : List (Option ℕ)) (out after : List ℕ)
    → AreFirst (trees_of y) numbers → Goes y numbers whole tasks places out → tasks ≡ older ++ Task.Ended node place ∷ []
    → left ≡ placed places (number_at numbers node) place → after ≡ out ++ end (fields_at y node)
    → Goes y numbers whole older left after × (weight_of_tasks y older < weight_of_tasks y tasks)
end-goes y numbers whole tasks older node place places left out after are g is set bytes =
    let split = tasks-less y older (Task.Ended node place) (subst (AreTasks y) is g.nodes) in
    let own = got-there (trees_of y) node split.0.0 in
    let t : Tree = own.0 in
    let given : fields_at y node ≡ fields_of t = fields-there y node t own.1 in
    let itself : same_tree t t ≡ true = compared-itself t (sym (ap (λ h. is_component h.production) given) ∙ split.0.1) in
    let more : List Component = record { place = place; own = t } ∷ g.components in
    let same : press_tasks y tasks (length out) g.components ≡ (text (end (fields_at y node)) and (ending place t and press_tasks y older)) (length out) g.components =
    ap (λ l. press_tasks y l (length out) g.components) is ∙ tasks-push y older (Task.Ended node place) (length out) g.components
    ∙ ap (λ o. ((text (end (fields_at y node)) and ending_some place o) and press_tasks y older) (length out) g.components) own.1
    ∙ and-assoc-at (text (end (fields_at y node))) (ending place t) (press_tasks y older) (length out) g.components in (
      record {
        components = more;
        places_are = subst (λ l. ArePlaces y numbers l more) (sym set)
            (places-go y numbers node t place places g.components are own.1 itself g.places_are);
        of_nodes = ((node, own.1, itself), g.of_nodes);
        nodes = split.1;
        bytes = ap (λ l. after ++ l) (sym (ending-then t place (press_tasks y older) (length after) g.components))
            ∙ written (ending place t and press_tasks y older) out (end (fields_at y node)) after whole.bytes g.components bytes (ap (λ one. out ++ one.bytes) (sym same) ∙ g.bytes);
        spelled = sym (ending-spells t place (press_tasks y older) (length after) g.components)
            ∙ written-components (ending place t and press_tasks y older) out (end (fields_at y node)) after g.components bytes
            ∙ ap (λ one. one.components) (sym same) ∙ g.spelled;
      },
      omega (arith, ap (weight_of_tasks y) is, weight-push y older (Task.Ended node place)),
    )

-- ## The first state and the last

no-tasks : (y : ReadSymbol) → AreTasks y []
unfolding AreTasks
no-tasks y = tt

pub goes-first : (y : ReadSymbol) (numbers : List ℕ) (tasks : List Task) (places : List (Option ℕ)) (out : List ℕ) (root count : ℕ) → root ≡ y.root → root < length (trees_of y)
    → tasks ≡ Task.Node root ∷ [] → out ≡ [] → ((k : ℕ) → k < count → slice_get places k ≡ Some None) → ((i : ℕ) → i < length (trees_of y) → number_at numbers i < count)
    → Goes y numbers (press_root y) tasks places out
goes-first y numbers tasks places out root count is low first none empty below = rw (first, none) (record {
  components = [];
  places_are = λ i u at. empty (number_at numbers i) (below i (slice_get_within (trees_of y) i u at));
  of_nodes = tt;
  nodes = tasks-more y [] (Task.Node root) (no-tasks y) low;
  bytes = ap (λ one. one.bytes) (nothing-and-at (press_some (slice_get (trees_of y) root)) 0 []) ∙ ap (λ m. (press_some (slice_get (trees_of y) m) 0 []).bytes) is;
  spelled = ap (λ one. one.components) (nothing-and-at (press_some (slice_get (trees_of y) root)) 0 []) ∙ ap (λ m. (press_some (slice_get (trees_of y) m) 0 []).components) is;
})

pub components-last : (y : ReadSymbol) (numbers : List ℕ) (whole : Pressed) (tasks : List Task) (places : List (Option ℕ)) (out : List ℕ) → Goes y numbers whole tasks places out → tasks ≡ []
    → AreOfNodes (trees_of y) whole.components
components-last y numbers whole tasks places out g is =
    subst (AreOfNodes (trees_of y)) (ap (λ l. (press_tasks y l (length out) g.components).components) (sym is) ∙ g.spelled) g.of_nodes

-- the suffix comes after everything else
pub whole-symbol : (symbol : tree.Symbol) → pressed symbol ≡ (press_tree (of_symbol symbol) 0 []).bytes ++ symbol.suffix
whole-symbol symbol =
    ap (λ one. one.bytes) (sym (and-assoc-at (text (95 ∷ 82 ∷ [])) (press_path symbol.path) (press_other symbol.instantiating and text symbol.suffix) 0 []))
    ∙ ap (λ one. one.bytes) (sym (and-assoc-at (text (95 ∷ 82 ∷ []) and press_path symbol.path) (press_other symbol.instantiating) (text symbol.suffix) 0 []))
    ∙ ap (λ one. one.bytes ++ symbol.suffix) (and-assoc-at (text (95 ∷ 82 ∷ [])) (press_path symbol.path) (press_other symbol.instantiating) 0 [])

pub symbol-bytes : (y : ReadSymbol) (whole : tree.Symbol) (view : Node) (t out : List ℕ) → slice_get (trees_of y) y.root ≡ Some (of_symbol whole) → length view.texts ≡ 2
    → IsView y.bytes view (fields_at y y.root) → t ≡ bytes_at y.bytes (get_or view.texts 0 (record { from = 0; to = 0 }))
    → out ≡ (press_some (slice_get (trees_of y) y.root) 0 []).bytes ++ t → out ≡ pressed_symbol y
unfolding pressed_symbol
symbol-bytes y whole view t out there long h is bytes =
    let given : fields_at y y.root ≡ fields_of (of_symbol whole) = fields-there y y.root (of_symbol whole) there in
    let suffix : t ≡ whole.suffix = is ∙ first-text (bytes_at y.bytes) view.texts (fields_of (of_symbol whole)).texts (record { from = 0; to = 0 }) long (h.texts ∙ ap (λ g. g.texts) given) in
    bytes ∙ ap (λ o. (press_some o 0 []).bytes ++ t) there ∙ ap (λ l. (press_tree (of_symbol whole) 0 []).bytes ++ l) suffix
    ∙ sym (whole-symbol whole) ∙ ap (λ o. pressed (symbol_in o)) (sym there)

-- ## What the loop requires

pub popped : (tasks rest : List Task) (o : Option Task) (task one : Task) → tasks ≡ rest ++ option_to_list o → o ≡ Some task → task ≡ one → tasks ≡ rest ++ one ∷ []
popped tasks rest o task one is some same = is ∙ ap (λ p. rest ++ option_to_list p) (some ∙ ap Some same)

-- a node of the table has a number, and the number has an entry among the places
pub record IsThere (y : ReadSymbol) (numbers : List ℕ) (places : List (Option ℕ)) (k : ℕ) : Type 0 where
  pub node : k < length y.table.nodes
  pub number : k < length numbers
  pub place : number_at numbers k < length places

is-there : (y : ReadSymbol) (numbers : List ℕ) (whole : Pressed) (tasks : List Task) (places : List (Option ℕ)) (out : List ℕ) (k : ℕ) → Goes y numbers whole tasks places out
    → AreFirst (trees_of y) numbers → k < length (trees_of y) → IsThere y numbers places k
is-there y numbers whole tasks places out k g are low =
    let own = got-there (trees_of y) k low in
    record {
      node = omega (arith, low, length-trees y.bytes y.table.nodes);
      number = omega (arith, low, are.long);
      place = slice_get_within places (number_at numbers k) (first_place own.0 g.components) (g.places_are k own.0 own.1);
    }

pub node-there : (y : ReadSymbol) (numbers : List ℕ) (whole : Pressed) (tasks older : List Task) (places : List (Option ℕ)) (out : List ℕ) (k : ℕ) → Goes y numbers whole tasks places out
    → AreFirst (trees_of y) numbers → tasks ≡ older ++ Task.Node k ∷ [] → IsThere y numbers places k
node-there y numbers whole tasks older places out k g are is =
    is-there y numbers whole tasks places out k g are (tasks-less y older (Task.Node k) (subst (AreTasks y) is g.nodes)).0

pub end-there : (y : ReadSymbol) (numbers : List ℕ) (whole : Pressed) (tasks older : List Task) (places : List (Option ℕ)) (out : List ℕ) (k place : ℕ) → Goes y numbers whole tasks places out
    → AreFirst (trees_of y) numbers → tasks ≡ older ++ Task.Ended k place ∷ [] → IsThere y numbers places k
end-there y numbers whole tasks older places out k place g are is =
    is-there y numbers whole tasks places out k g are (tasks-less y older (Task.Ended k place) (subst (AreTasks y) is g.nodes)).0.0
