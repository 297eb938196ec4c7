-- The nodes that a linker has made denote what the symbol's shape denotes.
use Rattle.sym_demangle.proofs.Basics.{◌≡◌, refl, sym, ◌∙◌, ap, subst, inl, inr, ℕ, ◌+◌, ◌*◌, ◌≤◌, List, [], length, Bool, true, false, Option, Some, Result, Ok, Err, arith, None, FitsSymbol, Refusal, Row, Kind, GrowsInto, AreFew, Table, Tree, IsTree, spell, AreRowsOf, one_tree, Frame, View, Fails, link_steps, IsDriving, IsStepTo, meaning_of, driving_few, driving_on, Mangled, IsRefused, Begins, IsLinker, IsLinked, CountsNodes, AreLinkSteps, AreNodesOf}
use Rattle.sym_core.specs.declared.refusal.Refusal.TheVariants as refusals
use Rattle.sym_shape.specs.Law.{IsLawful}

-- a linker before the first row is on its way
pub begun : {N P K V S C : Type 0} (view : View N P K V S C) (g : Table) (s : List ℕ) (rows : List Row) (read : ℕ) (nodes : N) → GrowsInto g view.table
    → FitsSymbol s → AreRowsOf g s rows → AreFew read (length rows) (length s) → Begins view nodes → IsLinker g view s rows read nodes 0 None 0 [] [] false
begun view g s rows read nodes grows fits are few begins = record {
  shape = are.0;
  is_tree = are.1;
  is_shape = record { is_tree = grows are.0 are.1; spelled = are.2; rows_are = are.3 };
  fits = record { symbol = fits; rows = few.rows_few };
  few = few;
  driving = (
    inl (record { next_is = refl; no_frame = refl; no_part = refl; no_node = begins.size; holds = begins.holds; paid = begins.paid }, refl),
    omega arith,
    omega arith,
    omega arith,
  );
  ended = λ h. absurd (let e : false ≡ true = h in cc);
  all_steps = λ h. absurd (let e : false ≡ true = h in cc);
}

-- a linker that is done has linked its symbol
pub linked_of : {N P K V S C : Type 0} (g : Table) (view : View N P K V S C) (s : List ℕ) (rows : List Row) (read_steps : ℕ) (nodes : N) (steps : ℕ) (refused : Option Refusal) (next : ℕ)
    (frames : List (Frame K)) (parts : List P) (done : Bool) (is : IsLinker g view s rows read_steps nodes steps refused next frames parts done) (count all : ℕ)
    → done ≡ true → count ≡ length rows → all ≡ read_steps + steps → IsLinked g view s nodes parts count all is.shape
linked_of g view s rows read_steps nodes steps refused next frames parts done is count all ended counted total = record {
  rows = rows;
  is_tree = is.is_tree;
  is_shape = is.is_shape;
  fits = is.fits.symbol;
  done = is.ended ended;
  counted = counted;
  rows_few = omega (arith, counted, is.few.rows_few);
  each = omega (arith, counted, total, is.few.each);
  steps_few = omega (arith, total, driving_few view s rows is.shape nodes steps refused next frames parts is.driving, is.few.steps_few, is.few.rows_few);
}

-- the steps for a tree that spells the symbol are those for the symbol's one tree
pub shape_steps : (g : Table) (lawful : IsLawful g) (s bytes : List ℕ) (shape : Tree) (steps : ℕ) → IsTree g (Kind 0) shape → spell shape ≡ s → s ≡ bytes → steps ≡ link_steps shape → AreLinkSteps g bytes steps
shape_steps g lawful s bytes shape steps is own there counted = λ tree is_tree spelled.
    counted ∙ ap link_steps (one_tree g lawful shape tree is is_tree (own ∙ there ∙ sym spelled))

-- a linker with nothing left to do has taken the steps of its shape
pub done_steps : {N P K V S C : Type 0} (view : View N P K V S C) (s : List ℕ) (rows : List Row) (shape : Tree) (nodes : N) (steps new_steps : ℕ) (refused new_refused : Option Refusal) (parts : List P)
    (result : Result Bool Refusal) (done : Bool) → result ≡ Ok done → (let answered : Bool → Result Bool Refusal = λ b. Ok b in answered done ≡ answered true)
    → IsStepTo view s rows shape nodes steps new_steps refused new_refused parts result → new_steps ≡ link_steps shape
done_steps view s rows shape nodes steps new_steps refused new_refused parts result done is over to =
    let answer = subst (λ r. IsStepTo view s rows shape nodes steps new_steps refused new_refused parts r) (is ∙ over) to in
    omega (arith, answer.1, answer.3)

-- a refusal that a driver keeps is the meaning of the symbol's shape
pub driving_fails : {N P K V S C : Type 0} (view : View N P K V S C) (s : List ℕ) (rows : List Row) (shape : Tree) (nodes : N) (steps : ℕ) (refused : Option Refusal) (next : ℕ)
    (frames : List (Frame K)) (parts : List P) (e : Refusal) → IsDriving view s rows shape nodes steps refused next frames parts → refused ≡ Some e → Fails e (meaning_of view shape)
driving_fails view s rows shape nodes steps refused next frames parts e driving kept =
    (subst (λ r. IsDriving view s rows shape nodes steps r next frames parts) kept driving).0

-- the refusal of a step is the meaning of the symbol's shape
pub step_fails : {N P K V S C : Type 0} (view : View N P K V S C) (s : List ℕ) (rows : List Row) (shape : Tree) (nodes : N) (steps new_steps : ℕ) (refused new_refused : Option Refusal) (parts : List P)
    (e : Refusal) → IsStepTo view s rows shape nodes steps new_steps refused new_refused parts (Err e) → Fails e (meaning_of view shape)
step_fails view s rows shape nodes steps new_steps None new_refused parts e to = to.0
step_fails view s rows shape nodes steps new_steps (Some kept) new_refused parts e to = to.0

pub refused_of : {W : Type 0} (m : Mangled W) (shape : Tree) (s : List ℕ) (e : Refusal) → IsTree m.table (Kind 0) shape → spell shape ≡ s → Fails e (m.unfolded shape) → IsRefused m s e
refused_of m shape s refusals.Memory is spelled fails = inl refl
refused_of m shape s (refusals.Malformed at) is spelled fails = inr (shape, is, spelled, sym fails)
refused_of m shape s (refusals.BadReference at) is spelled fails = inr (shape, is, spelled, sym fails)
refused_of m shape s (refusals.BadValue at) is spelled fails = inr (shape, is, spelled, sym fails)
refused_of m shape s refusals.TooLong is spelled fails = inr (shape, is, spelled, sym fails)

-- ## Nodes

-- what a driver has written is paid for by some number of bytes, if the driver has refused nothing
pub driving_paid : {N P K V S C : Type 0} (view : View N P K V S C) (s : List ℕ) (rows : List Row) (shape : Tree) (nodes : N) (steps : ℕ) (refused : Option Refusal) (next : ℕ)
    (frames : List (Frame K)) (parts : List P) → ((e : Refusal) → refused ≡ Some e → ⊥) → IsDriving view s rows shape nodes steps refused next frames parts
    → (bytes : ℕ) × view.IsPaid nodes bytes
driving_paid view s rows shape nodes steps refused next frames parts open_still driving =
    elim (driving_on view s rows shape nodes steps refused next frames parts open_still driving).0 [
      | inl fresh ↦ (0, fresh.0.paid)
      | inr on ↦ (on.2.reached, on.2.paid)
    ]

-- the bound on the nodes that the language counts holds of the table's nodes, too
pub counted_two : {N P K V S C : Type 0} (view : View N P K V S C) (s : List ℕ) (rows : List Row) (shape : Tree) (old new : N) (steps new_steps : ℕ) (refused : Option Refusal) (next : ℕ)
    (frames : List (Frame K)) (parts : List P) (count : N → ℕ) (first : ℕ) → CountsNodes view count first → ((e : Refusal) → refused ≡ Some e → ⊥)
    → IsDriving view s rows shape old steps refused next frames parts → view.size new + 2 * steps ≤ view.size old + 2 * new_steps
    → count new + 2 * steps ≤ count old + 2 * new_steps
counted_two view s rows shape old new steps new_steps refused next frames parts count first counts open_still driving added =
    let paid = driving_paid view s rows shape old steps refused next frames parts open_still driving in
    omega (arith, counts.most new, counts.least old paid.0 paid.1, added)

-- the nodes of a shape that spells the symbol are those of the symbol's one tree
pub shape_nodes : (g : Table) (lawful : IsLawful g) (Are : Tree → ℕ → Type 0) (s : List ℕ) (shape : Tree) (nodes : ℕ) → IsTree g (Kind 0) shape → spell shape ≡ s → Are shape nodes
    → AreNodesOf g Are s nodes
shape_nodes g lawful Are s shape nodes is spelled are = λ tree is_tree there.
    subst (λ t. Are t nodes) (one_tree g lawful shape tree is is_tree (spelled ∙ sym there)) are
