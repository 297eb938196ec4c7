-- What is kept of a node in few bytes.
use Rattle.cpp_tree.proofs.Basics.{◌≡◌, refl, sym, ap, ◌∙◌, arith, ℕ, zero, suc, ◌+◌, List, [], ◌∷◌, ◌++◌, map, Bool, true, false, ◌||◌, Option, None, Some, first_of, Piece, Span, Qualifiers, Mark, Node, HeadClass, HeadFrom, Free, ByArgument, Entry, TypeHead, Compact, entry_at, by_none, under_kept, passed, joined, of_expansion, of_pack, piece_by_argument, node_by_argument, placed_under, if_own, packs_by, empty_by, pack_class, class_by, collapses, both_free, piece_frees, piece_packs, argument_packs, frees, empties, ends_in, untagging, classes, packing, returning, counting, running, having_pack, noting, bare_entry, packs_kept, class_kept, arguments_kept, untagged_kept, returns_kept, count_kept, run_kept, has_pack_kept, free_kept, kept, with_head, restated_entry, entry_of}
use Rattle.std.proofs.lemmas.List.{map-append}
use Rattle.cpp_grammar.specs.Items as heads
use Rattle.cpp_tree.specs.declared.node.Signed.{Signed}

-- the first of two lengths counts, if it isn't 0
pub some-packs : (m n : ℕ) → (m ≡ 0 → ⊥) → packs_kept m ≡ first_of (packs_kept m) (packs_kept n)
unfolding packs_kept first_of
some-packs zero n some = absurd (some refl)
some-packs (suc m) n some = refl

pub other-packs : (m n : ℕ) → m ≡ 0 → packs_kept n ≡ first_of (packs_kept m) (packs_kept n)
unfolding packs_kept first_of
other-packs m n none = rw none refl

pub over-is : (n : Node) (f : ByArgument → ByArgument) (l : ByArgument) (w : TypeHead) (first second : ℕ) (c part : Compact) (e : Entry) → entry_of part ≡ e → l ≡ f part.by_argument
    → entry_of c ≡ kept n (packs_kept part.packs) (free_kept part.free part.number) false l w first second → entry_of c ≡ kept n e.packs e.free false (f e.by_argument) w first second
over-is n f l w first second c part e at depends made =
    made ∙ ap (λ x. kept n (packs_kept part.packs) (free_kept part.free part.number) false x w first second) depends ∙ ap (λ x. kept n x.packs x.free false (f x.by_argument) w first second) at

pub over-two-is : (n : Node) (empty : Bool) (f : ByArgument → ByArgument → ByArgument) (l : ByArgument) (w : TypeHead) (first second : ℕ) (c one other : Compact) (e g : Entry) → entry_of one ≡ e → entry_of other ≡ g
    → l ≡ f one.by_argument other.by_argument
    → entry_of c ≡ kept n (first_of (packs_kept one.packs) (packs_kept other.packs)) (both_free (free_kept one.free one.number) (free_kept other.free other.number)) empty l w first second
    → entry_of c ≡ kept n (first_of e.packs g.packs) (both_free e.free g.free) empty (f e.by_argument g.by_argument) w first second
over-two-is n empty f l w first second c one other e g at there depends made =
    made ∙ ap (λ x. kept n (first_of (packs_kept one.packs) (packs_kept other.packs)) (both_free (free_kept one.free one.number) (free_kept other.free other.number)) empty x w first second) depends
    ∙ ap (λ x. kept n (first_of x.packs (packs_kept other.packs)) (both_free x.free (free_kept other.free other.number)) empty (f x.by_argument other.by_argument) w first second) at
    ∙ ap (λ x. kept n (first_of e.packs x.packs) (both_free e.free x.free) empty (f e.by_argument x.by_argument) w first second) there

or-false : (b : Bool) → b ≡ b || false
or-false true = refl
or-false false = refl

pub other-alone : (ns : List Entry) (n : Node) (piece : Piece) → ((p k : ℕ) → piece ≡ Piece.Lambda p k → ⊥) → ((k t : ℕ) → piece ≡ Piece.Inheriting k t → ⊥) → ((t : ℕ) → piece ≡ Piece.Conversion t → ⊥) → ((t : ℕ) (name : Span) → piece ≡ Piece.Enumeration t name → ⊥) → ((names : ℕ) → piece ≡ Piece.Bindings names → ⊥)
    → bare_entry n false ≡ kept n (piece_packs ns piece) (piece_frees ns piece) false (piece_by_argument ns piece) TypeHead.Plain 0 0
unfolding piece_packs piece_frees piece_by_argument class_kept arguments_kept untagged_kept returns_kept count_kept run_kept has_pack_kept
other-alone ns n (Piece.Lambda p k) other inherits none nameless unbound = absurd (other p k refl)
other-alone ns n (Piece.Inheriting k t) other inherits none nameless unbound = absurd (inherits k t refl)
other-alone ns n (Piece.Conversion t) other inherits none nameless unbound = absurd (none t refl)
other-alone ns n (Piece.Enumeration t name) other inherits none nameless unbound = absurd (nameless t name refl)
other-alone ns n (Piece.Bindings names) other inherits none nameless unbound = absurd (unbound names refl)
other-alone ns n _ other inherits none nameless unbound = refl

first-none : (p : Option ℕ) → p ≡ first_of p None
unfolding first_of
first-none None = refl
first-none (Some n) = refl

joined-none : (l : ByArgument) → passed l ≡ joined l (by_none false)
unfolding passed joined
joined-none l = ap (λ b. record { is_bare = b; head = HeadFrom.Own; empty_with = false; empty_without = false }) (or-false l.is_bare)

both-none : (f : Free) → f ≡ both_free f Free.None
unfolding both_free
both-none Free.None = refl
both-none (Free.One k) = refl
both-none (Free.Several m) = refl

within-none : (n : Node) (e : Entry) → kept n e.packs e.free false (passed e.by_argument) TypeHead.Plain 0 0
    ≡ kept n (first_of e.packs None) (both_free e.free Free.None) false (joined e.by_argument (by_none false)) TypeHead.Plain 0 0
within-none n e =
    ap (λ p. kept n p e.free false (passed e.by_argument) TypeHead.Plain 0 0) (first-none e.packs)
    ∙ ap (λ f. kept n (first_of e.packs None) f false (passed e.by_argument) TypeHead.Plain 0 0) (both-none e.free)
    ∙ ap (λ l. kept n (first_of e.packs None) (both_free e.free Free.None) false l TypeHead.Plain 0 0) (joined-none e.by_argument)

pub other-within : (ns : List Entry) (n : Node) (e : Entry) (piece : Piece) → ((p k : ℕ) → piece ≡ Piece.Lambda p k → ⊥) → ((k t : ℕ) → piece ≡ Piece.Inheriting k t → ⊥) → ((t : ℕ) → piece ≡ Piece.Conversion t → ⊥) → ((t : ℕ) (name : Span) → piece ≡ Piece.Enumeration t name → ⊥) → ((names : ℕ) → piece ≡ Piece.Bindings names → ⊥)
    → kept n e.packs e.free false (passed e.by_argument) TypeHead.Plain 0 0
    ≡ kept n (first_of e.packs (piece_packs ns piece)) (both_free e.free (piece_frees ns piece)) false (joined e.by_argument (piece_by_argument ns piece)) TypeHead.Plain 0 0
unfolding piece_packs piece_frees piece_by_argument
other-within ns n e (Piece.Lambda p k) other inherits none nameless unbound = absurd (other p k refl)
other-within ns n e (Piece.Inheriting k t) other inherits none nameless unbound = absurd (inherits k t refl)
other-within ns n e (Piece.Conversion t) other inherits none nameless unbound = absurd (none t refl)
other-within ns n e (Piece.Enumeration t name) other inherits none nameless unbound = absurd (nameless t name refl)
other-within ns n e (Piece.Bindings names) other inherits none nameless unbound = absurd (unbound names refl)
other-within ns n e _ other inherits none nameless unbound = within-none n e

pub expansion-is : (n : Node) (empty : Bool) (held : Compact) (e : Entry) → entry_of held ≡ e → empty ≡ heads.is_none_of (packs_kept held.packs)
    → kept n None (free_kept held.free held.number) empty (of_expansion held.by_argument) TypeHead.Plain 0 0
    ≡ kept n None e.free (heads.is_none_of e.packs) (of_expansion e.by_argument) TypeHead.Plain 0 0
expansion-is n empty held e at made =
    ap (λ b. kept n None (free_kept held.free held.number) b (of_expansion held.by_argument) TypeHead.Plain 0 0) made ∙ ap (λ x. kept n None x.free (heads.is_none_of x.packs) (of_expansion x.by_argument) TypeHead.Plain 0 0) at

pub pack-is : (n : Node) (held : Compact) (e : Entry) → entry_of held ≡ e
    → kept n (packs_kept held.packs) (free_kept held.free held.number) held.is_empty (of_pack held.by_argument) TypeHead.Plain 0 0 ≡ kept n e.packs e.free e.is_empty (of_pack e.by_argument) TypeHead.Plain 0 0
pack-is n held e at = ap (λ x. kept n x.packs x.free x.is_empty (of_pack x.by_argument) TypeHead.Plain 0 0) at

-- one more entry is kept
pub held-one-more : (olds news : List Compact) (c : Compact) (ns : List Entry) (e : Entry) → news ≡ olds ++ c ∷ [] → map entry_of olds ≡ ns → entry_of c ≡ e
    → map entry_of news ≡ ns ++ e ∷ []
held-one-more olds news c ns e is was made =
    ap (λ cs. map entry_of cs) is ∙ map-append entry_of olds (c ∷ [])
    ∙ ap (λ es. es ++ entry_of c ∷ []) was ∙ ap (λ x. ns ++ x ∷ []) made

-- writing a node once more into its entry leaves the entry as it is
pub with-node : (c : Compact) (es : List Entry) (n : Node) → entry_of c ≡ noting es n → entry_of (record c { node = n }) ≡ noting es n
with-node c es n is = ap write is
  where
    write : Entry → Entry
    write e = record e { node = n }

-- ## Nodes with nothing noted

-- Generated by tools/trees.py. The others
pub record IsOther (n : Node) : Type 0 where
  pub not_nil : n ≡ Node.Nil → ⊥
  pub not_alone : (p : Piece) → n ≡ Node.Alone p → ⊥
  pub not_instd : (p : Piece) → n ≡ Node.InStd p → ⊥
  pub not_within : (i : ℕ) (p : Piece) → n ≡ Node.Within i p → ⊥
  pub not_instance : (i : ℕ) (j : ℕ) → n ≡ Node.Instance i j → ⊥
  pub not_local : (i : ℕ) (j : ℕ) (d : Option Span) → n ≡ Node.Local i j d → ⊥
  pub not_holder : (i : ℕ) → n ≡ Node.Holder i → ⊥
  pub not_tagged : (x : Bool) (i : ℕ) (d : Span) → n ≡ Node.Tagged x i d → ⊥
  pub not_ofdefault : (d : Span) (i : ℕ) → n ≡ Node.OfDefault d i → ⊥
  pub not_parameter : (k : ℕ) (i : ℕ) → n ≡ Node.Parameter k i → ⊥
  pub not_declaring : (i : ℕ) (j : ℕ) → n ≡ Node.Declaring i j → ⊥
  pub not_constrained : (k : ℕ) (i : ℕ) → n ≡ Node.Constrained k i → ⊥
  pub not_pointer : (i : ℕ) → n ≡ Node.Pointer i → ⊥
  pub not_lvalue : (i : ℕ) → n ≡ Node.Lvalue i → ⊥
  pub not_rvalue : (i : ℕ) → n ≡ Node.Rvalue i → ⊥
  pub not_array : (d : Span) (i : ℕ) → n ≡ Node.Array d i → ⊥
  pub not_bounded : (i : ℕ) (j : ℕ) → n ≡ Node.Bounded i j → ⊥
  pub not_memberpointer : (i : ℕ) (j : ℕ) → n ≡ Node.MemberPointer i j → ⊥
  pub not_functiontype : (x : Bool) (y : Bool) (m : Mark) (i : ℕ) (j : ℕ) → n ≡ Node.FunctionType x y m i j → ⊥
  pub not_qualified : (q : Qualifiers) (i : ℕ) → n ≡ Node.Qualified q i → ⊥
  pub not_vector : (d : Span) (i : ℕ) → n ≡ Node.Vector d i → ⊥
  pub not_complex : (i : ℕ) → n ≡ Node.Complex i → ⊥
  pub not_decltype : (i : ℕ) → n ≡ Node.Decltype i → ⊥
  pub not_expansion : (i : ℕ) → n ≡ Node.Expansion i → ⊥
  pub not_integer : (i : ℕ) (v : Signed) → n ≡ Node.Integer i v → ⊥
  pub not_operation : (k : ℕ) (l : ℕ) (i : ℕ) (j : ℕ) → n ≡ Node.Operation k l i j → ⊥
  pub not_pack : (i : ℕ) → n ≡ Node.Pack i → ⊥
  pub not_cell : (i : ℕ) (j : ℕ) → n ≡ Node.Cell i j → ⊥
  pub not_reargued : (i : ℕ) (j : ℕ) → n ≡ Node.Reargued i j → ⊥

-- Generated by tools/trees.py.
pub other-node : (ns : List Entry) (n : Node) → IsOther n → bare_entry n false ≡ noting ns n
unfolding frees node_by_argument empties ends_in untagging classes packing returning counting running having_pack
other-node ns Node.Nil other = absurd (other.not_nil refl)
other-node ns (Node.Alone p) other = absurd (other.not_alone p refl)
other-node ns (Node.InStd p) other = absurd (other.not_instd p refl)
other-node ns (Node.Within i p) other = absurd (other.not_within i p refl)
other-node ns (Node.Instance i j) other = absurd (other.not_instance i j refl)
other-node ns (Node.Local i j d) other = absurd (other.not_local i j d refl)
other-node ns (Node.Holder i) other = absurd (other.not_holder i refl)
other-node ns (Node.Tagged x i d) other = absurd (other.not_tagged x i d refl)
other-node ns (Node.OfDefault d i) other = absurd (other.not_ofdefault d i refl)
other-node ns (Node.Parameter k i) other = absurd (other.not_parameter k i refl)
other-node ns (Node.Declaring i j) other = absurd (other.not_declaring i j refl)
other-node ns (Node.Constrained k i) other = absurd (other.not_constrained k i refl)
other-node ns (Node.Pointer i) other = absurd (other.not_pointer i refl)
other-node ns (Node.Lvalue i) other = absurd (other.not_lvalue i refl)
other-node ns (Node.Rvalue i) other = absurd (other.not_rvalue i refl)
other-node ns (Node.Array d i) other = absurd (other.not_array d i refl)
other-node ns (Node.Bounded i j) other = absurd (other.not_bounded i j refl)
other-node ns (Node.MemberPointer i j) other = absurd (other.not_memberpointer i j refl)
other-node ns (Node.FunctionType x y m i j) other = absurd (other.not_functiontype x y m i j refl)
other-node ns (Node.Qualified q i) other = absurd (other.not_qualified q i refl)
other-node ns (Node.Vector d i) other = absurd (other.not_vector d i refl)
other-node ns (Node.Complex i) other = absurd (other.not_complex i refl)
other-node ns (Node.Decltype i) other = absurd (other.not_decltype i refl)
other-node ns (Node.Expansion i) other = absurd (other.not_expansion i refl)
other-node ns (Node.Integer i v) other = absurd (other.not_integer i v refl)
other-node ns (Node.Operation k l i j) other = absurd (other.not_operation k l i j refl)
other-node ns (Node.Pack i) other = absurd (other.not_pack i refl)
other-node ns (Node.Cell i j) other = absurd (other.not_cell i j refl)
other-node ns (Node.Reargued i j) other = absurd (other.not_reargued i j refl)
other-node ns _ other = refl

-- ## Parameters

one-more : (n : ℕ) → n + 1 ≡ suc n
one-more n = omega arith

pub pack-packs : (ns : List Entry) (n : Node) (elements count : ℕ) → n ≡ Node.Pack elements → count ≡ (entry_at ns elements).count → packs_kept (count + 1) ≡ argument_packs ns n
unfolding argument_packs packs_kept
pack-packs ns n elements count is counted = rw (is, counted, one-more (entry_at ns elements).count) refl

pub pack-head : (n : Node) (c : HeadClass) (under : Option ℕ) (elements second : ℕ) → n ≡ Node.Pack elements → under_kept second ≡ under → class_kept TypeHead.OfElement elements second ≡ pack_class under n c
unfolding pack_class class_kept
pack-head n c under elements second is there = rw (is, sym there) refl

pub other-packs-none : (ns : List Entry) (n : Node) → ((elements : ℕ) → n ≡ Node.Pack elements → ⊥) → packs_kept 0 ≡ argument_packs ns n
unfolding argument_packs packs_kept
other-packs-none ns (Node.Pack elements) other = absurd (other elements refl)
other-packs-none ns _ other = refl

pub other-head : (n : Node) (under : Option ℕ) (c : HeadClass) → ((elements : ℕ) → n ≡ Node.Pack elements → ⊥) → c ≡ pack_class under n c
unfolding pack_class
other-head (Node.Pack elements) under c other = absurd (other elements refl)
other-head _ under c other = refl

-- ## Aliases

pub own-restated : (n : Node) (packs : Option ℕ) (empty : Bool) (e : Entry) (argument : ℕ) (given : HeadClass) → e.by_argument.head ≡ HeadFrom.Own
    → record { node = n; packs = packs; free = e.free; is_empty = empty; by_argument = e.by_argument; class = e.class; arguments = placed_under argument e.arguments; untagged = placed_under argument e.untagged; returns = e.returns; count = e.count; run = 0; has_pack = e.has_pack }
    ≡ restated_entry n packs empty e argument given
unfolding class_by if_own
own-restated n packs empty e argument given is = rw is refl

pub given-restated : (n : Node) (packs : Option ℕ) (empty : Bool) (e : Entry) (argument : ℕ) (given : HeadClass) → e.by_argument.head ≡ HeadFrom.Argument
    → with_head n packs e.free empty e.by_argument given ≡ restated_entry n packs empty e argument given
unfolding class_by if_own
given-restated n packs empty e argument given is = rw is refl

pub collapsed-restated : (n : Node) (packs : Option ℕ) (empty : Bool) (e : Entry) (argument : ℕ) (given : HeadClass) → e.by_argument.head ≡ HeadFrom.Collapsed
    → with_head n packs e.free empty e.by_argument (collapses given) ≡ restated_entry n packs empty e argument given
unfolding class_by if_own
collapsed-restated n packs empty e argument given is = rw is refl

pub again-is : (n : Node) (made : Entry) (held : Compact) (e : Entry) (kept_packs given_packs packs : Option ℕ) (empty none : Bool) (argument : ℕ) (given class : HeadClass)
    → made ≡ restated_entry n kept_packs empty (entry_of held) argument given → entry_of held ≡ e → given_packs ≡ packs → given ≡ class
    → kept_packs ≡ packs_by held.by_argument.is_bare given_packs → none ≡ heads.is_none_of given_packs → empty ≡ empty_by none held.by_argument
    → made ≡ restated_entry n (packs_by e.by_argument.is_bare packs) (empty_by (heads.is_none_of packs) e.by_argument) e argument class
again-is n made held e kept_packs given_packs packs empty none argument given class made-is at packs-are class-is kept-is none-is empty-is =
    made-is ∙ ap (λ p. restated_entry n p empty (entry_of held) argument given) kept-is
    ∙ ap (λ b. restated_entry n (packs_by held.by_argument.is_bare given_packs) b (entry_of held) argument given) (empty-is ∙ ap (λ b. empty_by b held.by_argument) none-is)
    ∙ ap (λ p. restated_entry n (packs_by held.by_argument.is_bare p) (empty_by (heads.is_none_of p) held.by_argument) (entry_of held) argument given) packs-are
    ∙ ap (λ h. restated_entry n (packs_by held.by_argument.is_bare packs) (empty_by (heads.is_none_of packs) held.by_argument) (entry_of held) argument h) class-is
    ∙ ap (λ x. restated_entry n (packs_by x.by_argument.is_bare packs) (empty_by (heads.is_none_of packs) x.by_argument) x argument class) at
