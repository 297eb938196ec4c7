-- The nodes that are made before the parts of a rule and at the rule's end are those that its production makes.
use Rattle.std.proofs.Common.{◌≡◌, refl, ◌∙◌, ap, arith, ℕ, ◌+◌, ◌-◌, ◌<◌, ◌≤◌, List, [], ◌∷◌, length, drop, length-drop, Ok, Err}
use Rattle.cpp_link.proofs.Basics.{Result, OnOk, Refusal, Frame, Open, IsAt, Production, production_at, Term, State, Value, Around, is_there, Linked, Surroundings, Part, made_at_end, trees_in, value_of, values_in, quiet_parts, makes_before, makes_at_end, one_if_there, pack_before, cpp_view}
use Rattle.cpp_link.proofs.Places.{values_length}
use Rattle.cpp_link.proofs.RowNodes.{quiet_makes}
use Rattle.cpp_link.proofs.Viewing.{parts_are}

-- ## Before the next part

pub quiet_made : (s : List ℕ) (old : Linked) (frame : Frame Surroundings) (parts : List Part) (held : ℕ) → held ≡ length parts - frame.base → held < quiet_parts (production_at frame.rule)
    → length old.nodes.nodes ≡ length old.nodes.nodes + makes_before (production_at frame.rule) (values_in s old.nodes (drop frame.base parts))
quiet_made s old frame parts held counted less =
    omega (
      arith,
      quiet_makes (production_at frame.rule) (values_in s old.nodes (drop frame.base parts))
          (omega (arith, values_length s (trees_in s old.nodes) (drop frame.base parts), length-drop frame.base parts, counted, less)),
    )

-- a production makes as many nodes of these parts as the frame's rule makes of its own parts
pub made_before_part : (s : List ℕ) (old : Linked) (frame : Frame Surroundings) (parts own : List Part) (p : Production) (made : ℕ) → own ≡ drop frame.base parts → p ≡ production_at frame.rule
    → made ≡ makes_before p (values_in s old.nodes own) → made ≡ makes_before (production_at frame.rule) (values_in s old.nodes (drop frame.base parts))
made_before_part s old frame parts own p made same numbered is = rw (← same, ← numbered) is

-- ## Where a rule closes

-- a substitution makes nothing
pub none_substituted : (old new : Linked) (result : Result Part Refusal) (p : Production) (known : List Value) → p ≡ Production.Substitution → new.nodes ≡ old.nodes
    → OnOk result (length new.nodes.nodes ≡ length old.nodes.nodes + makes_at_end p known)
unfolding makes_at_end made_at_end
none_substituted old new (Ok part) p known is nodes = omega (arith, ap (λ q. makes_at_end q known) is, ap (λ y. length y.nodes) nodes)
none_substituted old new (Err e) p known is nodes = tt

-- a pack of elements is made
pub pack_made : (s : List ℕ) (ts : List Term) (elements : Part) → (elements ≡ Part.Nothing → ⊥) → makes_before Production.PackArgument (value_of s ts elements ∷ []) ≡ 1
unfolding makes_before pack_before one_if_there is_there value_of
pack_made s ts Part.Nothing some = absurd (some refl)
pack_made s ts _ some = refl

-- ## In terms of the rule that is open

pub before_read : (s : List ℕ) (old new : Linked) (frame : Frame Surroundings) (parts : List Part) (result : Result Surroundings Refusal) → 4 ≤ length old.nodes.nodes
    → OnOk result (length new.nodes.nodes ≡ length old.nodes.nodes + makes_before (production_at frame.rule) (values_in s old.nodes (drop frame.base parts)))
    → (rule : Open State Around) (known : List Value) (state : State) → IsAt (cpp_view s) s old frame (drop frame.base parts) rule known state
    → OnOk result (length new.nodes.nodes - 4 ≡ length old.nodes.nodes - 4 + makes_before (production_at rule.rule.number) known)
before_read s old new frame parts (Err e) begun made rule known state is = tt
before_read s old new frame parts (Ok kept) begun made rule known state is =
    let same : makes_before (production_at frame.rule) (values_in s old.nodes (drop frame.base parts)) ≡ makes_before (production_at rule.rule.number) known =
    ap (λ n. makes_before (production_at n) (values_in s old.nodes (drop frame.base parts))) is.number
    ∙ ap (λ vs. makes_before (production_at rule.rule.number) vs) (parts_are s old (drop frame.base parts) known is.parts).1 in
    omega (arith, begun, made, same)

pub end_read : (s : List ℕ) (old new : Linked) (frame : Frame Surroundings) (parts : List Part) (result : Result (Unit {0}) Refusal) → 4 ≤ length old.nodes.nodes
    → OnOk result (length new.nodes.nodes ≡ length old.nodes.nodes + makes_at_end (production_at frame.rule) (values_in s old.nodes (drop frame.base parts)))
    → (rule : Open State Around) (known : List Value) (state : State) → IsAt (cpp_view s) s old frame (drop frame.base parts) rule known state
    → OnOk result (length new.nodes.nodes - 4 ≡ length old.nodes.nodes - 4 + makes_at_end (production_at rule.rule.number) known)
end_read s old new frame parts (Err e) begun made rule known state is = tt
end_read s old new frame parts (Ok done) begun made rule known state is =
    let same : makes_at_end (production_at frame.rule) (values_in s old.nodes (drop frame.base parts)) ≡ makes_at_end (production_at rule.rule.number) known =
    ap (λ n. makes_at_end (production_at n) (values_in s old.nodes (drop frame.base parts))) is.number
    ∙ ap (λ vs. makes_at_end (production_at rule.rule.number) vs) (parts_are s old (drop frame.base parts) known is.parts).1 in
    omega (arith, begun, made, same)

pub none_begun : (l : Linked) (result : Result Surroundings Refusal) → OnOk result (length l.nodes.nodes - 4 ≡ length l.nodes.nodes - 4)
none_begun l (Ok kept) = refl
none_begun l (Err e) = tt
