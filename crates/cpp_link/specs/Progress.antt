-- What holds after a call that continues to the next part of a frame's rule, or closes the rule.
use Rattle.std.specs.Prelude.{◌≡◌, ℕ, ◌+◌, ◌<◌, ◌≤◌, List, [], ◌∷◌, ◌++◌, length, drop, Vec, Result, IfOk, IfErr, OnOk, OnErr}
use Rattle.std.specs.Global.{Global}
use Rattle.sym_core.specs.declared.refusal.Refusal.{Refusal}
use Rattle.sym_core.specs.declared.refusal.Refusal.TheVariants.{Memory}
use Rattle.sym_link.specs.declared.language.Frame.{Frame}
use Rattle.sym_link.specs.Linking.{View, Adds, AddsFew, Pays, owed_behind, owed_next}
use Rattle.sym_shape.specs.declared.rule.Row.{Row}
use Rattle.sym_link.specs.Threads.{GoesOn, BeginsIn, ClosesAll, AddsBefore}
use Rattle.cpp_grammar.specs.declared.production.Production.{Production}
use Rattle.cpp_grammar.specs.Unfolding.{production_at}
use Rattle.cpp_term.specs.Values.{State, Value, Around}
use Rattle.cpp_references.specs.declared.around.Surroundings.{Surroundings}
use Rattle.cpp_link.specs.declared.linked.Linked.{Linked}
use Rattle.cpp_link.specs.declared.part.Part.{Part}
use Rattle.cpp_link.specs.Grows.{Grows}
use Rattle.cpp_link.specs.NodeCount.{makes_before}
use Rattle.cpp_link.specs.Parts.{values_in, IsThere}
use Rattle.cpp_link.specs.Room.{KeepsRoom, LacksRoom, IsRoomy}
use Rattle.cpp_link.specs.View as view
use Rattle.cpp_link.specs.View.{IsPaid, IsWhole, Surrounds, cpp_view}

-- At most n nodes were added, and the last of them is the answer. The candidates, their counting and the packs stay as they
-- are.
pub record AddsNodes (s : List ℕ) (old new : Linked) (count : ℕ) (result : Result ℕ Refusal) : Type 0 where
  pub grows : Grows s old.nodes new.nodes count
  pub more : OnOk result (length new.nodes.nodes ≡ length old.nodes.nodes + count)
  pub there : IfOk result (λ number. number < length new.nodes.nodes)
  pub candidates : new.candidates ≡ old.candidates
  pub packs : new.packs ≡ old.packs
  pub counting : new.counting ≡ old.counting
  pub memory : IfErr result (λ e. e ≡ Memory)
  pub keeps : KeepsRoom old new
  pub full : OnErr result (LacksRoom old new)

-- A rule's part was made of `count` nodes, if it was made. In any case no more nodes are made than may be made at the rule's
-- end.
pub record MakesPart (s : List ℕ) (old new : Linked) (most count : ℕ) (result : Result Part Refusal) : Type 0 where
  pub there : IfOk result (λ part. IsThere s (length new.nodes.nodes) part)
  pub grows : OnOk result (view.GoesOn s old new)
  pub few : length new.nodes.nodes ≤ length old.nodes.nodes + most
  pub makes : OnOk result (length new.nodes.nodes ≡ length old.nodes.nodes + count)
  pub paid : OnOk result (IsPaid new)
  pub whole : OnOk result (IsWhole s new)
  pub keeps : KeepsRoom old new
  pub full : IfErr result (λ e. e ≡ Memory → LacksRoom old new)

-- What is done before the next part, and the surroundings of that part, are as the view's reading says.
pub record Advances (view : View Linked Part Surroundings Value State Around) (s : List ℕ) (old new : Linked) (frame : Frame Surroundings) (parts new_parts : Vec Part Global) (result : Result Surroundings Refusal) : Type 0 where
  pub goes : GoesOn view s (Surrounds s) old new frame parts.items new_parts.items result
  pub adds : OnOk result (Adds (cpp_view s) old new (owed_behind (cpp_view s) frame parts.items) (owed_next (cpp_view s) frame new_parts.items))
  pub few : AddsBefore (cpp_view s) old new frame parts.items (drop frame.base new_parts.items ++ Part.Nothing ∷ []) result
  pub makes : OnOk result (length new.nodes.nodes ≡ length old.nodes.nodes + makes_before (production_at frame.rule) (values_in s old.nodes (drop frame.base parts.items)))
  pub pays : OnOk result ((at : ℕ) → Pays (cpp_view s) old new at at)
  pub count : OnOk result (length new_parts.items ≡ length parts.items)
  pub roomy : IsRoomy old new parts new_parts result

-- The rule closes over all its parts as the view's reading says, and makes as many nodes as its production makes of what the
-- parts denote.
pub record Finishes (view : View Linked Part Surroundings Value State Around) (made : Production → List Value → ℕ) (s : List ℕ) (old new : Linked) (frame : Frame Surroundings)
    (parts new_parts : Vec Part Global) (result : Result (Unit {0}) Refusal) : Type 0 where
  pub closes : ClosesAll view s old new frame parts.items new_parts.items result
  pub adds : OnOk result (Adds (cpp_view s) old new (owed_behind (cpp_view s) frame parts.items) 0)
  pub few : AddsFew (cpp_view s) old new frame parts.items
  pub makes : OnOk result (length new.nodes.nodes ≡ length old.nodes.nodes + made (production_at frame.rule) (values_in s old.nodes (drop frame.base parts.items)))
  pub pays : OnOk result ((at : ℕ) → Pays (cpp_view s) old new at at)
  pub roomy : IsRoomy old new parts new_parts result

-- The rule of a row begins as the view's reading says. The nodes and the candidates stay.
pub record Begins (view : View Linked Part Surroundings Value State Around) (s : List ℕ) (rows : List Row) (old new : Linked) (context : Surroundings) (row : Row) (result : Result Surroundings Refusal) : Type 0 where
  pub begins : BeginsIn view s (Surrounds s) rows old new context row result
  pub nodes : new.nodes ≡ old.nodes
  pub candidates : new.candidates ≡ old.candidates
  pub refused : IfErr result (λ e. e ≡ Memory → ⊥)
