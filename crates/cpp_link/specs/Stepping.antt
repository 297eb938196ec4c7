-- What is done by a step before the next part of a rule.
use Rattle.std.specs.Prelude.{◌≡◌, ℕ, ◌+◌, ◌<◌, ◌≤◌, List, [], ◌∷◌, ◌++◌, length, take, drop, get_or, Result, Ok, Err}
use Rattle.sym_core.specs.declared.refusal.Refusal.{Refusal}
use Rattle.cpp_grammar.specs.declared.production.Production.{Production}
use Rattle.cpp_link.specs.declared.linked.Linked.{Linked}
use Rattle.cpp_link.specs.declared.part.Part.{Part}
use Rattle.cpp_references.specs.declared.around.Surroundings.{Surroundings}
use Rattle.cpp_link.specs.declared.part.Step.{Step}
use Rattle.cpp_link.specs.Grows.{Grows}
use Rattle.cpp_link.specs.Making.{state_of}
use Rattle.cpp_link.specs.Owed.{made_before}
use Rattle.cpp_link.specs.Closes.{closes_of}
use Rattle.cpp_link.specs.Parts.{trees_in, values_in, around_of, AreThere, IsKeptThere, AreCandidatesThere}
use Rattle.cpp_link.specs.Reads.{goes_on}

-- how many nodes a step makes
abbrev pub nodes_of_step : Step → ℕ
nodes_of_step (Step.Made node listed is_name is_candidate packs) = 1
nodes_of_step _ = 0

-- A step after n parts of a production. If the step changes the first part, there is a first part; if it makes a node, the
-- production makes a node after n parts.
abbrev pub IsStepOf : Production → (held : ℕ) → Step → Type 0
IsStepOf production held (Step.Go candidate then packs) = Unit {0}
IsStepOf production held (Step.Named node listed is_name) = 0 < held
IsStepOf production held (Step.Made node listed is_name is_candidate packs) = (0 < held) × (get_or (made_before production) held 0 ≡ 1)

-- the nodes of a step, with those that the production may add after the step, are at most those that the production
-- might add before it
abbrev pub CountsStep : {A : Type 0} → Production → (old new : Linked) → (own new_own : List Part) → Result A Refusal → Type 0
CountsStep p old new own new_own (Ok then) = length new.nodes.nodes + closes_of p (new_own ++ Part.Nothing ∷ []) ≤ length old.nodes.nodes + closes_of p own
CountsStep p old new own new_own (Err e) = length new.nodes.nodes ≤ length old.nodes.nodes + closes_of p own

-- A step is taken before the next part of a rule, with these surroundings after it: the result of the step is what the nodes,
-- the candidates and the rule's parts denote now.
pub record Takes (s : List ℕ) (old new : Linked) (kept : Surroundings) (base : ℕ) (parts new_parts : List Part) (step : Step) (then : Surroundings) : Type 0 where
  pub grows : Grows s old.nodes new.nodes (nodes_of_step step)
  pub thunks : new.nodes.thunks ≡ old.nodes.thunks
  pub candidates : AreCandidatesThere (length new.nodes.nodes) new.candidates
  pub around : IsKeptThere (length new.nodes.nodes) then
  pub there : AreThere s (length new.nodes.nodes) (drop base new_parts)
  pub lower : take base new_parts ≡ take base parts
  pub count : length new_parts ≡ length parts
  pub is : goes_on s old.nodes kept (values_in s old.nodes (drop base parts)) (state_of s old) old.packs step
      ≡ Ok (record { values = values_in s new.nodes (drop base new_parts); context = around_of (trees_in s new.nodes) then; state = state_of s new })
