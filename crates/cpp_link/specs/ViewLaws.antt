-- Linking a C++ symbol obeys the laws that hold for every language.
use Rattle.std.proofs.Common.{◌≡◌, refl, ◌∙◌, arith, ℕ, ◌≤◌, false, List, length}
use Rattle.sym_link.proofs.Tally.{tallied_laws, tallied_threads}
use Rattle.sym_link.specs.Reading.{Open}
use Rattle.sym_link.specs.Linking.{IsLinking}
use Rattle.sym_link.specs.Threads.{IsThreading}
use Rattle.cpp_grammar.specs.Grammar.{kinds, may_be_empty}
use Rattle.cpp_grammar.specs.Table.{wide_sheet, sheet_with, blank, wide}
use Rattle.cpp_grammar.specs.TableLaws.{wide_sound}
use Rattle.cpp_grammar.specs.Unfolding.{production_at}
use Rattle.cpp_term.specs.Unfolding.{cpp}
use Rattle.cpp_term.specs.Values.{State, Value, Around}
use Rattle.cpp_link.specs.declared.part.Part.{Part}
use Rattle.cpp_references.specs.declared.around.Surroundings.{Surroundings}
use Rattle.cpp_link.specs.declared.linked.Linked.{Linked}
use Rattle.cpp_link.specs.Owed.{owes}
use Rattle.cpp_link.specs.Bound.{few_nodes}
use Rattle.cpp_link.specs.Closes.{closes}
use Rattle.cpp_link.specs.ClosesLaws.{owes_two, closes_owed}
use Rattle.cpp_link.specs.AtOnce.{at_once_two}
use Rattle.cpp_link.specs.NodeCount.{cpp_makes, cpp_counted}
use Rattle.cpp_link.specs.View.{IsPart, Surrounds, IsKept, GoesOn, cpp_view}
use Rattle.cpp_link.specs.Counts.{between_counts}
use Rattle.cpp_link.specs.Staying.{value_stays, around_stays, there_more, kept_more}

part_stays : (s : List ℕ) (old new : Linked) (part : Part) (value : Value) → GoesOn s old new → IsPart s old part value → IsPart s new part value
part_stays s old new part value grows is = record {
  there = there_more s (length old.nodes.nodes) (length new.nodes.nodes) part grows.least is.there;
  is = value_stays s old.nodes new.nodes grows.stays part is.there ∙ is.is;
}

pub surrounds_stays : (s : List ℕ) (old new : Linked) (kept : Surroundings) (around : Around) → GoesOn s old new → Surrounds s old kept around → Surrounds s new kept around
surrounds_stays s old new kept around grows is = record {
  there = kept_more (length old.nodes.nodes) (length new.nodes.nodes) kept grows.least is.there;
  is = around_stays s old.nodes new.nodes grows.stays kept is.there ∙ is.is;
  closed = is.closed;
}

kept_stays : (s : List ℕ) (old new : Linked) (kept : Surroundings) (rule : Open State Around) → GoesOn s old new → IsKept s old kept rule → IsKept s new kept rule
kept_stays s old new kept rule grows is = record { surrounds = surrounds_stays s old new kept rule.context grows is.surrounds; packs = is.packs }

starts : wide.may_be_empty 0 ≡ false
unfolding wide wide_sheet sheet_with blank kinds may_be_empty
starts = refl

two : (number held : ℕ) → owes number held ≤ 2
unfolding owes
two number held = owes_two (production_at number) held

closing : (number : ℕ) (own : List Part) → closes number own ≤ owes number (length own)
unfolding owes closes
closing number own = closes_owed (production_at number) own

pub cpp_laws : (s : List ℕ) → IsLinking (cpp_view s)
unfolding cpp
cpp_laws s = record {
  sound = wide_sound;
  starts = starts;
  part_stays = λ old new part value grows is. part_stays s old new part value grows is;
  kept_stays = λ old new kept rule grows is. kept_stays s old new kept rule grows is;
  paid_more = λ l few more le paid. paid;
  keeps_count = λ rule known state. between_counts (production_at rule.rule.number) rule.context rule.place known state;
  few = λ tree is rows. few_nodes tree is;
  two = λ number held. two number held;
  closing = λ number own. closing number own;
  two_at_once = λ s around held from left rule taken parts rest stands next once.
      let at_once = at_once_two s around held from left rule taken parts rest stands next once in
      record { closed = at_once.closed; refused = at_once.refused };
}

-- the symbol's nodes are made one after the other
pub cpp_threads : (s : List ℕ) → IsThreading (cpp_view s)
unfolding cpp
cpp_threads s = record {
  linking = cpp_laws s;
  grows_same = λ l. record { least = omega arith; stays = λ i less. refl };
  grows_then = λ a b c first second. record { least = omega (arith, first.least, second.least); stays = λ i less. second.stays i (omega (arith, first.least, less)) ∙ first.stays i less };
  one = refl;
}

-- likewise where the nodes are counted
pub counted_laws : (s : List ℕ) → IsLinking (cpp_counted s)
counted_laws s = tallied_laws (cpp_view s) cpp_makes (cpp_laws s)

pub counted_threads : (s : List ℕ) → IsThreading (cpp_counted s)
counted_threads s = tallied_threads (cpp_view s) cpp_makes (cpp_threads s)
