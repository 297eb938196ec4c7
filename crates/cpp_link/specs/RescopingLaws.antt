-- Linking by the wide grammar obeys the laws of linking in every language.
use Rattle.std.proofs.Common.{◌≡◌, refl, ℕ, ◌-◌, suc, List, [], ◌∷◌, length, Bool, true, false, Option, None, Some, Err}
use Rattle.std.specs.Result.{IfOk}
use Rattle.sym_core.specs.declared.refusal.Refusal.TheVariants.{BadReference}
use Rattle.sym_core.specs.declared.NumberKind.TheVariants.{Seq36}
use Rattle.sym_core.specs.Value.{counted_value}
use Rattle.sym_link.specs.Reading.{Next}
use Rattle.sym_link.specs.Linking.{View, IsLinking}
use Rattle.sym_link.specs.Threads.{IsThreading}
use Rattle.sym_link.proofs.Tally.{tallied_threads}
use Rattle.cpp_grammar.specs.declared.production.Production.{Production}
use Rattle.cpp_grammar.specs.Unfolding.{production_at}
use Rattle.cpp_grammar.specs.Rescoping.{generic_number}
use Rattle.cpp_term.specs.Term.{Term, holder, parameter}
use Rattle.cpp_term.specs.Items.{auto}
use Rattle.cpp_term.specs.Values.{State, Value, tree, Around, prefix_tree, text_of}
use Rattle.cpp_term.specs.Between.{next, parameter_so_far, argument_so_far, listed_so_far, index_of}
use Rattle.cpp_term.specs.Unfolding.{cpp}
use Rattle.cpp_term.specs.Rescoping.{generic_so_far, parameter_here, argument_here, with_holder, is_instance, holder_so_far, module_named, module_so_far, between_wide, cpp_wide}
use Rattle.cpp_link.specs.declared.linked.Linked.{Linked}
use Rattle.cpp_link.specs.declared.part.Part.{Part}
use Rattle.cpp_references.specs.declared.around.Surroundings.{Surroundings}
use Rattle.cpp_link.specs.Counts.{parameter_counts, argument_counts, between_counts}
use Rattle.cpp_link.specs.LinkRescoping.{wide_makes, wide_view, within, wide_counted}
use Rattle.cpp_link.specs.ViewLaws.{cpp_laws, cpp_threads}

-- ## A step keeps the number of values

here_counts : (around : Around) (place k : ℕ) (vs : List Value) (state : State) → IfOk (parameter_here around place k vs state) (λ next. length next.values ≡ suc (length vs))
unfolding parameter_here generic_so_far listed_so_far
here_counts around place k vs state = go around.in_lambda
  where
    go : (b : Bool) → IfOk {T = Next Value State Around} (elim b [ true ↦ generic_so_far around k vs state | false ↦ parameter_so_far around place k vs state ]) (λ next. length next.values ≡ suc (length vs))
    go true = refl
    go false = parameter_counts around place k vs state

argument_here_counts : (around : Around) (place k : ℕ) (state : State) → IfOk (argument_here around place k state) (λ next. length next.values ≡ 1)
unfolding argument_here
argument_here_counts around place k state = go around.in_lambda
  where
    go : (b : Bool) → IfOk {T = Next Value State Around} (elim b [
      | true ↦ next (tree (parameter (generic_number k) auto) true ∷ []) around state
      | false ↦ argument_so_far around place k state
    ]) (λ next. length next.values ≡ 1)
    go true = refl
    go false = argument_counts around place k state

holder_counts : (around : Around) (place : ℕ) (state : State) → IfOk (holder_so_far around place state) (λ next. length next.values ≡ 1)
unfolding holder_so_far listed_so_far
holder_counts around place state = go (is_instance (prefix_tree around.prefix))
  where
    go : (b : Bool) → IfOk {T = Next Value State Around} (elim b [
      | true ↦ Err (BadReference place)
      | false ↦ listed_so_far around (holder (prefix_tree around.prefix)) [] (with_holder around (holder (prefix_tree around.prefix)) state)
    ]) (λ next. length next.values ≡ 1)
    go true = tt
    go false = refl

module_counts : (around : Around) (place number : ℕ) (state : State) → IfOk (module_so_far around place number state) (λ next. length next.values ≡ 1)
unfolding module_so_far listed_so_far
module_counts around place number state = go (module_named number state)
  where
    go : (o : Option Term) → IfOk {T = Next Value State Around} (elim o [
      | None ↦ Err (BadReference place)
      | Some t ↦ listed_so_far around t [] state
    ]) (λ next. length next.values ≡ 1)
    go None = tt
    go (Some t) = refl

wide_between_counts : (p : Production) (around : Around) (place : ℕ) (vs : List Value) (state : State) → IfOk (between_wide p around place vs state) (λ next. length next.values ≡ length vs)
unfolding between_wide
wide_between_counts Production.NestParameter around place (v ∷ []) state = here_counts around place (index_of v) [] state
wide_between_counts Production.Parameter around place (v ∷ []) state = here_counts around place (index_of v) [] state
wide_between_counts Production.ParameterArgument around place (v ∷ []) state = here_counts around (place - 1) (index_of v) [] state
wide_between_counts Production.ParameterExpression around place (v ∷ []) state = argument_here_counts around (place - 1) (index_of v) state
wide_between_counts Production.HeldArguments around place [] state = refl
wide_between_counts Production.DeclaredFirst around place [] state = refl
wide_between_counts Production.Constraint around place [] state = refl
wide_between_counts Production.EncodingLiteral around place (v ∷ []) state = refl
wide_between_counts Production.Encoding around place [] state = refl
wide_between_counts Production.Encoding around place (v ∷ []) state = refl
wide_between_counts Production.Holder around place (v ∷ []) state = holder_counts around place state
wide_between_counts Production.NamedModule around place (v ∷ []) state = module_counts around (place - 1) (counted_value Seq36 (text_of v)) state
wide_between_counts p around place vs state = between_counts p around place vs state

-- ## The language

wide_view_laws : (s : List ℕ) → IsLinking (wide_view s)
unfolding cpp cpp_wide
wide_view_laws s = let laws = cpp_laws s in record {
  sound = laws.sound;
  starts = laws.starts;
  part_stays = laws.part_stays;
  kept_stays = laws.kept_stays;
  paid_more = laws.paid_more;
  keeps_count = λ rule known state. wide_between_counts (production_at rule.rule.number) rule.context rule.place known state;
  few = laws.few;
  two = laws.two;
  closing = laws.closing;
  two_at_once = λ s around held from left rule taken parts rest stands next once.
      let at_once = laws.two_at_once s around held from left rule taken parts rest stands next once in
      record { closed = at_once.closed; refused = at_once.refused };
}

wide_view_threads : (s : List ℕ) → IsThreading (wide_view s)
unfolding cpp cpp_wide
wide_view_threads s = record { linking = wide_view_laws s; grows_same = (cpp_threads s).grows_same; grows_then = (cpp_threads s).grows_then; one = refl }

within_laws : {S : Type 0} (view : View Linked Part Surroundings Value S Around) → IsLinking view → IsLinking (within view)
within_laws view laws = record {
  sound = laws.sound;
  starts = laws.starts;
  part_stays = λ old new part value grows is. laws.part_stays old.linked new.linked part value grows is;
  kept_stays = λ old new kept rule grows is. laws.kept_stays old.linked new.linked kept rule grows is;
  paid_more = λ l few more le paid. laws.paid_more l.linked few more le paid;
  keeps_count = laws.keeps_count;
  few = laws.few;
  two = laws.two;
  closing = laws.closing;
  two_at_once = λ s around held from left rule taken parts rest stands next once.
      let at_once = laws.two_at_once s around held from left rule taken parts rest stands next once in
      record { closed = at_once.closed; refused = at_once.refused };
}

within_threads : {S : Type 0} (view : View Linked Part Surroundings Value S Around) → IsThreading view → IsThreading (within view)
within_threads view threads = record {
  linking = within_laws view threads.linking;
  grows_same = λ l. threads.grows_same l.linked;
  grows_then = λ a b c first second. threads.grows_then a.linked b.linked c.linked first second;
  one = threads.one;
}

pub wide_threads : (s : List ℕ) → IsThreading (wide_counted s)
wide_threads s = within_threads _ (tallied_threads (wide_view s) wide_makes (wide_view_threads s))

pub wide_laws : (s : List ℕ) → IsLinking (wide_counted s)
wide_laws s = (wide_threads s).linking
