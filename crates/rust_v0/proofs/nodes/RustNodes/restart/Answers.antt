use Rattle.rust_v0.proofs.Basics.{◌≡◌, refl, ap, subst, ◌∙◌, ℕ, ◌+◌, ◌++◌, List, [], length, false, Some, arith, slice_get, signed_text, of_arguments, of_bounds, of_bindings, trees, tree-stays}
use Rattle.rust_tree.specs.Symbol as tree
use Rattle.rust_v0.proofs.Beginning.{zero_alone, no_nodes, no_arguments_made, no_bounds_made, no_bindings_made, one_added}
use Rattle.rust_v0.proofs.Noted.{noted_further}
use Rattle.rust_v0.proofs.nodes.RustNodes.restart.Goals as goal

pub returns-clause-keeps : goal.returns-clause-keeps
returns-clause-keeps c =
    let s = c.args.symbol.now in
    let none = c.clear.new.self in
    let one = c.push.new.self in
    let two = c.push-2.new.self in
    let three = c.push-3.new.self in
    let four = c.push_decimal.new.self in
    let first = c.in_ok-push.ensures.stands s (of_arguments tree.no_arguments) (no_nodes s none c.clear.ensures.nodes) (no_arguments_made s none) in
    let second = c.in_ok-push-2.ensures.stands s (of_bounds tree.no_bounds) first.0 (no_bounds_made s one) in
    let third = c.in_ok-push-3.ensures.stands s (of_bindings tree.no_bindings) second.0 (no_bindings_made s two) in
    let zeroth_is = c.in_ok-push.ensures.number ∙ ap (λ l. length l) c.clear.ensures.nodes in
    let count_1 = one_added s none one c.in_ok-push.field-0 _ c.in_ok-push.ensures.number first.1 c.push.ensures.one in
    let first_is = c.in_ok-push-2.ensures.number ∙ count_1 ∙ ap (λ l. length l + 1) c.clear.ensures.nodes in
    let count_2 = one_added s one two c.in_ok-push-2.field-0 _ c.in_ok-push-2.ensures.number second.1 c.push-2.ensures.one in
    let second_is = c.in_ok-push-3.ensures.number ∙ count_2 ∙ ap (λ n. n + 1) (count_1 ∙ ap (λ l. length l + 1) c.clear.ensures.nodes) in
    let got_0 = subst (λ n. slice_get (trees s one.nodes) n ≡ Some (of_arguments tree.no_arguments)) zeroth_is first.1 in
    let got_1 = subst (λ n. slice_get (trees s two.nodes) n ≡ Some (of_bounds tree.no_bounds)) first_is second.1 in
    let got_2 = subst (λ n. slice_get (trees s three.nodes) n ≡ Some (of_bindings tree.no_bindings)) second_is third.1 in
    record {
      table = c.push_decimal.ensures.stays s third.0;
      lists = record {
        arguments = tree-stays s three four 0 _ c.push_decimal.ensures.grows (tree-stays s two three 0 _ c.push-3.ensures.grows (tree-stays s one two 0 _ c.push-2.ensures.grows got_0));
        bounds = tree-stays s three four 1 _ c.push_decimal.ensures.grows (tree-stays s two three 1 _ c.push-3.ensures.grows got_1);
        bindings = tree-stays s three four 2 _ c.push_decimal.ensures.grows got_2;
      };
      noted = noted_further (trees s four.nodes) c.clear-2.new.self.items c.reach.new.targets.items c.reach.ensures.more.0 [] c.reach.ensures.more.1 (λ place. rw c.clear-2.ensures.items refl);
      places = c.in_ok-reach.ensures.there;
    }

pub returns-clause-first : goal.returns-clause-first
returns-clause-first c =
    let s : List ℕ = [] in
    let none = c.clear.new.self in
    let one = c.push.new.self in
    let two = c.push-2.new.self in
    let three = c.push-3.new.self in
    let first = c.in_ok-push.ensures.stands s (of_arguments tree.no_arguments) (no_nodes s none c.clear.ensures.nodes) (no_arguments_made s none) in
    let second = c.in_ok-push-2.ensures.stands s (of_bounds tree.no_bounds) first.0 (no_bounds_made s one) in
    let third = c.in_ok-push-3.ensures.stands s (of_bindings tree.no_bindings) second.0 (no_bindings_made s two) in
    omega (
      arith,
      ap (λ l. length l) c.clear.ensures.nodes,
      one_added s none one c.in_ok-push.field-0 _ c.in_ok-push.ensures.number first.1 c.push.ensures.one,
      one_added s one two c.in_ok-push-2.field-0 _ c.in_ok-push-2.ensures.number second.1 c.push-2.ensures.one,
      one_added s two three c.in_ok-push-3.field-0 _ c.in_ok-push-3.ensures.number third.1 c.push-3.ensures.one,
      ap (λ l. length l) c.push_decimal.ensures.nodes,
    )

pub returns-clause-paid : goal.returns-clause-paid
returns-clause-paid c =
    let before : c.push-3.new.self.text ≡ [] = c.push-3.ensures.text ∙ c.push-2.ensures.text ∙ c.push.ensures.text ∙ c.clear.ensures.text in
    let alone = zero_alone c.push_decimal.new.self.text (c.in_ok-push_decimal.ensures.text ∙ ap (λ l. l ++ signed_text false 0) before) in
    record {
      begun = omega (arith, returns-clause-first c);
      text = omega (arith, alone.1);
      zero = alone.0;
    }
