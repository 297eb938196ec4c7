use Rattle.std.proofs.Common.{◌≡◌, ◌∷◌, ◌++◌, ◌+◌, [], length, drop, map, get_or, sym, ap, ◌∙◌, length-append}
use Rattle.std.specs.List.{flat_map}
use Rattle.std.proofs.lemmas.List.{at_drop_all, at_drop_more}
use Rattle.rust_spelled.specs.Arguments.{arguments_of, generics, item_of, items_of, list_of}
use Rattle.rust_spelled.proofs.Walking.{found-all, found-more, generic-here, generic-later, generic-none, items-here, items-none}
use Rattle.rust_spelled.proofs.lists.lists_of.Goals as goal

pub loop-path-preserved-then-not-is_generic : goal.loop-path-preserved-then-not-is_generic
loop-path-preserved-then-not-is_generic c =
    let rows = c.args.rows.now in
    let paths = c.args.paths.now in
    let index = c.loop-path.path-index in
    let found = c.loop-path.found in
    let same = at_drop_more (generics rows) paths index 0 c.loop-path-test.true ∙ generic-later rows (get_or paths index 0) (drop (index + 1) paths) (sym c.is_generic.ensures ∙ c.if-not-is_generic.true) in
    record {
      lists = sym (ap (λ left. found.lists.items ++ map (list_of rows) left) same) ∙ c.loop-path.invariant.lists;
      items = sym (ap (λ left. found.items.items ++ items_of rows (length found.elements.items) left) same) ∙ c.loop-path.invariant.items;
      elements = sym (ap (λ left. found.elements.items ++ flat_map (arguments_of rows) left) same) ∙ c.loop-path.invariant.elements;
    }

pub loop-path-preserved : goal.loop-path-preserved
loop-path-preserved c =
    let rows = c.args.rows.now in
    let paths = c.args.paths.now in
    let index = c.loop-path.path-index in
    let path = get_or paths index 0 in
    let left = generics rows (drop (index + 1) paths) in
    let old = c.loop-path.found in
    let new = c.push_list.new.found in
    let before = length old.elements.items in
    let here = at_drop_more (generics rows) paths index 0 c.loop-path-test.true ∙ generic-here rows path (drop (index + 1) paths) (sym c.is_generic.ensures ∙ c.if-not-is_generic.false) in
    let pushed = c.in_ok-push_list.ensures in
    let count : length new.elements.items ≡ before + length (arguments_of rows path) = ap length pushed.elements ∙ length-append old.elements.items (arguments_of rows path) in
    record {
      lists = found-more old.lists.items new.lists.items (list_of rows path ∷ []) (map (list_of rows) left) _ pushed.lists
          (sym (ap (λ g. old.lists.items ++ map (list_of rows) g) here) ∙ c.loop-path.invariant.lists);
      items = found-more old.items.items new.items.items (item_of rows before path ∷ []) (items_of rows (length new.elements.items) left) _ pushed.items
          (ap (λ n. old.items.items ++ item_of rows before path ∷ items_of rows n left) count
          ∙ (sym (ap (λ all. old.items.items ++ all) (ap (items_of rows before) here ∙ items-here rows before path left)) ∙ c.loop-path.invariant.items));
      elements = found-more old.elements.items new.elements.items (arguments_of rows path) (flat_map (arguments_of rows) left) _ pushed.elements
          (sym (ap (λ g. old.elements.items ++ flat_map (arguments_of rows) g) here) ∙ c.loop-path.invariant.elements);
    }

pub returns-clause-lists : goal.returns-clause-lists
returns-clause-lists c =
    let rows = c.args.rows.now in
    let none = at_drop_all (generics rows) c.args.paths.now c.loop-path.path-index c.loop-path-test.false ∙ generic-none rows in
    found-all _ _ _ (ap (map (list_of rows)) none) c.loop-path.invariant.lists

pub returns-clause-items : goal.returns-clause-items
returns-clause-items c =
    let rows = c.args.rows.now in
    let before = length c.loop-path.found.elements.items in
    let none = at_drop_all (generics rows) c.args.paths.now c.loop-path.path-index c.loop-path-test.false ∙ generic-none rows in
    found-all _ _ _ (ap (items_of rows before) none ∙ items-none rows before) c.loop-path.invariant.items

pub returns-clause-elements : goal.returns-clause-elements
returns-clause-elements c =
    let rows = c.args.rows.now in
    let none = at_drop_all (generics rows) c.args.paths.now c.loop-path.path-index c.loop-path-test.false ∙ generic-none rows in
    found-all _ _ _ (ap (flat_map (arguments_of rows)) none) c.loop-path.invariant.elements
