use Rattle.rust_parts.proofs.Basics.{sym, ap, arith, ◌∙◌, slice_index, kind_of_path, kind_of_letter, kind_of_symbol}
use Rattle.rust_parts.proofs.Sorting.{kind-crate, kind-implementation, kind-generic, kind-passed, kind-own}
use Rattle.rust_parts.proofs.kinds.kind_of.Goals as goal

pub paths-init : goal.paths-init
unfolding kind_of_symbol
paths-init c =
    (c.root_path-node.ensures.below, ap kind_of_path c.root_path-node.ensures.path)

pub returns-in-Crate : goal.returns-in-Crate
returns-in-Crate c =
    sym (kind-crate c.args.y.now c.paths.node c.path_sort.result c.path_sort.ensures c.in-Crate.is) ∙ c.paths.invariant.1

pub returns-in-Implementation : goal.returns-in-Implementation
returns-in-Implementation c =
    sym (kind-implementation c.args.y.now c.paths.node c.path_sort.result c.path_sort.ensures c.in-Implementation.is) ∙ c.paths.invariant.1

pub paths-preserved-in-Generic : goal.paths-preserved-in-Generic
paths-preserved-in-Generic c =
    let k = kind-generic c.args.y.now c.paths.node c.path_sort.result c.path_sort.ensures _ c.in-Generic.is in (omega (arith, k.0, c.paths.invariant.0), sym k.1 ∙ c.paths.invariant.1)

pub returns-then-not-is_passed : goal.returns-then-not-is_passed
returns-then-not-is_passed c =
    c.kind_of_letter.ensures ∙ ap (λ ns. kind_of_letter (slice_index ns 0)) c.node.ensures.fields.numbers ∙ sym (kind-own c.args.y.now c.paths.node c.path_sort.result c.path_sort.ensures _ c.in-Nested.is (sym c.is_passed.ensures ∙ c.if-not-is_passed.true)) ∙ c.paths.invariant.1

pub paths-preserved : goal.paths-preserved
paths-preserved c =
    let k = kind-passed c.args.y.now c.paths.node c.path_sort.result c.path_sort.ensures _ c.in-Nested.is (sym c.is_passed.ensures ∙ c.if-not-is_passed.false) in (omega (arith, k.0, c.paths.invariant.0), sym k.1 ∙ c.paths.invariant.1)
