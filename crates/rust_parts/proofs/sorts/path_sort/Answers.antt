use Rattle.rust_parts.proofs.Basics.{sym, ◌∙◌, slice_get, trees_of}
use Rattle.rust_parts.proofs.Sorting.{is-nested, is-punycode, is-generic, is-crate}
use Rattle.rust_parts.proofs.sorts.path_sort.Goals as goal

pub returns-then-found-eq-NESTED : goal.returns-then-found-eq-NESTED
returns-then-found-eq-NESTED c =
    (c.part.ensures.earlier, is-nested (slice_get (trees_of c.args.y.now) c.args.node) c.node-found.ensures.tree (slice_get (trees_of c.args.y.now) c.part.result) c.part.ensures.part (sym c.node-found.ensures.fields.production ∙ c.if-found-eq-NESTED.true))

pub returns-then-found-eq-PUNYCODE_NESTED : goal.returns-then-found-eq-PUNYCODE_NESTED
returns-then-found-eq-PUNYCODE_NESTED c =
    (c.part-then-found-eq-PUNYCODE_NESTED.ensures.earlier, is-punycode (slice_get (trees_of c.args.y.now) c.args.node) c.node-found.ensures.tree (slice_get (trees_of c.args.y.now) c.part-then-found-eq-PUNYCODE_NESTED.result) c.part-then-found-eq-PUNYCODE_NESTED.ensures.part (sym c.node-found.ensures.fields.production ∙ c.if-found-eq-PUNYCODE_NESTED.true))

pub returns-then-found-eq-GENERIC : goal.returns-then-found-eq-GENERIC
returns-then-found-eq-GENERIC c =
    (c.part-then-found-eq-GENERIC.ensures.earlier, is-generic (slice_get (trees_of c.args.y.now) c.args.node) c.node-found.ensures.tree (slice_get (trees_of c.args.y.now) c.part-then-found-eq-GENERIC.result) c.part-then-found-eq-GENERIC.ensures.part (sym c.node-found.ensures.fields.production ∙ c.if-found-eq-GENERIC.true))

pub returns : goal.returns
returns c =
    is-crate (slice_get (trees_of c.args.y.now) c.args.node) (λ p. c.if-found-eq-NESTED.false (c.node-found.ensures.fields.production ∙ p)) (λ p. c.if-found-eq-PUNYCODE_NESTED.false (c.node-found.ensures.fields.production ∙ p)) (λ p. c.if-found-eq-GENERIC.false (c.node-found.ensures.fields.production ∙ p)) (λ p. c.if-found-eq-INHERENT_IMPL.false (c.node-found.ensures.fields.production ∙ p)) (λ p. c.if-found-eq-TRAIT_IMPL.false (c.node-found.ensures.fields.production ∙ p)) (λ p. c.if-found-eq-TRAIT_DEFINITION.false (c.node-found.ensures.fields.production ∙ p))
