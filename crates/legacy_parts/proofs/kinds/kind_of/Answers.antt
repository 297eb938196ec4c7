use Rattle.legacy_parts.proofs.Basics.{ap, sym, ◌∙◌, length, take, arith, length-drop, length-take-le, take_rest, is_closure, kind_of_path}
use Rattle.legacy_parts.proofs.Whole.{has-names, kind-is, last-is, names-fit, names-within, same-path}
use Rattle.legacy_parts.proofs.kinds.kind_of.Goals as goal

pub measured-names-requires-clause-names : goal.measured-names-requires-clause-names
measured-names-requires-clause-names c = has-names c.args.symbol.now c.args.place c.requires.placed c.args.text.now c.requires.text c.requires.fits

pub measured-names-requires-clause-fits : goal.measured-names-requires-clause-fits
measured-names-requires-clause-fits c = names-fit c.args.symbol.now c.args.place c.requires.placed c.args.text.now c.requires.text c.requires.fits

pub slice_bounds-base-count : goal.slice_bounds-base-count
slice_bounds-base-count c =
    let are = c.measured-names.ensures c.requires.placed.0.names c.requires.placed.2.0 in
    omega (arith, are.place, names-within c.args.symbol.now c.args.place c.requires.placed c.args.text.now c.requires.text c.requires.fits)

pub slice_bounds-base-start : goal.slice_bounds-base-start
slice_bounds-base-start c =
    let are = c.measured-names.ensures c.requires.placed.0.names c.requires.placed.2.0 in
    omega (arith, are.place, names-within c.args.symbol.now c.args.place c.requires.placed c.args.text.now c.requires.text c.requires.fits)

pub slice_bounds-is_closure-end : goal.slice_bounds-is_closure-end
slice_bounds-is_closure-end c =
    let are = c.measured-names.ensures c.requires.placed.0.names c.requires.placed.2.0 in
    let within = names-within c.args.symbol.now c.args.place c.requires.placed c.args.text.now c.requires.text c.requires.fits in
    let from = c.measured-names.result.place in
    let last = c.measured-names.result.last in
    let rest = take_rest c.args.text.now from in
    sym (length-take-le last _ (omega (arith, are.place, are.last, within, ap length rest, length-drop from c.args.text.now)))

pub returns-then-is_closure : goal.returns-then-is_closure
returns-then-is_closure c = λ path is. (
    let are = c.measured-names.ensures c.requires.placed.0.names c.requires.placed.2.0 in
    let from = c.measured-names.result.place in
    let last = c.measured-names.result.last in
    let rest = take_rest c.args.text.now from in
    let shows = ap (take last) rest ∙ last-is c.args.symbol.now c.args.place c.requires.placed c.args.text.now c.requires.text c.requires.fits from last are.place are.last in
    kind-is c.requires.placed.0 _ (sym c.if-is_closure.true ∙ c.is_closure.ensures ∙ ap is_closure shows)
    ∙ ap kind_of_path (same-path c.args.symbol.now c.args.place c.requires.placed c.args.text.now c.requires.text c.requires.fits path is))

pub returns : goal.returns
returns c = λ path is. (
    let are = c.measured-names.ensures c.requires.placed.0.names c.requires.placed.2.0 in
    let from = c.measured-names.result.place in
    let last = c.measured-names.result.last in
    let rest = take_rest c.args.text.now from in
    let shows = ap (take last) rest ∙ last-is c.args.symbol.now c.args.place c.requires.placed c.args.text.now c.requires.text c.requires.fits from last are.place are.last in
    kind-is c.requires.placed.0 _ (sym c.if-is_closure.false ∙ c.is_closure.ensures ∙ ap is_closure shows)
    ∙ ap kind_of_path (same-path c.args.symbol.now c.args.place c.requires.placed c.args.text.now c.requires.text c.requires.fits path is))
