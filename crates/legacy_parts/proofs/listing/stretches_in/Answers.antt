use Rattle.legacy_parts.proofs.Basics.{ap, ◌∙◌, arith, inl, inr, stretches_of, path_marked}
use Rattle.legacy_parts.proofs.Marking.{all-listed}
use Rattle.legacy_parts.proofs.Whole.{has-names, names-fit, names-within, root-is, same-path, some, suffix-length, suffix-within}
use Rattle.legacy_parts.proofs.listing.stretches_in.Goals as goal

pub measured-requires-clause-names : goal.measured-requires-clause-names
measured-requires-clause-names c = has-names c.args.symbol.now c.args.place c.requires.placed c.args.text.now c.requires.text c.requires.fits

pub measured-requires-clause-fits : goal.measured-requires-clause-fits
measured-requires-clause-fits c = names-fit c.args.symbol.now c.args.place c.requires.placed c.args.text.now c.requires.text c.requires.fits

pub push_names-requires-clause-fits : goal.push_names-requires-clause-fits
push_names-requires-clause-fits c =
    let are = c.measured.ensures c.requires.placed.0.names c.requires.placed.2.0 in
    omega (arith, are.place, are.last, names-within c.args.symbol.now c.args.place c.requires.placed c.args.text.now c.requires.text c.requires.fits, c.requires.fits)

pub overflow_cast-symbol : goal.overflow_cast-symbol
overflow_cast-symbol c =
    omega (arith, suffix-within c.args.symbol.now c.args.place c.requires.placed c.args.text.now c.requires.text c.requires.fits, c.requires.fits)

pub push_suffix-requires : goal.push_suffix-requires
push_suffix-requires c =
    let are = c.measured.ensures c.requires.placed.0.names c.requires.placed.2.0 in
    elim (suffix-within c.args.symbol.now c.args.place c.requires.placed c.args.text.now c.requires.text c.requires.fits)
    [ inl none ↦ inl none | inr some ↦ inr (omega (arith, some, c.requires.fits, are.place, are.last, c.in_ok-push_names.ensures.place)) ]

pub returns-clause-stretches : goal.returns-clause-stretches
returns-clause-stretches c = λ path is. (
    let s = c.args.symbol.now in
    let place = c.args.place in
    let placed = c.requires.placed in
    let are = c.measured.ensures placed.0.names placed.2.0 in
    let names = some s place placed c.args.text.now c.requires.text c.requires.fits in
    let root = c.root_of.ensures ∙ root-is s place placed c.args.text.now c.requires.text c.requires.fits in
    let count = suffix-length s place placed c.args.text.now c.requires.text c.requires.fits in
    all-listed placed.0 c.measured.result _ _ _ _ _ names are root c.in_ok-push_names.ensures.place count c.in_ok-push_names.ensures.parts
    (c.into_list.ensures ∙ c.in_ok-push_suffix.ensures.parts)
    ∙ ap (λ p. stretches_of (path_marked p)) (same-path s place placed c.args.text.now c.requires.text c.requires.fits path is))
