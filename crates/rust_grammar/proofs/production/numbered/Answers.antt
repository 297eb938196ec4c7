use Rattle.std.proofs.Common.{arith, ◌≤◌, length, sym}
use Rattle.std.proofs.lemmas.Option.{slice_get_past}
use Rattle.rust_grammar.specs.Productions.{productions}
use Rattle.rust_grammar.proofs.production.numbered.Goals as goal

-- there are 48 productions
pub returns-in_default : goal.returns-in_default
returns-in_default c =
    let past : length productions ≤ c.args.number = omega arith in
    sym (slice_get_past productions c.args.number past)
