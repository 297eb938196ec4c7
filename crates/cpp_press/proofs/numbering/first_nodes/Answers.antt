use Rattle.cpp_press.proofs.Basics.{[], arith, first-below, plain_at, found_in, IsKey}
use Rattle.cpp_press.proofs.Numbered.{begins-alone}
use Rattle.cpp_press.proofs.numbering.first_nodes.Goals as goal

pub firsts_after-requires-clause-next : goal.firsts_after-requires-clause-next
firsts_after-requires-clause-next c =
    let y = c.args.symbol.now in
    (plain_at y, [], begins-alone y (found_in c.in_ok-keys.keys) c.in_ok-keys.ensures.none)

pub returns-clause-firsts : goal.returns-clause-firsts
returns-clause-firsts c =
    let y = c.args.symbol.now in
    let firsts = c.in_ok-firsts.firsts.items in
    let known = c.in_ok-firsts.ensures.firsts (plain_at y) [] (begins-alone y (found_in c.in_ok-keys.keys) c.in_ok-keys.ensures.none) in record {
      long = c.in_ok-firsts.ensures.long;
      same = known.apart.same;
      equal = known.apart.equal;
      below = λ i low. omega (
        arith,
        c.in_ok-firsts.ensures.long,
        first-below (plain_at y) (IsKey (plain_at y)) firsts (found_in c.firsts_after.new.keys) known i low,
      );
    }
