use Rattle.sym_calls.proofs.Basics.{rules, tests, numbered}
use Rattle.std.proofs.lemmas.Iterator.{YieldsList-from_map, YieldsList-from_slice, items_from_collect}
use Rattle.sym_calls.proofs.parts.all_numbered.Goals as goal

pub returns : goal.returns
returns c = items_from_collect _ c.collect.ensures.ran (YieldsList-from_map _ numbered (YieldsList-from_slice c.args.parts.now cc) c.map.ensures.closure (λ x r q k. search (rules, tests)))
