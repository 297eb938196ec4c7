use Rattle.demangle_command.proofs.Basics.{rules, tests, YieldsList-from_slice, YieldsList-from_map_by, map_from_collect}
use Rattle.demangle_command.proofs.texts.lent_words.Goals as goal

pub returns : goal.returns
returns c = map_from_collect _ c.collect.ensures.ran (YieldsList-from_map_by _ (λ r. r.now) (λ v. v.items) (YieldsList-from_slice c.args.words.now cc) c.map.ensures.closure (λ x r q k. search (rules, tests)))
