use Rattle.std.proofs.Common.{sym, ◌∙◌}
use Rattle.cpp_link.proofs.FamilyArms.{common}
use Rattle.cpp_link.proofs.linked.Linked.outcome_by_family.Goals as goal

pub unreachable-requires : goal.unreachable-requires
unreachable-requires c = common c.args.production (sym c.family_of.ensures ∙ c.in-Common.is) c.requires.rare
