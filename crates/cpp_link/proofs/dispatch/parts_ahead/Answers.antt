use Rattle.cpp_link.proofs.Basics.{sym, ◌∙◌, subst, IsAhead, ahead_by_count, wide}
use Rattle.cpp_link.proofs.Ahead.{ahead_right}
use Rattle.cpp_link.proofs.dispatch.parts_ahead.Goals as goal

pub returns-then-not-skips_parts : goal.returns-then-not-skips_parts
returns-then-not-skips_parts c =
    ahead_right c.args.number c.args.held c.args.after (sym c.skips_parts.ensures ∙ c.if-not-skips_parts.true)

pub returns : goal.returns
returns c =
    subst (λ n. IsAhead wide c.args.number c.args.held c.args.after n) (sym c.saturating_sub.ensures)
    (ahead_by_count wide c.args.number c.args.held c.args.after c.part_count.result c.part_count.ensures)
