use Rattle.legacy_parts.proofs.Basics.{rules, root_role}
use Rattle.legacy_parts.proofs.listing.root_of.Goals as goal

pub returns-then-starts_with : goal.returns-then-starts_with
unfolding root_role
returns-then-starts_with c = search rules

pub returns : goal.returns
unfolding root_role
returns c = search rules
