use Rattle.cpp_link.proofs.Basics.{refl, sym, ◌∙◌, ap, is_prefix_at, is_qualified_at, fits, can_be_named, both, expected_of, node_fits, maybe_candidate}
use Rattle.cpp_link.proofs.Reading.{fits_is}
use Rattle.cpp_link.proofs.linked.Linked.can_be_named.Goals as goal

pub returns-in_default : goal.returns-in_default
unfolding can_be_named maybe_candidate
returns-in_default c = rw c.in_default.is refl

pub returns : goal.returns
unfolding can_be_named maybe_candidate
returns c =
    let expected = expected_of c.args.self.now.counting.expected in
    rw c.in-Some.is
    (c.node_fits.ensures ∙ both (λ p q. node_fits c.opened.result.node p q) c.is_prefix_at-is_prefix.ensures c.is_qualified_at-is_qualified.ensures
    ∙ sym (ap (λ t. fits (is_prefix_at c.args.place expected) (is_qualified_at c.args.place expected) t) c.opened.ensures.tree ∙ fits_is (is_prefix_at c.args.place expected) (is_qualified_at c.args.place expected) _ _ _ _ c.opened.result.node c.opened.ensures.own))
