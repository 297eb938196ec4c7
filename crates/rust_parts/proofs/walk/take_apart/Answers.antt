use Rattle.rust_parts.proofs.Basics.{on_ok_weaker, subst, IsApart}
use Rattle.rust_parts.proofs.Taking.{elements-payable, took-name, took-scope, took-elements}
use Rattle.rust_parts.proofs.walk.take_apart.Goals as goal

pub take_name-requires-clause-node : goal.take_name-requires-clause-node
unfolding IsApart
take_name-requires-clause-node c =
    (subst (IsApart c.args.y.now c.args.most) c.in-Name.is c.requires).0

pub take_name-requires-clause-item : goal.take_name-requires-clause-item
unfolding IsApart
take_name-requires-clause-item c =
    (subst (IsApart c.args.y.now c.args.most) c.in-Name.is c.requires).1

pub take_scope-requires-clause-node : goal.take_scope-requires-clause-node
unfolding IsApart
take_scope-requires-clause-node c =
    (subst (IsApart c.args.y.now c.args.most) c.in-Scope.is c.requires).0

pub take_scope-requires-clause-item : goal.take_scope-requires-clause-item
unfolding IsApart
take_scope-requires-clause-item c =
    (subst (IsApart c.args.y.now c.args.most) c.in-Scope.is c.requires).1

pub take_elements-requires-clause-item : goal.take_elements-requires-clause-item
take_elements-requires-clause-item c =
    (elements-payable c.args.y.now c.args.most c.args.next _ _ _ c.in-Elements.is c.requires).0

pub take_elements-requires-clause-number : goal.take_elements-requires-clause-number
take_elements-requires-clause-number c =
    (elements-payable c.args.y.now c.args.most c.args.next _ _ _ c.in-Elements.is c.requires).1

pub take_name-requires-clause-lists : goal.take_name-requires-clause-lists
unfolding IsApart
take_name-requires-clause-lists c =
    (subst (IsApart c.args.y.now c.args.most) c.in-Name.is c.requires).2

pub take_scope-requires-clause-lists : goal.take_scope-requires-clause-lists
unfolding IsApart
take_scope-requires-clause-lists c =
    (subst (IsApart c.args.y.now c.args.most) c.in-Scope.is c.requires).2

pub returns-in-Name-clause-grows : goal.returns-in-Name-clause-grows
returns-in-Name-clause-grows c =
    on_ok_weaker c.take_name.result (λ g. took-name c.args.y.now c.args.most _ _ _ _ _ _ c.in-Name.is g) c.take_name.ensures.grows

pub returns-in-Scope-clause-grows : goal.returns-in-Scope-clause-grows
returns-in-Scope-clause-grows c =
    on_ok_weaker c.take_scope.result (λ g. took-scope c.args.y.now c.args.most _ _ _ _ _ _ c.in-Scope.is g) c.take_scope.ensures.grows

pub returns-in-Elements-clause-grows : goal.returns-in-Elements-clause-grows
returns-in-Elements-clause-grows c =
    on_ok_weaker c.take_elements.result (λ g. took-elements c.args.y.now c.args.most _ _ _ _ _ _ c.in-Elements.is g) c.take_elements.ensures.grows
