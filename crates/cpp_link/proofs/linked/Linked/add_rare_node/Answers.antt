use Rattle.cpp_link.proofs.Basics.{sym, ◌∙◌, ap, subst, arith, length, Piece, Part, Outcome, trees_in, value_of, outcome_value, IsOutcomeThere, nodes_of_outcome}
use Rattle.cpp_term.specs.Term as term
use Rattle.cpp_term.specs.Values as values
use Rattle.cpp_tree.specs.Nodes.{tree_at, piece_of, tree_of}
use Rattle.cpp_link.proofs.Adding.{lacking, added, unadjusted, tree_added, plain_tree_added, pair_added}
use Rattle.cpp_link.proofs.linked.Linked.add_rare_node.Goals as goal

pub returns-in_err-node-in-Thunk : goal.returns-in_err-node-in-Thunk
unfolding nodes_of_outcome
returns-in_err-node-in-Thunk c =
    lacking c.args.symbol.now c.args.self.now c.thunk.new.self c.args.outcome 1 (ap nodes_of_outcome c.in-Thunk.is) c.from_residual.result _ c.from_residual.ensures.1 c.in_err-node-in-Thunk.ensures.adds

pub returns-in_ok-node-in-Thunk : goal.returns-in_ok-node-in-Thunk
unfolding nodes_of_outcome outcome_value
returns-in_ok-node-in-Thunk c =
    tree_added c.args.symbol.now c.args.self.now c.thunk.new.self c.args.outcome 1 (ap nodes_of_outcome c.in-Thunk.is) c.in_ok-node-in-Thunk.node c.in_ok-node-in-Thunk.ensures.adds
    c.in_ok-node-in-Thunk.ensures.adjusts _ _ (ap (outcome_value c.args.symbol.now c.args.self.now.nodes) c.in-Thunk.is) c.in_ok-node-in-Thunk.ensures.tree

pub returns-in_err-node-in-Character : goal.returns-in_err-node-in-Character
unfolding nodes_of_outcome
returns-in_err-node-in-Character c =
    lacking c.args.symbol.now c.args.self.now c.character.new.self c.args.outcome 2 (ap nodes_of_outcome c.in-Character.is) c.from_residual-in_err-node-in-Character.result _
    c.from_residual-in_err-node-in-Character.ensures.1 c.in_err-node-in-Character.ensures.adds

pub returns-in_ok-node-in-Character : goal.returns-in_ok-node-in-Character
unfolding nodes_of_outcome outcome_value
returns-in_ok-node-in-Character c =
    let made = c.in_ok-node-in-Character in
    plain_tree_added c.args.symbol.now c.args.self.now c.character.new.self c.args.outcome 2 (ap nodes_of_outcome c.in-Character.is) made.node made.ensures.adds made.ensures.thunks
    _ _ (ap (outcome_value c.args.symbol.now c.args.self.now.nodes) c.in-Character.is) made.ensures.tree

pub returns-in_err-made-in-MadeOperand : goal.returns-in_err-made-in-MadeOperand
unfolding nodes_of_outcome
returns-in_err-made-in-MadeOperand c =
    lacking c.args.symbol.now c.args.self.now c.add_apart.new.self c.args.outcome 1 (ap nodes_of_outcome c.in-MadeOperand.is) c.from_residual-in_err-made-in-MadeOperand.result _
    c.from_residual-in_err-made-in-MadeOperand.ensures.1 c.in_err-made-in-MadeOperand.ensures.adds

pub returns-in-Some : goal.returns-in-Some
unfolding nodes_of_outcome outcome_value
returns-in-Some c =
    let old = c.args.self.now.nodes in
    let made = c.in_ok-made-in-MadeOperand in
    let is = c.in-MadeOperand.is ∙ ap (λ left. Outcome.MadeOperand c.in-MadeOperand.letter left c.in-MadeOperand.node) c.in-Some.is in
    let there = subst (λ o. IsOutcomeThere c.args.symbol.now (length old.thunks) (length old.nodes) o) is c.requires.there in
    pair_added c.args.symbol.now c.args.self.now c.add_apart.new.self c.args.outcome 1 (ap nodes_of_outcome is) made.made made.ensures.adds made.ensures.thunks
    c.in-MadeOperand.letter c.in-Some.left made.made _ _ (ap (outcome_value c.args.symbol.now old) is)
    (omega (arith, there.0, made.ensures.adds.grows.least)) made.ensures.adds.there (made.ensures.adds.grows.stays c.in-Some.left there.0) made.ensures.tree

pub returns-in-None : goal.returns-in-None
unfolding nodes_of_outcome outcome_value
returns-in-None c =
    let made = c.in_ok-made-in-MadeOperand in
    let is = c.in-MadeOperand.is ∙ ap (λ left. Outcome.MadeOperand c.in-MadeOperand.letter left c.in-MadeOperand.node) c.in-None.is in
    pair_added c.args.symbol.now c.args.self.now c.add_apart.new.self c.args.outcome 1 (ap nodes_of_outcome is) made.made made.ensures.adds made.ensures.thunks
    c.in-MadeOperand.letter made.made 0 _ _ (ap (outcome_value c.args.symbol.now c.args.self.now.nodes) is)
    made.ensures.adds.there (omega (arith, made.ensures.adds.there)) made.ensures.tree made.ensures.adds.grows.table.no_tree

pub returns-in_err-node-in-Enclosed : goal.returns-in_err-node-in-Enclosed
unfolding nodes_of_outcome
returns-in_err-node-in-Enclosed c =
    lacking c.args.symbol.now c.args.self.now c.enclosed.new.self c.args.outcome 2 (ap nodes_of_outcome c.in-Enclosed.is) c.from_residual-in_err-node-in-Enclosed.result _
    c.from_residual-in_err-node-in-Enclosed.ensures.1 c.in_err-node-in-Enclosed.ensures.adds

pub returns-in_ok-node-in-Enclosed : goal.returns-in_ok-node-in-Enclosed
unfolding nodes_of_outcome outcome_value
returns-in_ok-node-in-Enclosed c =
    let made = c.in_ok-node-in-Enclosed in
    plain_tree_added c.args.symbol.now c.args.self.now c.enclosed.new.self c.args.outcome 2 (ap nodes_of_outcome c.in-Enclosed.is) made.node made.ensures.adds made.ensures.thunks
    _ _ (ap (outcome_value c.args.symbol.now c.args.self.now.nodes) c.in-Enclosed.is) made.ensures.tree

pub returns-in_err-node-in-Applied : goal.returns-in_err-node-in-Applied
unfolding nodes_of_outcome
returns-in_err-node-in-Applied c =
    lacking c.args.symbol.now c.args.self.now c.instance.new.self c.args.outcome 2 (ap nodes_of_outcome c.in-Applied.is) c.from_residual-in_err-node-in-Applied.result _
    c.from_residual-in_err-node-in-Applied.ensures.1 c.in_err-node-in-Applied.ensures.adds

pub returns-in_ok-node-in-Applied : goal.returns-in_ok-node-in-Applied
unfolding nodes_of_outcome outcome_value
returns-in_ok-node-in-Applied c =
    let made = c.in_ok-node-in-Applied in
    plain_tree_added c.args.symbol.now c.args.self.now c.instance.new.self c.args.outcome 2 (ap nodes_of_outcome c.in-Applied.is) made.node made.ensures.adds made.ensures.thunks
    _ _ (ap (outcome_value c.args.symbol.now c.args.self.now.nodes) c.in-Applied.is) made.ensures.tree

pub returns-in_err-parameters-in-Lambda : goal.returns-in_err-parameters-in-Lambda
unfolding nodes_of_outcome
returns-in_err-parameters-in-Lambda c =
    lacking c.args.symbol.now c.args.self.now c.add_apart-in-Lambda.new.self c.args.outcome 1 (ap nodes_of_outcome c.in-Lambda.is) c.from_residual-in_err-parameters-in-Lambda.result _
    c.from_residual-in_err-parameters-in-Lambda.ensures.1 c.in_err-parameters-in-Lambda.ensures.adds

pub returns-in_ok-parameters-in-Lambda : goal.returns-in_ok-parameters-in-Lambda
unfolding nodes_of_outcome outcome_value value_of piece_of tree_of
returns-in_ok-parameters-in-Lambda c =
    let made = c.in_ok-parameters-in-Lambda in
    added c.args.symbol.now c.args.self.now c.add_apart-in-Lambda.new.self c.args.outcome 1 (ap nodes_of_outcome c.in-Lambda.is) made.parameters made.ensures.adds
    (unadjusted c.args.symbol.now c.args.self.now c.add_apart-in-Lambda.new.self c.args.outcome 1 (ap nodes_of_outcome c.in-Lambda.is) made.parameters made.ensures.adds made.ensures.thunks)
    (Part.Piece (Piece.Lambda made.parameters c.in-Lambda.number))
    (ap (λ parameters. values.piece (term.lambda parameters c.in-Lambda.number)) made.ensures.tree ∙ sym (ap (outcome_value c.args.symbol.now c.args.self.now.nodes) c.in-Lambda.is)) made.ensures.adds.there

pub returns-in_err-parameters-in-Declaring : goal.returns-in_err-parameters-in-Declaring
unfolding nodes_of_outcome
returns-in_err-parameters-in-Declaring c =
    lacking c.args.symbol.now c.args.self.now c.add_apart-in-Declaring.new.self c.args.outcome 1 (ap nodes_of_outcome c.in-Declaring.is) c.from_residual-in_err-parameters-in-Declaring.result _
    c.from_residual-in_err-parameters-in-Declaring.ensures.1 c.in_err-parameters-in-Declaring.ensures.adds

pub returns-in_ok-parameters-in-Declaring : goal.returns-in_ok-parameters-in-Declaring
unfolding nodes_of_outcome outcome_value value_of piece_of tree_of
returns-in_ok-parameters-in-Declaring c =
    let made = c.in_ok-parameters-in-Declaring in
    let heads = tree_at (trees_in c.args.symbol.now c.args.self.now.nodes) c.in-Declaring.heads in
    added c.args.symbol.now c.args.self.now c.add_apart-in-Declaring.new.self c.args.outcome 1 (ap nodes_of_outcome c.in-Declaring.is) made.parameters made.ensures.adds
    (unadjusted c.args.symbol.now c.args.self.now c.add_apart-in-Declaring.new.self c.args.outcome 1 (ap nodes_of_outcome c.in-Declaring.is) made.parameters made.ensures.adds made.ensures.thunks)
    (Part.Piece (Piece.Lambda made.parameters c.in-Declaring.number))
    (ap (λ parameters. values.piece (term.lambda parameters c.in-Declaring.number)) (made.ensures.tree ∙ ap (λ types. term.declaring heads types) c.requires.place.table.no_list)
    ∙ sym (ap (outcome_value c.args.symbol.now c.args.self.now.nodes) c.in-Declaring.is)) made.ensures.adds.there

pub returns-in_err-parameters-in-DeclaringLambda : goal.returns-in_err-parameters-in-DeclaringLambda
unfolding nodes_of_outcome
returns-in_err-parameters-in-DeclaringLambda c =
    lacking c.args.symbol.now c.args.self.now c.declaring.new.self c.args.outcome 2 (ap nodes_of_outcome c.in-DeclaringLambda.is) c.from_residual-in_err-parameters-in-DeclaringLambda.result _
    c.from_residual-in_err-parameters-in-DeclaringLambda.ensures.1 c.in_err-parameters-in-DeclaringLambda.ensures.adds

pub returns-in_ok-parameters-in-DeclaringLambda : goal.returns-in_ok-parameters-in-DeclaringLambda
unfolding nodes_of_outcome outcome_value value_of piece_of
returns-in_ok-parameters-in-DeclaringLambda c =
    let made = c.in_ok-parameters-in-DeclaringLambda in
    added c.args.symbol.now c.args.self.now c.declaring.new.self c.args.outcome 2 (ap nodes_of_outcome c.in-DeclaringLambda.is) made.parameters made.ensures.adds
    (unadjusted c.args.symbol.now c.args.self.now c.declaring.new.self c.args.outcome 2 (ap nodes_of_outcome c.in-DeclaringLambda.is) made.parameters made.ensures.adds made.ensures.thunks)
    (Part.Piece (Piece.Lambda made.parameters c.in-DeclaringLambda.number))
    (ap (λ parameters. values.piece (term.lambda parameters c.in-DeclaringLambda.number)) made.ensures.tree ∙ sym (ap (outcome_value c.args.symbol.now c.args.self.now.nodes) c.in-DeclaringLambda.is)) made.ensures.adds.there
