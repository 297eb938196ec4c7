use Rattle.sym_shape.proofs.Basics.{subst, FindsToken, Name}
use Rattle.sym_shape.proofs.parse.Parse.step.Goals as goal

pub read_token-requires-in-Some-Number-clause-found : goal.read_token-requires-in-Some-Number-clause-found
read_token-requires-in-Some-Number-clause-found g c = c.find_number-found.ensures

pub read_token-requires-clause-found : goal.read_token-requires-clause-found
read_token-requires-clause-found g c =
    subst (λ names. FindsToken names Name c.args.bytes.now c.args.self.now.at c.find_name-found.result) c.name_class.ensures c.find_name-found.ensures
