use Rattle.std.proofs.Common.{arith}
use Rattle.short_names.proofs.SizeLemmas.{sign-room}
use Rattle.short_names.proofs.runs.operator_size.Goals as goal

pub returns-then-ends_operator-clause-within : goal.returns-then-ends_operator-clause-within
returns-then-ends_operator-clause-within c = omega (arith, c.sign_size.ensures, sign-room c.args.rest.now)
