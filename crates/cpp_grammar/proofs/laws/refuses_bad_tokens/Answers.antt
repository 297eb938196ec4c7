use Rattle.cpp_grammar.proofs.BadTokens.{refused_for_a_token, wide_refused_for_a_token}
use Rattle.cpp_grammar.proofs.laws.refuses_bad_tokens.Goals as goal

pub returns-clause-abi : goal.returns-clause-abi
returns-clause-abi c = λ shape is. refused_for_a_token shape

pub returns-clause-wide : goal.returns-clause-wide
returns-clause-wide c = λ shape is. wide_refused_for_a_token shape
