use Rattle.cpp_grammar.proofs.Alone.{arguments_alone, arguments_maybe, rest_alone, rest_any}
use Rattle.cpp_grammar.proofs.laws.no_tags_in_abi.Goals as goal

pub returns-clause-arguments : goal.returns-clause-arguments
returns-clause-arguments c = arguments_alone

pub returns-clause-arguments_behind_names : goal.returns-clause-arguments_behind_names
returns-clause-arguments_behind_names c = arguments_maybe

pub returns-clause-rests : goal.returns-clause-rests
returns-clause-rests c = rest_alone

pub returns-clause-rests_behind_names : goal.returns-clause-rests_behind_names
returns-clause-rests_behind_names c = rest_any
