use Rattle.cpp_grammar.specs.Unfolding as abi_reading
use Rattle.cpp_term.specs.Unfolding as unfolded_
use Rattle.cpp_term.proofs.TreesNoted.{unfold_noted}
use Rattle.cpp_term.proofs.Erasing.{symbol_tree, refused_alike}
use Rattle.cpp_term.proofs.Wholes.{whole_symbol}
use Rattle.cpp_term.proofs.arguments_are_erased.Goals as goal

pub returns-clause-tree : goal.returns-clause-tree
returns-clause-tree c = λ shape t is read. (symbol_tree (abi_reading.unfold_cpp shape) (unfolded_.unfold_cpp shape) t (unfold_noted shape is) read).plain

pub returns-clause-carries : goal.returns-clause-carries
returns-clause-carries c = λ shape t is read. (symbol_tree (abi_reading.unfold_cpp shape) (unfolded_.unfold_cpp shape) t (unfold_noted shape is) read).carries

pub returns-clause-refused : goal.returns-clause-refused
returns-clause-refused c = λ shape refusal is. refused_alike (abi_reading.unfold_cpp shape) (unfolded_.unfold_cpp shape) refusal (unfold_noted shape is)

pub returns-clause-whole : goal.returns-clause-whole
returns-clause-whole c = λ shape t is read. (let w = whole_symbol shape t is read in (w.encoding, w.suffix, w.is))
