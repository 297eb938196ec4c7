-- The tree of a symbol makes at most two nodes for each byte.
use Rattle.std.proofs.Common.{◌≡◌, refl, ◌*◌, ◌≤◌, length, true, arith}
use Rattle.sym_core.specs.declared.NameClass.TheVariants.{Cpp}
use Rattle.sym_shape.specs.declared.rule.Sym.TheVariants.{Kind}
use Rattle.sym_shape.specs.Tree.{Tree, IsTree, spell}
use Rattle.sym_link.specs.Owing.{cost}
use Rattle.sym_link.specs.Paying.{are_paid_kinds}
use Rattle.sym_link.specs.PayingLaws.{tree_pays}
use Rattle.cpp_grammar.specs.Grammar.{number_of_kind, parts_of, is_chain, may_be_empty, kinds, productions, number_of}
use Rattle.cpp_grammar.specs.Wide.{wide_alternatives}
use Rattle.cpp_grammar.specs.Follow.{after_ranges, rank, height}
use Rattle.cpp_grammar.specs.Table.{padded, rule_of, ranges_of, class_of, choice_of, sheet_with, blank, wide_sheet, wide}
use Rattle.cpp_grammar.specs.Unfolding.{production_at}
use Rattle.cpp_link.specs.Owed.{made_before, made_at_end, sum_all, owes_of, owes, slack}

is_paid : are_paid_kinds owes Cpp 10 slack 0 wide_sheet ≡ true
unfolding wide_alternatives number_of_kind parts_of is_chain may_be_empty kinds productions number_of after_ranges rank height padded rule_of ranges_of class_of choice_of sheet_with blank wide_sheet production_at made_before made_at_end sum_all owes_of owes slack
is_paid = refl

pub few_nodes : (tree : Tree) → IsTree wide (Kind 0) tree → cost owes tree ≤ 2 * length (spell tree)
unfolding wide blank slack
few_nodes tree is = omega (arith, tree_pays owes 10 slack blank wide_sheet Cpp is_paid refl refl tree 0 is)
