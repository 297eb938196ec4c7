-- The tables keep to the laws of a grammar.
use Rattle.std.specs.Prelude.{◌≡◌, refl, true}
use Rattle.sym_shape.specs.Sheet.{is_lawful_sheet}
use Rattle.sym_shape.specs.SheetLaws.{lawful_sheet}
use Rattle.sym_shape.specs.Law.{IsLawful}
use Rattle.sym_link.specs.Sound.{IsSound, lawful_sound}
use Rattle.sym_core.specs.declared.NameClass.TheVariants.{Cpp}
use Rattle.cpp_grammar.specs.Grammar.{in_ranges, among, is_in, pick, number_of_kind, alternatives, choose, parts_of, is_chain, may_be_empty, kinds, productions, number_of}
use Rattle.cpp_grammar.specs.Wide.{wide_alternatives}
use Rattle.cpp_grammar.specs.Follow.{after_ranges, rank, height}
use Rattle.cpp_grammar.specs.Table.{padded, rule_of, ranges_of, class_of, choice_of, sheet_with, blank, sheet, abi, wide_sheet, wide}

is_lawful : is_lawful_sheet blank sheet Cpp ≡ true
unfolding in_ranges among is_in pick number_of_kind alternatives choose parts_of is_chain may_be_empty kinds productions number_of after_ranges rank height padded rule_of ranges_of class_of choice_of sheet_with blank sheet abi
is_lawful = refl

pub lawful : IsLawful abi
unfolding abi
lawful = lawful_sheet blank sheet Cpp is_lawful

is_lawful_wide : is_lawful_sheet blank wide_sheet Cpp ≡ true
unfolding in_ranges among is_in pick number_of_kind wide_alternatives parts_of is_chain may_be_empty kinds productions number_of after_ranges rank height padded rule_of ranges_of class_of choice_of sheet_with blank wide_sheet wide
is_lawful_wide = refl

pub wide_lawful : IsLawful wide
unfolding wide
wide_lawful = lawful_sheet blank wide_sheet Cpp is_lawful_wide

pub wide_sound : IsSound wide
wide_sound = lawful_sound wide wide_lawful
