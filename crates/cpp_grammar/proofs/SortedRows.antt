-- Each row fits the parts of its production. What a kind's productions denote is of a sort that parts of this kind may have.
use Rattle.cpp_grammar.proofs.Basics.{◌≡◌, refl, true, Production, Operation, number_of_kind, alternatives, parts_of, kinds, may_be_empty, wide_alternatives, before_part, row_of}
use Rattle.cpp_grammar.specs.declared.kind.Kind.{Kind}
use Rattle.cpp_grammar.specs.Sorts.{rank_of, among_sorts, share_one, are_among, without_none, takes, sort_made, own_gives, kind_gives, sorts_of, sorts_at, reads, is_part, sort_given, is_given, are_given, is_made, listing_fits, gain_fits, where_fits, step_fits, tree_first, after_step, form_fits, gives, reads_number, is_numbered, known_from, steps_fit, row_fits, all_give}

rows_fit : (p : Production) → row_fits (row_of p) (parts_of p) ≡ true
unfolding number_of_kind row_of parts_of kinds may_be_empty before_part rank_of among_sorts share_one are_among without_none takes sort_made own_gives kind_gives sorts_of sorts_at reads is_part sort_given is_given are_given is_made listing_fits gain_fits where_fits step_fits tree_first after_step form_fits gives reads_number is_numbered known_from steps_fit row_fits
rows_fit Production.Mark = refl
rows_fit (Production.Operation Operation.ExpressionC) = refl
rows_fit _ = refl

kinds_give : (kind : Kind) → all_give (kind_gives kind) (alternatives kind) ≡ true
unfolding number_of_kind row_of parts_of kinds may_be_empty alternatives before_part rank_of among_sorts share_one are_among without_none own_gives kind_gives sorts_of sorts_at tree_first after_step gives known_from all_give
kinds_give Kind.Symbol = refl
kinds_give _ = refl

wide_kinds_give : (kind : Kind) → all_give (kind_gives kind) (wide_alternatives kind) ≡ true
unfolding number_of_kind row_of parts_of kinds may_be_empty wide_alternatives before_part rank_of among_sorts share_one are_among without_none own_gives kind_gives sorts_of sorts_at tree_first after_step gives known_from all_give
wide_kinds_give Kind.Symbol = refl
wide_kinds_give _ = refl
