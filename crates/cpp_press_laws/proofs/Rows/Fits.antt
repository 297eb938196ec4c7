-- A symbol that fits: what repeats a type is a reference to it.
use Rattle.cpp_press_laws.proofs.Basics.{◌≡◌, ℕ, inl, [], ◌∷◌, Option, Some, None, false, refl, arith, in_ranges, among, is_in, pick, alternatives, choose, any_value, Term, symbol, function, alone, source, builtin, pointer, nil, list, absent, is_open, arguments_of, has_return_type, unqualified, packs_in, in_name, in_types, is_void, is_nil, same_bytes, same_tree, decimal, counted, name_letters, qualifier_letters, mark_letter, is_same, first_equal, reference, ended, spelled_out, component, seq_id, ways_of, no_ways, type_ways, piece_ways, name_ways, with_letters, IsSpellableName}
use Rattle.cpp_press_laws.specs.Fits.{names_function, begins_name, either, fits_nowhere, type_fits, piece_fits, encoding_fits, fits_of, SymbolFits, MayBeReferred}

abbrev pointer_to_int : Term
pointer_to_int = pointer (builtin (105 ∷ []))

name-fits : IsSpellableName (102 ∷ [])
name-fits = record { each = (refl, tt); short = omega arith; first = refl }

may : MayBeReferred (in_types 2 (alone (source false (102 ∷ [])))) None pointer_to_int
unfolding is_open packs_in in_types arguments_of
may = record { lambda = refl; packs = inl refl }

some-none : {n : ℕ} → ◌≡◌ {A = Option ℕ} (Some n) None → ⊥
some-none h = cc

-- _Z1fPiS_
pub row : SymbolFits (symbol (function (alone (source false (102 ∷ []))) unqualified any_value absent (list pointer_to_int
    (list pointer_to_int nil))) [])
unfolding in_ranges among is_in pick alternatives choose is_open arguments_of has_return_type packs_in in_name in_types is_void is_nil same_bytes same_tree decimal counted name_letters qualifier_letters mark_letter is_same first_equal reference ended spelled_out component seq_id ways_of no_ways type_ways piece_ways name_ways with_letters names_function begins_name either fits_nowhere type_fits piece_fits encoding_fits fits_of
row = (
  (
    (tt, (refl, refl, name-fits)),
    refl,
    (refl, ((may, λ none. (omega arith, refl)), ((may, λ none. absurd (some-none none)), tt))),
    tt,
  ),
  tt,
)
