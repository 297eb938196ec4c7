-- Names that are C++ types.
use Rattle.std.proofs.Common.{◌≡◌, ℕ, Bool, true, false, List, None, sym}
use Rattle.std.specs.Prelude.{◌&&◌}
use Rattle.std.proofs.lemmas.Bool.{cond-true, cond-false}
use Rattle.sym_filter.specs.Runs.{Answering}
use Rattle.type_names.specs.Types.{is_type_word, type_for, type_text}

module _ (answers : Answering) (name : List ℕ) where
  pub no-type : (types : Bool) → (types && is_type_word name) ≡ false → None ≡ type_for types answers name
  unfolding type_for
  no-type types none = sym (cond-false (types && is_type_word name) _ _ none)

  pub some-type : (types : Bool) → (types && is_type_word name) ≡ true → type_text answers name ≡ type_for types answers name
  unfolding type_for
  some-type types some = sym (cond-true (types && is_type_word name) _ _ some)
