-- What a filter holds back of a run.
use Rattle.std.specs.Prelude.{◌≡◌, ◌≤◌, ℕ, List, [], ◌++◌, length, replicate, Bool, true, false}
use Rattle.std.specs.List.{list_all}
use Rattle.sym_filter.specs.Bytes.{is_byte_of}
use Rattle.sym_filter.specs.Places.{may_begin}
use Rattle.sym_filter.specs.Runs.{is_begun, word_of}
use Rattle.sym_filter.specs.declared.kinds.Letters.{Letters}
use Rattle.sym_filter.specs.declared.kinds.TheConstants.{LONGEST_WORD}
use Rattle.sym_filter.specs.declared.places.Place.{Place}

-- what is held of a run: its front without trailing dots, which is no longer than a word that names a symbol; the place is
-- that of the front's first byte
pub record IsHeld (letters : Letters) (held : List ℕ) (dots : ℕ) (past : Bool) (place : Place) : Type 0 where
  pub of_run : list_all (is_byte_of letters) held ≡ true
  pub is_word : word_of held ≡ held
  pub begins : is_begun (held ++ replicate dots 46) ≡ true
  pub fits : length held ≤ LONGEST_WORD
  pub past_holds_nothing : past ≡ true → (held ≡ []) × (dots ≡ 0)
  pub closed_holds_nothing : may_begin letters place ≡ false → (held ≡ []) × (dots ≡ 0)
