-- What is written for a word, depending on where a symbol's name begins in the word.
use Rattle.sym_filter.proofs.Basics.{◌≡◌, true, false, List, [], ◌++◌, ℕ, refl, ap, Letters, Any, Ascii, Within, Place, before_mark, from_mark, begins_within, Answering, changed, name_in, named_in, within, word_or_text, written}
use Rattle.sym_filter.proofs.RunLemmas.{word_or_text-unnamed}

-- ## A word without bytes

pub written-nothing : (letters : Letters) (answers : Answering) (place : Place) → written letters answers place [] ≡ []
written-nothing Any answers place = word_or_text-unnamed answers [] refl
written-nothing Ascii answers place = word_or_text-unnamed answers [] refl
written-nothing Within answers place = word_or_text-unnamed (within answers) [] refl

pub changed-nothing : (letters : Letters) (answers : Answering) (place : Place) → changed letters answers place [] ≡ []
changed-nothing letters answers place = ap (λ (t : List ℕ). t ++ []) (written-nothing letters answers place)

pub name-nothing : (letters : Letters) (place : Place) → name_in letters place [] ≡ []
name-nothing Any place = refl
name-nothing Ascii place = refl
name-nothing Within place = refl

pub named-nothing : (letters : Letters) (place : Place) → named_in letters place [] ≡ []
named-nothing letters place = name-nothing letters place

-- ## A word, by whether words begin within runs

pub written-within : (letters : Letters) (answers : Answering) (place : Place) (word : List ℕ) → begins_within letters ≡ true → written letters answers place word ≡ before_mark place word ++ word_or_text (within answers) (from_mark place word)
written-within Any answers place word h = cc
written-within Ascii answers place word h = cc
written-within Within answers place word h = refl

pub written-runs : (letters : Letters) (answers : Answering) (place : Place) (word : List ℕ) → begins_within letters ≡ false → written letters answers place word ≡ word_or_text answers word
written-runs Any answers place word h = refl
written-runs Ascii answers place word h = refl
written-runs Within answers place word h = cc

pub name_in-within : (letters : Letters) (place : Place) (word : List ℕ) → begins_within letters ≡ true → name_in letters place word ≡ from_mark place word
name_in-within Any place word h = cc
name_in-within Ascii place word h = cc
name_in-within Within place word h = refl

pub name_in-runs : (letters : Letters) (place : Place) (word : List ℕ) → begins_within letters ≡ false → name_in letters place word ≡ word
name_in-runs Any place word h = refl
name_in-runs Ascii place word h = refl
name_in-runs Within place word h = cc
