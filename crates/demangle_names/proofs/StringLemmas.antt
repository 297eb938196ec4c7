-- Laws of strings in a line of JSON.
use Rattle.std.proofs.Common.{◌≡◌, ◌∙◌, refl, sym, ap, ℕ, suc, arith, List, [], ◌∷◌, ◌++◌, ◌==◌, ◌||◌, inl, inr}
use Rattle.std.specs.List.{All}
use Rattle.std.proofs.lemmas.Bool.{cases_Bool, eqb-true, or_parts}
use Rattle.demangle_names.specs.Escaped.{escaped}
use Rattle.demangle_names.specs.Strings.{Place, outside, within, after_byte, after_bytes, unescaped, IsPlain}

pub reads_back : (text : List ℕ) → unescaped within (escaped text) ≡ text
reads_back [] = refl
reads_back (byte ∷ text) = elim (cases_Bool (byte == 34 || byte == 92)) [
  | inl is ↦ rw is (ap (λ (rest : List ℕ). byte ∷ rest) (reads_back text))
  | inr not ↦ rw not (rw ((or_parts (byte == 34) (byte == 92) not).1) (ap (λ (rest : List ℕ). byte ∷ rest) (reads_back text)))
]

pub stays_within : (text : List ℕ) → after_bytes within (escaped text) ≡ within
stays_within [] = refl
stays_within (byte ∷ text) = elim (cases_Bool (byte == 34 || byte == 92)) [
  | inl is ↦ rw is (stays_within text)
  | inr not ↦ rw not (rw ((or_parts (byte == 34) (byte == 92) not).0) (rw ((or_parts (byte == 34) (byte == 92) not).1) (stays_within text)))
]

pub after_both : (place : Place) (xs ys : List ℕ) → after_bytes place (xs ++ ys) ≡ after_bytes (after_bytes place xs) ys
after_both place [] ys = refl
after_both place (x ∷ xs) ys = after_both (after_byte place x) xs ys

pub plain_byte : (byte : ℕ) → IsPlain byte → after_byte within byte ≡ within
plain_byte byte plain = elim (cases_Bool (byte == 34)) [
  | inl is ↦ absurd (plain.0 (eqb-true byte 34 is))
  | inr not ↦ rw not (elim (cases_Bool (byte == 92)) [
    | inl is ↦ absurd (plain.1 (eqb-true byte 92 is))
    | inr other ↦ rw other refl
  ])
]

pub plain_word : (word : List ℕ) → All IsPlain word → after_bytes within word ≡ within
plain_word [] all = refl
plain_word (byte ∷ word) all = ap (λ (place : Place). after_bytes place word) (plain_byte byte (all 0 byte (omega arith))) ∙ plain_word word (λ k d lt. all (suc k) d (omega (arith, lt)))

pub replaced_after : (front middle back : List ℕ) → after_bytes outside front ≡ within → after_bytes within middle ≡ within → after_bytes outside (front ++ middle ++ back) ≡ after_bytes within back
replaced_after front middle back begun stays =
    after_both outside (front ++ middle) back
    ∙ ap (λ (place : Place). after_bytes place back) (after_both outside front middle ∙ ap (λ (place : Place). after_bytes place middle) begun ∙ stays)

pub keeps_strings : (front word back text : List ℕ) → after_bytes outside front ≡ within → All IsPlain word → after_bytes outside (front ++ escaped text ++ back) ≡ after_bytes outside (front ++ word ++ back)
keeps_strings front word back text begun plain = replaced_after front (escaped text) back begun (stays_within text) ∙ sym (replaced_after front word back begun (plain_word word plain))
