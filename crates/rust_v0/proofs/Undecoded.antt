-- The length of the text of a Punycode name that isn't decoded.
use Rattle.rust_v0.proofs.Basics.{◌≡◌, refl, ℕ, ◌+◌, ◌<◌, ◌⊎◌, inl, inr, List, [], ◌∷◌, ◌++◌, length, length-append, Bool, true, false, arith, nat_le, codes, leb-true, printed_name, IsDecoded}

-- a name that isn't empty is to be decoded, or its text is ten bytes longer than the name
undecoded_by : (b : ℕ) (rest : List ℕ) (room held : ℕ) (short : Bool) → nat_le (length (b ∷ rest)) 2000 ≡ short → room < held + length (printed_name true (b ∷ rest))
    → IsDecoded true (b ∷ rest) ⊎ (room < held + length (b ∷ rest) + 10)
undecoded_by b rest room held true is lacks = inl (refl, omega arith, leb-true (length (b ∷ rest)) 2000 is)
undecoded_by b rest room held false is lacks =
    let plain : room < held + length (codes "punycode{" ++ ((b ∷ rest) ++ codes "}")) = rw is at lacks in
    inr (omega (arith, plain, length-append (codes "punycode{") ((b ∷ rest) ++ codes "}"), length-append (b ∷ rest) (codes "}")))

pub undecoded_few : (bytes : List ℕ) (room held count : ℕ) → length bytes ≡ count → IsDecoded true bytes ⊎ (room < held + length (printed_name true bytes))
    → IsDecoded true bytes ⊎ (room < held + count + 10)
undecoded_few bytes room held count is (inl decoded) = inl decoded
undecoded_few [] room held count is (inr lacks) = inr (omega (arith, lacks, is))
undecoded_few (b ∷ rest) room held count is (inr lacks) =
    elim (undecoded_by b rest room held (nat_le (length (b ∷ rest)) 2000) refl lacks) [ inl decoded ↦ inl decoded | inr few ↦ inr (omega (arith, few, is)) ]
