-- The definitions, computed on symbols.
use Rattle.rust_legacy.proofs.Basics.{◌≡◌, ℕ, Bool, true, false, ◌&&◌, nat_eq, List, [], ◌∷◌, codes, Option, Some, None, refl, text_of, cost_of, Path, legacy_of, shown_path}
use Prim.Native.String.{String}

abbrev alike : List ℕ → List ℕ → Bool
alike [] [] = true
alike (a ∷ xs) (b ∷ ys) = nat_eq a b && alike xs ys
alike _ _ = false

abbrev shows : Option Path → List ℕ → ℕ → Bool
shows None text cost = false
shows (Some path) text cost = alike (text_of (shown_path path)) text && nat_eq (cost_of (shown_path path)) cost

abbrev is_none : Option Path → Bool
is_none None = true
is_none (Some _) = false

-- a symbol, its text, and what the text costs
record Row : Type 0 where
  pub symbol : List ℕ
  pub text : List ℕ
  pub cost : ℕ

abbrev shown : String → List ℕ → ℕ → Row
shown symbol text cost = record { symbol = codes symbol; text = text; cost = cost }

unfoldable are_shown : List Row → Bool
are_shown [] = true
are_shown (row ∷ rows) = shows (legacy_of row.symbol) row.text row.cost && are_shown rows

abbrev rows : List Row
rows =
    shown "_ZN3foo3bar17h0123456789abcdefE" (codes "foo::bar") 13 ∷
    shown "_ZN13_$LT$test$GT$17h0123456789abcdefE" (codes "<test>") 11 ∷
    shown "_ZN71_$LT$Test$u20$$u2b$$u20$$u27$static$u20$as$u20$foo..Bar$LT$Test$GT$$GT$3bar17h930b740aa94f1d3aE" (codes "<Test + 'static as foo::Bar<Test>>::bar") 60 ∷
    shown "_ZN4a..b17h0123456789abcdefE" (codes "a::b") 9 ∷
    shown "_ZN5a...b17h0123456789abcdefE" (codes "a::.b") 11 ∷
    shown "_ZN10a$XX$$LT$b17h0123456789abcdefE" (codes "a$XX$$LT$b") 14 ∷
    shown "_ZN7a$u1f$b17h0123456789abcdefE" (codes "a$u1f$b") 11 ∷
    shown "_ZN9a$ud800$b17h0123456789abcdefE" (codes "a$ud800$b") 13 ∷
    shown "_ZN6_$ue9$17h0123456789abcdefE" (195 ∷ 169 ∷ []) 5 ∷
    shown "_ZN10_$u10ffff$17h0123456789abcdefE" (244 ∷ 143 ∷ 191 ∷ 191 ∷ []) 7 ∷
    shown "_ZN11a$u0000041$17h0123456789abcdefE" (codes "a$u0000041$") 15 ∷
    shown "_ZN1x17h0123456789abcdefE.llvm.12" (codes "x (.llvm.12)") 15 ∷
    shown "_ZN7__$LT$a17h0123456789abcdefE" (codes "__<a") 9 ∷
    shown "_ZN23$C$$SP$$BP$$RF$$LP$$RP$17h0123456789abcdefE" (codes ",@*&()") 14 ∷
    []

rows-shown : are_shown rows ≡ true
unfolding are_shown legacy_of lib.Utf8.encode
rows-shown = refl

unfoldable are_others : List String → Bool
are_others [] = true
are_others (symbol ∷ symbols) = is_none (legacy_of (codes symbol)) && are_others symbols

-- symbols that aren't legacy names
abbrev others : List String
others =
    "_ZN17h0123456789abcdefE" ∷
    "_ZN3foo17h0123456789abcdefEv" ∷
    "_ZN3foo16h0123456789abcdeE" ∷
    "_ZN3foo17h0123456789abcdeFE" ∷
    "_ZN03foo17h0123456789abcdefE" ∷
    "_ZN3foo17h0123456789abcdefE." ∷
    "_ZNK3foo17h0123456789abcdefE" ∷
    "_ZN3fo17h0123456789abcdefE" ∷
    "_ZN3f-o17h0123456789abcdefE" ∷
    "_ZN3foo3barE" ∷
    []

others-none : are_others others ≡ true
unfolding are_others legacy_of
others-none = refl
