-- The definitions, computed on symbols.
use Rattle.legacy_parts.proofs.Basics.{◌≡◌, ℕ, List, [], ◌∷◌, codes, length, Some, None, refl, legacy_of, only, suffixed, NameKind, Stretch, Role, kind_of_path, before_last, names_marked, path_marked, root_role, end_at, last_at, size_at, spelling_by, spelling_of_path}
use Prim.Native.String.{String}
use Rattle.sym_parts.specs.Marked.{◌before◌, stretches_from, stretches_of, text_of}
use Rattle.sym_parts.specs.declared.kind.NameKind.TheVariants as kind
use Rattle.sym_parts.specs.declared.role.Role.TheVariants as role
use Rattle.sym_parts.specs.Spelling.{once, part_of, parts_spelled, span_of, unprinted}
use Rattle.sym_parts.specs.declared.part.Part.{Part}

abbrev part : Role → (start length : ℕ) → Stretch
part r start length = record { role = r; ordinal = only; start = start; length = length }

-- the parts of a symbol's text, if it is a legacy name
abbrev parts_in : String → List Stretch
parts_in symbol = elim (legacy_of (codes symbol)) [ Some path ↦ stretches_of (path_marked path) | None ↦ [] ]

-- the parts of a symbol's text with the bytes that spell them, if it is a legacy name
abbrev spelled_in : String → List Part
spelled_in symbol = elim (legacy_of (codes symbol)) [
  | Some path ↦ parts_spelled (spelling_of_path (codes symbol) path) (length (text_of (path_marked path))) (stretches_of (path_marked path))
  | None ↦ []
]

abbrev kind_in : String → NameKind
kind_in symbol = elim (legacy_of (codes symbol)) [ Some path ↦ kind_of_path path | None ↦ kind.Item ]

-- main
row-alone : parts_in "_ZN4main17h0123456789abcdefE" ≡ part role.Base 0 4 ∷ []
unfolding legacy_of before_last names_marked path_marked root_role stretches_from text_of ◌before◌ suffixed
row-alone = refl

-- core::mem::swap
row-crate : parts_in "_ZN4core3mem4swap17h0123456789abcdefE" ≡ part role.Scope 0 9 ∷ part role.Crate 0 4 ∷ part role.Base 11 4 ∷ []
unfolding legacy_of before_last names_marked path_marked root_role stretches_from text_of ◌before◌ suffixed
row-crate = refl

-- <a::B>::new (.cold)
row-suffix : parts_in "_ZN13_$LT$a..B$GT$3new17h0123456789abcdefE.cold" ≡ part role.Scope 0 6 ∷ part role.Impl 0 6 ∷ part role.Base 8 3 ∷ part role.Suffix 13 5 ∷ []
unfolding legacy_of before_last names_marked path_marked root_role stretches_from text_of ◌before◌ suffixed lib.Utf8.encode
row-suffix = refl

-- a::b::{{closure}}
row-closure : parts_in "_ZN1a1b28_$u7b$$u7b$closure$u7d$$u7d$17h0123456789abcdefE" ≡ part role.Scope 0 4 ∷ part role.Crate 0 1 ∷ part role.Base 6 11 ∷ []
unfolding legacy_of before_last names_marked path_marked root_role stretches_from text_of ◌before◌ suffixed lib.Utf8.encode
row-closure = refl

kind-of_closure : kind_in "_ZN1a1b28_$u7b$$u7b$closure$u7d$$u7d$17h0123456789abcdefE" ≡ kind.Closure
unfolding legacy_of kind_of_path lib.Utf8.encode
kind-of_closure = refl

-- a::{{closure}}::b
kind-of_value : kind_in "_ZN1a28_$u7b$$u7b$closure$u7d$$u7d$1b17h0123456789abcdefE" ≡ kind.Value
unfolding legacy_of kind_of_path lib.Utf8.encode
kind-of_value = refl

-- main, and the hash, which isn't in the text
row-alone_spelled : spelled_in "_ZN4main17h0123456789abcdefE"
    ≡ record { role = role.Base; start = 0; length = 4; from = 3; to = 8 } ∷ record { role = role.Hash; start = 4; length = 0; from = 8; to = 27 } ∷ []
unfolding legacy_of before_last names_marked path_marked root_role stretches_from text_of ◌before◌ suffixed once part_of span_of unprinted size_at last_at end_at spelling_by spelling_of_path
row-alone_spelled = refl

-- core::mem::swap (.x)
row-crate_spelled : spelled_in "_ZN4core3mem4swap17h0123456789abcdefE.x"
    ≡ record { role = role.Scope; start = 0; length = 9; from = 3; to = 12 } ∷ record { role = role.Crate; start = 0; length = 4; from = 3; to = 8 }
    ∷ record { role = role.Base; start = 11; length = 4; from = 12; to = 17 } ∷ record { role = role.Suffix; start = 17; length = 2; from = 37; to = 39 }
    ∷ record { role = role.Hash; start = 20; length = 0; from = 17; to = 36 } ∷ []
unfolding legacy_of before_last names_marked path_marked root_role stretches_from text_of ◌before◌ suffixed once part_of span_of unprinted size_at last_at end_at spelling_by spelling_of_path
row-crate_spelled = refl
