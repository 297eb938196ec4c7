-- The definitions of parts, computed for what some trees print.
use Rattle.cpp_parts.proofs.Basics.{◌≡◌, ℕ, List, [], ◌∷◌, codes, refl, Term, tagged, expansion, pack, list, absent, Unshared, done, bytes, item, numbered, only, Role, Ordinal, Stretch, element, element_of, elements, elements_after, inside, name, named, next, ordinal_of, rest_of, within, false}
use Prim.Native.String.{String}
use Rattle.sym_parts.specs.Marked.{◌before◌, stretches_from, stretches_of, text_of}
use Rattle.sym_parts.specs.declared.role.Role.TheVariants as role
use Rattle.cpp_parts.specs.declared.numbering.Numbering.TheVariants as numbering

-- ## Lists

abbrev shown : String → Unshared
shown text = bytes (codes text) done

-- what a list prints: one element, and then others
abbrev first : (left others : Unshared) → Unshared
first left others = item left (item done (item others done))

-- what the other elements print: a comma, one element, and then others
abbrev later : (left others : Unshared) → Unshared
later left others = bytes (codes ", ") (first left others)

-- an element with elements of its own prints only these
abbrev several : Unshared → Unshared
several inner = item inner done

abbrev parameter : (o : Ordinal) (start length : ℕ) → Stretch
parameter o start length = record { role = role.Parameter; ordinal = o; start = start; length = length }

abbrev part_of_item : (n e : ℕ) → Ordinal
part_of_item n e = record { item = n; element = e }

abbrev parameters_in : Term → Unshared → List Stretch
parameters_in t printed = stretches_of (elements role.Parameter (numbering.Items 0) t printed)

-- a, b
row-items : parameters_in (list absent (list absent absent)) (first (shown "a") (later (shown "b") done)) ≡ parameter (numbered 0) 0 1 ∷ parameter (numbered 1) 3 1 ∷ []
unfolding ◌before◌ element element_of elements elements_after inside next ordinal_of rest_of stretches_from text_of within
row-items = refl

-- a, b, c, d, where b and c are a pack
row-pack : parameters_in (list absent (list (pack (list absent (list absent absent))) (list absent absent)))
    (first (shown "a") (later (several (first (shown "b") (later (shown "c") done))) (later (shown "d") done)))
    ≡ parameter (numbered 0) 0 1 ∷ parameter (part_of_item 1 1) 3 1 ∷ parameter (part_of_item 1 2) 6 1 ∷ parameter (numbered 2) 9 1 ∷ []
unfolding ◌before◌ element element_of elements elements_after inside next ordinal_of rest_of stretches_from text_of within
row-pack = refl

-- a, b, c, where b and c are an expansion
row-expansion : parameters_in (list absent (list (expansion absent) absent)) (first (shown "a") (later (several (first (shown "b") (later (shown "c") done))) done))
    ≡ parameter (numbered 0) 0 1 ∷ parameter (numbered 1) 3 1 ∷ parameter (numbered 1) 6 1 ∷ []
unfolding ◌before◌ element element_of elements elements_after inside next ordinal_of rest_of stretches_from text_of within
row-expansion = refl

-- a, after a pack that prints nothing
row-skipped : parameters_in (list (pack absent) (list absent absent)) (item (first (shown "a") done) done) ≡ parameter (numbered 1) 0 1 ∷ []
unfolding ◌before◌ element element_of elements elements_after inside next ordinal_of rest_of stretches_from text_of within
row-skipped = refl

-- ## Tags

abbrev stretch : Role → (o : Ordinal) (start length : ℕ) → Stretch
stretch r o start length = record { role = r; ordinal = o; start = start; length = length }

-- f[x][y]
row-tags : stretches_of (name 0 (tagged false (tagged false absent []) []) (item (item (shown "f") (shown "[x]")) (shown "[y]")))
    ≡ stretch role.Base only 0 1 ∷ stretch role.AbiTag (numbered 1) 1 3 ∷ stretch role.AbiTag (numbered 0) 4 3 ∷ []
unfolding ◌before◌ name named stretches_from text_of
row-tags = refl
