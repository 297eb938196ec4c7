-- A marked text is coloured as its marks say, whichever bytes of the symbol spell the parts.
use Rattle.std.proofs.Common.{◌≡◌, ◌≤◌, ◌∙◌, ◌+◌, ℕ, suc, Bool, true, false, List, [], ◌∷◌, ◌++◌, length, map, refl, ap, ap₂, sym, arith, append_assoc, append-nil, length-append, ◌&&◌, not, ◌==◌}
use Rattle.std.specs.Prelude.{nat_le, nat_lt, if◌then◌else◌}
use Rattle.std.specs.List.{All}
use Rattle.std.proofs.lemmas.List.{drop_all, map-append}
use Rattle.std.proofs.lemmas.List.Elements.{All-append, All-cons, All-nil, All-weaker}
use Rattle.std.proofs.lemmas.Bool.{and_left, and_right, and_from, le-leb, le-ltb, lt-ltb, ne_eqb}
use Rattle.sym_parts.specs.Marked.{Marked, done, text, marked, stretches_from, stretches_of, text_of}
use Rattle.sym_parts.specs.Placed.{end_of}
use Rattle.sym_parts.specs.Words.{role_number}
use Rattle.sym_parts.specs.Spelling.{Spelling, part_of, parts_spelled, unprinted}
use Rattle.sym_parts.specs.declared.part.Part.{Part}
use Rattle.sym_parts.specs.declared.role.Role.{Role}
use Rattle.sym_parts.specs.declared.role.Role.TheVariants as role
use Rattle.sym_parts.specs.declared.spelling.Ordinal.{Ordinal}
use Rattle.sym_parts.specs.declared.spelling.Spelled.{Spelled}
use Rattle.text_colours.specs.Styles.{plain, style_of}
use Rattle.text_colours.specs.Colored.{colored, colored_from, has_style, shows}
use Rattle.text_colours.specs.Shown.{colored_marked, shown_in}
use Rattle.text_colours.proofs.SliceLemmas.{advanced, all-passed, passed, shown, slice-within}

-- ## Parts, by their marks

-- the part of a mark
abbrev pub part_at : Spelling → (place : ℕ) → Role → Ordinal → (inside : Marked) → Part
part_at s place role ordinal inside = part_of s (record { role = role; ordinal = ordinal; start = place; length = length (text_of inside) })

-- the parts of a text's marks
abbrev pub parts_from : Spelling → (place : ℕ) → Marked → List Part
parts_from s place done = []
parts_from s place (text bytes rest) = parts_from s (place + length bytes) rest
parts_from s place (marked role ordinal inside rest) = part_at s place role ordinal inside ∷ (parts_from s place inside ++ parts_from s (place + length (text_of inside)) rest)

are-parts : (s : Spelling) (place : ℕ) (m : Marked) → map (part_of s) (stretches_from place m) ≡ parts_from s place m
unfolding stretches_from
are-parts s place done = refl
are-parts s place (text bytes rest) = are-parts s (place + length bytes) rest
are-parts s place (marked role ordinal inside rest) =
    let next = place + length (text_of inside) in
    ap (λ ps. part_at s place role ordinal inside ∷ ps)
    (map-append (part_of s) (stretches_from place inside) (stretches_from next rest) ∙ ap₂ (λ ps qs. ps ++ qs) (are-parts s place inside) (are-parts s next rest))

-- the parts of a marked text that begins at a place begin there or later, and end no later than the text
begin-from : (s : Spelling) (place low : ℕ) (m : Marked) → low ≤ place → All (λ part. low ≤ part.start) (parts_from s place m)
unfolding part_of
begin-from s place low done h = All-nil (λ part. low ≤ part.start)
begin-from s place low (text bytes rest) h = begin-from s (place + length bytes) low rest (omega (arith, h))
begin-from s place low (marked role ordinal inside rest) h =
    let next = place + length (text_of inside) in
    All-cons (λ part. low ≤ part.start) (part_at s place role ordinal inside) (parts_from s place inside ++ parts_from s next rest) h
    (All-append (λ part. low ≤ part.start) (parts_from s place inside) (parts_from s next rest) (begin-from s place low inside h) (begin-from s next low rest (omega (arith, h))))

end-before : (s : Spelling) (place high : ℕ) (m : Marked) → place + length (text_of m) ≤ high → All (λ part. end_of part ≤ high) (parts_from s place m)
unfolding part_of text_of
end-before s place high done h = All-nil (λ part. end_of part ≤ high)
end-before s place high (text bytes rest) h = end-before s (place + length bytes) high rest (omega (arith, h, length-append bytes (text_of rest)))
end-before s place high (marked role ordinal inside rest) h =
    let next = place + length (text_of inside) in
    let both = length-append (text_of inside) (text_of rest) in
    All-cons (λ part. end_of part ≤ high) (part_at s place role ordinal inside) (parts_from s place inside ++ parts_from s next rest) (omega (arith, h, both))
    (All-append (λ part. end_of part ≤ high) (parts_from s place inside) (parts_from s next rest) (end-before s place high inside (omega (arith, h, both))) (end-before s next high rest (omega (arith, h, both))))

begin-later : (low place : ℕ) (parts : List Part) → low ≤ place → All (λ part. place ≤ part.start) parts → All (λ part. low ≤ part.start) parts
begin-later low place parts h after = All-weaker (λ part. place ≤ part.start) (λ part. low ≤ part.start) (λ part begins. omega (arith, begins, h)) parts after

-- ## Whether a mark's part is shown

no-style : (place : ℕ) (part : Part) → style_of part.role ≡ [] → shows place part ≡ false
no-style place part none = and_left (has_style part.role) (nat_lt 0 part.length && nat_le place part.start) (ap (λ (style : List ℕ). not (length style == 0)) none)

no-bytes : (place : ℕ) (part : Part) → part.length ≡ 0 → shows place part ≡ false
no-bytes place part none =
    and_right (has_style part.role) (nat_lt 0 part.length && nat_le place part.start) (and_left (nat_lt 0 part.length) (nat_le place part.start) (le-ltb 0 part.length (omega (arith, none))))

with-style : (part : Part) (first : ℕ) (style : List ℕ) (length-1 : ℕ) → style_of part.role ≡ first ∷ style → part.length ≡ suc length-1 → shows part.start part ≡ true
with-style part first style length-1 has some =
    and_from (has_style part.role) (nat_lt 0 part.length && nat_le part.start part.start)
    (ap (λ (style : List ℕ). not (length style == 0)) has ∙ ap not (ne_eqb (suc (length style)) 0 (λ e. omega (arith, e))))
    (and_from (nat_lt 0 part.length) (nat_le part.start part.start) (lt-ltb 0 part.length (omega (arith, some))) (le-leb part.start part.start (omega arith)))

-- ## A mark

-- the parts of a marked text are written as its marks say, before the parts after it
abbrev pub Writes : Spelling → List ℕ → ℕ → Marked → List Part → Type 0
Writes s all place m more = colored_from all place (parts_from s place m ++ more) ≡ colored_marked m ++ colored_from all (place + length (text_of m)) more

-- a mark whose part isn't shown in a style is written as what is inside it
unstyled : (s : Spelling) (all : List ℕ) (place : ℕ) (role : Role) (ordinal : Ordinal) (inside rest : Marked) (more : List Part) → let next = place + length (text_of inside) in
    shows place (part_at s place role ordinal inside) ≡ false → Writes s all place inside (parts_from s next rest ++ more) → Writes s all next rest more
    → colored_from all place (parts_from s place (marked role ordinal inside rest) ++ more) ≡ colored_marked inside ++ (colored_marked rest ++ colored_from all (place + length (text_of inside ++ text_of rest)) more)
unfolding part_of text_of
unstyled s all place role ordinal inside rest more hidden first second =
    let next = place + length (text_of inside) in
    passed all place (part_at s place role ordinal inside) ((parts_from s place inside ++ parts_from s next rest) ++ more) hidden
    ∙ ap (colored_from all place) (append_assoc (parts_from s place inside) (parts_from s next rest) more)
    ∙ first
    ∙ ap (λ (t : List ℕ). colored_marked inside ++ t) (second ∙ ap (λ (n : ℕ). colored_marked rest ++ colored_from all n more) (omega (arith, length-append (text_of inside) (text_of rest))))

-- a mark whose part is shown in its style is written in that style
styled : (s : Spelling) (all front back : List ℕ) (place : ℕ) (role : Role) (ordinal : Ordinal) (inside rest : Marked) (more : List Part) → let next = place + length (text_of inside) in
    all ≡ front ++ (text_of inside ++ back) → place ≡ length front → shows place (part_at s place role ordinal inside) ≡ true → Writes s all next rest more
    → colored_from all place (parts_from s place (marked role ordinal inside rest) ++ more) ≡ (style_of role ++ (text_of inside ++ plain)) ++ (colored_marked rest ++ colored_from all (place + length (text_of inside ++ text_of rest)) more)
unfolding part_of text_of
styled s all front back place role ordinal inside rest more is begins is_shown second =
    let next = place + length (text_of inside) in
    let part : Part = part_at s place role ordinal inside in
    shown all place part ((parts_from s place inside ++ parts_from s next rest) ++ more) is_shown
    ∙ ap₂ (λ (before within : List ℕ). (before ++ (style_of role ++ (within ++ plain))) ++ colored_from all next ((parts_from s place inside ++ parts_from s next rest) ++ more))
    (slice-within all front [] (text_of inside ++ back) place place is begins (omega arith)) (slice-within all front (text_of inside) back place next is begins refl)
    ∙ ap (λ (t : List ℕ). (style_of role ++ (text_of inside ++ plain)) ++ t)
    (ap (colored_from all next) (append_assoc (parts_from s place inside) (parts_from s next rest) more)
    ∙ all-passed all next (parts_from s place inside) (parts_from s next rest ++ more) (end-before s place next inside (omega arith))
    ∙ second ∙ ap (λ (n : ℕ). colored_marked rest ++ colored_from all n more) (omega (arith, length-append (text_of inside) (text_of rest))))

-- a mark, by its style and its text
mark-writes : (s : Spelling) (all front back : List ℕ) (place : ℕ) (role : Role) (ordinal : Ordinal) (inside rest : Marked) (more : List Part) (style bytes : List ℕ) → let next = place + length (text_of inside) in
    all ≡ front ++ (text_of inside ++ back) → place ≡ length front → style_of role ≡ style → text_of inside ≡ bytes → Writes s all place inside (parts_from s next rest ++ more) → Writes s all next rest more
    → colored_from all place (parts_from s place (marked role ordinal inside rest) ++ more) ≡ shown_in style bytes (colored_marked inside) ++ (colored_marked rest ++ colored_from all (place + length (text_of inside ++ text_of rest)) more)
unfolding part_of
mark-writes s all front back place role ordinal inside rest more [] bytes is begins has within first second =
    unstyled s all place role ordinal inside rest more (no-style place (part_at s place role ordinal inside) has) first second
mark-writes s all front back place role ordinal inside rest more (letter ∷ style) [] is begins has within first second =
    unstyled s all place role ordinal inside rest more (no-bytes place (part_at s place role ordinal inside) (ap (λ (t : List ℕ). length t) within)) first second
mark-writes s all front back place role ordinal inside rest more (letter ∷ style) (byte ∷ bytes) is begins has within first second =
    let part : Part = part_at s place role ordinal inside in
    styled s all front back place role ordinal inside rest more is begins (with-style part letter style (length bytes) has (ap (λ (t : List ℕ). length t) within)) second
    ∙ ap₂ (λ (s t : List ℕ). (s ++ (t ++ plain)) ++ (colored_marked rest ++ colored_from all (place + length (text_of inside ++ text_of rest)) more)) has within

-- ## A marked text

pub writes : (s : Spelling) (m : Marked) (all front back : List ℕ) (place : ℕ) (more : List Part) → all ≡ front ++ (text_of m ++ back) → place ≡ length front → All (λ part. place + length (text_of m) ≤ part.start) more → Writes s all place m more
unfolding part_of text_of colored_marked
writes s done all front back place more is begins after = ap (λ (n : ℕ). colored_from all n more) (omega arith)
writes s (text bytes rest) all front back place more is begins after =
    let next = place + length bytes in
    let both = length-append bytes (text_of rest) in
    let split : all ≡ front ++ (bytes ++ (text_of rest ++ back)) = is ∙ ap (λ (t : List ℕ). front ++ t) (append_assoc bytes (text_of rest) back) in
    advanced all place next (parts_from s next rest ++ more) (omega arith)
    (All-append (λ part. next ≤ part.start) (parts_from s next rest) more (begin-from s next next rest (omega arith)) (begin-later next (place + length (bytes ++ text_of rest)) more (omega (arith, both)) after))
    ∙ ap₂ (λ (s t : List ℕ). s ++ t) (slice-within all front bytes (text_of rest ++ back) place next split begins refl)
    (writes s rest all (front ++ bytes) back next more (split ∙ sym (append_assoc front bytes (text_of rest ++ back))) (omega (arith, begins, length-append front bytes))
    (begin-later (next + length (text_of rest)) (place + length (bytes ++ text_of rest)) more (omega (arith, both)) after)
    ∙ ap (λ (n : ℕ). colored_marked rest ++ colored_from all n more) (omega (arith, both)))
    ∙ sym (append_assoc bytes (colored_marked rest) (colored_from all (place + length (bytes ++ text_of rest)) more))
writes s (marked role ordinal inside rest) all front back place more is begins after =
    let next = place + length (text_of inside) in
    let both = length-append (text_of inside) (text_of rest) in
    let end = place + length (text_of inside ++ text_of rest) in
    let split : all ≡ front ++ (text_of inside ++ (text_of rest ++ back)) = is ∙ ap (λ (t : List ℕ). front ++ t) (append_assoc (text_of inside) (text_of rest) back) in
    mark-writes s all front (text_of rest ++ back) place role ordinal inside rest more (style_of role) (text_of inside) split begins refl refl
    (writes s inside all front (text_of rest ++ back) place (parts_from s next rest ++ more) split begins
    (All-append (λ part. next ≤ part.start) (parts_from s next rest) more (begin-from s next next rest (omega arith)) (begin-later next end more (omega (arith, both)) after)))
    (writes s rest all (front ++ text_of inside) back next more (split ∙ sym (append_assoc front (text_of inside) (text_of rest ++ back))) (omega (arith, begins, length-append front (text_of inside)))
    (begin-later (next + length (text_of rest)) end more (omega (arith, both)) after))
    ∙ sym (append_assoc (shown_in (style_of role) (text_of inside) (colored_marked inside)) (colored_marked rest) (colored_from all end more))

-- ## Parts that aren't in the text

-- a part that isn't in the text
abbrev none_of : (end : ℕ) → Spelled → Part
none_of end spelled = record { role = spelled.role; start = end; length = 0; from = spelled.span.from; to = spelled.span.to }

-- parts that aren't in the text add nothing after its end
hidden-left : (all : List ℕ) (place : ℕ) (part : Part) (parts : List Part) (b : Bool) → part.length ≡ 0 → colored_from all place parts ≡ [] → colored_from all place (if b then part ∷ parts else parts) ≡ []
hidden-left all place part parts true none rest = passed all place part parts (no-bytes place part none) ∙ rest
hidden-left all place part parts false none rest = rest

nothing-left : (all : List ℕ) (place end : ℕ) (spans : List Spelled) → length all ≤ place → colored_from all place (unprinted end spans) ≡ []
unfolding colored_from unprinted
nothing-left all place end [] h = drop_all place all h
nothing-left all place end (spelled ∷ spans) h =
    hidden-left all place (none_of end spelled) (unprinted end spans) (nat_le (role_number role.Hash) (role_number spelled.role)) refl (nothing-left all place end spans h)

-- parts that aren't in the text begin where it ends
hidden-begins : (end : ℕ) (part : Part) (parts : List Part) (b : Bool) → end ≤ part.start → All (λ part. end ≤ part.start) parts → All (λ part. end ≤ part.start) (if b then part ∷ parts else parts)
hidden-begins end part parts true begins all = All-cons (λ part. end ≤ part.start) part parts begins all
hidden-begins end part parts false begins all = all

begin-after : (end : ℕ) (spans : List Spelled) → All (λ part. end ≤ part.start) (unprinted end spans)
unfolding unprinted
begin-after end [] = All-nil (λ part. end ≤ part.start)
begin-after end (spelled ∷ spans) =
    hidden-begins end (none_of end spelled) (unprinted end spans) (nat_le (role_number role.Hash) (role_number spelled.role)) (omega arith) (begin-after end spans)

pub marks-shown : (s : Spelling) (m : Marked) → colored (text_of m) (parts_spelled s (length (text_of m)) (stretches_of m)) ≡ colored_marked m
marks-shown s m =
    let end = length (text_of m) in
    ap (λ ps. colored_from (text_of m) 0 (ps ++ unprinted end s.spans)) (are-parts s 0 m)
    ∙ writes s m (text_of m) [] [] 0 (unprinted end s.spans) (sym (append-nil (text_of m))) refl (begin-later (0 + end) end (unprinted end s.spans) (omega arith) (begin-after end s.spans))
    ∙ ap (λ (t : List ℕ). colored_marked m ++ t) (nothing-left (text_of m) (0 + end) end s.spans (omega arith)) ∙ append-nil (colored_marked m)
