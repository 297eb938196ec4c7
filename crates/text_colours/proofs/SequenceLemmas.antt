-- A text for a terminal, once its escape sequences are left out.
use Rattle.std.proofs.Common.{◌≡◌, ◌∙◌, ℕ, Bool, true, false, List, [], ◌∷◌, ◌++◌, length, cond, refl, ap, sym, append_assoc, append-nil}
use Rattle.std.specs.List.{All}
use Rattle.std.proofs.lemmas.List.Elements.{All-cons, All-head, All-nil, All-tail}
use Rattle.std.proofs.lemmas.Bool.{ne_eqb}
use Rattle.sym_parts.specs.Marked.{Marked, done, text, marked, stretches_of, text_of}
use Rattle.sym_parts.specs.Spelling.{Spelling, parts_spelled}
use Rattle.sym_parts.specs.declared.role.Role.{Role}
use Rattle.sym_parts.specs.declared.role.Role.TheVariants.{Base, GenericArguments, Parameters}
use Rattle.text_colours.specs.Styles.{plain, style_of}
use Rattle.text_colours.specs.Colored.{colored}
use Rattle.text_colours.specs.Shown.{IsPrinted, colored_marked, left_of, shown_in, without_sequences}
use Rattle.text_colours.proofs.MarkLemmas.{marks-shown}

-- where two lists together have no ESC, neither of them has one
first-printed : (bytes more : List ℕ) → All IsPrinted (bytes ++ more) → All IsPrinted bytes
first-printed [] more printed = All-nil IsPrinted
first-printed (byte ∷ bytes) more printed =
    All-cons IsPrinted byte bytes (All-head IsPrinted byte (bytes ++ more) printed) (first-printed bytes more (All-tail IsPrinted byte (bytes ++ more) printed))

second-printed : (bytes more : List ℕ) → All IsPrinted (bytes ++ more) → All IsPrinted more
second-printed [] more printed = printed
second-printed (byte ∷ bytes) more printed = second-printed bytes more (All-tail IsPrinted byte (bytes ++ more) printed)

-- bytes without ESC stay
bytes-left : (bytes more : List ℕ) → All IsPrinted bytes → left_of false (bytes ++ more) ≡ bytes ++ left_of false more
bytes-left [] more printed = refl
bytes-left (byte ∷ bytes) more printed =
    ap (λ (b : Bool). cond b (left_of true (bytes ++ more)) (byte ∷ left_of false (bytes ++ more))) (ne_eqb byte 27 (All-head IsPrinted byte bytes printed))
    ∙ ap (λ (t : List ℕ). byte ∷ t) (bytes-left bytes more (All-tail IsPrinted byte bytes printed))

-- the bytes that begin a style are left out
style-gone : (role : Role) (more : List ℕ) → left_of false (style_of role ++ more) ≡ left_of false more
style-gone Base more = refl
style-gone GenericArguments more = refl
style-gone Parameters more = refl
style-gone other more = refl

plain-gone : (more : List ℕ) → left_of false (plain ++ more) ≡ left_of false more
plain-gone more = refl

-- a mark in its style
in-style : (role : Role) (bytes more : List ℕ) → All IsPrinted bytes → left_of false ((style_of role ++ (bytes ++ plain)) ++ more) ≡ bytes ++ left_of false more
in-style role bytes more printed =
    ap (left_of false) (append_assoc (style_of role) (bytes ++ plain) more) ∙ style-gone role ((bytes ++ plain) ++ more) ∙ ap (left_of false) (append_assoc bytes plain more)
    ∙ bytes-left bytes (plain ++ more) printed ∙ ap (λ (t : List ℕ). bytes ++ t) (plain-gone more)

-- a mark, by its style and its text
shown-left : (role : Role) (style bytes within more : List ℕ) → style_of role ≡ style → All IsPrinted bytes → left_of false (within ++ more) ≡ bytes ++ left_of false more
    → left_of false (shown_in style bytes within ++ more) ≡ bytes ++ left_of false more
shown-left role [] bytes within more has printed same = same
shown-left role (letter ∷ style) [] within more has printed same = same
shown-left role (letter ∷ style) (byte ∷ bytes) within more has printed same =
    ap (λ (s : List ℕ). left_of false ((s ++ ((byte ∷ bytes) ++ plain)) ++ more)) (sym has) ∙ in-style role (byte ∷ bytes) more printed

marks-left : (m : Marked) (more : List ℕ) → All IsPrinted (text_of m) → left_of false (colored_marked m ++ more) ≡ text_of m ++ left_of false more
unfolding text_of colored_marked
marks-left done more printed = refl
marks-left (text bytes rest) more printed =
    ap (left_of false) (append_assoc bytes (colored_marked rest) more) ∙ bytes-left bytes (colored_marked rest ++ more) (first-printed bytes (text_of rest) printed)
    ∙ ap (λ (t : List ℕ). bytes ++ t) (marks-left rest more (second-printed bytes (text_of rest) printed)) ∙ sym (append_assoc bytes (text_of rest) (left_of false more))
marks-left (marked role ordinal inside rest) more printed =
    let first = first-printed (text_of inside) (text_of rest) printed in
    ap (left_of false) (append_assoc (shown_in (style_of role) (text_of inside) (colored_marked inside)) (colored_marked rest) more)
    ∙ shown-left role (style_of role) (text_of inside) (colored_marked inside) (colored_marked rest ++ more) refl first (marks-left inside (colored_marked rest ++ more) first)
    ∙ ap (λ (t : List ℕ). text_of inside ++ t) (marks-left rest more (second-printed (text_of inside) (text_of rest) printed))
    ∙ sym (append_assoc (text_of inside) (text_of rest) (left_of false more))

pub text-left : (s : Spelling) (m : Marked) → All IsPrinted (text_of m) → without_sequences (colored (text_of m) (parts_spelled s (length (text_of m)) (stretches_of m))) ≡ text_of m
text-left s m printed =
    ap without_sequences (marks-shown s m ∙ sym (append-nil (colored_marked m))) ∙ marks-left m [] printed ∙ append-nil (text_of m)
