-- What reading, printing and marking found is the answer with parts.
use Rattle.std.proofs.Common.{◌≡◌, ◌⊎◌, inl, inr, ℕ, List, length, map, Option, Some, None, Result, Ok, Err, refl, ap, sym, ◌∙◌, subst, arith}
use Rattle.std.specs.Prelude.{◌<◌, ◌≤◌, ◌^◌}
use Rattle.sym_core.specs.declared.refusal.Refusal.{Refusal}
use Rattle.sym_core.specs.declared.refusal.Refusal.TheVariants.{Malformed, Memory, TooLong}
use Rattle.sym_shape.specs.Decided.{AreBytes}
use Rattle.sym_shape.specs.Reader.{IsMalformedOrMemory}
use Rattle.sym_shape.specs.Tree.{AreRowsOf}
use Rattle.sym_shape.specs.declared.rule.Row.{Row}
use Rattle.sym_print.specs.declared.detail.Detail.{Detail}
use Rattle.sym_print.specs.Answer.{text_within}
use Rattle.sym_print.specs.Unshared.{Unshared, cost_of, text_of}
use Rattle.sym_print.proofs.Answering.{text_within-ok, text_within-too_long}
use Rattle.sym_print.proofs.Noting.{length_of_text}
use Rattle.sym_parts.specs.Marked.{Marked, stretches_of}
use Rattle.sym_parts.specs.Spelling.{Spelling, parts_spelled}
use Rattle.sym_parts.specs.declared.kind.NameKind.{NameKind}
use Rattle.sym_parts.specs.declared.part.Part.{Part}
use Rattle.sym_parts.specs.declared.stretch.Stretch.{Stretch}
use Rattle.sym_demangle.specs.Mangled.{Mangled, IsReading, misshapen}
use Rattle.legacy_parts.specs.Kinds.{kind_of_path}
use Rattle.legacy_parts.specs.Parsed.{IsParsed}
use Rattle.legacy_parts.specs.Roles.{path_marked}
use Rattle.legacy_parts.specs.Spelled.{spelling_of_path}
use Rattle.legacy_parts.specs.declared.parsing.LegacyName.{LegacyName}
use Rattle.rust_legacy.specs.Path.{Path}
use Rattle.rust_legacy.specs.Text.{shown_path}
use Rattle.symbol_parts.specs.Parsed.{Parsed, Marking, Spelled, parsed, parsed_behind, part_behind, path_parsed, with_parts}
use Rattle.symbol_parts.specs.ParsedLaws.{reading_parsed}

parts_of_text : (what : NameKind) (spelled : Spelled) (marks : Marked) (text : List ℕ) (r : Result (List ℕ) Refusal) → r ≡ Ok text
    → with_parts what spelled marks r ≡ Ok (record { text = text; kind = what; parts = parts_spelled (spelled (stretches_of marks)) (length text) (stretches_of marks) })
unfolding with_parts
parts_of_text what spelled marks text r is = ap (with_parts what spelled marks) is

parts_of_refusal : (what : NameKind) (spelled : Spelled) (marks : Marked) (refusal : Refusal) (r : Result (List ℕ) Refusal) → r ≡ Err refusal → with_parts what spelled marks r ≡ Err refusal
unfolding with_parts
parts_of_refusal what spelled marks refusal r is = ap (with_parts what spelled marks) is

-- a text whose cost keeps to a limit of 32 bits has fewer than 2 ^ 32 bytes
pub short-text : (shown : Unshared) (text : List ℕ) (limit : ℕ) → text ≡ text_of shown → cost_of shown ≤ limit → limit < 2 ^ 32 → length text < 2 ^ 32
short-text shown text limit printed within fits = omega (arith, ap (λ (t : List ℕ). length t) printed, length_of_text shown, within, fits)

alike : (text : List ℕ) {a b : NameKind} {p q : List Part} → a ≡ b → p ≡ q
    → (let one : Result Parsed Refusal = Ok (record { text = text; kind = a; parts = p }) in let other : Result Parsed Refusal = Ok (record { text = text; kind = b; parts = q }) in one ≡ other)
alike text h i = rw (h, i) refl

module _ {W : Type 0} (m : Mangled W) (marking : Marking W) (detail : Detail) (limit : ℕ) (s : List ℕ) (bytes : AreBytes s) where
  -- a symbol that isn't read
  pub parsed-unread : (e : Refusal) → (e ≡ Memory) ⊎ IsReading m s (Err e) → (e ≡ Memory) ⊎ (parsed m marking detail s limit ≡ Err e)
  parsed-unread e (inl memory) = inl memory
  parsed-unread e (inr is) = inr (reading_parsed m marking detail limit s (Err e) bytes is).answers

  -- a symbol without a shape
  pub parsed-shapeless : (e : Refusal) → IsMalformedOrMemory m.table s e → (e ≡ Memory) ⊎ (parsed m marking detail s limit ≡ Err e)
  parsed-shapeless (Malformed at) bad = parsed-unread (Malformed at) (inr (misshapen at bad refl))
  parsed-shapeless Memory bad = inl refl
  parsed-shapeless _ bad = absurd bad

  -- a text that costs too much
  pub parsed-long : (w : W) (shown : Unshared) (e : Refusal) → IsReading m s (Ok w) → shown ≡ m.shown detail w → (e ≡ TooLong) ⊎ (e ≡ Memory) → (e ≡ TooLong → limit < cost_of shown)
      → (e ≡ Memory) ⊎ (parsed m marking detail s limit ≡ Err e)
  parsed-long w shown e is same (inr memory) long = inl memory
  parsed-long w shown e is same (inl too_long) long =
      let refused : Refusal → Result (List ℕ) Refusal = λ r. Err r in
      let parsing = reading_parsed m marking detail limit s (Ok w) bytes is in
      inr (parsing.answers
      ∙ parts_of_refusal (marking.kind w) parsing.spelled (marking.marked w (m.shown detail w)) e (text_within limit (m.shown detail w))
      (text_within-too_long limit (m.shown detail w) (subst (λ i. limit < cost_of i) same (long too_long)) ∙ ap refused (sym too_long)))

  -- a text and its parts
  pub parsed-text : (w : W) (shown : Unshared) (text : List ℕ) (what : NameKind) (rows : List Row) (spelling : Spelling) (stretches : List Stretch) (count : ℕ) (parts : List Part)
      → IsReading m s (Ok w) → AreRowsOf m.table s rows → shown ≡ m.shown detail w → text ≡ text_of shown → cost_of shown ≤ limit → what ≡ marking.kind w → spelling ≡ marking.spelled s rows stretches
      → stretches ≡ stretches_of (marking.marked w (m.shown detail w)) → count ≡ length text → parts ≡ parts_spelled spelling count stretches
      → parsed m marking detail s limit ≡ Ok (record { text = text; kind = what; parts = parts })
  parsed-text w shown text what rows spelling stretches count parts is are same printed within kind_is spelled marks counts all =
      let parsing = reading_parsed m marking detail limit s (Ok w) bytes is in
      let marked = stretches_of (marking.marked w (m.shown detail w)) in
      parsing.answers
      ∙ parts_of_text (marking.kind w) parsing.spelled (marking.marked w (m.shown detail w)) text (text_within limit (m.shown detail w))
      (text_within-ok limit (m.shown detail w) text (printed ∙ ap text_of same) (subst (λ i. cost_of i ≤ limit) same within))
      ∙ alike text (sym kind_is) (sym (all ∙ ap (λ x. parts_spelled x count stretches) (spelled ∙ ap (λ (f : Spelled). f stretches) (parsing.rows_spell rows are))
      ∙ ap (λ n. parts_spelled (parsing.spelled stretches) n stretches) counts ∙ ap (λ xs. parts_spelled (parsing.spelled xs) (length text) xs) marks))

-- ## Words

-- what is found of a word
pub behind-found : (skip : ℕ) (answer : Result Parsed Refusal) (found behind : Parsed) → answer ≡ Ok found → Ok behind ≡ parsed_behind skip (Ok found) → parsed_behind skip answer ≡ Ok behind
behind-found skip answer found behind is same = ap (parsed_behind skip) is ∙ sym same

-- a refused word
pub behind-refused : (skip : ℕ) (answer : Result Parsed Refusal) (e : Refusal) → (e ≡ Memory) ⊎ (answer ≡ Err e) → (e ≡ Memory) ⊎ (parsed_behind skip answer ≡ Err e)
unfolding parsed_behind
behind-refused skip answer e (inl memory) = inl memory
behind-refused skip answer e (inr is) = inr (ap (parsed_behind skip) is)

-- the parts of a word
pub behind-parts : (skip : ℕ) (found : Parsed) (parts : List Part) → parts ≡ map (part_behind skip) found.parts
    → (let one : Result Parsed Refusal = Ok (record { text = found.text; kind = found.kind; parts = parts }) in one ≡ parsed_behind skip (Ok found))
unfolding parsed_behind
behind-parts skip found parts is = alike found.text refl is

-- ## Legacy names

-- what was found of a path
pub path-found : (limit : ℕ) (symbol : List ℕ) (path : Path) (name : LegacyName) → IsParsed limit symbol path name
    → path_parsed limit symbol path ≡ Ok (record { text = name.text.items; kind = name.kind; parts = name.parts.items })
path-found limit symbol path name parsed =
    parts_of_text (kind_of_path path) (λ stretches. spelling_of_path symbol path) (path_marked path) name.text.items (text_within limit (shown_path path)) parsed.text
    ∙ alike name.text.items (sym parsed.kind) (sym parsed.parts)

-- a path that is refused
pub path-refused : (limit : ℕ) (symbol : List ℕ) (path : Path) (e : Refusal) → (e ≡ Memory) ⊎ (text_within limit (shown_path path) ≡ Err e) → (e ≡ Memory) ⊎ (path_parsed limit symbol path ≡ Err e)
path-refused limit symbol path e (inl memory) = inl memory
path-refused limit symbol path e (inr refused) =
    inr (parts_of_refusal (kind_of_path path) (λ stretches. spelling_of_path symbol path) (path_marked path) e (text_within limit (shown_path path)) refused)

-- the answer for a path, if there is one, and otherwise `other`
abbrev pub parsed_to : (limit : ℕ) → (symbol : List ℕ) → (other : Result Parsed Refusal) → Option Path → Result Parsed Refusal
parsed_to limit symbol other path = elim path [ Some path ↦ path_parsed limit symbol path | None ↦ other ]

pub legacy-found : (limit : ℕ) (symbol : List ℕ) (other : Result Parsed Refusal) (found : Option Path) (path : Path) → found ≡ Some path → parsed_to limit symbol other found ≡ path_parsed limit symbol path
legacy-found limit symbol other found path is = ap (parsed_to limit symbol other) is

pub legacy-other : (limit : ℕ) (symbol : List ℕ) (other : Result Parsed Refusal) (found : Option Path) → found ≡ None → parsed_to limit symbol other found ≡ other
legacy-other limit symbol other found is = ap (parsed_to limit symbol other) is
