-- Texts without names of the table. Rules that change only such names leave these texts as they are.
use Rattle.short_names.proofs.Basics.{◌≡◌, ◌≤◌, ◌<◌, ◌+◌, ◌-◌, ◌&&◌, ◌||◌, refl, sym, ap, ap₂, subst, ◌∙◌, ℕ, zero, suc, arith, Bool, true, false, List, [], ◌∷◌, ◌++◌, length, take, drop, get_or, Option, None, Some, is_some, nat_eq, codes, append_assoc, append-nil, length-drop, if◌then◌else◌, true≢false, drop-drop, take-append-drop, starts_with, HasNoRow, HasNoStd, HasNoUsual, IsOther, StdName, named_in, std_name, table_name, behind_run, is_name_byte, begins_std, is_std_at, run_of, short, short_rules, for_name, member, Rules, Written, by_rules, text_or, written_for, stepped, at_name, at_plain, keeps, opens}
use lib.Pointwise.{bytes_decides}
use Rattle.short_names.specs.Full.{full, full_to, full_rules, without_pmr, if_polymorphic, for_name as full_name, usual}
use Rattle.short_names.proofs.BracketLemmas.{and_false}
use Rattle.short_names.proofs.NameSteps.{begins-by, no_named, no_std_name, run-some, run-take, run-within}
use Rattle.short_names.proofs.OutsideLemmas.{at-drop, outside, run-stops, std-letter}
use Rattle.short_names.proofs.WalkLemmas.{goes}

-- other names stay
abbrev Leaves : Rules → Type 0
Leaves rules = (run rest : List ℕ) → begins_std run ≡ false → (rules.opens run ≡ false) × (rules.for_name run rest ≡ None)

short-leaves : Leaves short_rules
short-leaves run rest other = (ap is_some (no_named run other), ap (for_name run rest) (no_std_name run other))

full-leaves : (inner : List ℕ → List ℕ) → Leaves (full_rules inner)
unfolding named_in
full-leaves inner run rest other = (
  ap (λ std. is_some (table_name std) || is_some (if_polymorphic (table_name (without_pmr std)))) (no_std_name run other),
  ap (full_name inner run rest) (no_std_name run other),
)

-- ## A piece

at_run_by : (rules : Rules) (byte : ℕ) (rest : List ℕ) (written : Written) → is_name_byte byte ≡ true
    → stepped rules byte rest written ≡ at_name rules (run_of (byte ∷ rest)) (behind_run (byte ∷ rest)) written
unfolding stepped
at_run_by rules byte rest written letter = rw letter refl

at_sign_by : (rules : Rules) (byte : ℕ) (rest last : List ℕ) → is_name_byte byte ≡ false → stepped rules byte rest (outside last) ≡ keeps (byte ∷ []) (outside last)
unfolding stepped
at_sign_by rules byte rest last no_letter = rw no_letter refl

run-other : (text : List ℕ) → begins_std text ≡ false → begins_std (run_of text) ≡ false
run-other text other = by (begins_std (run_of text)) refl
  where
    by : (b : Bool) → begins_std (run_of text) ≡ b → begins_std (run_of text) ≡ false
    by true e = absurd (true≢false (sym (begins-by text (run_of text) ((bytes_decides (run_of text) (take (length (run_of text)) text)).1 (sym (run-take text))) e) ∙ other))
    by false e = e

-- a name that rules leave as it is, before the rest of a text
abbrev IsLeft : Rules → (run rest : List ℕ) → Type 0
IsLeft rules run rest = (rules.opens run ≡ false) × (rules.for_name run rest ≡ None)

-- rules leave each name of `std` in a text as it is
abbrev AreLeft : Rules → List ℕ → Type 0
AreLeft rules text = (k : ℕ) → is_std_at text k ≡ true → IsLeft rules (run_of (drop k text)) (behind_run (drop k text))

run_step : (rules : Rules) (byte : ℕ) (rest last : List ℕ) → is_name_byte byte ≡ true → IsLeft rules (run_of (byte ∷ rest)) (behind_run (byte ∷ rest))
    → stepped rules byte rest (outside last) ≡ Some (record { size = length (run_of (byte ∷ rest)); written = outside (last ++ take (length (run_of (byte ∷ rest))) (byte ∷ rest)) })
run_step rules byte rest last letter both =
    let text : List ℕ = byte ∷ rest in
    let run : List ℕ = run_of text in
    let back : List ℕ = behind_run text in
    let w : Written = outside last in
    at_run_by rules byte rest w letter
    ∙ ap (λ b. if starts_with nat_eq back (codes "<") && b then opens 60 run w else at_plain run back w (rules.for_name run back)) both.0
    ∙ ap (λ b. if b then opens 60 run w else at_plain run back w (rules.for_name run back)) (and_false (starts_with nat_eq back (codes "<")))
    ∙ ap (at_plain run back w) both.1
    ∙ ap (λ t. keeps t w) (append-nil run)
    ∙ ap (λ t. Some (record { size = length run; written = outside (last ++ t) })) (sym (run-take text))

-- ## A text

first-left : (rules : Rules) → Leaves rules → (text : List ℕ) → AreLeft rules text → IsLeft rules (run_of text) (behind_run text)
first-left rules leaves text left = by (begins_std text) refl
  where
    by : (b : Bool) → begins_std text ≡ b → IsLeft rules (run_of text) (behind_run text)
    by true e = left 0 (ap (λ b. b && true) e)
    by false e = leaves (run_of text) (behind_run text) (run-other text e)

stays : (rules : Rules) → Leaves rules → (fuel : ℕ) (text last : List ℕ) → length text ≤ fuel → AreLeft rules text → written_for rules 0 text (outside last) ≡ Some (outside (last ++ text))
unfolding written_for
stays rules leaves fuel [] last less left = ap (λ t. Some (outside t)) (sym (append-nil last))
stays rules leaves zero (byte ∷ rest) last less left = absurd (omega (arith, less))
stays rules leaves (suc fuel) (byte ∷ rest) last less left = by (is_name_byte byte) refl (λ text more h. stays rules leaves fuel text more h)
  where
    on : (size : ℕ) → 0 < size → size ≤ length (byte ∷ rest) → (begins_std (drop size (byte ∷ rest)) ≡ true → is_name_byte (get_or (byte ∷ rest) (size - 1) 0) ≡ false)
        → stepped rules byte rest (outside last) ≡ Some (record { size = size; written = outside (last ++ take size (byte ∷ rest)) })
        → ((text more : List ℕ) → length text ≤ fuel → AreLeft rules text → written_for rules 0 text (outside more) ≡ Some (outside (more ++ text)))
        → written_for rules 0 (byte ∷ rest) (outside last) ≡ Some (outside (last ++ byte ∷ rest))
    on size some within boundary step again =
        let text : List ℕ = byte ∷ rest in
        let next : Written = outside (last ++ take size text) in
        goes rules text 0 byte rest (outside last) next size refl step some
        ∙ ap (λ n. written_for rules 0 (drop n text) next) (omega arith)
        ∙ again (drop size text) (last ++ take size text) (omega (arith, less, some, within, length-drop size text)) (λ k at. subst (λ t. IsLeft rules (run_of t) (behind_run t)) (sym (drop-drop k size text)) (left (size + k) (sym (at-drop text size k some boundary) ∙ at)))
        ∙ ap (λ t. Some (outside t)) (append_assoc last (take size text) (drop size text) ∙ ap (λ t. last ++ t) (take-append-drop size text))

    by : (b : Bool) → is_name_byte byte ≡ b
        → ((text more : List ℕ) → length text ≤ fuel → AreLeft rules text → written_for rules 0 text (outside more) ≡ Some (outside (more ++ text)))
        → written_for rules 0 (byte ∷ rest) (outside last) ≡ Some (outside (last ++ byte ∷ rest))
    by true letter again =
        let text : List ℕ = byte ∷ rest in
        on (length (run_of text)) (run-some text letter) (run-within text)
        (λ begins. absurd (true≢false (sym (std-letter text (length (run_of text)) begins) ∙ run-stops text)))
        (run_step rules byte rest last letter (first-left rules leaves text left)) again
    by false no_letter again = on 1 (omega arith) (omega arith) (λ _. no_letter) (at_sign_by rules byte rest last no_letter) again

by-rules : (rules : Rules) → Leaves rules → (text : List ℕ) → AreLeft rules text → by_rules rules text ≡ text
unfolding by_rules
by-rules rules leaves text left = ap (text_or text) (stays rules leaves (length text) text [] (omega arith) left)

-- ## Short texts and full texts

short-left : (run rest : List ℕ) → IsOther run rest → IsLeft short_rules run rest
short-left run rest is = (ap is_some is.named, by (std_name run) is.usual)
  where
    by : (o : Option StdName) → HasNoUsual rest o → for_name run rest o ≡ None
    by None other = refl
    by (Some std) other = ap (member run rest std.name) other.1

full-left : (inner : List ℕ → List ℕ) (run rest : List ℕ) → IsOther run rest → IsLeft (full_rules inner) run rest
full-left inner run rest is = (ap₂ (λ a b. is_some a || is_some b) is.named is.pmr, by (std_name run) is.usual)
  where
    by : (o : Option StdName) → HasNoUsual rest o → full_name inner run rest o ≡ None
    by None other = refl
    by (Some std) other = ap (usual inner std run rest) other.0

pub short-stays : (text : List ℕ) → HasNoRow text → short text ≡ text
unfolding short
short-stays text none = by-rules short_rules short-leaves text (λ k at. short-left (run_of (drop k text)) (behind_run (drop k text)) (none k at))

pub full-stays : (text : List ℕ) → HasNoRow text → full text ≡ text
unfolding full full_to
full-stays text none = by-rules (full_rules (full_to 3)) (full-leaves (full_to 3)) text (λ k at. full-left (full_to 3) (run_of (drop k text)) (behind_run (drop k text)) (none k at))

-- a text without names of `std` has none of the table
pub no-rows : (text : List ℕ) → HasNoStd text → HasNoRow text
no-rows text none = λ k at. absurd (true≢false (sym at ∙ none k))
