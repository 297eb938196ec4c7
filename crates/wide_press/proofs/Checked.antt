-- A pressed spelling is answered exactly if the wide grammar reads it as the tree that was pressed.
use Rattle.std.proofs.Common.{◌≡◌, ◌≢◌, ◌<◌, ◌≤◌, ◌⊎◌, inl, inr, ℕ, List, length, Bool, true, false, Some, None, Result, Ok, Err, refl, ap, sym, subst, ◌∙◌}
use Rattle.std.specs.Prelude.{if◌then◌else◌, ◌&&◌, nat_le}
use Rattle.std.proofs.lemmas.Bool.{le-leb, lt-leb}
use Rattle.sym_core.specs.declared.refusal.Refusal.{Refusal}
use Rattle.sym_core.specs.declared.refusal.Refusal.TheVariants.{Memory}
use Rattle.sym_shape.specs.Decided.{AreBytes}
use Rattle.sym_shape.proofs.Deciding.{outcome_shaped, outcome_malformed}
use Rattle.sym_demangle.specs.Mangled.{IsReading, misshapen, well_shaped}
use Rattle.cpp_grammar.specs.Mangled.{wide_mangled}
use Rattle.cpp_grammar.specs.Table.{wide}
use Rattle.cpp_grammar.specs.TableLaws.{wide_lawful}
use Rattle.cpp_grammar.specs.Term.{Term}
use Rattle.cpp_grammar.specs.Rescoping.{unfold_wide}
use Rattle.cpp_press_laws.specs.Pressing.{pressed}
use Rattle.cpp_press_laws.specs.Same.{same_tree}
use Rattle.cpp_press_laws.proofs.Components.Sameness.{equal-tree}
use Rattle.wide_press.specs.Kept.{is_tree, reads_as, kept}

pub reads-told : (bytes : List ℕ) (t : Term) (result : Result Term Refusal) → AreBytes bytes → IsReading wide_mangled bytes result → reads_as bytes t ≡ is_tree t result
unfolding reads_as
reads-told bytes t result are (misshapen at bad e) =
    outcome_malformed wide wide_lawful (λ shape. is_tree t (unfold_wide shape)) (λ at. false) false bytes at are bad ∙ ap (is_tree t) (sym e)
reads-told bytes t result are (well_shaped (shape, is, text, e)) =
    outcome_shaped wide wide_lawful (λ shape. is_tree t (unfold_wide shape)) (λ at. false) false bytes shape are is text ∙ ap (is_tree t) (sym e)

-- bytes that are refused for a reason other than lack of memory aren't read as the tree
pub refused-told : (bytes : List ℕ) (t : Term) (refusal : Refusal) → AreBytes bytes → refusal ≢ Memory → (refusal ≡ Memory) ⊎ IsReading wide_mangled bytes (Err refusal)
    → false ≡ reads_as bytes t
refused-told bytes t refusal are not (inl memory) = absurd (not memory)
refused-told bytes t refusal are not (inr reading) = sym (reads-told bytes t (Err refusal) are reading)

pub kept-read : (most : ℕ) (t : Term) → length (pressed t) ≤ most → true ≡ reads_as (pressed t) t → kept most t ≡ Some (pressed t)
unfolding kept
kept-read most t few reads =
    ap (λ b. if b && reads_as (pressed t) t then Some (pressed t) else None) (le-leb (length (pressed t)) most few)
    ∙ ap (λ b. if b then Some (pressed t) else None) (sym reads)

pub kept-long : (most : ℕ) (t : Term) → most < length (pressed t) → kept most t ≡ None
unfolding kept
kept-long most t long = ap (λ b. if b && reads_as (pressed t) t then Some (pressed t) else None) (lt-leb (length (pressed t)) most long)

pub kept-unread : (most : ℕ) (t : Term) → false ≡ reads_as (pressed t) t → kept most t ≡ None
unfolding kept
kept-unread most t reads = ap (λ b. if nat_le (length (pressed t)) most && b then Some (pressed t) else None) (sym reads) ∙ go (nat_le (length (pressed t)) most)
  where
    go : (b : Bool) → (if b && false then Some (pressed t) else None) ≡ None
    go true = refl
    go false = refl

-- bytes that are read as a tree that `same_tree` finds equal to `t` are read as `t`
pub same-reading : (bytes : List ℕ) (t read : Term) → IsReading wide_mangled bytes (Ok read) → same_tree t read ≡ true → IsReading wide_mangled bytes (Ok t)
same-reading bytes t read reading same = subst (λ u. IsReading wide_mangled bytes (Ok u)) (sym (equal-tree t read same)) reading

-- ## What is answered for the bytes of a pressed spelling

pub answered : (most : ℕ) (t : Term) (out bytes : List ℕ) (is : Bool) → out ≡ pressed t → bytes ≡ out → length out ≤ most → is ≡ true → is ≡ reads_as bytes t
    → kept most t ≡ Some out
answered most t out bytes is spelling same few kept_so reads =
    kept-read most t (subst (λ (l : List ℕ). length l ≤ most) spelling few) (sym kept_so ∙ reads ∙ ap (λ l. reads_as l t) (same ∙ spelling)) ∙ ap Some (sym spelling)

pub too-long : (most : ℕ) (t : Term) (out : List ℕ) → out ≡ pressed t → most < length out → kept most t ≡ None
too-long most t out spelling long = kept-long most t (subst (λ (l : List ℕ). most < length l) spelling long)

pub unread : (most : ℕ) (t : Term) (out bytes : List ℕ) (is : Bool) → out ≡ pressed t → bytes ≡ out → is ≡ false → is ≡ reads_as bytes t → kept most t ≡ None
unread most t out bytes is spelling same lost reads = kept-unread most t (sym lost ∙ reads ∙ ap (λ l. reads_as l t) (same ∙ spelling))
