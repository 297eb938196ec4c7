-- What a demangler did with a symbol.
use Rattle.std.specs.Prelude.{◌≡◌, ◌≢◌, ℕ, List, ◌++◌, Result, Ok, Err}
use Rattle.sym_core.specs.declared.counts.Counts.{Counts}
use Rattle.sym_core.specs.declared.refusal.Refusal.{Refusal}
use Rattle.sym_core.specs.declared.refusal.Refusal.TheVariants as refusals
use Rattle.sym_filter.specs.declared.demangler.Demangled.{Demangled}
use Rattle.sym_filter.specs.declared.demangler.Demangled.TheVariants.{Text, TooLong, Refused}

-- A symbol with this answer: its text is appended, or else nothing is. Want of memory says nothing of the symbol.
abbrev pub IsAppended : {A : Type 0} → Result (List ℕ) Refusal → List ℕ → List ℕ → Result A Refusal → Type 0
IsAppended answer old new (Ok done) = (text : List ℕ) × (answer ≡ Ok text) × (new ≡ old ++ text)
IsAppended answer old new (Err refusal) = (refusal ≢ refusals.Memory → answer ≡ Err refusal) × (new ≡ old)

-- A symbol with this answer: its text is appended, or else nothing is; and if the symbol is read, the counts are those
-- of the symbol. Want of memory says nothing of the symbol.
abbrev pub IsDemangled : Result (List ℕ) Refusal → (Counts → Type 0) → List ℕ → List ℕ → Demangled → Type 0
IsDemangled answer are_counts old new (Text counts) =
    are_counts counts × ((text : List ℕ) × (answer ≡ Ok text) × (new ≡ old ++ text))
IsDemangled answer are_counts old new (TooLong counts) = are_counts counts × (answer ≡ Err refusals.TooLong) × (new ≡ old)
IsDemangled answer are_counts old new (Refused refusal) =
    (refusal ≢ refusals.Memory → (answer ≡ Err refusal) × (refusal ≢ refusals.TooLong)) × (new ≡ old)
