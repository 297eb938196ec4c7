-- What the program has to do, given what the parser of a command line found.
use Rattle.sym_command.proofs.Basics.{◌≡◌, ◌≢◌, ◌⊎◌, ℕ, List, [], ◌∷◌, Bor, map, length, refl, sym, inl, inr, ◌∙◌, arith, eqb, true, false≢true, ne_eqb, Kinds, IsAmong}
use Rattle.clap.specs.declared.error.kind.ErrorKind.{ErrorKind}
use Rattle.clap.specs.declared.error.kind.ErrorKind.TheVariants.{OutOfMemory}

-- if the error isn't a lack of memory, there is a fault
pub faulty : (kinds : Kinds) (kind : ErrorKind) → kind ≢ OutOfMemory → (kind ≡ OutOfMemory) ⊎ IsAmong kind kinds → kinds ≢ []
faulty [] kind known (inl memory) = absurd (known memory)
faulty [] kind known (inr among) = absurd among
faulty (first ∷ kinds) kind known fails = λ none. cc

pub no-words : (words : List (Bor (List ℕ))) → eqb (length words) 0 ≡ true → map (λ (word : Bor (List ℕ)). word.now) words ≡ []
no-words [] none = refl
no-words (word ∷ words) none = absurd (false≢true (sym (ne_eqb (length (word ∷ words)) 0 (λ e. omega (arith, e))) ∙ none))
