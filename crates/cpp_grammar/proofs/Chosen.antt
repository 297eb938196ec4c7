-- What holds of each alternative holds of the one that is chosen.
use Rattle.std.proofs.Common.{◌≡◌, refl, Bool, true, false, cond, Option, Some, None}

-- the lemma for a choice between two values
pub either : {A : Type 0} (P : A → Type 0) (b : Bool) (x y : A) → (b ≡ true → P x) → (b ≡ false → P y) → P (elim b [ true ↦ x | false ↦ y ])
either P true x y f g = f refl
either P false x y f g = g refl

pub either_cond : {A : Type 0} (P : A → Type 0) (b : Bool) (x y : A) → (b ≡ true → P x) → (b ≡ false → P y) → P (cond b x y)
either_cond P true x y f g = f refl
either_cond P false x y f g = g refl

-- the lemma for what is made of an optional value, if the value is present
pub if_there : {A B : Type 0} (P : B → Type 0) (o : Option A) (x : B) (f : A → B) → P x → ((a : A) → o ≡ Some a → P (f a)) → P (elim o [ None ↦ x | Some a ↦ f a ])
if_there P None x f none some = none
if_there P (Some a) x f none some = some a refl
