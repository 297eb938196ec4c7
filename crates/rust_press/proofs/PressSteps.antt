-- How the code's steps follow the definition.
use Rattle.rust_press.proofs.Basics.{◌≡◌, ℕ, ◌+◌, length, List, ◌∷◌, ◌++◌, refl, arith, Tree, ◌and◌, Component, Pressed, Pressing, spelled_out, ending}

ended-joined : (xs : List ℕ) (h : Pressing) (cs : List Component) (p q : ℕ) → p ≡ q
    → ◌≡◌ {A = Pressed} (record { bytes = xs ++ (h p cs).bytes; components = (h p cs).components }) (record { bytes = xs ++ (h q cs).bytes; components = (h q cs).components })
ended-joined xs h cs p q same = rw same refl

-- a component that is spelled out is its spelling and then its end
pub spelled-then : (own : Tree) (f h : Pressing) (place : ℕ) (cs : List Component) → (spelled_out own f and h) place cs ≡ (f and (ending place own and h)) place cs
spelled-then own f h place cs =
    let a : Pressed = f place cs in
    ended-joined a.bytes h (record { place = place; own = own } ∷ a.components) (place + length a.bytes) (place + length a.bytes + 0) (omega arith)

-- spellings that are equal at each place stay equal after another spelling
pub and-same : (f g h : Pressing) → ((place : ℕ) (cs : List Component) → g place cs ≡ h place cs) → (place : ℕ) (cs : List Component) → (f and g) place cs ≡ (f and h) place cs
and-same f g h same place cs = rw (same (place + length (f place cs).bytes) (f place cs).components) refl
