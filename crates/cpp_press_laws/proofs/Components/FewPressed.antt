-- At most as many components of a symbol's tree are spelled out as the reader of the symbol has candidates.
use Rattle.cpp_press_laws.proofs.Basics.{◌≡◌, ℕ, ◌≤◌, length, List, [], None, Ok, sym, ◌∙◌, arith, Tree as Shape, Found, unfold_tree, Term, symbol, State, Value, cpp, first_around, first_state, components_of, ways_of, no_ways, spelled_components, IsReadFrom}
use Rattle.cpp_press_laws.proofs.Components.Complete.{worths-none}
use Rattle.cpp_press_laws.proofs.Short.Worth.{worths}
use Rattle.cpp_press_laws.proofs.Fits.Symbols.{WholeFits}
use Rattle.cpp_press_laws.proofs.ByKind.Root.{read-as}
use Rattle.cpp_press_laws.proofs.ByKind.Shapes.{shape-read}

-- the tree has at most as many components as the state has candidates, and they are worth at most as much
abbrev pub AreFew : Term → State → Type 0
AreFew t s =
    (length (spelled_components t) ≤ length s.candidates)
    × (worths [] (spelled_components t) ≤ worths [] (components_of s.candidates))

-- a symbol has few components, if its encoding fits after the first two bytes
symbol-few : (e : Term) (suffix : List ℕ) (new : State) → WholeFits first_around e first_state new → new.packs ≡ None
    → AreFew (symbol e suffix) new
unfolding first_around first_state spelled_components ways_of no_ways
symbol-few e suffix new one bare =
    (one.fits 0 2 [] None (record { later = omega arith; complete = tt; among = (tt, (omega arith, worths-none)); functions = tt })
    (λ m is. sym bare ∙ is)).among.1

pub components-worth : (shape : Shape) (t : Term) → IsReadFrom shape t → (r : Found (List Value) State)
    → unfold_tree cpp first_around 0 shape first_state ≡ Ok r → AreFew t r.state
components-worth = read-as AreFew (λ e suffix new one bare good. symbol-few e suffix new one bare) shape-read

pub components-few : (shape : Shape) (t : Term) → IsReadFrom shape t → (r : Found (List Value) State)
    → unfold_tree cpp first_around 0 shape first_state ≡ Ok r → length (spelled_components t) ≤ length r.state.candidates
components-few shape t is r unfolds = (components-worth shape t is r unfolds).0
