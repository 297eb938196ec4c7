-- Calls one after another keep the room of the lists; if the last call lacks room, so did the first.
use Rattle.sym_link.proofs.Basics.{inl, inr, List, [], ◌∷◌, arith, Result, Err, Refusal, Listed, KeepRoom, LackRoom, OnlyForRoom}

pub room_same : (lists : List Listed) → KeepRoom lists lists
room_same [] = tt
room_same (x ∷ xs) = (omega arith, room_same xs)

pub room_then : (a b c : List Listed) → KeepRoom a b → KeepRoom b c → KeepRoom a c
room_then [] [] [] ab bc = tt
room_then (x ∷ xs) (y ∷ ys) (z ∷ zs) ab bc = (omega (arith, ab.0, bc.0), room_then xs ys zs ab.1 bc.1)
room_then [] (y ∷ ys) _ ab bc = absurd ab
room_then (x ∷ xs) [] _ ab bc = absurd ab
room_then [] [] (z ∷ zs) ab bc = absurd bc
room_then (x ∷ xs) (y ∷ ys) [] ab bc = absurd bc

pub lacked_before : (a b c : List Listed) → KeepRoom a b → LackRoom b c → LackRoom a c
lacked_before (x ∷ xs) (y ∷ ys) (z ∷ zs) ab (inl none) = inl (omega (arith, ab.0, none))
lacked_before (x ∷ xs) (y ∷ ys) (z ∷ zs) ab (inr lacks) = inr (lacked_before xs ys zs ab.1 lacks)
lacked_before [] [] _ ab lacks = absurd lacks
lacked_before [] (y ∷ ys) _ ab lacks = absurd ab
lacked_before (x ∷ xs) [] _ ab lacks = absurd ab
lacked_before (x ∷ xs) (y ∷ ys) [] ab lacks = absurd lacks

-- a call after another one
pub only_then : {A : Type 0} (apart : Type 0) (a b c : List Listed) (result : Result A Refusal) → KeepRoom a b
    → OnlyForRoom apart b c result → OnlyForRoom apart a c result
only_then apart a b c result ab only is = elim (only is) [ inl lacks ↦ inl (lacked_before a b c ab lacks) | inr more ↦ inr more ]

-- a call after another one, when its refusal becomes the answer
pub only_refused : {A B : Type 0} (few apart : Type 0) (a b c : List Listed) (e : Refusal) → (few → apart) → KeepRoom a b
    → OnlyForRoom {A = A} few b c (Err e) → OnlyForRoom {A = B} apart a c (Err e)
only_refused few apart a b c e so ab only is = elim (only cc) [ inl lacks ↦ inl (lacked_before a b c ab lacks) | inr more ↦ inr (so more) ]

-- a call with lists of its own, beside another list
pub list_more : {A : Type 0} (apart : Type 0) (x y : Listed) (a b : List Listed) (result : Result A Refusal)
    → OnlyForRoom apart a b result → OnlyForRoom apart (x ∷ a) (y ∷ b) result
list_more apart x y a b result only is = elim (only is) [ inl lacks ↦ inl (inr lacks) | inr more ↦ inr more ]
