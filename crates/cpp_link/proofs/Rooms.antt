-- What calls say of room, in terms of the lists.
use Rattle.cpp_link.proofs.Basics.{◌≡◌, refl, sym, ◌∙◌, ◌≤◌, ◌<◌, ◌+◌, ◌⊎◌, inl, inr, ◌∷◌, length, arith, Ok, Err, Vec, vec_capacity, Result, Global, Refusal, Memory, one_by_one, KeepRoom, LackRoom, OnlyForRoom, Part, Linked, lists_of, KeepsRoom, LacksRoom, IsRoomy}

pub same_room : (old new : Linked) → new.nodes ≡ old.nodes → new.candidates ≡ old.candidates → KeepsRoom old new
same_room old new nodes candidates =
    rw (nodes, candidates) (record { nodes = omega arith; thunks = omega arith; candidates = omega arith })

-- if each of two calls in a row keeps the room, so do both together
pub keeps_on : (old mid new : Linked) → KeepsRoom old mid → KeepsRoom mid new → KeepsRoom old new
keeps_on old mid new first second =
    record { nodes = omega (arith, first.nodes, second.nodes); thunks = omega (arith, first.thunks, second.thunks); candidates = omega (arith, first.candidates, second.candidates) }

pub lacks_on : (old mid new : Linked) → KeepsRoom old mid → LacksRoom mid new → LacksRoom old new
lacks_on old mid new first (inl nodes) = inl (omega (arith, first.nodes, nodes))
lacks_on old mid new first (inr (inl thunks)) = inr (inl (omega (arith, first.thunks, thunks)))
lacks_on old mid new first (inr (inr candidates)) = inr (inr (omega (arith, first.candidates, candidates)))

lacks_list : (old new : Linked) → LacksRoom old new → LackRoom (lists_of old) (lists_of new)
lacks_list old new (inl nodes) = inl nodes
lacks_list old new (inr (inl thunks)) = inr (inl thunks)
lacks_list old new (inr (inr candidates)) = inr (inr (inl candidates))

module _ {A : Type 0} (old new : Linked) (parts new_parts : Vec Part Global) (result : Result A Refusal) where
  pub roomy_keeps : IsRoomy old new parts new_parts result → KeepRoom (one_by_one parts ∷ lists_of old) (one_by_one new_parts ∷ lists_of new)
  roomy_keeps is = (is.capacity, (is.keeps.nodes, (is.keeps.thunks, (is.keeps.candidates, tt))))

  pub roomy_full : IsRoomy old new parts new_parts result → OnlyForRoom ⊥ (one_by_one parts ∷ lists_of old) (one_by_one new_parts ∷ lists_of new) result
  roomy_full is memory = elim (is.full memory) [ inl lacks ↦ inl (inr (lacks_list old new lacks)) | inr behind ↦ inl (inl behind) ]

  -- a call that is done
  pub roomy_ok : (done : A) → result ≡ Ok done → KeepsRoom old new → vec_capacity parts ≤ vec_capacity new_parts → IsRoomy old new parts new_parts result
  roomy_ok done is keeps capacity =
      record { keeps = keeps; capacity = capacity; full = λ memory. (let clash : ◌≡◌ {A = Result A Refusal} (Ok done) (Err Memory) = sym is ∙ memory in absurd cc) }

  -- a call that passes on a refusal; the refusal `Memory` is for want of room
  pub roomy_refused : (e : Refusal) → result ≡ Err e → KeepsRoom old new → vec_capacity parts ≤ vec_capacity new_parts
      → (e ≡ Memory → LacksRoom old new ⊎ (vec_capacity parts < length new_parts.items + 1)) → IsRoomy old new parts new_parts result
  roomy_refused e is keeps capacity full =
      record { keeps = keeps; capacity = capacity; full = λ memory. full (same e (sym is ∙ memory)) }
    where
      same : (e : Refusal) → ◌≡◌ {A = Result A Refusal} (Err e) (Err Memory) → e ≡ Memory
      same e h = cc

-- a call that does nothing
pub stays_roomy : {A : Type 0} (old : Linked) (parts : Vec Part Global) (done : A) → IsRoomy old old parts parts (Ok done)
stays_roomy old parts done = roomy_ok old old parts parts (Ok done) done refl (same_room old old refl refl) (omega arith)
