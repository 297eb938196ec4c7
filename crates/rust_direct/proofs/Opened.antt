-- A text is written, and an entry waits for the part after it.
use Rattle.rust_direct.proofs.Basics.{◌≡◌, ℕ, List, ◌∷◌, ◌++◌, length, reverse, ap, ◌∙◌, append_assoc, Bool, State, Open, Direct, Opened, Opens, Stands, Keeps, parked_of}
use Rattle.rust_direct.proofs.Kept.{notes-stay, rooms-same}
use Rattle.rust_direct.proofs.PathsRead.{waits-too}

pub keeps-opened : (brief : Bool) (s : List ℕ) (old new : Direct) (bytes : List ℕ) (entry : Open) (at : ℕ) (st : State) → Opens old new bytes entry at
    → Keeps brief s old st → Keeps brief s new st
keeps-opened brief s old new bytes entry at st o p = (
  rw (o.text, o.aside, o.is_aside, o.notes, o.numbers)
      (notes-stay brief old.is_aside old.text.list.items old.aside.list.items bytes old.notes.list.items old.numbers.items st.ended p.0),
  rooms-same s old new o.room (ap (λ l. l.room) o.aside) (ap (λ l. l.room) o.notes) (ap (λ l. length l.items) o.numbers) o.waiting_room p.1,
)

pub stands-opened : (brief : Bool) (s : List ℕ) (old new : Direct) (bytes : List ℕ) (entry : Open) (at : ℕ) (os : List Opened) → Opens old new bytes entry at
    → Stands brief s (entry ∷ reverse old.waiting.list.items) os (old.text.list.items ++ bytes) (parked_of old)
    → Stands brief s (reverse new.waiting.list.items) os new.text.list.items (parked_of new)
stands-opened brief s old new bytes entry at os o h =
    waits-too brief s old.waiting.list.items new.waiting.list.items entry os new.text.list.items (parked_of new) o.waiting
    (rw (o.text, o.aside, o.is_aside) h)

-- the brackets don't matter where a text, a mark, bytes and a closing mark are joined
pub wrapped : (front mark bytes closing : List ℕ) → front ++ mark ++ bytes ++ closing ≡ front ++ (mark ++ bytes ++ closing)
wrapped front mark bytes closing = ap (λ l. l ++ closing) (append_assoc front mark bytes) ∙ append_assoc front (mark ++ bytes) closing
