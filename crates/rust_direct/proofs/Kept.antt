-- What a writer keeps while its texts and its lists grow.
use Rattle.rust_direct.proofs.Basics.{◌≡◌, ◌≢◌, ℕ, zero, suc, ◌+◌, ◌-◌, ◌<◌, ◌≤◌, length, List, [], ◌∷◌, ◌++◌, take, drop, reverse, slice_get, Bool, true, false, not, Option, Some, None, refl, ap, sym, ◌∙◌, subst, arith, append_assoc, append-nil, inl, inr, slice_set, replicate, if◌then◌else◌, eq-eqb, ne_eqb, cases_eq, length-append, length-set, reverse-append, drop-append_seam, take-append_seam, Value, Ended, State, ended_at, Note, Forms, Direct, Says, home, IsNote, NotedAs, IsNumbered, AreNotes, AreNotesOf, AreRooms, HasRooms, Keeps, Writes, Notes, with_ended}

-- ## Notes

note-stays : (brief : Bool) (written more : List ℕ) (n : Note) (v : Value) → IsNote brief written n v → IsNote brief (written ++ more) n v
note-stays brief written more n v p = record {
  front = p.front;
  bytes = p.bytes;
  back = p.back ++ more;
  written_is = ap (λ l. l ++ more) p.written_is ∙ append_assoc (p.front ++ p.bytes) p.back more;
  from_is = p.from_is;
  to_is = p.to_is;
  says = p.says;
}

ended-stays : (brief : Bool) (is_aside note_aside : Bool) (text aside more : List ℕ) (n : Note) (v : Value)
    → IsNote brief (home is_aside note_aside text aside) n v → IsNote brief (home is_aside note_aside (text ++ more) aside) n v
ended-stays brief true true text aside more n v p = note-stays brief text more n v p
ended-stays brief false false text aside more n v p = note-stays brief text more n v p
ended-stays brief true false text aside more n v p = p
ended-stays brief false true text aside more n v p = p

noted-stays : (brief : Bool) (is_aside : Bool) (text aside more : List ℕ) (o : Option Note) (v : Option Value) → NotedAs brief is_aside text aside o v
    → NotedAs brief is_aside (text ++ more) aside o v
noted-stays brief is_aside text aside more None v p = absurd p
noted-stays brief is_aside text aside more (Some n) None p = absurd p
noted-stays brief is_aside text aside more (Some n) (Some v) p = ended-stays brief is_aside n.is_aside text aside more n v p

numbered-stays : (brief : Bool) (is_aside : Bool) (text aside more : List ℕ) (notes : List Note) (v : Option Value) (number : Option ℕ)
    → IsNumbered brief is_aside text aside notes v number → IsNumbered brief is_aside (text ++ more) aside notes v number
numbered-stays brief is_aside text aside more notes v None p = tt
numbered-stays brief is_aside text aside more notes v (Some zero) p = tt
numbered-stays brief is_aside text aside more notes v (Some (suc k)) p = noted-stays brief is_aside text aside more (slice_get notes k) v p

-- notes still hold when more is written
pub notes-stay : (brief : Bool) (is_aside : Bool) (text aside more : List ℕ) (notes : List Note) (numbers : List ℕ) (ended : List Ended)
    → AreNotes brief is_aside text aside notes numbers ended → AreNotes brief is_aside (text ++ more) aside notes numbers ended
notes-stay brief is_aside text aside more notes numbers ended p =
    λ place. numbered-stays brief is_aside text aside more notes (ended_at ended place) (slice_get numbers place) (p place)

-- likewise for a writer
notes-written : (brief : Bool) (old new : Direct) (bytes : List ℕ) (st : State) → Writes old new bytes → AreNotesOf brief old st → AreNotesOf brief new st
notes-written brief old new bytes st writes p =
    rw (writes.text, writes.aside, writes.is_aside, writes.notes, writes.numbers)
    (notes-stay brief old.is_aside old.text.list.items old.aside.list.items bytes old.notes.list.items old.numbers.items st.ended p)

-- ## A switch to the other text

home-turned : (brief : Bool) (is_aside note_aside : Bool) (text aside : List ℕ) (n : Note) (v : Value)
    → IsNote brief (home is_aside note_aside text aside) n v → IsNote brief (home (not is_aside) note_aside aside text) n v
home-turned brief true true text aside n v p = p
home-turned brief false false text aside n v p = p
home-turned brief true false text aside n v p = p
home-turned brief false true text aside n v p = p

noted-turned : (brief : Bool) (is_aside : Bool) (text aside : List ℕ) (o : Option Note) (v : Option Value) → NotedAs brief is_aside text aside o v
    → NotedAs brief (not is_aside) aside text o v
noted-turned brief is_aside text aside None v p = absurd p
noted-turned brief is_aside text aside (Some n) None p = absurd p
noted-turned brief is_aside text aside (Some n) (Some v) p = home-turned brief is_aside n.is_aside text aside n v p

numbered-turned : (brief : Bool) (is_aside : Bool) (text aside : List ℕ) (notes : List Note) (v : Option Value) (number : Option ℕ)
    → IsNumbered brief is_aside text aside notes v number → IsNumbered brief (not is_aside) aside text notes v number
numbered-turned brief is_aside text aside notes v None p = tt
numbered-turned brief is_aside text aside notes v (Some zero) p = tt
numbered-turned brief is_aside text aside notes v (Some (suc k)) p = noted-turned brief is_aside text aside (slice_get notes k) v p

notes-turned : (brief : Bool) (is_aside : Bool) (text aside : List ℕ) (notes : List Note) (numbers : List ℕ) (ended : List Ended)
    → AreNotes brief is_aside text aside notes numbers ended → AreNotes brief (not is_aside) aside text notes numbers ended
notes-turned brief is_aside text aside notes numbers ended p =
    λ place. numbered-turned brief is_aside text aside notes (ended_at ended place) (slice_get numbers place) (p place)

-- ## One more note

get-append : {X : Type 0} (xs : List X) (k : ℕ) (x : X) (more : List X) → slice_get xs k ≡ Some x → slice_get (xs ++ more) k ≡ Some x
get-append [] k x more e = cc e
get-append (y ∷ ys) zero x more e = e
get-append (y ∷ ys) (suc k) x more e = get-append ys k x more e

get-last : {X : Type 0} (xs : List X) (x : X) → slice_get (xs ++ x ∷ []) (length xs) ≡ Some x
get-last [] x = refl
get-last (y ∷ ys) x = get-last ys x

get-set : (xs : List ℕ) (k y : ℕ) → k < length xs → slice_get (slice_set xs k y) k ≡ Some y
get-set [] k y inside = absurd (omega (arith, inside))
get-set (x ∷ xs) zero y inside = refl
get-set (x ∷ xs) (suc k) y inside = get-set xs k y (omega (arith, inside))

get-other : (xs : List ℕ) (k j y : ℕ) → j ≢ k → slice_get (slice_set xs k y) j ≡ slice_get xs j
get-other [] k j y apart = refl
get-other (x ∷ xs) zero zero y apart = absurd (apart refl)
get-other (x ∷ xs) zero (suc j) y apart = refl
get-other (x ∷ xs) (suc k) zero y apart = refl
get-other (x ∷ xs) (suc k) (suc j) y apart = get-other xs k j y (λ e. apart (ap suc e))

noted-more : (brief : Bool) (is_aside : Bool) (text aside : List ℕ) (notes : List Note) (n : Note) (k : ℕ) (o : Option Note) (v : Option Value)
    → slice_get notes k ≡ o → NotedAs brief is_aside text aside o v → NotedAs brief is_aside text aside (slice_get (notes ++ n ∷ []) k) v
noted-more brief is_aside text aside notes n k None v e p = absurd p
noted-more brief is_aside text aside notes n k (Some x) v e p =
    subst (λ o. NotedAs brief is_aside text aside o v) (sym (get-append notes k x (n ∷ []) e)) p

numbered-more : (brief : Bool) (is_aside : Bool) (text aside : List ℕ) (notes : List Note) (n : Note) (v : Option Value) (number : Option ℕ)
    → IsNumbered brief is_aside text aside notes v number → IsNumbered brief is_aside text aside (notes ++ n ∷ []) v number
numbered-more brief is_aside text aside notes n v None p = tt
numbered-more brief is_aside text aside notes n v (Some zero) p = tt
numbered-more brief is_aside text aside notes n v (Some (suc k)) p = noted-more brief is_aside text aside notes n k (slice_get notes k) v refl p

-- what ended at a place is noted
pub notes-more : (brief : Bool) (is_aside : Bool) (text aside : List ℕ) (notes : List Note) (numbers : List ℕ) (ended : List Ended) (n : Note) (place : ℕ) (v : Value)
    → AreNotes brief is_aside text aside notes numbers ended → place < length numbers → IsNote brief (home is_aside n.is_aside text aside) n v
    → AreNotes brief is_aside text aside (notes ++ n ∷ []) (slice_set numbers place (length notes + 1)) (record { place = place; value = v } ∷ ended)
notes-more brief is_aside text aside notes numbers ended n place v p inside is other = elim (cases_eq place other) [
  | inl same ↦ here same
  | inr apart ↦ there apart
]
  where
    Is : Option Value → Option ℕ → Type 0
    Is o number = IsNumbered brief is_aside text aside (notes ++ n ∷ []) o number

    one-more : (k : ℕ) → k + 1 ≡ suc k
    one-more k = omega arith

    here : place ≡ other → Is (ended_at (record { place = place; value = v } ∷ ended) other) (slice_get (slice_set numbers place (length notes + 1)) other)
    here same =
        subst (λ o. Is o (slice_get (slice_set numbers place (length notes + 1)) other))
        (sym (ap (λ b. if b then Some v else ended_at ended other) (eq-eqb place other same)))
        (subst (λ k. Is (Some v) (slice_get (slice_set numbers place (length notes + 1)) k)) same
        (subst (λ o. Is (Some v) o) (sym (get-set numbers place (length notes + 1) inside))
        (subst (λ k. Is (Some v) (Some k)) (sym (one-more (length notes)))
        (subst (λ o. NotedAs brief is_aside text aside o (Some v)) (sym (get-last notes n)) is))))

    there : (place ≡ other → ⊥) → Is (ended_at (record { place = place; value = v } ∷ ended) other) (slice_get (slice_set numbers place (length notes + 1)) other)
    there apart =
        subst (λ o. Is o (slice_get (slice_set numbers place (length notes + 1)) other))
        (sym (ap (λ b. if b then Some v else ended_at ended other) (ne_eqb place other apart)))
        (subst (λ o. Is (ended_at ended other) o) (sym (get-other numbers place other (length notes + 1) (λ e. apart (sym e))))
        (numbered-more brief is_aside text aside notes n (ended_at ended other) (slice_get numbers other) (p other)))

-- likewise for a writer
notes-noted : (brief : Bool) (old new : Direct) (place from : ℕ) (forms : Forms) (st : State) (v : Value) (front bytes : List ℕ) → Notes old new place from forms
    → AreNotesOf brief old st → old.text.list.items ≡ front ++ bytes → from ≡ length front → Says brief forms v bytes → AreNotesOf brief new (with_ended place v st)
notes-noted brief old new place from forms st v front bytes noted p written from_is says =
    rw (noted.text, noted.aside, noted.is_aside, noted.notes, noted.numbers)
    (notes-more brief old.is_aside old.text.list.items old.aside.list.items old.notes.list.items old.numbers.items st.ended
    (record { from = from; to = length old.text.list.items; forms = forms; is_aside = old.is_aside }) place v p noted.inside
    (at-home old.is_aside old.text.list.items old.aside.list.items written))
  where
    at-home : (is_aside : Bool) (text aside : List ℕ) → text ≡ front ++ bytes
        → IsNote brief (home is_aside is_aside text aside) (record { from = from; to = length text; forms = forms; is_aside = is_aside }) v
    at-home true text aside e = record {
      front = front;
      bytes = bytes;
      back = [];
      written_is = e ∙ sym (append-nil (front ++ bytes));
      from_is = from_is;
      to_is = ap length e ∙ length-append front bytes;
      says = says;
    }
    at-home false text aside e = record {
      front = front;
      bytes = bytes;
      back = [];
      written_is = e ∙ sym (append-nil (front ++ bytes));
      from_is = from_is;
      to_is = ap length e ∙ length-append front bytes;
      says = says;
    }

-- nothing is noted at first
pub none-noted : (brief : Bool) (is_aside : Bool) (text aside : List ℕ) (n : ℕ) (ended : List Ended) → AreNotes brief is_aside text aside [] (replicate n 0) ended
none-noted brief is_aside text aside n ended = λ place. zeros n place (ended_at ended place)
  where
    zeros : (n place : ℕ) (v : Option Value) → IsNumbered brief is_aside text aside [] v (slice_get (replicate n 0) place)
    zeros zero place v = tt
    zeros (suc n) zero v = tt
    zeros (suc n) (suc place) v = zeros n place v

-- ## Rooms, and all that is kept

-- the rooms hold where the lists are the same
pub rooms-same : (s : List ℕ) (old new : Direct) → new.text.room ≡ old.text.room → new.aside.room ≡ old.aside.room → new.notes.room ≡ old.notes.room
    → length new.numbers.items ≡ length old.numbers.items → new.waiting.room ≡ old.waiting.room → HasRooms s old → HasRooms s new
rooms-same s old new text aside notes numbers waiting p = rw (text, aside, notes, numbers, waiting) p

-- only the open entries change, and the room for them stays
pub keeps-same : (brief : Bool) (s : List ℕ) (old new : Direct) (st : State) → new.text ≡ old.text → new.aside ≡ old.aside → new.is_aside ≡ old.is_aside
    → new.notes ≡ old.notes → new.numbers ≡ old.numbers → new.waiting.room ≡ old.waiting.room → Keeps brief s old st → Keeps brief s new st
keeps-same brief s old new st text aside is_aside notes numbers waiting p = rw (text, aside, is_aside, notes, numbers, waiting) p

-- more is written
pub keeps-written : (brief : Bool) (s : List ℕ) (old new : Direct) (bytes : List ℕ) (st : State) → Writes old new bytes → Keeps brief s old st → Keeps brief s new st
keeps-written brief s old new bytes st w p = (
  notes-written brief old new bytes st w p.0,
  rooms-same s old new w.room (ap (λ l. l.room) w.aside) (ap (λ l. l.room) w.notes) (ap (λ l. length l.items) w.numbers)
      (ap (λ l. l.room) w.waiting) p.1,
)

-- the other of the two texts is written to
pub keeps-turned : (brief : Bool) (s : List ℕ) (old new : Direct) (st : State) → new.text ≡ old.aside → new.aside ≡ old.text → new.is_aside ≡ not old.is_aside
    → new.notes ≡ old.notes → new.numbers ≡ old.numbers → new.waiting.room ≡ old.waiting.room → Keeps brief s old st → Keeps brief s new st
keeps-turned brief s old new st text aside is_aside notes numbers waiting p =
    let rooms : AreRooms s old.aside.room old.text.room old.notes.room (length old.numbers.items) old.waiting.room = record {
      text_is_within = p.1.aside_is_within;
      aside_is_within = p.1.text_is_within;
      notes_are_within = p.1.notes_are_within;
      numbers_are_within = p.1.numbers_are_within;
      waiting_is_within = p.1.waiting_is_within;
    } in
    rw (text, aside, is_aside, notes, numbers, waiting) (
      notes-turned brief old.is_aside old.text.list.items old.aside.list.items old.notes.list.items old.numbers.items st.ended p.0,
      rooms,
    )

-- something is noted
pub keeps-noted : (brief : Bool) (s : List ℕ) (old new : Direct) (place from : ℕ) (forms : Forms) (st : State) (v : Value) (front bytes : List ℕ)
    → Notes old new place from forms → Keeps brief s old st → old.text.list.items ≡ front ++ bytes → from ≡ length front → Says brief forms v bytes
    → Keeps brief s new (with_ended place v st)
keeps-noted brief s old new place from forms st v front bytes n p written from_is says = (
  notes-noted brief old new place from forms st v front bytes n p.0 written from_is says,
  rooms-same s old new (ap (λ l. l.room) n.text) (ap (λ l. l.room) n.aside) n.room
      (ap length n.numbers ∙ length-set old.numbers.items place (length old.notes.list.items + 1)) (ap (λ l. l.room) n.waiting) p.1,
)

-- ## What is open

-- the last of a list is the first of its reverse
pub reverse-last : {X : Type 0} (xs : List X) (x : X) → reverse (xs ++ x ∷ []) ≡ x ∷ reverse xs
reverse-last xs x = reverse-append xs (x ∷ [])

-- a piece by its place
pub piece-found : (text front bytes back : List ℕ) (from to : ℕ) → text ≡ front ++ bytes ++ back → from ≡ length front → to ≡ length front + length bytes
    → (from ≤ to) × (to ≤ length text) × (take (to - from) (drop from text) ≡ bytes)
piece-found text front bytes back from to e from_is to_is = (omega (arith, from_is, to_is), inside, found)
  where
    inside : to ≤ length text
    inside = omega (arith, to_is, ap length e, length-append (front ++ bytes) back, length-append front bytes)

    size : to - from ≡ length bytes
    size = omega (arith, from_is, to_is)

    found : take (to - from) (drop from text) ≡ bytes
    found = ap (λ n. take n (drop from text)) size ∙ ap (λ n. take (length bytes) (drop n text)) from_is
        ∙ ap (λ l. take (length bytes) (drop (length front) l)) (e ∙ append_assoc front bytes back) ∙ ap (λ l. take (length bytes) l) (drop-append_seam front (bytes ++ back))
        ∙ take-append_seam bytes back
