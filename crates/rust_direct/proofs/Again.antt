-- Paths and types that were written before and are written once more.
use Rattle.rust_direct.proofs.Basics.{◌≡◌, ℕ, suc, ◌+◌, List, [], ◌∷◌, length, slice_get, true, false, Option, Some, None, refl, ap, subst, ◌∙◌, Bool, false≢true, StandsAt, need, Value, State, a_path, ended_at, as_path, Forms, Note, Direct, IsNumberAt, PathHas, Says, is_path, home, IsNote, NotesEnded, NotedAs, IsNumbered, Writes, piece, AreNotesOf, Awaits, IsEnded}
use Rattle.rust_tree.specs.Symbol as tree
use Rattle.rust_direct.specs.declared.open.Forms.TheVariants as forms
use Rattle.rust_direct.proofs.Kept.{keeps-written, piece-found}
use Rattle.rust_direct.proofs.MovesOfTypes.{path-referred}
use Rattle.rust_direct.proofs.PathsRead.{path-says, stands-written}

-- a note of a place says what ended there
abbrev pub NoteAt : (brief : Bool) → Direct → State → (place : ℕ) → Note → Type 0
NoteAt brief w st place n = (v : Value) × (ended_at st.ended place ≡ Some v) × IsNote brief (home w.is_aside n.is_aside w.text.list.items w.aside.list.items) n v

ended-noted : (brief : Bool) (w : Direct) (st : State) (place : ℕ) (n : Note) (o : Option Value) → ended_at st.ended place ≡ o
    → NotesEnded brief w.is_aside w.text.list.items w.aside.list.items n o → NoteAt brief w st place n
ended-noted brief w st place n None e p = absurd p
ended-noted brief w st place n (Some v) e p = (v, e, p)

pub note-found : (brief : Bool) (w : Direct) (st : State) (place k : ℕ) (n : Note) → AreNotesOf brief w st → slice_get w.numbers.items place ≡ Some (suc k)
    → slice_get w.notes.list.items k ≡ Some n → NoteAt brief w st place n
note-found brief w st place k n notes number found =
    let numbered = subst (λ o. IsNumbered brief w.is_aside w.text.list.items w.aside.list.items w.notes.list.items (ended_at st.ended place) o) number (notes place) in
    let noted = subst (λ o. NotedAs brief w.is_aside w.text.list.items w.aside.list.items o (ended_at st.ended place)) found numbered in
    ended-noted brief w st place n (ended_at st.ended place) refl noted

-- what a note says of a path
path-said : (brief : Bool) (f : Forms) (v : Value) (bytes : List ℕ) → is_path f ≡ true → Says brief f v bytes
    → (p : tree.Path) × (as_path (Some v) ≡ Some p) × PathHas brief f p bytes
path-said brief forms.Alike v bytes is h = h
path-said brief forms.Valued v bytes is h = h
path-said brief forms.Plain v bytes is h = h
path-said brief forms.Typed v bytes is h = absurd (false≢true is)
path-said brief forms.Unnamed v bytes is h = absurd (false≢true is)

pub path-needs : (brief : Bool) (f : Forms) (p : tree.Path) (bytes : List ℕ) → PathHas brief f p bytes → need p ≡ 0
path-needs brief forms.Alike p bytes h = h.0.needs_none
path-needs brief forms.Valued p bytes h = h.needs_none
path-needs brief forms.Plain p bytes h = h.needs_none
path-needs brief forms.Typed p bytes h = absurd h
path-needs brief forms.Unnamed p bytes h = absurd h

-- a path is written once more
pub path-repeated : (brief : Bool) (s : List ℕ) (old middle : Direct) (from n end k : ℕ) (note : Note) → Awaits brief s old false → StandsAt s old.at (66 ∷ [])
    → IsNumberAt s (old.at + 1) n end → slice_get old.numbers.items (n + 2) ≡ Some (suc k) → slice_get old.notes.list.items k ≡ Some note
    → is_path note.forms ≡ true → from ≡ length old.text.list.items
    → Writes old middle (piece (home old.is_aside note.is_aside old.text.list.items old.aside.list.items) note.from note.to)
    → IsEnded brief s (record middle { at = end }) old.at from note.forms note.forms
path-repeated brief s old middle from n end k note awaits letter number numbered noted is from_is writes =
    let r = awaits.awaited in
    let found = note-found brief old awaits.state (n + 2) k note awaits.keeps.0 numbered noted in
    let own = found.2 in
    let said = path-said brief note.forms found.0 own.bytes is own.says in
    let p = said.0 in
    let bytes = own.bytes in
    let same = (piece-found (home old.is_aside note.is_aside old.text.list.items old.aside.list.items) own.front own.bytes own.back note.from note.to
    own.written_is own.from_is own.to_is).2 in
    let write = subst (λ l. Writes old middle l) same writes in
    let told = path-says brief note.forms p bytes is said.2 in
    record {
      before = awaits.state;
      keeps = keeps-written brief s old middle bytes awaits.state write awaits.keeps;
      os = r.os;
      v = a_path p;
      front = old.text.list.items;
      bytes = bytes;
      written = write.text;
      from_is = from_is;
      says = told.0;
      holds = told.1;
      comes = path-referred s r.wanted r.os old.at awaits.state n end p r.is_for r.awaits letter number (ap as_path found.1 ∙ said.1)
          (path-needs brief note.forms p bytes said.2);
      stands = stands-written brief s old middle bytes r.os old.text.list.items write r.stands;
    }
