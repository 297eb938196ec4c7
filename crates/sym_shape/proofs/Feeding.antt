-- A reader that is fed: more bytes, or the end, keep what holds between two steps.
use Rattle.sym_shape.proofs.Basics.{◌≡◌, ℕ, ◌+◌, ◌≤◌, Bool, true, false, inl, inr, Option, Some, None, Result, Ok, Err, List, [], ◌∷◌, ◌++◌, length, take, drop, refl, ap, sym, ◌∙◌, subst, arith, length-append, take-append-le, drop-append-le, append-nil, Row, Table, Agrees, IsReading, IsKnown, Refusal, Parse, true≢false, Malformed, BadReference, BadValue, TooLong, Memory, Sym, Kind, Entry, Symbol, IsLawful, IsMalformed, BeginsWellShaped, AreRowsOf, AreStepsOf, Fed, IsFed, IsOver, IsReason, IsMalformedSoFar, Room, to_do, IsParse, IsParsing, IsAdvance, IsRun, AreSpent}
use Rattle.sym_core.specs.Number.{FitsSymbol}
use Rattle.sym_shape.proofs.Fronts.{front_begins}
use Rattle.sym_shape.proofs.Runs.{few_stepped}
use Rattle.sym_shape.proofs.Steps.{both_not, same_start, whole_read, whole_steps}

-- bytes that agree with more known bytes agree with fewer of them
agrees_less : (q piece w : List ℕ) → Agrees false (q ++ piece) w → Agrees false q w
agrees_less [] piece w h = λ told. cc
agrees_less (b ∷ q) piece w h = h

agrees_open : (q w : List ℕ) → Agrees true q w → Agrees false q w
agrees_open [] w h = λ told. cc
agrees_open (b ∷ q) w h = h

fed_reading : {n : ℕ} (g : Table) (p q piece : List ℕ) (es : List Entry) (rows : List Row) → IsReading g n false p q es rows → IsReading g n false p (q ++ piece) es rows
fed_reading g p q piece es rows r = record {
  known = r.known;
  followed = r.followed;
  opened = r.opened;
  sound = r.sound;
  complete = λ w agrees whole. r.complete w (agrees_less q piece w agrees) whole;
}

told_reading : {n : ℕ} (g : Table) (p q : List ℕ) (es : List Entry) (rows : List Row) → IsReading g n false p q es rows → IsReading g n true p q es rows
told_reading g p q es rows r = record {
  known = r.known;
  followed = r.followed;
  opened = r.opened;
  sound = r.sound;
  complete = λ w agrees whole. r.complete w (agrees_open q w agrees) whole;
}

-- a piece is fed
pub fed : (g : Table) (bytes piece : List ℕ) (steps at : ℕ) (stack : List Entry) (rows : List Row) → IsParse g false bytes steps at stack rows → IsParse g false (bytes ++ piece) steps at stack rows
fed g bytes piece steps at stack rows h = record {
  within = omega (arith, h.within, length-append bytes piece);
  reading = subst (λ p. IsReading g steps false p (drop at (bytes ++ piece)) stack rows) (sym (take-append-le at bytes piece h.within))
      (subst (λ q. IsReading g steps false (take at bytes) q stack rows) (sym (drop-append-le at bytes piece h.within)) (fed_reading g (take at bytes) (drop at bytes) piece stack rows h.reading));
  counted = h.counted;
}

-- the reader is given the end
pub told : (g : Table) (bytes : List ℕ) (steps at : ℕ) (stack : List Entry) (rows : List Row) → IsParse g false bytes steps at stack rows → IsParse g true bytes steps at stack rows
told g bytes steps at stack rows h = record {
  within = h.within;
  reading = told_reading g (take at bytes) (drop at bytes) stack rows h.reading;
  counted = h.counted;
}

-- a refusal before the end holds for whatever follows
pub so_far : (g : Table) (ended : Bool) (bytes : List ℕ) (at : ℕ) → IsMalformed g bytes at → IsKnown ended bytes at → IsMalformedSoFar g ended bytes at
so_far g true bytes at h known = h
so_far g false bytes at h (inr told) = absurd (true≢false (sym told))
so_far g false bytes at h (inl lt) = λ more. record {
  refused = λ whole. h.first.next lt (longer more (front_begins g (bytes ++ more) (at + 1) whole));
  first = record {
    within = omega (arith, length-append bytes more);
    front = subst (λ u. BeginsWellShaped g u) (sym (take-append-le at bytes more (omega arith))) h.first.front;
    next = λ _ begins. h.first.next lt (longer more begins);
  };
}
  where
    longer : (more : List ℕ) → BeginsWellShaped g (take (at + 1) (bytes ++ more)) → BeginsWellShaped g (take (at + 1) bytes)
    longer more b = subst (λ u. BeginsWellShaped g u) (take-append-le (at + 1) bytes more (omega arith)) b

pub step_reason : (listed : ℕ → List Sym) (g : Table) (ended : Bool) (bytes : List ℕ) (old new : Parse) (refusal : Refusal) → IsAdvance listed g ended bytes old new (Err refusal) → IsReason g ended bytes refusal × (new.steps ≡ old.steps + 1) × (length new.rows.items ≤ length old.rows.items + 1)
step_reason listed g ended bytes old new (Malformed at) h = (so_far g ended bytes at h.0 h.1, h.2, h.3)
step_reason listed g ended bytes old new Memory h = (tt, h.0, h.1)
step_reason listed g ended bytes old new (BadReference at) h = absurd h
step_reason listed g ended bytes old new (BadValue at) h = absurd h
step_reason listed g ended bytes old new TooLong h = absurd h

pub run_reason : (listed : ℕ → List Sym) (g : Table) (ended : Bool) (bytes : List ℕ) (old new : Parse) (refusal : Refusal) → IsRun listed g ended bytes old new (Err refusal) → IsReason g ended bytes refusal × AreSpent bytes old new
run_reason listed g ended bytes old new (Malformed at) h = (so_far g ended bytes at h.0 h.1, h.2)
run_reason listed g ended bytes old new Memory h = (tt, h)
run_reason listed g ended bytes old new (BadReference at) h = absurd h
run_reason listed g ended bytes old new (BadValue at) h = absurd h
run_reason listed g ended bytes old new TooLong h = absurd h

pub unrefused : (refused : Option Refusal) → ((r : Refusal) → refused ≡ Some r → ⊥) → refused ≡ None
unrefused None h = refl
unrefused (Some r) h = absurd (h r refl)

-- what holds of a reader that hasn't refused
pub open_parsing : (listed : ℕ → List Sym) (g : Table) (bytes : List ℕ) (ended ready : Bool) (refused : Option Refusal) (parse : Parse) → refused ≡ None → IsFed listed g bytes ended ready refused parse → IsOver listed g bytes ended ready None parse
open_parsing listed g bytes ended ready refused parse going h = subst (λ r. IsOver listed g bytes ended ready r parse) going h.over

not_ready : (listed : ℕ → List Sym) (g : Table) (bytes : List ℕ) (ended ready : Bool) (refused : Option Refusal) (parse : Parse) → ended ≡ false → IsFed listed g bytes ended ready refused parse → ready ≡ false
not_ready listed g bytes ended false refused parse untold h = refl
not_ready listed g bytes ended true None parse untold h = (let told = (h.over.1 refl).0 in cc)
not_ready listed g bytes ended true (Some r) parse untold h = (let told = h.over.1 in cc)

-- a reader that hasn't refused takes more bytes
pub fed_more : (listed : ℕ → List Sym) (g : Table) (bytes piece new : List ℕ) (ended ready : Bool) (refused : Option Refusal) (parse : Parse) → refused ≡ None → ended ≡ false → new ≡ bytes ++ piece → length bytes + length piece ≤ 16777216 → IsFed listed g bytes ended ready refused parse → IsFed listed g new ended ready refused parse
fed_more listed g bytes piece new ended ready refused parse going untold is room h =
    let parsing = subst (λ e. IsParsing listed g e bytes parse) untold (open_parsing listed g bytes ended ready refused parse going h).0 in
    let fed_on : IsParsing listed g false (bytes ++ piece) parse = fed g bytes piece parse.steps parse.at (to_do listed parse) parse.rows.items parsing in
    let over : IsOver listed g (bytes ++ piece) ended ready None parse = (subst (λ e. IsParsing listed g e (bytes ++ piece) parse) (sym untold) fed_on, λ r. absurd (both_not ready r (not_ready listed g bytes ended ready refused parse untold h))) in
    subst (λ u. IsFed listed g u ended ready refused parse) (sym is) (record {
      fits = omega (arith, length-append bytes piece);
      over = subst (λ r. IsOver listed g (bytes ++ piece) ended ready r parse) (sym going) over;
      few = record { steps_few = omega (arith, h.few.steps_few, length-append bytes piece); rows_few = omega (arith, h.few.rows_few, length-append bytes piece); each = h.few.each };
    })

-- a step that refuses
pub fed_stops : (listed : ℕ → List Sym) (g : Table) (bytes : List ℕ) (ended ready : Bool) (refused : Option Refusal) (old new : Parse) (refusal : Refusal) → refused ≡ None → IsFed listed g bytes ended ready refused old → IsAdvance listed g ended bytes old new (Err refusal) → IsFed listed g bytes ended ended (Some refusal) new
fed_stops listed g bytes ended ready refused old new refusal going h step =
    let stop = step_reason listed g ended bytes old new refusal step in
    record {
      fits = h.fits;
      over = (stop.0, refl);
      few = few_stepped listed g ended bytes old new (open_parsing listed g bytes ended ready refused old going h).0 stop.1 stop.2;
    }

pub fed_run_stops : (listed : ℕ → List Sym) (g : Table) (bytes : List ℕ) (ended : Bool) (old new : Parse) (refusal : Refusal) → FitsSymbol bytes → IsRun listed g ended bytes old new (Err refusal) → IsFed listed g bytes ended ended (Some refusal) new
fed_run_stops listed g bytes ended old new refusal fits run =
    let stop = run_reason listed g ended bytes old new refusal run in
    record { fits = fits; over = (stop.0, refl); few = stop.1.few }

-- nothing is fed yet
pub fed_start : (listed : ℕ → List Sym) (g : Table) (lawful : IsLawful g) (bytes : List ℕ) (parse : Parse) → bytes ≡ [] → parse.steps ≡ 0 → parse.at ≡ 0 → (to_do listed parse) ≡ Symbol (Kind 0) ∷ [] → parse.rows.items ≡ [] → IsFed listed g bytes false false None parse
fed_start listed g lawful bytes parse none steps at stack rows = record {
  fits = omega (arith, ap length none);
  over = (same_start g lawful false bytes parse.steps parse.at (to_do listed parse) parse.rows.items steps at stack rows, λ r. absurd (true≢false (sym r)));
  few = record { steps_few = omega (arith, steps); rows_few = omega (arith, ap length rows); each = omega (arith, ap length rows) };
}

abbrev fed_of : List ℕ → Bool → Bool → Option Refusal → ℕ → ℕ → ℕ → ℕ → Room → Fed
fed_of bytes ended ready refused steps rows rules byte_room room = record { bytes = bytes; ended = ended; ready = ready; refused = refused; steps = steps; rows = rows; rules = rules; byte_room = byte_room; room = room }

-- views that agree in each part
pub same_fed : (a b : List ℕ) (c d e f : Bool) (m n : Option Refusal) (p q r s u v w z : ℕ) (x y : Room) → a ≡ b → c ≡ d → e ≡ f → m ≡ n → p ≡ q → r ≡ s → u ≡ v → w ≡ z → x ≡ y → fed_of a c e m p r u w x ≡ fed_of b d f n q s v z y
same_fed a b c d e f m n p q r s u v w z x y i₁ i₂ i₃ i₄ i₅ i₆ i₇ i₈ i₉ = rw (i₁, i₂, i₃, i₄, i₅, i₆, i₇, i₈, i₉) refl

pub same_room : (a b c d : ℕ) → a ≡ b → c ≡ d → (let room : ℕ → ℕ → Room = λ m n. record { rows = m; rules = n } in room a c ≡ room b d)
same_room a b c d h i = rw (h, i) refl

pub made_fed : (v w : Fed) → v ≡ w → (let made : Fed → Result Fed Refusal = λ u. Ok u in made v ≡ made w)
made_fed v w e = (let made : Fed → Result Fed Refusal = λ u. Ok u in ap made e)

-- a reader that is ready and hasn't refused has read all
pub fed_rows : (listed : ℕ → List Sym) (g : Table) (bytes : List ℕ) (ended ready : Bool) (refused : Option Refusal) (parse : Parse) → refused ≡ None → ready ≡ true → IsFed listed g bytes ended ready refused parse → AreRowsOf g bytes parse.rows.items
fed_rows listed g bytes ended ready refused parse going done h =
    let over = open_parsing listed g bytes ended ready refused parse going h in
    let end = over.1 done in
    whole_read g ended bytes parse.steps parse.at (to_do listed parse) parse.rows.items parse.rows.items over.0 end.1 end.2 refl

pub fed_steps : (listed : ℕ → List Sym) (g : Table) (lawful : IsLawful g) (bytes : List ℕ) (ended ready : Bool) (refused : Option Refusal) (parse : Parse) → refused ≡ None → ready ≡ true → IsFed listed g bytes ended ready refused parse → AreStepsOf g bytes parse.steps
fed_steps listed g lawful bytes ended ready refused parse going done h =
    let over = open_parsing listed g bytes ended ready refused parse going h in
    let end = over.1 done in
    whole_steps g lawful ended bytes parse.steps parse.at (to_do listed parse) parse.rows.items over.0 end.1 end.2

pub same_steps : (g : Table) (s t : List ℕ) (steps made : ℕ) → s ≡ t → made ≡ steps → AreStepsOf g s steps → AreStepsOf g t made
same_steps g s t steps made p q h = λ tree is spelled. q ∙ h tree is (spelled ∙ sym p)

pub fed_begins : (listed : ℕ → List Sym) (g : Table) (bytes : List ℕ) (ended ready : Bool) (refused : Option Refusal) (parse : Parse) → refused ≡ None → ready ≡ true → IsFed listed g bytes ended ready refused parse → BeginsWellShaped g bytes
fed_begins listed g bytes ended ready refused parse going done h =
    let rows = fed_rows listed g bytes ended ready refused parse going done h in
    ([], (rows.0, rows.1, rows.2 ∙ sym (append-nil bytes)))

pub same_rows : (g : Table) (s t : List ℕ) (rows made : List Row) → s ≡ t → made ≡ rows → AreRowsOf g s rows → AreRowsOf g t made
same_rows g s t rows made p q h = (h.0, h.1, h.2 ∙ p, q ∙ h.3)
