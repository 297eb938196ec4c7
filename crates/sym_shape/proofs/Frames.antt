-- The reader's steps over its frames.
use Rattle.sym_shape.proofs.Basics.{◌≡◌, ℕ, ◌+◌, ◌-◌, ◌*◌, ◌<◌, ◌≤◌, Bool, true, false, inl, inr, List, [], ◌∷◌, ◌++◌, length, take, drop, get_or, reverse, refl, ap, ap₂, sym, ◌∙◌, subst, arith, length-append, append_assoc, cond, Some, take_at, reverse-append, length-reverse, NameClass, TokenPlace, Rule, Row, Sym, Kind, Byte, Table, symbols_of, IsMalformed, BeginsWellShaped, IsLawful, Symbol, Close, entries_of, closed, IsKnown, TakesNone, place_behind, rule_stack, symbols_left, open_row, place_row, lone_rows, rules_in, passed, HasNext, HasLast, rule_frame, unfolded, IsTaken, Room, StaysWithin, IsParse, ReadsToken, BreaksToken, IsWholeToken}
use Rattle.sym_shape.specs.declared.frame.Frame.{Frame}
use Rattle.sym_room.specs.Room.{IsGrown}
use Rattle.sym_shape.proofs.Moves.{closed_at, beginning, left-pushed}
use Rattle.sym_shape.proofs.Steps.{step_close, step_byte, step_empty, step_rule, step_leaf, step_token, refuse_behind, refuse_byte, refuse_kind, refuse_token, found_waits, broken_waits, token_within}

-- the parse with these frames
abbrev pub IsFramed : (ℕ → List Sym) → Table → Bool → List ℕ → ℕ → ℕ → Frame → List Frame → List Row → Type 0
IsFramed listed g ended bytes steps at top below rows = IsParse g ended bytes steps at (unfolded listed top (reverse below)) rows

unfolded_next : (listed : ℕ → List Sym) (f : Frame) (fs : List Frame) (x : Sym) → HasNext listed f x → unfolded listed f fs ≡ Symbol x ∷ unfolded listed (passed f) fs
unfolded_next listed f [] x h = ap entries_of h.left
unfolded_next listed f (q ∷ fs) x h = ap (λ xs. entries_of xs ++ Close f.row ∷ unfolded listed q fs) h.left

unfolded_end : (listed : ℕ → List Sym) (f q : Frame) (fs : List Frame) → listed f.place ≡ [] → unfolded listed f (q ∷ fs) ≡ Close f.row ∷ unfolded listed q fs
unfolded_end listed f q fs e = ap (λ xs. entries_of xs ++ Close f.row ∷ unfolded listed q fs) e

pub left_in : (listed : ℕ → List Sym) (f : Frame) (fs : List Frame) → symbols_left (unfolded listed f fs) ≡ length (listed f.place)
left_in listed f [] = left-entries (listed f.place)
  where
    left-entries : (xs : List Sym) → symbols_left (entries_of xs) ≡ length xs
    left-entries [] = refl
    left-entries (x ∷ xs) = omega (arith, left-entries xs)
left_in listed f (q ∷ fs) = left-pushed (listed f.place) f.row (unfolded listed q fs)

reverse_last : {X : Type 0} (xs : List X) (x : X) → reverse (xs ++ x ∷ []) ≡ x ∷ reverse xs
reverse_last xs x = reverse-append xs (x ∷ [])

-- a list without its last item
without_last : {X : Type 0} (xs ys front : List X) (x : X) → xs ≡ front ++ x ∷ [] → ys ≡ take (length xs - 1) xs → ys ≡ front
without_last xs ys front x e is = is ∙ ap₂ (λ n zs. take n zs) less e ∙ take_at front (x ∷ []) (length front) refl
  where
    less : length xs - 1 ≡ length front
    less = omega (arith, ap length e, length-append front (x ∷ []))

-- as many rules are being read as there are frames below the uppermost
rules_unfolded : (listed : ℕ → List Sym) (f : Frame) (fs : List Frame) → rules_in (unfolded listed f fs) ≡ length fs
rules_unfolded listed f [] = none (listed f.place)
  where
    none : (xs : List Sym) → rules_in (entries_of xs) ≡ 0
    none [] = refl
    none (x ∷ xs) = none xs
rules_unfolded listed f (q ∷ fs) = omega (arith, pushed (listed f.place), rules_unfolded listed q fs)
  where
    pushed : (xs : List Sym) → rules_in (entries_of xs ++ Close f.row ∷ unfolded listed q fs) ≡ 1 + rules_in (unfolded listed q fs)
    pushed [] = refl
    pushed (x ∷ xs) = pushed xs

-- below the uppermost frame there are at most 4 n + 3 frames for n bytes
pub few_frames : (listed : ℕ → List Sym) (g : Table) (ended : Bool) (bytes : List ℕ) (steps at : ℕ) (top : Frame) (below : List Frame) (rows : List Row) → IsFramed listed g ended bytes steps at top below rows → length below ≤ 4 * length bytes + 3
few_frames listed g ended bytes steps at top below rows h =
    omega (arith, rules_unfolded listed top (reverse below), length-reverse below, h.counted.nested, h.counted.made, h.counted.few, h.within)

-- when a rule is taken, the lists get room for no more than the symbol may need
pub rule_within : (listed : ℕ → List Sym) (g : Table) (ended : Bool) (bytes : List ℕ) (steps at : ℕ) (top : Frame) (below : List Frame) (rows : List Row) (old new : Room) → IsFramed listed g ended bytes steps at top below rows → IsGrown old.rows new.rows (length rows + 1) → IsGrown old.rules new.rules (length below + 1) → StaysWithin (length bytes) old new
rule_within listed g ended bytes steps at top below rows old new h made nested =
    (omega (arith, made.1, h.counted.made, h.counted.few, h.within), omega (arith, nested.1, few_frames listed g ended bytes steps at top below rows h))

-- a frame expects its next symbol
pub asks : (listed : ℕ → List Sym) (g : Table) (ended : Bool) (bytes : List ℕ) (steps at : ℕ) (top : Frame) (below : List Frame) (rows : List Row) (x : Sym) → IsFramed listed g ended bytes steps at top below rows → HasNext listed top x → IsParse g ended bytes steps at (Symbol x ∷ unfolded listed (passed top) (reverse below)) rows
asks listed g ended bytes steps at top below rows x h next = subst (λ es. IsParse g ended bytes steps at es rows) (unfolded_next listed top (reverse below) x next) h

-- a frame whose symbols are read expects its end
asks_end : (listed : ℕ → List Sym) (g : Table) (ended : Bool) (bytes : List ℕ) (steps at : ℕ) (top q : Frame) (below : List Frame) (rows : List Row) (last : HasLast below q) → IsFramed listed g ended bytes steps at top below rows → listed top.place ≡ [] → IsParse g ended bytes steps at (Close top.row ∷ unfolded listed q (reverse last.0)) rows
asks_end listed g ended bytes steps at top q below rows last h bare =
    subst (λ es. IsParse g ended bytes steps at es rows) (ap (λ fs. unfolded listed top (reverse fs)) last.1 ∙ ap (λ fs. unfolded listed top fs) (reverse_last last.0 q) ∙ unfolded_end listed top q (reverse last.0) bare) h

-- the row that ends exists
pub end_open : (listed : ℕ → List Sym) (g : Table) (ended : Bool) (bytes : List ℕ) (steps at : ℕ) (top q : Frame) (below : List Frame) (rows : List Row) → IsFramed listed g ended bytes steps at top below rows → listed top.place ≡ [] → HasLast below q → top.row < length rows
end_open listed g ended bytes steps at top q below rows h bare last = (asks_end listed g ended bytes steps at top q below rows last h bare).reading.opened.0

pub frame_ends : (listed : ℕ → List Sym) (g : Table) (ended : Bool) (bytes : List ℕ) (steps at : ℕ) (top q : Frame) (below less : List Frame) (rows made : List Row) → IsFramed listed g ended bytes steps at top below rows → listed top.place ≡ [] → HasLast below q → less ≡ take (length below - 1) below → made ≡ closed rows top.row at (length rows) → IsFramed listed g ended bytes (steps + 1) at q less made
frame_ends listed g ended bytes steps at top q below less rows made h bare last is ends =
    let closes = step_close g ended bytes steps at top.row (unfolded listed q (reverse last.0)) rows (asks_end listed g ended bytes steps at top q below rows last h bare) in
    subst (λ fs. IsFramed listed g ended bytes (steps + 1) at q fs made) (sym (without_last below less last.0 q last.1 is)) (subst (λ rs. IsParse g ended bytes (steps + 1) at (unfolded listed q (reverse last.0)) rs) (sym ends) closes)

-- nothing is left to do once the lowest frame is read
pub all_done : (listed : ℕ → List Sym) (top : Frame) (below : List Frame) → listed top.place ≡ [] → below ≡ [] → unfolded listed top (reverse below) ≡ []
all_done listed top below bare none = ap (λ fs. unfolded listed top (reverse fs)) none ∙ ap entries_of bare

pub frame_byte : (listed : ℕ → List Sym) (g : Table) (ended : Bool) (bytes : List ℕ) (steps at b : ℕ) (top : Frame) (below : List Frame) (rows : List Row) → IsFramed listed g ended bytes steps at top below rows → HasNext listed top (Byte b) → at < length bytes → get_or bytes at 0 ≡ b → IsFramed listed g ended bytes (steps + 1) (at + 1) (passed top) below rows
frame_byte listed g ended bytes steps at b top below rows h next lt found =
    step_byte g ended bytes steps at b (unfolded listed (passed top) (reverse below)) rows lt found (asks listed g ended bytes steps at top below rows (Byte b) h next)

pub frame_empty : (listed : ℕ → List Sym) (g : Table) (lawful : IsLawful g) (ended : Bool) (bytes : List ℕ) (steps at k : ℕ) (top : Frame) (below : List Frame) (rows : List Row) → IsFramed listed g ended bytes steps at top below rows → HasNext listed top (Kind k) → g.may_be_empty k ≡ true → TakesNone g k ended (drop at bytes) → IsFramed listed g ended bytes (steps + 1) at (passed top) below rows
frame_empty listed g lawful ended bytes steps at k top below rows h next bare none =
    step_empty g lawful ended bytes steps at k (unfolded listed (passed top) (reverse below)) rows bare none (asks listed g ended bytes steps at top below rows (Kind k) h next)

some_begins : (xs : List Sym) → 0 < length xs → beginning xs ≡ 1
some_begins [] lt = absurd (omega arith)
some_begins (x ∷ xs) lt = refl

pub frame_rule : (listed : ℕ → List Sym) (g : Table) (lawful : IsLawful g) (ended : Bool) (bytes : List ℕ) (steps at k b slot after : ℕ) (rule : Rule) (top frame : Frame) (below deeper : List Frame) (rows made : List Row) → IsFramed listed g ended bytes steps at top below rows → HasNext listed top (Kind k) → at < length bytes → get_or bytes at 0 ≡ b → b < 256 → g.rule k b ≡ Some rule → listed slot ≡ symbols_of rule → after ≡ length (listed (top.place + 1)) → IsTaken rule slot after (passed top) at below rows frame deeper made → IsFramed listed g ended bytes (steps + 1) (place_behind rule at) frame deeper made
frame_rule listed g lawful ended bytes steps at k b slot after rule top frame below deeper rows made h next lt found byte chosen stands told (inl entered) =
    let under = unfolded listed (passed top) (reverse below) in
    let left : after ≡ symbols_left under = told ∙ sym (left_in listed (passed top) (reverse below)) in
    let row = ap (λ n. rows ++ open_row rule n at at 0 ∷ []) left in
    let read = step_rule g lawful ended bytes steps at k b 0 rule under rows (some_begins (symbols_of rule) entered.3) lt found byte chosen (asks listed g ended bytes steps at top below rows (Kind k) h next) in
    let frames : unfolded listed frame (reverse deeper) ≡ rule_stack under (length rows) rule =
    ap₂ (λ f fs. unfolded listed f (reverse fs)) entered.1 entered.0 ∙ ap (λ fs. unfolded listed (rule_frame slot (length rows)) fs) (reverse_last below (passed top)) ∙ ap (λ xs. entries_of xs ++ Close (length rows) ∷ under) stands in
    subst (λ rs. IsFramed listed g ended bytes (steps + 1) (place_behind rule at) frame deeper rs) (sym (entered.2 ∙ row)) (subst (λ es. IsParse g ended bytes (steps + 1) (place_behind rule at) es (rows ++ open_row rule (symbols_left under) at at 0 ∷ [])) (sym frames) read)
frame_rule listed g lawful ended bytes steps at k b slot after rule top frame below deeper rows made h next lt found byte chosen stands told (inr leaf) =
    let under = unfolded listed (passed top) (reverse below) in
    let place = place_behind rule at in
    let left : after ≡ symbols_left under = told ∙ sym (left_in listed (passed top) (reverse below)) in
    let row = ap (λ n. rows ++ open_row rule n at place (length rows + 1) ∷ []) left in
    let ended_row = rows ++ open_row rule (symbols_left under) at place (length rows + 1) ∷ [] in
    let none : symbols_of rule ≡ [] = ap (λ n. take n rule.symbols) leaf.0 in
    let whole = step_leaf g lawful ended bytes steps at k b rule under rows none lt found byte chosen (asks listed g ended bytes steps at top below rows (Kind k) h next) in
    subst (λ rs. IsFramed listed g ended bytes (steps + 1) place frame deeper rs) (sym (leaf.3 ∙ row)) (subst (λ f. IsFramed listed g ended bytes (steps + 1) place f deeper ended_row) (sym leaf.2) (subst (λ fs. IsFramed listed g ended bytes (steps + 1) place (passed top) fs ended_row) (sym leaf.1) whole))

pub frame_token : (listed : ℕ → List Sym) (g : Table) (lawful : IsLawful g) (ended : Bool) (bytes : List ℕ) (steps at after : ℕ) (x : Sym) (place : TokenPlace) (top : Frame) (below : List Frame) (rows made : List Row) → IsFramed listed g ended bytes steps at top below rows → HasNext listed top x → ReadsToken g.names x (drop at bytes) at place → IsKnown ended bytes place.end → after ≡ length (listed (top.place + 1)) → made ≡ rows ++ place_row after place (length rows) ∷ [] → IsFramed listed g ended bytes (steps + 1) place.end (passed top) below made
frame_token listed g lawful ended bytes steps at after x place top below rows made h next read known told is =
    let row = ap (λ n. rows ++ place_row n place (length rows) ∷ []) (told ∙ sym (left_in listed (passed top) (reverse below))) in
    subst (λ rs. IsFramed listed g ended bytes (steps + 1) place.end (passed top) below rs) (sym (is ∙ row)) (step_token g lawful ended bytes steps at x place (unfolded listed (passed top) (reverse below)) rows read known (asks listed g ended bytes steps at top below rows x h next))

one_more : (b : Bool) (at : ℕ) → cond b (at + 1) at ≤ at + 1
one_more true at = omega arith
one_more false at = omega arith

behind_within : (rule : Rule) (at size : ℕ) → at < size → place_behind rule at ≤ size
behind_within rule at size lt = omega (arith, one_more rule.eats at)

-- the only token of a rule is within the bytes
pub lone_within : (names : NameClass) (x : Sym) (rule : Rule) (ended : Bool) (bytes : List ℕ) (at : ℕ) (place : TokenPlace) → at < length bytes → IsWholeToken names x ended bytes (place_behind rule at) place → (place.from ≤ place.to) × (place.to ≤ place.end) × (place.end ≤ length bytes)
lone_within names x rule ended bytes at place lt whole =
    token_within names x bytes (place_behind rule at) place (behind_within rule at (length bytes) lt) whole.0

-- a rule whose only symbol is a token is taken, the token is read, and the row of the rule ends
pub frame_lone : (listed : ℕ → List Sym) (g : Table) (lawful : IsLawful g) (ended : Bool) (bytes : List ℕ) (steps at k b after : ℕ) (rule : Rule) (x : Sym) (place : TokenPlace) (top : Frame) (below : List Frame) (rows made : List Row) → IsFramed listed g ended bytes steps at top below rows → HasNext listed top (Kind k) → at < length bytes → get_or bytes at 0 ≡ b → b < 256 → g.rule k b ≡ Some rule → symbols_of rule ≡ x ∷ [] → IsWholeToken g.names x ended bytes (place_behind rule at) place → after ≡ length (listed (top.place + 1)) → made ≡ rows ++ lone_rows rule after at place (length rows) → IsFramed listed g ended bytes (steps + 3) place.end (passed top) below made
frame_lone listed g lawful ended bytes steps at k b after rule x place top below rows made h next lt found byte chosen lone whole told is =
    let under = unfolded listed (passed top) (reverse below) in
    let left : symbols_left under ≡ after = left_in listed (passed top) (reverse below) ∙ sym told in
    let number = length rows in
    let opened = rows ++ open_row rule (symbols_left under) at at 0 ∷ [] in
    let count : length opened ≡ number + 1 = length-append rows (open_row rule (symbols_left under) at at 0 ∷ []) in
    let token = place_row 0 place (length opened) in
    let taken = step_rule g lawful ended bytes steps at k b 0 rule under rows (ap beginning lone) lt found byte chosen (asks listed g ended bytes steps at top below rows (Kind k) h next) in
    let asked = subst (λ xs. IsParse g ended bytes (steps + 1) (place_behind rule at) (entries_of xs ++ Close number ∷ under) opened) lone taken in
    let read = step_token g lawful ended bytes (steps + 1) (place_behind rule at) x place (Close number ∷ under) opened whole.0 whole.1 asked in
    let closes = step_close g ended bytes (steps + 1 + 1) place.end number under (opened ++ token ∷ []) read in
    let size : length (opened ++ token ∷ []) ≡ number + 2 = omega (arith, length-append opened (token ∷ []), count) in
    let row : closed (opened ++ token ∷ []) number place.end (length (opened ++ token ∷ [])) ≡ rows ++ lone_rows rule after at place number =
    ap (λ rs. closed rs number place.end (length (opened ++ token ∷ []))) (append_assoc rows (open_row rule (symbols_left under) at at 0 ∷ []) (token ∷ []))
    ∙ closed_at rows (open_row rule (symbols_left under) at at 0) (token ∷ []) place.end (length (opened ++ token ∷ []))
    ∙ ap₂ (λ m n. rows ++ open_row rule (symbols_left under) at place.end m ∷ place_row 0 place n ∷ []) size count
    ∙ ap (λ n. rows ++ lone_rows rule n at place number) left in
    subst (λ n. IsFramed listed g ended bytes n place.end (passed top) below made) (omega arith) (subst (λ rs. IsFramed listed g ended bytes (steps + 1 + 1 + 1) place.end (passed top) below rs) (row ∙ sym is) closes)

-- refusals
pub frame_behind : (listed : ℕ → List Sym) (g : Table) (lawful : IsLawful g) (ended : Bool) (bytes : List ℕ) (steps at : ℕ) (top : Frame) (below : List Frame) (rows : List Row) → IsFramed listed g ended bytes steps at top below rows → listed top.place ≡ [] → below ≡ [] → at < length bytes → IsMalformed g bytes at
frame_behind listed g lawful ended bytes steps at top below rows h bare none lt =
    refuse_behind g lawful ended bytes steps at rows lt (subst (λ es. IsParse g ended bytes steps at es rows) (all_done listed top below bare none) h)

pub frame_byte_refused : (listed : ℕ → List Sym) (g : Table) (lawful : IsLawful g) (ended : Bool) (bytes : List ℕ) (steps at b : ℕ) (top : Frame) (below : List Frame) (rows : List Row) → IsFramed listed g ended bytes steps at top below rows → HasNext listed top (Byte b) → IsKnown ended bytes at → (at < length bytes → get_or bytes at 0 ≡ b → ⊥) → IsMalformed g bytes at
frame_byte_refused listed g lawful ended bytes steps at b top below rows h next known other =
    refuse_byte g lawful ended bytes steps at b (unfolded listed (passed top) (reverse below)) rows known other (asks listed g ended bytes steps at top below rows (Byte b) h next)

pub frame_kind_refused : (listed : ℕ → List Sym) (g : Table) (lawful : IsLawful g) (ended : Bool) (bytes : List ℕ) (steps at k : ℕ) (top : Frame) (below : List Frame) (rows : List Row) → IsFramed listed g ended bytes steps at top below rows → HasNext listed top (Kind k) → TakesNone g k ended (drop at bytes) → g.may_be_empty k ≡ false → IsMalformed g bytes at
frame_kind_refused listed g lawful ended bytes steps at k top below rows h next none full =
    refuse_kind g lawful ended bytes steps at k (unfolded listed (passed top) (reverse below)) rows none full (asks listed g ended bytes steps at top below rows (Kind k) h next)

pub frame_token_refused : (listed : ℕ → List Sym) (g : Table) (lawful : IsLawful g) (ended : Bool) (bytes : List ℕ) (steps at bad : ℕ) (x : Sym) (top : Frame) (below : List Frame) (rows : List Row) → IsFramed listed g ended bytes steps at top below rows → HasNext listed top x → at ≤ bad → BreaksToken g.names x (drop at bytes) (bad - at) → IsKnown ended bytes bad → IsMalformed g bytes bad
frame_token_refused listed g lawful ended bytes steps at bad x top below rows h next le breaks known =
    refuse_token g lawful ended bytes steps at bad x (unfolded listed (passed top) (reverse below)) rows le breaks known (asks listed g ended bytes steps at top below rows x h next)

-- bytes that begin a token
pub frame_found : (listed : ℕ → List Sym) (g : Table) (lawful : IsLawful g) (ended : Bool) (bytes : List ℕ) (steps at : ℕ) (x : Sym) (place : TokenPlace) (top : Frame) (below : List Frame) (rows : List Row) → IsFramed listed g ended bytes steps at top below rows → HasNext listed top x → ReadsToken g.names x (drop at bytes) at place → length bytes ≤ place.end → BeginsWellShaped g bytes
frame_found listed g lawful ended bytes steps at x place top below rows h next read le =
    found_waits g lawful ended bytes steps at x place (unfolded listed (passed top) (reverse below)) rows (asks listed g ended bytes steps at top below rows x h next) read le

pub frame_broken : (listed : ℕ → List Sym) (g : Table) (lawful : IsLawful g) (ended : Bool) (bytes : List ℕ) (steps at bad : ℕ) (x : Sym) (top : Frame) (below : List Frame) (rows : List Row) → IsFramed listed g ended bytes steps at top below rows → HasNext listed top x → at ≤ bad → BreaksToken g.names x (drop at bytes) (bad - at) → length bytes ≤ bad → BeginsWellShaped g bytes
frame_broken listed g lawful ended bytes steps at bad x top below rows h next from breaks le =
    broken_waits g lawful ended bytes steps at bad x (unfolded listed (passed top) (reverse below)) rows (asks listed g ended bytes steps at top below rows x h next) from breaks le

-- the expected kind is one of the grammar
pub next_kind : (listed : ℕ → List Sym) (g : Table) (ended : Bool) (bytes : List ℕ) (steps at k : ℕ) (top : Frame) (below : List Frame) (rows : List Row) → IsFramed listed g ended bytes steps at top below rows → HasNext listed top (Kind k) → k < g.kinds
next_kind listed g ended bytes steps at k top below rows h next = (asks listed g ended bytes steps at top below rows (Kind k) h next).reading.known.0
