-- A driver that takes a row or closes a rule stays on its way.
use Rattle.sym_link.proofs.Basics.{◌≡◌, sym, ◌∙◌, ap, subst, arith, ℕ, ◌+◌, ◌≤◌, List, [], ◌∷◌, ◌++◌, length, take, drop, Ok, add-zero, append_assoc, length-append, length-drop, Result, Refusal, Row, row_count_all, Frame, Found, ◌>>=◌, Stands, AreAll, Fails, View, IsLinking, IsInside, owed_behind, Gives, owed, Due, waiting, IsDue, CountsClose, HoldsAll, left_from, Nests, IsEarly, IsLight, Follows}
use Rattle.sym_core.specs.declared.refusal.Refusal.TheVariants as refusals
use Rattle.sym_link.specs.Machine as machine
use Rattle.sym_link.proofs.Cases.{as_many}
use Rattle.sym_link.proofs.Closing.{ended_outcome}
use Rattle.sym_link.proofs.Lists.{all_push, all_stay, snoc_last, snoc_front, no_last, dropped_front, taken_front}
use Rattle.sym_link.proofs.Standing.{no_rows}
use Rattle.sym_link.proofs.Stepping.{close_due}

-- ## Frames and parts

pub holds_stays : {N P K V S C : Type 0} (view : View N P K V S C) (s : List ℕ) (old new : N) → IsLinking view → view.Grows old new
    → (frames : List (machine.Frame V S C)) (known : List V) (awaited row : ℕ) (codes : List (Frame K)) (parts : List P)
    → HoldsAll view s old frames known awaited row codes parts → HoldsAll view s new frames known awaited row codes parts
holds_stays view s old new laws grows [] known awaited row codes parts (none, are) =
    (none, all_stay (view.IsPart new) (view.IsPart old) parts known (λ p v is. laws.part_stays old new p v grows is) are)
holds_stays view s old new laws grows (top ∷ frames) known awaited row codes parts (one, holds) = (
  record {
    lower = one.lower;
    code = one.code;
    below = one.below;
    own = one.own;
    codes_are = one.codes_are;
    parts_are = one.parts_are;
    number = one.number;
    place = one.place;
    kept = laws.kept_stays old new one.code.kept top.rule grows one.kept;
    end = one.end;
    base = one.base;
    are = all_stay (view.IsPart new) (view.IsPart old) one.own known (λ p v is. laws.part_stays old new p v grows is) one.are;
    stands = one.stands;
  },
  holds_stays view s old new laws grows frames top.outer 1 (row + row_count_all top.left) one.lower one.below holds,
)

-- the awaited value is known: it comes after the other values, and its part after the other parts
pub holds_push : {N P K V S C : Type 0} (view : View N P K V S C) (s : List ℕ) (nodes : N)
    (frames : List (machine.Frame V S C)) (known : List V) (row : ℕ) (codes : List (Frame K)) (parts : List P) (part : P) (value : V)
    → HoldsAll view s nodes frames known 1 row codes parts → view.IsPart nodes part value
    → HoldsAll view s nodes frames (known ++ value ∷ []) 0 row codes (parts ++ part ∷ [])
holds_push view s nodes [] known row codes parts part value (none, are) is = (none, all_push (view.IsPart nodes) parts known part value are is)
holds_push view s nodes (top ∷ frames) known row codes parts part value (one, holds) is =
    let count : length known + 1 ≡ length (known ++ value ∷ []) + 0 = omega (arith, length-append known (value ∷ [])) in (
      record {
        lower = one.lower;
        code = one.code;
        below = one.below;
        own = one.own ++ part ∷ [];
        codes_are = one.codes_are;
        parts_are = ap (λ xs. xs ++ part ∷ []) one.parts_are ∙ append_assoc one.below one.own (part ∷ []);
        number = one.number;
        place = one.place;
        kept = one.kept;
        end = one.end;
        base = one.base;
        are = all_push (view.IsPart nodes) one.own known part value one.are is;
        stands = subst (λ k. Stands view.table s (length view.reading.rowless) top.rule k top.from top.left) count one.stands;
      },
      holds,
    )

-- ## The innermost rule

-- What is known of the innermost rule: its frame is the last one, and its parts are those from the frame's base on.
pub record Innermost {N P K V S C : Type 0} (view : View N P K V S C) (s : List ℕ) (shape : List Row) (whole : Result (Found (List V) S) Refusal) (due : Due)
    (nodes : N) (next : ℕ) (lower : List (Frame K)) (code : Frame K) (parts : List P) : Type 0 where
  pub top : machine.Frame V S C
  pub frames : List (machine.Frame V S C)
  pub known : List V
  pub state : S
  pub coming : machine.outcome_of view.reading (top ∷ frames) known state ≡ whole
  pub rows : drop next shape ≡ machine.pending (top ∷ frames) next
  pub within : next ≤ length shape
  pub inside : IsInside view s nodes code (drop code.base parts) top.rule known top.from top.left state
  pub base : code.base ≤ length parts
  pub end : code.end ≡ next + row_count_all top.left
  pub holds : HoldsAll view s nodes frames top.outer 1 (next + row_count_all top.left) lower (take code.base parts)
  pub nests : Nests (length s) (top ∷ frames)
  pub size : view.size nodes + owed view.owes (top ∷ frames) (length known) ≤ view.most (length s)
  pub owes : owed_behind view code parts ≡ view.owes top.rule.rule.number (length known)
  pub reached : ℕ
  pub before : reached ≤ top.from
  pub early : length known ≡ 0 → reached ≤ top.rule.place
  pub is_due : IsDue due (top ∷ frames)
  pub light : IsLight view nodes due (top ∷ frames) known
  pub paid : view.IsPaid nodes reached

innermost_on : {N P K V S C : Type 0} (view : View N P K V S C) (s : List ℕ) (shape : List Row) (whole : Result (Found (List V) S) Refusal) (due : Due)
    (nodes : N) (next : ℕ) (codes lower : List (Frame K)) (code : Frame K) (parts : List P)
    (frames : List (machine.Frame V S C)) (known : List V) (state : S) (reached : ℕ)
    → machine.outcome_of view.reading frames known state ≡ whole → drop next shape ≡ machine.pending frames next → next ≤ length shape
    → HoldsAll view s nodes frames known 0 next codes parts → view.Holds nodes state → Nests (length s) frames
    → view.size nodes + owed view.owes frames (length known) ≤ view.most (length s)
    → reached ≤ left_from (length s) frames → IsEarly reached frames known → IsDue due frames → IsLight view nodes due frames known → view.IsPaid nodes reached
    → codes ≡ lower ++ code ∷ [] → Innermost view s shape whole due nodes next lower code parts
innermost_on view s shape whole due nodes next codes lower code parts [] known state reached coming rows within (none, are) keeps nests size before early is_due light paid ends =
    absurd (no_last lower code (sym none ∙ ends))
innermost_on view s shape whole due nodes next codes lower code parts (top ∷ frames) known state reached coming rows within (one, holds) keeps nests size before early is_due light paid ends =
    let same : one.code ≡ code = snoc_last one.lower lower one.code code (sym one.codes_are ∙ ends) in
    let same_lower : one.lower ≡ lower = snoc_front one.lower lower one.code code (sym one.codes_are ∙ ends) in
    let base_is : code.base ≡ length one.below = ap (λ f. f.base) (sym same) ∙ one.base in
    let front : take code.base parts ≡ one.below = rw (base_is, one.parts_are) (taken_front one.below one.own) in
    let back : drop code.base parts ≡ one.own = rw (base_is, one.parts_are) (dropped_front one.below one.own) in
    record {
      top = top;
      frames = frames;
      known = known;
      state = state;
      coming = coming;
      rows = rows;
      within = within;
      inside = record {
        number = ap (λ f. f.rule) (sym same) ∙ one.number;
        place = ap (λ f. f.place) (sym same) ∙ one.place;
        kept = subst (λ f. view.IsKept nodes f.kept top.rule) same one.kept;
        parts = subst (λ ps. AreAll (view.IsPart nodes) ps known) (sym back) one.are;
        holds = keeps;
        stands = subst (λ k. Stands view.table s (length view.reading.rowless) top.rule k top.from top.left) (add-zero (length known)) one.stands;
      };
      base = omega (arith, base_is, ap (λ ps. length ps) one.parts_are, length-append one.below one.own);
      end = ap (λ f. f.end) (sym same) ∙ one.end;
      holds = subst (λ ps. HoldsAll view s nodes frames top.outer 1 (next + row_count_all top.left) lower ps) (sym front)
          (subst (λ fs. HoldsAll view s nodes frames top.outer 1 (next + row_count_all top.left) fs one.below) same_lower holds);
      nests = nests;
      size = size;
      owes = rw (ap (λ f. f.rule) (sym same) ∙ one.number)
          (ap (λ k. view.owes top.rule.rule.number k)
          (sym (length-drop code.base parts) ∙ ap (λ ps. length ps) back ∙ as_many (view.IsPart nodes) one.own known one.are));
      reached = reached;
      before = before;
      early = early;
      is_due = is_due;
      light = light;
      paid = paid;
    }

pub innermost : {N P K V S C : Type 0} (view : View N P K V S C) (s : List ℕ) (shape : List Row) (whole : Result (Found (List V) S) Refusal) (due : Due)
    (nodes : N) (next : ℕ) (codes lower : List (Frame K)) (code : Frame K) (parts : List P)
    → Follows view s shape whole due nodes next codes parts → codes ≡ lower ++ code ∷ [] → Innermost view s shape whole due nodes next lower code parts
innermost view s shape whole due nodes next codes lower code parts f ends =
    innermost_on view s shape whole due nodes next codes lower code parts f.frames f.known f.state f.reached f.coming f.rows f.within f.holds f.keeps f.nests f.size f.before f.early f.is_due f.light f.paid ends

-- ## A rule closes

-- the result of the whole when the innermost rule has no rows left
pub close_outcome : {N P K V S C : Type 0} (view : View N P K V S C) (s : List ℕ) (shape : List Row) (whole : Result (Found (List V) S) Refusal) (due : Due)
    (nodes : N) (next : ℕ) (lower : List (Frame K)) (code : Frame K) (parts : List P) (i : Innermost view s shape whole due nodes next lower code parts)
    → row_count_all i.top.left ≡ 0
    → (machine.ended view.reading i.top.rule i.known i.top.from i.top.left i.state >>= λ w. machine.outcome_of view.reading i.frames (i.top.outer ++ w.value ∷ []) w.state) ≡ whole
close_outcome view s shape whole due nodes next lower code parts i none =
    ended_outcome view.reading i.top i.frames i.known i.state none ∙ i.coming

early_push : {V S C : Type 0} (reached : ℕ) (frames : List (machine.Frame V S C)) (known : List V) (value : V) → IsEarly reached frames (known ++ value ∷ [])
early_push reached [] known value = tt
early_push reached (top ∷ frames) known value = λ none. absurd (omega (arith, none, length-append known (value ∷ [])))

-- A driver that closes its innermost rule after that rule's last row stays on its way.
pub close_follows : {N P K V S C : Type 0} (view : View N P K V S C) (s : List ℕ) (shape : List Row) (whole : Result (Found (List V) S) Refusal) (due : Due)
    (old new : N) (next : ℕ) (lower : List (Frame K)) (code : Frame K) (parts : List P) (part : P) → IsLinking view → view.Grows old new
    → (i : Innermost view s shape whole due old next lower code parts) → row_count_all i.top.left ≡ 0
    → Gives view new (Ok part) (machine.ended view.reading i.top.rule i.known i.top.from i.top.left i.state)
    → view.size new + 0 ≤ view.size old + owed_behind view code parts → view.IsPaid new i.reached → (left : ℕ) → CountsClose due left
    → Follows view s shape whole (waiting left) new next lower (take code.base parts ++ part ∷ [])
close_follows view s shape whole due old new next lower code parts part laws grows i none (value, state, read, is_part, holds) added paid left counts =
    let row_is : next + row_count_all i.top.left ≡ next = omega (arith, none) in
    record {
      frames = i.frames;
      known = i.top.outer ++ value ∷ [];
      state = state;
      coming = rw read at (close_outcome view s shape whole due old next lower code parts i none);
      rows = i.rows ∙ ap (λ rs. rs ++ machine.pending i.frames (next + row_count_all i.top.left)) (no_rows i.top.left i.top.from next none)
          ∙ ap (λ n. machine.pending i.frames n) row_is;
      within = i.within;
      holds = holds_push view s new i.frames i.top.outer next lower (take code.base parts) part value
          (holds_stays view s old new laws grows i.frames i.top.outer 1 next lower (take code.base parts)
          (subst (λ n. HoldsAll view s old i.frames i.top.outer 1 n lower (take code.base parts)) row_is i.holds)) is_part;
      keeps = holds;
      nests = i.nests.1;
      size = omega (
        arith,
        i.size,
        i.owes,
        added,
        ap (λ k. owed view.owes i.frames k) (length-append i.top.outer (value ∷ [])),
      );
      reached = i.reached;
      before = omega (arith, i.before, i.nests.0);
      early = early_push i.reached i.frames i.top.outer value;
      is_due = close_due due i.top i.frames left i.is_due none counts;
      light = tt;
      paid = paid;
    }

-- the refusal of a part is the refusal of the whole
pub fails_carried : {A B : Type 0} (e : Refusal) (read : Result A Refusal) (k : A → Result B Refusal) (whole : Result B Refusal)
    → Fails e read → (read >>= k) ≡ whole → Fails e whole
fails_carried (refusals.Malformed at) read k whole fails coming = sym (rw fails at coming)
fails_carried (refusals.BadReference at) read k whole fails coming = sym (rw fails at coming)
fails_carried (refusals.BadValue at) read k whole fails coming = sym (rw fails at coming)
fails_carried refusals.TooLong read k whole fails coming = sym (rw fails at coming)
fails_carried refusals.Memory read k whole fails coming = tt

-- Where the innermost rule is refused, so is the whole.
pub close_fails : {N P K V S C : Type 0} (view : View N P K V S C) (s : List ℕ) (shape : List Row) (whole : Result (Found (List V) S) Refusal) (due : Due)
    (nodes : N) (next : ℕ) (lower : List (Frame K)) (code : Frame K) (parts : List P) (e : Refusal)
    → (i : Innermost view s shape whole due nodes next lower code parts) → row_count_all i.top.left ≡ 0
    → Fails e (machine.ended view.reading i.top.rule i.known i.top.from i.top.left i.state) → Fails e whole
close_fails view s shape whole due nodes next lower code parts e i none fails =
    fails_carried e (machine.ended view.reading i.top.rule i.known i.top.from i.top.left i.state)
    (λ w. machine.outcome_of view.reading i.frames (i.top.outer ++ w.value ∷ []) w.state) whole fails
    (close_outcome view s shape whole due nodes next lower code parts i none)
