-- A driver that takes the next row stays on its way.
use Rattle.sym_link.proofs.Basics.{◌≡◌, refl, sym, ◌∙◌, ap, subst, arith, true, ℕ, zero, suc, ◌+◌, ◌-◌, ◌<◌, ◌≤◌, List, [], ◌∷◌, ◌++◌, length, take, drop, Ok, add-one, append_assoc, append-nil, length-append, Result, slice_index_or, IfOk, length-take-le, Refusal, Row, Rule, Table, Token, bytes_of, Forest, branch, token, grown, spell, spell_all, row_count_all, rows_of_all, tree_count, Frame, Found, Open, ◌>>=◌, found, skipped, passed_by, skipped_from, values_in, Stands, AreAll, Fails, View, IsLinking, IsRuleRow, IsTokenRow, AddTwo, owed_behind, owed_next, next_of, begun, taken_in, Begins, Takes, cost_all, closes_at_once, Due, waiting, starting, CountsToken, HoldsAll, Follows}
use Rattle.sym_link.specs.Machine as machine
use Rattle.sym_link.proofs.Opening.{machine_in, entering_outcome, machine_at, token_outcome, BeginsBehind, begun_count, taken_count}
use Rattle.sym_link.proofs.Standing.{skip_split, skip_from, skip_rows, skip_count, skip_cost, joined_spell, stands_skip, stands_take, stands_left, stands_inner, token_own}
use Rattle.sym_link.proofs.Cases.{as_many}
use Rattle.sym_link.proofs.Stepping.{token_due, enter_due}
use Rattle.sym_link.proofs.Following.{Innermost, holds_stays, fails_carried}

pub dropped_one : {A : Type 0} (xs more : List A) (n : ℕ) (x d : A) → drop n xs ≡ x ∷ more → (drop (n + 1) xs ≡ more) × (n < length xs) × (slice_index_or xs n d ≡ x)
dropped_one xs more n x d h = rw add-one (dropped xs more n x d h)
  where
    dropped : {A : Type 0} (xs more : List A) (n : ℕ) (x d : A) → drop n xs ≡ x ∷ more → (drop (suc n) xs ≡ more) × (n < length xs) × (slice_index_or xs n d ≡ x)
    dropped [] more zero x d h = cc
    dropped [] more (suc n) x d h = cc
    dropped (y ∷ xs) more zero x d h = (cc, omega arith, cc)
    dropped (y ∷ xs) more (suc n) x d h = let is = dropped xs more n x d h in (is.0, omega (arith, is.1), is.2)

pub dropped_next : {A : Type 0} (xs more : List A) (n : ℕ) (x : A) → drop n xs ≡ x ∷ more → (drop (n + 1) xs ≡ more) × (n < length xs)
dropped_next xs more n x h = let is = dropped_one xs more n x x h in (is.0, is.1)

-- what holds of the value, if there is one, holds of this value
pub of_ok : {A : Type 0} (m : Result A Refusal) (x : A) (P : A → Type 0) → m ≡ Ok x → IfOk m P → P x
of_ok m x P is p = subst (λ r. IfOk r P) is p

-- skipping the parts without a row leaves the remaining rows as they are
skipped_rows : {V S C : Type 0} (top : machine.Frame V S C) (frames : List (machine.Frame V S C)) (next : ℕ) (left : Forest) → skipped top.left ≡ left
    → machine.pending (top ∷ frames) next ≡ machine.pending (machine.frame top.rule (skipped_from top.from top.left) left top.outer ∷ frames) next
skipped_rows top frames next left left_is =
    let rows : rows_of_all left (skipped_from top.from top.left) next ≡ rows_of_all top.left top.from next =
    subst (λ f. rows_of_all f (skipped_from top.from top.left) next ≡ rows_of_all top.left top.from next) left_is (skip_rows top.left top.from next) in
    let count : row_count_all left ≡ row_count_all top.left = ap row_count_all (sym left_is) ∙ skip_count top.left in
    rw (rows, count) refl

skipped_end : (from : ℕ) (left next : Forest) → skipped left ≡ next → skipped_from from left + length (spell_all next) ≡ from + length (spell_all left)
skipped_end from left next is =
    omega (
      arith,
      skip_from from left,
      ap (λ f. length (spell_all f)) (skip_split left),
      ap (λ x. length x) (joined_spell (passed_by left) (skipped left)),
      length-append (spell_all (passed_by left)) (spell_all (skipped left)),
      ap (λ f. length (spell_all f)) is,
    )

rule_pending : {V S C : Type 0} (top : machine.Frame V S C) (frames : List (machine.Frame V S C)) (from number : ℕ) (rule : Rule) (taken : List ℕ) (parts rest : Forest)
    → machine.pending (machine.frame top.rule from (grown (branch rule taken parts) rest) top.outer ∷ frames) number
    ≡ record { rule = rule.number; after = tree_count rest; from = from; to = from + length (taken ++ spell_all parts); end = number + 1 + row_count_all parts }
    ∷ (rows_of_all parts (from + length taken) (number + 1)
    ++ machine.pending (machine.frame top.rule (from + length (taken ++ spell_all parts)) rest top.outer ∷ frames) (number + 1 + row_count_all parts))
rule_pending top frames from number rule taken parts rest =
    let first : number + (1 + row_count_all parts) ≡ number + 1 + row_count_all parts = omega arith in
    let second : number + (1 + row_count_all parts + row_count_all rest) ≡ number + 1 + row_count_all parts + row_count_all rest = omega arith in
    rw (first, second) (append_assoc (_ ∷ rows_of_all parts (from + length taken) (number + 1)) _ _)

token_pending : {V S C : Type 0} (top : machine.Frame V S C) (frames : List (machine.Frame V S C)) (from number : ℕ) (t : Token) (rest : Forest)
    → machine.pending (machine.frame top.rule from (grown (token t) rest) top.outer ∷ frames) number
    ≡ record { rule = 65535; after = tree_count rest; from = from + length t.before; to = from + length t.before + length t.own; end = number + 1 }
    ∷ machine.pending (machine.frame top.rule (from + length (bytes_of t)) rest top.outer ∷ frames) (number + 1)
token_pending top frames from number t rest =
    let second : number + (1 + row_count_all rest) ≡ number + 1 + row_count_all rest = omega arith in
    rw second refl

-- as many parts follow the base as there are values
own_count : {P V : Type 0} (Is : P → V → Type 0) (parts new_parts own : List P) (values : List V) (base : ℕ) → base ≤ length parts
    → new_parts ≡ take base parts ++ own → AreAll Is own values → length new_parts - base ≡ length values
own_count Is parts new_parts own values base within are_parts are =
    omega (
      arith,
      ap (λ ps. length ps) are_parts,
      length-append (take base parts) own,
      length-take-le base parts within,
      as_many Is own values are,
    )

-- ## A rule begins

-- the row of a rule that comes next
pub the_rule_row : {N P K V S C : Type 0} (view : View N P K V S C) (s : List ℕ) (shape : List Row) (whole : Result (Found (List V) S) Refusal) (due : Due)
    (nodes : N) (next : ℕ) (lower : List (Frame K)) (code : Frame K) (parts : List P) (i : Innermost view s shape whole due nodes next lower code parts)
    (rule : Rule) (taken : List ℕ) (inner rest : Forest) → skipped i.top.left ≡ grown (branch rule taken inner) rest
    → drop next shape ≡ record {
      rule = rule.number;
      after = tree_count rest;
      from = skipped_from i.top.from i.top.left;
      to = skipped_from i.top.from i.top.left + length (taken ++ spell_all inner);
      end = next + 1 + row_count_all inner;
    }
    ∷ (rows_of_all inner (skipped_from i.top.from i.top.left + length taken) (next + 1)
    ++ machine.pending (machine.frame i.top.rule (skipped_from i.top.from i.top.left + length (taken ++ spell_all inner)) rest i.top.outer ∷ i.frames) (next + 1 + row_count_all inner))
the_rule_row view s shape whole due nodes next lower code parts i rule taken inner rest left_is =
    let place = skipped_from i.top.from i.top.left in
    i.rows ∙ skipped_rows i.top i.frames next (grown (branch rule taken inner) rest) left_is
    ∙ rule_pending i.top i.frames place next rule taken inner rest

-- what the row at this number says
pub rule_row_is : (shape : List Row) (next after place : ℕ) (rule : Rule) (taken : List ℕ) (inner : Forest) (more : List Row) (row d : Row)
    → drop next shape ≡ record { rule = rule.number; after = after; from = place; to = place + length (taken ++ spell_all inner); end = next + 1 + row_count_all inner }
    ∷ (rows_of_all inner (place + length taken) (next + 1) ++ more)
    → row ≡ slice_index_or shape next d → IsRuleRow shape row rule taken inner place
rule_row_is shape next after place rule taken inner more row d rows row_is =
    let here = dropped_one shape _ next _ d rows in
    let is = row_is ∙ here.2 in
    record {
      number = next;
      more = more;
      rows_are = rows ∙ ap (λ r. r ∷ (rows_of_all inner (place + length taken) (next + 1) ++ more)) (sym is);
      rule_is = ap (λ r. r.rule) is;
      from = ap (λ r. r.from) is;
      to = ap (λ r. r.to) is;
      end = ap (λ r. r.end) is;
    }

-- A driver in which a rule begins stays on its way.
pub enter_follows : {N P K V S C : Type 0} (view : View N P K V S C) (s : List ℕ) (shape : List Row) (whole : Result (Found (List V) S) Refusal) (left : ℕ)
    (old new : N) (next : ℕ) (lower : List (Frame K)) (code opened : Frame K) (parts new_parts : List P) → IsLinking view → view.Grows old new
    → (i : Innermost view s shape whole (waiting (left + 1)) old next lower code parts) (rule : Rule) (taken : List ℕ) (inner rest : Forest)
    → skipped i.top.left ≡ grown (branch rule taken inner) rest
    → opened.rule ≡ rule.number → opened.place ≡ skipped_from i.top.from i.top.left → opened.end ≡ next + 1 + row_count_all inner → opened.base ≡ length new_parts
    → Begins view new (take code.base parts) new_parts (Ok opened.kept)
    (next_of view.reading i.top.rule i.known i.top.from i.top.left i.state >>= begun view.reading rule taken (skipped_from i.top.from i.top.left) inner)
    → view.size new + owed_next view code new_parts ≤ view.size old + owed_behind view code parts → view.IsPaid new (skipped_from i.top.from i.top.left)
    → Follows view s shape whole (starting left (view.size old + 2)) new (next + 1) ((lower ++ code ∷ []) ++ opened ∷ []) new_parts
enter_follows view s shape whole left old new next lower code opened parts new_parts laws grows i rule taken inner rest left_is number place_is end base
    (b, read, is_kept, holds, own, parts_are, are) added paid =
    let n = length view.reading.rowless in
    let place = skipped_from i.top.from i.top.left in
    let behind = place + length (taken ++ spell_all inner) in
    let reading = next_of view.reading i.top.rule i.known i.top.from i.top.left i.state >>= begun view.reading rule taken place inner in
    let count = of_ok reading b (BeginsBehind view.reading i.known i.top.left rule taken place) read (begun_count view.reading laws.keeps_count i.top.rule i.known i.top.from i.top.left i.state rule taken place inner) in
    let row = dropped_next shape _ next _ (the_rule_row view s shape whole (waiting (left + 1)) old next lower code parts i rule taken inner rest left_is) in
    let left_count : row_count_all i.top.left ≡ 1 + row_count_all inner + row_count_all rest = sym (skip_count i.top.left) ∙ ap row_count_all left_is in
    let owed_is : owed_next view code new_parts ≡ view.owes i.top.rule.rule.number (length b.values + 1) =
    ap (λ n. view.owes n (length new_parts - code.base + 1)) i.inside.number
    ∙ ap (λ k. view.owes i.top.rule.rule.number (k + 1)) (own_count (view.IsPart new) parts new_parts own b.values code.base i.base parts_are are) in
    let number_is : b.rule.rule.number ≡ rule.number = ap (λ r. r.rule.number) count.1.2 in
    let behind_is : view.owes i.top.rule.rule.number (length b.values + 1) ≡ view.owes i.top.rule.rule.number (length i.known + values_in n (passed_by i.top.left) + 1) =
    ap (λ k. view.owes i.top.rule.rule.number (k + 1)) count.0 in
    let two_at_once : closes_at_once inner ≡ true
    → AddTwo view (view.owes i.top.rule.rule.number (length i.known)) (view.owes i.top.rule.rule.number (length i.known + values_in n (passed_by i.top.left) + 1)) rule.number inner =
    laws.two_at_once s i.top.rule (length i.known) i.top.from i.top.left rule taken inner rest i.inside.stands left_is in
    let skip : Stands view.table s n i.top.rule (length i.known + values_in n (passed_by i.top.left)) place (grown (branch rule taken inner) rest) =
    subst (λ f. Stands view.table s n i.top.rule (length i.known + values_in n (passed_by i.top.left)) place f) left_is
    (stands_skip view.table s n i.top.rule (length i.known) i.top.from i.top.left i.inside.stands) in
    record {
      frames = machine.frame b.rule (place + length taken) inner b.values ∷ machine.frame i.top.rule behind rest i.top.outer ∷ i.frames;
      known = [];
      state = b.state;
      coming = rw read at (entering_outcome view.reading i.top i.frames i.known i.state rule taken inner rest left_is) ∙ i.coming;
      rows = row.0;
      within = omega (arith, row.1);
      holds = (
        record {
          lower = lower ++ code ∷ [];
          code = opened;
          below = new_parts;
          own = [];
          codes_are = refl;
          parts_are = sym (append-nil new_parts);
          number = number ∙ ap (λ r. r.rule.number) (sym count.1.2);
          place = place_is ∙ ap (λ r. r.place) (sym count.1.2);
          kept = is_kept;
          end = end;
          base = base;
          are = tt;
          stands = subst (λ r. Stands view.table s n r 0 (place + length taken) inner) (sym count.1.2)
              (stands_inner view.table s n i.top.rule (length i.known + values_in n (passed_by i.top.left)) place rule taken inner rest count.1.0 count.1.1 laws.sound skip);
        },
        (
          record {
            lower = lower;
            code = code;
            below = take code.base parts;
            own = own;
            codes_are = refl;
            parts_are = parts_are;
            number = i.inside.number;
            place = i.inside.place;
            kept = laws.kept_stays old new code.kept i.top.rule grows i.inside.kept;
            end = omega (arith, i.end, left_count);
            base = sym (length-take-le code.base parts i.base);
            are = are;
            stands = subst (λ k. Stands view.table s n i.top.rule (k + 1) behind rest) (sym count.0)
                (stands_take view.table s n i.top.rule (length i.known + values_in n (passed_by i.top.left)) place (branch rule taken inner) rest skip refl);
          },
          holds_stays view s old new laws grows i.frames i.top.outer 1 (next + 1 + row_count_all inner + row_count_all rest) lower (take code.base parts)
              (subst (λ k. HoldsAll view s old i.frames i.top.outer 1 k lower (take code.base parts)) (omega (arith, left_count)) i.holds),
        ),
      );
      keeps = holds;
      nests = (
        omega (arith, length-append taken (spell_all inner)),
        (
          omega (
            arith,
            skipped_end i.top.from i.top.left (grown (branch rule taken inner) rest) left_is,
            length-append (taken ++ spell_all inner) (spell_all rest),
            i.nests.0,
          ),
          i.nests.1,
        ),
      );
      size = omega (
        arith,
        i.size,
        i.owes,
        added,
        sym (skip_cost view.owes i.top.left) ∙ ap (λ f. cost_all view.owes f) left_is,
        ap (λ r. view.owes r.rule.number 0) count.1.2,
        owed_is,
      );
      is_due = enter_due i.top i.frames left rule taken inner rest i.is_due left_is;
      light = record {
        none_known = refl;
        size = omega (arith, added, i.owes, laws.two i.top.rule.rule.number (length i.known));
        closed = λ at_once own counted. rw number_is (omega (arith, (two_at_once at_once).closed own counted, added, i.owes, owed_is, behind_is));
        refused = λ at_once. rw number_is (omega (arith, (two_at_once at_once).refused, added, i.owes, owed_is, behind_is));
      };
      reached = place;
      before = omega arith;
      early = λ none. omega (arith, ap (λ r. r.place) count.1.2);
      paid = paid;
    }

pub enter_fails : {N P K V S C : Type 0} (view : View N P K V S C) (s : List ℕ) (shape : List Row) (whole : Result (Found (List V) S) Refusal) (due : Due)
    (nodes : N) (next : ℕ) (lower : List (Frame K)) (code : Frame K) (parts : List P) (e : Refusal)
    → (i : Innermost view s shape whole due nodes next lower code parts) (rule : Rule) (taken : List ℕ) (inner rest : Forest)
    → skipped i.top.left ≡ grown (branch rule taken inner) rest
    → Fails e (next_of view.reading i.top.rule i.known i.top.from i.top.left i.state >>= begun view.reading rule taken (skipped_from i.top.from i.top.left) inner)
    → Fails e whole
enter_fails view s shape whole due nodes next lower code parts e i rule taken inner rest left_is fails =
    let place = skipped_from i.top.from i.top.left in
    fails_carried e (next_of view.reading i.top.rule i.known i.top.from i.top.left i.state >>= begun view.reading rule taken place inner)
    (λ b. machine.outcome view.reading (machine_in i.top i.frames (place + length taken) (place + length (spell (branch rule taken inner))) inner rest b)) whole fails
    (entering_outcome view.reading i.top i.frames i.known i.state rule taken inner rest left_is ∙ i.coming)

-- ## A token is taken

-- the row of a token that comes next
pub the_token_row : {N P K V S C : Type 0} (view : View N P K V S C) (s : List ℕ) (shape : List Row) (whole : Result (Found (List V) S) Refusal) (due : Due)
    (nodes : N) (next : ℕ) (lower : List (Frame K)) (code : Frame K) (parts : List P) (i : Innermost view s shape whole due nodes next lower code parts)
    (t : Token) (rest : Forest) → skipped i.top.left ≡ grown (token t) rest
    → drop next shape ≡ record {
      rule = 65535;
      after = tree_count rest;
      from = skipped_from i.top.from i.top.left + length t.before;
      to = skipped_from i.top.from i.top.left + length t.before + length t.own;
      end = next + 1;
    }
    ∷ machine.pending (machine.frame i.top.rule (skipped_from i.top.from i.top.left + length (bytes_of t)) rest i.top.outer ∷ i.frames) (next + 1)
the_token_row view s shape whole due nodes next lower code parts i t rest left_is =
    i.rows ∙ skipped_rows i.top i.frames next (grown (token t) rest) left_is
    ∙ token_pending i.top i.frames (skipped_from i.top.from i.top.left) next t rest

-- a token that is the next part is in the symbol
pub token_stands : {N P K V S C : Type 0} (view : View N P K V S C) (s : List ℕ) (shape : List Row) (whole : Result (Found (List V) S) Refusal) (due : Due)
    (nodes : N) (next : ℕ) (lower : List (Frame K)) (code : Frame K) (parts : List P) (i : Innermost view s shape whole due nodes next lower code parts)
    (t : Token) (rest : Forest) → skipped i.top.left ≡ grown (token t) rest
    → Stands view.table s (length view.reading.rowless) i.top.rule (length i.known + values_in (length view.reading.rowless) (passed_by i.top.left))
    (skipped_from i.top.from i.top.left) (grown (token t) rest)
token_stands view s shape whole due nodes next lower code parts i t rest left_is =
    let n = length view.reading.rowless in
    subst (λ f. Stands view.table s n i.top.rule (length i.known + values_in n (passed_by i.top.left)) (skipped_from i.top.from i.top.left) f) left_is
    (stands_skip view.table s n i.top.rule (length i.known) i.top.from i.top.left i.inside.stands)

-- what the row at this number says
pub token_row_is : {S C : Type 0} (s : List ℕ) (shape : List Row) (next place : ℕ) (t : Token) (more : List Row) (row d : Row) (g : Table) (n : ℕ) (rule : Open S C) (held : ℕ) (rest : Forest)
    → drop next shape ≡ record { rule = 65535; after = tree_count rest; from = place + length t.before; to = place + length t.before + length t.own; end = next + 1 } ∷ more
    → row ≡ slice_index_or shape next d → Stands g s n rule held place (grown (token t) rest) → IsTokenRow s row t place
token_row_is s shape next place t more row d g n rule held rest rows row_is stands =
    let is = row_is ∙ (dropped_one shape more next _ d rows).2 in
    let size : row.to - row.from ≡ length t.own = omega (arith, ap (λ r. r.to) is, ap (λ r. r.from) is) in
    let own : take (length t.own) (drop (place + length t.before) s) ≡ t.own =
    token_own s place t (spell_all rest ++ stands.behind) (stands_left g s n rule held place (grown (token t) rest) stands
    ∙ append_assoc (bytes_of t) (spell_all rest) stands.behind) in
    record {
      from = ap (λ r. r.from) is;
      to = omega (arith, ap (λ r. r.to) is, ap (λ r. r.from) is);
      own = rw (size, ap (λ r. r.from) is) own;
    }

-- A driver in which a token is taken stays on its way.
pub token_follows : {N P K V S C : Type 0} (view : View N P K V S C) (s : List ℕ) (shape : List Row) (whole : Result (Found (List V) S) Refusal) (due : Due)
    (old new : N) (next : ℕ) (lower : List (Frame K)) (code : Frame K) (parts new_parts : List P) → IsLinking view → view.Grows old new
    → (i : Innermost view s shape whole due old next lower code parts) (t : Token) (rest : Forest) (to : ℕ)
    → skipped i.top.left ≡ grown (token t) rest
    → to ≡ skipped_from i.top.from i.top.left + length t.before + length t.own
    → Takes view new (take code.base parts) new_parts (Ok tt)
    (next_of view.reading i.top.rule i.known i.top.from i.top.left i.state >>= taken_in view.reading t (skipped_from i.top.from i.top.left))
    → view.size new + owed_behind view code new_parts ≤ view.size old + owed_behind view code parts → view.IsPaid new to → (left : ℕ) → CountsToken due (row_count_all rest) left
    → Follows view s shape whole (waiting left) new (next + 1) (lower ++ code ∷ []) new_parts
token_follows view s shape whole due old new next lower code parts new_parts laws grows i t rest to left_is to_is
    (known, state, read, holds, own, parts_are, are) added paid left counts =
    let n = length view.reading.rowless in
    let place = skipped_from i.top.from i.top.left in
    let reading = next_of view.reading i.top.rule i.known i.top.from i.top.left i.state >>= taken_in view.reading t place in
    let count : length known ≡ length i.known + values_in n (passed_by i.top.left) + 1 =
    of_ok reading (found known state) (λ f. length f.value ≡ length i.known + values_in n (passed_by i.top.left) + 1) read
    (taken_count view.reading laws.keeps_count i.top.rule i.known i.top.from i.top.left i.state t place) in
    let row = dropped_next shape _ next _ (the_token_row view s shape whole due old next lower code parts i t rest left_is) in
    let left_count : row_count_all i.top.left ≡ 1 + row_count_all rest = sym (skip_count i.top.left) ∙ ap row_count_all left_is in
    let skip = token_stands view s shape whole due old next lower code parts i t rest left_is in
    let owed_is : owed_behind view code new_parts ≡ view.owes i.top.rule.rule.number (length known) =
    ap (λ n. view.owes n (length new_parts - code.base)) i.inside.number
    ∙ ap (λ k. view.owes i.top.rule.rule.number k) (own_count (view.IsPart new) parts new_parts own known code.base i.base parts_are are) in
    let bytes : length (bytes_of t) ≡ length t.before + length t.own + length t.behind =
    omega (arith, length-append (t.before ++ t.own) t.behind, length-append t.before t.own) in
    record {
      frames = machine.frame i.top.rule (place + length (bytes_of t)) rest i.top.outer ∷ i.frames;
      known = known;
      state = state;
      coming = rw read at (token_outcome view.reading i.top i.frames i.known i.state t rest left_is) ∙ i.coming;
      rows = row.0;
      within = omega (arith, row.1);
      holds = (
        record {
          lower = lower;
          code = code;
          below = take code.base parts;
          own = own;
          codes_are = refl;
          parts_are = parts_are;
          number = i.inside.number;
          place = i.inside.place;
          kept = laws.kept_stays old new code.kept i.top.rule grows i.inside.kept;
          end = omega (arith, i.end, left_count);
          base = sym (length-take-le code.base parts i.base);
          are = are;
          stands = subst (λ k. Stands view.table s n i.top.rule k (place + length (bytes_of t)) rest) (omega (arith, count))
              (stands_take view.table s n i.top.rule (length i.known + values_in n (passed_by i.top.left)) place (token t) rest skip refl);
        },
        holds_stays view s old new laws grows i.frames i.top.outer 1 (next + 1 + row_count_all rest) lower (take code.base parts)
            (subst (λ k. HoldsAll view s old i.frames i.top.outer 1 k lower (take code.base parts)) (omega (arith, left_count)) i.holds),
      );
      keeps = holds;
      nests = (omega (arith, skipped_end i.top.from i.top.left (grown (token t) rest) left_is, length-append (bytes_of t) (spell_all rest), i.nests.0), i.nests.1);
      size = omega (arith, i.size, i.owes, added, sym (skip_cost view.owes i.top.left) ∙ ap (λ f. cost_all view.owes f) left_is, owed_is);
      is_due = token_due due i.top i.frames left t rest i.is_due left_is counts;
      light = tt;
      reached = to;
      before = omega (arith, to_is, bytes);
      early = λ none. absurd (omega (arith, none, count));
      paid = paid;
    }

pub token_fails : {N P K V S C : Type 0} (view : View N P K V S C) (s : List ℕ) (shape : List Row) (whole : Result (Found (List V) S) Refusal) (due : Due)
    (nodes : N) (next : ℕ) (lower : List (Frame K)) (code : Frame K) (parts : List P) (e : Refusal)
    → (i : Innermost view s shape whole due nodes next lower code parts) (t : Token) (rest : Forest) → skipped i.top.left ≡ grown (token t) rest
    → Fails e (next_of view.reading i.top.rule i.known i.top.from i.top.left i.state >>= taken_in view.reading t (skipped_from i.top.from i.top.left))
    → Fails e whole
token_fails view s shape whole due nodes next lower code parts e i t rest left_is fails =
    let place = skipped_from i.top.from i.top.left in
    fails_carried e (next_of view.reading i.top.rule i.known i.top.from i.top.left i.state >>= taken_in view.reading t place)
    (λ f. machine.outcome view.reading (machine_at i.top i.frames (place + length (spell (token t))) rest f)) whole fails
    (token_outcome view.reading i.top i.frames i.known i.state t rest left_is ∙ i.coming)
