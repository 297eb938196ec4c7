-- The reader's steps over the bytes, with their counts.
use Rattle.sym_shape.proofs.Basics.{◌≡◌, ℕ, zero, suc, ◌+◌, ◌-◌, ◌*◌, ◌<◌, ◌≤◌, Bool, true, false, inl, inr, List, [], ◌∷◌, ◌++◌, length, take, drop, get_or, refl, ap, ap₂, sym, ◌∙◌, subst, arith, append_assoc, length-append, Some, None, Result, Ok, Err, cond, append-nil, take-append-drop, length-take, length-take-le, length-drop, take_at, drop_at, drop_more, take_all, Rule, NameClass, Row, Sym, Kind, Byte, Entry, Symbol, Close, TokenPlace, Table, symbols_of, bytes_of, IsMalformed, AreRowsOf, AreStepsOf, BeginsWellShaped, read_steps, IsChain, IsLawfulRule, IsLawful, entries_of, closed, IsReading, IsCounted, StandsOn, IsKnown, TakesNone, place_behind, rule_stack, symbols_left, open_row, place_row, rules_in, IsParse, ReadsToken, BreaksToken, IsStep, MakesRow, Refusal, Memory, Parse, Agrees}
use Rattle.sym_shape.proofs.Lists.{true_or, compared}
use Rattle.sym_shape.proofs.Uniqueness.{one_tree}
use Rattle.sym_shape.proofs.Tokens.{settled, token_filled}
use Rattle.sym_shape.proofs.Moves.{closes, takes_byte, takes_token, takes_nothing, takes_rule, started, read_whole, taken_by, token_row, IsSettled, length-closed, closed_at, beginning}
use Rattle.sym_shape.proofs.Refusals.{begins_here, token_front, BeginsToken, refused_behind, refused_byte, refused_kind, refused_token, IsNoToken}

-- the next bytes `c` of a list, and the rest
pub record Cut (bytes : List ℕ) (at : ℕ) (c rest : List ℕ) : Type 0 where
  pub within : at + length c ≤ length bytes
  pub front : take (at + length c) bytes ≡ take at bytes ++ c
  pub back : drop (at + length c) bytes ≡ rest

pub cut : (bytes : List ℕ) (at : ℕ) (c rest : List ℕ) → at ≤ length bytes → drop at bytes ≡ c ++ rest → Cut bytes at c rest
cut bytes at c rest le e =
    let before = take at bytes in
    let size : length (before ++ c) ≡ at + length c = length-append before c ∙ ap (λ n. n + length c) (length-take-le at bytes le) in
    let whole : bytes ≡ (before ++ c) ++ rest = sym (take-append-drop at bytes) ∙ ap (λ v. before ++ v) e ∙ sym (append_assoc before c rest) in
    record {
      within = omega (arith, ap length whole, size, length-append (before ++ c) rest);
      front = ap (λ v. take (at + length c) v) whole ∙ take_at (before ++ c) rest (at + length c) size;
      back = ap (λ v. drop (at + length c) v) whole ∙ drop_at (before ++ c) rest (at + length c) size;
    }

rules_behind : (e : Entry) (es : List Entry) → rules_in es ≤ rules_in (e ∷ es)
rules_behind (Symbol x) es = omega arith
rules_behind (Close i) es = omega arith

rules_pushed : (xs : List Sym) (close : Entry) (es : List Entry) → rules_in (entries_of xs ++ close ∷ es) ≤ 1 + rules_in es
rules_pushed [] (Symbol x) es = omega arith
rules_pushed [] (Close i) es = omega arith
rules_pushed (x ∷ xs) close es = rules_pushed xs close es

-- the counts after a step that removes an entry
drop_entry : (g : Table) (steps at : ℕ) (e : Entry) (es : List Entry) (rows : ℕ) → (c : IsCounted g steps at (e ∷ es) rows) → c.chains ≡ 0 → IsCounted g (steps + 1) at es rows
drop_entry g steps at e es rows c none = record {
  chains = 0;
  few = omega arith;
  stands = tt;
  spent = omega (arith, c.spent, none);
  made = omega (arith, c.made, none);
  each = omega (arith, c.each);
  nested = omega (arith, c.nested, rules_behind e es);
}

-- bytes are taken, and at most one row is made
eat_entry : (g : Table) (steps at size : ℕ) (e : Entry) (es : List Entry) (rows more : ℕ) → IsCounted g steps at (e ∷ es) rows → 0 < size → more ≤ 1 → IsCounted g (steps + 1) (at + size) es (rows + more)
eat_entry g steps at size e es rows more c some one = record {
  chains = 0;
  few = omega arith;
  stands = tt;
  spent = omega (arith, c.spent, c.few);
  made = omega (arith, c.made, c.few);
  each = omega (arith, c.each);
  nested = omega (arith, c.nested, rules_behind e es);
}

-- an entry is removed by the step that put it there
leaf_counted : (g : Table) (steps at : ℕ) (e : Entry) (es : List Entry) (rows made : ℕ) → (c : IsCounted g steps at (e ∷ es) rows) → c.chains ≡ 0 → made ≡ rows → IsCounted g steps at es made
leaf_counted g steps at e es rows made c none same = record {
  chains = 0;
  few = omega arith;
  stands = tt;
  spent = omega (arith, c.spent, none);
  made = omega (arith, c.made, none, same);
  each = omega (arith, c.each, same);
  nested = omega (arith, c.nested, rules_behind e es, same);
}

no_chains_closed : (g : Table) (n i : ℕ) (es : List Entry) → StandsOn g n (Close i ∷ es) → n ≡ 0
no_chains_closed g zero i es h = refl
no_chains_closed g (suc n) i es h = absurd h

no_chains_empty : (g : Table) (n k : ℕ) (es : List Entry) → g.may_be_empty k ≡ true → StandsOn g n (Symbol (Kind k) ∷ es) → n ≡ 0
no_chains_empty g zero k es bare h = refl
no_chains_empty g (suc n) k es bare h = (let full = h.0 in cc)

pub step_close : (g : Table) (ended : Bool) (bytes : List ℕ) (steps at i : ℕ) (stack : List Entry) (rows : List Row) → IsParse g ended bytes steps at (Close i ∷ stack) rows → IsParse g ended bytes (steps + 1) at stack (closed rows i at (length rows))
step_close g ended bytes steps at i stack rows h =
    let reading : IsReading g steps ended (take at bytes) (drop at bytes) (Close i ∷ stack) rows = h.reading in
    let counted : IsCounted g steps at (Close i ∷ stack) (length rows) = h.counted in
    let place : length (take at bytes) ≡ at = length-take-le at bytes h.within in
    record {
      within = h.within;
      reading = subst (λ n. IsReading g (steps + 1) ended (take at bytes) (drop at bytes) stack (closed rows i n (length rows))) place (closes g steps ended (take at bytes) (drop at bytes) i stack rows reading);
      counted = subst (λ n. IsCounted g (steps + 1) at stack n) (sym (length-closed rows i at (length rows))) (drop_entry g steps at (Close i) stack (length rows) counted (no_chains_closed g counted.chains i stack counted.stands));
    }

-- reading continues after the next bytes
goes_on : {count : ℕ} (g : Table) (ended : Bool) (bytes : List ℕ) (at : ℕ) (c rest : List ℕ) (es : List Entry) (rows : List Row) → Cut bytes at c rest → IsReading g count ended (take at bytes ++ c) rest es rows → IsReading g count ended (take (at + length c) bytes) (drop (at + length c) bytes) es rows
goes_on {count = count} g ended bytes at c rest es rows k r =
    subst (λ u. IsReading g count ended u (drop (at + length c) bytes) es rows) (sym k.front) (subst (λ u. IsReading g count ended (take at bytes ++ c) u es rows) (sym k.back) r)

pub step_byte : (g : Table) (ended : Bool) (bytes : List ℕ) (steps at b : ℕ) (stack : List Entry) (rows : List Row) → at < length bytes → get_or bytes at 0 ≡ b → IsParse g ended bytes steps at (Symbol (Byte b) ∷ stack) rows → IsParse g ended bytes (steps + 1) (at + 1) stack rows
step_byte g ended bytes steps at b stack rows lt found h =
    let split : drop at bytes ≡ (b ∷ []) ++ drop (at + 1) bytes = drop_more bytes at 0 lt ∙ ap (λ v. v ∷ drop (at + 1) bytes) found in
    let k = cut bytes at (b ∷ []) (drop (at + 1) bytes) h.within split in
    let reading = subst (λ u. IsReading g steps ended (take at bytes) u (Symbol (Byte b) ∷ stack) rows) split h.reading in
    let counted = eat_entry g steps at 1 (Symbol (Byte b)) stack (length rows) 0 h.counted (omega arith) (omega arith) in
    record {
      within = omega arith;
      reading = goes_on g ended bytes at (b ∷ []) (drop (at + 1) bytes) stack rows k (takes_byte g steps ended (take at bytes) (drop (at + 1) bytes) b stack rows reading);
      counted = subst (λ n. IsCounted g (steps + 1) (at + 1) stack n) (omega arith) counted;
    }

pub step_empty : (g : Table) (lawful : IsLawful g) (ended : Bool) (bytes : List ℕ) (steps at k : ℕ) (stack : List Entry) (rows : List Row) → g.may_be_empty k ≡ true → TakesNone g k ended (drop at bytes) → IsParse g ended bytes steps at (Symbol (Kind k) ∷ stack) rows → IsParse g ended bytes (steps + 1) at stack rows
step_empty g lawful ended bytes steps at k stack rows bare none h =
    let counted = h.counted in
    record {
      within = h.within;
      reading = takes_nothing g steps lawful ended (take at bytes) (drop at bytes) k stack rows bare none h.reading;
      counted = drop_entry g steps at (Symbol (Kind k)) stack (length rows) counted (no_chains_empty g counted.chains k stack bare counted.stands);
    }

length-entries_of : (xs : List Sym) → length (entries_of xs) ≡ length xs
length-entries_of [] = refl
length-entries_of (x ∷ xs) = omega (arith, length-entries_of xs)

chain_stands : (g : Table) (lawful : IsLawful g) (k : ℕ) (rule : Rule) (n : ℕ) (xs : List Sym) (es others : List Entry) → k < g.kinds → IsChain g k rule xs → StandsOn g n (Symbol (Kind k) ∷ es) → StandsOn g (suc n) (entries_of xs ++ others) × (n + 1 ≤ 3) × (length xs ≤ 3)
chain_stands g lawful k rule n [] es others known chain stands = absurd chain
chain_stands g lawful k rule zero (x ∷ xs) es others known chain stands =
    ((chain.0, omega (arith, chain.1, lawful.rank k known)), omega arith, omega (arith, chain.2))
chain_stands g lawful k rule (suc n) (x ∷ xs) es others known chain stands =
    ((chain.0, omega (arith, chain.1, stands.1)), omega (arith, chain.1, stands.1), omega (arith, chain.2))

length-pushed : (xs : List Sym) (e : Entry) (es : List Entry) → length (entries_of xs ++ e ∷ es) ≡ length xs + 1 + length es
length-pushed xs e es = omega (arith, length-append (entries_of xs) (e ∷ es), length-entries_of xs)

count_eats : (g : Table) (steps at : ℕ) (e close : Entry) (xs : List Sym) (es : List Entry) (rows : ℕ) → IsCounted g steps at (e ∷ es) rows → length xs ≤ 5 → IsCounted g (steps + 1) (at + 1) (entries_of xs ++ close ∷ es) (rows + 1)
count_eats g steps at e close xs es rows c few = record {
  chains = 0;
  few = omega arith;
  stands = tt;
  spent = omega (arith, c.spent, c.few, length-pushed xs close es);
  made = omega (arith, c.made, c.few);
  each = omega (arith, c.each);
  nested = omega (arith, c.nested, rules_behind e es, rules_pushed xs close es);
}

count_chain : (g : Table) (lawful : IsLawful g) (k : ℕ) (rule : Rule) (steps at : ℕ) (close : Entry) (xs : List Sym) (es : List Entry) (rows : ℕ) → k < g.kinds → IsChain g k rule xs → IsCounted g steps at (Symbol (Kind k) ∷ es) rows → IsCounted g (steps + 1) at (entries_of xs ++ close ∷ es) (rows + 1)
count_chain g lawful k rule steps at close xs es rows known chain c =
    let stands = chain_stands g lawful k rule c.chains xs es (close ∷ es) known chain c.stands in
    record {
      chains = suc c.chains;
      few = omega (arith, stands.1);
      stands = stands.0;
      spent = omega (arith, c.spent, length-pushed xs close es, stands.2);
      made = omega (arith, c.made);
      each = omega (arith, c.each);
      nested = omega (arith, c.nested, rules_pushed xs close es);
    }

-- A rule has begun. If it has symbols, its row ends in a later step.
record IsBegun (g : Table) (ended : Bool) (bytes : List ℕ) (begun steps at : ℕ) (stack : List Entry) (rows : List Row) : Type 0 where
  pub within : at ≤ length bytes
  pub reading : IsReading g begun ended (take at bytes) (drop at bytes) stack rows
  pub counted : IsCounted g steps at stack (length rows)

begin_rule : (g : Table) (lawful : IsLawful g) (ended : Bool) (bytes : List ℕ) (steps at k b end : ℕ) (rule : Rule) (stack : List Entry) (rows : List Row) → at < length bytes → get_or bytes at 0 ≡ b → b < 256 → g.rule k b ≡ Some rule → IsParse g ended bytes steps at (Symbol (Kind k) ∷ stack) rows → IsBegun g ended bytes (steps + beginning (symbols_of rule)) (steps + 1) (place_behind rule at) (rule_stack stack (length rows) rule) (rows ++ open_row rule (symbols_left stack) at at end ∷ [])
begin_rule g lawful ended bytes steps at k b end rule stack rows lt is byte found h =
    elim (true_or rule.eats) [ inl eats ↦ eaten eats | inr chains ↦ chained chains ]
  where
    reading : IsReading g steps ended (take at bytes) (drop at bytes) (Symbol (Kind k) ∷ stack) rows
    reading = h.reading

    counted : IsCounted g steps at (Symbol (Kind k) ∷ stack) (length rows)
    counted = h.counted

    split : drop at bytes ≡ b ∷ drop (at + 1) bytes
    split = drop_more bytes at 0 lt ∙ ap (λ v. v ∷ drop (at + 1) bytes) is

    place : length (take at bytes) ≡ at
    place = length-take-le at bytes h.within

    law : IsLawfulRule g k rule
    law = lawful.rule k b rule reading.known.0 byte found

    more : length (rows ++ open_row rule (symbols_left stack) at at end ∷ []) ≡ length rows + 1
    more = length-append rows (open_row rule (symbols_left stack) at at end ∷ [])

    moved : (q : List ℕ) → drop at bytes ≡ taken_by rule b ++ q → IsReading g (steps + beginning (symbols_of rule)) ended (take at bytes ++ taken_by rule b) q (rule_stack stack (length rows) rule) (rows ++ open_row rule (symbols_left stack) at at end ∷ [])
    moved q e =
        let begins : (rest : List ℕ) × (taken_by rule b ++ q ≡ b ∷ rest) = (drop (at + 1) bytes, sym e ∙ split) in
        let read = takes_rule g steps lawful ended (take at bytes) q k b at end rule stack rows byte found begins (subst (λ u. IsReading g steps ended (take at bytes) u (Symbol (Kind k) ∷ stack) rows) e reading) in
        subst (λ n. IsReading g (steps + beginning (symbols_of rule)) ended (take at bytes ++ taken_by rule b) q (entries_of (symbols_of rule) ++ Close (length rows) ∷ stack) (rows ++ open_row rule (symbols_left stack) n at end ∷ [])) place read

    eaten : rule.eats ≡ true → IsBegun g ended bytes (steps + beginning (symbols_of rule)) (steps + 1) (place_behind rule at) (rule_stack stack (length rows) rule) (rows ++ open_row rule (symbols_left stack) at at end ∷ [])
    eaten eats =
        let takes : taken_by rule b ≡ b ∷ [] = ap (λ c. cond c (b ∷ []) []) eats in
        let to : place_behind rule at ≡ at + 1 = ap (λ c. cond c (at + 1) at) eats in
        let piece = cut bytes at (b ∷ []) (drop (at + 1) bytes) h.within split in
        let read = moved (drop (at + 1) bytes) (split ∙ ap (λ v. v ++ drop (at + 1) bytes) (sym takes)) in
        let read_one = subst (λ v. IsReading g (steps + beginning (symbols_of rule)) ended (take at bytes ++ v) (drop (at + 1) bytes) (rule_stack stack (length rows) rule) (rows ++ open_row rule (symbols_left stack) at at end ∷ [])) takes read in
        let count = count_eats g steps at (Symbol (Kind k)) (Close (length rows)) (symbols_of rule) stack (length rows) counted (omega (arith, law.count, length-take rule.count rule.symbols)) in
        subst (λ n. IsBegun g ended bytes (steps + beginning (symbols_of rule)) (steps + 1) n (rule_stack stack (length rows) rule) (rows ++ open_row rule (symbols_left stack) at at end ∷ [])) (sym to) (record {
          within = omega arith;
          reading = goes_on g ended bytes at (b ∷ []) (drop (at + 1) bytes) _ _ piece read_one;
          counted = subst (λ n. IsCounted g (steps + 1) (at + 1) (rule_stack stack (length rows) rule) n) (sym more) count;
        })

    chained : rule.eats ≡ false → IsBegun g ended bytes (steps + beginning (symbols_of rule)) (steps + 1) (place_behind rule at) (rule_stack stack (length rows) rule) (rows ++ open_row rule (symbols_left stack) at at end ∷ [])
    chained chains =
        let takes : taken_by rule b ≡ [] = ap (λ c. cond c (b ∷ []) []) chains in
        let to : place_behind rule at ≡ at = ap (λ c. cond c (at + 1) at) chains in
        let read = moved (drop at bytes) (ap (λ v. v ++ drop at bytes) (sym takes)) in
        let read_none = subst (λ v. IsReading g (steps + beginning (symbols_of rule)) ended v (drop at bytes) (rule_stack stack (length rows) rule) (rows ++ open_row rule (symbols_left stack) at at end ∷ [])) (ap (λ v. take at bytes ++ v) takes ∙ append-nil (take at bytes)) read in
        let count = count_chain g lawful k rule steps at (Close (length rows)) (symbols_of rule) stack (length rows) reading.known.0 (law.chain chains) counted in
        subst (λ n. IsBegun g ended bytes (steps + beginning (symbols_of rule)) (steps + 1) n (rule_stack stack (length rows) rule) (rows ++ open_row rule (symbols_left stack) at at end ∷ [])) (sym to) (record {
          within = h.within;
          reading = read_none;
          counted = subst (λ n. IsCounted g (steps + 1) at (rule_stack stack (length rows) rule) n) (sym more) count;
        })

-- a rule that has symbols is taken
pub step_rule : (g : Table) (lawful : IsLawful g) (ended : Bool) (bytes : List ℕ) (steps at k b end : ℕ) (rule : Rule) (stack : List Entry) (rows : List Row) → beginning (symbols_of rule) ≡ 1 → at < length bytes → get_or bytes at 0 ≡ b → b < 256 → g.rule k b ≡ Some rule → IsParse g ended bytes steps at (Symbol (Kind k) ∷ stack) rows → IsParse g ended bytes (steps + 1) (place_behind rule at) (rule_stack stack (length rows) rule) (rows ++ open_row rule (symbols_left stack) at at end ∷ [])
step_rule g lawful ended bytes steps at k b end rule stack rows some lt is byte found h =
    let begun = begin_rule g lawful ended bytes steps at k b end rule stack rows lt is byte found h in
    record {
      within = begun.within;
      reading = subst (λ n. IsReading g (steps + n) ended (take (place_behind rule at) bytes) (drop (place_behind rule at) bytes) (rule_stack stack (length rows) rule) (rows ++ open_row rule (symbols_left stack) at at end ∷ [])) some begun.reading;
      counted = begun.counted;
    }

-- a rule without symbols is taken, and its row ends at once
pub step_leaf : (g : Table) (lawful : IsLawful g) (ended : Bool) (bytes : List ℕ) (steps at k b : ℕ) (rule : Rule) (stack : List Entry) (rows : List Row) → symbols_of rule ≡ [] → at < length bytes → get_or bytes at 0 ≡ b → b < 256 → g.rule k b ≡ Some rule → IsParse g ended bytes steps at (Symbol (Kind k) ∷ stack) rows → IsParse g ended bytes (steps + 1) (place_behind rule at) stack (rows ++ open_row rule (symbols_left stack) at (place_behind rule at) (length rows + 1) ∷ [])
step_leaf g lawful ended bytes steps at k b rule stack rows none lt is byte found h =
    let place = place_behind rule at in
    let opened = rows ++ open_row rule (symbols_left stack) at at 0 ∷ [] in
    let count : length opened ≡ length rows + 1 = length-append rows (open_row rule (symbols_left stack) at at 0 ∷ []) in
    let begun = begin_rule g lawful ended bytes steps at k b 0 rule stack rows lt is byte found h in
    let bare = subst (λ xs. IsReading g (steps + beginning xs) ended (take place bytes) (drop place bytes) (entries_of xs ++ Close (length rows) ∷ stack) opened) none begun.reading in
    let reached : length (take place bytes) ≡ place = length-take-le place bytes begun.within in
    let row : closed opened (length rows) (length (take place bytes)) (length opened) ≡ rows ++ open_row rule (symbols_left stack) at place (length rows + 1) ∷ [] = closed_at rows (open_row rule (symbols_left stack) at at 0) [] (length (take place bytes)) (length opened) ∙ ap₂ (λ m n. rows ++ open_row rule (symbols_left stack) at m n ∷ []) reached count in
    let size : length (rows ++ open_row rule (symbols_left stack) at place (length rows + 1) ∷ []) ≡ length rows + 1 = length-append rows (open_row rule (symbols_left stack) at place (length rows + 1) ∷ []) in
    let ends = closes g (steps + 0) ended (take place bytes) (drop place bytes) (length rows) stack opened bare in
    let counted : IsCounted g (steps + 1) place (entries_of [] ++ Close (length rows) ∷ stack) (length opened) = subst (λ xs. IsCounted g (steps + 1) place (entries_of xs ++ Close (length rows) ∷ stack) (length opened)) none begun.counted in
    record {
      within = begun.within;
      reading = subst (λ n. IsReading g n ended (take place bytes) (drop place bytes) stack (rows ++ open_row rule (symbols_left stack) at place (length rows + 1) ∷ [])) (omega arith)
          (subst (λ rs. IsReading g (steps + 0 + 1) ended (take place bytes) (drop place bytes) stack rs) row ends);
      counted = leaf_counted g (steps + 1) place (Close (length rows)) stack (length opened) (length (rows ++ open_row rule (symbols_left stack) at place (length rows + 1) ∷ [])) counted (no_chains_closed g counted.chains (length rows) stack counted.stands) (omega (arith, size, count));
    }

told_at : (ended : Bool) (bytes : List ℕ) (at : ℕ) (rest : List ℕ) → IsKnown ended bytes at → drop at bytes ≡ rest → rest ≡ [] → ended ≡ true
told_at ended bytes at rest known e nil = elim known [
  | inl more ↦ absurd (omega (arith, length-drop at bytes, ap length e, ap length nil))
  | inr told ↦ told
]

some_bytes : (u : List ℕ) → (u ≡ [] → ⊥) → 0 < length u
some_bytes [] h = absurd (h refl)
some_bytes (b ∷ u) h = omega arith

pub step_token : (g : Table) (lawful : IsLawful g) (ended : Bool) (bytes : List ℕ) (steps at : ℕ) (x : Sym) (place : TokenPlace) (stack : List Entry) (rows : List Row) → ReadsToken g.names x (drop at bytes) at place → IsKnown ended bytes place.end → IsParse g ended bytes steps at (Symbol x ∷ stack) rows → IsParse g ended bytes (steps + 1) place.end stack (rows ++ place_row (symbols_left stack) place (length rows) ∷ [])
step_token g lawful ended bytes steps at x place stack rows r known h =
    let piece = cut bytes at (bytes_of r.token) r.rest h.within r.split in
    let behind : drop place.end bytes ≡ r.rest = ap (λ n. drop n bytes) r.end ∙ piece.back in
    let only : IsSettled g ended x r.token r.rest = settled g ended x r.token r.rest r.is (told_at ended bytes place.end r.rest known behind) (λ other more is e. r.longest other more is (r.split ∙ e)) in
    let reading = subst (λ u. IsReading g steps ended (take at bytes) u (Symbol x ∷ stack) rows) r.split h.reading in
    let counted = eat_entry g steps at (length (bytes_of r.token)) (Symbol x) stack (length rows) 1 h.counted (some_bytes (bytes_of r.token) (token_filled g x r.token r.is)) (omega arith) in
    let read = goes_on g ended bytes at (bytes_of r.token) r.rest stack _ piece (takes_token g steps lawful ended (take at bytes) r.rest x r.token stack rows r.is only reading) in
    let start : length (take at bytes) ≡ at = length-take-le at bytes h.within in
    let row : token_row r.token (symbols_left stack) (length (take at bytes)) (length rows) ≡ place_row (symbols_left stack) place (length rows) =
    ap (λ n. token_row r.token (symbols_left stack) n (length rows)) start ∙ ap₂ (λ m n. record { rule = 65535; after = symbols_left stack; from = m; to = n; end = length rows + 1 }) (sym r.from) (sym r.to) in
    let made : length (rows ++ place_row (symbols_left stack) place (length rows) ∷ []) ≡ length rows + 1 = length-append rows (place_row (symbols_left stack) place (length rows) ∷ []) in
    record {
      within = omega (arith, piece.within, r.end);
      reading = subst (λ n. IsReading g (steps + 1) ended (take n bytes) (drop n bytes) stack (rows ++ place_row (symbols_left stack) place (length rows) ∷ [])) (sym r.end)
          (subst (λ v. IsReading g (steps + 1) ended (take (at + length (bytes_of r.token)) bytes) (drop (at + length (bytes_of r.token)) bytes) stack (rows ++ v ∷ [])) row read);
      counted = subst (λ n. IsCounted g (steps + 1) n stack (length (rows ++ place_row (symbols_left stack) place (length rows) ∷ []))) (sym r.end) (subst (λ n. IsCounted g (steps + 1) (at + length (bytes_of r.token)) stack n) (sym made) counted);
    }

-- a refusal at the place that was reached
refused_at : (g : Table) (bytes : List ℕ) (at : ℕ) → at ≤ length bytes → IsMalformed g (take at bytes ++ drop at bytes) (length (take at bytes)) → IsMalformed g bytes at
refused_at g bytes at le h =
    subst (λ n. IsMalformed g bytes n) (length-take-le at bytes le) (subst (λ u. IsMalformed g u (length (take at bytes))) (take-append-drop at bytes) h)

pub refuse_behind : (g : Table) (lawful : IsLawful g) (ended : Bool) (bytes : List ℕ) (steps at : ℕ) (rows : List Row) → at < length bytes → IsParse g ended bytes steps at [] rows → IsMalformed g bytes at
refuse_behind g lawful ended bytes steps at rows lt h =
    let split : drop at bytes ≡ get_or bytes at 0 ∷ drop (at + 1) bytes = drop_more bytes at 0 lt in
    let refused = refused_behind g lawful ended (take at bytes) (get_or bytes at 0) (drop (at + 1) bytes) rows (subst (λ u. IsReading g steps ended (take at bytes) u [] rows) split h.reading) in
    refused_at g bytes at h.within (subst (λ u. IsMalformed g (take at bytes ++ u) (length (take at bytes))) (sym split) refused)

pub refuse_byte : (g : Table) (lawful : IsLawful g) (ended : Bool) (bytes : List ℕ) (steps at b : ℕ) (stack : List Entry) (rows : List Row) → IsKnown ended bytes at → (at < length bytes → get_or bytes at 0 ≡ b → ⊥) → IsParse g ended bytes steps at (Symbol (Byte b) ∷ stack) rows → IsMalformed g bytes at
refuse_byte g lawful ended bytes steps at b stack rows known other h =
    refused_at g bytes at h.within (refused_byte g lawful ended (take at bytes) b (drop at bytes) stack rows h.reading (told_at ended bytes at (drop at bytes) known refl)
    (λ r e. (
    let lt : at < length bytes = omega (arith, length-drop at bytes, ap length e) in
    let split : get_or bytes at 0 ∷ drop (at + 1) bytes ≡ b ∷ r = sym (drop_more bytes at 0 lt) ∙ e in
    other lt cc)))

pub refuse_kind : (g : Table) (lawful : IsLawful g) (ended : Bool) (bytes : List ℕ) (steps at k : ℕ) (stack : List Entry) (rows : List Row) → TakesNone g k ended (drop at bytes) → g.may_be_empty k ≡ false → IsParse g ended bytes steps at (Symbol (Kind k) ∷ stack) rows → IsMalformed g bytes at
refuse_kind g lawful ended bytes steps at k stack rows none full h =
    refused_at g bytes at h.within (refused_kind g lawful ended (take at bytes) k (drop at bytes) stack rows h.reading none full)

pub refuse_token : (g : Table) (lawful : IsLawful g) (ended : Bool) (bytes : List ℕ) (steps at bad : ℕ) (x : Sym) (stack : List Entry) (rows : List Row) → at ≤ bad → BreaksToken g.names x (drop at bytes) (bad - at) → IsKnown ended bytes bad → IsParse g ended bytes steps at (Symbol x ∷ stack) rows → IsMalformed g bytes bad
refuse_token g lawful ended bytes steps at bad x stack rows le k known h =
    let piece = cut bytes at k.front k.rest h.within k.split in
    let reach : at + length k.front ≡ bad = omega (arith, k.size_is) in
    let behind : drop bad bytes ≡ k.rest = ap (λ n. drop n bytes) (sym reach) ∙ piece.back in
    let told = told_at ended bytes bad k.rest known behind in
    let reading = subst (λ u. IsReading g steps ended (take at bytes) u (Symbol x ∷ stack) rows) k.split h.reading in
    let refused = refused_token g lawful ended (take at bytes) k.front k.rest x stack rows reading (k.begun, k.more, k.begins, k.begins_so) (none told) told in
    let whole : (take at bytes ++ k.front) ++ k.rest ≡ bytes = append_assoc (take at bytes) k.front k.rest ∙ ap (λ u. take at bytes ++ u) (sym k.split) ∙ take-append-drop at bytes in
    let place : length (take at bytes ++ k.front) ≡ bad = omega (arith, length-append (take at bytes) k.front, length-take-le at bytes h.within, reach) in
    subst (λ n. IsMalformed g bytes n) place (subst (λ u. IsMalformed g u (length (take at bytes ++ k.front))) whole refused)
  where
    none : (k.rest ≡ [] → ended ≡ true) → IsNoToken g ended x k.front k.rest
    none told w v t agrees is e = elim (compared (bytes_of t) k.front v w e) [
      | inl more ↦ longer more.0 more.1 more.2
      | inr less ↦ k.none t (less.0 ∷ (less.1 ++ k.rest)) is (k.split ∙ ap (λ u. u ++ k.rest) less.2 ∙ append_assoc (bytes_of t) (less.0 ∷ less.1) k.rest)
    ]
      where
        beyond : (r : List ℕ) (b : ℕ) (m : List ℕ) → r ≡ k.rest → Agrees ended r w → w ≡ b ∷ (m ++ v) → bytes_of t ≡ k.front ++ b ∷ m → ⊥
        beyond [] b m same agree f u = (let nil = agree (told (sym same)) in cc)
        beyond (c ∷ r) b m same agree f u =
            let byte : c ≡ b = cc (agree.1, f) in
            k.next b r t m (sym same ∙ ap (λ d. d ∷ r) byte) is u

        longer : (m : List ℕ) → bytes_of t ≡ k.front ++ m → w ≡ m ++ v → ⊥
        longer [] f u = k.none t k.rest is (k.split ∙ ap (λ v. v ++ k.rest) (sym (f ∙ append-nil k.front)))
        longer (b ∷ m) f u = beyond k.rest b m refl agrees u f

same_parse : (g : Table) (ended : Bool) (bytes : List ℕ) (steps at place : ℕ) (stack new : List Entry) (rows made : List Row) → place ≡ at → new ≡ stack → made ≡ rows → IsParse g ended bytes steps at stack rows → IsParse g ended bytes steps place new made
same_parse g ended bytes steps at place stack new rows made p q r h =
    subst (λ n. IsParse g ended bytes steps n new made) (sym p) (subst (λ es. IsParse g ended bytes steps at es made) (sym q) (subst (λ rs. IsParse g ended bytes steps at stack rs) (sym r) h))

-- no rule is taken at the next byte, or there is no next byte
pub takes_none : (g : Table) (k : ℕ) (ended : Bool) (bytes : List ℕ) (at : ℕ) → IsKnown ended bytes at → (at < length bytes → g.rule k (get_or bytes at 0) ≡ None) → TakesNone g k ended (drop at bytes)
takes_none g k ended bytes at known none = at_rest (drop at bytes) refl
  where
    at_rest : (r : List ℕ) → drop at bytes ≡ r → TakesNone g k ended r
    at_rest [] e = told_at ended bytes at [] known e refl
    at_rest (b ∷ r) e =
        let lt : at < length bytes = omega (arith, length-drop at bytes, ap length e) in
        let head : get_or bytes at 0 ∷ drop (at + 1) bytes ≡ b ∷ r = sym (drop_more bytes at 0 lt) ∙ e in
        let same : get_or bytes at 0 ≡ b = cc in
        subst (λ c. g.rule k c ≡ None) same (none lt)

-- the counts at the end of a step
pub at_most_steps : (g : Table) (steps at : ℕ) (es : List Entry) (rows : ℕ) → IsCounted g steps at es rows → steps ≤ 13 + 18 * at
at_most_steps g steps at es rows c = omega (arith, c.spent, c.few)

pub at_most_rows : (g : Table) (steps at : ℕ) (es : List Entry) (rows : ℕ) → IsCounted g steps at es rows → rows ≤ 4 * at + 3
at_most_rows g steps at es rows c = omega (arith, c.made, c.few)

pub token_within : (names : NameClass) (x : Sym) (bytes : List ℕ) (at : ℕ) (place : TokenPlace) → at ≤ length bytes → ReadsToken names x (drop at bytes) at place → (place.from ≤ place.to) × (place.to ≤ place.end) × (place.end ≤ length bytes)
token_within names x bytes at place le r =
    let piece = cut bytes at (bytes_of r.token) r.rest le r.split in
    let size : length (bytes_of r.token) ≡ length r.token.before + length r.token.own + length r.token.behind = length-append (r.token.before ++ r.token.own) r.token.behind ∙ ap (λ n. n + length r.token.behind) (length-append r.token.before r.token.own) in
    (omega (arith, r.from, r.to), omega (arith, r.to, r.end, size), omega (arith, r.end, piece.within))

pub bad_within : (names : NameClass) (x : Sym) (bytes : List ℕ) (at bad : ℕ) → at ≤ length bytes → at ≤ bad → BreaksToken names x (drop at bytes) (bad - at) → bad ≤ length bytes
bad_within names x bytes at bad le more k =
    let piece = cut bytes at k.front k.rest le k.split in
    omega (arith, piece.within, k.size_is)

pub same_ok : {X E : Type 0} (r : Result X E) (x y : X) → r ≡ Ok x → r ≡ Ok y → x ≡ y
same_ok r x y p q = cc

pub same_err : {X E : Type 0} (r : Result X E) (x y : E) → r ≡ Err x → r ≡ Err y → x ≡ y
same_err r x y p q = cc

-- before the first step
pub first_parse : (g : Table) (lawful : IsLawful g) (ended : Bool) (bytes : List ℕ) → IsParse g ended bytes 0 0 (Symbol (Kind 0) ∷ []) []
first_parse g lawful ended bytes = record {
  within = omega arith;
  reading = started g lawful ended bytes;
  counted = record { chains = 0; few = omega arith; stands = tt; spent = omega arith; made = omega arith; each = omega arith; nested = omega arith };
}

pub same_start : (g : Table) (lawful : IsLawful g) (ended : Bool) (bytes : List ℕ) (steps at : ℕ) (stack : List Entry) (rows : List Row) → steps ≡ 0 → at ≡ 0 → stack ≡ Symbol (Kind 0) ∷ [] → rows ≡ [] → IsParse g ended bytes steps at stack rows
same_start g lawful ended bytes steps at stack rows p q r s =
    subst (λ n. IsParse g ended bytes n at stack rows) (sym p) (same_parse g ended bytes 0 0 at (Symbol (Kind 0) ∷ []) stack [] rows q r s (first_parse g lawful ended bytes))

-- all is read
pub whole_read : (g : Table) (ended : Bool) (bytes : List ℕ) (steps at : ℕ) (stack : List Entry) (rows made : List Row) → IsParse g ended bytes steps at stack rows → stack ≡ [] → at ≡ length bytes → made ≡ rows → AreRowsOf g bytes made
whole_read g ended bytes steps at stack rows made h bare end same =
    let all = subst (λ es. IsParse g ended bytes steps at es rows) bare h in
    let read = read_whole g steps ended (take at bytes) (drop at bytes) rows all.reading in
    let text : take at bytes ++ [] ≡ bytes = append-nil (take at bytes) ∙ take_all at bytes (omega (arith, end)) in
    (read.0, read.1, read.2 ∙ text, same ∙ read.3)

-- all is read, in n steps
pub whole_steps : (g : Table) (lawful : IsLawful g) (ended : Bool) (bytes : List ℕ) (steps at : ℕ) (stack : List Entry) (rows : List Row) → IsParse g ended bytes steps at stack rows → stack ≡ [] → at ≡ length bytes → AreStepsOf g bytes steps
whole_steps g lawful ended bytes steps at stack rows h bare end =
    let all = subst (λ es. IsParse g ended bytes steps at es rows) bare h in
    let read = read_whole g steps ended (take at bytes) (drop at bytes) rows all.reading in
    let text : take at bytes ++ [] ≡ bytes = append-nil (take at bytes) ∙ take_all at bytes (omega (arith, end)) in
    λ tree is spelled. read.4 ∙ ap read_steps (one_tree g lawful read.0 tree read.1 is (read.2 ∙ text ∙ sym spelled))

-- if all known bytes are read, they begin a well shaped symbol
pub all_begins : (g : Table) (lawful : IsLawful g) (ended : Bool) (bytes : List ℕ) (steps at : ℕ) (stack : List Entry) (rows : List Row) → IsParse g ended bytes steps at stack rows → length bytes ≤ at → BeginsWellShaped g bytes
all_begins g lawful ended bytes steps at stack rows h le =
    subst (λ u. BeginsWellShaped g u) (take_all at bytes le) (begins_here g lawful ended (take at bytes) (drop at bytes) stack rows h.reading)

-- if all known bytes after those read begin a token, all known bytes together begin a well shaped symbol
pub token_waits : (g : Table) (lawful : IsLawful g) (ended : Bool) (bytes : List ℕ) (steps at : ℕ) (x : Sym) (stack : List Entry) (rows : List Row) (c rest : List ℕ) → IsParse g ended bytes steps at (Symbol x ∷ stack) rows → BeginsToken g x c → drop at bytes ≡ c ++ rest → length bytes ≤ at + length c → BeginsWellShaped g bytes
token_waits g lawful ended bytes steps at x stack rows c rest h begun split le =
    let piece = cut bytes at c rest h.within split in
    let whole : take at bytes ++ c ≡ bytes = sym piece.front ∙ take_all (at + length c) bytes le in
    subst (λ u. BeginsWellShaped g u) whole (token_front g lawful ended (take at bytes) (drop at bytes) c x stack rows h.reading begun)

pub found_waits : (g : Table) (lawful : IsLawful g) (ended : Bool) (bytes : List ℕ) (steps at : ℕ) (x : Sym) (place : TokenPlace) (stack : List Entry) (rows : List Row) → IsParse g ended bytes steps at (Symbol x ∷ stack) rows → ReadsToken g.names x (drop at bytes) at place → length bytes ≤ place.end → BeginsWellShaped g bytes
found_waits g lawful ended bytes steps at x place stack rows h r le =
    token_waits g lawful ended bytes steps at x stack rows (bytes_of r.token) r.rest h (r.token, [], r.is, sym (append-nil (bytes_of r.token))) r.split (omega (arith, r.end))

pub broken_waits : (g : Table) (lawful : IsLawful g) (ended : Bool) (bytes : List ℕ) (steps at bad : ℕ) (x : Sym) (stack : List Entry) (rows : List Row) → IsParse g ended bytes steps at (Symbol x ∷ stack) rows → at ≤ bad → BreaksToken g.names x (drop at bytes) (bad - at) → length bytes ≤ bad → BeginsWellShaped g bytes
broken_waits g lawful ended bytes steps at bad x stack rows h from k le =
    token_waits g lawful ended bytes steps at x stack rows k.front k.rest h (k.begun, k.more, k.begins, k.begins_so) k.split (omega (arith, k.size_is))

-- where no rule can be taken, the next byte or the end is known
pub none_known : (g : Table) (k : ℕ) (ended : Bool) (bytes : List ℕ) (at : ℕ) → TakesNone g k ended (drop at bytes) → IsKnown ended bytes at
none_known g k ended bytes at none = go (drop at bytes) refl none
  where
    go : (r : List ℕ) → drop at bytes ≡ r → TakesNone g k ended r → IsKnown ended bytes at
    go [] e told = inr told
    go (b ∷ r) e found = inl (omega (arith, length-drop at bytes, ap length e))

pub both_not : (b : Bool) → b ≡ true → b ≡ false → ⊥
both_not b p q = cc

-- a step that runs out of memory
pub out_of_memory : (listed : ℕ → List Sym) (g : Table) (ended : Bool) (bytes : List ℕ) (old new : Parse) (r : Result Bool Refusal) (y : Refusal) → r ≡ Err y → y ≡ Memory → new.steps ≡ old.steps → MakesRow old new → IsStep listed g ended bytes old new r
out_of_memory listed g ended bytes old new r y p q same few = subst (λ u. IsStep listed g ended bytes old new u) (sym (p ∙ fault q)) (same, few)
  where
    fault : y ≡ Memory → (let refused : Refusal → Result Bool Refusal = λ u. Err u in refused y ≡ refused Memory)
    fault e = (let refused : Refusal → Result Bool Refusal = λ u. Err u in ap refused e)

-- the refusal that a `?` passes on
pub memory_passed : {T : Type 0} (r : Result T Refusal) (x y : Refusal) → r ≡ Err x → r ≡ Err Memory → y ≡ x → y ≡ Memory
memory_passed r x y p q e = cc
