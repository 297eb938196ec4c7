-- The beginnings of symbols, and their answers.
use Rattle.cpp_direct.proofs.AllGround.{◌≡◌, ◌≢◌, ◌≤◌, ◌⊎◌, ℕ, ◌+◌, inl, inr, length, List, [], ◌∷◌, ◌++◌, reverse, ◌||◌, Bool, true, false, None, nat_eq, refl, ap, sym, subst, ◌∙◌, arith, codes, cond, false≢true, ne_eqb, adjusting, Adjustment, among, by_table, clone, clone_text, construction, encoding_of, first_around, first_state, in_name, in_types, Kind, look_up, may_be_empty, named, nil, no_items, non_virtual, normal, nothing_there, of_name, Production, qualifiers_of, ref_of, same_bytes, signed_digits, special, special_texts, State, Term, thunk, thunk_text, tree, tree_of, Value, argument_of, AwaitsEncoding, AwaitsItems, AwaitsName, AwaitsNest, below, called_on, detail_of, Direct, Encoded, EncodedBehind, EndsBehind, has_const, is_guard, is_local, is_object, is_special_letter, is_type, IsFresh, IsMarkPlace, IsScoped, IsWriting, Kept, MarkPlace, no_scope, Open, Purpose, qualifiers, Reads, Serves, Shows, special_letters, Stands, Symbol, TakesItems, Writes, BaseOpened, Comes, EncodingOpened, Expects, GuardOpened, IsOffsetAt, ItemsOpened, Opened, StandsAt, SymbolOpened, mark_letters, Step, kept-same, none-kept, reads-then, never-explicit, thunk-filled, thunk-shows, clone-filled, clone-shows, guarded-shows, encoding-object, none-scoped}
use Rattle.cpp_direct.proofs.Moves.{stands-join, is_eaten, expects-empty}
use Rattle.cpp_direct.proofs.MovesOfEncodings.{symbol-starts, encoding-opens, special-opens, thunk-opens, virtual-thunk-opens, clone-opens, guard-opens, name-nested, table-opens}
use Rattle.cpp_direct.proofs.LettersTested.{codes_pass}
use Rattle.cpp_direct.proofs.TypesRead.{code_in, letter-listed}

-- ## Encodings

-- an accepted encoding ends the symbol
pub encoded-whole : (s : Symbol) (opened_ : SymbolOpened s) (e : Term) (at : ℕ) (st : State) → Comes s opened_.inner (tree e true) at st → Encoded s e at
encoded-whole s opened_ e at st comes = record {
  ends = λ here. opened_.ends e st (subst (λ n. Comes s opened_.inner (tree e true) n st) here comes);
  ends_in = λ suffix there whole is. opened_.ends_in e at suffix st comes there whole is;
}

-- in a symbol that names no local entity, an encoding ends the symbol
whole-behind : (s : Symbol) (lead : List ℕ) (e : Term) (at : ℕ) (st : State) → is_local s.bytes ≡ false → EndsBehind s lead e at → EncodedBehind s lead e at st
whole-behind s lead e at st apart p = record { whole = λ f. p; entity = λ is. absurd (false≢true (sym apart ∙ is)); member = λ is. absurd (false≢true (sym apart ∙ is)) }

-- a symbol that names neither a local entity nor a guard variable isn't the symbol of an object's guard variable
no-object : (s : List ℕ) → is_local s ≡ false → is_guard s ≡ false → is_object s ≡ false
no-object s apart other = rw (apart, other) refl

-- expects the encoding of a symbol, with nothing written yet
pub encoding-awaited : (s : Symbol) (w : Direct) → w.text.list.items ≡ [] → w.candidates.list.items ≡ [] → StandsAt s.bytes 0 (95 ∷ 90 ∷ []) → w.at ≡ 2
    → is_local s.bytes ≡ false → is_guard s.bytes ≡ false → AwaitsEncoding s w
unfolding first_state
encoding-awaited s w no_text no_candidate starts at_is apart other =
    let opened_ = symbol-starts s starts in
    record {
      kept = record { state = first_state; scope = no_scope; keeps = none-kept s w no_candidate (λ e. no-object s.bytes apart other) };
      around = first_around;
      outer = opened_.inner;
      begins = λ none. at_is ∙ sym (ap (λ b. cond b 3 2) apart);
      awaits = subst (λ n. Expects s Kind.Encoding first_around opened_.inner n first_state) (sym at_is) opened_.awaits;
      onward = λ e at st comes.
          whole-behind s w.text.list.items e at st apart (record {
            made = e;
            encoded = encoded-whole s opened_ e at st comes;
            shows = λ bytes p. subst (λ l. Shows (detail_of s) e (l ++ bytes)) (sym no_text) p;
          });
    }

-- expects the name of an encoding
pub encoding-expected : (s : Symbol) (w : Direct) (p : AwaitsEncoding s w) → EncodingOpened s p.outer w.at p.state
encoding-expected s w p = encoding-opens s p.outer p.around w.at p.state p.awaits

-- items may follow the name of an encoding
items-taken : (s : Symbol) (w : Direct) (p : AwaitsEncoding s w) (v : Value) (at : ℕ) (st : State) → ItemsOpened s p.outer w.at v at st
    → TakesItems s w.text.list.items v at st
unfolding in_types
items-taken s w p v at st items = record {
  around = in_types w.at (tree_of v);
  inner = items.inner;
  outside = refl;
  scope_is = refl;
  encoding_is = p.begins;
  no_lambda = refl;
  awaits = items.awaits;
  onward = λ l here now last. p.onward (encoding_of v (no_items l)) here now (items.onward l here now last);
}

-- an encoding's items, if it has any, follow its name
pub items-await : (s : Symbol) (w : Direct) (p : AwaitsEncoding s w) (v : Value) (at : ℕ) (st : State) → Comes s (encoding-expected s w p).inner v at st
    → AwaitsItems s w.text.list.items v at st
unfolding no_items may_be_empty
items-await s w p v at st comes =
    let t = items-taken s w p v at st ((encoding-expected s w p).onward v at st comes) in
    record { ends = t.onward nothing_there at st (expects-empty s Kind.Items t.around t.inner at st t.awaits refl); items = λ typed. t }

-- where an encoding is expected, its name is expected
pub name-awaited : (s : Symbol) (w : Direct) → AwaitsEncoding s w → AwaitsName s w
name-awaited s w p = record {
  kept = p.kept;
  encoding = w.at;
  outer = (encoding-expected s w p).inner;
  awaits = (encoding-expected s w p).awaits;
  onward = items-await s w p;
}

-- ## Thunks and clones

-- expects the base encoding of a thunk or of a clone, after a text that precedes it
base-awaited : (s : Symbol) (opened_ : SymbolOpened s) (made : Term → Term) (k : List ℕ) (w : Direct)
    → is_local s.bytes ≡ false → is_guard s.bytes ≡ false → BaseOpened s opened_.inner 2 made w.at first_state
    → w.text.list.items ≡ k → 1 ≤ length k → w.candidates.list.items ≡ []
    → ((e : Term) (bytes : List ℕ) → Shows (detail_of s) e bytes → Shows (detail_of s) (made e) (k ++ bytes)) → AwaitsEncoding s w
unfolding first_state
base-awaited s opened_ made k w apart other base text_is filled no_candidate shows = record {
  kept = record { state = first_state; scope = no_scope; keeps = none-kept s w no_candidate (λ e. no-object s.bytes apart other) };
  around = in_name 2;
  outer = base.inner;
  begins = λ none. absurd (omega (arith, filled, ap length (sym text_is ∙ none)));
  awaits = base.awaits;
  onward = λ e at st comes.
      whole-behind s w.text.list.items e at st apart (record {
        made = made e;
        encoded = encoded-whole s opened_ (made e) at st (base.onward e at st comes);
        shows = λ bytes p. subst (λ l. Shows (detail_of s) (made e) (l ++ bytes)) (sym text_is) (shows e bytes p);
      });
}

-- the base encoding is expected after the bytes of a thunk
thunk-awaited : (s : Symbol) (opened_ : SymbolOpened s) (by : Adjustment) (w : Direct) → is_local s.bytes ≡ false → is_guard s.bytes ≡ false
    → BaseOpened s opened_.inner 2 (thunk (adjusting by)) w.at first_state → w.text.list.items ≡ thunk_text (adjusting by) → w.candidates.list.items ≡ []
    → AwaitsEncoding s w
thunk-awaited s opened_ by w apart other base text_is no_candidate =
    base-awaited s opened_ (thunk (adjusting by)) (thunk_text (adjusting by)) w apart other base text_is (thunk-filled (adjusting by)) no_candidate
    (thunk-shows (detail_of s) (adjusting by))

-- a text that is written after bytes without a text is the whole output, if nothing was written before
thunk-written : (old middle new : Direct) (text : List ℕ) → IsFresh old → Reads old middle [] → Writes middle new text
    → (new.text.list.items ≡ text) × (new.candidates.list.items ≡ [])
thunk-written old middle new text fresh reads writes = (
  writes.text ∙ ap (λ l. l ++ text) (reads.text ∙ ap (λ l. l ++ []) fresh.no_text),
  ap (λ v. v.list.items) writes.candidates ∙ ap (λ v. v.list.items) reads.candidates ∙ fresh.no_candidate,
)

-- a thunk begins
pub thunk-begins : (s : Symbol) (old middle new : Direct) → IsFresh old → is_local s.bytes ≡ false → is_guard s.bytes ≡ false
    → StandsAt s.bytes 0 (95 ∷ 90 ∷ []) → StandsAt s.bytes 2 (84 ∷ []) → StandsAt s.bytes 3 (104 ∷ [])
    → IsOffsetAt s.bytes 4 middle.at → Reads old middle [] → Writes middle new (codes "non-virtual thunk to ") → AwaitsEncoding s new
unfolding thunk_text
thunk-begins s old middle new fresh apart other starts first second is reads writes =
    let opened_ = symbol-starts s starts in
    let by = non_virtual (signed_digits is.negative is.digits) in
    let opens = thunk-opens s opened_.inner first_around 2 middle.at first_state opened_.awaits first second is in
    let written = thunk-written old middle new (codes "non-virtual thunk to ") fresh reads writes in
    thunk-awaited s opened_ by new apart other (subst (λ n. BaseOpened s opened_.inner 2 (thunk (adjusting by)) n first_state) (sym writes.at) opens) written.0 written.1

-- a virtual thunk begins
pub virtual-thunk-begins : (s : Symbol) (old first_ middle new : Direct) → IsFresh old → is_local s.bytes ≡ false → is_guard s.bytes ≡ false
    → StandsAt s.bytes 0 (95 ∷ 90 ∷ []) → StandsAt s.bytes 2 (84 ∷ [])
    → StandsAt s.bytes 3 (118 ∷ []) → IsOffsetAt s.bytes 4 first_.at → Reads old first_ [] → IsOffsetAt s.bytes first_.at middle.at → Reads first_ middle []
    → Writes middle new (codes "virtual thunk to ") → AwaitsEncoding s new
unfolding thunk_text
virtual-thunk-begins s old first_ middle new fresh apart other starts first second is reads is_then reads_then writes =
    let opened_ = symbol-starts s starts in
    let by = by_table (signed_digits is.negative is.digits) (signed_digits is_then.negative is_then.digits) in
    let opens = virtual-thunk-opens s opened_.inner first_around 2 first_.at middle.at first_state opened_.awaits first second is is_then in
    let written = thunk-written old middle new (codes "virtual thunk to ") fresh (reads-then old first_ middle [] [] reads reads_then) writes in
    thunk-awaited s opened_ by new apart other (subst (λ n. BaseOpened s opened_.inner 2 (thunk (adjusting by)) n first_state) (sym writes.at) opens) written.0 written.1

clone-eaten : (letter : ℕ) → (letter ≡ 116) ⊎ (letter ≡ 110) → is_eaten Kind.CloneLetter Production.Mark letter ≡ true
unfolding is_eaten
clone-eaten letter (inl e) = rw e refl
clone-eaten letter (inr e) = rw e refl

-- a clone begins
pub clone-begins : (s : Symbol) (old new : Direct) (letter : ℕ) → IsFresh old → is_local s.bytes ≡ false → is_guard s.bytes ≡ false
    → s.is_wide ≡ true → (letter ≡ 116) ⊎ (letter ≡ 110)
    → StandsAt s.bytes 0 (95 ∷ 90 ∷ []) → StandsAt s.bytes 2 (71 ∷ 84 ∷ letter ∷ []) → Writes old new (clone_text letter) → AwaitsEncoding s (record new { at = 5 })
unfolding clone_text
clone-begins s old new letter fresh apart other wide is starts bytes writes =
    let opened_ = symbol-starts s starts in
    base-awaited s opened_ (clone letter) (clone_text letter) (record new { at = 5 }) apart other
    (clone-opens s opened_.inner first_around letter 2 first_state wide (clone-eaten letter is) opened_.awaits bytes)
    (writes.text ∙ ap (λ l. l ++ clone_text letter) fresh.no_text) (clone-filled (nat_eq letter 116))
    (ap (λ v. v.list.items) writes.candidates ∙ fresh.no_candidate) (clone-shows (detail_of s) letter)

-- ## Special objects

-- a letter in the table of special objects, other than A and M, is the letter of a special object of a type
special-known : (letter : ℕ) → letter ≢ 65 → letter ≢ 77 → look_up (letter ∷ []) special_texts ≢ [] → is_special_letter letter ≡ true
unfolding is_special_letter special_texts code_in codes_pass among
special-known letter of_type of_none there =
    let known : (nat_eq letter 65 || (nat_eq letter 77 || among special_letters letter)) ≡ true = letter-listed special_texts (65 ∷ 77 ∷ special_letters) letter refl there in
    subst (λ is. (is || among special_letters letter) ≡ true) (ne_eqb letter 77 of_none)
    (subst (λ is. (is || (nat_eq letter 77 || among special_letters letter)) ≡ true) (ne_eqb letter 65 of_type) known)

-- the letter of a special object, if it has a text, is in the symbol after the T
pub special-stands : (s : List ℕ) (letter : ℕ) → look_up (letter ∷ []) special_texts ≢ [] → StandsAt s 2 (84 ∷ [])
    → (letter ≢ 0 → StandsAt s 3 (letter ∷ [])) → StandsAt s 2 (84 ∷ letter ∷ [])
unfolding look_up special_texts same_bytes
special-stands s letter filled first there = stands-join s 2 (84 ∷ []) (letter ∷ []) first (there (λ e. filled (ap (λ l. look_up (l ∷ []) special_texts) e)))

-- the first type of a special symbol is expected
type-begins : (s : Symbol) (w : Direct) (entry : Open) (os : List Opened) → is_local s.bytes ≡ false → is_guard s.bytes ≡ false → w.at ≡ 4
    → w.candidates.list.items ≡ [] → w.waiting.list.items ≡ entry ∷ [] → argument_of (entry ∷ []) ≡ None
    → Stands s no_scope (entry ∷ []) os w.text.list.items → Expects s Kind.Type (in_name 2) os 4 first_state → IsWriting s w Step.Type
unfolding in_name first_state
type-begins s w entry os apart other at_is none_ waiting none stands expects = record {
  kept = record { state = first_state; scope = no_scope; keeps = none-kept s w none_ (λ e. no-object s.bytes apart other) };
  is_before = (
    record {
      os = os;
      around = in_name 2;
      outside = refl;
      stands = subst (λ ws. Stands s no_scope (reverse ws) os w.text.list.items) (sym waiting) stands;
      scoped = subst (λ ws. IsScoped no_scope (in_name 2) (reverse ws)) (sym waiting) (none-scoped no_scope (in_name 2) (entry ∷ []) none);
    },
    inl (subst (λ n. Expects s Kind.Type (in_name 2) os n first_state) (sym at_is) expects),
  );
}

-- a special object begins
pub special-begins : (s : Symbol) (w : Direct) (letter : ℕ) → is_local s.bytes ≡ false → is_guard s.bytes ≡ false
    → StandsAt s.bytes 0 (95 ∷ 90 ∷ []) → StandsAt s.bytes 2 (84 ∷ letter ∷ []) → letter ≢ 65 → letter ≢ 77 → w.at ≡ 4
    → w.text.list.items ≡ look_up (letter ∷ []) special_texts → look_up (letter ∷ []) special_texts ≢ [] → w.candidates.list.items ≡ []
    → w.waiting.list.items ≡ Open.Special ∷ [] → IsWriting s w Step.Type
special-begins s w letter apart other starts stands of_type of_none at_is written filled none_ waiting =
    let opened_ = symbol-starts s starts in
    let here = special-opens s opened_.inner first_around letter 2 first_state (special-known letter of_type of_none filled) opened_.awaits stands in
    type-begins s w Open.Special here.inner apart other at_is none_ waiting refl
    (letter, written, (λ e. filled (sym written ∙ e)), λ t at st comes. encoded-whole s opened_ (special letter t) at st (here.onward t at st comes)) here.awaits

-- a construction table begins
pub table-begins : (s : Symbol) (w : Direct) → s.is_wide ≡ true → is_local s.bytes ≡ false → is_guard s.bytes ≡ false
    → StandsAt s.bytes 0 (95 ∷ 90 ∷ []) → StandsAt s.bytes 2 (84 ∷ []) → StandsAt s.bytes 3 (67 ∷ []) → w.at ≡ 4
    → w.text.list.items ≡ [] → w.candidates.list.items ≡ [] → w.waiting.list.items ≡ Open.Derived ∷ [] → IsWriting s w Step.Type
table-begins s w wide apart other starts first second at_is no_text none_ waiting =
    let opened_ = symbol-starts s starts in
    let here = table-opens s opened_.inner first_around 2 first_state wide opened_.awaits (stands-join s.bytes 2 (84 ∷ []) (67 ∷ []) first second) in
    type-begins s w Open.Derived here.inner apart other at_is none_ waiting refl (
      no_text,
      λ t at st comes digits end is line.
          let base = here.onward t at st comes digits end is line in
          record { inner = base.inner; awaits = base.awaits; onward = λ u later now came. encoded-whole s opened_ (construction t (normal digits) u) later now (base.onward u later now came) },
    )
    here.awaits

-- ## Nested names

-- expects the first piece of a nested name after an N and the qualifiers of a member function, if the name of a function or of
-- data was expected there
pub nest-awaited : (s : Symbol) (w : Direct) (kept : Kept s w) (purpose : Purpose) (encoding : ℕ) (inner : List Opened) (at first : ℕ) (place : MarkPlace)
    → is_type purpose ≡ false → Expects s Kind.CompleteName (in_name encoding) inner at kept.state → StandsAt s.bytes at (78 ∷ []) → first ≡ at + 1
    → IsMarkPlace s.bytes first place → w.at ≡ place.end
    → ((outer : List Opened) → ((t : Term) (listed : Bool) (here : ℕ) (now : State) → Comes s outer (tree t listed) here now
    → Comes s inner (named t (qualifiers (has_const place.mark)) (called_on place.mark)) here now)
    → Serves s purpose (below s kept.scope (reverse w.waiting.list.items)) outer w.text.list.items) → AwaitsNest s w purpose
unfolding in_name
nest-awaited s w kept purpose encoding inner at first place own expects letter next is here serves =
    let letters = mark_letters (has_const place.mark) (called_on place.mark) in
    let nest = name-nested s inner (in_name encoding) (has_const place.mark) (called_on place.mark) at kept.state (never-explicit place.mark) expects
    (stands-join s.bytes at (78 ∷ []) letters letter (subst (λ k. StandsAt s.bytes k letters) next is.stands)) in
    record {
      kept = kept;
      around = in_name encoding;
      outside = refl;
      outer = nest.inner;
      awaits = subst (λ k. Expects s Kind.Nest (in_name encoding) nest.inner k kept.state) (omega (arith, here, next, is.ends)) nest.awaits;
      scoped = λ e. absurd (false≢true (sym own ∙ e));
      serves = serves nest.inner nest.onward;
    }

-- expects the first piece of a nested name, as the name of a symbol's encoding
pub nested-begins : (s : Symbol) (old : Direct) (first : ℕ) (place : MarkPlace) → AwaitsName s old → StandsAt s.bytes old.at (78 ∷ []) → first ≡ old.at + 1
    → IsMarkPlace s.bytes first place → AwaitsNest s (record old { at = place.end }) (Purpose.Name place.mark)
nested-begins s old first place p letter next is =
    nest-awaited s (record old { at = place.end }) (kept-same s old (record old { at = place.end }) refl refl refl p.kept) (Purpose.Name place.mark) p.encoding p.outer
    old.at first place refl p.awaits letter next is refl
    (λ outer named_ t listed here now comes. p.onward (named t (qualifiers (has_const place.mark)) (called_on place.mark)) here now (named_ t listed here now comes))

-- ## Guard variables

-- expects the name of the object that a guard variable guards
pub object-begins : (s : Symbol) (old new : Direct) → IsFresh old → is_local s.bytes ≡ false → is_guard s.bytes ≡ true
    → StandsAt s.bytes 0 (95 ∷ 90 ∷ []) → StandsAt s.bytes 2 (71 ∷ 86 ∷ []) → Writes old new (codes "guard variable for ") → AwaitsName s (record new { has_scope = true; at = 4 })
unfolding first_state
object-begins s old new fresh apart guard starts marks writes =
    let opened_ = symbol-starts s starts in
    let guard_ : GuardOpened s opened_.inner 2 4 first_state = guard-opens s opened_.inner first_around 2 first_state opened_.awaits marks in
    let text_is : new.text.list.items ≡ codes "guard variable for " = writes.text ∙ ap (λ l. l ++ codes "guard variable for ") fresh.no_text in
    record {
      kept = record {
        state = first_state;
        scope = no_scope;
        keeps = none-kept s (record new { has_scope = true; at = 4 }) (ap (λ v. v.list.items) writes.candidates ∙ fresh.no_candidate) (λ e. absurd (false≢true (sym e)));
      };
      encoding = 2;
      outer = guard_.inner;
      awaits = guard_.awaits;
      onward = λ v at st comes.
          let made = of_name 86 (tree_of v) (qualifiers_of v) (ref_of v) in
          record {
            ends = whole-behind s new.text.list.items (encoding_of v nil) at st apart (record {
              made = made;
              encoded = encoded-whole s opened_ made at st (guard_.onward v at st comes);
              shows = λ bytes p. subst (λ l. Shows (detail_of s) made (l ++ bytes)) (sym text_is)
                  (guarded-shows (detail_of s) (tree_of v) (qualifiers_of v) (ref_of v) bytes (subst (λ e. Shows (detail_of s) e bytes) (encoding-object v) p));
            });
            items = λ typed. let guarded : is_object s.bytes ≡ true = rw (apart, guard) refl in absurd (false≢true (sym typed ∙ guarded));
          };
    }
