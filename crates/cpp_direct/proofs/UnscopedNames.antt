-- Names of encodings that are in no class, and of local entities: the state of the writer after them.
use Rattle.cpp_direct.proofs.AllGround.{◌≡◌, ◌≢◌, ℕ, ◌+◌, length, List, [], ◌∷◌, ◌++◌, Bool, true, false, not, cond, refl, ap, sym, subst, ◌∙◌, arith, append_assoc, codes, append-nil, false≢true, after, alone, any_value, arguments_of, encoding_of, first_around, first_state, has_return_type, in_name, in_std, in_types, inside, instance, is_structor, Kind, may_be_empty, no_items, object, of_name, operator, source, source_text, State, Term, tree_of, Value, with_tag, piece, tree, qualifiers_of, ref_of, nothing_there, named, unqualified, added, AwaitsEncoding, AwaitsEntity, AwaitsSource, detail_of, Direct, Encoded, encoding_place, EntityBehind, HasName, is_angle, is_local, IsFresh, IsNameEnded, IsOperatorAt, IsSymbolEnded, IsUnscoped, IsWriting, ItemsOf, Kept, Lists, no_scope, nowhere, OpensArguments, operator_text, Prints, PrintsName, Reads, Shows, Symbol, tag_text, Writes, Comes, Discriminator, EncodingOpened, GuardOpened, IsDiscriminatorAt, IsEntityAt, IsNameAt, IsTagAt, LocalOpened, Named, Opened, StandsAt, SymbolOpened, entity_in, Mark, Open, Step, name-unmarked, no-arguments, alone-arguments, expects-empty, stands-join, stands-split, kept-grown, kept-read, kept-same, none-kept, list-begins, kept-with, reads-then, reads-of, arguments-open, piece-comes, tag-follows, operator-listed, as-name, source-prints, std-prints, operator-names, operator-prints, std-operator-names, std-operator-prints, guarded-shows, has-plain}
use Rattle.cpp_direct.proofs.AllRead.{encoding-expected, items-await, encoded-whole, tagged-names, tagged-prints, name-source, name-internal, name-operator, name-std, operator-piece-comes, symbol-starts, encoding-opens, guard-opens, local-opens, entity-shows}

-- a test is false if its negation is true
pub not-so : (b other : Bool) → b ≡ other → not b ≡ true → other ≡ false
not-so true other e h = absurd (false≢true h)
not-so false other e h = sym e

-- ## What was read

-- an accepted name expects its items, and arguments may follow it
named-has : (s : Symbol) (w : Direct) (p : AwaitsEncoding s w) (t : Term) (at : ℕ)
    → Named s (encoding-expected s w p).inner (in_name w.at) t at p.state → HasName s w.text.list.items w.at t at p.state
named-has s w p t at is = record {
  inner = is.inner;
  awaits = is.awaits;
  bare = λ here now comes. items-await s w p (tree t false) here now (is.bare here now comes);
  argued = λ a here now comes. items-await s w p (tree (instance t a) false) here now (is.argued a here now comes);
  renamed = λ u here now comes. items-await s w p (tree u false) here now (is.renamed u here now comes);
}

name-has : (s : Symbol) (internal : Bool) (w : Direct) (p : AwaitsEncoding s w) (at : ℕ) (name : List ℕ) (end : ℕ)
    → (internal ≡ true → StandsAt s.bytes w.at (76 ∷ [])) → at ≡ w.at + cond internal 1 0 → IsNameAt s.bytes at name end
    → HasName s w.text.list.items w.at (alone (source internal name)) end p.state
unfolding in_name
name-has s true w p at name end letter at_is is =
    let encoding = encoding-expected s w p in
    named-has s w p (alone (source true name)) end
    (name-internal s encoding.inner (in_name w.at) w.at name end p.state encoding.awaits refl (letter refl) (subst (λ n. IsNameAt s.bytes n name end) at_is is))
name-has s false w p at name end letter at_is is =
    let encoding = encoding-expected s w p in
    let here : at ≡ w.at = omega (arith, at_is) in
    named-has s w p (alone (source false name)) end
    (name-source s encoding.inner (in_name w.at) w.at name end p.state encoding.awaits refl (subst (λ n. IsNameAt s.bytes n name end) here is))

-- A name that is in no class was read and written.
unscoped-read : (s : Symbol) (old new : Direct) (takes : Bool) (own : Term) (bytes : List ℕ) (kept : Kept s old) (encoding : ℕ)
    → HasName s old.text.list.items encoding own new.at kept.state
    → Reads old new bytes → PrintsName (detail_of s) own bytes → (takes ≡ true → Prints (detail_of s) own bytes false) → has_return_type own ≡ false
    → is_structor own ≡ false → (from : ℕ) → from ≡ length old.text.list.items → IsUnscoped s new from takes
unscoped-read s old new takes own bytes kept encoding has reads names prints no_return no_structor from from_is = record {
  kept = kept-read s old new bytes reads kept;
  encoding = encoding;
  own = own;
  front = old.text.list.items;
  bytes = bytes;
  has = has;
  written = reads.text;
  from_is = from_is;
  names = names;
  prints = prints;
  no_return = no_return;
  no_structor = no_structor;
}

-- a source name
pub source-unscoped : (s : Symbol) (internal : Bool) (old new : Direct) (name : List ℕ) → AwaitsSource s old internal → IsNameAt s.bytes old.at name new.at
    → name ≢ [] → Reads old new (source_text name) → (from : ℕ) → from ≡ length old.text.list.items → IsUnscoped s new from true
unfolding has_return_type arguments_of is_structor
source-unscoped s internal old new name p is filled reads from from_is =
    let own = alone (source internal name) in
    let prints = source-prints internal name filled (name-unmarked s.bytes old.at name new.at is) in
    unscoped-read s old new true own (source_text name) (kept-same s (record old { at = p.before }) old refl refl refl p.awaits.kept) p.before
    (name-has s internal (record old { at = p.before }) p.awaits old.at name new.at p.letter p.at_is is)
    reads (as-name own (source_text name) false prints) (λ e. prints) refl refl from from_is

-- an operator
pub operator-unscoped : (s : Symbol) (old new : Direct) (first second : ℕ) (takes : Bool) → AwaitsEncoding s old → IsOperatorAt s.bytes old.at first second new.at
    → (takes ≡ true → is_angle first second ≡ false) → Reads old new (operator_text first second) → (from : ℕ) → from ≡ length old.text.list.items
    → IsUnscoped s new from takes
unfolding has_return_type arguments_of is_structor in_name
operator-unscoped s old new first second takes p is plain reads from from_is =
    let own = alone (operator first second) in
    let encoding = encoding-expected s old p in
    unscoped-read s old new takes own (operator_text first second) p.kept old.at
    (subst (λ n. HasName s old.text.list.items old.at own n p.state) (sym is.ends)
    (named-has s old p own (old.at + 2)
    (name-operator s encoding.inner (in_name old.at) old.at p.state first second (operator-listed first second is.known) encoding.awaits refl is.stands)))
    reads (operator-names first second) (λ e. operator-prints first second (plain e)) refl refl from from_is

-- a step that writes the text of an St and a step that reads a name after it are one step
std-reads : (old marked read : Direct) (n : ℕ) (bytes : List ℕ) → Writes (record old { at = n }) marked (codes "std::") → Reads marked read bytes
    → Reads old read (codes "std::" ++ bytes)
std-reads old marked read n bytes w r =
    reads-then old marked read (codes "std::") bytes
    (record { text = w.text; candidates = w.candidates; waiting = w.waiting; nest = w.nest; scope = w.scope }) r

-- a source name in std
pub std-source-unscoped : (s : Symbol) (old marked read : Direct) (first second : ℕ) (name : List ℕ) → AwaitsEncoding s old
    → StandsAt s.bytes old.at (83 ∷ []) → first ≡ old.at + 1 → StandsAt s.bytes first (116 ∷ []) → second ≡ first + 1
    → Writes (record old { at = second }) marked (codes "std::") → IsNameAt s.bytes marked.at name read.at → name ≢ [] → Reads marked read (source_text name)
    → (from : ℕ) → from ≡ length old.text.list.items → IsUnscoped s read from true
unfolding has_return_type arguments_of is_structor
std-source-unscoped s old marked read first second name p letter next mark then_ w is filled r from from_is =
    let own = in_std (source false name) in
    let x = codes "std::" ++ source_text name in
    let encoding = encoding-expected s old p in
    let prints = std-prints false name filled (name-unmarked s.bytes marked.at name read.at is) in
    let here = stands-join s.bytes old.at (83 ∷ []) (116 ∷ []) letter (subst (λ n. StandsAt s.bytes n (116 ∷ [])) next mark) in
    let there = subst (λ n. IsNameAt s.bytes n name read.at) (omega (arith, next, then_, w.at)) is in
    unscoped-read s old read true own x p.kept old.at
    (named-has s old p own read.at
    (name-std s encoding.inner (in_name old.at) old.at (source false name) read.at p.state encoding.awaits here
    (λ inner expects. piece-comes s inner (in_name old.at) (old.at + 2) p.state name read.at expects there)))
    (std-reads old marked read second (source_text name) w r) (as-name own x false prints) (λ e. prints) refl refl from from_is

-- an operator in std
pub std-operator-unscoped : (s : Symbol) (old marked read : Direct) (first second : ℕ) (a b : ℕ) (takes : Bool) → AwaitsEncoding s old
    → StandsAt s.bytes old.at (83 ∷ []) → first ≡ old.at + 1 → StandsAt s.bytes first (116 ∷ []) → second ≡ first + 1
    → Writes (record old { at = second }) marked (codes "std::") → IsOperatorAt s.bytes marked.at a b read.at → (takes ≡ true → is_angle a b ≡ false)
    → Reads marked read (operator_text a b) → (from : ℕ) → from ≡ length old.text.list.items → IsUnscoped s read from takes
unfolding has_return_type arguments_of is_structor
std-operator-unscoped s old marked read first second a b takes p letter next mark then_ w is plain r from from_is =
    let own = in_std (operator a b) in
    let encoding = encoding-expected s old p in
    let here = stands-join s.bytes old.at (83 ∷ []) (116 ∷ []) letter (subst (λ n. StandsAt s.bytes n (116 ∷ [])) next mark) in
    let there = subst (λ n. IsOperatorAt s.bytes n a b read.at) (omega (arith, next, then_, w.at)) is in
    unscoped-read s old read takes own (codes "std::" ++ operator_text a b) p.kept old.at
    (named-has s old p own read.at
    (name-std s encoding.inner (in_name old.at) old.at (operator a b) read.at p.state encoding.awaits here
    (λ inner expects. subst (λ n. Comes s inner (piece (operator a b)) n p.state) (sym there.ends)
    (operator-piece-comes s inner (in_name old.at) (old.at + 2) p.state a b (operator-listed a b there.known) expects there.stands))))
    (std-reads old marked read second (operator_text a b) w r) (std-operator-names a b) (λ e. std-operator-prints a b (plain e)) refl refl from from_is

-- ## What comes after the name

-- no arguments follow the name
pub unscoped-bare : (s : Symbol) (w : Direct) (from : ℕ) (takes : Bool) → IsUnscoped s w from takes → IsNameEnded s w Mark.Plain false nowhere from
unfolding may_be_empty
unscoped-bare s w from takes p = record {
  kept = p.kept;
  has = has-plain s w.text.list.items from p.own p.front p.bytes p.written p.from_is p.names;
  no_return = λ e. p.no_return;
  returns = λ e. absurd (false≢true e);
  names = no-arguments w.text.list.items p.own;
  awaits = p.has.bare w.at p.state
      (expects-empty s Kind.MaybeArguments (after p.own false (in_name p.encoding)) p.has.inner w.at p.state p.has.awaits refl);
}

-- a tag follows the name
pub unscoped-tagged : (s : Symbol) (old new : Direct) (from : ℕ) (takes : Bool) (tag : List ℕ) → s.is_wide ≡ true → IsUnscoped s old from takes
    → IsTagAt s.bytes old.at tag new.at → Reads old new (tag_text tag) → IsUnscoped s new from takes
unfolding with_tag has_return_type arguments_of is_structor
unscoped-tagged s old new from takes tag wide p is reads =
    let g = tag-follows s p.has.inner (in_name p.encoding) p.own old.at p.state tag new.at wide p.has.awaits is in
    let own : Term = with_tag p.own tag in
    let plain = name-unmarked s.bytes (old.at + 1) tag new.at is.1 in
    record {
      kept = kept-read s old new (tag_text tag) reads p.kept;
      encoding = p.encoding;
      own = own;
      front = p.front;
      bytes = p.bytes ++ tag_text tag;
      has = record {
        inner = g.inner;
        awaits = g.awaits;
        bare = λ at st comes. p.has.renamed own at st (g.bare at st comes);
        argued = λ a at st comes. p.has.renamed (instance own a) at st (g.argued a at st comes);
        renamed = λ u at st comes. p.has.renamed u at st (g.renamed u at st comes);
      };
      written = reads.text ∙ ap (λ l. l ++ tag_text tag) p.written ∙ append_assoc p.front p.bytes (tag_text tag);
      from_is = p.from_is;
      names = tagged-names (is_structor p.own) p.own p.bytes p.names tag plain;
      prints = λ e. tagged-prints (is_structor p.own) p.own p.bytes (p.prints e) tag plain;
      no_return = refl;
      no_structor = p.no_structor;
    }

-- arguments follow the name
pub unscoped-argued : (s : Symbol) (read kept new : Direct) (from : ℕ) (takes : Bool) → IsUnscoped s read from takes → takes ≡ true → StandsAt s.bytes read.at (73 ∷ [])
    → Lists read kept (added read from false false) → OpensArguments (detail_of s) kept new (Open.NameArguments from) → IsWriting s new (Step.List true)
unfolding in_name inside
unscoped-argued s read kept new from takes p some there lists opening_ =
    let here = in_name p.encoding in
    let list = arguments-open s p.has.inner here p.own false read.at p.state
    (alone-arguments s (after p.own false here) p.has.inner read.at p.state p.has.awaits) there in
    let prints = p.prints some in
    list-begins s read kept new (added read from false false)
    (kept-with s read kept p.kept p.front p.bytes from p.own here false false p.written p.from_is prints (λ e. absurd (false≢true e))
    lists.text lists.candidates lists.scope) (Open.NameArguments from) p.front p.bytes p.own lists opening_ (p.from_is, prints, p.no_structor) p.written (
      inside here,
      list.inner,
      refl,
      (λ e. absurd (false≢true e)),
      list.awaits,
      (λ l at now comes ended. p.has.argued (no_items l) (at + 1) now (list.onward l at now comes ended)),
    )

-- ## The beginnings of local entities

-- a name without items is the encoding of a symbol
object-comes : (s : Symbol) (opened_ : SymbolOpened s) (encoding_ : EncodingOpened s opened_.inner 2 first_state) (v : Value) (at : ℕ) (st : State)
    → Comes s encoding_.inner v at st → Comes s opened_.inner (tree (object (tree_of v) (qualifiers_of v) (ref_of v)) true) at st
unfolding encoding_of no_items may_be_empty
object-comes s opened_ encoding_ v at st comes =
    let items = encoding_.onward v at st comes in
    items.onward nothing_there at st (expects-empty s Kind.Items (in_types 2 (tree_of v)) items.inner at st items.awaits refl)

-- expects the encoding that contains an entity, after a text that is shown before the encoding's text
entity-awaited : (s : Symbol) (opened_ : SymbolOpened s) (w : Direct) (lead : List ℕ) (outer : List Opened) (made : Term → Term) → is_local s.bytes ≡ true
    → w.text.list.items ≡ lead → w.candidates.list.items ≡ [] → (w.text.list.items ≡ [] → w.at ≡ encoding_place s.bytes) → LocalOpened s outer (in_name 2) w.at first_state
    → ((t : Term) (at : ℕ) (st : State) → Comes s outer (named t unqualified any_value) at st → Comes s opened_.inner (tree (made t) true) at st)
    → ((t : Term) (bytes : List ℕ) → Shows (detail_of s) (object t unqualified any_value) bytes → Shows (detail_of s) (made t) (lead ++ bytes))
    → (StandsAt s.bytes 2 (90 ∷ []) → (lead ≡ []) × ((v : Value) (at : ℕ) (st : State) → Comes s outer v at st → ItemsOf s 2 (λ f end last. Encoded s f end) v at st))
    → AwaitsEncoding s w
unfolding first_state
entity-awaited s opened_ w lead outer made is_there text_is none begins here comes_ shows_ items_ = record {
  kept = record { state = first_state; scope = no_scope; keeps = none-kept s w none (λ e. rw is_there refl) };
  around = in_name 2;
  outer = here.inner;
  begins = begins;
  awaits = here.awaits;
  onward = λ e at st comes. record {
    whole = λ apart. absurd (false≢true (sym apart ∙ is_there));
    entity = λ there internal name digit end is.
        let t = entity_in e internal name digit in
        record {
          made = made t;
          encoded = encoded-whole s opened_ (made t) end st (comes_ t end st ((here.onward e at st comes).0 internal name digit end is));
          shows = λ bytes p.
              let shown = bytes ++ codes "::" ++ source_text name in
              subst (λ l. Shows (detail_of s) (made t) (l ++ shown)) (sym text_is)
              (shows_ t shown (entity-shows (detail_of s) e bytes p internal name digit is.filled (name-unmarked s.bytes _ name is.middle is.is_name)));
        };
    member = λ there two. let items = items_ two in record {
      none = text_is ∙ items.0;
      made = e;
      encloses = λ bytes p. p;
      opens = λ const on other ends letters.
          let f = (here.onward e at st comes).1 const on other ends letters in
          record { around = f.around; inner = f.inner; awaits = f.awaits; onward = λ t listed to now came. items.1 _ to now (f.onward t listed to now came) };
    };
  };
}

-- the name of a symbol's encoding, and the items that may follow it, end the symbol
items-whole : (s : Symbol) (opened_ : SymbolOpened s) (encoding_ : EncodingOpened s opened_.inner 2 first_state) (v : Value) (at : ℕ) (st : State)
    → Comes s encoding_.inner v at st → ItemsOf s 2 (λ f end last. Encoded s f end) v at st
unfolding in_types
items-whole s opened_ encoding_ v at st comes =
    let items = encoding_.onward v at st comes in
    record {
      around = in_types 2 (tree_of v);
      inner = items.inner;
      outside = refl;
      scope_is = refl;
      encoding_is = refl;
      no_lambda = refl;
      awaits = items.awaits;
      onward = λ l end last came. encoded-whole s opened_ (encoding_of v (no_items l)) end last (items.onward l end last came);
    }

-- only one byte is at a place
one-byte : (s : List ℕ) (at a b : ℕ) → StandsAt s at (a ∷ []) → StandsAt s at (b ∷ []) → a ≡ b
one-byte s at a b x y = cc (sym x.1 ∙ y.1)

-- a symbol of a local entity begins, with no text before the encoding's text
pub local-begins : (s : Symbol) (w : Direct) → IsFresh w → is_local s.bytes ≡ true → StandsAt s.bytes 0 (95 ∷ 90 ∷ []) → StandsAt s.bytes 2 (90 ∷ [])
    → AwaitsEncoding s (record w { at = 3 })
unfolding tree_of qualifiers_of ref_of first_state
local-begins s w fresh is_there starts letter =
    let opened_ = symbol-starts s starts in
    let encoding_ = encoding-opens s opened_.inner first_around 2 first_state opened_.awaits in
    entity-awaited s opened_ (record w { at = 3 }) [] encoding_.inner (λ t. object t unqualified any_value) is_there fresh.no_text fresh.no_candidate
    (λ none. sym (ap (λ b. cond b 3 2) is_there)) (local-opens s encoding_.inner (in_name 2) 2 first_state encoding_.awaits letter)
    (λ t at st comes. object-comes s opened_ encoding_ (named t unqualified any_value) at st comes) (λ t bytes p. p)
    (λ two. (refl, items-whole s opened_ encoding_))

-- a symbol of a local entity's guard variable begins
pub guard-begins : (s : Symbol) (old new : Direct) → IsFresh old → is_local s.bytes ≡ true → StandsAt s.bytes 0 (95 ∷ 90 ∷ []) → StandsAt s.bytes 2 (71 ∷ 86 ∷ [])
    → StandsAt s.bytes 4 (90 ∷ []) → Writes old new (codes "guard variable for ") → AwaitsEncoding s (record new { at = 5 })
unfolding tree_of qualifiers_of ref_of first_state
guard-begins s old new fresh is_there starts marks stands writes =
    let opened_ = symbol-starts s starts in
    let guard_ : GuardOpened s opened_.inner 2 4 first_state = guard-opens s opened_.inner first_around 2 first_state opened_.awaits marks in
    let text_is : new.text.list.items ≡ codes "guard variable for " = writes.text ∙ ap (λ l. l ++ codes "guard variable for ") fresh.no_text in
    entity-awaited s opened_ (record new { at = 5 }) (codes "guard variable for ") guard_.inner (λ t. of_name 86 t unqualified any_value) is_there text_is
    (ap (λ v. v.list.items) writes.candidates ∙ fresh.no_candidate) (λ none. cc (sym text_is ∙ none))
    (local-opens s guard_.inner (in_name 2) 4 first_state guard_.awaits stands) (λ t at st comes. guard_.onward (named t unqualified any_value) at st comes)
    (λ t bytes p. guarded-shows (detail_of s) t unqualified any_value bytes p)
    (λ two. absurd (omega (arith, one-byte s.bytes 2 71 90 (stands-split s.bytes 2 (71 ∷ []) (86 ∷ []) marks).0 two)))

-- ## Ends

-- an entity with its name and discriminator ends the symbol
pub entity-ended : (s : Symbol) (internal : Bool) (old pushed read last : Direct) → AwaitsEntity s old internal → Writes old pushed (codes "::")
    → (name : List ℕ) → IsNameAt s.bytes pushed.at name read.at → name ≢ [] → Reads pushed read (source_text name)
    → (digit : Discriminator) → IsDiscriminatorAt s.bytes read.at digit last.at → Reads read last [] → IsSymbolEnded s last
entity-ended s internal old pushed read last p one name is_name filled two digit told three =
    let e = p.ended in
    let n = source_text name in
    let is : IsEntityAt s.bytes p.before internal name digit last.at = record {
      first = p.first;
      letter = p.letter;
      middle = read.at;
      is_name = subst (λ k. IsNameAt s.bytes k name read.at) (one.at ∙ p.at_is) is_name;
      filled = filled;
      discriminator = told;
    } in
    let behind : EntityBehind s e.lead e.e name last.at = e.behind.entity p.is_entity internal name digit last.at is in
    let whole = reads-then old read last (codes "::" ++ n) [] (reads-then old pushed read (codes "::") n (reads-of old pushed (codes "::") one) two) three in
    let written : last.text.list.items ≡ e.lead ++ (e.bytes ++ codes "::" ++ n) =
    whole.text ∙ ap (λ l. old.text.list.items ++ l) (append-nil (codes "::" ++ n)) ∙ sym (append_assoc old.text.list.items (codes "::") n)
    ∙ ap (λ l. l ++ codes "::" ++ n) (sym (append-nil old.text.list.items) ∙ e.written) ∙ simp append_assoc in
    record {
      kept = kept-grown s (record old { at = p.before }) last (codes "::" ++ n ++ []) whole.text whole.candidates whole.scope e.kept;
      e = behind.made;
      encoded = behind.encoded;
      shows = subst (λ l. Shows (detail_of s) behind.made l) (sym written) (behind.shows e.bytes e.encloses);
    }
