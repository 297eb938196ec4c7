-- How a symbol ends: its encoding's name, its return type, its parameters, and what follows them.
use Rattle.cpp_direct.proofs.AllGround.{absent, among, arguments_of, Around, builtin, Detail, encoding_of, encoding_text, function, is_empty, is_void, Kind, list, may_be_empty, nil, no_items, nothing_there, parameters, qualifier_text, qualifiers_of, ref_of, ref_text, source_text, State, symbol, Term, tree, tree_of, types_of, Value, ◌≡◌, ◌≢◌, ◌⊎◌, refl, ap, sym, ◌∙◌, subst, ℕ, ◌+◌, ◌-◌, ◌≤◌, List, [], ◌∷◌, ◌++◌, length, take, drop, reverse, inl, inr, Bool, true, false, nat_eq, arith, codes, append-nil, append_assoc, ends_with, false≢true, length-append, length-drop, take_rest, drop-append_seam, take-append_seam, AreLeft, AreParametersRead, Arguments, AwaitsParameters, called_on, Cuts, detail_of, Direct, Encloses, Encoded, EncodedBehind, EndsBehind, Fronts, has_const, HasArguments, HasInstance, HasParameters, HasScope, in_front_of_next, is_builtin, is_local, is_object, IsEncodedAt, IsEncodingEnded, IsFrontRead, IsFunctionEnded, IsInstance, IsNamedSo, IsNameEnded, IsNameScoped, IsOwnName, IsScoped, IsSymbolEnded, IsWhole, IsWriting, ItemsGoOn, Keeps, Kept, Leaves, list_of, list_with, Mark, mark_text, no_scope, Open, ParametersGoOn, plain_encoding, PrintsName, qualifiers, Scope, separator, Shows, Stands, Symbol, TakesItems, Writes, Comes, Expects, IsSuffix, ListGoesOn, Opened, StandsAt, Hiding, Step, suffix-unmarked, candidates-left, keeps-as, kept-same, kept-written, none-kept, none-named, none-single, reverse-last, type-comes, expects-empty, element-awaits, builtin-comes, PrintsItems, list-before, list-in, list-with-none, list-more, none-print-in, has-none, has-parameters, entry-scoped, parameters-as, name-stays, function-shows, mark-opens, object-encoded, encoding-plain, made-with, made-void, parameters-before, symbol-text, symbol-cost, suffix-text, suffix-cost, parameters-kept, encoding-returned, front-shows}
use Rattle.std.specs.Cmp.Lexicographic.{pointwise}
use Rattle.cpp_direct.proofs.PrintedLocals.{object-enclosing, function-encloses, name-shows, returned-enclosing, returned-shows}

-- ## The end

-- if an encoding ends with the symbol, the encoding's text is the text of the whole symbol
pub whole-plain : (s : Symbol) (e : Term) (at : ℕ) (text : List ℕ) → Encoded s e at → Shows (detail_of s) e text → at ≡ length s.bytes → IsWhole s text
whole-plain s e at text encoded shows ended = record {
  whole = symbol e [];
  stands = encoded.ends ended;
  text_is = symbol-text (detail_of s) e text shows;
  cost = symbol-cost (detail_of s) e text shows;
}

-- if a suffix follows an encoding, the suffix in parentheses follows the encoding's text
pub whole-suffixed : (s : Symbol) (e : Term) (at : ℕ) (text suffix : List ℕ) → Encoded s e at → Shows (detail_of s) e text → StandsAt s.bytes at suffix
    → at + length suffix ≡ length s.bytes → IsSuffix suffix → IsWhole s (text ++ codes " (" ++ suffix ++ codes ")")
whole-suffixed s e at text [] encoded shows stands ended is = absurd is
whole-suffixed s e at text (d ∷ rest) encoded shows stands ended is = record {
  whole = symbol e (d ∷ rest);
  stands = encoded.ends_in (d ∷ rest) stands ended is;
  text_is = suffix-text (detail_of s) e text shows d rest (suffix-unmarked (d ∷ rest) is);
  cost = suffix-cost (detail_of s) e text shows d rest;
}

-- the rest of a symbol is at its place, and ends the symbol
pub rest-stands : (s suffix : List ℕ) (at : ℕ) → at ≤ length s → suffix ≡ take (length s - at) (drop at s)
    → StandsAt s at suffix × (at + length suffix ≡ length s)
rest-stands s suffix at inside is =
    let same : suffix ≡ drop at s = is ∙ take_rest s at in
    (([], sym same ∙ sym (append-nil suffix)), omega (arith, inside, ap length same, length-drop at s))

-- the qualifiers of an encoding are written
pub marks-written : (s : Symbol) (old new : Direct) (mark : Mark) → IsEncodingEnded s old mark → Writes old new (mark_text mark)
    → IsEncodingEnded s new Mark.Plain
marks-written s old new mark p writes = record {
  kept = kept-written s old new (mark_text mark) writes p.kept;
  e = p.e;
  lead = p.lead;
  bytes = p.bytes;
  written = append-nil new.text.list.items ∙ writes.text ∙ p.written;
  shows = p.shows;
  encloses = p.encloses;
  now = p.now;
  behind = subst (λ n. EncodedBehind s p.lead p.e n p.now) (sym writes.at) p.behind;
  same = p.same;
}

-- an encoding that contains no entity ends the symbol
pub symbol-ended : (s : Symbol) (w : Direct) → IsEncodingEnded s w Mark.Plain → is_local s.bytes ≡ false → IsSymbolEnded s w
symbol-ended s w p apart =
    let behind : EndsBehind s p.lead p.e w.at = p.behind.whole apart in
    record {
      kept = p.kept;
      e = behind.made;
      encoded = behind.encoded;
      shows = subst (λ l. Shows (detail_of s) behind.made l) (sym p.written ∙ append-nil w.text.list.items) (behind.shows p.bytes p.shows);
    }

-- a symbol without a suffix is written
pub ends-plain : (s : Symbol) (suffix : List ℕ) (w : Direct) → IsSymbolEnded s w → w.at ≤ length s.bytes → suffix ≡ take (length s.bytes - w.at) (drop w.at s.bytes)
    → length suffix ≡ 0 → IsWriting s w Step.Ended
ends-plain s suffix w p inside is none = record {
  kept = p.kept;
  is_before = whole-plain s p.e w.at w.text.list.items p.encoded p.shows
      (omega (arith, none, (rest-stands s.bytes suffix w.at inside is).1));
}

-- a symbol with a suffix is written
pub ends-suffixed : (s : Symbol) (suffix : List ℕ) (w first second last : Direct) → IsSymbolEnded s w → w.at ≤ length s.bytes
    → suffix ≡ take (length s.bytes - w.at) (drop w.at s.bytes) → IsSuffix suffix
    → Writes w first (codes " (") → Writes first second suffix → Writes second last (codes ")") → IsWriting s last Step.Ended
ends-suffixed s suffix w first second last p inside is is_suffix one two three =
    let there = rest-stands s.bytes suffix w.at inside is in
    let text : last.text.list.items ≡ w.text.list.items ++ codes " (" ++ suffix ++ codes ")" =
    three.text ∙ ap (λ l. l ++ codes ")") (two.text ∙ ap (λ l. l ++ suffix) one.text) in
    record {
      kept = kept-written s second last (codes ")") three
          (kept-written s first second suffix two (kept-written s w first (codes " (") one p.kept));
      is_before = subst (λ l. IsWhole s l) (sym text)
          (whole-suffixed s p.e w.at w.text.list.items suffix p.encoded p.shows there.0 there.1 is_suffix);
    }

-- ## Names

-- the text of these qualifiers after an encoding
pub plain-text : (mark : Mark) → encoding_text (qualifiers (has_const mark)) (called_on mark) ≡ mark_text mark
unfolding encoding_text qualifier_text ref_text
plain-text Mark.Plain = refl
plain-text Mark.Const = refl
plain-text Mark.Lvalue = refl
plain-text Mark.ConstLvalue = refl
plain-text Mark.Rvalue = refl
plain-text Mark.ConstRvalue = refl

pub qualifiers-text : (v : Value) (mark : Mark) (own : Term) → IsNamedSo v own mark → encoding_text (qualifiers_of v) (ref_of v) ≡ mark_text mark
qualifiers-text v mark own is = rw (is.qualifiers_are, is.mark_is) (plain-text mark)

-- a name that no items follow is an encoding
pub object-ended : (s : Symbol) (w : Direct) (mark : Mark) (is_instance : Bool) (argument_ : Arguments) (from : ℕ)
    → IsNameEnded s w mark is_instance argument_ from → IsEncodingEnded s w mark
object-ended s w mark is_instance argument_ from p =
    let b = p.name in
    let q = mark_text mark in
    let shows : Shows (detail_of s) (encoding_of p.v nil) (b ++ q) =
    subst (λ l. Shows (detail_of s) (encoding_of p.v nil) (b ++ l)) (qualifiers-text p.v mark p.own p.named_so)
    (object-encoded p.v b (subst (λ t. PrintsName (detail_of s) t b) (sym p.named_so.tree_is) p.prints)) in
    record {
      kept = p.kept;
      e = encoding_of p.v nil;
      lead = p.lead;
      bytes = b ++ q;
      written = ap (λ l. l ++ q) p.written ∙ simp append_assoc;
      shows = shows;
      encloses = object-enclosing (detail_of s) p.v (b ++ q) shows;
      now = p.state;
      behind = p.awaits.ends;
      same = λ e. refl;
    }

-- ## Parameters

pub next-written : (ts : List Term) (l : List ℕ) → ts ≢ [] → in_front_of_next ts l ≡ l ++ codes ", "
next-written [] l some = absurd (some refl)
next-written (t ∷ ts) l some = refl

separated : (is_first : Bool) (ts : List Term) (l : List ℕ) → (is_first ≡ true → ts ≡ []) → (is_first ≡ false → ts ≢ [])
    → l ++ separator is_first ≡ in_front_of_next ts l
separated true ts l none some = append-nil l ∙ ap (λ us. in_front_of_next us l) (sym (none refl))
separated false ts l none some = sym (next-written ts l (some refl))

-- the text before a parameter is the text of the earlier parameters, with a comma if there are any
pub next-separated : (s : Symbol) {extra : ℕ} (w : Direct) (is_first : Bool) (mark : Mark) (start : ℕ) (argument : Arguments)
    (a : AreParametersRead s w extra is_first mark start argument) (text : List ℕ) → text ≡ w.text.list.items ++ separator is_first
    → text ≡ a.front ++ codes "(" ++ in_front_of_next a.ts a.texts
next-separated s w is_first mark start argument a text is =
    is ∙ ap (λ l. l ++ separator is_first) a.written ∙ append_assoc (a.front ++ codes "(") a.texts (separator is_first)
    ∙ ap (λ l. a.front ++ codes "(" ++ l) (separated is_first a.ts a.texts a.none a.some)

-- after a name, the list of parameters goes on with none read yet
pub none-go_on : (s : Symbol) (argument : Arguments) (lead : List ℕ) (v : Value) (at : ℕ) (st : State) (p : TakesItems s lead v at st)
    → HasScope argument p.around → ParametersGoOn s argument lead (λ l. encoding_of v l) [] at st
none-go_on s argument lead v at st p scoped = record { around = p.around; inner = p.inner; outside = p.outside; scoped = scoped; awaits = p.awaits; onward = p.onward }

-- a parameter is expected
pub parameter-goes_on : (s : Symbol) (argument : Arguments) (becomes : Term → (at : ℕ) → State → Type 0) (make : Term → Term) (ts : List Term) (at : ℕ) (st : State)
    (p : ItemsGoOn s argument becomes make ts at st) (t : Term) (here : ℕ) (now : State)
    → ListGoesOn s Kind.Items p.inner p.around t here now → ItemsGoOn s argument becomes make (ts ++ t ∷ []) here now
unfolding no_items tree_of
parameter-goes_on s argument becomes make ts at st p t here now goes = record {
  around = p.around;
  scoped = p.scoped;
  inner = goes.inner;
  outside = p.outside;
  awaits = goes.awaits;
  onward = λ l there then_ comes. subst (λ u. becomes (make u) there then_) (sym (list-more ts t (no_items l)))
      (p.onward (tree (list t (no_items l)) true) there then_ (goes.onward l there then_ comes));
}

-- a parameter comes next, and the open entries wait for it
pub item-comes : (s : Symbol) (old new : Direct) (kept : Kept s old) (argument : Arguments) (becomes : Term → (at : ℕ) → State → Type 0) (make : Term → Term) (ts : List Term) (at : ℕ)
    (goes : ItemsGoOn s argument becomes make ts at kept.state) (ws : List Open) → new.text ≡ old.text → new.candidates ≡ old.candidates → new.has_scope ≡ old.has_scope
    → new.at ≡ at → reverse new.waiting.list.items ≡ ws
    → ((os : List Opened) → ((t : Term) (here : ℕ) (now : State) → Comes s os (tree t true) here now → ItemsGoOn s argument becomes make (ts ++ t ∷ []) here now)
    → Stands s kept.scope ws os old.text.list.items) → IsScoped kept.scope goes.around ws → IsWriting s new Step.Type
item-comes s old new kept argument becomes make ts at goes ws text candidates scope_same at_is waits stands scoped =
    let element = element-awaits s Kind.Items goes.inner goes.around at kept.state tt goes.awaits in
    type-comes s old new kept goes.around element.inner text candidates scope_same waits goes.outside
    (inr (inl (subst (λ n. Expects s Kind.Item goes.around element.inner n kept.state) (sym at_is) element.awaits)))
    (stands element.inner (λ t here now comes. parameter-goes_on s argument becomes make ts at kept.state goes t here now (element.onward t here now comes)))
    scoped

-- a parameter is expected, once the text before it is written
pub parameter-expected : (s : Symbol) (w last : Direct) (is_first : Bool) (mark : Mark) (start : ℕ) (argument : Arguments)
    → AreParametersRead s w 3 is_first mark start argument → Writes w last (separator is_first) → IsWriting s last Step.Type
parameter-expected s w last is_first mark start argument a one =
    let between = separator is_first in
    item-comes s last last (kept-written s w last between one a.kept) argument (λ e there then_. EncodedBehind s a.lead e there then_) a.make a.ts w.at a.goes
    (Open.Parameters mark start argument ∷ a.rest) refl refl refl one.at (ap (λ v. reverse v.list.items) one.waiting ∙ a.open_is) (λ os onward. (
      a.ts,
      a.texts,
      parameters-as s w.text.list.items last.text.list.items between mark start argument a.has one.text a.is_function.elements,
      next-separated s w is_first mark start argument a last.text.list.items one.text,
      onward,
    )) (entry-scoped a.scope a.goes.around (Open.Parameters mark start argument) argument a.rest refl refl a.is_function.named a.goes.scoped)

pub no-text : (l : List ℕ) (from : ℕ) → from ≡ length l → from ≡ 0 → l ≡ []
no-text [] from is none = refl
no-text (b ∷ bs) from is none = absurd (omega (arith, is, none))

-- in the types of an encoding, parameters may name the arguments at the end of the encoding's name
pub types-scoped : {detail : Detail} (text : List ℕ) (argument : Arguments) (around : Around) (own : Term) → IsEncodedAt argument.encoding around
    → around.scope ≡ arguments_of own → HasArguments detail text argument own → HasScope argument around
types-scoped text argument around own encoded scope_is names = (
  encoded,
  λ k o. let n = names.0 k o in record { own = n.own; all = n.all; scope_is = scope_is ∙ n.all_are; there = n.there; no_pack = n.prints.no_pack },
  λ o. let n = names.1 o in (n.elements, record { all = n.all; scope_is = scope_is ∙ n.all_are; there = n.there }),
)

pub name-scoped : (s : Symbol) (w : Direct) (mark : Mark) (is_instance : Bool) (argument : Arguments) (from : ℕ)
    (p : IsNameScoped s w mark is_instance argument from) → HasScope argument p.items.around
name-scoped s w mark is_instance argument from p =
    let e = p.ended in
    types-scoped w.text.list.items argument p.items.around e.own
    (λ real. (p.items.encoding_is (no-text e.lead from e.from_is (p.encoded real).0) ∙ sym (p.encoded real).1, p.items.no_lambda))
    (p.items.scope_is ∙ ap arguments_of e.named_so.tree_is) e.names

-- the front of a function that has no return type
fronts-of : (is_bare : Bool) (front : List ℕ) (start : ℕ) (lead name : List ℕ) → front ≡ lead ++ name → (is_bare ≡ false → start ≡ 0)
    → (is_bare ≡ true → start ≡ length front) → Fronts is_bare front start lead name
fronts-of true front start lead name is none all = ([], is ∙ sym (append-nil (lead ++ name)), all refl ∙ ap length is)
fronts-of false front start lead name is none all = ([], is, none refl)

-- the name of a function that has no return type is read
pub parameters-begin : (s : Symbol) (w : Direct) (mark : Mark) (is_instance : Bool) (argument : Arguments) (from start : ℕ)
    → IsNameScoped s w mark is_instance argument from → is_instance ≡ false
    → (s.is_bare ≡ false → start ≡ 0) → (s.is_bare ≡ true → start ≡ length w.text.list.items) → AwaitsParameters s w mark start argument
parameters-begin s w mark is_instance argument from start scoped plain none all =
    let p = scoped.ended in
    record {
      kept = p.kept;
      has = record {
        front = w.text.list.items;
        lead = p.lead;
        make = λ l. encoding_of p.v l;
        name = p.name;
        is_function = record {
          own = p.own;
          makes = encoding-plain p.v mark p.own p.named_so (p.no_return plain);
          is_own = record { prints = p.prints; names = p.names; given = scoped.given; named = scoped.named };
          elements = none-print-in (detail_of s) (types_of p.own) 3;
        };
        fronts = fronts-of s.is_bare w.text.list.items start p.lead p.name p.written none all;
      };
      written = refl;
      goes = none-go_on s argument p.lead p.v w.at p.state scoped.items (name-scoped s w mark is_instance argument from scoped);
    }

-- the first parameter comes next
pub first-expected : (s : Symbol) (w first last : Direct) (mark : Mark) (start : ℕ) (argument : Arguments)
    → AwaitsParameters s w mark start argument → Writes w first (codes "(")
    → last.text ≡ first.text → last.candidates ≡ first.candidates → last.has_scope ≡ first.has_scope → last.at ≡ first.at
    → last.waiting.list.items ≡ first.waiting.list.items ++ Open.Parameters mark start argument ∷ [] → AreParametersRead s last 3 true mark start argument
first-expected s w first last mark start argument p one text candidates scope_same at waiting =
    let grown : last.text.list.items ≡ w.text.list.items ++ codes "(" = ap (λ l. l.list.items) text ∙ one.text in
    record {
      kept = kept-same s first last text candidates scope_same (kept-written s w first (codes "(") one p.kept);
      rest = reverse first.waiting.list.items;
      open_is = ap reverse waiting ∙ reverse-last first.waiting.list.items (Open.Parameters mark start argument);
      ts = [];
      none = λ e. refl;
      some = λ e. cc e;
      texts = [];
      has = parameters-as s w.text.list.items last.text.list.items (codes "(") mark start argument p.has grown p.is_function.elements;
      written = grown ∙ ap (λ l. l ++ codes "(") p.written ∙ sym (append-nil (p.front ++ codes "("));
      goes = subst (λ n. ParametersGoOn s argument p.lead p.make [] n p.state) (sym (at ∙ one.at)) p.goes;
    }

-- ## What precedes an encoding's text

-- when a writer removes its candidates or, before a local entity, hides their texts, what it keeps is still right;
-- before a local entity the state stays the same
pub left-kept : (s : Symbol) (old new : Direct)
    → ((is_local s.bytes ≡ false) × (new.candidates.list.items ≡ [])) ⊎ AreLeft Hiding.All old.candidates.list.items new.candidates.list.items
    → new.has_scope ≡ old.has_scope → (kept : Kept s old) → (k : Kept s new) × (is_local s.bytes ≡ true → kept.state ≡ k.state)
left-kept s old new without scope_same kept = go without
  where
    known : new.has_scope ≡ false → (no_scope ≡ no_scope) × (is_object s.bytes ≡ false)
    known e = (refl, (kept.keeps.unknown (sym scope_same ∙ e)).1)

    go : ((is_local s.bytes ≡ false) × (new.candidates.list.items ≡ [])) ⊎ AreLeft Hiding.All old.candidates.list.items new.candidates.list.items
        → (k : Kept s new) × (is_local s.bytes ≡ true → kept.state ≡ k.state)
    go (inl none) = (
      record { state = record kept.state { candidates = [] }; scope = no_scope; keeps = none-kept s new none.1 (λ e. (known e).1) },
      λ e. absurd (false≢true (sym none.0 ∙ e)),
    )
    go (inr are) = (
      record {
        state = kept.state;
        scope = no_scope;
        keeps = record {
          candidates = candidates-left s Hiding.All kept.scope no_scope old.text.list.items new.text.list.items (λ k c never own. absurd never)
              old.candidates.list.items new.candidates.list.items kept.state.candidates are kept.keeps.candidates;
          named = none-named new.text.list.items;
          single = none-single;
          unknown = known;
        };
      },
      λ e. refl,
    )

-- when the text before a place is removed, what a writer keeps is still right; before a local entity the state stays
-- the same
pub cut-kept : (s : Symbol) (old new : Direct) (start : ℕ) → Cuts s.bytes old new start → (kept : Kept s old) → (k : Kept s new) × (is_local s.bytes ≡ true → kept.state ≡ k.state)
cut-kept s old new start cuts kept = go cuts.candidates
  where
    go : ((start ≡ 0) × (new.candidates ≡ old.candidates)) ⊎ ((is_local s.bytes ≡ false) × (new.candidates.list.items ≡ []))
        ⊎ AreLeft Hiding.All old.candidates.list.items new.candidates.list.items → (k : Kept s new) × (is_local s.bytes ≡ true → kept.state ≡ k.state)
    go (inl same) = (
      record {
        state = kept.state;
        scope = kept.scope;
        keeps = keeps-as s old new kept.state.candidates (cuts.text ∙ ap (λ n. drop n old.text.list.items) same.0) (ap (λ v. v.list.items) same.1) cuts.scope
            kept.keeps.candidates kept.keeps.named kept.keeps.single kept.keeps.unknown;
      },
      λ e. refl,
    )
    go (inr without) = left-kept s old new without cuts.scope kept

-- once the text before a place is removed, only the text after that place is left
pub cut-text : {s : List ℕ} (old new : Direct) (start : ℕ) (aside text : List ℕ) → Cuts s old new start → start ≡ length aside → old.text.list.items ≡ aside ++ text
    → new.text.list.items ≡ text
cut-text old new start aside text cuts start_is written =
    cuts.text ∙ ap (λ n. drop n old.text.list.items) start_is ∙ ap (λ l. drop (length aside) l) written ∙ drop-append_seam aside text

-- ## Return types: they are read after the name, and written before it

-- the return type of a function is expected after its name
pub front-begins : (s : Symbol) (w new : Direct) (mark : Mark) (argument : Arguments) (from start : ℕ) → IsNameScoped s w mark true argument from
    → (is_local s.bytes ≡ false → from ≡ 0) → start ≡ length w.text.list.items
    → new.text ≡ w.text → new.candidates ≡ w.candidates → new.has_scope ≡ w.has_scope → new.at ≡ w.at
    → new.waiting.list.items ≡ w.waiting.list.items ++ Open.Front mark start argument ∷ [] → IsWriting s new Step.Type
front-begins s w new mark argument from start scoped apart start_is text candidates scope_same at waiting =
    let p = scoped.ended in
    let has : HasInstance s p.scope w.text.list.items mark start argument = record {
      v = p.v;
      lead = p.lead;
      name = p.name;
      is_instance = record {
        own = p.own;
        named_so = p.named_so;
        returns = p.returns refl;
        is_own = record { prints = p.prints; names = p.names; given = scoped.given; named = scoped.named };
      };
      apart = λ none. no-text p.lead from p.from_is (apart none);
      text_is = p.written;
      start_is = start_is;
    } in
    let goes : ParametersGoOn s argument p.lead (λ l. encoding_of p.v l) [] w.at p.state =
    none-go_on s argument p.lead p.v w.at p.state scoped.items (name-scoped s w mark true argument from scoped) in
    let rest = reverse w.waiting.list.items in
    item-comes s w new p.kept argument (λ e there then_. EncodedBehind s p.lead e there then_) (λ l. encoding_of p.v l) [] w.at goes (Open.Front mark start argument ∷ rest)
    text candidates scope_same at (ap reverse waiting ∙ reverse-last w.waiting.list.items (Open.Front mark start argument)) (λ os onward. (has, onward))
    (entry-scoped p.scope goes.around (Open.Front mark start argument) argument rest refl refl scoped.named goes.scoped)

-- a return type that was read stays read if only the open entries change
pub front-same : (s : Symbol) (w new : Direct) (mark : Mark) (start : ℕ) (argument : Arguments) → IsFrontRead s w mark start argument
    → new.text ≡ w.text → new.candidates ≡ w.candidates → new.has_scope ≡ w.has_scope → new.at ≡ w.at → IsFrontRead s new mark start argument
front-same s w new mark start argument p text candidates scope_same at = record {
  kept = kept-same s w new text candidates scope_same p.kept;
  front = p.front;
  has = p.has;
  returned = p.returned;
  bytes = p.bytes;
  is_reference = p.is_reference;
  prints = p.prints;
  written = ap (λ v. v.list.items) text ∙ p.written;
  goes = subst (λ n. ParametersGoOn s argument p.lead (encoding_of p.v) (p.returned ∷ []) n p.state) (sym at) p.goes;
}

-- An encoding with a return type ends the symbol like the same encoding without one: its return type precedes the text if there
-- is no local entity. Before an entity a function shows no return type.
returned-behind : (s : Symbol) {scope : Scope} {argument : Arguments} {mark : Mark} {v : Value} {name text : List ℕ} (is : IsInstance (detail_of s) scope text argument mark v name)
    (r items : Term) (at : ℕ) (st : State) (lead front : List ℕ) → (is_local s.bytes ≡ true → front ≡ lead)
    → (is_local s.bytes ≡ false → (bytes : List ℕ) → Shows (detail_of s) (plain_encoding mark is.own items) bytes
    → (shown : List ℕ) × (lead ++ shown ≡ front ++ bytes) × Shows (detail_of s) (function is.own (qualifiers (has_const mark)) (called_on mark) r (parameters items)) shown)
    → EncodedBehind s lead (encoding_of v (list r items)) at st → EncodedBehind s front (plain_encoding mark is.own items) at st
returned-behind s {mark = mark} {v = v} is r items at st lead front hidden shown p =
    let same = sym (encoding-returned v mark is.own is.named_so is.returns r items) in
    record {
      whole = λ e. let w = p.whole e in record {
        made = w.made;
        encoded = w.encoded;
        shows = λ bytes shows. let q = shown e bytes shows in
            subst (λ l. Shows (detail_of s) w.made l) q.1 (w.shows q.0 (subst (λ t. Shows (detail_of s) t q.0) same q.2));
      };
      entity = λ e internal called digit end told. let w = p.entity e internal called digit end told in record {
        made = w.made;
        encoded = w.encoded;
        shows = λ bytes encloses.
            subst (λ l. Shows (detail_of s) w.made (l ++ (bytes ++ codes "::" ++ source_text called))) (sym (hidden e))
            (w.shows bytes (subst (λ t. Encloses (detail_of s) t bytes) same
            (returned-enclosing (detail_of s) is.own (qualifiers (has_const mark)) (called_on mark) r (parameters items) bytes encloses)));
      };
      member = λ e two. let w = p.member e two in record {
        none = hidden e ∙ w.none;
        made = w.made;
        encloses = λ bytes encloses. w.encloses bytes (subst (λ t. Encloses (detail_of s) t bytes) same
            (returned-enclosing (detail_of s) is.own (qualifiers (has_const mark)) (called_on mark) r (parameters items) bytes encloses));
        opens = w.opens;
      };
    }

-- expects parameters after the return type, once the text before them is written
front-leads : (s : Symbol) (w last : Direct) (mark : Mark) (start to : ℕ) (argument : Arguments) (p : IsFrontRead s w mark start argument) (front lead : List ℕ)
    → Keeps s p.scope last p.state.candidates
    → IsOwnName (detail_of s) p.scope last.text.list.items argument p.is_instance.own p.name → Fronts s.is_bare front to lead p.name → last.text.list.items ≡ front
    → last.at ≡ w.at → ((items : Term) (there : ℕ) (then_ : State) → EncodedBehind s p.lead (encoding_of p.v (list p.returned items)) there then_
    → EncodedBehind s lead (plain_encoding mark p.is_instance.own items) there then_) → AwaitsParameters s last mark to argument
front-leads s w last mark start to argument p front lead keeps is_own fronts written at turns =
    let is = p.is_instance in
    record {
      kept = record { state = p.state; scope = p.scope; keeps = keeps };
      has = record {
        front = front;
        lead = lead;
        make = λ l. plain_encoding mark is.own l;
        name = p.name;
        is_function = record { own = is.own; makes = λ t rest. refl; is_own = is_own; elements = none-print-in (detail_of s) (types_of is.own) 3 };
        fronts = fronts;
      };
      written = written;
      goes = record {
        around = p.goes.around;
        inner = p.goes.inner;
        outside = p.goes.outside;
        scoped = p.goes.scoped;
        awaits = subst (λ n. Expects s Kind.Items p.goes.around p.goes.inner n p.state) (sym at) p.goes.awaits;
        onward = λ l there then_ comes. turns (no_items l) there then_ (p.goes.onward l there then_ comes);
      };
    }

-- the return type is read, and after it the name is written once more
pub front-turned : (s : Symbol) (w here first last : Direct) (mark : Mark) (start : ℕ) (argument : Arguments) → IsFrontRead s w mark start argument
    → s.is_bare ≡ false → is_local s.bytes ≡ false
    → here.text ≡ w.text → here.candidates ≡ w.candidates → here.has_scope ≡ w.has_scope → here.at ≡ w.at → Writes here first (codes " ")
    → Writes first last (take (start - 0) (drop 0 first.text.list.items)) → AwaitsParameters s last mark start argument
front-turned s w here first last mark start argument p whole_ plain text candidates scope_same at one two =
    let is = p.is_instance in
    let lead = p.bytes ++ codes " " in
    let none : p.lead ≡ [] = p.apart plain in
    let named : p.front ≡ p.name = p.text_is ∙ ap (λ l. l ++ p.name) none in
    let front : first.text.list.items ≡ p.front ++ lead =
    one.text ∙ ap (λ v. v.list.items ++ codes " ") text ∙ ap (λ l. l ++ codes " ") p.written ∙ append_assoc p.front p.bytes (codes " ") in
    let again : take (start - 0) (drop 0 first.text.list.items) ≡ p.front =
    ap (λ n. take n first.text.list.items) (omega (arith, p.start_is)) ∙ ap (λ l. take (length p.front) l) front ∙ take-append_seam p.front lead in
    let written : last.text.list.items ≡ p.front ++ lead ++ p.front = two.text ∙ ap (λ l. first.text.list.items ++ l) again ∙ ap (λ l. l ++ p.front) front in
    let known = kept-same s w here text candidates scope_same p.kept in
    front-leads s w last mark start start argument p (p.front ++ lead ++ p.name) lead
    (kept-written s first last (take (start - 0) (drop 0 first.text.list.items)) two (kept-written s here first (codes " ") one known)).keeps
    (name-stays (p.front ++ lead) last.text.list.items p.front argument is.own p.name written
    (name-stays p.front (p.front ++ lead) lead argument is.own p.name refl is.is_own))
    (subst (λ b. Fronts b (p.front ++ lead ++ p.name) start lead p.name) (sym whole_) (p.front, refl, p.start_is))
    (written ∙ ap (λ l. p.front ++ lead ++ l) named) (two.at ∙ one.at ∙ at)
    (λ items there then_ goes. returned-behind s is p.returned items there then_ p.lead lead (λ e. absurd (false≢true (sym plain ∙ e))) (λ e bytes shows. (
      lead ++ bytes,
      ap (λ l. l ++ (lead ++ bytes)) none,
      front-shows (has-parameters s whole_) is.own (qualifiers (has_const mark)) (called_on mark) (parameters items) bytes shows p.returned p.bytes p.is_reference p.prints,
    )) goes)

-- the return type is read, and after it the name is written once more, with what precedes it
pub front-hidden : (s : Symbol) (w last : Direct) (mark : Mark) (start begins : ℕ) (argument : Arguments) → IsFrontRead s w mark start argument
    → s.is_bare ≡ false → is_local s.bytes ≡ true → begins ≡ length w.text.list.items → Writes w last (take (start - 0) (drop 0 w.text.list.items))
    → AwaitsParameters s last mark begins argument
front-hidden s w last mark start begins argument p whole_ local_ begins_is one =
    let is = p.is_instance in
    let aside = p.front ++ p.bytes in
    let again : take (start - 0) (drop 0 w.text.list.items) ≡ p.front =
    ap (λ n. take n w.text.list.items) (omega (arith, p.start_is)) ∙ ap (λ l. take (length p.front) l) p.written ∙ take-append_seam p.front p.bytes in
    let written : last.text.list.items ≡ aside ++ p.front = one.text ∙ ap (λ l. w.text.list.items ++ l) again ∙ ap (λ l. l ++ p.front) p.written in
    front-leads s w last mark start begins argument p (aside ++ p.lead ++ p.name) p.lead
    (kept-written s w last (take (start - 0) (drop 0 w.text.list.items)) one p.kept).keeps
    (name-stays aside last.text.list.items p.front argument is.own p.name written (name-stays p.front aside p.bytes argument is.own p.name refl is.is_own))
    (subst (λ b. Fronts b (aside ++ p.lead ++ p.name) begins p.lead p.name) (sym whole_) (aside, refl, begins_is ∙ ap length p.written))
    (written ∙ ap (λ l. aside ++ l) p.text_is ∙ sym (append_assoc aside p.lead p.name)) one.at
    (λ items there then_ goes. returned-behind s is p.returned items there then_ p.lead p.lead (λ e. refl) (λ e. absurd (false≢true (sym e ∙ local_))) goes)

-- the return type is read, and the parameters are written after it
pub front-bare : (s : Symbol) (w last : Direct) (mark : Mark) (start : ℕ) (argument : Arguments) → IsFrontRead s w mark start argument
    → s.is_bare ≡ true → last.text ≡ w.text → last.candidates ≡ w.candidates → last.has_scope ≡ w.has_scope → last.at ≡ w.at → AwaitsParameters s last mark start argument
front-bare s w last mark start argument p bare text candidates scope_same at =
    let is = p.is_instance in
    let written : last.text.list.items ≡ p.front ++ p.bytes = ap (λ v. v.list.items) text ∙ p.written in
    front-leads s w last mark start start argument p (p.front ++ p.bytes) p.lead (kept-same s w last text candidates scope_same p.kept).keeps
    (name-stays p.front last.text.list.items p.bytes argument is.own p.name written is.is_own)
    (subst (λ b. Fronts b (p.front ++ p.bytes) start p.lead p.name) (sym bare) (p.bytes, ap (λ l. l ++ p.bytes) p.text_is, p.start_is ∙ ap length p.text_is))
    written at (λ items there then_ goes. returned-behind s is p.returned items there then_ p.lead p.lead (λ e. refl)
    (λ e bytes shows. (bytes, refl, returned-shows (has-none s bare) is.own (qualifiers (has_const mark)) (called_on mark) p.returned (parameters items) bytes shows)) goes)

-- ## The end of an encoding

-- a lone void is read
pub void-read : (s : Symbol) (argument : Arguments) (becomes : Term → (at : ℕ) → State → Type 0) (make : Term → Term) (at : ℕ) (st : State)
    → ItemsGoOn s argument becomes make [] at st → StandsAt s.bytes at (118 ∷ []) → becomes (make (list_of (builtin (118 ∷ []) ∷ []))) (at + 1) st
unfolding no_items may_be_empty tree_of is_builtin among
void-read s argument becomes make at st p stands =
    let t = builtin (118 ∷ []) in
    let element = element-awaits s Kind.Items p.inner p.around at st tt p.awaits in
    let goes = element.onward t (at + 1) st (builtin-comes s Kind.Item p.around element.inner at st 118 tt refl element.awaits stands) in
    p.onward (tree (list t nil) true) (at + 1) st
    (goes.onward nothing_there (at + 1) st (expects-empty s Kind.Items p.around goes.inner (at + 1) st goes.awaits refl))

-- a name with its parameters is a function; an item that prints nothing may follow them
items-ended : (s : Symbol) {scope : Scope} {extra : ℕ} {ts : List Term} {texts text : List ℕ} (here : Direct) (mark : Mark) (start : ℕ) (argument : Arguments)
    (p : HasParameters s extra scope text mark start argument ts texts) (shown : List ℕ) (e items : Term) → here.text.list.items ≡ p.front ++ codes "(" ++ shown → (kept : Kept s here)
    → e ≡ function p.is_function.own (qualifiers (has_const mark)) (called_on mark) absent items
    → PrintsItems (detail_of s) (types_of p.is_function.own) items shown → EncodedBehind s p.lead e here.at kept.state → IsFunctionEnded s here mark start
items-ended s here mark start argument p shown e items written kept is printed behind =
    let f = p.is_function in
    let made = function f.own (qualifiers (has_const mark)) (called_on mark) absent items in
    record {
      kept = kept;
      own = f.own;
      items = items;
      e = e;
      e_is = is;
      front = p.front;
      lead = p.lead;
      name = p.name;
      texts = shown;
      prints = f.prints;
      fronts = p.fronts;
      written = written;
      shows = λ whole. subst (λ t. Shows (detail_of s) t (p.name ++ codes "(" ++ shown ++ codes ")" ++ mark_text mark)) (sym is)
          (subst (λ x. Shows (detail_of s) made (p.name ++ codes "(" ++ shown ++ codes ")" ++ x)) (plain-text mark)
          (function-shows (has-parameters s whole) f.own p.name f.prints items shown printed (qualifiers (has_const mark)) (called_on mark) (mark-opens mark items)));
      behind = behind;
    }

-- a name with a lone void is a function without parameters
pub void-ended : (s : Symbol) (w first here : Direct) (mark : Mark) (start : ℕ) (argument : Arguments) → AwaitsParameters s w mark start argument
    → StandsAt s.bytes w.at (118 ∷ [])
    → Writes w first (codes "(") → here.text ≡ first.text → here.candidates ≡ first.candidates → here.has_scope ≡ first.has_scope → here.at ≡ first.at + 1
    → IsFunctionEnded s here mark start
void-ended s w first here mark start argument p stands one text candidates scope_same at =
    let f = p.is_function in
    let e = p.make (list_of (builtin (118 ∷ []) ∷ [])) in
    items-ended s here mark start argument p.has [] e nil
    (ap (λ l. l.list.items) text ∙ one.text ∙ ap (λ l. l ++ codes "(") p.written ∙ sym (append-nil (p.front ++ codes "(")))
    (kept-same s first here text candidates scope_same (kept-written s w first (codes "(") one p.kept)) (made-void f.own absent mark p.make f.makes)
    (list-in (detail_of s) (types_of f.own) 3 [] [] (omega arith) f.elements)
    (subst (λ n. EncodedBehind s p.lead e n p.state) (omega (arith, at, one.at))
    (void-read s argument (λ u there then_. EncodedBehind s p.lead u there then_) p.make w.at p.state p.goes stands))

-- parameters that aren't a lone void are the function's
pub function-ended : (s : Symbol) (w : Direct) (mark : Mark) (start : ℕ) (argument : Arguments)
    → (r : (extra : ℕ) × (extra ≤ 6) × AreParametersRead s w extra false mark start argument) → r.2.texts ≢ codes "void" → IsFunctionEnded s w mark start
unfolding no_items may_be_empty
function-ended s w mark start argument r apart =
    let p = r.2 in
    let f = p.is_function in
    items-ended s w mark start argument p.has p.texts (p.make (list_of p.ts)) (list_of p.ts) p.written p.kept
    (made-with f.own absent mark p.make f.makes p.ts (p.some refl) (parameters-kept (detail_of s) (types_of f.own) r.0 p.ts p.texts f.elements apart))
    (list-in (detail_of s) (types_of f.own) r.0 p.ts p.texts r.1 f.elements)
    (subst (λ u. EncodedBehind s p.lead (p.make u) w.at p.state) (list-with-none p.ts)
    (p.goes.onward nothing_there w.at p.state (expects-empty s Kind.Items p.goes.around p.goes.inner w.at p.state p.goes.awaits refl)))

-- likewise if the last parameter prints nothing
pub nothing-ended : (s : Symbol) (w here : Direct) (is_first : Bool) (mark : Mark) (start : ℕ) (argument : Arguments)
    (p : AreParametersRead s w 3 is_first mark start argument) (t : Term) (kept : Kept s here)
    → here.text ≡ w.text → is_empty (types_of p.is_function.own) t ≡ true → is_void t ≡ false
    → ParametersGoOn s argument p.lead p.make (p.ts ++ t ∷ []) here.at kept.state → IsFunctionEnded s here mark start
unfolding no_items may_be_empty
nothing-ended s w here is_first mark start argument p t kept text none apart goes =
    let f = p.is_function in
    let items = list_with p.ts (list t nil) in
    items-ended s here mark start argument p.has p.texts (p.make items) items (ap (λ v. v.list.items) text ∙ p.written) kept (made p.ts)
    (list-before (detail_of s) (types_of f.own) p.ts t p.texts none f.elements)
    (subst (λ u. EncodedBehind s p.lead (p.make u) here.at kept.state) (list-more p.ts t nil)
    (goes.onward nothing_there here.at kept.state (expects-empty s Kind.Items goes.around goes.inner here.at kept.state goes.awaits refl)))
  where
    made : (ts : List Term) → p.make (list_with ts (list t nil))
        ≡ function p.is_function.own (qualifiers (has_const mark)) (called_on mark) absent (list_with ts (list t nil))
    made [] = p.is_function.makes t nil ∙ ap (function p.is_function.own (qualifiers (has_const mark)) (called_on mark) absent) (parameters-before [] t apart)
    made (u ∷ us) = p.is_function.makes u (list_with us (list t nil))
        ∙ ap (function p.is_function.own (qualifiers (has_const mark)) (called_on mark) absent) (parameters-before (u ∷ us) t apart)

-- a function is an encoding once its last bracket is written and what precedes its text is removed
pub function-closed : (s : Symbol) (w last new : Direct) (mark : Mark) (start : ℕ) → IsFunctionEnded s w mark start → s.is_bare ≡ false
    → Writes w last (codes ")") → Cuts s.bytes last new start → IsEncodingEnded s new mark
function-closed s w last new mark start p whole_ one cuts =
    let b = p.name in
    let l = p.texts in
    let q = mark_text mark in
    let fronts = subst (λ bare. Fronts bare p.front start p.lead p.name) whole_ p.fronts in
    let left_over : new.text.list.items ≡ p.lead ++ b ++ codes "(" ++ l ++ codes ")" =
    cut-text last new start fronts.0 (p.lead ++ b ++ codes "(" ++ l ++ codes ")") cuts fronts.2
    (one.text ∙ ap (λ x. x ++ codes ")") p.written ∙ ap (λ x. x ++ codes "(" ++ l ++ codes ")") fronts.1 ∙ simp append_assoc) in
    let text = b ++ codes "(" ++ l ++ codes ")" ++ q in
    let left = cut-kept s last new start cuts (kept-written s w last (codes ")") one p.kept) in
    record {
      kept = left.0;
      e = p.e;
      lead = p.lead;
      bytes = text;
      written = ap (λ x. x ++ q) left_over ∙ simp append_assoc;
      shows = p.shows whole_;
      encloses = subst (λ t. Encloses (detail_of s) t text) (sym p.e_is)
          (function-encloses (detail_of s) p.own (qualifiers (has_const mark)) (called_on mark) p.items text
          (subst (λ t. Shows (detail_of s) t text) p.e_is (p.shows whole_)));
      now = p.state;
      behind = subst (λ n. EncodedBehind s p.lead p.e n p.state) (sym (cuts.at ∙ one.at)) p.behind;
      same = left.1;
    }

-- likewise where only the names of functions are shown, once what follows the name is removed
pub function-named : (s : Symbol) (w new : Direct) (mark : Mark) (start : ℕ) (p : IsFunctionEnded s w mark start) → s.is_bare ≡ true
    → Leaves s.bytes w new start → IsEncodingEnded s new Mark.Plain
function-named s w new mark start p bare leaves =
    let fronts = subst (λ b. Fronts b p.front start p.lead p.name) bare p.fronts in
    let named = p.lead ++ p.name in
    let behind_ = fronts.0 ++ codes "(" ++ p.texts in
    let whole_ : w.text.list.items ≡ named ++ behind_ = p.written ∙ ap (λ x. x ++ codes "(" ++ p.texts) fronts.1 ∙ simp append_assoc in
    let left_over : new.text.list.items ≡ named =
    leaves.text ∙ ap (λ n. take n w.text.list.items) fronts.2 ∙ ap (λ l. take (length named) l) whole_ ∙ take-append_seam named behind_ in
    let left = left-kept s w new leaves.candidates leaves.scope p.kept in
    let made = function p.own (qualifiers (has_const mark)) (called_on mark) absent p.items in
    let shows : Shows (detail_of s) made p.name = name-shows (has-none s bare) p.own p.name p.prints (qualifiers (has_const mark)) (called_on mark) absent p.items in
    record {
      kept = left.0;
      e = p.e;
      lead = p.lead;
      bytes = p.name;
      written = append-nil new.text.list.items ∙ left_over;
      shows = subst (λ t. Shows (detail_of s) t p.name) (sym p.e_is) shows;
      encloses = subst (λ t. Encloses (detail_of s) t p.name) (sym p.e_is)
          (function-encloses (detail_of s) p.own (qualifiers (has_const mark)) (called_on mark) p.items p.name shows);
      now = p.state;
      behind = subst (λ n. EncodedBehind s p.lead p.e n p.state) (sym leaves.at) p.behind;
      same = left.1;
    }

-- the name of a function is within what is written
pub name-within : (s : Symbol) (w : Direct) (mark : Mark) (start : ℕ) (p : IsFunctionEnded s w mark start) → s.is_bare ≡ true → start ≤ length w.text.list.items
name-within s w mark start p bare =
    let fronts = subst (λ b. Fronts b p.front start p.lead p.name) bare p.fronts in
    let named = p.lead ++ p.name in
    omega (arith, fronts.2, ap length p.written, length-append (p.front ++ codes "(") p.texts, length-append p.front (codes "("), ap length fronts.1, length-append named fronts.0)

-- the test of a text's end compares only the last bytes
pub ends-so : (text front last : List ℕ) → text ≡ front ++ last → ends_with nat_eq text last ≡ pointwise nat_eq last last
ends-so text front last e =
    let size : length text - length last ≡ length front = omega (arith, ap length e, length-append front last) in
    ap (λ n. pointwise nat_eq last (drop n text)) size ∙ ap (λ l. pointwise nat_eq last (drop (length front) l)) e
    ∙ ap (λ l. pointwise nat_eq last l) (drop-append_seam front last)

-- parameters aren't a lone void if the text doesn't end in a bracket and void
pub no-void : (text name parameters : List ℕ) → text ≡ name ++ codes "(" ++ parameters → ends_with nat_eq text (codes "(void") ≡ false
    → parameters ≢ codes "void"
no-void text name parameters e other same =
    false≢true (sym other ∙ ends-so text name (codes "(void") (e ∙ ap (λ l. name ++ codes "(" ++ l) same ∙ append_assoc name (codes "(") (codes "void")))
