-- Functions that are read after a text, because they contain a type or because their address is an argument: from their
-- names to their ends.
use Rattle.cpp_direct.proofs.AllGround.{Comes, Discriminator, Expects, IsDiscriminatorAt, IsNameAt, IsPieceAt, Opened, StandsAt, local_in, with_candidate, added, AddressWithin, AreLeft, AreNamed, Arguments, AwaitsArgumentOfName, AwaitsFront, AwaitsLed, AwaitsLedParameters, AwaitsNamedType, AwaitsNest, AwaitsTypeName, below, called_on, detail_of, Direct, Encloses, has_const, HasArguments, HasLed, HasNameSo, HasScope, in_front_of_next, IsAddressed, IsAddressedRead, IsAddressNamed, IsBuiltinAt, IsElementIn, IsElementRead, IsEnclosingNamed, IsEnclosingParameterRead, IsEnclosingRead, IsGiven, IsInnerFrontRead, IsLedFunction, IsLedFunctionRead, IsLedParameterRead, IsMarkPlace, IsNesting, IsOwn, IsScoped, IsTypeRead, IsWriting, ItemsGoOn, ItemsOf, Kept, list_of, Mark, mark_text, MarkPlace, no_scope, nowhere, Open, PrintsName, PrintsPiece, qualifiers, Reads, Scope, Serves, Shows, Stands, Symbol, TypeWithin, Writes, absent, address_of, after, alone, arguments_of, Around, builtin, encoding_of, function, has_return_type, in_name, in_types, is_function_type, Kind, list, may_be_empty, named, nil, no_items, nothing_there, parameters, source, source_text, State, Term, tree, tree_of, types_of, Value, ends_with, nat_eq, ◌≡◌, ◌≢◌, refl, ap, sym, ◌∙◌, subst, ℕ, ◌+◌, List, [], ◌∷◌, ◌++◌, length, reverse, true, false, arith, codes, append-nil, append_assoc, Bool, ◌-◌, take, slice_get, Some, ◌&&◌, ◌≤◌, length-append, false≢true, Hiding, Purpose, Step, kept-read, kept-same, kept-written, reverse-last, value-added, front-left, kept-closed, kept-cut, value-comes, expects-empty, stands-split, element-awaits, address-opens, reads-of, reads-then, element-in, type-in, list-in, list-with-none, next-prints-in, none-print-in, as-name, source-prints, has-none, has-parameters, encoding-plain, encoding-returned, object-encoded, function-shows, mark-opens, parameters-kept, void-shows, made-void, made-with, as-in, has-member, has-plain, arguments-named, entry-scoped, name-unmarked}
use Rattle.cpp_direct.proofs.AllRead.{nest-awaited, no-void, item-comes, next-written, parameter-goes_on, qualifiers-text, types-scoped, plain-text, void-read, some-elements, last-found, encoding-opens, name-source, local-type-opens, nowhere-scoped, arguments-given, named-there, scope_at, scope-kept, nest-comes, closed-prints, object-enclosing, local-prints, address-prints, function-encloses, name-encloses, name-shows, returned-enclosing, builtin-item, popped}

-- what waits for a function that is read after a text
abbrev pub WithinOpen : Type 1
WithinOpen = Scope → List Open → (front : List ℕ) → (e : Term) → (at : ℕ) → State → Type 0

-- what holds of a function's name after a text
abbrev pub LeadsSo : Type 1
LeadsSo = Scope → (own : Term) → (front name : List ℕ) → Type 0

-- ## Names

-- Expects the name of a function; `becomes` says what the function becomes.
record NameOpened (s : Symbol) (becomes : Term → (at : ℕ) → State → Type 0) (at : ℕ) (st : State) : Type 0 where
  pub inner : List Opened
  pub awaits : Expects s Kind.CompleteName (in_name at) inner at st
  pub onward : (v : Value) (here : ℕ) (now : State) → Comes s inner v here now → ItemsOf s at becomes v here now

name-opens : (s : Symbol) (os : List Opened) (around : Around) (at : ℕ) (st : State) (becomes : Term → (at : ℕ) → State → Type 0) → Expects s Kind.Encoding around os at st
    → ((e : Term) (here : ℕ) (now : State) → Comes s os (tree e true) here now → becomes e here now) → NameOpened s becomes at st
unfolding in_types
name-opens s os around at st becomes expects then_ =
    let encoding = encoding-opens s os around at st expects in
    record {
      inner = encoding.inner;
      awaits = encoding.awaits;
      onward = λ v here now comes. let items = encoding.onward v here now comes in record {
        around = in_types at (tree_of v);
        inner = items.inner;
        outside = refl;
        scope_is = refl;
        encoding_is = refl;
        no_lambda = refl;
        awaits = items.awaits;
        onward = λ l there later last. then_ (encoding_of v (no_items l)) there later (items.onward l there later last);
      };
    }

-- the types of a function may name these arguments
pub items-scoped : {s : Symbol} {encoding : ℕ} {becomes : Term → (at : ℕ) → State → Type 0} (argument : Arguments) (v : Value) (at : ℕ) (st : State)
    (p : ItemsOf s encoding becomes v at st) → HasScope argument p.around → ItemsGoOn s argument becomes (λ l. encoding_of v l) [] at st
items-scoped argument v at st p scoped = record { around = p.around; inner = p.inner; outside = p.outside; scoped = scoped; awaits = p.awaits; onward = p.onward }

-- the arguments at the end of a function's name are known now, and the function's types may name them
pub now-scoped : {s : Symbol} {mark : Mark} {from : ℕ} {becomes : Term → (at : ℕ) → State → Type 0} (old new : Direct) (to : ℕ) (argument noted : Arguments) (kept : Kept s old)
    (p : HasNameSo s old.text.list.items mark from) → ItemsOf s argument.encoding becomes p.v old.at kept.state → old.has_scope ≡ false → new.has_scope ≡ true
    → new.text ≡ old.text → new.candidates ≡ old.candidates → argument ≡ record noted { encoding = argument.encoding }
    → HasArguments (detail_of s) old.text.list.items noted p.own → to ≡ length old.text.list.items
    → (now : Kept s new) × IsAddressed s now.scope to argument p.own p.lead p.name × ItemsGoOn s argument becomes (λ l. encoding_of p.v l) [] old.at now.state
now-scoped {s = s} old new to argument noted kept p items first now text candidates same noted_there to_is =
    let here = old.text.list.items in
    let names : HasArguments (detail_of s) here argument p.own =
    subst (λ (k : Arguments). HasArguments (detail_of s) here k p.own) (sym same) (arguments-named here argument.encoding noted p.own noted_there) in
    let scope = scope_at here argument in (
      record { state = kept.state; scope = scope; keeps = scope-kept s old new kept argument p.own names first now text candidates },
      record {
        to_is = to_is ∙ ap length p.written;
        given = arguments-given here argument p.own names;
        named = refl;
        there = subst (λ l. AreNamed l scope) p.written (named-there here argument p.own names);
        typed = (kept.keeps.unknown first).1;
      },
      items-scoped argument p.v old.at kept.state items
          (types-scoped here argument items.around p.own (λ real. (items.encoding_is, items.no_lambda)) (items.scope_is ∙ ap arguments_of p.named_so.tree_is) names),
    )

-- the return type of a function was read
pub returned-first : {s : Symbol} {argument : Arguments} {becomes : Term → (at : ℕ) → State → Type 0} (make : Term → Term) (r : Term) (at : ℕ) (st : State)
    (p : ItemsGoOn s argument becomes make (r ∷ []) at st) → ItemsGoOn s argument becomes (λ l. make (list r l)) [] at st
returned-first make r at st p = record { around = p.around; inner = p.inner; outside = p.outside; scoped = p.scoped; awaits = p.awaits; onward = p.onward }

-- ## Parameters

-- a function with no parameter read yet
abbrev pub led-by : (s : Symbol) (extra : ℕ) (mark : Mark) (own returned : Term) (make : Term → Term) (front name : List ℕ) → PrintsName (detail_of s) own name
    → (has_return_type own ≡ false → returned ≡ absent)
    → ((t rest : Term) → make (list t rest) ≡ function own (qualifiers (has_const mark)) (called_on mark) returned (parameters (list t rest)))
    → IsLedFunction (detail_of s) extra mark [] []
led-by s extra mark own returned make front name prints none makes = record {
  front = front;
  name = name;
  own = own;
  prints = prints;
  returned = returned;
  make = make;
  makes = makes;
  none = none;
  elements = none-print-in (detail_of s) (types_of own) extra;
}

-- a function with one more parameter read
abbrev led-more : (s : Symbol) {extra : ℕ} {mark : Mark} {ts : List Term} {texts : List ℕ} (f : IsLedFunction (detail_of s) extra mark ts texts) (t : Term) (bytes : List ℕ)
    → IsElementIn (detail_of s) (types_of f.own) extra t bytes → IsLedFunction (detail_of s) extra mark (ts ++ t ∷ []) (in_front_of_next ts texts ++ bytes)
led-more s {extra = extra} {ts = ts} {texts = texts} f t bytes element = record {
  front = f.front;
  name = f.name;
  own = f.own;
  prints = f.prints;
  returned = f.returned;
  make = f.make;
  makes = f.makes;
  none = f.none;
  elements = next-prints-in (types_of f.own) extra ts texts t bytes f.elements element;
}

-- a function without a return type expects its parameters
pub plain-awaits : {s : Symbol} {extra : ℕ} {mark : Mark} {from : ℕ} {argument : Arguments} {Leads : LeadsSo} {Within : WithinOpen} (w : Direct) (kept : Kept s w)
    (p : HasNameSo s w.text.list.items mark from) → has_return_type p.own ≡ false → Leads kept.scope p.own p.lead p.name
    → ItemsGoOn s argument (Within kept.scope (reverse w.waiting.list.items) p.lead) (λ l. encoding_of p.v l) [] w.at kept.state
    → AwaitsLedParameters s w extra mark argument Leads Within
plain-awaits {s = s} {extra = extra} {mark = mark} w kept p no_return leads goes = record {
  kept = kept;
  has = record {
    is_led = led-by s extra mark p.own absent (λ l. encoding_of p.v l) p.lead p.name p.prints (λ e. refl) (encoding-plain p.v mark p.own p.named_so no_return);
    leads = leads;
  };
  written = p.written;
  goes = goes;
}

-- ## Return types

-- after a builtin return type, a function expects its parameters
pub returned-awaits : {s : Symbol} {extra : ℕ} {mark : Mark} {from : ℕ} {argument : Arguments} {Leads : LeadsSo} {Within : WithinOpen} (w : Direct) (n : ℕ) (kept : Kept s w)
    (p : HasNameSo s w.text.list.items mark from) → has_return_type p.own ≡ true → Leads kept.scope p.own p.lead p.name
    → ItemsGoOn s argument (Within kept.scope (reverse w.waiting.list.items) p.lead) (λ l. encoding_of p.v l) [] w.at kept.state
    → IsBuiltinAt s.bytes w.at n → AwaitsLedParameters s (record w { at = n }) extra mark argument Leads Within
returned-awaits {s = s} {extra = extra} {mark = mark} {argument = argument} {Within = Within} w n kept p returns leads begun is =
    let make : Term → Term = λ l. encoding_of p.v l in
    let element = element-awaits s Kind.Items begun.inner begun.around w.at kept.state tt begun.awaits in
    let returned = builtin-item s begun.around element.inner w.at n kept.state is element.awaits in
    let r = returned.0 in
    record {
      kept = kept-same s w (record w { at = n }) refl refl refl kept;
      has = record {
        is_led = led-by s extra mark p.own r (λ l. make (list r l)) p.lead p.name p.prints (λ e. absurd (false≢true (sym e ∙ returns)))
            (λ t rest. encoding-returned p.v mark p.own p.named_so returns r (list t rest));
        leads = leads;
      };
      written = p.written;
      goes = returned-first make r n kept.state (parameter-goes_on s argument (Within kept.scope (reverse w.waiting.list.items) p.lead) make [] w.at kept.state begun r n kept.state
          (element.onward r n kept.state returned.1));
    }

-- a function that has a return type expects it
pub front-awaits : {s : Symbol} {mark : Mark} {from : ℕ} {argument : Arguments} (Leads : LeadsSo) (Within : WithinOpen) (w new : Direct) (entry : Open) (kept : Kept s w)
    (p : HasNameSo s w.text.list.items mark from) → Leads kept.scope p.own p.lead p.name → has_return_type p.own ≡ true
    → (goes : ItemsGoOn s argument (Within kept.scope (reverse w.waiting.list.items) p.lead) (λ l. encoding_of p.v l) [] w.at kept.state)
    → new.waiting.list.items ≡ w.waiting.list.items ++ entry ∷ [] → new.text ≡ w.text → new.candidates ≡ w.candidates → new.has_scope ≡ w.has_scope → new.at ≡ w.at
    → ((os : List Opened) → AwaitsFront s mark argument (Leads kept.scope) (Within kept.scope (reverse w.waiting.list.items)) os w.text.list.items
    → Stands s kept.scope (entry ∷ reverse w.waiting.list.items) os w.text.list.items)
    → IsScoped kept.scope goes.around (entry ∷ reverse w.waiting.list.items) → IsWriting s new Step.Type
front-awaits {s = s} {from = from} {argument = argument} Leads Within w new entry kept p leads returns goes waiting text candidates scope_same at stands scoped =
    let rest = reverse w.waiting.list.items in
    item-comes s w new kept argument (Within kept.scope rest p.lead) (λ l. encoding_of p.v l) [] w.at goes (entry ∷ rest) text candidates scope_same at
    (ap reverse waiting ∙ reverse-last w.waiting.list.items entry)
    (λ os onward. stands os (record { from = from; has = p; leads = leads; returns = returns }, onward)) scoped

-- the return type of a function is read
pub front-read : {s : Symbol} {mark : Mark} {argument : Arguments} {entry : Open} {Leads : LeadsSo} {Within : WithinOpen} (w : Direct) (is_reference is_dependent : Bool)
    → IsWriting s w (Step.Value is_reference is_dependent) → slice_get w.waiting.list.items (length w.waiting.list.items - 1) ≡ Some entry
    → ((scope : Scope) (rest : List Open) (os : List Opened) (text : List ℕ) → Stands s scope (entry ∷ rest) os text
    → AwaitsFront s mark argument (Leads scope) (Within scope rest) os text) → IsInnerFrontRead s w mark argument entry Leads Within
front-read {s = s} {entry = entry} w is_reference is_dependent p found awaits =
    let last = last-found w.waiting.list.items entry found in
    let v = subst (λ ws. IsTypeRead s p.scope w p.state ws is_reference is_dependent) last.1 p.is_before in
    let waits = awaits p.scope last.0 v.os v.front v.stands in
    record {
      kept = p.kept;
      rest = last.0;
      open_is = last.1;
      text = v.front;
      front = waits.0;
      returned = v.own;
      bytes = v.bytes;
      reads = v.written;
      goes = waits.1 v.own w.at p.state v.comes;
    }

-- the return type of a function is removed
pub front-cut : {s : Symbol} {extra : ℕ} {mark : Mark} {argument : Arguments} {entry : Open} {Leads : LeadsSo} {Within : WithinOpen} (w shut new : Direct) (to : ℕ)
    (p : IsInnerFrontRead s w mark argument entry Leads Within) → IsAddressed s p.scope to argument p.own p.lead p.name
    → shut.text ≡ w.text → shut.candidates ≡ w.candidates → shut.has_scope ≡ w.has_scope → shut.at ≡ w.at
    → shut.waiting.list.items ≡ take (length w.waiting.list.items - 1) w.waiting.list.items
    → new.text.list.items ≡ take to shut.text.list.items → AreLeft (Hiding.After to) shut.candidates.list.items new.candidates.list.items
    → new.waiting ≡ shut.waiting → new.has_scope ≡ shut.has_scope → new.at ≡ shut.at → AwaitsLedParameters s new extra mark argument Leads Within
unfolding no_items
front-cut {s = s} {extra = extra} {mark = mark} {argument = argument} {entry = entry} {Within = Within} w shut new to p addressed same_text same_candidates same_scope same_at waits text are waiting scope_same at =
    let left = p.lead ++ p.name in
    let whole_ : w.text.list.items ≡ left ++ p.bytes = p.reads ∙ ap (λ l. l ++ p.bytes) p.written in
    let left_is : new.text.list.items ≡ left =
    text ∙ front-left shut.text.list.items left p.bytes to (ap (λ v. v.list.items) same_text ∙ whole_) addressed.to_is in
    let r = p.returned in
    record {
      kept = kept-cut s w new p.kept left p.bytes to whole_ addressed.to_is left_is
          (subst (λ v. AreLeft (Hiding.After to) v.list.items new.candidates.list.items) same_candidates are) (scope_same ∙ same_scope) addressed.there;
      has = record {
        is_led = led-by s extra mark p.own r (λ l. encoding_of p.v (list r l)) p.lead p.name p.prints (λ e. absurd (false≢true (sym e ∙ p.returns)))
            (λ t rest. encoding-returned p.v mark p.own p.named_so p.returns r (list t rest));
        leads = p.leads;
      };
      written = left_is;
      goes = subst (λ ws. ItemsGoOn s argument (Within p.scope ws p.lead) (λ l. encoding_of p.v (list r l)) [] new.at p.state)
          (sym (ap (λ v. reverse v.list.items) waiting
          ∙ popped w.waiting.list.items shut.waiting.list.items p.rest entry (length w.waiting.list.items) refl p.open_is waits))
          (subst (λ n. ItemsGoOn s argument (Within p.scope p.rest p.lead) (λ l. encoding_of p.v (list r l)) [] n p.state) (sym (at ∙ same_at))
          (returned-first (encoding_of p.v) r w.at p.state p.goes));
    }

-- ## Parameters that follow

-- a parameter comes next
led-expected : {s : Symbol} {extra : ℕ} {mark : Mark} {argument : Arguments} {entry : Open} {rest : List Open} {ts : List Term} {texts : List ℕ} {Leads : Term → List ℕ → List ℕ → Type 0} (Within : WithinOpen) (w : Direct)
    (kept : Kept s w) (h : HasLed (detail_of s) extra mark Leads ts texts) → reverse w.waiting.list.items ≡ entry ∷ rest
    → w.text.list.items ≡ h.front ++ h.name ++ codes "(" ++ in_front_of_next ts texts
    → ItemsGoOn s argument (Within kept.scope rest h.front) h.make ts w.at kept.state
    → ((os : List Opened) → AwaitsLed s extra mark argument Leads (Within kept.scope rest) os w.text.list.items → Stands s kept.scope (entry ∷ rest) os w.text.list.items)
    → ((around : Around) → HasScope argument around → IsScoped kept.scope around (entry ∷ rest)) → IsWriting s w Step.Type
led-expected {s = s} {argument = argument} {entry = entry} {rest = rest} {ts = ts} {texts = texts} Within w kept h waits written goes stands scoped =
    item-comes s w w kept argument (Within kept.scope rest h.front) h.make ts w.at goes (entry ∷ rest) refl refl refl refl waits
    (λ os onward. stands os (ts, texts, h, written, onward)) (scoped goes.around goes.scoped)

-- the first parameter comes next
pub first-led : {s : Symbol} {extra : ℕ} {mark : Mark} {argument : Arguments} {Leads : LeadsSo} {Within : WithinOpen} (Now : Term → List ℕ → List ℕ → Type 0) (w first last : Direct) (entry : Open)
    (p : AwaitsLedParameters s w extra mark argument Leads Within) → Now p.own p.front p.name → Writes w first (codes "(")
    → last.waiting.list.items ≡ first.waiting.list.items ++ entry ∷ [] → last.text ≡ first.text → last.candidates ≡ first.candidates
    → last.has_scope ≡ first.has_scope → last.at ≡ first.at
    → ((os : List Opened) → AwaitsLed s extra mark argument Now (Within p.scope (reverse w.waiting.list.items)) os last.text.list.items
    → Stands s p.scope (entry ∷ reverse w.waiting.list.items) os last.text.list.items)
    → ((around : Around) → HasScope argument around → IsScoped p.scope around (entry ∷ reverse w.waiting.list.items)) → IsWriting s last Step.Type
first-led {s = s} {argument = argument} {Within = Within} Now w first last entry p leads one waiting text candidates scope_same at stands scoped =
    led-expected Within last (kept-same s first last text candidates scope_same (kept-written s w first (codes "(") one p.kept))
    (record { is_led = p.is_led; leads = leads })
    (ap reverse waiting ∙ reverse-last first.waiting.list.items entry ∙ ap (λ v. entry ∷ reverse v.list.items) one.waiting)
    (ap (λ v. v.list.items) text ∙ one.text ∙ ap (λ l. l ++ codes "(") p.written ∙ sym (append-nil (p.front ++ p.name ++ codes "(")))
    (subst (λ n. ItemsGoOn s argument (Within p.scope (reverse w.waiting.list.items) p.front) p.make [] n p.state) (sym (at ∙ one.at)) p.goes) stands scoped

-- another parameter comes next
pub next-led : {s : Symbol} {extra : ℕ} {mark : Mark} {argument : Arguments} {entry : Open} {Leads : LeadsSo} {Within : WithinOpen} (w last : Direct)
    (p : IsLedParameterRead s w extra mark argument entry Leads Within) → Writes w last (codes ", ")
    → ((os : List Opened) → AwaitsLed s extra mark argument (Leads p.scope) (Within p.scope p.rest) os last.text.list.items → Stands s p.scope (entry ∷ p.rest) os last.text.list.items)
    → ((around : Around) → HasScope argument around → IsScoped p.scope around (entry ∷ p.rest)) → IsWriting s last Step.Type
next-led {s = s} {argument = argument} {Within = Within} w last p one stands scoped =
    let front = p.front ++ p.name ++ codes "(" in
    led-expected Within last (kept-written s w last (codes ", ") one p.kept) p.has (ap (λ l. reverse l.list.items) one.waiting ∙ p.open_is)
    (one.text ∙ ap (λ l. l ++ codes ", ") p.written ∙ append_assoc front p.texts (codes ", ") ∙ ap (λ l. front ++ l) (sym (next-written p.ts p.texts p.some)))
    (subst (λ n. ItemsGoOn s argument (Within p.scope p.rest p.front) p.make p.ts n p.state) (sym one.at) p.goes) stands scoped

-- a parameter is read
pub led-read : {s : Symbol} {extra : ℕ} {mark : Mark} {argument : Arguments} {entry : Open} {Leads : LeadsSo} {Within : WithinOpen} {rest : List Open} (w : Direct) (os : List Opened)
    (kept : Kept s w) (t : Term) (front bytes : List ℕ) → reverse w.waiting.list.items ≡ entry ∷ rest → w.text.list.items ≡ front ++ bytes → Comes s os (tree t true) w.at kept.state
    → (waits : AwaitsLed s extra mark argument (Leads kept.scope) (Within kept.scope rest) os front) → IsElementIn (detail_of s) (types_of waits.2.own) extra t bytes
    → IsLedParameterRead s w extra mark argument entry Leads Within
led-read {s = s} {rest = rest} w os kept t front bytes open_is written comes waits element =
    let ts = waits.0 in
    let texts = waits.1 in
    let h = waits.2 in
    record {
      kept = kept;
      rest = rest;
      open_is = open_is;
      ts = ts ++ t ∷ [];
      some = some-elements ts t;
      texts = in_front_of_next ts texts ++ bytes;
      has = record { is_led = led-more s h.is_led t bytes element; leads = h.leads };
      written = written ∙ ap (λ l. l ++ bytes) waits.3 ∙ append_assoc (h.front ++ h.name ++ codes "(") (in_front_of_next ts texts) bytes;
      goes = waits.4 t w.at kept.state comes;
    }

-- likewise for a parameter whose type may name the function's arguments
pub type-led : {s : Symbol} {extra : ℕ} {mark : Mark} {argument : Arguments} {entry : Open} {Leads : LeadsSo} {Within : WithinOpen} (w : Direct) (is_reference is_dependent : Bool)
    → 3 ≤ extra → IsWriting s w (Step.Value is_reference is_dependent) → slice_get w.waiting.list.items (length w.waiting.list.items - 1) ≡ Some entry
    → ((scope : Scope) (rest : List Open) (os : List Opened) (text : List ℕ) → Stands s scope (entry ∷ rest) os text
    → AwaitsLed s extra mark argument (Leads scope) (Within scope rest) os text)
    → ((scope : Scope) (own : Term) (front name : List ℕ) → Leads scope own front name → IsGiven (detail_of s) scope.names (types_of own))
    → IsLedParameterRead s w extra mark argument entry Leads Within
type-led {s = s} {extra = extra} {entry = entry} w is_reference is_dependent most p found awaits given =
    let last = last-found w.waiting.list.items entry found in
    let v = subst (λ ws. IsTypeRead s p.scope w p.state ws is_reference is_dependent) last.1 p.is_before in
    let waits = awaits p.scope last.0 v.os v.front v.stands in
    let h = waits.2 in
    led-read w v.os p.kept v.own v.front v.bytes last.1 v.written v.comes waits
    (type-in (types_of h.own) extra v.own v.bytes is_reference most
    (as-in (detail_of s) p.scope.names is_dependent (types_of h.own) v.own v.bytes is_reference (given p.scope h.own h.front h.name h.leads) v.prints))

-- ## Their ends

-- the name of a function is within what is written
pub name-inside : (text front name rest : List ℕ) (to : ℕ) → text ≡ front ++ name ++ rest → to ≡ length (front ++ name) → to ≤ length text
name-inside text front name rest to written to_is = omega (arith, to_is, ap length written, length-append (front ++ name) rest)

-- a function was read, and the open entry waits for it
function-read : {s : Symbol} {Leads : Term → List ℕ → Type 0} {Within : WithinOpen} {rest : List Open} (w : Direct) (mark : Mark) (place : ℕ) (kept : Kept s w) (e own : Term) (front bytes : List ℕ)
    → Leads own front → w.text.list.items ++ mark_text mark ≡ front ++ bytes → Encloses (detail_of s) e bytes → (has_return_type own ≡ false → Shows (detail_of s) e bytes)
    → reverse w.waiting.list.items ≡ rest → w.at ≡ place → Within kept.scope rest front e place kept.state → IsLedFunctionRead s w mark Leads Within
function-read {Within = Within} {rest = rest} w mark place kept e own front bytes leads written encloses shows waits at within = record {
  kept = kept;
  e = e;
  own = own;
  front = front;
  leads = leads;
  bytes = bytes;
  encloses = encloses;
  shows = shows;
  written = written;
  within = subst (λ ws. Within kept.scope ws front e w.at kept.state) (sym waits)
      (subst (λ n. Within kept.scope rest front e n kept.state) (sym at) within);
}

-- a function whose name has no return type shows the same text as a function without a return type
shown-plain : (s : Symbol) {extra : ℕ} {mark : Mark} {ts : List Term} {texts : List ℕ} (f : IsLedFunction (detail_of s) extra mark ts texts) (e items : Term) (bytes : List ℕ)
    → e ≡ function f.own (qualifiers (has_const mark)) (called_on mark) f.returned items
    → Shows (detail_of s) (function f.own (qualifiers (has_const mark)) (called_on mark) absent items) bytes
    → has_return_type f.own ≡ false → Shows (detail_of s) e bytes
shown-plain s {mark = mark} f e items bytes is shows none =
    subst (λ t. Shows (detail_of s) t bytes) (sym (is ∙ ap (λ r. function f.own (qualifiers (has_const mark)) (called_on mark) r items) (f.none none))) shows

-- a lone void is read, and empty brackets are written
pub void-shown : {s : Symbol} {Leads : LeadsSo} {Now : Term → List ℕ → Type 0} {Within : WithinOpen} {extra : ℕ} {mark : Mark} {argument : Arguments} (w new : Direct) (n : ℕ)
    (p : AwaitsLedParameters s w extra mark argument Leads Within) → Now p.own p.front → StandsAt s.bytes w.at (118 ∷ []) → n ≡ w.at + 1
    → Writes (record w { at = n }) new (codes "()") → s.is_bare ≡ false → IsLedFunctionRead s new mark Now Within
void-shown {s = s} {Within = Within} {mark = mark} {argument = argument} w new n p leads stands at one whole =
    let b = p.name in
    let q = mark_text mark in
    let plain = function p.own (qualifiers (has_const mark)) (called_on mark) absent nil in
    let shows : Shows (detail_of s) plain (b ++ codes "()" ++ q) = subst (λ l. Shows (detail_of s) plain (b ++ codes "()" ++ l)) (plain-text mark)
    (void-shows (has-parameters s whole) p.own b p.prints (qualifiers (has_const mark)) (called_on mark)) in
    function-read new mark (w.at + 1) (kept-written s (record w { at = n }) new (codes "()") one (kept-same s w (record w { at = n }) refl refl refl p.kept))
    (p.make (list_of (builtin (118 ∷ []) ∷ []))) p.own p.front (b ++ codes "()" ++ q) leads
    (ap (λ l. l ++ q) (one.text ∙ ap (λ l. l ++ codes "()") p.written) ∙ simp append_assoc)
    (subst (λ t. Encloses (detail_of s) t (b ++ codes "()" ++ q)) (sym (made-void p.own p.returned mark p.make p.makes))
    (returned-enclosing (detail_of s) p.own (qualifiers (has_const mark)) (called_on mark) p.returned nil (b ++ codes "()" ++ q)
    (function-encloses (detail_of s) p.own (qualifiers (has_const mark)) (called_on mark) nil (b ++ codes "()" ++ q) shows)))
    (shown-plain s p.is_led (p.make (list_of (builtin (118 ∷ []) ∷ []))) nil (b ++ codes "()" ++ q) (made-void p.own p.returned mark p.make p.makes) shows)
    (ap (λ v. reverse v.list.items) one.waiting) (one.at ∙ at)
    (void-read s argument (Within p.scope (reverse w.waiting.list.items) p.front) p.make w.at p.state p.goes stands)

-- a lone void is read, and nothing is written if only the names of functions are shown
pub void-unshown : {s : Symbol} {Leads : LeadsSo} {Now : Term → List ℕ → Type 0} {Within : WithinOpen} {extra : ℕ} {mark : Mark} {argument : Arguments} (w : Direct) (n : ℕ)
    (p : AwaitsLedParameters s w extra mark argument Leads Within) → Now p.own p.front → StandsAt s.bytes w.at (118 ∷ []) → n ≡ w.at + 1 → s.is_bare ≡ true
    → IsLedFunctionRead s (record w { at = n }) Mark.Plain Now Within
void-unshown {s = s} {Within = Within} {mark = mark} {argument = argument} w n p leads stands at bare =
    function-read (record w { at = n }) Mark.Plain (w.at + 1) (kept-same s w (record w { at = n }) refl refl refl p.kept)
    (p.make (list_of (builtin (118 ∷ []) ∷ []))) p.own p.front p.name leads (append-nil w.text.list.items ∙ p.written)
    (subst (λ t. Encloses (detail_of s) t p.name) (sym (made-void p.own p.returned mark p.make p.makes))
    (name-encloses (has-none s bare) p.own p.name p.prints (qualifiers (has_const mark)) (called_on mark) p.returned nil))
    (λ none. subst (λ t. Shows (detail_of s) t p.name) (sym (made-void p.own p.returned mark p.make p.makes))
    (name-shows (has-none s bare) p.own p.name p.prints (qualifiers (has_const mark)) (called_on mark) p.returned nil))
    refl at (void-read s argument (Within p.scope (reverse w.waiting.list.items) p.front) p.make w.at p.state p.goes stands)

-- after a parameter, the name of the function is within what is written
pub led-inside : {s : Symbol} {extra : ℕ} {mark : Mark} {argument : Arguments} {entry : Open} {Leads : LeadsSo} {Within : WithinOpen} (w : Direct) (to : ℕ)
    (p : IsLedParameterRead s w extra mark argument entry Leads Within) → to ≡ length (p.front ++ p.name) → to ≤ length w.text.list.items
led-inside w to p to_is = name-inside w.text.list.items p.front p.name (codes "(" ++ p.texts) to (p.written ∙ append_assoc (p.front ++ p.name) (codes "(") p.texts) to_is

-- the entry that was opened for the parameters is removed
led-popped : {s : Symbol} {extra : ℕ} {mark : Mark} {argument : Arguments} {entry : Open} {Leads : LeadsSo} {Within : WithinOpen} (w shut : Direct)
    (p : IsLedParameterRead s w extra mark argument entry Leads Within) → shut.waiting.list.items ≡ take (length w.waiting.list.items - 1) w.waiting.list.items
    → reverse shut.waiting.list.items ≡ p.rest
led-popped {entry = entry} w shut p waits = popped w.waiting.list.items shut.waiting.list.items p.rest entry (length w.waiting.list.items) refl p.open_is waits

-- parameters that aren't a lone void make a function, and the open entry waits for it
parameters-end : {s : Symbol} {w : Direct} {extra : ℕ} {mark : Mark} {argument : Arguments} {entry : Open} {Leads : LeadsSo} {Within : WithinOpen}
    (p : IsLedParameterRead s w extra mark argument entry Leads Within) (text : List ℕ) → text ≡ w.text.list.items → ends_with nat_eq text (codes "(void") ≡ false
    → (p.make (list_of p.ts) ≡ function p.own (qualifiers (has_const mark)) (called_on mark) p.returned (list_of p.ts))
    × Within p.scope p.rest p.front (p.make (list_of p.ts)) w.at p.state
unfolding no_items may_be_empty
parameters-end {s = s} {w = w} {extra = extra} {mark = mark} {Within = Within} p text same other = (
  made-with p.own p.returned mark p.make p.makes p.ts p.some
      (parameters-kept (detail_of s) (types_of p.own) extra p.ts p.texts p.elements (no-void text (p.front ++ p.name) p.texts (same ∙ p.written) other)),
  subst (λ u. Within p.scope p.rest p.front (p.make u) w.at p.state) (list-with-none p.ts)
      (p.goes.onward nothing_there w.at p.state (expects-empty s Kind.Items p.goes.around p.goes.inner w.at p.state p.goes.awaits refl)),
)

-- the parameters of a function are read and written
pub function-shown : {s : Symbol} {Leads : LeadsSo} {Now : Term → List ℕ → Type 0} {Within : WithinOpen} {extra : ℕ} {mark : Mark} {argument : Arguments} {entry : Open} (w shut last : Direct)
    (p : IsLedParameterRead s w extra mark argument entry Leads Within) (text : List ℕ) → Now p.own p.front → text ≡ w.text.list.items → ends_with nat_eq text (codes "(void") ≡ false
    → extra ≤ 6 → shut.text ≡ w.text → shut.candidates ≡ w.candidates → shut.has_scope ≡ w.has_scope → shut.at ≡ w.at
    → shut.waiting.list.items ≡ take (length w.waiting.list.items - 1) w.waiting.list.items → Writes shut last (codes ")") → s.is_bare ≡ false → IsLedFunctionRead s last mark Now Within
function-shown {s = s} {extra = extra} {mark = mark} w shut last p whole_text leads same other few text candidates scope_same at waits one whole =
    let b = p.name in
    let q = mark_text mark in
    let bytes = b ++ codes "(" ++ p.texts ++ codes ")" ++ q in
    let end = parameters-end p whole_text same other in
    let plain = function p.own (qualifiers (has_const mark)) (called_on mark) absent (list_of p.ts) in
    let shows : Shows (detail_of s) plain bytes = subst (λ x. Shows (detail_of s) plain (b ++ codes "(" ++ p.texts ++ codes ")" ++ x)) (plain-text mark)
    (function-shows (has-parameters s whole) p.own b p.prints (list_of p.ts) p.texts (list-in (detail_of s) (types_of p.own) extra p.ts p.texts few p.elements)
    (qualifiers (has_const mark)) (called_on mark) (mark-opens mark (list_of p.ts))) in
    function-read last mark w.at (kept-written s shut last (codes ")") one (kept-same s w shut text candidates scope_same p.kept)) (p.make (list_of p.ts)) p.own p.front bytes leads
    (ap (λ x. x ++ q) (one.text ∙ ap (λ v. v.list.items ++ codes ")") text ∙ ap (λ x. x ++ codes ")") p.written) ∙ simp append_assoc)
    (subst (λ t. Encloses (detail_of s) t bytes) (sym end.0)
    (returned-enclosing (detail_of s) p.own (qualifiers (has_const mark)) (called_on mark) p.returned (list_of p.ts) bytes
    (function-encloses (detail_of s) p.own (qualifiers (has_const mark)) (called_on mark) (list_of p.ts) bytes shows)))
    (shown-plain s p.is_led (p.make (list_of p.ts)) (list_of p.ts) bytes end.0 shows)
    (ap (λ v. reverse v.list.items) one.waiting ∙ led-popped w shut p waits) (one.at ∙ at) end.1

-- if only the names of functions are shown, what was written after the name is removed
pub function-unshown : {s : Symbol} {Leads : LeadsSo} {Now : Term → List ℕ → Type 0} {Within : WithinOpen} {extra : ℕ} {mark : Mark} {argument : Arguments} {entry : Open} (w shut new : Direct) (to : ℕ)
    (p : IsLedParameterRead s w extra mark argument entry Leads Within) (text : List ℕ) → Now p.own p.front → text ≡ w.text.list.items → ends_with nat_eq text (codes "(void") ≡ false
    → to ≡ length (p.front ++ p.name) → AreNamed (p.front ++ p.name) p.scope
    → shut.text ≡ w.text → shut.candidates ≡ w.candidates → shut.has_scope ≡ w.has_scope → shut.at ≡ w.at
    → shut.waiting.list.items ≡ take (length w.waiting.list.items - 1) w.waiting.list.items
    → new.text.list.items ≡ take to shut.text.list.items → AreLeft (Hiding.After to) shut.candidates.list.items new.candidates.list.items
    → new.waiting ≡ shut.waiting → new.has_scope ≡ shut.has_scope → new.at ≡ shut.at → s.is_bare ≡ true → IsLedFunctionRead s new Mark.Plain Now Within
function-unshown {s = s} {mark = mark} w shut new to p whole_text leads same other to_is there same_text same_candidates same_scope same_at waits text are waiting scope_same at bare =
    let end = parameters-end p whole_text same other in
    let left = p.front ++ p.name in
    let behind = codes "(" ++ p.texts in
    let whole_ : w.text.list.items ≡ left ++ behind = p.written ∙ append_assoc left (codes "(") p.texts in
    let left_is : new.text.list.items ≡ left = text ∙ front-left shut.text.list.items left behind to (ap (λ v. v.list.items) same_text ∙ whole_) to_is in
    let kept_ = kept-cut s w new p.kept left behind to whole_ to_is left_is
    (subst (λ v. AreLeft (Hiding.After to) v.list.items new.candidates.list.items) same_candidates are) (scope_same ∙ same_scope) there in
    function-read new Mark.Plain w.at kept_ (p.make (list_of p.ts)) p.own p.front p.name leads (append-nil new.text.list.items ∙ left_is)
    (subst (λ t. Encloses (detail_of s) t p.name) (sym end.0)
    (name-encloses (has-none s bare) p.own p.name p.prints (qualifiers (has_const mark)) (called_on mark) p.returned (list_of p.ts)))
    (λ none. subst (λ t. Shows (detail_of s) t p.name) (sym end.0)
    (name-shows (has-none s bare) p.own p.name p.prints (qualifiers (has_const mark)) (called_on mark) p.returned (list_of p.ts)))
    (ap (λ v. reverse v.list.items) waiting ∙ led-popped w shut p waits) (at ∙ same_at) end.1

-- the qualifiers of a function are written
pub marks-shown : {s : Symbol} {Leads : Term → List ℕ → Type 0} {Within : WithinOpen} (old new : Direct) (mark : Mark) → IsLedFunctionRead s old mark Leads Within
    → Writes old new (mark_text mark) → IsLedFunctionRead s new Mark.Plain Leads Within
marks-shown {s = s} old new mark p writes =
    function-read new Mark.Plain old.at (kept-written s old new (mark_text mark) writes p.kept) p.e p.own p.front p.bytes p.leads
    (append-nil new.text.list.items ∙ writes.text ∙ p.written) p.encloses p.shows (ap (λ v. reverse v.list.items) writes.waiting) writes.at p.within

-- ## Types in functions, from their Z to their end

-- expects the name of a function that contains a type, after a Z
enclosing-opens : (s : Symbol) (w : Direct) (a : AwaitsNamedType s w) → StandsAt s.bytes w.at (90 ∷ [])
    → NameOpened s (TypeWithin s (below s a.scope (reverse w.waiting.list.items)) w.text.list.items) (w.at + 1) a.state
unfolding is_function_type
enclosing-opens s w a letter =
    let here = local-type-opens s a.kind a.begins.inner a.around w.at a.state a.is_named a.begins.awaits letter in
    name-opens s here.inner a.around (w.at + 1) a.state (TypeWithin s (below s a.scope (reverse w.waiting.list.items)) w.text.list.items) here.awaits (λ e there then_ comes. (
      a.os,
      a.around,
      λ ends.
          let entity = here.onward e there then_ comes ends in
          record {
            around = entity.around;
            inner = entity.inner;
            awaits = entity.awaits;
            onward = λ p middle now comes_ digit end told.
                a.begins.onward (local_in e p digit) false end now refl (entity.onward p middle now comes_ digit end told);
          },
      a.stands,
    ))

-- the nested name of a function is expected, after an N and the qualifiers of a member function
pub nest-within : (s : Symbol) (old : Direct) (first second : ℕ) (place : MarkPlace) → AwaitsNamedType s old → StandsAt s.bytes old.at (90 ∷ [])
    → first ≡ old.at + 1 → StandsAt s.bytes first (78 ∷ []) → second ≡ first + 1 → IsMarkPlace s.bytes second place
    → AwaitsNest s (record old { at = place.end }) (Purpose.Enclosing place.mark first)
nest-within s old first second place a letter next nested then_ is =
    let e = enclosing-opens s old a letter in
    nest-awaited s (record old { at = place.end }) (kept-same s old (record old { at = place.end }) refl refl refl a.kept) (Purpose.Enclosing place.mark first) (old.at + 1)
    e.inner (old.at + 1) second place refl e.awaits (subst (λ k. StandsAt s.bytes k (78 ∷ [])) next nested) (then_ ∙ ap (λ k. k + 1) next) is refl
    (λ outer named_ t listed here now comes.
    let v = named t (qualifiers (has_const place.mark)) (called_on place.mark) in
    subst (λ k. ItemsOf s k (TypeWithin s (below s a.scope (reverse old.waiting.list.items)) old.text.list.items) v here now) (sym next)
    (e.onward v here now (named_ t listed here now comes)))

-- a source name is read
pub source-within : (s : Symbol) (old start new : Direct) (name : List ℕ) (from : ℕ) → AwaitsNamedType s old → StandsAt s.bytes old.at (90 ∷ [])
    → start.text ≡ old.text → start.candidates ≡ old.candidates → start.waiting ≡ old.waiting → start.has_scope ≡ old.has_scope
    → start.at ≡ old.at + 1 → IsNameAt s.bytes start.at name new.at → name ≢ [] → Reads start new (source_text name) → from ≡ length start.text.list.items
    → IsEnclosingNamed s new Mark.Plain false from
unfolding may_be_empty has_return_type arguments_of in_name
source-within s old start new name from a letter same_text same_candidates same_waiting same_scope at_is is filled reads from_is =
    let own = alone (source false name) in
    let e = enclosing-opens s old a letter in
    let here = in_name (old.at + 1) in
    let named_ = name-source s e.inner here (old.at + 1) name new.at a.state e.awaits refl (subst (λ k. IsNameAt s.bytes k name new.at) at_is is) in
    let front = old.text.list.items in
    let items = e.onward (tree own false) new.at a.state
    (named_.bare new.at a.state (expects-empty s Kind.MaybeArguments (after own false here) named_.inner new.at a.state named_.awaits refl)) in
    record {
      kept = kept-read s start new (source_text name) reads
          (kept-same s old start same_text same_candidates same_scope a.kept);
      has = has-plain s new.text.list.items from own front (source_text name) (reads.text ∙ ap (λ v. v.list.items ++ source_text name) same_text)
          (from_is ∙ ap (λ v. length v.list.items) same_text)
          (as-name own (source_text name) false (source-prints false name filled (name-unmarked s.bytes start.at name new.at is)));
      returns = refl;
      goes = subst (λ v. ItemsGoOn s nowhere (TypeWithin s (below s a.scope (reverse v.list.items)) front) (λ l. encoding_of (tree own false) l) [] new.at a.state)
          (sym (reads.waiting ∙ same_waiting)) (items-scoped nowhere (tree own false) new.at a.state items (nowhere-scoped items.around));
    }

-- a nested name is read
pub name-within : (s : Symbol) (old : Direct) (kept : Kept s old) (t : Term) (mark : Mark) (encoding : ℕ) (is_instance : Bool)
    → IsNesting s kept.scope Kind.NestTail old t kept.state → has_return_type t ≡ is_instance → StandsAt s.bytes old.at (69 ∷ [])
    → old.nest.purpose ≡ Purpose.Enclosing mark encoding → IsEnclosingNamed s (record old { at = old.at + 1 }) mark is_instance old.nest.from
name-within s old kept t mark encoding is_instance n returns here is_name =
    let serves = subst (λ p. Serves s p (below s kept.scope (reverse old.waiting.list.items)) n.outer n.front) is_name n.serves in
    let items = serves t old.nest.is_listed (old.at + 1) kept.state (nest-comes s old kept.state t n here) in
    record {
      kept = kept-same s old (record old { at = old.at + 1 }) refl refl refl kept;
      has = has-member s old.text.list.items mark old.nest.from t n.front n.bytes n.written n.is_nest.from_is
          (as-name t n.bytes false (closed-prints kept.scope.names (n.is_nest.closed (subst IsOwn (sym is_name) tt)) n.is_nest.prints));
      returns = returns;
      goes = items-scoped nowhere (named t (qualifiers (has_const mark)) (called_on mark)) (old.at + 1) kept.state items (nowhere-scoped items.around);
    }

-- a parameter is read
pub parameter-read-within : (s : Symbol) (w : Direct) (mark : Mark) (from to : ℕ) → IsElementRead s w (Open.Enclosing mark from to)
    → IsEnclosingParameterRead s w mark from to
parameter-read-within s w mark from to p =
    let read = p.read in
    led-read w read.os read.kept read.own read.front read.bytes p.open_is read.written read.comes read.stands
    (element-in (types_of read.stands.2.own) 6 read.own read.bytes (read.element 6))

-- a name without items is read
pub object-within : (s : Symbol) (w : Direct) (mark : Mark) (from : ℕ) → IsEnclosingNamed s w mark false from → IsEnclosingRead s w mark from
unfolding no_items may_be_empty
object-within s w mark from p =
    let b = p.name in
    let q = mark_text mark in
    let shows : Shows (detail_of s) (encoding_of p.v nil) (b ++ q) =
    subst (λ l. Shows (detail_of s) (encoding_of p.v nil) (b ++ l)) (qualifiers-text p.v mark p.own p.named_so)
    (object-encoded p.v b (subst (λ t. PrintsName (detail_of s) t b) (sym p.named_so.tree_is) p.prints)) in
    record {
      kept = p.kept;
      e = encoding_of p.v nil;
      own = p.own;
      front = p.lead;
      leads = p.from_is;
      bytes = b ++ q;
      encloses = object-enclosing (detail_of s) p.v (b ++ q) shows;
      shows = λ none. shows;
      written = ap (λ l. l ++ q) p.written ∙ simp append_assoc;
      within = p.goes.onward nothing_there w.at p.state (expects-empty s Kind.Items p.goes.around p.goes.inner w.at p.state p.goes.awaits refl);
    }

-- the type's name and its discriminator are read
pub type-within : (s : Symbol) (old pushed read last new : Direct) (from : ℕ) → AwaitsTypeName s old from → Writes old pushed (codes "::")
    → (p : Term) (n : List ℕ) → IsPieceAt s pushed.at p read.at → PrintsPiece (detail_of s) p n → Reads pushed read n
    → (digit : Discriminator) → IsDiscriminatorAt s.bytes read.at digit last.at → Reads read last []
    → new.candidates.list.items ≡ added last from false false → new.text ≡ last.text → new.waiting ≡ last.waiting
    → new.has_scope ≡ last.has_scope → new.at ≡ last.at → IsWriting s new (Step.Value false false)
type-within s old pushed read last new from awaits one p n is prints two digit told three candidates text waiting scope here =
    let a = awaits.read in
    let whole = reads-then old read last (codes "::" ++ n) [] (reads-then old pushed read (codes "::") n (reads-of old pushed (codes "::") one) two) three in
    let t = local_in a.e p digit in
    let bytes = a.bytes ++ codes "::" ++ n in
    let w = a.within in
    let entity = w.2 awaits.letter in
    let old_written : old.text.list.items ≡ a.front ++ a.bytes = sym (append-nil old.text.list.items) ∙ a.written in
    let written : last.text.list.items ≡ a.front ++ bytes =
    whole.text ∙ ap (λ l. old.text.list.items ++ l) (append-nil (codes "::" ++ n)) ∙ sym (append_assoc old.text.list.items (codes "::") n)
    ∙ ap (λ l. l ++ codes "::" ++ n) old_written ∙ simp append_assoc in
    let shown = local-prints a.e a.bytes a.encloses p n prints digit in
    let kept = kept-read s old last (codes "::" ++ n ++ []) whole
    (kept-same s (record old { at = awaits.before }) old refl refl refl a.kept) in
    let named_ = (subst (λ k. IsPieceAt s k p read.at) (one.at ∙ awaits.at_is) is).as_type in
    value-added s last new kept w.0 w.1 t a.front bytes from false false written a.leads shown (λ e. absurd (false≢true e)) text candidates scope
    (ap (λ v. reverse v.list.items) (waiting ∙ whole.waiting)) (λ e. absurd (false≢true e))
    (subst (λ k. Comes s w.0 (tree t true) k (with_candidate w.1 t a.state)) (sym here)
    (entity.onward p read.at a.state (named_ entity.inner entity.around a.e a.state entity.awaits) digit last.at told)) w.3

-- ## Addresses of functions, as arguments of a name, from their X to their last E

-- the bytes before the parts of a nested name, in the address of a function
abbrev pub address_letters : List ℕ
address_letters = codes "XadL_ZN"

-- expects the name of a function whose address is an argument
address-opens-name : (s : Symbol) (w : Direct) (a : AwaitsArgumentOfName s w) → StandsAt s.bytes w.at (codes "XadL_Z")
    → NameOpened s (AddressWithin s (below s a.scope (reverse w.waiting.list.items)) (w.text.list.items ++ codes "&")) (w.at + 6) a.state
address-opens-name s w a letters =
    let here = address-opens s a.os a.around w.at a.state a.awaits letters in
    name-opens s here.inner a.around (w.at + 6) a.state (AddressWithin s (below s a.scope (reverse w.waiting.list.items)) (w.text.list.items ++ codes "&")) here.awaits
    (λ e there then_ comes. (a.os, w.text.list.items, refl, λ ends. here.onward e there then_ comes ends, a.stands))

-- expects the first piece of a nested name, after the name's first bytes and its qualifiers
pub address-nested : (s : Symbol) (old pushed opened_ : Direct) (encoding second : ℕ) (place : MarkPlace) → AwaitsArgumentOfName s old
    → StandsAt s.bytes old.at address_letters → encoding ≡ old.at + 6 → Writes old pushed (codes "&")
    → opened_.waiting.list.items ≡ pushed.waiting.list.items ++ Open.Address encoding ∷ [] → opened_.text ≡ pushed.text
    → opened_.candidates ≡ pushed.candidates → opened_.has_scope ≡ pushed.has_scope → opened_.at ≡ place.end → second ≡ encoding + 1
    → IsMarkPlace s.bytes second place → AwaitsNest s opened_ (Purpose.Address place.mark)
address-nested s old pushed opened_ encoding second place a letters encoding_is one waiting text candidates scope_same at then_ is =
    let places = stands-split s.bytes old.at (codes "XadL_Z") (78 ∷ []) letters in
    let e = address-opens-name s old a places.0 in
    let grown : opened_.text.list.items ≡ old.text.list.items ++ codes "&" = ap (λ v. v.list.items) text ∙ one.text in
    let waits : reverse opened_.waiting.list.items ≡ Open.Address (old.at + 6) ∷ reverse old.waiting.list.items =
    ap reverse waiting ∙ reverse-last pushed.waiting.list.items (Open.Address encoding)
    ∙ ap (λ k. Open.Address k ∷ reverse pushed.waiting.list.items) encoding_is ∙ ap (λ v. Open.Address (old.at + 6) ∷ reverse v.list.items) one.waiting in
    let taken : Stands s a.scope (Open.Address (old.at + 6) ∷ reverse old.waiting.list.items) e.inner (old.text.list.items ++ codes "&") = e.onward in
    nest-awaited s opened_ (kept-same s pushed opened_ text candidates scope_same (kept-written s old pushed (codes "&") one a.kept)) (Purpose.Address place.mark) (old.at + 6)
    e.inner (old.at + 6) second place refl e.awaits places.1 (then_ ∙ ap (λ k. k + 1) encoding_is) is at (λ outer named_. (
      e.inner,
      named_,
      subst (λ l. Stands s a.scope (reverse opened_.waiting.list.items) e.inner l) (sym grown)
          (subst (λ ws. Stands s a.scope ws e.inner (old.text.list.items ++ codes "&")) (sym waits) taken),
    ))

-- the name of a function whose address is an argument is read
pub name-addressed : (s : Symbol) (old : Direct) (kept : Kept s old) (t : Term) (mark : Mark) → IsNesting s kept.scope Kind.NestTail old t kept.state
    → (IsOwn old.nest.purpose → old.nest.is_instance && old.nest.has_class ≡ false → has_return_type t ≡ false)
    → (old.nest.is_instance && old.nest.has_class ≡ true → has_return_type t ≡ true)
    → (old.nest.is_instance ≡ true → HasArguments (detail_of s) old.text.list.items old.argument t)
    → StandsAt s.bytes old.at (69 ∷ []) → old.nest.purpose ≡ Purpose.Address mark → IsAddressNamed s (record old { at = old.at + 1 }) mark
name-addressed s old kept t mark n no_return returns names here is_name =
    let serves = subst (λ p. Serves s p (below s kept.scope (reverse old.waiting.list.items)) n.outer n.front) is_name n.serves in
    let own : IsOwn old.nest.purpose = subst IsOwn (sym is_name) tt in
    record {
      kept = kept-same s old (record old { at = old.at + 1 }) refl refl refl kept;
      has = has-member s old.text.list.items mark old.nest.from t n.front n.bytes n.written n.is_nest.from_is
          (as-name t n.bytes false (closed-prints kept.scope.names (n.is_nest.closed own) n.is_nest.prints));
      no_return = no_return own;
      returns = returns;
      names = names;
      os = serves.0;
      comes = serves.1 t old.nest.is_listed (old.at + 1) kept.state (nest-comes s old kept.state t n here);
      stands = serves.2;
    }

-- after the name of a function whose address is an argument, the function's items may follow
pub address-items : (s : Symbol) (old new : Direct) (mark : Mark) (encoding : ℕ) (p : IsAddressNamed s old mark)
    → old.waiting.list.items ≡ new.waiting.list.items ++ Open.Address encoding ∷ [] → old.has_scope ≡ false
    → ItemsOf s encoding (AddressWithin s (below s no_scope (reverse new.waiting.list.items)) p.lead) p.v old.at p.state
address-items s old new mark encoding p waiting first =
    let all = Open.Address encoding ∷ reverse new.waiting.list.items in
    let waits : reverse old.waiting.list.items ≡ all = ap reverse waiting ∙ reverse-last new.waiting.list.items (Open.Address encoding) in
    let taken : Stands s no_scope all p.os p.lead =
    subst (λ (k : Scope). Stands s k all p.os p.lead) (p.keeps.unknown first).0 (subst (λ ws. Stands s p.scope ws p.os p.lead) waits p.stands) in
    taken p.v old.at p.state p.comes

-- expects the return type after the name
pub front-addressed : (s : Symbol) (w new : Direct) (mark : Mark) (from to : ℕ) (argument : Arguments) (kept : Kept s w) (p : HasNameSo s w.text.list.items mark from)
    → has_return_type p.own ≡ true → IsAddressed s kept.scope to argument p.own p.lead p.name
    → ItemsGoOn s argument (AddressWithin s (below s no_scope (reverse w.waiting.list.items)) p.lead) (λ l. encoding_of p.v l) [] w.at kept.state
    → new.waiting.list.items ≡ w.waiting.list.items ++ Open.AddressedFront mark to argument ∷ [] → new.text ≡ w.text
    → new.candidates ≡ w.candidates → new.has_scope ≡ w.has_scope → new.at ≡ w.at → IsWriting s new Step.Type
front-addressed s w new mark from to argument kept p returns addressed goes waiting text candidates scope_same at =
    let entry = Open.AddressedFront mark to argument in
    front-awaits (λ scope. IsAddressed s scope to argument) (λ scope waits. AddressWithin s (below s no_scope waits)) w new entry kept p addressed returns goes
    waiting text candidates scope_same at (λ os h. h) (entry-scoped kept.scope goes.around entry argument (reverse w.waiting.list.items) refl refl addressed.named goes.scoped)

-- The E of a function and the E of its address are read, and the address is accepted like a type.
pub address-ended : (s : Symbol) (w new : Direct) → IsAddressedRead s w Mark.Plain → StandsAt s.bytes w.at (69 ∷ 69 ∷ []) → new.text ≡ w.text
    → AreLeft Hiding.Dependent w.candidates.list.items new.candidates.list.items → new.waiting ≡ w.waiting → new.at ≡ w.at + 2 → IsWriting s new (Step.Value false false)
address-ended s w new p letters text are waiting at =
    let within = p.within in
    let before = within.1 in
    let written : new.text.list.items ≡ before ++ (codes "&" ++ p.bytes) =
    ap (λ v. v.list.items) text ∙ sym (append-nil w.text.list.items) ∙ p.written ∙ ap (λ l. l ++ p.bytes) within.2 ∙ append_assoc before (codes "&") p.bytes in
    value-comes s new (kept-closed s w new p.kept are text p.leads) within.0 (address_of p.e) before (codes "&" ++ p.bytes) false false written
    (address-prints p.e p.bytes p.encloses) (ap (λ v. reverse v.list.items) waiting) (λ e. absurd (false≢true e))
    (subst (λ n. Comes s within.0 (tree (address_of p.e) true) n p.state) (sym at) (within.3 letters)) within.4
