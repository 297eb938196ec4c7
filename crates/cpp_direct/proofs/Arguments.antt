-- The arguments of a name, as long as they are types or packs of types.
use Rattle.cpp_direct.proofs.AllGround.{Around, Detail, integer, Kind, list, nil, pack, signed_digits, Term, tree, arith, ◌≡◌, ◌≢◌, ℕ, zero, suc, ◌+◌, ◌-◌, ◌≤◌, ◌<◌, length, List, [], ◌∷◌, ◌++◌, reverse, slice_get, inr, inl, Bool, true, false, Some, refl, ap, sym, ◌∙◌, subst, codes, append_assoc, append-nil, false≢true, slice_get_within, length-append, AreAmong, AreKnown, Argument, argument_around, argument_entry, Arguments, arguments_or_pack, ArgumentsGoOn, AwaitsArgument, AwaitsArgumentNumber, AwaitsArgumentOfName, AwaitsKnownArgument, AwaitsNamedType, Belongs, below, Closes, ComeBefore, detail_of, Direct, element_kind, EndsNamed, EndsOtherwise, extra_of, GoesOn, HasPack, in_front_of_next, is_noted, IsAmong, IsArgumentRead, IsElementAs, IsElementPassed, IsKnown, IsListEnded, IsLiteralRead, IsScoped, IsTemplate, IsTypeRead, IsWriting, Kept, KnowsMore, led_by, list_of, list_with, may_name, Names, nowhere, number_text, of_template, Open, opening_bracket, place_of, PrintAll, PrintAllBy, Prints, PrintsListed, Reads, Scope, scoped_in, sign_text, Stands, Symbol, Writes, Comes, Opened, Expects, IsDigitsAt, StandsAt, TreeOpens, minus_sign, Step, awaited-in, kept-grown, kept-same, kept-written, reverse-last, template-stays, none-known, kept-read, any-argument, enumerator-opens, listed-awaits, enumerator-prints, normal-filled, normal-unmarked, not-integer, all-as, listed-element, next-prints, none-print, list-more, none-text, among-stay, element-there, none-scoped}
use Rattle.cpp_direct.proofs.AllRead.{next-written}
use Rattle.cpp_direct.proofs.Listed.{pack-ends, list-ends, empty-pack-ends, last-found, element-goes-on, element-kind, pack-goes-on, some-elements, template-listed}
use Rattle.cpp_direct.proofs.Elements.{IsNumberRead, no-integer-type, number-unmarked}

-- ## What comes next

-- Arguments of a name were read, or elements of a pack among the arguments, and the known ones were recorded. The text before the
-- next argument or element is written.
pub record AwaitsNext (s : Symbol) (w : Direct) (is_pack : Bool) (place number : ℕ) (known : Arguments) : Type 0 where
  pub kept : Kept s w
  pub open kept use *
  pub owner : Open
  pub rest : List Open
  pub front : List ℕ
  pub template : Term
  pub name : List ℕ
  pub ts : List Term
  pub texts : List ℕ
  pub is_template : IsTemplate (detail_of s) scope.names owner front template name w.text.list.items
  pub before : List Term
  pub before_text : List ℕ
  pub come_before : ComeBefore (detail_of s) is_pack known before before_text
  pub elements : PrintAll (detail_of s) (extra_of (arguments_or_pack is_pack before before_text)) ts texts
  pub written : w.text.list.items ≡ led_by (detail_of s) (arguments_or_pack is_pack before before_text) front name ++ in_front_of_next ts texts
  pub number_is : number ≡ length (before ++ ts)
  pub among : AreAmong is_pack (detail_of s) w.text.list.items known (before ++ ts)
  pub goes : GoesOn s (arguments_or_pack is_pack before before_text) owner (below s scope rest) front template ts place state

-- no argument of a name is read yet
pub none-next : (s : Symbol) (w : Direct) → IsWriting s w (Step.List true) → EndsNamed (reverse w.waiting.list.items)
    → (n : AwaitsNext s w false w.at 0 nowhere) × (reverse w.waiting.list.items ≡ n.owner ∷ n.rest)
none-next s w p named =
    let place = p.is_before.0 in
    let ts_is : p.is_before.1 ≡ [] = p.is_before.5 refl in
    let a = template-listed s p.scope w p.state place.listing place.owner place.rest place.front place.template place.name p.is_before.1 p.is_before.2 p.is_before.2
    (λ rest e. subst (λ ws. EndsNamed ws) e named) place.belongs p.is_before.3 p.is_before.4 p.is_before.7 in
    let by = IsElementAs (detail_of s) p.scope.names (is_noted place.owner) 3 in (
      record {
        kept = p.kept;
        owner = place.owner;
        rest = place.rest;
        front = place.front;
        template = place.template;
        name = place.name;
        ts = [];
        texts = [];
        is_template = place.is_template;
        before = [];
        before_text = [];
        come_before = record { none = λ e. refl; prints = none-print (detail_of s) 3; count_is = λ e. refl; no_pack = refl };
        elements = none-print (detail_of s) 3;
        written = a.2 ∙ ap (λ l. place.front ++ place.name ++ opening_bracket (detail_of s) ++ l)
            (none-text by p.is_before.2 (subst (λ ts. PrintAllBy by ts p.is_before.2) ts_is a.1));
        number_is = refl;
        among = (λ k known single. absurd (none-known k known), λ e. absurd (false≢true e));
        goes = subst (λ ts. ArgumentsGoOn s place.owner (below s p.scope place.rest) place.front place.template ts w.at p.state) ts_is a.3;
      },
      a.0,
    )

-- some arguments of a name are read, and a comma is written
abbrev pub known-next : (s : Symbol) (old mid : Direct) (is_pack : Bool) (last number : ℕ) (known : Arguments) (p : AwaitsKnownArgument s old is_pack last known)
    → Writes old mid (codes ", ") → number ≡ last + 1 → AwaitsNext s mid is_pack old.at number known
known-next s old mid is_pack last number known p writes number_is =
    let led = led_by (detail_of s) (arguments_or_pack is_pack p.before p.before_text) p.front p.name in
    record {
      kept = kept-written s old mid (codes ", ") writes p.kept;
      owner = p.owner;
      rest = p.rest;
      front = p.front;
      template = p.template;
      name = p.name;
      ts = p.ts;
      texts = p.texts;
      is_template = subst (λ l. IsTemplate (detail_of s) p.scope.names p.owner p.front p.template p.name l) (sym writes.text)
          (template-stays (detail_of s) p.scope.names p.owner p.front p.template p.name old.text.list.items (codes ", ") p.is_template);
      before = p.before;
      before_text = p.before_text;
      come_before = p.come_before;
      elements = p.elements;
      written = writes.text ∙ ap (λ l. l ++ codes ", ") p.written ∙ append_assoc led p.texts (codes ", ")
          ∙ ap (λ l. led ++ l) (sym (next-written p.ts p.texts p.some));
      number_is = number_is ∙ p.number_is;
      among = subst (λ l. AreAmong is_pack (detail_of s) l known (p.before ++ p.ts)) (sym writes.text)
          (among-stay is_pack old.text.list.items (codes ", ") known (p.before ++ p.ts) p.among);
      goes = p.goes;
    }

-- what is among arguments is also among the elements of a pack
among-listed : {detail : Detail} {text : List ℕ} {place : Argument} {number : ℕ} {ts : List Term} → IsAmong false detail text place number ts
    → IsAmong true detail text place number ts
among-listed h = record { bytes = h.bytes; placed = h.placed; own = h.own; there = h.there; prints = inl h.prints }

-- the elements of a pack come next
abbrev pack-next : (s : Symbol) (w : Direct) (place number : ℕ) (known : Arguments) → AwaitsNext s w false place number known → StandsAt s.bytes place (74 ∷ [])
    → AwaitsNext s w true (place + 1) number (record known { before = number })
pack-next s w place number known p letter =
    let none : p.before ≡ [] = p.come_before.none refl in
    let count_is : number ≡ length p.ts = p.number_is ∙ ap (λ (l : List Term). length (l ++ p.ts)) none in
    let own : (k : ℕ) → IsKnown known k → IsAmong false (detail_of s) w.text.list.items (place_of known k) k (p.ts ++ [])
    = λ k o. subst (λ l. IsAmong false (detail_of s) w.text.list.items (place_of known k) k l) (sym (append-nil p.ts))
    (subst (λ (l : List Term). IsAmong false (detail_of s) w.text.list.items (place_of known k) k (l ++ p.ts)) none (p.among.0 k o (λ e. absurd (false≢true e)))) in
    record {
      kept = p.kept;
      owner = p.owner;
      rest = p.rest;
      front = p.front;
      template = p.template;
      name = p.name;
      ts = [];
      texts = [];
      is_template = p.is_template;
      before = p.ts;
      before_text = p.texts;
      come_before = record { none = λ e. absurd (false≢true (sym e)); prints = p.elements; count_is = λ e. count_is; no_pack = p.come_before.no_pack };
      elements = none-print (detail_of s) 0;
      written = p.written ∙ sym (append-nil (p.front ++ p.name ++ opening_bracket (detail_of s) ++ in_front_of_next p.ts p.texts));
      number_is = count_is ∙ ap length (sym (append-nil p.ts));
      among = (λ k o single. own k o, λ e k o. among-listed (own k o));
      goes = pack-goes-on s p.owner (below s p.scope p.rest) p.front p.template p.ts p.texts place p.state p.goes letter;
    }

argument-stands : (s : Symbol) (scope : Scope) (is_pack : Bool) (from number : ℕ) (known : Arguments) (owner : Open) (rest : List Open) (os : List Opened) (text : List ℕ)
    → AwaitsArgument s scope.names is_pack from number known owner (below s scope rest) os text
    → Stands s scope (argument_entry is_pack from number known ∷ argument_around is_pack owner rest) os text
argument-stands s scope false from number known owner rest os text p = p
argument-stands s scope true from number known owner rest os text p = p

argument-scoped : (scope : Scope) (around : Around) (is_pack : Bool) (from number : ℕ) (known : Arguments) (opened : List Open)
    → IsScoped scope around (argument_entry is_pack from number known ∷ opened)
argument-scoped scope around false from number known opened = none-scoped scope around (Open.Argument from number known ∷ opened) refl
argument-scoped scope around true from number known opened = none-scoped scope around (Open.Element from number known ∷ opened) refl

-- an entry opens for an argument, or for an element of the pack
argument-next : (s : Symbol) (old new : Direct) (is_pack : Bool) (from number place : ℕ) (known : Arguments) (p : AwaitsNext s old is_pack place number known)
    → from ≡ length old.text.list.items → reverse new.waiting.list.items ≡ argument_entry is_pack from number known ∷ argument_around is_pack p.owner p.rest
    → new.text ≡ old.text → new.candidates ≡ old.candidates → new.has_scope ≡ old.has_scope → new.at ≡ place → AwaitsArgumentOfName s new
argument-next s old new is_pack from number place known p from_is opened text candidates scope_same at =
    let listing = arguments_or_pack is_pack p.before p.before_text in
    let goes = p.goes in
    let element = listed-awaits s (element_kind listing) goes.1 goes.0 place p.state (element-kind listing) goes.4 in
    let stands = argument-stands s p.scope is_pack from number known p.owner p.rest element.inner old.text.list.items (
      p.front,
      p.template,
      p.name,
      p.ts,
      p.texts,
      p.is_template,
      p.before,
      p.before_text,
      p.come_before,
      p.elements,
      p.written,
      from_is,
      p.number_is,
      p.among,
      λ t here now comes. element-goes-on s (element_kind listing) (scoped_in p.owner (below s p.scope p.rest))
          (λ l there later. Closes s listing p.owner (below s p.scope p.rest) p.front p.template l there later)
          p.ts t place here p.state now goes (element.onward t here now comes),
    ) in
    record {
      kept = kept-same s old new text candidates scope_same p.kept;
      awaited = awaited-in s p.scope old new goes.0 element.inner (ap (λ v. v.list.items) text) opened goes.2 stands
          (argument-scoped p.scope goes.0 is_pack from number known (argument_around is_pack p.owner p.rest));
      awaits = subst (λ n. Expects s Kind.Argument goes.0 element.inner n p.state) (sym at) element.awaits;
    }

-- an argument may be a type
pub argument-type : (s : Symbol) (w : Direct) → AwaitsArgumentOfName s w → IsWriting s w Step.Type
argument-type s w a = record { kept = a.kept; is_before = (a.awaited, inr (inl (any-argument s a.around a.os w.at a.state a.awaits))) }

-- the first argument begins
pub argument-begins : (s : Symbol) (old new : Direct) (from : ℕ) → IsWriting s old (Step.List true)
    → EndsNamed (reverse old.waiting.list.items) → from ≡ length old.text.list.items
    → new.waiting.list.items ≡ old.waiting.list.items ++ Open.Argument from 0 nowhere ∷ [] → new.text ≡ old.text → new.candidates ≡ old.candidates → new.has_scope ≡ old.has_scope → new.at ≡ old.at
    → AwaitsArgumentOfName s new
argument-begins s old new from p named from_is waits text candidates scope_same at =
    let n = none-next s old p named in
    let entry = Open.Argument from 0 nowhere in
    argument-next s old new false from 0 old.at nowhere n.0 from_is
    (ap reverse waits ∙ reverse-last old.waiting.list.items entry ∙ ap (λ ws. entry ∷ ws) n.1) text candidates scope_same at

-- the first element of the pack begins
pub element-begins : (s : Symbol) (old new : Direct) (from : ℕ) → IsWriting s old (Step.List true)
    → EndsNamed (reverse old.waiting.list.items) → StandsAt s.bytes old.at (74 ∷ []) → from ≡ length old.text.list.items
    → new.waiting.list.items ≡ (old.waiting.list.items ++ Open.Pack ∷ []) ++ Open.Element from 0 nowhere ∷ [] → new.text ≡ old.text
    → new.candidates ≡ old.candidates → new.has_scope ≡ old.has_scope → new.at ≡ old.at + 1 → IsWriting s new Step.Type
element-begins s old new from p named letter from_is waits text candidates scope_same at =
    let n = none-next s old p named in
    let entry = Open.Element from 0 nowhere in
    argument-type s new
    (argument-next s old new true from 0 (old.at + 1) nowhere (pack-next s old old.at 0 nowhere n.0 letter) from_is
    (ap reverse waits ∙ reverse-last (old.waiting.list.items ++ Open.Pack ∷ []) entry
    ∙ ap (λ ws. entry ∷ ws) (reverse-last old.waiting.list.items Open.Pack ∙ ap (λ ws. Open.Pack ∷ ws) n.1)) text candidates scope_same at)

-- another argument or element begins
pub next-argument-begins : (s : Symbol) (old mid new : Direct) (is_pack : Bool) (last from number : ℕ) (known : Arguments) → AwaitsKnownArgument s old is_pack last known
    → Writes old mid (codes ", ") → from ≡ length mid.text.list.items → number ≡ last + 1
    → new.waiting.list.items ≡ mid.waiting.list.items ++ argument_entry is_pack from number known ∷ [] → new.text ≡ mid.text → new.candidates ≡ mid.candidates
    → new.has_scope ≡ mid.has_scope → new.at ≡ mid.at → AwaitsArgumentOfName s new
next-argument-begins s old mid new is_pack last from number known p writes from_is number_is waits text candidates scope_same at =
    let entry = argument_entry is_pack from number known in
    argument-next s mid new is_pack from number old.at known (known-next s old mid is_pack last number known p writes number_is) from_is
    (ap reverse waits ∙ reverse-last mid.waiting.list.items entry
    ∙ ap (λ ws. entry ∷ ws) (ap (λ v. reverse v.list.items) writes.waiting ∙ p.open_is)) text candidates scope_same (at ∙ writes.at)

-- the first element of a pack begins, after other arguments
pub pack-after : (s : Symbol) (old mid new : Direct) (last from number : ℕ) (known : Arguments) → AwaitsKnownArgument s old false last known
    → StandsAt s.bytes old.at (74 ∷ []) → Writes old mid (codes ", ") → from ≡ length mid.text.list.items → number ≡ last + 1
    → new.waiting.list.items ≡ (mid.waiting.list.items ++ Open.Pack ∷ []) ++ Open.Element from number (record known { before = number }) ∷ []
    → new.text ≡ mid.text → new.candidates ≡ mid.candidates → new.has_scope ≡ mid.has_scope → new.at ≡ old.at + 1 → IsWriting s new Step.Type
pack-after s old mid new last from number known p letter writes from_is number_is waits text candidates scope_same at =
    let entry = Open.Element from number (record known { before = number }) in
    argument-type s new
    (argument-next s mid new true from number (old.at + 1) (record known { before = number })
    (pack-next s mid old.at number known (known-next s old mid false last number known p writes number_is) letter) from_is
    (ap reverse waits ∙ reverse-last (mid.waiting.list.items ++ Open.Pack ∷ []) entry
    ∙ ap (λ ws. entry ∷ ws) (reverse-last mid.waiting.list.items Open.Pack
    ∙ ap (λ ws. Open.Pack ∷ ws) (ap (λ v. reverse v.list.items) writes.waiting ∙ p.open_is))) text candidates scope_same at)

-- ## What was read

-- an argument, or an element of the pack, was read
argument-read : (s : Symbol) (w : Direct) (kept : Kept s w) (is_pack is_reference : Bool) (from number : ℕ) (known : Arguments) (os : List Opened) (t : Term) (begun bytes : List ℕ)
    → w.text.list.items ≡ begun ++ bytes → PrintsListed is_pack (detail_of s) t bytes is_reference → Comes s os (tree t true) w.at kept.state
    → Stands s kept.scope (reverse w.waiting.list.items) os begun → slice_get w.waiting.list.items (length w.waiting.list.items - 1) ≡ Some (argument_entry is_pack from number known)
    → IsArgumentRead s w is_pack from number known is_reference
argument-read s w kept is_pack is_reference from number known os t begun bytes grown prints comes stands found =
    let last = last-found w.waiting.list.items (argument_entry is_pack from number known) found in
    go is_pack last.0 last.1 prints (subst (λ ws. Stands s kept.scope ws os begun) last.1 stands)
  where
    read : (b : Bool) (owner : Open) (rest : List Open) → reverse w.waiting.list.items ≡ argument_entry b from number known ∷ argument_around b owner rest
        → PrintsListed b (detail_of s) t bytes is_reference → AwaitsArgument s kept.scope.names b from number known owner (below s kept.scope rest) os begun
        → IsArgumentRead s w b from number known is_reference
    read b owner rest is prints_ waits =
        record {
          kept = kept;
          owner = owner;
          rest = rest;
          open_is = is;
          front = waits.0;
          template = waits.1;
          name = waits.2;
          ts = waits.3;
          texts = waits.4;
          t = t;
          bytes = bytes;
          is_template = subst (λ l. IsTemplate (detail_of s) kept.scope.names owner waits.0 waits.1 waits.2 l) (sym grown)
              (template-stays (detail_of s) kept.scope.names owner waits.0 waits.1 waits.2 begun bytes waits.5);
          before = waits.6;
          before_text = waits.7;
          come_before = waits.8;
          elements = waits.9;
          written = grown ∙ ap (λ l. l ++ bytes) waits.10;
          from_is = waits.11 ∙ ap length waits.10;
          number_is = waits.12;
          among = subst (λ l. AreAmong b (detail_of s) l known (waits.6 ++ waits.3)) (sym grown)
              (among-stay b begun bytes known (waits.6 ++ waits.3) waits.13);
          prints = prints_;
          goes = waits.14 t w.at kept.state comes;
        }

    go : (b : Bool) (rest : List Open) → reverse w.waiting.list.items ≡ argument_entry b from number known ∷ rest → PrintsListed b (detail_of s) t bytes is_reference
        → Stands s kept.scope (argument_entry b from number known ∷ rest) os begun → IsArgumentRead s w b from number known is_reference
    go false [] is prints_ waits = absurd waits
    go false (owner ∷ rest) is prints_ waits = read false owner rest is prints_ waits
    go true (Open.Pack ∷ owner ∷ rest) is prints_ waits = read true owner rest is prints_ waits
    go true _ is prints_ waits = absurd waits

type-listed : {detail : Detail} (in_pack : Bool) (t : Term) (b : List ℕ) (r : Bool) → Prints detail t b r → PrintsListed in_pack detail t b r
type-listed false t b r p = p
type-listed true t b r p = inl p

-- an argument or an element that is a type was read
pub value-argument : (s : Symbol) (w : Direct) (is_pack is_reference : Bool) (from number : ℕ) (known : Arguments) → IsWriting s w (Step.Value is_reference false)
    → slice_get w.waiting.list.items (length w.waiting.list.items - 1) ≡ Some (argument_entry is_pack from number known)
    → IsArgumentRead s w is_pack from number known is_reference
value-argument s w is_pack is_reference from number known p found =
    let v = p.is_before in
    argument-read s w p.kept is_pack is_reference from number known v.os v.own v.front v.bytes v.written (type-listed is_pack v.own v.bytes is_reference v.prints)
    v.comes v.stands found

-- an element that is a reference with text on both sides of a name was read
pub element-passed : (s : Symbol) (w : Direct) (from number : ℕ) (known : Arguments) → IsElementPassed s w true
    → slice_get w.waiting.list.items (length w.waiting.list.items - 1) ≡ Some (Open.Element from number known) → IsArgumentRead s w true from number known true
element-passed s w from number known p found =
    let v = p.read in
    argument-read s w v.kept true true from number known v.os v.own v.front v.bytes v.written (inr (refl, p.refers refl)) v.comes v.stands found

-- a literal was read as an argument or an element
pub literal-read : (s : Symbol) (old begun new : Direct) (from number place : ℕ) (known : Arguments) (p : AwaitsNext s old false place number known)
    → reverse old.waiting.list.items ≡ p.owner ∷ p.rest → from ≡ length old.text.list.items
    → begun.waiting.list.items ≡ old.waiting.list.items ++ Open.Argument from number known ∷ [] → begun.text ≡ old.text
    → begun.candidates ≡ old.candidates → begun.has_scope ≡ old.has_scope → begun.at ≡ place → IsLiteralRead s begun new
    → IsArgumentRead s new false from number known false
literal-read s old begun new from number place known p open_is from_is waits text candidates scope_same at l =
    let entry = Open.Argument from number known in
    let outer = below s p.scope p.rest in
    let here = old.text.list.items in
    let grown : new.text.list.items ≡ here ++ l.bytes = l.reads.text ∙ ap (λ v. v.list.items ++ l.bytes) text in
    record {
      kept = kept-read s begun new l.bytes l.reads (kept-same s old begun text candidates scope_same p.kept);
      owner = p.owner;
      rest = p.rest;
      open_is = ap (λ v. reverse v.list.items) l.reads.waiting ∙ ap reverse waits ∙ reverse-last old.waiting.list.items entry ∙ ap (λ ws. entry ∷ ws) open_is;
      front = p.front;
      template = p.template;
      name = p.name;
      ts = p.ts;
      texts = p.texts;
      t = l.own;
      bytes = l.bytes;
      is_template = subst (λ t. IsTemplate (detail_of s) p.scope.names p.owner p.front p.template p.name t) (sym grown)
          (template-stays (detail_of s) p.scope.names p.owner p.front p.template p.name here l.bytes p.is_template);
      before = p.before;
      before_text = p.before_text;
      come_before = p.come_before;
      elements = p.elements;
      written = grown ∙ ap (λ t. t ++ l.bytes) p.written;
      from_is = from_is ∙ ap length p.written;
      number_is = p.number_is;
      among = subst (λ t. AreAmong false (detail_of s) t known (p.before ++ p.ts)) (sym grown) (among-stay false here l.bytes known (p.before ++ p.ts) p.among);
      prints = l.prints;
      goes = element-goes-on s Kind.ArgumentList (scoped_in p.owner outer) (λ u now then. Closes s of_template p.owner outer p.front p.template u now then)
          p.ts l.own place new.at p.state p.state p.goes (l.goes_on Kind.ArgumentList p.goes.0 p.goes.1 p.state tt
          (subst (λ n. Expects s Kind.ArgumentList p.goes.0 p.goes.1 n p.state) (sym at) p.goes.4));
    }

-- ## Enumerators

-- an enumerator comes next
enumerator-begins : (s : Symbol) (mid pushed new : Direct) (from place number n : ℕ) (known : Arguments) (q : AwaitsNext s mid false place number known)
    → reverse mid.waiting.list.items ≡ q.owner ∷ q.rest → StandsAt s.bytes place (76 ∷ []) → from ≡ length mid.text.list.items → n ≡ place + 1
    → Writes (record mid { at = n }) pushed (codes "(") → new.waiting.list.items ≡ pushed.waiting.list.items ++ Open.ArgumentEnumerator from number known ∷ []
    → new.text ≡ pushed.text → new.candidates ≡ pushed.candidates → new.has_scope ≡ pushed.has_scope → new.at ≡ pushed.at → AwaitsNamedType s new
enumerator-begins s mid pushed new from place number n known q opened letter from_is n_is two waits text candidates scope_same at =
    let none : q.before ≡ [] = q.come_before.none refl in
    let outer = below s q.scope q.rest in
    let entry = Open.ArgumentEnumerator from number known in
    let e = enumerator-opens s Kind.ArgumentList q.goes.1 q.goes.0 place q.state tt q.goes.4 letter in
    let begun = mid.text.list.items in
    let written : new.text.list.items ≡ begun ++ codes "(" = ap (λ v. v.list.items) text ∙ two.text in
    let open_is : reverse new.waiting.list.items ≡ entry ∷ q.owner ∷ q.rest =
    ap reverse waits ∙ reverse-last pushed.waiting.list.items entry ∙ ap (λ ws. entry ∷ ws) (ap (λ v. reverse v.list.items) two.waiting ∙ opened) in
    record {
      kept = kept-grown s mid new (codes "(") written (candidates ∙ two.candidates) (scope_same ∙ two.scope) q.kept;
      awaited = awaited-in s q.scope new new q.goes.0 e.inner refl open_is q.goes.2 (
        q.front,
        q.template,
        q.name,
        q.ts,
        q.texts,
        subst (λ l. IsTemplate (detail_of s) q.scope.names q.owner q.front q.template q.name l) (sym written)
            (template-stays (detail_of s) q.scope.names q.owner q.front q.template q.name begun (codes "(") q.is_template),
        begun,
        written,
        from_is,
        q.written,
        q.come_before.no_pack,
        q.elements,
        q.number_is ∙ ap (λ (l : List Term). length (l ++ q.ts)) none,
        subst (λ l. AreAmong false (detail_of s) l known q.ts) (sym written) (among-stay false begun (codes "(") known q.ts
            (subst (λ (l : List Term). AreAmong false (detail_of s) begun known (l ++ q.ts)) none q.among)),
        λ t here now comes negative digits end minus digits_there ended.
            element-goes-on s Kind.ArgumentList (scoped_in q.owner outer) (λ l there later. Closes s of_template q.owner outer q.front q.template l there later)
            q.ts (integer t (signed_digits negative digits)) place (end + 1) q.state now q.goes (e.onward t here now comes negative digits end minus digits_there ended),
      ) (none-scoped q.scope q.goes.0 (entry ∷ q.owner ∷ q.rest) refl);
      kind = Kind.LiteralType;
      is_named = tt;
      begins = subst (λ k. TreeOpens s Kind.LiteralType e.inner q.goes.0 k q.state) (sym (at ∙ two.at ∙ n_is)) e.opens;
    }

-- an enumerator comes as the first argument
pub first-enumerator-expected : (s : Symbol) (old pushed new : Direct) (from n : ℕ) → IsWriting s old (Step.List true) → EndsNamed (reverse old.waiting.list.items)
    → StandsAt s.bytes old.at (76 ∷ []) → from ≡ length old.text.list.items → n ≡ old.at + 1 → Writes (record old { at = n }) pushed (codes "(")
    → new.waiting.list.items ≡ pushed.waiting.list.items ++ Open.ArgumentEnumerator from 0 nowhere ∷ [] → new.text ≡ pushed.text → new.candidates ≡ pushed.candidates
    → new.has_scope ≡ pushed.has_scope → new.at ≡ pushed.at → AwaitsNamedType s new
first-enumerator-expected s old pushed new from n p named letter from_is n_is two waits text candidates scope_same at =
    let q = none-next s old p named in
    enumerator-begins s old pushed new from old.at 0 n nowhere q.0 q.1 letter from_is n_is two waits text candidates scope_same at

-- an enumerator comes as another argument
pub argument-enumerator-expected : (s : Symbol) (old mid pushed new : Direct) (last from number n : ℕ) (known : Arguments) → AwaitsKnownArgument s old false last known
    → StandsAt s.bytes old.at (76 ∷ []) → Writes old mid (codes ", ") → from ≡ length mid.text.list.items → number ≡ last + 1 → n ≡ mid.at + 1
    → Writes (record mid { at = n }) pushed (codes "(") → new.waiting.list.items ≡ pushed.waiting.list.items ++ Open.ArgumentEnumerator from number known ∷ []
    → new.text ≡ pushed.text → new.candidates ≡ pushed.candidates → new.has_scope ≡ pushed.has_scope → new.at ≡ pushed.at → AwaitsNamedType s new
argument-enumerator-expected s old mid pushed new last from number n known p letter one from_is number_is n_is two waits text candidates scope_same at =
    enumerator-begins s mid pushed new from old.at number n known (known-next s old mid false last number known p one number_is)
    (ap (λ v. reverse v.list.items) one.waiting ∙ p.open_is) letter from_is (n_is ∙ ap (λ k. k + 1) one.at) two waits text candidates scope_same at

-- the type of an enumerator is read
pub value-argument-enumerator : (s : Symbol) (w : Direct) (is_reference : Bool) (from number : ℕ) (known : Arguments) → IsWriting s w (Step.Value is_reference false)
    → slice_get w.waiting.list.items (length w.waiting.list.items - 1) ≡ Some (Open.ArgumentEnumerator from number known) → AwaitsArgumentNumber s w from number known
value-argument-enumerator s w is_reference from number known p found =
    let last = last-found w.waiting.list.items (Open.ArgumentEnumerator from number known) found in
    go last.0 last.1 (subst (λ ws. Stands s p.scope ws v.os v.front) last.1 v.stands)
  where
    v : IsTypeRead s p.scope w p.state (reverse w.waiting.list.items) is_reference false
    v = p.is_before

    go : (rest : List Open) → reverse w.waiting.list.items ≡ Open.ArgumentEnumerator from number known ∷ rest
        → Stands s p.scope (Open.ArgumentEnumerator from number known ∷ rest) v.os v.front → AwaitsArgumentNumber s w from number known
    go [] is waits = absurd waits
    go (owner ∷ rest) is waits = record {
      kept = p.kept;
      owner = owner;
      rest = rest;
      open_is = is;
      front = waits.0;
      template = waits.1;
      name = waits.2;
      ts = waits.3;
      texts = waits.4;
      is_template = subst (λ l. IsTemplate (detail_of s) p.scope.names owner waits.0 waits.1 waits.2 l) (sym v.written)
          (template-stays (detail_of s) p.scope.names owner waits.0 waits.1 waits.2 v.front v.bytes waits.5);
      elements = waits.11;
      no_pack = waits.10;
      type = v.own;
      bytes = v.bytes;
      is_reference = is_reference;
      prints = v.prints;
      from_is = waits.8 ∙ ap length waits.9;
      written = v.written ∙ ap (λ l. l ++ v.bytes) (waits.7 ∙ ap (λ l. l ++ codes "(") waits.9);
      number_is = waits.12;
      among = subst (λ l. AreAmong false (detail_of s) l known waits.3) (sym v.written) (among-stay false v.front v.bytes known waits.3 waits.13);
      goes = waits.14 v.own w.at p.state v.comes;
    }

-- the number of an enumerator and its E are read
pub argument-enumerator-read : (s : Symbol) (old begun pushed middle ended new : Direct) (from number : ℕ) (known : Arguments) (a : AwaitsArgumentNumber s old from number known)
    → EndsOtherwise old.text.list.items → begun.text ≡ old.text → begun.candidates ≡ old.candidates → begun.has_scope ≡ old.has_scope → begun.at ≡ old.at
    → reverse begun.waiting.list.items ≡ a.owner ∷ a.rest → Writes begun pushed (codes ")") → (read : IsNumberRead s.bytes pushed middle)
    → StandsAt s.bytes middle.at (69 ∷ []) × (ended.at ≡ middle.at + 1) × Reads middle ended []
    → new.waiting.list.items ≡ ended.waiting.list.items ++ Open.Argument from number known ∷ [] → new.text ≡ ended.text → new.candidates ≡ ended.candidates
    → new.has_scope ≡ ended.has_scope → new.at ≡ ended.at → IsArgumentRead s new false from number known false
unfolding signed_digits
argument-enumerator-read s old begun pushed middle ended new from number known a other text candidates scope_same at opened writes read done waits same_text same_candidates same_scope same_at =
    let negative = read.0 in
    let ds = read.1 in
    let n = signed_digits negative ds in
    let t = integer a.type n in
    let here : pushed.at ≡ old.at = writes.at ∙ at in
    let led = led_by (detail_of s) of_template a.front a.name ++ in_front_of_next a.ts a.texts in
    let more = codes ")" ++ number_text n in
    let entry = Open.Argument from number known in
    let wrote : ended.text.list.items ≡ old.text.list.items ++ more =
    done.2.text ∙ append-nil middle.text.list.items ∙ read.4.text ∙ ap (λ l. l ++ number_text n) (writes.text ∙ ap (λ v. v.list.items ++ codes ")") text)
    ∙ append_assoc old.text.list.items (codes ")") (number_text n) in
    let grown : new.text.list.items ≡ old.text.list.items ++ more = ap (λ v. v.list.items) same_text ∙ wrote in
    let filled : ds ≢ [] = λ none. absurd (omega (arith, read.3.is_number.digits.1, ap length read.3.own, ap (λ (l : List ℕ). length l) none)) in
    record {
      kept = kept-same s ended new same_text same_candidates same_scope (kept-grown s old ended more wrote
          (done.2.candidates ∙ read.4.candidates ∙ writes.candidates ∙ candidates) (done.2.scope ∙ read.4.scope ∙ writes.scope ∙ scope_same) a.kept);
      owner = a.owner;
      rest = a.rest;
      open_is = ap reverse waits ∙ reverse-last ended.waiting.list.items entry
          ∙ ap (λ ws. entry ∷ ws) (ap (λ v. reverse v.list.items) (done.2.waiting ∙ read.4.waiting ∙ writes.waiting) ∙ opened);
      front = a.front;
      template = a.template;
      name = a.name;
      ts = a.ts;
      texts = a.texts;
      t = t;
      bytes = codes "(" ++ a.bytes ++ codes ")" ++ sign_text n ++ n.digits;
      is_template = subst (λ l. IsTemplate (detail_of s) a.scope.names a.owner a.front a.template a.name l) (sym grown)
          (template-stays (detail_of s) a.scope.names a.owner a.front a.template a.name old.text.list.items more a.is_template);
      before = [];
      before_text = [];
      come_before = record { none = λ e. refl; prints = none-print (detail_of s) 3; count_is = λ e. absurd (false≢true e); no_pack = a.no_pack };
      elements = a.elements;
      written = grown ∙ ap (λ l. l ++ more) a.written ∙ simp append_assoc;
      from_is = a.from_is;
      number_is = a.number_is;
      among = subst (λ l. AreAmong false (detail_of s) l known a.ts) (sym grown) (among-stay false old.text.list.items more known a.ts a.among);
      prints = enumerator-prints a.type a.bytes a.is_reference a.prints (not-integer a.type a.bytes a.is_reference a.prints
          (no-integer-type old.text.list.items led a.bytes a.written other)) n (normal-filled ds filled) (normal-unmarked ds (number-unmarked s.bytes _ ds _ read.3));
      goes = subst (λ k. GoesOn s of_template a.owner (below s a.scope a.rest) a.front a.template (a.ts ++ t ∷ []) k a.state) (sym (same_at ∙ done.1))
          (a.goes negative ds middle.at (subst (λ k. StandsAt s.bytes k (minus_sign negative)) here read.2)
          (subst (λ k. IsDigitsAt s.bytes (k + length (minus_sign negative)) ds middle.at) here read.3) done.0);
    }

-- ## Further arguments

argument-belongs : (detail : Detail) (names : Names) (is_pack : Bool) (known : Arguments) (opened : List Open) (owner : Open) (rest : List Open)
    (before : List Term) (before_text : List ℕ) → ComeBefore detail is_pack known before before_text
    → opened ≡ argument_around is_pack owner rest → Belongs detail names (arguments_or_pack is_pack before before_text) opened owner rest
argument-belongs detail names false known opened owner rest before before_text come is = is
argument-belongs detail names true known opened owner rest before before_text come is = (is, all-as detail names (is_noted owner) 3 before before_text come.prints)

-- unknown arguments may follow
pub known-passes : (s : Symbol) (w : Direct) (is_pack : Bool) (last : ℕ) (known : Arguments) → AwaitsKnownArgument s w is_pack last known
    → IsWriting s w (Step.List false)
known-passes s w is_pack last known p = let listing = arguments_or_pack is_pack p.before p.before_text in record {
  kept = p.kept;
  is_before = (
    record {
      listing = listing;
      owner = p.owner;
      rest = p.rest;
      belongs = argument-belongs (detail_of s) p.scope.names is_pack known (reverse w.waiting.list.items) p.owner p.rest p.before p.before_text p.come_before
          p.open_is;
      front = p.front;
      template = p.template;
      name = p.name;
      is_template = p.is_template;
    },
    p.ts,
    p.texts,
    all-as (detail_of s) p.scope.names (may_name listing p.owner) (extra_of listing) p.ts p.texts p.elements,
    p.written,
    λ e. absurd (false≢true e),
    λ e. p.some,
    p.goes,
  );
}

-- ## What is known of the arguments

pub earlier-there : (ts : List Term) (t u : Term) (k : ℕ) → slice_get ts k ≡ Some u → slice_get (ts ++ t ∷ []) k ≡ Some u
earlier-there [] t u k e = cc e
earlier-there (v ∷ ts) t u zero e = e
earlier-there (v ∷ ts) t u (suc k) e = earlier-there ts t u k e

pub last-there : (ts : List Term) (t : Term) → slice_get (ts ++ t ∷ []) (length ts) ≡ Some t
last-there [] t = refl
last-there (v ∷ ts) t = last-there ts t

-- an argument that is among some trees is also among any other trees that have the argument's tree
among-others : {in_pack : Bool} {detail : Detail} {text : List ℕ} {place : Argument} {number : ℕ} {ts : List Term} (h : IsAmong in_pack detail text place number ts) (k : ℕ)
    (us : List Term) → slice_get us k ≡ Some h.own → IsAmong in_pack detail text place k us
among-others h k us is = record { bytes = h.bytes; placed = h.placed; own = h.own; there = is; prints = h.prints }

-- the text of an argument, or of an element of a pack, read as an argument
single-prints : {detail : Detail} (is_pack : Bool) (t : Term) (b : List ℕ) (r : Bool) → PrintsListed is_pack detail t b r → (is_pack ≡ true → ⊥) → Prints detail t b r
single-prints false t b r p none = p
single-prints true t b r p none = absurd (none refl)

element-prints : {detail : Detail} (is_pack : Bool) (t : Term) (b : List ℕ) (r : Bool) → PrintsListed is_pack detail t b r → PrintsListed true detail t b r
element-prints false t b r p = inl p
element-prints true t b r p = p

-- one more argument is known
pub known-more : {detail : Detail} (is_pack : Bool) (text : List ℕ) (from to number : ℕ) (is_reference : Bool) (known more : Arguments) (ts : List Term) (t : Term)
    (before bytes : List ℕ) → text ≡ before ++ bytes → from ≡ length before → to ≡ length text → number ≡ length ts → PrintsListed is_pack detail t bytes is_reference
    → (is_pack ≡ true → known.before ≤ number) → more.before ≡ known.before → KnowsMore known more number from to is_reference → AreAmong is_pack detail text known ts
    → AreAmong is_pack detail text more (ts ++ t ∷ [])
known-more {detail} is_pack text from to number is_reference known more ts t before bytes written from_is to_is number_is prints behind same knows among = (
  λ k o single. one-of false k o
      (λ is. single-prints is_pack t bytes is_reference prints (λ e. omega (arith, is, same, behind e, single e)))
      (λ old. among.0 k old (λ e. omega (arith, same, single e))),
  λ e k o. one-of true k o (λ is. element-prints is_pack t bytes is_reference prints) (λ old. among.1 e k old),
)
  where
    here : (in_pack : Bool) → PrintsListed in_pack detail t bytes is_reference
        → IsAmong in_pack detail text (record { from = from; to = to; is_reference = is_reference }) number (ts ++ t ∷ [])
    here in_pack prints_ = record {
      bytes = bytes;
      placed = record {
        front = before;
        back = [];
        written = written ∙ sym (append-nil (before ++ bytes));
        from_is = from_is;
        to_is = to_is ∙ ap length written ∙ length-append before bytes;
      };
      own = t;
      there = ap (λ n. slice_get (ts ++ t ∷ []) n) number_is ∙ last-there ts t;
      prints = prints_;
    }

    one-of : (in_pack : Bool) (k : ℕ) → IsKnown more k → (k ≡ number → PrintsListed in_pack detail t bytes is_reference)
        → (IsKnown known k → IsAmong in_pack detail text (place_of known k) k ts) → IsAmong in_pack detail text (place_of more k) k (ts ++ t ∷ [])
    one-of in_pack k o prints_ old = elim (knows k o) [
      | inl h ↦
          subst (λ j. IsAmong in_pack detail text (place_of more k) j (ts ++ t ∷ [])) (sym h.0)
          (subst (λ (q : Argument). IsAmong in_pack detail text q number (ts ++ t ∷ [])) (sym h.1) (here in_pack (prints_ h.0)))
      | inr h ↦ let g = old h.0 in
          subst (λ (q : Argument). IsAmong in_pack detail text q k (ts ++ t ∷ [])) (sym h.1) (among-others g k (ts ++ t ∷ []) (earlier-there ts t g.own k g.there))
    ]

-- the argument that was read is known
argument-known : (s : Symbol) (old : Direct) (is_pack : Bool) (from to number : ℕ) (known more : Arguments) (is_reference : Bool)
    (p : IsArgumentRead s old is_pack from number known is_reference) → to ≡ length old.text.list.items → more.before ≡ known.before
    → KnowsMore known more number from to is_reference → AreAmong is_pack (detail_of s) old.text.list.items more (p.before ++ (p.ts ++ p.t ∷ []))
argument-known s old is_pack from to number known more is_reference p to_is same knows =
    subst (λ l. AreAmong is_pack (detail_of s) old.text.list.items more l) (append_assoc p.before p.ts (p.t ∷ []))
    (known-more is_pack old.text.list.items from to number is_reference known more (p.before ++ p.ts) p.t
    (led_by (detail_of s) (arguments_or_pack is_pack p.before p.before_text) p.front p.name ++ in_front_of_next p.ts p.texts) p.bytes p.written p.from_is to_is
    p.number_is p.prints (λ e. omega (arith, p.come_before.count_is e, p.number_is, length-append p.before p.ts)) same knows p.among)

-- another argument may follow
pub argument-awaits : (s : Symbol) (old new : Direct) (is_pack : Bool) (from to number : ℕ) (known more : Arguments) (is_reference : Bool)
    (p : IsArgumentRead s old is_pack from number known is_reference) → reverse new.waiting.list.items ≡ argument_around is_pack p.owner p.rest
    → new.text ≡ old.text → new.candidates ≡ old.candidates → new.has_scope ≡ old.has_scope → new.at ≡ old.at → to ≡ length old.text.list.items
    → KnowsMore known more number from to is_reference → (more.before ≡ known.before) × (more.has_pack ≡ known.has_pack)
    → AwaitsKnownArgument s new is_pack number more
argument-awaits s old new is_pack from to number known more is_reference p waits text candidates scope_same at to_is knows same =
    let ts = p.ts ++ p.t ∷ [] in
    let listing = arguments_or_pack is_pack p.before p.before_text in
    let extra = extra_of listing in
    record {
      kept = kept-same s old new text candidates scope_same p.kept;
      owner = p.owner;
      rest = p.rest;
      open_is = waits;
      front = p.front;
      template = p.template;
      name = p.name;
      ts = ts;
      texts = in_front_of_next p.ts p.texts ++ p.bytes;
      is_template = subst (λ v. IsTemplate (detail_of s) p.scope.names p.owner p.front p.template p.name v.list.items) (sym text) p.is_template;
      before = p.before;
      before_text = p.before_text;
      come_before = record {
        none = p.come_before.none;
        prints = p.come_before.prints;
        count_is = λ e. same.0 ∙ p.come_before.count_is e;
        no_pack = same.1 ∙ p.come_before.no_pack;
      };
      elements = next-prints extra p.ts p.texts p.t p.bytes p.elements (listed-element is_pack extra p.t p.bytes is_reference p.prints);
      some = some-elements p.ts p.t;
      written = ap (λ v. v.list.items) text ∙ p.written ∙ append_assoc (led_by (detail_of s) listing p.front p.name) (in_front_of_next p.ts p.texts) p.bytes;
      number_is = omega (arith, p.number_is, length-append p.ts (p.t ∷ []), length-append p.before p.ts, length-append p.before ts);
      among = subst (λ v. AreAmong is_pack (detail_of s) v.list.items more (p.before ++ ts)) (sym text)
          (argument-known s old is_pack from to number known more is_reference p to_is same.0 knows);
      goes = subst (λ n. GoesOn s listing p.owner (below s p.scope p.rest) p.front p.template ts n p.state) (sym at) p.goes;
    }

-- ## The end

-- the entry open around arguments is no pack
no-pack-around : (s : Symbol) (w : Direct) (is_pack : Bool) (last : ℕ) (known : Arguments) (p : AwaitsKnownArgument s w is_pack last known) (opened : List Open)
    → opened ≡ p.owner ∷ p.rest → (rest : List Open) → opened ≡ Open.Pack ∷ rest → ⊥
no-pack-around s w is_pack last known p opened is rest e =
    let same : p.owner ≡ Open.Pack = cc (sym is ∙ e) in
    subst (λ o. IsTemplate (detail_of s) p.scope.names o p.front p.template p.name w.text.list.items) same p.is_template

-- the arguments known so far
single-known : (s : Symbol) (w : Direct) (last : ℕ) (known : Arguments) (p : AwaitsKnownArgument s w false last known) (k : ℕ) → IsKnown known k
    → IsAmong false (detail_of s) w.text.list.items (place_of known k) k p.ts
single-known s w last known p k o =
    subst (λ (l : List Term). IsAmong false (detail_of s) w.text.list.items (place_of known k) k (l ++ p.ts)) (p.come_before.none refl)
    (p.among.0 k o (λ e. absurd (false≢true e)))

-- an argument may be the last one
pub argument-closes : (s : Symbol) (w : Direct) (n last : ℕ) (known : Arguments) → AwaitsKnownArgument s w false last known → StandsAt s.bytes w.at (69 ∷ [])
    → n ≡ w.at + 1 → IsListEnded s (record w { at = n }) known
unfolding known-passes
argument-closes s w n last known p stands at_is =
    subst (λ k. IsListEnded s (record w { at = k }) known) (sym at_is)
    (list-ends s w false known (known-passes s w false last known p) stands (no-pack-around s w false last known p (reverse w.waiting.list.items) p.open_is)
    (λ k o. single-known s w last known p k o.0, λ e. absurd (false≢true (sym p.come_before.no_pack ∙ e))))

-- an empty pack may be the last argument
pub pack-ends-empty : (s : Symbol) (w : Direct) (n last before : ℕ) (known : Arguments) → AwaitsKnownArgument s w false last known → before ≡ last + 1
    → StandsAt s.bytes w.at (74 ∷ 69 ∷ 69 ∷ []) → n ≡ w.at + 3 → IsListEnded s (record w { at = n }) (record known { has_pack = true; before = before; elements = 0 })
unfolding known-passes
pack-ends-empty s w n last before known p before_is stands at_is = subst (λ k. IsListEnded s (record w { at = k }) now) (sym at_is)
    (empty-pack-ends s w false now (known-passes s w false last known p) stands (no-pack-around s w false last known p (reverse w.waiting.list.items) p.open_is) (
      λ k o. single-known s w last known p k o.0,
      λ o. (
        [],
        subst (λ n. HasPack (list_with p.ts (list none nil)) n []) (sym count_is) (subst (λ l. HasPack l (length p.ts) []) (list-more p.ts none nil)
            (element-there (p.ts ++ none ∷ []) nil (length p.ts) none (last-there p.ts none))),
        record {
          size = refl;
          among = λ k known_.
              let h = single-known s w last known p (before + k) known_ in
              absurd (omega (arith, slice_get_within p.ts (before + k) h.own h.there, count_is));
        },
      ),
    ))
  where
    none : Term
    none = pack nil

    now : Arguments
    now = record known { has_pack = true; before = before; elements = 0 }

    count_is : before ≡ length p.ts
    count_is = before_is ∙ p.number_is ∙ ap (λ (l : List Term). length (l ++ p.ts)) (p.come_before.none refl)

front-there : (us es vs : List Term) (k : ℕ) (t : Term) → k < length us → slice_get (us ++ es) k ≡ Some t → slice_get (us ++ vs) k ≡ Some t
front-there [] es vs k t below e = absurd (omega (arith, below))
front-there (u ∷ us) es vs zero t below e = e
front-there (u ∷ us) es vs (suc k) t below e = front-there us es vs k t (omega (arith, below)) e

behind-there : (us es : List Term) (k : ℕ) (t : Term) → length us ≤ k → slice_get (us ++ es) k ≡ Some t → slice_get es (k - length us) ≡ Some t
behind-there [] es k t le e = subst (λ n. slice_get es n ≡ Some t) (omega arith) e
behind-there (u ∷ us) es zero t le e = absurd (omega (arith, le))
behind-there (u ∷ us) es (suc k) t le e = subst (λ n. slice_get es n ≡ Some t) (omega arith) (behind-there us es k t (omega (arith, le)) e)

-- what is known of a pack's elements, and of the arguments before it
elements-known : (s : Symbol) (w : Direct) (last size : ℕ) (known : Arguments) (p : AwaitsKnownArgument s w true last known) → size ≡ last + 1 - known.before
    → AreKnown (detail_of s) w.text.list.items (record known { has_pack = true; elements = size }) (p.before ++ pack (list_of p.ts) ∷ []) nil
elements-known s w last size known p size_is = (
  λ k o.
      let h = p.among.0 k o.0 (λ e. o.1 refl) in
      among-others h k all (front-there p.before p.ts (own ∷ []) k h.own (omega (arith, o.1 refl, count_is)) h.there),
  λ o. (
    p.ts,
    subst (λ n. HasPack (list_with all nil) n p.ts) (sym count_is) (element-there all nil (length p.before) own (last-there p.before own)),
    record {
      size = omega (arith, p.number_is, size_is, count_is, length-append p.before p.ts);
      among = λ k known_.
          let n = known.before + k in
          let h = p.among.1 refl n known_ in
          among-others h k p.ts (subst (λ m. slice_get p.ts m ≡ Some h.own) (omega (arith, count_is))
          (behind-there p.before p.ts n h.own (omega (arith, count_is)) h.there));
    },
  ),
)
  where
    own : Term
    own = pack (list_of p.ts)

    all : List Term
    all = p.before ++ own ∷ []

    count_is : known.before ≡ length p.before
    count_is = p.come_before.count_is refl

-- the pack ends after one of its elements, and the arguments end with the pack
pub pack-closes : (s : Symbol) (w new : Direct) (last size : ℕ) (known : Arguments) (p : AwaitsKnownArgument s w true last known)
    → StandsAt s.bytes w.at (69 ∷ []) → StandsAt s.bytes (w.at + 1) (69 ∷ []) → reverse new.waiting.list.items ≡ p.owner ∷ p.rest → new.text ≡ w.text
    → new.candidates ≡ w.candidates → new.has_scope ≡ w.has_scope → new.at ≡ w.at + 1 + 1 → size ≡ last + 1 - known.before
    → IsListEnded s new (record known { has_pack = true; elements = size })
unfolding known-passes pack-ends
pack-closes s w new last size known p ends stands waits text candidates scope_same at size_is =
    let now = record known { has_pack = true; elements = size } in
    let mid : Direct = record new { at = w.at + 1 } in
    let shut = pack-ends s w mid (known-passes s w true last known p) ends (p.owner ∷ p.rest) p.open_is text candidates scope_same refl waits in
    subst (λ n. IsListEnded s (record new { at = n }) now) (sym at)
    (list-ends s mid false now shut stands (no-pack-around s w true last known p (reverse new.waiting.list.items) waits)
    (subst (λ v. AreKnown (detail_of s) v.list.items now (p.before ++ pack (list_of p.ts) ∷ []) nil) (sym text) (elements-known s w last size known p size_is)))
