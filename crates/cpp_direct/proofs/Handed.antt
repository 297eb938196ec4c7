-- A type was read, and is forwarded to the entry that waits for it.
use Rattle.cpp_direct.proofs.AllGround.{arith, ◌≡◌, ℕ, ◌-◌, length, List, [], ◌∷◌, ◌++◌, reverse, slice_get, Bool, true, false, Some, refl, ap, sym, ◌∙◌, subst, codes, append_assoc, ◌+◌, false≢true, Detail, instance, no_items, special, State, Term, tree, types_of, Access, AreParametersRead, argument_of, Arguments, arguments_in, ArgumentsGoOn, AwaitsElementOf, AwaitsEnumerator, AwaitsMark, AwaitsNumber, AwaitsSignature, Belongs, below, detail_of, Direct, extra_of, FirstType, in_front_of_next, is_noted, is_type, is_within_type, IsDependentNow, IsElementIn, IsElementRead, IsFrontRead, IsNaming, IsNest, IsOwn, IsPassedClosed, IsReturned, IsSymbolEnded, IsTemplate, IsTypeRead, IsWriting, Kept, led_by, list_with, Listing, Mark, Marks, Names, Nest, of_pack, of_template, Open, opening_bracket, Owns, PrintAllAs, PrintsGiven, PrintsAs, Purpose, Scope, Shows, Stands, Symbol, Holder, Opened, Comes, Step, element-in, next-prints, next-prints-in, type-element, type-in, all-given, next-prints-as, type-element-as, as-in, prints-as-given, special-shows, made-here, template-stays, kept-same, reverse-last, parameters-as}
use Rattle.cpp_direct.proofs.AllRead.{TakesElements, last-found, list-waits, some-elements}
use Rattle.cpp_direct.specs.AllStates.{opening_text}
use Rattle.cpp_direct.proofs.Elements.{element-added}

-- a type that the innermost entry is to mark was read
pub value-marked : (s : Symbol) (w : Direct) (is_reference marked_reference is_dependent : Bool) (entry : Open) (from : ℕ) (made : Term → Term) (mark : List ℕ)
    → IsWriting s w (Step.Value is_reference is_dependent) → slice_get w.waiting.list.items (length w.waiting.list.items - 1) ≡ Some entry
    → ((scope : Scope) (rest : List Open) (os : List Opened) (text : List ℕ) → Stands s scope (entry ∷ rest) os text → Marks s (below s scope rest) os text from made)
    → ((rest : List Open) → argument_of (entry ∷ rest) ≡ argument_of rest)
    → ((names : Names) (t : Term) (b : List ℕ) → PrintsAs (detail_of s) names is_dependent t b is_reference
    → PrintsAs (detail_of s) names is_dependent (made t) (b ++ mark) marked_reference) → AwaitsMark s w mark from marked_reference is_dependent
value-marked s w is_reference marked_reference is_dependent entry from made mark p found stands_as argument_as prints_as =
    let last = last-found w.waiting.list.items entry found in
    let v = subst (λ ws. IsTypeRead s p.scope w p.state ws is_reference is_dependent) last.1 p.is_before in
    let marks = stands_as p.scope last.0 v.os v.front v.stands in
    let naming : is_dependent ≡ true → IsNaming p.scope last.0 = λ e. let n = v.naming e in (sym (argument_as last.0) ∙ n.0, n.1) in
    record {
      kept = p.kept;
      entry = entry;
      rest = last.0;
      open_is = last.1;
      outer = marks.0;
      made_in = marks.1;
      made = made v.own;
      comes = marks.3 v.own w.at p.state v.comes;
      front = v.front;
      bytes = v.bytes;
      written = v.written;
      from_is = marks.2;
      prints = prints_as p.scope.names v.own v.bytes v.prints;
      naming = naming;
      made_here = λ e. made-here p.scope marks.1 last.0 marks.4 (naming e);
      stands = marks.5;
    }

-- a type that was read is the first type in a function type or in an array
abbrev pub first-type : (s : Symbol) (w : Direct) (is_reference : Bool) → IsWriting s w (Step.Value is_reference false) → FirstType s
first-type s w is_reference p = record { own = p.is_before.own; bytes = p.is_before.bytes; is_reference = is_reference; prints = p.is_before.prints }

-- a type that was read is an element or a parameter
abbrev pub value-element : (s : Symbol) (w : Direct) (is_reference : Bool) (o : Open) → IsWriting s w (Step.Value is_reference false)
    → slice_get w.waiting.list.items (length w.waiting.list.items - 1) ≡ Some o → IsElementRead s w o
value-element s w is_reference o p found =
    let v = p.is_before in
    let last = last-found w.waiting.list.items o found in
    record {
      rest = last.0;
      open_is = last.1;
      read = record {
        kept = p.kept;
        os = v.os;
        own = v.own;
        front = v.front;
        bytes = v.bytes;
        written = v.written;
        element = λ extra. type-element extra v.own v.bytes is_reference v.prints;
        comes = v.comes;
        stands = subst (λ ws. Stands s p.scope ws v.os v.front) last.1 v.stands;
      };
    }

-- a parameter of a function was read
pub parameter-got : (s : Symbol) (w : Direct) (mark : Mark) (start : ℕ) (argument : Arguments) (kept : Kept s w) (rest : List Open) (os : List Opened) (t : Term)
    (front bytes : List ℕ) (waits : Stands s kept.scope (Open.Parameters mark start argument ∷ rest) os front)
    → reverse w.waiting.list.items ≡ Open.Parameters mark start argument ∷ rest
    → w.text.list.items ≡ front ++ bytes → Comes s os (tree t true) w.at kept.state → IsElementIn (detail_of s) (types_of waits.2.is_function.own) 3 t bytes
    → AreParametersRead s w 3 false mark start argument
parameter-got s w mark start argument kept opened_ os t front bytes waits open_is written comes element =
    let ts = waits.0 in
    let texts = waits.1 in
    let f = waits.2.is_function in record {
      kept = kept;
      rest = opened_;
      open_is = open_is;
      ts = ts ++ t ∷ [];
      none = λ e. cc e;
      some = λ e. some-elements ts t;
      texts = in_front_of_next ts texts ++ bytes;
      has = parameters-as s front w.text.list.items bytes mark start argument waits.2 written
          (next-prints-in (types_of f.own) 3 ts texts t bytes f.elements element);
      written = written ∙ ap (λ l. l ++ bytes) waits.3 ∙ append_assoc (waits.2.front ++ codes "(") (in_front_of_next ts texts) bytes;
      goes = waits.4 t w.at kept.state comes;
    }

pub parameter-read : (s : Symbol) (w : Direct) (mark : Mark) (start : ℕ) (argument : Arguments) → IsElementRead s w (Open.Parameters mark start argument)
    → AreParametersRead s w 3 false mark start argument
parameter-read s w mark start argument p =
    parameter-got s w mark start argument p.read.kept p.rest p.read.os p.read.own p.read.front p.read.bytes p.read.stands p.open_is p.read.written p.read.comes
    (element-in (types_of p.read.stands.2.is_function.own) 3 p.read.own p.read.bytes (p.read.element 3))

-- a type that was read is a parameter
pub value-parameter : (s : Symbol) (w : Direct) (is_reference is_dependent : Bool) (mark : Mark) (start : ℕ) (argument : Arguments)
    → IsWriting s w (Step.Value is_reference is_dependent)
    → slice_get w.waiting.list.items (length w.waiting.list.items - 1) ≡ Some (Open.Parameters mark start argument) → AreParametersRead s w 3 false mark start argument
value-parameter s w is_reference is_dependent mark start argument p found =
    let last = last-found w.waiting.list.items (Open.Parameters mark start argument) found in
    let v = subst (λ ws. IsTypeRead s p.scope w p.state ws is_reference is_dependent) last.1 p.is_before in
    let f = v.stands.2.is_function in
    let types = types_of f.own in
    parameter-got s w mark start argument p.kept last.0 v.os v.own v.front v.bytes v.stands last.1 v.written v.comes
    (type-in types 3 v.own v.bytes is_reference (omega arith) (as-in (detail_of s) p.scope.names is_dependent types v.own v.bytes is_reference f.given v.prints))

-- the type of a special object was read
pub special-read : (s : Symbol) (w : Direct) → IsElementRead s w Open.Special → IsSymbolEnded s w
special-read s w p =
    let waits = p.read.stands in
    let letter = waits.0 in
    let front_is = waits.1 in
    record {
      kept = p.read.kept;
      e = special letter p.read.own;
      encoded = waits.3 p.read.own w.at p.read.state p.read.comes;
      shows = subst (λ l. Shows (detail_of s) (special letter p.read.own) l) (sym (p.read.written ∙ ap (λ l. l ++ p.read.bytes) front_is))
          (special-shows letter (λ e. waits.2 (front_is ∙ e)) p.read.own p.read.bytes (p.read.element 0));
    }

-- a type that was read is the type of an enumerator
pub value-enumerator : (s : Symbol) (w : Direct) (is_reference : Bool) → IsWriting s w (Step.Value is_reference false)
    → slice_get w.waiting.list.items (length w.waiting.list.items - 1) ≡ Some Open.Enumerator → AwaitsNumber s w
value-enumerator s w is_reference p found =
    let last = last-found w.waiting.list.items Open.Enumerator found in
    go last.0 last.1 (subst (λ ws. Stands s p.scope ws v.os v.front) last.1 v.stands)
  where
    v : IsTypeRead s p.scope w p.state (reverse w.waiting.list.items) is_reference false
    v = p.is_before

    number : (l : Listing) (opened : List Open) (owner : Open) (rest : List Open) → reverse w.waiting.list.items ≡ Open.Enumerator ∷ opened
        → Belongs (detail_of s) p.scope.names l opened owner rest → AwaitsEnumerator s p.scope.names l owner (below s p.scope rest) v.os v.front → AwaitsNumber s w
    number l opened owner rest is belongs waits = record {
      kept = p.kept;
      opened = opened;
      open_is = is;
      place = record {
        listing = l;
        owner = owner;
        rest = rest;
        belongs = belongs;
        front = waits.0;
        template = waits.1;
        name = waits.2;
        is_template = subst (λ k. IsTemplate (detail_of s) p.scope.names owner waits.0 waits.1 waits.2 k) (sym v.written)
            (template-stays (detail_of s) p.scope.names owner waits.0 waits.1 waits.2 v.front v.bytes waits.5);
      };
      ts = waits.3;
      texts = waits.4;
      elements = waits.6;
      type = v.own;
      bytes = v.bytes;
      is_reference = is_reference;
      prints = v.prints;
      written = v.written ∙ ap (λ k. k ++ v.bytes) waits.7;
      goes = waits.8 v.own w.at p.state v.comes;
    }

    go : (rest : List Open) → reverse w.waiting.list.items ≡ Open.Enumerator ∷ rest → Stands s p.scope (Open.Enumerator ∷ rest) v.os v.front → AwaitsNumber s w
    go [] is waits = absurd waits
    go (Open.Pack ∷ []) is waits = absurd waits
    go (Open.Pack ∷ owner ∷ rest) is waits = number (of_pack waits.0 waits.1) (Open.Pack ∷ owner ∷ rest) owner rest is (refl, waits.2) waits.3
    go (owner ∷ rest) is waits = number of_template (owner ∷ rest) owner rest is refl waits

-- an entry that is none of the kinds excluded here accepts only types that name no argument of the function's template
pub passed-closed : (o : Open) → ((x : ℕ) → o ≡ Open.Pointer x → ⊥) → ((x : ℕ) → o ≡ Open.Lvalue x → ⊥) → ((x : ℕ) → o ≡ Open.Rvalue x → ⊥)
    → ((x : ℕ) → o ≡ Open.Const x → ⊥) → ((x : Mark) (y : ℕ) (z : Arguments) → o ≡ Open.Parameters x y z → ⊥)
    → ((x : Mark) (y : ℕ) (z : Arguments) → o ≡ Open.Front x y z → ⊥) → IsPassedClosed o
passed-closed (Open.Pointer x) p l r c f k = absurd (p x refl)
passed-closed (Open.Lvalue x) p l r c f k = absurd (l x refl)
passed-closed (Open.Rvalue x) p l r c f k = absurd (r x refl)
passed-closed (Open.Const x) p l r c f k = absurd (c x refl)
passed-closed (Open.Parameters x y z) p l r c f k = absurd (f x y z refl)
passed-closed (Open.Front x y z) p l r c f k = absurd (k x y z refl)
passed-closed _ p l r c f k = tt

-- an entry that accepts only types that name no argument accepts elements, unless it is of a kind excluded here
pub takes-elements : (o : Open) → IsPassedClosed o → ((x : Bool) → o ≡ Open.Returned x → ⊥) → ((x : Bool) → o ≡ Open.Signature x → ⊥)
    → (o ≡ Open.Special → ⊥) → (o ≡ Open.Derived → ⊥) → ((x : ℕ) → o ≡ Open.Base x → ⊥) → (o ≡ Open.Enumerator → ⊥) → ((x : Mark) (y z : ℕ) → o ≡ Open.Enclosing x y z → ⊥)
    → ((x : Mark) (y t : ℕ) (z : Arguments) → o ≡ Open.EnclosingInstance x y t z → ⊥)
    → ((x : Mark) (y t : ℕ) (z : Arguments) → o ≡ Open.EnclosingFront x y t z → ⊥)
    → ((x y : ℕ) (z : Arguments) → o ≡ Open.Argument x y z → ⊥) → ((x : ℕ) (y : Holder) → o ≡ Open.Lambda x y → ⊥) → ((x : Mark) (y : ℕ) → o ≡ Open.Member x y → ⊥) → ((x y : ℕ) (z : Arguments) → o ≡ Open.Element x y z → ⊥)
    → ((x : Access) (y z : ℕ) → o ≡ Open.Array x y z → ⊥) → ((x : ℕ) → o ≡ Open.Address x → ⊥)
    → ((x : Mark) (y : ℕ) (z : Arguments) → o ≡ Open.AddressedFront x y z → ⊥) → ((x : Mark) (y : ℕ) (z : Arguments) → o ≡ Open.Addressed x y z → ⊥)
    → ((x y : ℕ) (z : Arguments) → o ≡ Open.ArgumentEnumerator x y z → ⊥) → TakesElements o
takes-elements (Open.Pointer x) w u g z k c n m i h a q r e j d f b p = absurd w
takes-elements (Open.Lvalue x) w u g z k c n m i h a q r e j d f b p = absurd w
takes-elements (Open.Rvalue x) w u g z k c n m i h a q r e j d f b p = absurd w
takes-elements (Open.Const x) w u g z k c n m i h a q r e j d f b p = absurd w
takes-elements (Open.Parameters x y v) w u g z k c n m i h a q r e j d f b p = absurd w
takes-elements (Open.Front x y v) w u g z k c n m i h a q r e j d f b p = absurd w
takes-elements (Open.Argument x y v) w u g z k c n m i h a q r e j d f b p = absurd (a x y v refl)
takes-elements (Open.Returned x) w u g z k c n m i h a q r e j d f b p = absurd (u x refl)
takes-elements (Open.Signature x) w u g z k c n m i h a q r e j d f b p = absurd (g x refl)
takes-elements (Open.Enclosing x y v) w u g z k c n m i h a q r e j d f b p = absurd (m x y v refl)
takes-elements (Open.EnclosingInstance x y t v) w u g z k c n m i h a q r e j d f b p = absurd (i x y t v refl)
takes-elements (Open.EnclosingFront x y t v) w u g z k c n m i h a q r e j d f b p = absurd (h x y t v refl)
takes-elements (Open.Lambda x y) w u g z k c n m i h a q r e j d f b p = absurd (q x y refl)
takes-elements (Open.Member x y) w u g z k c n m i h a q r e j d f b p = absurd (r x y refl)
takes-elements (Open.Array x y v) w u g z k c n m i h a q r e j d f b p = absurd (j x y v refl)
takes-elements (Open.Element x y v) w u g z k c n m i h a q r e j d f b p = absurd (e x y v refl)
takes-elements (Open.Address x) w u g z k c n m i h a q r e j d f b p = absurd (d x refl)
takes-elements (Open.AddressedFront x y v) w u g z k c n m i h a q r e j d f b p = absurd (f x y v refl)
takes-elements (Open.Addressed x y v) w u g z k c n m i h a q r e j d f b p = absurd (b x y v refl)
takes-elements Open.Special w u g z k c n m i h a q r e j d f b p = absurd (z refl)
takes-elements Open.Derived w u g z k c n m i h a q r e j d f b p = absurd (k refl)
takes-elements (Open.Base x) w u g z k c n m i h a q r e j d f b p = absurd (c x refl)
takes-elements (Open.ArgumentEnumerator x y v) w u g z k c n m i h a q r e j d f b p = absurd (p x y v refl)
takes-elements Open.Enumerator w u g z k c n m i h a q r e j d f b p = absurd (n refl)
takes-elements _ w u g z k c n m i h a q r e j d f b p = tt

-- an element was read
pub argument-read : (s : Symbol) (w : Direct) (o : Open) → IsElementRead s w o → TakesElements o → IsWriting s w (Step.List false)
argument-read s w o p takes =
    let waits = list-waits s o p.rest p.read.os p.read.front takes p.read.stands in
    let place = waits.place in
    element-added s w p.read.kept place p.read.bytes waits.ts waits.texts p.read.own p.read.bytes waits.elements (p.read.element (extra_of place.listing)) p.open_is p.read.written
    (ap (λ l. l ++ p.read.bytes) waits.written ∙ append_assoc (led_by (detail_of s) place.listing place.front place.name) (in_front_of_next waits.ts waits.texts) p.read.bytes)
    (waits.onward p.read.own w.at p.read.state p.read.comes)

-- ## A list notes that one of its elements names arguments of the function's template

-- the changed entry notes that one of its arguments names arguments of the function's template
noted-now : (o noted : Open) → IsDependentNow o noted → is_noted noted ≡ true
noted-now (Open.TypeArguments from is_dependent) noted is = ap is_noted is
noted-now (Open.NestArguments nest) noted is = ap is_noted is.1
noted-now (Open.FirstArguments nest) noted is = ap is_noted is.1
noted-now (Open.LevelArguments is_dependent) noted is = ap is_noted is
noted-now _ noted is = absurd is

-- an entry for arguments that may name those of the function's template is within a type
pub noted-within : (o noted : Open) → IsDependentNow o noted → is_within_type o ≡ true
noted-within (Open.TypeArguments from is_dependent) noted is = refl
noted-within (Open.NestArguments nest) noted is = ap is_type is.0
noted-within (Open.FirstArguments nest) noted is = ap is_type is.0
noted-within (Open.LevelArguments is_dependent) noted is = refl
noted-within _ noted is = absurd is

noted-nest : {detail : Detail} {names : Names} (front name text : List ℕ) (nest : Nest) (t : Term) → nest.purpose ≡ Purpose.Type
    → IsNest detail names front name text nest t → IsNest detail names front name text (record nest { is_dependent = true }) t
noted-nest {detail} {names} front name text nest t type p = record {
  back = p.back;
  written = p.written;
  from_is = p.from_is;
  prints = prints-as-given detail names nest.is_dependent t name false p.prints;
  closed = λ own. absurd (subst IsOwn type own);
  class = p.class;
  class_placed = p.class_placed;
  names_class = λ h plain. absurd (false≢true (sym plain));
}

-- the changed entry has the same template before its arguments
noted-template : (detail : Detail) (names : Names) (o noted : Open) (front : List ℕ) (t : Term) (name text : List ℕ) → IsDependentNow o noted
    → IsTemplate detail names o front t name text → IsTemplate detail names noted front t name text
noted-template detail names (Open.TypeArguments from is_dependent) noted front t name text is p = subst (λ o. IsTemplate detail names o front t name text) (sym is) p
noted-template detail names (Open.NestArguments nest) noted front t name text is p =
    subst (λ o. IsTemplate detail names o front t name text) (sym is.1) (noted-nest front name text nest t is.0 p.0, p.1, p.2)
noted-template detail names (Open.FirstArguments nest) noted front t name text is p =
    subst (λ o. IsTemplate detail names o front t name text) (sym is.1) (noted-nest front name text nest t is.0 p)
noted-template detail names (Open.LevelArguments is_dependent) noted front t name text is p = subst (λ o. IsTemplate detail names o front t name text) (sym is) p
noted-template detail names _ noted front t name text is p = absurd is

-- the changed entry becomes the same instance
noted-owns : (s : Symbol) (scope : Scope) (o noted : Open) (rest : List Open) (front : List ℕ) (u : Term) (at : ℕ) (st : State) → IsDependentNow o noted
    → IsNaming scope rest → Owns s o (below s scope rest) front u at st → Owns s noted (below s scope rest) front u at st
noted-owns s scope (Open.TypeArguments from is_dependent) noted rest front u at st is naming p =
    subst (λ o. Owns s o (below s scope rest) front u at st) (sym is) (p.0, p.1, p.2, p.3, (λ named. naming), p.5)
noted-owns s scope (Open.NestArguments nest) noted rest front u at st is naming p =
    subst (λ o. Owns s o (below s scope rest) front u at st) (sym is.1) (p.0, p.1, p.2, p.3, (λ named. naming), p.5)
noted-owns s scope (Open.FirstArguments nest) noted rest front u at st is naming p =
    subst (λ o. Owns s o (below s scope rest) front u at st) (sym is.1) (p.0, p.1, p.2, p.3, (λ named. naming), p.5)
noted-owns s scope (Open.LevelArguments is_dependent) noted rest front u at st is naming p =
    subst (λ o. Owns s o (below s scope rest) front u at st) (sym is) (p.0, p.1, (λ named. naming), p.3)
noted-owns s scope _ noted rest front u at st is naming p = absurd is

-- an entry for arguments that may name those of the function's template expects a type as an argument
noted-awaits : (s : Symbol) (scope : Scope) (o noted : Open) (rest : List Open) (os : List Opened) (text : List ℕ) → IsDependentNow o noted
    → Stands s scope (o ∷ rest) os text → AwaitsElementOf s scope.names of_template o (below s scope rest) os text
noted-awaits s scope (Open.TypeArguments from is_dependent) noted rest os text is p = p
noted-awaits s scope (Open.NestArguments nest) noted rest os text is p = p
noted-awaits s scope (Open.FirstArguments nest) noted rest os text is p = p
noted-awaits s scope (Open.LevelArguments is_dependent) noted rest os text is p = p
noted-awaits s scope _ noted rest os text is p = absurd is

-- an argument that names arguments of the function's template was read, and the innermost entry notes this
pub noted-added : (s : Symbol) (w new : Direct) (kept : Kept s w) (ws : List Open) (owner noted : Open) (front : List ℕ) (template : Term) (name : List ℕ) (ts : List Term)
    (texts : List ℕ) (t : Term) (bytes : List ℕ) (is_reference : Bool) → IsTemplate (detail_of s) kept.scope.names owner front template name w.text.list.items
    → PrintAllAs (detail_of s) kept.scope.names (is_noted owner) 3 ts texts → PrintsGiven (detail_of s) kept.scope.names t bytes is_reference
    → w.text.list.items ≡ (front ++ name ++ opening_bracket (detail_of s) ++ in_front_of_next ts texts) ++ bytes → IsNaming kept.scope (owner ∷ reverse ws)
    → ArgumentsGoOn s owner (below s kept.scope (reverse ws)) front template (ts ++ t ∷ []) w.at kept.state → IsDependentNow owner noted
    → new.waiting.list.items ≡ ws ++ noted ∷ [] → new.text ≡ w.text → new.candidates ≡ w.candidates → new.has_scope ≡ w.has_scope → new.at ≡ w.at
    → IsWriting s new (Step.List false)
noted-added s w new kept ws owner noted front template name ts texts t bytes is_reference is_template elements prints written named goes is waits text candidates scope_same at =
    let scope = kept.scope in
    let rest = reverse ws in
    let naming : IsNaming scope rest =
    (subst (λ b. elim b [ true ↦ argument_of rest | false ↦ arguments_in owner ] ≡ Some scope.arguments) (noted-within owner noted is) named.0, named.1) in
    let all : PrintAllAs (detail_of s) scope.names true 3 (ts ++ t ∷ []) (in_front_of_next ts texts ++ bytes) =
    next-prints-as (detail_of s) scope.names true 3 ts texts t bytes (all-given (detail_of s) scope.names (is_noted owner) 3 ts texts elements)
    (type-element-as (detail_of s) scope.names true t bytes is_reference prints) in
    record {
      kept = kept-same s w new text candidates scope_same kept;
      is_before = (
        record {
          listing = of_template;
          owner = noted;
          rest = rest;
          belongs = ap reverse waits ∙ reverse-last ws noted;
          front = front;
          template = template;
          name = name;
          is_template = noted-template (detail_of s) scope.names owner noted front template name new.text.list.items is
              (subst (λ v. IsTemplate (detail_of s) scope.names owner front template name v.list.items) (sym text) is_template);
        },
        ts ++ t ∷ [],
        in_front_of_next ts texts ++ bytes,
        subst (λ d. PrintAllAs (detail_of s) scope.names d 3 (ts ++ t ∷ []) (in_front_of_next ts texts ++ bytes)) (sym (noted-now owner noted is)) all,
        ap (λ v. v.list.items) text ∙ written ∙ append_assoc (front ++ name ++ opening_bracket (detail_of s)) (in_front_of_next ts texts) bytes,
        λ first. absurd (false≢true first),
        λ further. some-elements ts t,
        subst (λ n. ArgumentsGoOn s noted (below s scope rest) front template (ts ++ t ∷ []) n kept.state) (sym at) (
          goes.0,
          goes.1,
          goes.2,
          λ within. goes.3 (noted-within owner noted is),
          goes.4,
          λ l here now comes ended. noted-owns s scope owner noted rest front (instance template (list_with (ts ++ t ∷ []) (no_items l))) (here + 1) now is naming
              (goes.5 l here now comes ended),
        ),
      );
    }

-- a type that names arguments of the function's template was read as an argument, and the innermost entry notes this
pub listed-noted : (s : Symbol) (w new : Direct) (is_reference : Bool) (ws : List Open) (owner noted : Open) → IsWriting s w (Step.Value is_reference true)
    → w.waiting.list.items ≡ ws ++ owner ∷ [] → IsDependentNow owner noted → new.waiting.list.items ≡ ws ++ noted ∷ []
    → new.text ≡ w.text → new.candidates ≡ w.candidates → new.has_scope ≡ w.has_scope → new.at ≡ w.at → IsWriting s new (Step.List false)
listed-noted s w new is_reference ws owner noted p waits is now_waits text candidates scope_same at =
    let scope = p.scope in
    let v = subst (λ os. IsTypeRead s scope w p.state os is_reference true) (ap reverse waits ∙ reverse-last ws owner) p.is_before in
    let waits = noted-awaits s scope owner noted (reverse ws) v.os v.front is v.stands in
    noted-added s w new p.kept ws owner noted waits.0 waits.1 waits.2 waits.3 waits.4 v.own v.bytes is_reference
    (subst (λ l. IsTemplate (detail_of s) scope.names owner waits.0 waits.1 waits.2 l) (sym v.written)
    (template-stays (detail_of s) scope.names owner waits.0 waits.1 waits.2 v.front v.bytes waits.5))
    waits.6 v.prints (v.written ∙ ap (λ l. l ++ v.bytes) waits.7) (v.naming refl) (waits.8 v.own w.at p.state v.comes) is now_waits text candidates scope_same at

-- ## Return types

-- a type that was read is the return type of a function
pub value-front : (s : Symbol) (w : Direct) (is_reference is_dependent : Bool) (mark : Mark) (start : ℕ) (argument : Arguments)
    → IsWriting s w (Step.Value is_reference is_dependent)
    → slice_get w.waiting.list.items (length w.waiting.list.items - 1) ≡ Some (Open.Front mark start argument) → IsFrontRead s w mark start argument
value-front s w is_reference is_dependent mark start argument p found =
    let last = last-found w.waiting.list.items (Open.Front mark start argument) found in
    let v = subst (λ ws. IsTypeRead s p.scope w p.state ws is_reference is_dependent) last.1 p.is_before in
    let is = v.stands.0.is_instance in
    record {
      kept = p.kept;
      front = v.front;
      has = v.stands.0;
      returned = v.own;
      bytes = v.bytes;
      is_reference = is_reference;
      prints = as-in (detail_of s) p.scope.names is_dependent (types_of is.own) v.own v.bytes is_reference is.given v.prints;
      written = v.written;
      goes = v.stands.1 v.own w.at p.state v.comes;
    }

-- ## Function types

-- a type that was read is the return type of a function type
pub value-returned : (s : Symbol) (w : Direct) (is_reference is_pointer : Bool) → IsWriting s w (Step.Value is_reference false)
    → slice_get w.waiting.list.items (length w.waiting.list.items - 1) ≡ Some (Open.Returned is_pointer) → IsReturned s w is_pointer
value-returned s w is_reference is_pointer p found =
    let last = value-element s w is_reference (Open.Returned is_pointer) p found in
    let waits = last.read.stands in
    record {
      kept = p.kept;
      taker = record { rest = last.rest; front = last.read.front; taken = waits.0 };
      open_is = last.open_is;
      first = first-type s w is_reference p;
      written = p.is_before.written;
      goes = waits.1 p.is_before.own w.at p.state p.is_before.comes;
    }

-- a type that was read is a parameter of a function type
pub value-signature : (s : Symbol) (w : Direct) (is_reference is_pointer : Bool) → IsWriting s w (Step.Value is_reference false)
    → slice_get w.waiting.list.items (length w.waiting.list.items - 1) ≡ Some (Open.Signature is_pointer) → AwaitsSignature s w is_pointer false
value-signature s w is_reference is_pointer p found =
    let last = value-element s w is_reference (Open.Signature is_pointer) p found in
    let t = last.read.own in
    let b = last.read.bytes in
    let waits = last.read.stands in
    let ts = waits.3 in
    let texts = waits.4 in
    record {
      kept = p.kept;
      taker = record { rest = last.rest; front = waits.0; taken = waits.1 };
      open_is = last.open_is;
      first = waits.2;
      ts = ts ++ t ∷ [];
      none = λ e. absurd (false≢true e);
      some = λ e. some-elements ts t;
      texts = in_front_of_next ts texts ++ b;
      elements = next-prints 0 ts texts t b waits.5 (last.read.element 0);
      written = p.is_before.written ∙ ap (λ l. l ++ b) waits.6
          ∙ append_assoc (waits.0 ++ (waits.2.bytes ++ opening_text is_pointer)) (in_front_of_next ts texts) b;
      goes = waits.7 t w.at p.state p.is_before.comes;
    }
