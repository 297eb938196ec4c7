-- A writer within a function type, from its beginning to its return type, its parameters and its end; and within an array.
use Rattle.cpp_direct.proofs.AllGround.{◌≡◌, ◌≢◌, inl, inr, ℕ, ◌+◌, ◌-◌, length, List, [], ◌∷◌, ◌++◌, reverse, Bool, true, false, refl, ap, sym, take, ◌∙◌, subst, arith, codes, append_assoc, append-nil, nat_eq, ◌≤◌, drop, slice_get, Some, if◌then◌else◌, ends_with, among, Around, array, builtin, Detail, is_name_byte, Kind, list, lvalue, nil, outermost, pointer, State, Term, tree, Access, AreCandidates, Arguments, AwaitsParameter, AwaitsSignature, below, Candidate, detail_of, Direct, ElementOf, hidden, hidden_behind, is_builtin, IsArrayRead, IsElement, IsElementPassed, IsElementRead, IsFunctionRead, IsReadable, IsReturned, IsScoped, IsUnmarked, IsWriting, list_with, Mark, Marks, Open, OpensEntry, PrintAll, Prints, PrintsAround, Scope, Stands, Symbol, TakesFunction, with_hidden, Writes, Comes, Expects, FunctionOpened, IsQualifiable, IsReferable, IsSizeAt, NoReference, Opened, SignatureGoesOn, StandsAt, access_letters, accessed, array_opening, candidate, is_lvalue, is_marked, plain_function, pointed, reference, reference_letter, with_accessed, with_candidate, with_pointed, NameClass, Step, kept-grown, kept-same, kept-written, candidates-more, reverse-last, type-comes, kept-as, stands-split, parameter-opens, reference-opens, signature-ends, builtin-comes, function-opens, pointed-function-opens, array-opens, list-more, none-print, none-text, none-scoped, each-unmarked, name-byte, all-reached, own-each, normal-unmarked}
use Rattle.cpp_direct.proofs.AllRead.{no-void, TakesElements, last-found, comma, in-front, popped, reference_entry, whole-awaited}
use Rattle.cpp_direct.specs.AllStates.{opening_text}
use Rattle.cpp_direct.proofs.Handed.{first-type, value-element}
use Rattle.cpp_direct.proofs.PrintedFunctions.{function-element, void-function-element, array-around, array-element}
use Rattle.cpp_grammar.specs.Values as values

-- ## The return type

-- the return type is expected after the letters of a function type
return-opens : (s : Symbol) (is_pointer : Bool) (kind : Kind) (os : List Opened) (around : Around) (at : ℕ) (st : State) → IsQualifiable kind
    → around.prefix ≡ outermost → Expects s kind around os at st → StandsAt s.bytes at (if is_pointer then 80 ∷ 70 ∷ [] else 70 ∷ [])
    → FunctionOpened s os around is_pointer (at + (if is_pointer then 2 else 1)) st
return-opens s true kind os around at st whole outside expects stands = pointed-function-opens s kind os around at st whole outside expects stands
return-opens s false kind os around at st whole outside expects stands = function-opens s kind os around at st whole outside expects stands

-- a function type begins, where the innermost entry accepts one
pub function-begins : (s : Symbol) (old new : Direct) (is_pointer : Bool) → IsWriting s old Step.Type
    → StandsAt s.bytes old.at (if is_pointer then 80 ∷ 70 ∷ [] else 70 ∷ []) → TakesFunction (reverse old.waiting.list.items) → new.waiting.list.items ≡ old.waiting.list.items ++ Open.Returned is_pointer ∷ []
    → new.at ≡ old.at + (if is_pointer then 2 else 1) → new.text ≡ old.text → new.candidates ≡ old.candidates → new.has_scope ≡ old.has_scope → IsWriting s new Step.Type
function-begins s old new is_pointer p letters takes waits at text candidates scope_same =
    let whole = whole-awaited s old p in
    let a = whole.0 in
    let f = return-opens s is_pointer a.kind a.os a.around old.at a.state whole.1 a.outside a.awaits letters in
    type-comes s old new a.kept a.around f.inner text candidates scope_same
    (ap reverse waits ∙ reverse-last old.waiting.list.items (Open.Returned is_pointer)) a.outside
    (inl (subst (λ k. Expects s Kind.Type a.around f.inner k a.state) (sym at) f.awaits))
    (record { outer = a.os; made_in = a.around; takes = takes; stands = a.stands }, f.onward)
    (none-scoped a.scope a.around (Open.Returned is_pointer ∷ reverse old.waiting.list.items) refl)

-- ## After the return type

-- the parameters follow
pub signature-begins : (s : Symbol) (old new : Direct) (is_pointer : Bool) (p : IsReturned s old is_pointer)
    → new.text.list.items ≡ old.text.list.items ++ opening_text is_pointer → new.candidates ≡ old.candidates → new.has_scope ≡ old.has_scope
    → reverse new.waiting.list.items ≡ Open.Signature is_pointer ∷ p.taker.rest → new.at ≡ old.at → AwaitsSignature s new is_pointer true
signature-begins s old new is_pointer p text candidates scope_same waits at =
    let opening = opening_text is_pointer in
    record {
      kept = kept-grown s old new opening text candidates scope_same p.kept;
      taker = p.taker;
      open_is = waits;
      first = p.first;
      ts = [];
      none = λ e. refl;
      some = λ e. cc e;
      texts = [];
      elements = none-print (detail_of s) 0;
      written = text ∙ ap (λ l. l ++ opening) p.written ∙ append_assoc p.taker.front p.first.bytes opening ∙ sym (append-nil (p.taker.front ++ (p.first.bytes ++ opening)));
      goes = subst (λ n. SignatureGoesOn s p.taker.outer p.taker.made_in is_pointer (λ l. plain_function p.first.own l) n p.state) (sym at) p.goes;
    }

-- ## Parameters

-- an element comes next, with a comma before it unless it is the first
pub parameter-next : (s : Symbol) (old new : Direct) (is_pointer is_first : Bool) → AwaitsSignature s old is_pointer is_first
    → new.text.list.items ≡ old.text.list.items ++ comma is_first → new.candidates ≡ old.candidates → new.waiting ≡ old.waiting
    → new.has_scope ≡ old.has_scope → new.at ≡ old.at → AwaitsParameter s new is_pointer
parameter-next s old new is_pointer is_first a text candidates waiting scope_same at =
    let led = a.taker.front ++ (a.first.bytes ++ opening_text is_pointer) in
    record {
      kept = kept-grown s old new (comma is_first) text candidates scope_same a.kept;
      taker = a.taker;
      open_is = ap (λ v. reverse v.list.items) waiting ∙ a.open_is;
      first = a.first;
      ts = a.ts;
      texts = a.texts;
      elements = a.elements;
      written = text ∙ ap (λ l. l ++ comma is_first) a.written ∙ append_assoc led a.texts (comma is_first)
          ∙ ap (λ l. led ++ l) (sym (in-front a.ts a.texts is_first a.none a.some));
      goes = subst (λ n. SignatureGoesOn s a.taker.outer a.taker.made_in is_pointer (λ l. plain_function a.first.own (list_with a.ts l)) n a.state) (sym at) a.goes;
    }

-- a signature continues after one more parameter
one-more : (s : Symbol) (outer : List Opened) (made_in : Around) (is_pointer : Bool) (returned : Term) (ts : List Term) (t : Term) (at : ℕ) (st : State)
    → SignatureGoesOn s outer made_in is_pointer (λ l. plain_function returned (list_with ts (list t l))) at st
    → SignatureGoesOn s outer made_in is_pointer (λ l. plain_function returned (list_with (ts ++ t ∷ []) l)) at st
one-more s outer made_in is_pointer returned ts t at st g = record {
  around = g.around;
  outside = g.outside;
  inner = g.inner;
  awaits = g.awaits;
  passes = λ l there then_ comes.
      subst (λ u. Comes s outer (tree (pointed is_pointer (plain_function returned u)) true) there
      (with_pointed is_pointer made_in (plain_function returned u) then_)) (sym (list-more ts t l)) (g.passes l there then_ comes);
}

-- the innermost entry accepts a parameter that the signature accepts
signature-stands : (s : Symbol) (w : Direct) (is_pointer : Bool) (a : AwaitsParameter s w is_pointer) (os : List Opened)
    → ((t : Term) (at : ℕ) (st : State) → Comes s os (tree t true) at st
    → SignatureGoesOn s a.taker.outer a.taker.made_in is_pointer (λ l. plain_function a.first.own (list_with a.ts (list t l))) at st)
    → Stands s a.scope (Open.Signature is_pointer ∷ a.taker.rest) os w.text.list.items
signature-stands s w is_pointer a os onward = (
  a.taker.front,
  a.taker.taken,
  a.first,
  a.ts,
  a.texts,
  a.elements,
  a.written,
  λ t at st comes. one-more s a.taker.outer a.taker.made_in is_pointer a.first.own a.ts t at st (onward t at st comes),
)

-- accepts a parameter that is no reference
pub parameter-comes : (s : Symbol) (w : Direct) (is_pointer : Bool) → AwaitsParameter s w is_pointer → NoReference s.bytes w.at → IsWriting s w Step.Type
parameter-comes s w is_pointer a none =
    let p = parameter-opens s a.taker.outer a.taker.made_in is_pointer (λ l. plain_function a.first.own (list_with a.ts l)) w.at a.state a.goes in
    type-comes s w w a.kept p.around p.inner refl refl refl a.open_is p.outside (inr (inr (p.awaits, none)))
    (signature-stands s w is_pointer a p.inner p.onward) (none-scoped a.scope p.around (Open.Signature is_pointer ∷ a.taker.rest) refl)

same-byte : (s : List ℕ) (at a b : ℕ) → StandsAt s at (a ∷ []) → StandsAt s at (b ∷ []) → a ≡ b
same-byte s at a b p q = let e : a ∷ p.0 ≡ b ∷ q.0 = sym p.1 ∙ q.1 in cc e

-- a byte other than R and O begins no reference
pub no-reference : (s : List ℕ) (at b : ℕ) → (b ≢ 0 → StandsAt s at (b ∷ [])) → b ≢ 0 → b ≢ 82 → b ≢ 79 → NoReference s at
no-reference s at b stands some other another = ((λ p. other (same-byte s at b 82 (stands some) p)), λ p. another (same-byte s at b 79 (stands some) p))

-- the entry that waits for the referenced type is open
reference-stands : (s : Symbol) (scope : Scope) (is_lvalue : Bool) (rest : List Open) (os : List Opened) (text : List ℕ) (from : ℕ)
    → Marks s (below s scope rest) os text from (reference is_lvalue) → Stands s scope (reference_entry is_lvalue from ∷ rest) os text
reference-stands s scope true rest os text from marks = marks
reference-stands s scope false rest os text from marks = marks

-- no parameter of a template is named in the referenced type
reference-scoped : (scope : Scope) (around : Around) (is_lvalue : Bool) (from : ℕ) (is_pointer : Bool) (rest : List Open)
    → IsScoped scope around (reference_entry is_lvalue from ∷ Open.Signature is_pointer ∷ rest)
reference-scoped scope around true from is_pointer rest = none-scoped scope around (Open.Lvalue from ∷ Open.Signature is_pointer ∷ rest) refl
reference-scoped scope around false from is_pointer rest = none-scoped scope around (Open.Rvalue from ∷ Open.Signature is_pointer ∷ rest) refl

-- accepts a parameter that is a reference
pub reference-comes : (s : Symbol) (old new : Direct) (is_pointer is_lvalue : Bool) (from : ℕ) → AwaitsParameter s old is_pointer
    → from ≡ length old.text.list.items → StandsAt s.bytes old.at (reference_letter is_lvalue ∷ [])
    → OpensEntry old new (reference_entry is_lvalue from) → IsWriting s new Step.Type
reference-comes s old new is_pointer is_lvalue from a begins stands entered =
    let p = reference-opens s a.taker.outer a.taker.made_in is_pointer is_lvalue (λ l. plain_function a.first.own (list_with a.ts l)) old.at a.state a.goes stands in
    let entry = reference_entry is_lvalue from in
    let turned : reverse new.waiting.list.items ≡ entry ∷ Open.Signature is_pointer ∷ a.taker.rest =
    ap reverse entered.waiting ∙ reverse-last old.waiting.list.items entry ∙ ap (λ ws. entry ∷ ws) a.open_is in
    let whole = signature-stands s old is_pointer a p.whole p.onward in
    type-comes s old new a.kept p.around p.inner entered.text entered.candidates entered.scope turned p.outside
    (inl (subst (λ n. Expects s Kind.Type p.around p.inner n a.state) (sym entered.at) p.awaits))
    (reference-stands s a.scope is_lvalue (Open.Signature is_pointer ∷ a.taker.rest) p.inner old.text.list.items from
    (p.whole, p.around, begins, p.passes, none-scoped a.scope p.around (Open.Signature is_pointer ∷ a.taker.rest) refl, whole))
    (reference-scoped a.scope p.around is_lvalue from is_pointer a.taker.rest)

-- ## The end

-- an E ends a function type whose parameters aren't a lone void
pub signature-closed : (s : Symbol) (old new : Direct) (is_pointer is_first : Bool) (a : AwaitsSignature s old is_pointer is_first)
    → StandsAt s.bytes old.at (69 ∷ []) → ends_with nat_eq old.text.list.items (codes "(void") ≡ false → new.text ≡ old.text → new.candidates ≡ old.candidates → new.has_scope ≡ old.has_scope
    → new.waiting ≡ old.waiting → new.at ≡ old.at + 1 → IsFunctionRead s new is_pointer
signature-closed s old new is_pointer is_first a ends apart text candidates scope_same waits at =
    let opening = opening_text is_pointer in
    let made = plain_function a.first.own (list_with a.ts nil) in
    record {
      kept = kept-same s old new text candidates scope_same a.kept;
      taker = a.taker;
      open_is = ap (λ v. reverse v.list.items) waits ∙ a.open_is;
      made = made;
      bytes = (a.first.bytes ++ opening) ++ a.texts;
      written = ap (λ v. v.list.items) text ∙ a.written ∙ append_assoc a.taker.front (a.first.bytes ++ opening) a.texts;
      element = λ extra. function-element extra is_pointer a.first.own a.first.bytes a.first.is_reference a.ts a.texts a.first.prints a.elements (kept-apart is_pointer refl);
      comes = subst (λ n. Comes s a.taker.outer (tree (pointed is_pointer made) true) n (with_pointed is_pointer a.taker.made_in made a.state)) (sym at)
          (a.goes.passes nil (old.at + 1) a.state
          (signature-ends s a.taker.outer a.taker.made_in is_pointer (λ l. plain_function a.first.own (list_with a.ts l)) old.at a.state a.goes ends));
    }
  where
    apart-behind : (head : List ℕ) → old.text.list.items ≡ a.taker.front ++ (a.first.bytes ++ (head ++ codes "(")) ++ a.texts → a.texts ≢ codes "void"
    apart-behind head e =
        no-void old.text.list.items (a.taker.front ++ (a.first.bytes ++ head)) a.texts
        (e ∙ ap (λ l. l ++ a.texts) (ap (λ l. a.taker.front ++ l) (sym (append_assoc a.first.bytes head (codes "(")))
        ∙ sym (append_assoc a.taker.front (a.first.bytes ++ head) (codes "(")))) apart

    kept-apart : (b : Bool) → is_pointer ≡ b → a.texts ≢ codes "void"
    kept-apart true e = apart-behind (codes " (*)") (subst (λ b. old.text.list.items ≡ a.taker.front ++ (a.first.bytes ++ opening_text b) ++ a.texts) e a.written)
    kept-apart false e = apart-behind (codes " ") (subst (λ b. old.text.list.items ≡ a.taker.front ++ (a.first.bytes ++ opening_text b) ++ a.texts) e a.written)

-- an E ends a function type whose lone void is no parameter
pub void-closed : (s : Symbol) (old new : Direct) (is_pointer : Bool) (a : AwaitsSignature s old is_pointer true)
    → StandsAt s.bytes old.at (118 ∷ 69 ∷ []) → new.text ≡ old.text → new.candidates ≡ old.candidates → new.has_scope ≡ old.has_scope → new.waiting ≡ old.waiting
    → new.at ≡ old.at + 2 → IsFunctionRead s new is_pointer
unfolding is_builtin among
void-closed s old new is_pointer a stands text candidates scope_same waits at =
    let opening = opening_text is_pointer in
    let v = builtin (118 ∷ []) in
    let none = a.none refl in
    let both = stands-split s.bytes old.at (118 ∷ []) (69 ∷ []) stands in
    let made = plain_function a.first.own (list v nil) in
    let start = subst (λ ts. SignatureGoesOn s a.taker.outer a.taker.made_in is_pointer (λ l. plain_function a.first.own (list_with ts l)) old.at a.state) none a.goes in
    let p = parameter-opens s a.taker.outer a.taker.made_in is_pointer (λ l. plain_function a.first.own l) old.at a.state start in
    let g = p.onward v (old.at + 1) a.state (builtin-comes s Kind.ItemButRef p.around p.inner old.at a.state 118 tt refl p.awaits both.0) in
    record {
      kept = kept-same s old new text candidates scope_same a.kept;
      taker = a.taker;
      open_is = ap (λ x. reverse x.list.items) waits ∙ a.open_is;
      made = made;
      bytes = a.first.bytes ++ opening;
      written = ap (λ x. x.list.items) text ∙ a.written
          ∙ ap (λ l. a.taker.front ++ (a.first.bytes ++ opening) ++ l) (none-text (IsElement (detail_of s) 0) a.texts (subst (λ ts. PrintAll (detail_of s) 0 ts a.texts) none a.elements))
          ∙ append-nil (a.taker.front ++ (a.first.bytes ++ opening));
      element = λ extra. void-function-element extra is_pointer a.first.own a.first.bytes a.first.is_reference a.first.prints;
      comes = subst (λ n. Comes s a.taker.outer (tree (pointed is_pointer made) true) n (with_pointed is_pointer a.taker.made_in made a.state)) (omega (arith, at))
          (g.passes nil (old.at + 1 + 1) a.state
          (signature-ends s a.taker.outer a.taker.made_in is_pointer (λ l. plain_function a.first.own (list v l)) (old.at + 1) a.state g both.1));
    }

-- ## A function type is forwarded

-- one more unknown candidate
pub one-hidden : (s : Symbol) (scope : Scope) (text : List ℕ) (ks : List Candidate) (cs : List values.Candidate) (c : values.Candidate)
    → AreCandidates s scope text ks cs → AreCandidates s scope text (ks ++ hidden ∷ []) (cs ++ c ∷ [])
one-hidden s scope text ks cs c p = candidates-more text ks cs hidden c p (λ ordered. absurd (omega (arith, ordered)))

-- an array becomes a candidate, and so does a pointer or a reference to it
hidden-accessed : (s : Symbol) (scope : Scope) (access : Access) (ks : List Candidate) (text : List ℕ) (made_in : Around) (t : Term) (st : State)
    → AreCandidates s scope text ks st.candidates
    → AreCandidates s scope text (hidden_behind (is_marked access) ks) (with_accessed access made_in t st).candidates
hidden-accessed s scope Access.Plain ks text made_in t st p = one-hidden s scope text ks st.candidates (candidate made_in t) p
hidden-accessed s scope Access.Pointer ks text made_in t st p =
    one-hidden s scope text (ks ++ hidden ∷ []) (with_candidate made_in t st).candidates (candidate made_in (pointer t))
    (one-hidden s scope text ks st.candidates (candidate made_in t) p)
hidden-accessed s scope Access.Lvalue ks text made_in t st p =
    one-hidden s scope text (ks ++ hidden ∷ []) (with_candidate made_in t st).candidates (candidate made_in (lvalue t))
    (one-hidden s scope text ks st.candidates (candidate made_in t) p)

hidden-candidates : (s : Symbol) (scope : Scope) (w : Direct) (is_pointer : Bool) (text : List ℕ) (made_in : Around) (t : Term) (st : State)
    → AreCandidates s scope text w.candidates.list.items st.candidates
    → AreCandidates s scope text (with_hidden w is_pointer) (with_pointed is_pointer made_in t st).candidates
hidden-candidates s scope w true text made_in t st p = hidden-accessed s scope Access.Pointer w.candidates.list.items text made_in t st p
hidden-candidates s scope w false text made_in t st p = hidden-accessed s scope Access.Plain w.candidates.list.items text made_in t st p

-- what waits for a function type, once the entry for that type is removed
pub still-popped : (s : Symbol) (old new : Direct) (is_pointer : Bool) (p : IsFunctionRead s old is_pointer) (left : List Open) (size : ℕ)
    → new.waiting ≡ old.waiting → size ≡ length new.waiting.list.items → left ≡ take (size - 1) new.waiting.list.items → reverse left ≡ p.taker.rest
still-popped s old new is_pointer p left size same length_is is =
    popped old.waiting.list.items left p.taker.rest (Open.Signature is_pointer) size (length_is ∙ ap (λ v. length v.list.items) same) p.open_is
    (is ∙ ap (λ v. take (size - 1) v.list.items) same)

-- a function type is an element or a parameter
pub function-handed : (s : Symbol) (old new : Direct) (is_pointer : Bool) (p : IsFunctionRead s old is_pointer)
    → new.text.list.items ≡ old.text.list.items ++ codes ")" → new.candidates.list.items ≡ with_hidden old is_pointer → new.has_scope ≡ old.has_scope → reverse new.waiting.list.items ≡ p.taker.rest
    → new.at ≡ old.at → IsElementPassed s new false
function-handed s old new is_pointer p text candidates scope_same waits at =
    let own = pointed is_pointer p.made in
    let then_ = with_pointed is_pointer p.taker.made_in p.made p.state in
    let grown : Direct = record old { text = new.text } in
    let kept = kept-grown s old grown (codes ")") text refl refl p.kept in
    record {
      read = record {
        kept = kept-as s grown new then_ kept refl candidates scope_same
            (hidden-candidates s p.scope old is_pointer new.text.list.items p.taker.made_in p.made p.state kept.keeps.candidates);
        os = p.taker.outer;
        own = own;
        front = p.taker.front;
        bytes = p.bytes ++ codes ")";
        written = text ∙ ap (λ l. l ++ codes ")") p.written ∙ append_assoc p.taker.front p.bytes (codes ")");
        element = p.element;
        comes = subst (λ n. Comes s p.taker.outer (tree own true) n then_) (sym at) p.comes;
        stands = subst (λ ws. Stands s p.scope ws p.taker.outer p.taker.front) (sym waits) p.taker.stands;
      };
      takes = subst TakesFunction (sym waits) p.taker.takes;
      refers = λ e. cc e;
    }

-- an entry that accepts a function type accepts elements, unless it is one for parameters or for a special object
pub takes-as-element : (o : Open) (rest : List Open) → TakesFunction (o ∷ rest) → ((x : Mark) (y : ℕ) (z : Arguments) → o ≡ Open.Parameters x y z → ⊥)
    → (o ≡ Open.Special → ⊥) → ((x : Mark) (y t : ℕ) → o ≡ Open.Enclosing x y t → ⊥)
    → ((x : Mark) (y t : ℕ) (w : Arguments) → o ≡ Open.EnclosingInstance x y t w → ⊥) → ((x y : ℕ) (w : Arguments) → o ≡ Open.Element x y w → ⊥) → TakesElements o
takes-as-element (Open.TypeArguments from is_dependent) rest takes apart z m i e = tt
takes-as-element (Open.NestArguments nest) rest takes apart z m i e = tt
takes-as-element (Open.FirstArguments nest) rest takes apart z m i e = tt
takes-as-element (Open.NameArguments from) rest takes apart z m i e = tt
takes-as-element (Open.LevelArguments is_dependent) rest takes apart z m i e = tt
takes-as-element Open.Pack rest takes apart z m i e = tt
takes-as-element (Open.Parameters x y w) rest takes apart z m i e = absurd (apart x y w refl)
takes-as-element Open.Special rest takes apart z m i e = absurd (z refl)
takes-as-element (Open.Enclosing x y t) rest takes apart z m i e = absurd (m x y t refl)
takes-as-element (Open.EnclosingInstance x y t w) rest takes apart z m i e = absurd (i x y t w refl)
takes-as-element (Open.Element x y w) rest takes apart z m i e = absurd (e x y w refl)
takes-as-element _ rest takes apart z m i e = absurd takes

-- ## The beginning of an array

referred : (s : Symbol) (access : Access) (at : ℕ) → access ≡ Access.Lvalue → StandsAt s.bytes at (access_letters access) → StandsAt s.bytes at (82 ∷ [])
referred s access at is stands = (stands-split s.bytes at (82 ∷ []) (65 ∷ []) (subst (λ a. StandsAt s.bytes at (access_letters a)) is stands)).0

-- an array begins, where the innermost entry accepts one
pub array-begins : (s : Symbol) (old new : Direct) (access : Access) (digits : List ℕ) (from to : ℕ) → IsWriting s old Step.Type
    → StandsAt s.bytes old.at (access_letters access) → TakesFunction (reverse old.waiting.list.items)
    → IsSizeAt s.bytes (old.at + length (access_letters access)) digits new.at → from ≤ to → to ≤ length s.bytes → take (to - from) (drop from s.bytes) ≡ digits
    → new.waiting.list.items ≡ old.waiting.list.items ++ Open.Array access from to ∷ [] → new.text ≡ old.text → new.candidates ≡ old.candidates → new.has_scope ≡ old.has_scope
    → IsWriting s new Step.Type
array-begins s old new access digits from to p letters takes is ordered inside size waits text candidates scope_same =
    let whole = whole-awaited s old p in
    let a = whole.0 in
    let referable : access ≡ Access.Lvalue → IsReferable a.kind =
    λ e. elim a.referable [ inl may ↦ may | inr none ↦ absurd (none.0 (referred s access old.at e letters)) ] in
    let f = array-opens s access a.kind a.os a.around old.at a.state digits new.at whole.1 referable a.awaits letters is in
    let entry = Open.Array access from to in
    type-comes s old new a.kept a.around f.inner text candidates scope_same (ap reverse waits ∙ reverse-last old.waiting.list.items entry) a.outside
    (inl f.awaits) (record { outer = a.os; made_in = a.around; takes = takes; stands = a.stands }, digits, ordered, inside, size, f.onward)
    (none-scoped a.scope a.around (entry ∷ reverse old.waiting.list.items) refl)

-- ## The end of an array

-- the type of an array's elements was read
pub value-array : (s : Symbol) (w : Direct) (is_reference : Bool) (access : Access) (from to : ℕ) → IsWriting s w (Step.Value is_reference false)
    → slice_get w.waiting.list.items (length w.waiting.list.items - 1) ≡ Some (Open.Array access from to) → IsArrayRead s w access from to
value-array s w is_reference access from to p found =
    let last = value-element s w is_reference (Open.Array access from to) p found in
    let waits = last.read.stands in
    record {
      kept = p.kept;
      taker = record { rest = last.rest; front = last.read.front; taken = waits.0 };
      open_is = last.open_is;
      digits = waits.1;
      ordered = waits.2;
      inside = waits.3;
      size = waits.4;
      first = first-type s w is_reference p;
      written = p.is_before.written;
      comes = waits.5 p.is_before.own w.at p.state p.is_before.comes;
    }

-- the digits of an array's size have no marks
size-unmarked : (s : List ℕ) (from to : ℕ) (digits : List ℕ) → IsReadable s → from ≤ to → to ≤ length s → take (to - from) (drop from s) ≡ digits
    → IsUnmarked digits
size-unmarked s from to digits readable ordered inside is =
    each-unmarked (λ b. is_name_byte NameClass.Cpp b ≡ true) name-byte digits
    (all-reached digits (own-each s from (to - from) digits (omega (arith, ordered, inside)) (omega (arith, ordered, inside)) (sym is) readable.plain))

refers-around : {detail : Detail} (access : Access) (digits : List ℕ) → IsUnmarked digits → (t : Term) (b : List ℕ) (r : Bool) → Prints detail t b r → is_lvalue access ≡ true
    → PrintsAround detail (accessed access (array digits t)) (b ++ array_opening access ++ digits ++ codes "]")
refers-around Access.Plain digits plain t b r p e = cc e
refers-around Access.Pointer digits plain t b r p e = cc e
refers-around Access.Lvalue digits plain t b r p e = array-around digits plain t b r p

pub array-written : (s : Symbol) → IsReadable s.bytes → (w begun first second third last : Direct) (access : Access) (from to : ℕ) (p : IsArrayRead s w access from to) (size : List ℕ)
    → begun.text ≡ w.text → begun.candidates ≡ w.candidates → begun.has_scope ≡ w.has_scope → begun.at ≡ w.at → reverse begun.waiting.list.items ≡ p.taker.rest
    → Writes begun first (array_opening access) → size ≡ values.normal (take (to - from) (drop from s.bytes)) → Writes first second size
    → Writes second third (codes "]") → last.candidates.list.items ≡ with_hidden third (is_marked access) → last.text ≡ third.text → last.waiting ≡ third.waiting
    → last.has_scope ≡ third.has_scope → last.at ≡ third.at → IsElementPassed s last (is_lvalue access)
array-written s readable w begun first second third last access from to p size text candidates scope_same at waits one size_is two three more same_text same_waits
    same_scope same_at =
    let opening = array_opening access in
    let digits = values.normal p.digits in
    let own = array digits p.first.own in
    let plain = normal-unmarked p.digits (size-unmarked s.bytes from to p.digits readable p.ordered p.inside p.size) in
    let whole = accessed access own in
    let bytes = p.first.bytes ++ opening ++ digits ++ codes "]" in
    let then_ = with_accessed access p.taker.made_in own p.state in
    let is : size ≡ digits = size_is ∙ ap (λ l. values.normal l) p.size in
    let grown : third.text.list.items ≡ p.taker.front ++ bytes =
    three.text ∙ ap (λ l. l ++ codes "]") (two.text ∙ ap (λ l. first.text.list.items ++ l) is
    ∙ ap (λ l. l ++ digits) (one.text ∙ ap (λ v. v.list.items ++ opening) text ∙ ap (λ l. l ++ opening) p.written)) ∙ simp append_assoc in
    let written : last.text.list.items ≡ p.taker.front ++ bytes = ap (λ v. v.list.items) same_text ∙ grown in
    let open_is : reverse last.waiting.list.items ≡ p.taker.rest =
    ap (λ v. reverse v.list.items) (same_waits ∙ three.waiting ∙ two.waiting ∙ one.waiting) ∙ waits in
    let there = kept-written s second third (codes "]") three
    (kept-written s first second size two (kept-written s begun first opening one (kept-same s w begun text candidates scope_same p.kept))) in
    record {
      read = record {
        kept = kept-as s third last then_ there same_text more same_scope
            (hidden-accessed s p.scope access third.candidates.list.items third.text.list.items p.taker.made_in own p.state there.keeps.candidates);
        os = p.taker.outer;
        own = whole;
        front = p.taker.front;
        bytes = bytes;
        written = written;
        element = λ extra. array-element extra access digits plain p.first.own p.first.bytes p.first.is_reference p.first.prints;
        comes = subst (λ n. Comes s p.taker.outer (tree whole true) n then_) (sym (same_at ∙ three.at ∙ two.at ∙ one.at ∙ at)) p.comes;
        stands = subst (λ ws. Stands s p.scope ws p.taker.outer p.taker.front) (sym open_is) p.taker.stands;
      };
      takes = subst TakesFunction (sym open_is) p.taker.takes;
      refers = refers-around access digits plain p.first.own p.first.bytes p.first.is_reference p.first.prints;
    }

-- ## An array, forwarded

-- the innermost entry accepts what prints on both sides of a name
pub passed-on : (s : Symbol) (w : Direct) {is_reference : Bool} (o : Open) → IsElementPassed s w is_reference → slice_get w.waiting.list.items (length w.waiting.list.items - 1) ≡ Some o
    → IsElementRead s w o
passed-on s w o p found =
    let last = last-found w.waiting.list.items o found in
    record { rest = last.0; open_is = last.1; read = subst (λ ws. ElementOf s w ws) last.1 p.read }
