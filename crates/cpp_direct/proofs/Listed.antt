-- A writer at the end of arguments or a pack, and between two elements.
use Rattle.cpp_direct.proofs.AllGround.{arguments_of, Around, count, Detail, element, instance, Kind, list, may_be_empty, nil, no_items, nothing_there, pack, State, Term, tree, tree_of, ◌≡◌, ◌≢◌, inl, inr, ℕ, ◌+◌, ◌-◌, ◌<◌, length, List, [], ◌∷◌, ◌++◌, reverse, slice_get, get_or, Bool, true, false, Some, None, refl, ap, sym, ◌∙◌, subst, arith, codes, append_assoc, append-nil, length-reverse, get_or-reverse, slice_get_within, get_or_from_slice_get, added, AreKnown, Arguments, arguments_in, ArgumentsGoOn, AwaitsElementOf, AwaitsEnumerator, AwaitsNextArgument, Belongs, Below, below, Closes, closing_bracket, detail_of, Direct, element_kind, ElementsGoOn, EnumeratorGoesOn, extra_of, GoesOn, HasArguments, HasPack, in_front_of_next, is_noted, IsListEnded, IsListing, IsNameEnded, IsNaming, IsNest, IsScoped, IsTail, IsTemplate, IsWriting, Kept, led_by, list_of, list_with, Listing, Lists, may_name, Names, Nest, nowhere, of_pack, of_template, Open, opening_bracket, OpensEntry, Owns, PrintAllAs, PrintsAs, Scope, scoped_in, Serves, Stands, Symbol, Writes, AwaitsComponent, Comes, IsArgumentKind, IsListKind, ListGoesOn, Opened, StandsAt, with_candidate, Mark, Step, expects-empty, stands-split, element-awaits, pack-opens, element-as, list-more, list-with-none, next-prints-as, none-print, pack-element, as-name, prints-as, element-there, instance-returns, known-stay, none-scoped, structor-returns, has-plain, kept-grown, kept-same, made-here, scoped-within, template-stays, type-comes, value-added, reverse-last, type-named, none-known, kept-with}
use Rattle.cpp_direct.proofs.PrintedNests.{instance-as, instance-prints, instance-class}

-- ## What is open

-- the innermost open entry
pub last-found : (xs : List Open) (x : Open) → slice_get xs (length xs - 1) ≡ Some x → (rest : List Open) × (reverse xs ≡ x ∷ rest)
last-found xs x found = go (reverse xs) refl
  where
    some : 0 < length xs
    some = omega (arith, slice_get_within xs (length xs - 1) x found)

    go : (r : List Open) → reverse xs ≡ r → (rest : List Open) × (reverse xs ≡ x ∷ rest)
    go [] e = absurd (omega (arith, some, length-reverse xs, ap length e))
    go (y ∷ rest) e =
        let same : length xs - 1 - 0 ≡ length xs - 1 = omega arith in (
          rest,
          e ∙ ap (λ z. z ∷ rest) (sym (ap (λ l. get_or l 0 y) e) ∙ get_or-reverse xs 0 y some ∙ ap (λ n. get_or xs n y) same
              ∙ get_or_from_slice_get xs (length xs - 1) x y found),
        )

-- the innermost open entry, and the entries around it once it is removed
opened-last : (ws ps : List Open) (x owner : Open) (rest : List Open) → reverse ws ≡ owner ∷ rest → ws ≡ ps ++ x ∷ [] → (owner ≡ x) × (rest ≡ reverse ps)
opened-last ws ps x owner rest turned is = let e : owner ∷ rest ≡ x ∷ reverse ps = sym turned ∙ ap reverse is ∙ reverse-last ps x in (cc e, cc e)

-- the innermost open entry is this one
pub waits-last : (items xs : List Open) (x y : Open) → xs ≡ items → Some x ≡ slice_get xs (length xs - 1) → x ≡ y → slice_get items (length items - 1) ≡ Some y
waits-last items xs x y same found is = ap (λ l. slice_get l (length l - 1)) (sym same) ∙ sym found ∙ ap (λ o. Some o) is

-- ## Lists

-- a list with one more element isn't empty
pub some-elements : (ts : List Term) (t : Term) → ts ++ t ∷ [] ≢ []
some-elements [] t e = cc e
some-elements (u ∷ ts) t e = cc e

pub list-kind : (l : Listing) → IsListKind (element_kind l)
list-kind of_template = tt
list-kind (of_pack before written) = tt

-- arguments and packs are lists of arguments
pub element-kind : (l : Listing) → IsArgumentKind (element_kind l)
element-kind of_template = tt
element-kind (of_pack before written) = tt

-- a list continues after one more element
pub element-goes-on : (s : Symbol) (kind : Kind) (scoped : Around → Type 0) (closes : Term → (at : ℕ) → State → Type 0) (ts : List Term) (t : Term)
    (before at : ℕ) (earlier st : State) (goes : ElementsGoOn s kind scoped closes ts before earlier) → ListGoesOn s kind goes.1 goes.0 t at st
    → ElementsGoOn s kind scoped closes (ts ++ t ∷ []) at st
unfolding no_items tree_of
element-goes-on s kind scoped closes ts t before at earlier st goes g = (
  goes.0,
  g.inner,
  goes.2,
  goes.3,
  g.awaits,
  λ l there now comes ended. subst (λ u. closes u (there + 1) now) (sym (list-more ts t (no_items l)))
      (goes.5 (tree (list t (no_items l)) true) there now (g.onward l there now comes) ended),
)

-- a list stays open when more is written
abbrev pub listing-stays : {detail : Detail} {names : Names} {opened : List Open} {text : List ℕ} (now : List Open) (more later : List ℕ) (p : IsListing detail names opened text)
    → now ≡ opened → later ≡ text ++ more → IsListing detail names now later
listing-stays {detail} {names} {text = text} now more later p open_is is = record {
  listing = p.listing;
  owner = p.owner;
  rest = p.rest;
  belongs = subst (λ ws. Belongs detail names p.listing ws p.owner p.rest) (sym open_is) p.belongs;
  front = p.front;
  template = p.template;
  name = p.name;
  is_template = subst (λ l. IsTemplate detail names p.owner p.front p.template p.name l) (sym is)
      (template-stays detail names p.owner p.front p.template p.name text more p.is_template);
}

-- what is written between two arguments
abbrev pub comma : (is_first : Bool) → List ℕ
comma true = []
comma false = codes ", "

pub in-front : (ts : List Term) (l : List ℕ) (first : Bool) → (first ≡ true → ts ≡ []) → (first ≡ false → ts ≢ []) → in_front_of_next ts l ≡ l ++ comma first
in-front [] l true none some = sym (append-nil l)
in-front [] l false none some = absurd (some refl refl)
in-front (t ∷ ts) l true none some = absurd (some-elements [] t (cc (none refl)))
in-front (t ∷ ts) l false none some = refl

-- ## The end of arguments

-- The arguments of the innermost entry are read and written.
pub record IsClosed (s : Symbol) (w : Direct) (owner : Open) : Type 0 where
  pub kept : Kept s w
  pub open kept use *
  pub front : List ℕ
  pub template : Term
  pub name : List ℕ
  pub ts : List Term
  pub tail : Term
  pub is_tail : IsTail tail
  pub arguments : List ℕ
  pub is_template : IsTemplate (detail_of s) scope.names owner front template name w.text.list.items
  pub elements : PrintAllAs (detail_of s) scope.names (is_noted owner) 3 ts arguments
  pub written : w.text.list.items ≡ front ++ (name ++ opening_bracket (detail_of s) ++ arguments ++ closing_bracket (detail_of s))
  pub owns : Owns s owner (below s scope (reverse w.waiting.list.items)) front (instance template (list_with ts tail)) w.at state
  pub known : AreKnown (detail_of s) w.text.list.items w.argument ts tail

-- the last bracket is written, and the innermost entry is removed
pub closed-by : (s : Symbol) (old mid new : Direct) (x owner : Open) → IsListEnded s old new.argument → Writes old mid (closing_bracket (detail_of s))
    → new.text ≡ mid.text → new.candidates ≡ mid.candidates → new.has_scope ≡ mid.has_scope → new.at ≡ mid.at
    → mid.waiting.list.items ≡ new.waiting.list.items ++ x ∷ [] → x ≡ owner → IsClosed s new owner
closed-by s old mid new x owner p writes same candidates scope_same at items is =
    let scope = p.scope in
    let text : new.text.list.items ≡ old.text.list.items ++ closing_bracket (detail_of s) = ap (λ v. v.list.items) same ∙ writes.text in
    let opened : old.waiting.list.items ≡ new.waiting.list.items ++ owner ∷ [] =
    ap (λ v. v.list.items) (sym writes.waiting) ∙ items ∙ ap (λ o. new.waiting.list.items ++ o ∷ []) is in
    let last = opened-last old.waiting.list.items new.waiting.list.items owner p.owner p.rest p.open_is opened in
    let made = instance p.template (list_with p.ts p.tail) in
    record {
      kept = kept-grown s old new (closing_bracket (detail_of s)) text (candidates ∙ writes.candidates) (scope_same ∙ writes.scope) p.kept;
      front = p.front;
      template = p.template;
      name = p.name;
      ts = p.ts;
      tail = p.tail;
      is_tail = p.is_tail;
      arguments = p.arguments;
      is_template = subst (λ l. IsTemplate (detail_of s) scope.names owner p.front p.template p.name l) (sym text)
          (subst (λ o. IsTemplate (detail_of s) scope.names o p.front p.template p.name (old.text.list.items ++ closing_bracket (detail_of s))) last.0
          (template-stays (detail_of s) scope.names p.owner p.front p.template p.name old.text.list.items (closing_bracket (detail_of s)) p.is_template));
      elements = subst (λ o. PrintAllAs (detail_of s) scope.names (is_noted o) 3 p.ts p.arguments) last.0 p.elements;
      written = text ∙ ap (λ l. l ++ closing_bracket (detail_of s)) p.written ∙ simp append_assoc;
      owns = subst (λ n. Owns s owner (below s scope (reverse new.waiting.list.items)) p.front made n p.state) (sym (at ∙ writes.at))
          (subst (λ r. Owns s owner (below s scope r) p.front made old.at p.state) last.1
          (subst (λ o. Owns s o (below s scope p.rest) p.front made old.at p.state) last.0 p.owns));
      known = subst (λ l. AreKnown (detail_of s) l new.argument p.ts p.tail) (sym text) (known-stay old.text.list.items (closing_bracket (detail_of s)) new.argument p.ts p.tail p.known);
    }

-- the known elements of the list are known arguments of the template's instance
closed-arguments : (s : Symbol) (w : Direct) (owner : Open) (p : IsClosed s w owner)
    → HasArguments (detail_of s) w.text.list.items w.argument (instance p.template (list_with p.ts p.tail))
unfolding arguments_of
closed-arguments s w owner p = (
  λ k o. let h = p.known.0 k o in record {
    bytes = h.bytes;
    placed = h.placed;
    own = h.own;
    all = list_with p.ts p.tail;
    all_are = refl;
    there = element-there p.ts p.tail k h.own h.there;
    prints = h.prints;
  },
  λ o. let h = p.known.1 o in record { all = list_with p.ts p.tail; all_are = refl; elements = h.0; there = h.1; are = h.2 },
)

-- the arguments of a type end
pub type-closed : (s : Symbol) (w new : Direct) (from : ℕ) (is_dependent : Bool) → IsClosed s w (Open.TypeArguments from is_dependent)
    → Lists w new (added w from false is_dependent) → IsWriting s new (Step.Value false is_dependent)
type-closed s w new from is_dependent p lists =
    let scope = p.scope in
    let t = instance p.template (list_with p.ts p.tail) in
    let bytes = p.name ++ opening_bracket (detail_of s) ++ p.arguments ++ closing_bracket (detail_of s) in
    let around = p.owns.1 in
    let prints = instance-as (detail_of s) scope.names is_dependent p.template p.name
    (prints-as (detail_of s) scope.names is_dependent p.template p.name false p.is_template.1) p.ts p.tail p.arguments p.is_tail p.elements in
    value-added s w new p.kept p.owns.0 around t p.front bytes from false is_dependent p.written p.is_template.0 prints
    (λ named. made-here scope around (reverse w.waiting.list.items) p.owns.3 (p.owns.4 named)) lists.text lists.candidates lists.scope
    (ap (λ v. reverse v.list.items) lists.waiting) p.owns.4
    (subst (λ n. Comes s p.owns.0 (tree t true) n (with_candidate around t p.state)) (sym lists.at) p.owns.2) p.owns.5

instance-nest : {detail : Detail} (names : Names) (front name text : List ℕ) (nest : Nest) (is_listed is_instance : Bool) (t : Term) (ts : List Term) (tail : Term) (l : List ℕ)
    → IsTail tail → IsNest detail names front name text nest t → PrintAllAs detail names nest.is_dependent 3 ts l
    → text ≡ front ++ (name ++ opening_bracket detail ++ l ++ closing_bracket detail)
    → IsNest detail names front (name ++ opening_bracket detail ++ l ++ closing_bracket detail) text
    (record nest { is_listed = is_listed; is_instance = is_instance }) (instance t (list_with ts tail))
instance-nest {detail} names front name text nest is_listed is_instance t ts tail l is p all written = record {
  back = [];
  written = written ∙ sym (append-nil (front ++ (name ++ opening_bracket detail ++ l ++ closing_bracket detail)));
  from_is = p.from_is;
  prints = instance-as detail names nest.is_dependent t name p.prints ts tail l is all;
  closed = p.closed;
  class = p.class;
  class_placed = p.class_placed;
  names_class = λ h plain. instance-class t name p.class (subst (λ d. PrintsAs detail names d t name false) plain p.prints) (p.names_class h plain)
      ts tail l is (subst (λ d. PrintAllAs detail names d 3 ts l) plain all);
}

-- the arguments of a piece of a nested name end
pub nest-closed : (s : Symbol) (w : Direct) (nest : Nest) → IsClosed s w (Open.NestArguments nest)
    → IsWriting s (record w { nest = record nest { is_listed = false; is_instance = true } }) Step.Tail
nest-closed s w nest p =
    let new : Direct = record w { nest = record nest { is_listed = false; is_instance = true } } in
    record {
      kept = kept-same s w new refl refl refl p.kept;
      is_before = (
        (instance p.template (list_with p.ts p.tail)),
        record {
          so_far = record {
            around = p.owns.0;
            outer = p.owns.1;
            front = p.front;
            bytes = p.name ++ opening_bracket (detail_of s) ++ p.arguments ++ closing_bracket (detail_of s);
            written = p.written;
            is_nest = instance-nest p.scope.names p.front p.name w.text.list.items nest false true p.template p.ts p.tail p.arguments p.is_tail p.is_template.0
                p.elements p.written;
            scoped = record { scoped = p.owns.3; naming = p.owns.4 };
            serves = p.owns.5;
          };
          goes = p.owns.2;
        },
        (λ own h. structor-returns p.template (list_with p.ts p.tail) (p.is_template.1 own h)),
        (λ h. instance-returns p.template (list_with p.ts p.tail) (p.is_template.2 h)),
        λ h. closed-arguments s w (Open.NestArguments nest) p,
      );
    }

-- the arguments of the first piece of a nested name end
pub first-closed : (s : Symbol) (w new : Direct) (nest : Nest) → IsClosed s w (Open.FirstArguments nest)
    → Lists w new (added w nest.from false nest.is_dependent) → IsWriting s (record new { nest = nest }) Step.Component
first-closed s w new nest p lists =
    let scope = p.scope in
    let t = instance p.template (list_with p.ts p.tail) in
    let bytes = p.name ++ opening_bracket (detail_of s) ++ p.arguments ++ closing_bracket (detail_of s) in
    let around = p.owns.0 in
    let outer = p.owns.1 in
    let now : Direct = record new { nest = nest } in
    let is_nest : IsNest (detail_of s) scope.names p.front bytes w.text.list.items nest t
    = instance-nest scope.names p.front p.name w.text.list.items nest nest.is_listed nest.is_instance p.template p.ts p.tail p.arguments p.is_tail p.is_template
    p.elements p.written in
    record {
      kept = kept-with s w now p.kept p.front bytes nest.from t around false nest.is_dependent p.written p.is_template.from_is is_nest.prints
          (λ named. made-here scope around (reverse w.waiting.list.items) (p.owns.3 (type-named nest.purpose nest.is_dependent p.is_template.closed named))
          (p.owns.4 named)) lists.text lists.candidates lists.scope;
      is_before = (
        t,
        record {
          around = around;
          outer = outer;
          front = p.front;
          bytes = bytes;
          written = subst (λ v. v.list.items ≡ p.front ++ bytes) (sym lists.text) p.written;
          is_nest = subst (λ v. IsNest (detail_of s) scope.names p.front bytes v.list.items nest t) (sym lists.text) is_nest;
          scoped = record {
            scoped = λ within. subst (λ v. IsScoped scope around (reverse v.list.items)) (sym lists.waiting) (p.owns.3 within);
            naming = λ named. subst (λ v. IsNaming scope (reverse v.list.items)) (sym lists.waiting) (p.owns.4 named);
          };
          serves = subst (λ v. Serves s nest.purpose (below s scope (reverse v.list.items)) outer p.front) (sym lists.waiting) p.owns.5;
        },
        subst (λ n. AwaitsComponent s outer around t n (with_candidate around t p.state)) (sym lists.at) p.owns.2,
      );
    }

-- the arguments of the name of an encoding end
pub name-closed : (s : Symbol) (w : Direct) (from : ℕ) → IsClosed s w (Open.NameArguments from) → IsNameEnded s w Mark.Plain true w.argument from
name-closed s w from p =
    let t = instance p.template (list_with p.ts p.tail) in
    let bytes = p.name ++ opening_bracket (detail_of s) ++ p.arguments ++ closing_bracket (detail_of s) in
    record {
      kept = p.kept;
      has = has-plain s w.text.list.items from t p.front bytes p.written p.is_template.0
          (as-name t bytes false (instance-prints p.template p.name p.is_template.1 p.ts p.tail p.arguments p.is_tail p.elements));
      no_return = λ h. cc h;
      returns = λ h. instance-returns p.template (list_with p.ts p.tail) p.is_template.2;
      names = closed-arguments s w (Open.NameArguments from) p;
      awaits = p.owns;
    }

-- ## Between elements

-- If the innermost entry is no pack, the elements of the list that were read are arguments of that entry.
pub template-listed : (s : Symbol) (scope : Scope) (w : Direct) (st : State) (l : Listing) (owner : Open) (rest : List Open) (front : List ℕ) (template : Term)
    (name : List ℕ) (ts : List Term) (texts text : List ℕ) → ((others : List Open) → reverse w.waiting.list.items ≡ Open.Pack ∷ others → ⊥)
    → Belongs (detail_of s) scope.names l (reverse w.waiting.list.items) owner rest → PrintAllAs (detail_of s) scope.names (may_name l owner) (extra_of l) ts texts
    → w.text.list.items ≡ led_by (detail_of s) l front name ++ text → GoesOn s l owner (below s scope rest) front template ts w.at st
    → (reverse w.waiting.list.items ≡ owner ∷ rest) × PrintAllAs (detail_of s) scope.names (is_noted owner) 3 ts texts
    × (w.text.list.items ≡ front ++ name ++ opening_bracket (detail_of s) ++ text) × ArgumentsGoOn s owner (below s scope rest) front template ts w.at st
template-listed s scope w st of_template owner rest front template name ts texts text no_pack belongs elements written goes = (belongs, elements, written, goes)
template-listed s scope w st (of_pack before more) owner rest front template name ts texts text no_pack belongs elements written goes =
    absurd (no_pack (owner ∷ rest) belongs.0)

-- the innermost entry is no pack
pub no-pack : (w : Direct) (owner : Open) → slice_get w.waiting.list.items (length w.waiting.list.items - 1) ≡ Some owner → (owner ≡ Open.Pack → ⊥)
    → (rest : List Open) → reverse w.waiting.list.items ≡ Open.Pack ∷ rest → ⊥
no-pack w owner found other rest e = other (cc (sym (last-found w.waiting.list.items owner found).1 ∙ e))

-- If the list is no pack, the arguments of a name end after their elements and this tail.
ended-so : (s : Symbol) (w : Direct) (first : Bool) (to : ℕ) (tail : Term) (argument : Arguments) → IsTail tail → (p : IsWriting s w (Step.List first))
    → ((rest : List Open) → reverse w.waiting.list.items ≡ Open.Pack ∷ rest → ⊥)
    → ((o : Open) (rest : List Open) (front : List ℕ) (template : Term) → ArgumentsGoOn s o (below s p.scope rest) front template p.is_before.1 w.at p.state
    → Owns s o (below s p.scope rest) front (instance template (list_with p.is_before.1 tail)) to p.state)
    → AreKnown (detail_of s) w.text.list.items argument p.is_before.1 tail → IsListEnded s (record w { at = to }) argument
ended-so s w first to tail argument is_tail p apart owns are_known =
    let place = p.is_before.0 in
    let ts = p.is_before.1 in
    let texts = p.is_before.2 in
    let a = template-listed s p.scope w p.state place.listing place.owner place.rest place.front place.template place.name ts texts texts apart
    place.belongs p.is_before.3 p.is_before.4 p.is_before.7 in
    record {
      kept = kept-same s w (record w { at = to }) refl refl refl p.kept;
      owner = place.owner;
      rest = place.rest;
      open_is = a.0;
      front = place.front;
      template = place.template;
      name = place.name;
      ts = ts;
      tail = tail;
      is_tail = is_tail;
      arguments = texts;
      is_template = place.is_template;
      elements = a.1;
      written = a.2;
      known = are_known;
      owns = owns place.owner place.rest place.front place.template a.3;
    }

-- what is known of unknown arguments
pub nothing-known : {detail : Detail} (text : List ℕ) (ts : List Term) (tail : Term) → AreKnown detail text nowhere ts tail
nothing-known text ts tail = (λ k single. absurd (none-known k single.0), λ e. cc e)

-- an E ends the arguments
pub list-ends : (s : Symbol) (w : Direct) (first : Bool) (argument : Arguments) (p : IsWriting s w (Step.List first)) → StandsAt s.bytes w.at (69 ∷ [])
    → ((rest : List Open) → reverse w.waiting.list.items ≡ Open.Pack ∷ rest → ⊥)
    → AreKnown (detail_of s) w.text.list.items argument p.is_before.1 nil → IsListEnded s (record w { at = w.at + 1 }) argument
unfolding no_items may_be_empty
list-ends s w first argument p stands apart are_known =
    ended-so s w first (w.at + 1) nil argument (inl refl) p apart (λ o rest front template goes.
    goes.5 nothing_there w.at p.state (expects-empty s Kind.ArgumentList goes.0 goes.1 w.at p.state goes.4 refl) stands) are_known

-- an empty pack and an E end the arguments, too
pub empty-pack-ends : (s : Symbol) (w : Direct) (first : Bool) (argument : Arguments) (p : IsWriting s w (Step.List first))
    → StandsAt s.bytes w.at (74 ∷ 69 ∷ 69 ∷ []) → ((rest : List Open) → reverse w.waiting.list.items ≡ Open.Pack ∷ rest → ⊥)
    → AreKnown (detail_of s) w.text.list.items argument p.is_before.1 (list (pack nil) nil) → IsListEnded s (record w { at = w.at + 3 }) argument
unfolding no_items may_be_empty tree_of
empty-pack-ends s w first argument p stands apart are_known =
    let ts = p.is_before.1 in
    let begins = stands-split s.bytes w.at (74 ∷ []) (69 ∷ 69 ∷ []) stands in
    let ends = stands-split s.bytes (w.at + 1) (69 ∷ []) (69 ∷ []) begins.1 in
    ended-so s w first (w.at + 3) (list (pack nil) nil) argument (inr refl) p apart (λ o rest front template goes.
    let opened = pack-opens s goes.1 goes.0 w.at p.state goes.4 begins.0 in
    let more = opened.onward nothing_there (w.at + 1) p.state
    (expects-empty s Kind.PackList goes.0 opened.inner (w.at + 1) p.state opened.awaits refl) ends.0 in
    let behind = element-goes-on s Kind.ArgumentList (scoped_in o (below s p.scope rest)) (λ u there later. Owns s o (below s p.scope rest) front (instance template u) there later)
    ts (pack nil) w.at (w.at + 1 + 1) p.state p.state goes more in
    subst (λ k. Owns s o (below s p.scope rest) front (instance template (list_with ts (list (pack nil) nil))) k p.state) (omega arith)
    (subst (λ l. Owns s o (below s p.scope rest) front (instance template l) (w.at + 1 + 1 + 1) p.state) (list-more ts (pack nil) nil)
    (behind.5 nothing_there (w.at + 1 + 1) p.state
    (expects-empty s Kind.ArgumentList behind.0 behind.1 (w.at + 1 + 1) p.state behind.4 refl) ends.1))) are_known

-- an empty pack is known if it is the whole list
pub none-packed : {detail : Detail} (text : List ℕ) (is_first : Bool) (ts : List Term) → (is_first ≡ true → ts ≡ [])
    → AreKnown detail text (record nowhere { has_pack = is_first }) ts (list (pack nil) nil)
unfolding element count
none-packed text is_first ts none = (
  λ k single. absurd (none-known k single.0),
  λ first. (
    [],
    subst (λ us. HasPack (list_with us (list (pack nil) nil)) 0 []) (sym (none first)) (refl, omega arith),
    record { size = refl; among = λ k known. absurd (none-known (0 + k) known) },
  ),
)

-- an E ends a pack, which is an argument
unfoldable pub pack-ends : (s : Symbol) (w new : Direct) → IsWriting s w (Step.List false) → StandsAt s.bytes w.at (69 ∷ [])
    → (rest : List Open) → reverse w.waiting.list.items ≡ Open.Pack ∷ rest
    → new.text ≡ w.text → new.candidates ≡ w.candidates → new.has_scope ≡ w.has_scope → new.at ≡ w.at + 1
    → reverse new.waiting.list.items ≡ rest → IsWriting s new (Step.List false)
unfolding no_items may_be_empty
pack-ends s w new p stands rest last text candidates scope_same at now = go p.is_before.0.listing refl
  where
    go : (l : Listing) → p.is_before.0.listing ≡ l → IsWriting s new (Step.List false)
    go of_template is = absurd (no-template p.is_before.0.owner p.is_before.0.is_template
        (cc (sym last ∙ subst (λ l. Belongs (detail_of s) p.scope.names l (reverse w.waiting.list.items) p.is_before.0.owner p.is_before.0.rest) is p.is_before.0.belongs)))
      where
        no-template : (o : Open) → IsTemplate (detail_of s) p.scope.names o p.is_before.0.front p.is_before.0.template p.is_before.0.name w.text.list.items → Open.Pack ≡ o → ⊥
        no-template o t e = subst (λ x. IsTemplate (detail_of s) p.scope.names x p.is_before.0.front p.is_before.0.template p.is_before.0.name w.text.list.items) (sym e) t
    go (of_pack before written) is =
        let place = p.is_before.0 in
        let us = p.is_before.1 in
        let texts = p.is_before.2 in
        let belongs = subst (λ l. Belongs (detail_of s) p.scope.names l (reverse w.waiting.list.items) place.owner place.rest) is place.belongs in
        let goes = subst (λ l. GoesOn s l place.owner (below s p.scope place.rest) place.front place.template us w.at p.state) is p.is_before.7 in
        let us_print = subst (λ l. PrintAllAs (detail_of s) p.scope.names (may_name l place.owner) (extra_of l) us texts) is p.is_before.3 in
        let us_written = subst (λ l. w.text.list.items ≡ led_by (detail_of s) l place.front place.name ++ texts) is p.is_before.4 in
        let made = pack (list_of us) in
        let same : new.text.list.items ≡ w.text.list.items = ap (λ v. v.list.items) text in
        record {
          kept = kept-same s w new text candidates scope_same p.kept;
          is_before = (
            record {
              listing = of_template;
              owner = place.owner;
              rest = place.rest;
              belongs = now ∙ cc (sym last ∙ belongs.0);
              front = place.front;
              template = place.template;
              name = place.name;
              is_template = subst (λ v. IsTemplate (detail_of s) p.scope.names place.owner place.front place.template place.name v.list.items) (sym text) place.is_template;
            },
            before ++ made ∷ [],
            in_front_of_next before written ++ texts,
            next-prints-as (detail_of s) p.scope.names (is_noted place.owner) 3 before written made texts belongs.1
                (element-as (detail_of s) p.scope.names (is_noted place.owner) 3 made texts (pack-element us texts (p.is_before.6 refl) us_print)),
            same ∙ us_written ∙ append_assoc (place.front ++ place.name ++ opening_bracket (detail_of s)) (in_front_of_next before written) texts,
            λ e. cc e,
            λ e. some-elements before made,
            subst (λ n. ArgumentsGoOn s place.owner (below s p.scope place.rest) place.front place.template (before ++ made ∷ []) n p.state) (sym at)
                (subst (λ l. ArgumentsGoOn s place.owner (below s p.scope place.rest) place.front place.template (before ++ pack l ∷ []) (w.at + 1) p.state)
                (list-with-none us) (goes.5 nothing_there w.at p.state (expects-empty s Kind.PackList goes.0 goes.1 w.at p.state goes.4 refl) stands)),
          );
        }

-- expects one more element, with a comma before it except at the first
pub argument-expected : (s : Symbol) (w new : Direct) (first : Bool) → IsWriting s w (Step.List first)
    → new.text.list.items ≡ w.text.list.items ++ comma first → new.candidates ≡ w.candidates → new.waiting ≡ w.waiting
    → new.has_scope ≡ w.has_scope → new.at ≡ w.at → AwaitsNextArgument s new
argument-expected s w new first p text candidates waiting scope_same at =
    let place = p.is_before.0 in
    let ts = p.is_before.1 in
    let texts = p.is_before.2 in
    let led = led_by (detail_of s) place.listing place.front place.name in
    record {
      kept = kept-grown s w new (comma first) text candidates scope_same p.kept;
      place = listing-stays (reverse new.waiting.list.items) (comma first) new.text.list.items place (ap (λ v. reverse v.list.items) waiting) text;
      ts = ts;
      texts = texts;
      elements = p.is_before.3;
      written = text ∙ ap (λ l. l ++ comma first) p.is_before.4 ∙ append_assoc led texts (comma first)
          ∙ ap (λ l. led ++ l) (sym (in-front ts texts first p.is_before.5 p.is_before.6));
      goes = subst (λ n. GoesOn s place.listing place.owner (below s p.scope place.rest) place.front place.template ts n p.state) (sym at) p.is_before.7;
    }

-- a comma is written before another element
pub another-expected : (s : Symbol) (w new self : Direct) (first : Bool) → IsWriting s w (Step.List first) → first ≡ false
    → Writes w new (codes ", ") → self ≡ new → AwaitsNextArgument s self
another-expected s w new self first p is writes same =
    subst (λ d. AwaitsNextArgument s d) (sym same)
    (argument-expected s w new false (subst (λ f. IsWriting s w (Step.List f)) is p) writes.text writes.candidates writes.waiting writes.scope writes.at)

-- no comma is written before the first element
pub first-expected : (s : Symbol) (w self : Direct) (first : Bool) → IsWriting s w (Step.List first) → first ≡ true → self ≡ w → AwaitsNextArgument s self
first-expected s w self first p is same =
    subst (λ d. AwaitsNextArgument s d) (sym same)
    (argument-expected s w w true (subst (λ f. IsWriting s w (Step.List f)) is p) (sym (append-nil w.text.list.items)) refl refl refl refl)

-- a pack continues after its J
pub pack-goes-on : (s : Symbol) (owner : Open) (below_ : Below) (front : List ℕ) (template : Term) (ts : List Term) (texts : List ℕ) (at : ℕ) (st : State)
    → ArgumentsGoOn s owner below_ front template ts at st → StandsAt s.bytes at (74 ∷ []) → GoesOn s (of_pack ts texts) owner below_ front template [] (at + 1) st
pack-goes-on s owner below_ front template ts texts at st goes stands =
    let opened = pack-opens s goes.1 goes.0 at st goes.4 stands in (
      goes.0,
      opened.inner,
      goes.2,
      goes.3,
      opened.awaits,
      λ l here now comes ended.
          element-goes-on s Kind.ArgumentList (scoped_in owner below_) (λ u there later. Owns s owner below_ front (instance template u) there later)
          ts (pack (no_items l)) at (here + 1) st now goes (opened.onward l here now comes ended),
    )

-- a pack begins
pub pack-begins : (s : Symbol) (old new : Direct) (owner : Open) → AwaitsNextArgument s old → StandsAt s.bytes old.at (74 ∷ [])
    → slice_get old.waiting.list.items (length old.waiting.list.items - 1) ≡ Some owner → (owner ≡ Open.Pack → ⊥)
    → OpensEntry old new Open.Pack → IsWriting s new (Step.List true)
pack-begins s old new owner a stands found other entered =
    let p = a.place in
    let last = last-found old.waiting.list.items owner found in
    let l = template-listed s a.scope old a.state p.listing p.owner p.rest p.front p.template p.name a.ts a.texts (in_front_of_next a.ts a.texts)
    (λ rest e. other (cc (sym last.1 ∙ e))) p.belongs a.elements a.written a.goes in
    record {
      kept = kept-same s old new entered.text entered.candidates entered.scope a.kept;
      is_before = (
        record {
          listing = of_pack a.ts a.texts;
          owner = p.owner;
          rest = p.rest;
          belongs = (ap reverse entered.waiting ∙ reverse-last old.waiting.list.items Open.Pack ∙ ap (λ ws. Open.Pack ∷ ws) l.0, l.1);
          front = p.front;
          template = p.template;
          name = p.name;
          is_template = subst (λ v. IsTemplate (detail_of s) a.scope.names p.owner p.front p.template p.name v.list.items) (sym entered.text) p.is_template;
        },
        [],
        [],
        none-print (detail_of s) 0,
        ap (λ v. v.list.items) entered.text ∙ l.2 ∙ sym (append-nil (p.front ++ p.name ++ opening_bracket (detail_of s) ++ in_front_of_next a.ts a.texts)),
        (λ e. refl),
        (λ e. cc e),
        subst (λ n. GoesOn s (of_pack a.ts a.texts) p.owner (below s a.scope p.rest) p.front p.template [] n a.state) (sym entered.at)
            (pack-goes-on s p.owner (below s a.scope p.rest) p.front p.template a.ts a.texts old.at a.state l.3 stands),
      );
    }

-- a list waits for a type among its elements
pub record ListWaits (s : Symbol) (scope : Scope) (opened : List Open) (os : List Opened) (text : List ℕ) : Type 0 where
  pub place : IsListing (detail_of s) scope.names opened text
  pub ts : List Term
  pub texts : List ℕ
  pub elements : PrintAllAs (detail_of s) scope.names (may_name place.listing place.owner) (extra_of place.listing) ts texts
  pub written : text ≡ led_by (detail_of s) place.listing place.front place.name ++ in_front_of_next ts texts
  pub onward : (t : Term) (at : ℕ) (st : State) → Comes s os (tree t true) at st
      → GoesOn s place.listing place.owner (below s scope place.rest) place.front place.template (ts ++ t ∷ []) at st

-- the open entry accepts arguments
abbrev pub TakesArguments : Open → Type 0
TakesArguments (Open.TypeArguments from is_dependent) = Unit {0}
TakesArguments (Open.NestArguments nest) = Unit {0}
TakesArguments (Open.FirstArguments nest) = Unit {0}
TakesArguments (Open.NameArguments from) = Unit {0}
TakesArguments (Open.LevelArguments is_dependent) = Unit {0}
TakesArguments _ = ⊥

-- the open entry accepts arguments, or is a pack
abbrev pub TakesElements : Open → Type 0
TakesElements Open.Pack = Unit {0}
TakesElements o = TakesArguments o

template-takes : (detail : Detail) (names : Names) (o : Open) (front : List ℕ) (t : Term) (name text : List ℕ) → IsTemplate detail names o front t name text
    → TakesArguments o
template-takes detail names (Open.TypeArguments from is_dependent) front t name text is = tt
template-takes detail names (Open.NestArguments nest) front t name text is = tt
template-takes detail names (Open.FirstArguments nest) front t name text is = tt
template-takes detail names (Open.NameArguments from) front t name text is = tt
template-takes detail names (Open.LevelArguments is_dependent) front t name text is = tt
template-takes detail names _ front t name text is = absurd is

-- The open entries accept a type as an argument exactly if the list of arguments does. Types name none of the list's arguments.
-- The type of an enumerator is accepted, too.
arguments-stand : (s : Symbol) (scope : Scope) (owner : Open) (rest : List Open) (os : List Opened) (text : List ℕ) → TakesArguments owner
    → (AwaitsElementOf s scope.names of_template owner (below s scope rest) os text → Stands s scope (owner ∷ rest) os text)
    × (Stands s scope (owner ∷ rest) os text → AwaitsElementOf s scope.names of_template owner (below s scope rest) os text) × (arguments_in owner ≡ None)
    × (AwaitsEnumerator s scope.names of_template owner (below s scope rest) os text → Stands s scope (Open.Enumerator ∷ owner ∷ rest) os text)
arguments-stand s scope (Open.TypeArguments from is_dependent) rest os text takes = (λ p. p, λ p. p, refl, λ e. e)
arguments-stand s scope (Open.NestArguments nest) rest os text takes = (λ p. p, λ p. p, refl, λ e. e)
arguments-stand s scope (Open.FirstArguments nest) rest os text takes = (λ p. p, λ p. p, refl, λ e. e)
arguments-stand s scope (Open.NameArguments from) rest os text takes = (λ p. p, λ p. p, refl, λ e. e)
arguments-stand s scope (Open.LevelArguments is_dependent) rest os text takes = (λ p. p, λ p. p, refl, λ e. e)
arguments-stand s scope _ rest os text takes = absurd takes

-- types in arguments may name what types around them may name, and types in a pack name nothing
list-scoped : (s : Symbol) (scope : Scope) (around : Around) (opened : List Open) (text : List ℕ) (p : IsListing (detail_of s) scope.names opened text)
    → scoped_in p.owner (below s scope p.rest) around → IsScoped scope around opened
list-scoped s scope around opened text p scoped = go p.listing p.belongs
  where
    go : (l : Listing) → Belongs (detail_of s) scope.names l opened p.owner p.rest → IsScoped scope around opened
    go of_template is =
        subst (λ ws. IsScoped scope around ws) (sym is) (scoped-within scope around p.owner p.rest
        (arguments-stand s scope p.owner p.rest [] text (template-takes (detail_of s) scope.names p.owner p.front p.template p.name text p.is_template)).2 scoped)
    go (of_pack before written) is =
        subst (λ ws. IsScoped scope around ws) (sym is.0) (none-scoped scope around (Open.Pack ∷ p.owner ∷ p.rest) refl)

-- if a list waits for an element, so do the open entries
list-stands : (s : Symbol) (scope : Scope) (opened : List Open) (os : List Opened) (text : List ℕ) → ListWaits s scope opened os text
    → Stands s scope opened os text
list-stands s scope opened os text w =
    let p = w.place in go p.listing p.belongs (p.front, p.template, p.name, w.ts, w.texts, p.is_template, w.elements, w.written, w.onward)
  where
    go : (l : Listing) → Belongs (detail_of s) scope.names l opened w.place.owner w.place.rest
        → AwaitsElementOf s scope.names l w.place.owner (below s scope w.place.rest) os text → Stands s scope opened os text
    go of_template is awaits =
        let p = w.place in
        subst (λ ws. Stands s scope ws os text) (sym is) ((arguments-stand s scope p.owner p.rest os text
        (template-takes (detail_of s) scope.names p.owner p.front p.template p.name text p.is_template)).0 awaits)
    go (of_pack before written) is awaits = subst (λ ws. Stands s scope ws os text) (sym is.0) (before, written, is.1, awaits)

waits-of : (s : Symbol) (scope : Scope) (owner : Open) (rest : List Open) (os : List Opened) (text : List ℕ)
    → AwaitsElementOf s scope.names of_template owner (below s scope rest) os text → ListWaits s scope (owner ∷ rest) os text
waits-of s scope owner rest os text p = record {
  place = record { listing = of_template; owner = owner; rest = rest; belongs = refl; front = p.0; template = p.1; name = p.2; is_template = p.5 };
  ts = p.3;
  texts = p.4;
  elements = p.6;
  written = p.7;
  onward = p.8;
}

-- open entries that accept an element, and wait for one, form a list
pub list-waits : (s : Symbol) {scope : Scope} (o : Open) (rest : List Open) (os : List Opened) (text : List ℕ) → TakesElements o
    → Stands s scope (o ∷ rest) os text → ListWaits s scope (o ∷ rest) os text
list-waits s Open.Pack [] os text takes p = absurd p
list-waits s Open.Pack (owner ∷ rest) os text takes p = record {
  place = record {
    listing = of_pack p.0 p.1;
    owner = owner;
    rest = rest;
    belongs = (refl, p.2);
    front = p.3.0;
    template = p.3.1;
    name = p.3.2;
    is_template = p.3.5;
  };
  ts = p.3.3;
  texts = p.3.4;
  elements = p.3.6;
  written = p.3.7;
  onward = p.3.8;
}
list-waits s {scope = scope} o rest os text takes p = waits-of s scope o rest os text ((arguments-stand s scope o rest os text takes).1 p)

-- the list waits for an element where one is expected
pub element-stands : (s : Symbol) (w : Direct) (a : AwaitsNextArgument s w) (os : List Opened)
    → ((t : Term) (at : ℕ) (st : State) → Comes s os (tree t true) at st → ListGoesOn s (element_kind a.place.listing) a.goes.1 a.goes.0 t at st)
    → Stands s a.scope (reverse w.waiting.list.items) os w.text.list.items
element-stands s w a os onward =
    let p = a.place in
    let scope = a.scope in
    list-stands s scope (reverse w.waiting.list.items) os w.text.list.items (record {
      place = p;
      ts = a.ts;
      texts = a.texts;
      elements = a.elements;
      written = a.written;
      onward = λ t here now comes.
          element-goes-on s (element_kind p.listing) (scoped_in p.owner (below s scope p.rest))
          (λ l there later. Closes s p.listing p.owner (below s scope p.rest) p.front p.template l there later)
          a.ts t w.at here a.state now a.goes (onward t here now comes);
    })

-- the types of an element may name what types around the list may name
pub element-scoped : (s : Symbol) (w : Direct) (a : AwaitsNextArgument s w) → IsScoped a.scope a.goes.0 (reverse w.waiting.list.items)
element-scoped s w a = list-scoped s a.scope a.goes.0 (reverse w.waiting.list.items) w.text.list.items a.place a.goes.3

-- an element may be a type
pub type-expected : (s : Symbol) (w : Direct) → AwaitsNextArgument s w → IsWriting s w Step.Type
type-expected s w a =
    let element = element-awaits s (element_kind a.place.listing) a.goes.1 a.goes.0 w.at a.state (list-kind a.place.listing) a.goes.4 in
    type-comes s w w a.kept a.goes.0 element.inner refl refl refl refl a.goes.2 (inr (inl element.awaits)) (element-stands s w a element.inner element.onward)
    (element-scoped s w a)

-- ## Enumerators

-- a list waits for the type of an enumerator
pub enumerator-stands : (s : Symbol) (scope : Scope) (opened : List Open) (text : List ℕ) (os : List Opened) (p : IsListing (detail_of s) scope.names opened text)
    (ts : List Term) (texts : List ℕ) → PrintAllAs (detail_of s) scope.names (may_name p.listing p.owner) (extra_of p.listing) ts texts
    → text ≡ led_by (detail_of s) p.listing p.front p.name ++ in_front_of_next ts texts ++ codes "("
    → ((t : Term) (at : ℕ) (st : State) → Comes s os (tree t true) at st
    → EnumeratorGoesOn s p.listing p.owner (below s scope p.rest) p.front p.template ts t at st) → Stands s scope (Open.Enumerator ∷ opened) os text
enumerator-stands s scope opened text os p ts texts elements written onward =
    go p.listing p.belongs (p.front, p.template, p.name, ts, texts, p.is_template, elements, written, onward)
  where
    go : (l : Listing) → Belongs (detail_of s) scope.names l opened p.owner p.rest → AwaitsEnumerator s scope.names l p.owner (below s scope p.rest) os text
        → Stands s scope (Open.Enumerator ∷ opened) os text
    go of_template is awaits =
        subst (λ ws. Stands s scope (Open.Enumerator ∷ ws) os text) (sym is) ((arguments-stand s scope p.owner p.rest os text
        (template-takes (detail_of s) scope.names p.owner p.front p.template p.name text p.is_template)).3 awaits)
    go (of_pack before written) is awaits =
        subst (λ ws. Stands s scope (Open.Enumerator ∷ ws) os text) (sym is.0) (before, written, is.1, awaits)
