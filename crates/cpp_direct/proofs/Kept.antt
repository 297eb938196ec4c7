-- What a writer keeps while its text and its lists grow.
use Rattle.cpp_direct.proofs.Basics.{Around, Detail, outermost, State, Term, tree, ◌≡◌, ℕ, zero, suc, ◌+◌, ◌-◌, ◌≤◌, length, List, [], ◌∷◌, ◌++◌, take, drop, reverse, slice_get, Bool, true, false, Option, Some, None, refl, ap, sym, ◌∙◌, subst, arith, append_assoc, append-nil, ◌<◌, inl, inr, get_or, length-append, IfSome, reverse-append, drop-append_seam, take-append-add, take-append_seam, added, added_unless, AreCandidates, AreLeft, AreNamed, Argument, argument_of, arguments_in, ArgumentsGoOn, AwaitsTypeIn, below, Candidate, detail_of, Direct, ExpectsType, HasScope, HasSingles, Hiding, is_object, is_type, is_within_type, IsBetween, IsCandidate, IsKnown, IsLeft, IsMadeIn, IsNaming, IsNest, IsOwn, IsPlaced, IsScoped, IsTemplate, IsTypeRead, IsWriting, Keeps, Kept, Lists, Names, Nest, no_scope, nowhere, of_template, Open, opening_bracket, OpensArguments, PrintsAs, PrintsGiven, Purpose, Reads, Scope, Stands, Stays, Step, Symbol, with_argument, Writes, Comes, Opened, candidate, with_candidate, unless_listed, slice_set}
use Rattle.cpp_grammar.specs.Values as values

-- ## Pieces of a text

-- a piece stays at its place when more is written
pub piece-stays : (text front bytes back more : List ℕ) → text ≡ front ++ bytes ++ back → text ++ more ≡ front ++ bytes ++ (back ++ more)
piece-stays text front bytes back more e = ap (λ l. l ++ more) e ∙ append_assoc (front ++ bytes) back more

-- a piece of a text is what is between its two places
pub piece-found : (text bytes : List ℕ) (from to : ℕ) → IsBetween text from to bytes
    → (from ≤ to) × (to ≤ length text) × (take (to - from) (drop from text) ≡ bytes)
piece-found text bytes from to p = (omega (arith, p.from_is, p.to_is), inside, found)
  where
    inside : to ≤ length text
    inside = omega (arith, p.to_is, ap length p.written, length-append (p.front ++ bytes) p.back, length-append p.front bytes)

    size : to - from ≡ length bytes
    size = omega (arith, p.from_is, p.to_is)

    found : take (to - from) (drop from text) ≡ bytes
    found = ap (λ n. take n (drop from text)) size ∙ ap (λ n. take (length bytes) (drop n text)) p.from_is
        ∙ ap (λ l. take (length bytes) (drop (length p.front) l)) (p.written ∙ append_assoc p.front bytes p.back)
        ∙ ap (λ l. take (length bytes) l) (drop-append_seam p.front (bytes ++ p.back)) ∙ take-append_seam bytes p.back

-- a piece stays between its two places when more is written
pub placed-moved : (text more bytes : List ℕ) {new : List ℕ} {from to at end : ℕ} → new ≡ text ++ more → at ≡ from → end ≡ to
    → IsBetween text from to bytes → IsBetween new at end bytes
placed-moved text more bytes grown at_is end_is p = record {
  front = p.front;
  back = p.back ++ more;
  written = grown ∙ piece-stays text p.front bytes p.back more p.written;
  from_is = at_is ∙ p.from_is;
  to_is = end_is ∙ p.to_is;
}

-- the last piece of a text is between its two places
pub placed-last : {text : List ℕ} (front bytes : List ℕ) (from to : ℕ) → text ≡ front ++ bytes → from ≡ length front → to ≡ length text
    → IsBetween text from to bytes
placed-last front bytes from to written from_is to_is = record {
  front = front;
  back = [];
  written = written ∙ sym (append-nil (front ++ bytes));
  from_is = from_is;
  to_is = to_is ∙ ap length written ∙ length-append front bytes;
}

-- ## Candidates

-- a list of candidates for one text is one for another text, if this is so for each candidate
pub candidates-as : (s : Symbol) (scope other : Scope) (text new : List ℕ) → ((k : Candidate) (c : values.Candidate) → IsCandidate s scope text k c → IsCandidate s other new k c)
    → (ks : List Candidate) (cs : List values.Candidate) → AreCandidates s scope text ks cs → AreCandidates s other new ks cs
candidates-as s scope other text new each [] [] p = tt
candidates-as s scope other text new each (k ∷ ks) (c ∷ cs) p = ((λ e. each k c (p.0 e)), candidates-as s scope other text new each ks cs p.1)
candidates-as s scope other text new each [] (c ∷ cs) p = absurd p
candidates-as s scope other text new each (k ∷ ks) [] p = absurd p

-- candidates stay candidates when more is written
pub candidates-stay : (s : Symbol) (scope : Scope) (text more : List ℕ) (ks : List Candidate) (cs : List values.Candidate) → AreCandidates s scope text ks cs
    → AreCandidates s scope (text ++ more) ks cs
candidates-stay s scope text more = candidates-as s scope scope text (text ++ more) (λ k c p.
    record { bytes = p.bytes; placed = placed-moved text more p.bytes refl refl refl p.placed; prints = p.prints; made_in = p.made_in })

-- candidates stay candidates when one more is added
pub candidates-more : {s : Symbol} {scope : Scope} (text : List ℕ) (ks : List Candidate) (cs : List values.Candidate) (k : Candidate) (c : values.Candidate)
    → AreCandidates s scope text ks cs → (k.from ≤ k.to → IsCandidate s scope text k c) → AreCandidates s scope text (ks ++ k ∷ []) (cs ++ c ∷ [])
candidates-more text [] [] k c p is = (is, tt)
candidates-more text (x ∷ ks) (y ∷ cs) k c p is = (p.0, candidates-more text ks cs k c p.1 is)
candidates-more text [] (y ∷ cs) k c p is = absurd p
candidates-more text (x ∷ ks) [] k c p is = absurd p

-- what is written from a place on becomes a candidate
pub candidates-added : (s : Symbol) (scope : Scope) (text : List ℕ) (ks : List Candidate) (cs : List values.Candidate) (front bytes : List ℕ) (from : ℕ) (t : Term) (around : Around) (r d : Bool)
    → AreCandidates s scope text ks cs → text ≡ front ++ bytes → from ≡ length front → PrintsAs (detail_of s) scope.names d t bytes r
    → (d ≡ true → IsMadeIn scope around.encoding around.in_lambda)
    → AreCandidates s scope text (ks ++ record { from = from; to = length text; is_reference = r; is_dependent = d } ∷ []) (cs ++ candidate around t ∷ [])
candidates-added s scope text ks cs front bytes from t around r d p written from_is prints made_in =
    candidates-more text ks cs (record { from = from; to = length text; is_reference = r; is_dependent = d }) (candidate around t) p (λ ordered. record {
      bytes = bytes;
      placed = placed-last front bytes from (length text) written from_is refl;
      prints = prints;
      made_in = made_in;
    })

-- ## What a writer keeps

-- a text stays at its place when more is written
pub placed-stays : (text more : List ℕ) (p : Argument) (bytes : List ℕ) → IsPlaced text p bytes → IsPlaced (text ++ more) p bytes
placed-stays text more p bytes h = placed-moved text more bytes refl refl refl h

-- no argument is known if all are nowhere
pub none-known : (k : ℕ) → IsKnown nowhere k → ⊥
none-known k o = omega (arith, o)

-- without a scope no argument may be named
pub none-named : (text : List ℕ) → AreNamed text no_scope
none-named text number single = absurd (none-known number single.0)

pub none-single : HasSingles no_scope
none-single number own e = cc e

-- what a writer keeps if there is no candidate, and nothing may be named
pub none-kept : (s : Symbol) (w : Direct) → w.candidates.list.items ≡ [] → (w.has_scope ≡ false → is_object s.bytes ≡ false) → Keeps s no_scope w []
none-kept s w none typed = record {
  candidates = subst (λ ks. AreCandidates s no_scope w.text.list.items ks []) (sym none) tt;
  named = none-named w.text.list.items;
  single = none-single;
  unknown = λ e. (refl, typed e);
}

-- what a writer with this text and these candidates keeps
pub keeps-as : (s : Symbol) {scope : Scope} (old new : Direct) (cs : List values.Candidate) {text : List ℕ} {ks : List Candidate}
    → new.text.list.items ≡ text → new.candidates.list.items ≡ ks → new.has_scope ≡ old.has_scope
    → AreCandidates s scope text ks cs → AreNamed text scope → HasSingles scope → (old.has_scope ≡ false → (scope ≡ no_scope) × (is_object s.bytes ≡ false))
    → Keeps s scope new cs
keeps-as s {scope = scope} old new cs {text = text} text_is candidates_are scope_same candidates named single unknown = record {
  candidates = subst (λ l. AreCandidates s scope l new.candidates.list.items cs) (sym text_is)
      (subst (λ ks. AreCandidates s scope text ks cs) (sym candidates_are) candidates);
  named = subst (λ l. AreNamed l scope) (sym text_is) named;
  single = single;
  unknown = λ none. unknown (sym scope_same ∙ none);
}

-- what a writer with other candidates keeps
abbrev pub kept-as : (s : Symbol) (old new : Direct) (st : State) (kept : Kept s old) {ks : List Candidate} → new.text ≡ old.text
    → new.candidates.list.items ≡ ks → new.has_scope ≡ old.has_scope → AreCandidates s kept.scope old.text.list.items ks st.candidates → Kept s new
kept-as s old new st kept text candidates scope_same are = record {
  state = st;
  scope = kept.scope;
  keeps = keeps-as s old new st.candidates (ap (λ v. v.list.items) text) candidates scope_same are kept.keeps.named kept.keeps.single kept.keeps.unknown;
}

-- nothing was written
abbrev pub kept-same : (s : Symbol) (old new : Direct) → new.text ≡ old.text → new.candidates ≡ old.candidates → new.has_scope ≡ old.has_scope
    → Kept s old → Kept s new
kept-same s old new text candidates scope_same kept = kept-as s old new kept.state kept text (ap (λ v. v.list.items) candidates) scope_same kept.keeps.candidates

-- some bytes were written
abbrev pub kept-grown : (s : Symbol) (old new : Direct) (bytes : List ℕ) → new.text.list.items ≡ old.text.list.items ++ bytes
    → new.candidates ≡ old.candidates → new.has_scope ≡ old.has_scope → Kept s old → Kept s new
kept-grown s old new bytes text candidates scope_same kept = record {
  state = kept.state;
  scope = kept.scope;
  keeps = keeps-as s old new kept.state.candidates text (ap (λ v. v.list.items) candidates) scope_same
      (candidates-stay s kept.scope old.text.list.items bytes old.candidates.list.items kept.state.candidates kept.keeps.candidates)
      (λ number single. let n = kept.keeps.named number single in (n.0, n.1, placed-moved old.text.list.items bytes n.0 refl refl refl n.2))
      kept.keeps.single kept.keeps.unknown;
}

-- a text was written
abbrev pub kept-written : (s : Symbol) (old new : Direct) (bytes : List ℕ) → Writes old new bytes → Kept s old → Kept s new
kept-written s old new bytes writes kept = kept-grown s old new bytes writes.text writes.candidates writes.scope kept

-- likewise if the text was written for something that was read
abbrev pub kept-read : (s : Symbol) (old new : Direct) (bytes : List ℕ) → Reads old new bytes → Kept s old → Kept s new
kept-read s old new bytes reads kept = kept-grown s old new bytes reads.text reads.candidates reads.scope kept

-- what is written from a place on became a candidate
abbrev pub kept-with : (s : Symbol) (old new : Direct) (kept : Kept s old) (front bytes : List ℕ) (from : ℕ) (t : Term) (around : Around) (r d : Bool)
    → old.text.list.items ≡ front ++ bytes → from ≡ length front → PrintsAs (detail_of s) kept.scope.names d t bytes r
    → (d ≡ true → IsMadeIn kept.scope around.encoding around.in_lambda)
    → new.text ≡ old.text → new.candidates.list.items ≡ added old from r d → new.has_scope ≡ old.has_scope → Kept s new
kept-with s old new kept front bytes from t around r d written from_is prints made_in text added_is scope_same =
    kept-as s old new (with_candidate around t kept.state) kept text added_is scope_same
    (candidates-added s kept.scope old.text.list.items old.candidates.list.items kept.state.candidates front bytes from t around r d kept.keeps.candidates
    written from_is prints made_in)

pub keeps-unless : (s : Symbol) (old new : Direct) (kept : Kept s old) (listed : Bool) (front bytes : List ℕ) (from : ℕ) (t : Term) (around : Around) (d : Bool)
    → old.text.list.items ≡ front ++ bytes → from ≡ length front → (listed ≡ false → PrintsAs (detail_of s) kept.scope.names d t bytes false)
    → (d ≡ true → IsMadeIn kept.scope around.encoding around.in_lambda)
    → new.text ≡ old.text → new.candidates.list.items ≡ added_unless old listed from d → new.has_scope ≡ old.has_scope
    → Keeps s kept.scope new (unless_listed listed around t kept.state).candidates
keeps-unless s old new kept true front bytes from t around d written from_is prints made_in text added_is scope_same =
    (kept-as s old new kept.state kept text added_is scope_same kept.keeps.candidates).keeps
keeps-unless s old new kept false front bytes from t around d written from_is prints made_in text added_is scope_same =
    (kept-with s old new kept front bytes from t around false d written from_is (prints refl) made_in text added_is scope_same).keeps

-- what is written from a place on became a candidate, unless it was one already
abbrev pub kept-unless : (s : Symbol) (old new : Direct) (kept : Kept s old) (listed : Bool) (front bytes : List ℕ) (from : ℕ) (t : Term) (around : Around) (d : Bool)
    → old.text.list.items ≡ front ++ bytes → from ≡ length front → (listed ≡ false → PrintsAs (detail_of s) kept.scope.names d t bytes false)
    → (d ≡ true → IsMadeIn kept.scope around.encoding around.in_lambda)
    → new.text ≡ old.text → new.candidates.list.items ≡ added_unless old listed from d → new.has_scope ≡ old.has_scope → Kept s new
kept-unless s old new kept listed front bytes from t around d written from_is prints made_in text added_is scope_same = record {
  state = unless_listed listed around t kept.state;
  scope = kept.scope;
  keeps = keeps-unless s old new kept listed front bytes from t around d written from_is prints made_in text added_is scope_same;
}

-- the text of an argument that may be named became a candidate, which names the argument
abbrev pub kept-argument : (s : Symbol) (old new : Direct) (kept : Kept s old) (p : Argument) (bytes : List ℕ) (t : Term) (around : Around)
    → IsPlaced old.text.list.items p bytes → PrintsGiven (detail_of s) kept.scope.names t bytes p.is_reference → IsMadeIn kept.scope around.encoding around.in_lambda
    → new.text ≡ old.text → new.candidates.list.items ≡ with_argument old p → new.has_scope ≡ old.has_scope → Kept s new
kept-argument s old new kept p bytes t around placed prints made_in text added_is scope_same =
    kept-as s old new (with_candidate around t kept.state) kept text added_is scope_same
    (candidates-more old.text.list.items old.candidates.list.items kept.state.candidates
    (record { from = p.from; to = p.to; is_reference = p.is_reference; is_dependent = true }) (candidate around t) kept.keeps.candidates
    (λ ordered. record { bytes = bytes; placed = placed; prints = prints; made_in = λ e. made_in }))

-- ## What waits

-- expects a type after the same text, for the innermost entry
abbrev pub awaited-in : (s : Symbol) (scope : Scope) (old new : Direct) (around : Around) (os : List Opened) {ws : List Open}
    → new.text.list.items ≡ old.text.list.items → reverse new.waiting.list.items ≡ ws → around.prefix ≡ outermost → Stands s scope ws os old.text.list.items
    → IsScoped scope around ws → AwaitsTypeIn s scope new
awaited-in s scope old new around os {ws = ws} text waits outside stands scoped = record {
  os = os;
  around = around;
  outside = outside;
  stands = subst (λ l. Stands s scope (reverse new.waiting.list.items) os l) (sym text) (subst (λ ws. Stands s scope ws os old.text.list.items) (sym waits) stands);
  scoped = subst (λ ws. IsScoped scope around ws) (sym waits) scoped;
}

-- a type comes next
pub type-comes : (s : Symbol) (old new : Direct) (kept : Kept s old) (around : Around) (os : List Opened) {ws : List Open}
    → new.text ≡ old.text → new.candidates ≡ old.candidates → new.has_scope ≡ old.has_scope → reverse new.waiting.list.items ≡ ws
    → around.prefix ≡ outermost → ExpectsType s around os new.at kept.state → Stands s kept.scope ws os old.text.list.items → IsScoped kept.scope around ws
    → IsWriting s new Step.Type
type-comes s old new kept around os text candidates scope_same waits outside expects stands scoped = record {
  kept = kept-same s old new text candidates scope_same kept;
  is_before = (awaited-in s kept.scope old new around os (ap (λ v. v.list.items) text) waits outside stands scoped, expects);
}

-- a type was read
pub value-comes : (s : Symbol) (w : Direct) (kept : Kept s w) (os : List Opened) (t : Term) (front bytes : List ℕ) (r d : Bool) {ws : List Open}
    → w.text.list.items ≡ front ++ bytes → PrintsAs (detail_of s) kept.scope.names d t bytes r → reverse w.waiting.list.items ≡ ws
    → (d ≡ true → IsNaming kept.scope ws) → Comes s os (tree t true) w.at kept.state → Stands s kept.scope ws os front → IsWriting s w (Step.Value r d)
value-comes s w kept os t front bytes r d written prints waits naming comes stands = record {
  kept = kept;
  is_before = subst (λ ws. IsTypeRead s kept.scope w kept.state ws r d) (sym waits) (record {
    os = os;
    own = t;
    front = front;
    bytes = bytes;
    written = written;
    prints = prints;
    naming = naming;
    comes = comes;
    stands = stands;
  });
}

-- a type that was read became a candidate
pub value-added : (s : Symbol) (old new : Direct) (kept : Kept s old) (os : List Opened) (around : Around) (t : Term) (front bytes : List ℕ) (from : ℕ) (r d : Bool)
    {ws : List Open} → old.text.list.items ≡ front ++ bytes → from ≡ length front → PrintsAs (detail_of s) kept.scope.names d t bytes r
    → (d ≡ true → IsMadeIn kept.scope around.encoding around.in_lambda) → new.text ≡ old.text → new.candidates.list.items ≡ added old from r d → new.has_scope ≡ old.has_scope
    → reverse new.waiting.list.items ≡ ws → (d ≡ true → IsNaming kept.scope ws) → Comes s os (tree t true) new.at (with_candidate around t kept.state)
    → Stands s kept.scope ws os front → IsWriting s new (Step.Value r d)
value-added s old new kept os around t front bytes from r d written from_is prints made_in text added_is scope_same waits naming comes stands =
    value-comes s new (kept-with s old new kept front bytes from t around r d written from_is prints made_in text added_is scope_same) os t front bytes r d
    (ap (λ v. v.list.items) text ∙ written) prints waits naming comes stands

-- types in an entry within a type may name what types around the entry may name; types in any other entry name nothing
pub scoped-within : (scope : Scope) (around : Around) (o : Open) (rest : List Open) → arguments_in o ≡ None
    → (is_within_type o ≡ true → IsScoped scope around rest) → IsScoped scope around (o ∷ rest)
scoped-within scope around o rest none scoped a found = go (is_within_type o) refl found
  where
    go : (within : Bool) → is_within_type o ≡ within → elim within [ true ↦ argument_of rest | false ↦ arguments_in o ] ≡ Some a → (scope.arguments ≡ a) × HasScope a around
    go true is e = scoped is a e
    go false is e = cc (sym none ∙ e)

-- types may name arguments only in the encoding that has these arguments, and in none of its lambdas
pub encoded-here : (scope : Scope) (around : Around) (open_ : List Open) → IsScoped scope around open_ → IsNaming scope open_
    → (around.encoding ≡ scope.arguments.encoding) × (around.in_lambda ≡ false)
encoded-here scope around open_ scoped naming = (scoped scope.arguments naming.0).1.0 naming.1

pub made-here : (scope : Scope) (around : Around) (open_ : List Open) → IsScoped scope around open_ → IsNaming scope open_ → IsMadeIn scope around.encoding around.in_lambda
made-here scope around open_ scoped naming = let here = encoded-here scope around open_ scoped naming in (here.0, naming.1, here.1)

-- the candidate that a substitution names prints its text, if it has one
pub candidate-found : {s : Symbol} {scope : Scope} (text : List ℕ) (ks : List Candidate) (cs : List values.Candidate) (n : ℕ) (k : Candidate)
    → AreCandidates s scope text ks cs → k.from ≤ k.to → slice_get ks n ≡ Some k → (c : values.Candidate) × (slice_get cs n ≡ Some c) × IsCandidate s scope text k c
candidate-found text [] cs n k p ordered found = cc found
candidate-found text (x ∷ ks) [] n k p ordered found = absurd p
candidate-found {s} {scope} text (x ∷ ks) (y ∷ cs) zero k p ordered found = (y, refl, (subst (λ o. Named o) found p.0) ordered)
  where
    Named : Option Candidate → Type 0
    Named (Some z) = z.from ≤ z.to → IsCandidate s scope text z y
    Named None = ⊥
candidate-found text (x ∷ ks) (y ∷ cs) (suc n) k p ordered found = candidate-found text ks cs n k p.1 ordered found

-- the text of a candidate is within what is written
pub candidate-inside : (s : Symbol) (w : Direct) (n : ℕ) (k : Candidate) → Kept s w → k.from ≤ k.to
    → slice_get w.candidates.list.items n ≡ Some k → (k.from ≤ k.to) × (k.to ≤ length w.text.list.items)
candidate-inside s w n k kept ordered found =
    let c = candidate-found w.text.list.items w.candidates.list.items kept.state.candidates n k kept.keeps.candidates ordered found in
    let piece = piece-found w.text.list.items c.2.bytes k.from k.to c.2.placed in
    (piece.0, piece.1)

-- ## What is open

-- the last of a list is the first of its reverse
pub reverse-last : {X : Type 0} (xs : List X) (x : X) → reverse (xs ++ x ∷ []) ≡ x ∷ reverse xs
reverse-last xs x = reverse-append xs (x ∷ [])

-- ## Nested names

-- a nested name that names arguments is a type
pub type-named : (purpose : Purpose) (d : Bool) → (IsOwn purpose → d ≡ false) → d ≡ true → is_type purpose ≡ true
type-named Purpose.Type d closed e = refl
type-named (Purpose.Name mark) d closed e = cc (sym (closed tt) ∙ e)
type-named (Purpose.Enclosing mark encoding) d closed e = cc (sym (closed tt) ∙ e)
type-named (Purpose.Address mark) d closed e = cc (sym (closed tt) ∙ e)

-- a nested name stays one where more is written
pub nest-stays : {detail : Detail} {names : Names} (front bytes text more : List ℕ) (nest : Nest) (t : Term) → IsNest detail names front bytes text nest t
    → IsNest detail names front bytes (text ++ more) nest t
nest-stays front bytes text more nest t p = record {
  back = p.back ++ more;
  written = piece-stays text front bytes p.back more p.written;
  from_is = p.from_is;
  prints = p.prints;
  closed = p.closed;
  class = p.class;
  class_placed = placed-moved text more p.class refl refl refl p.class_placed;
  names_class = p.names_class;
}

-- a template before its arguments stays one where more is written
pub template-stays : (detail : Detail) (names : Names) (owner : Open) (front : List ℕ) (t : Term) (name text more : List ℕ) → IsTemplate detail names owner front t name text
    → IsTemplate detail names owner front t name (text ++ more)
template-stays detail names (Open.TypeArguments from is_dependent) front t name text more p = p
template-stays detail names (Open.NestArguments nest) front t name text more p = (nest-stays front name text more nest t p.0, p.1, p.2)
template-stays detail names (Open.FirstArguments nest) front t name text more p = nest-stays front name text more nest t p
template-stays detail names (Open.NameArguments from) front t name text more p = p
template-stays detail names (Open.LevelArguments is_dependent) front t name text more p = p
template-stays detail names _ front t name text more p = p

-- ## Lists

-- arguments begin after a name
pub list-begins : (s : Symbol) (old mid new : Direct) (ks : List Candidate) (kept : Kept s mid) (owner : Open) (front name : List ℕ) (t : Term)
    → Lists old mid ks → OpensArguments (detail_of s) mid new owner
    → IsTemplate (detail_of s) kept.scope.names owner front t name (old.text.list.items ++ opening_bracket (detail_of s)) → old.text.list.items ≡ front ++ name
    → ArgumentsGoOn s owner (below s kept.scope (reverse old.waiting.list.items)) front t [] (old.at + 1) kept.state → IsWriting s new (Step.List true)
list-begins s old mid new ks kept owner front name t lists opening_ template written goes =
    let bracket = opening_bracket (detail_of s) in
    let text_is : new.text.list.items ≡ old.text.list.items ++ bracket = cc (opening_.text, lists.text) in
    let waiting_is : new.waiting.list.items ≡ old.waiting.list.items ++ owner ∷ [] = cc (opening_.waiting, lists.waiting) in
    let at_is : new.at ≡ old.at + 1 = cc (opening_.at, lists.at) in
    record {
      kept = kept-grown s mid new bracket opening_.text opening_.candidates opening_.scope kept;
      is_before = (
        record {
          listing = of_template;
          owner = owner;
          rest = reverse old.waiting.list.items;
          belongs = ap reverse waiting_is ∙ reverse-last old.waiting.list.items owner;
          front = front;
          template = t;
          name = name;
          is_template = subst (λ l. IsTemplate (detail_of s) kept.scope.names owner front t name l) (sym text_is) template;
        },
        [],
        [],
        ([], tt, refl),
        text_is ∙ ap (λ l. l ++ bracket) written ∙ sym (append-nil (front ++ name ++ bracket)),
        (λ e. refl),
        (λ e. cc e),
        subst (λ n. ArgumentsGoOn s owner (below s kept.scope (reverse old.waiting.list.items)) front t [] n kept.state) (sym at_is) goes,
      );
    }

-- a property of the step that was opened holds of the next step, if there was memory
pub opened-so : (r : Option Step) (step : Step) (A : Type 0) (P : Step → Type 0) → IfSome r (λ next. (next ≡ step) × A) → (A → P step) → IfSome r P
opened-so None step A P is goes = tt
opened-so (Some next) step A P is goes = subst P (sym is.0) (goes is.1)

-- ## What was written after a place is removed

-- a candidate of a text is a candidate of the text's front if the candidate ends within the front
pub candidate-kept : {s : Symbol} {scope : Scope} (text kept rest : List ℕ) (k : Candidate) (c : values.Candidate) → text ≡ kept ++ rest → IsCandidate s scope text k c
    → k.to ≤ length kept → IsCandidate s scope kept k c
candidate-kept text kept rest k c is p within =
    let own = p.front ++ p.bytes in
    let more = length kept - length own in
    let fits : length kept ≡ length own + more = omega (arith, within, p.to_is, length-append p.front p.bytes) in
    record {
      bytes = p.bytes;
      placed = record {
        front = p.front;
        back = take more p.back;
        written = sym (take-append_seam kept rest) ∙ ap (λ l. take (length kept) l) (sym is ∙ p.written)
            ∙ ap (λ n. take n (own ++ p.back)) fits ∙ take-append-add own p.back more;
        from_is = p.from_is;
        to_is = p.to_is;
      };
      prints = p.prints;
      made_in = p.made_in;
    }

one-left : {s : Symbol} (hiding : Hiding) (scope left : Scope) (text kept : List ℕ)
    → ((k : Candidate) (c : values.Candidate) → Stays hiding k → IsCandidate s scope text k c → IsCandidate s left kept k c) → (k n : Candidate) (c : values.Candidate)
    → IsLeft hiding k n → (k.from ≤ k.to → IsCandidate s scope text k c) → n.from ≤ n.to → IsCandidate s left kept n c
one-left {s} hiding scope left text kept stay k n c (inl (same, stays)) p ordered =
    subst (λ m. IsCandidate s left kept m c) (sym same) (stay k c stays (p (subst (λ (m : Candidate). m.from ≤ m.to) same ordered)))
one-left hiding scope left text kept stay k n c (inr none) p ordered =
    let never : 1 ≤ 0 = subst (λ (m : Candidate). m.from ≤ m.to) none ordered in
    absurd (omega (arith, never))

-- If the candidates that stay are candidates of the new text, so is the whole list once the others are nowhere.
pub candidates-left : (s : Symbol) (hiding : Hiding) (scope left : Scope) (text kept : List ℕ)
    → ((k : Candidate) (c : values.Candidate) → Stays hiding k → IsCandidate s scope text k c → IsCandidate s left kept k c) → (ks ns : List Candidate) (cs : List values.Candidate)
    → AreLeft hiding ks ns → AreCandidates s scope text ks cs → AreCandidates s left kept ns cs
candidates-left s hiding scope left text kept stay [] [] [] are p = tt
candidates-left s hiding scope left text kept stay (k ∷ ks) (n ∷ ns) (c ∷ cs) are p =
    (one-left hiding scope left text kept stay k n c are.0 p.0, candidates-left s hiding scope left text kept stay ks ns cs are.1 p.1)
candidates-left s hiding scope left text kept stay [] [] (c ∷ cs) are p = absurd p
candidates-left s hiding scope left text kept stay [] (n ∷ ns) cs are p = absurd are
candidates-left s hiding scope left text kept stay (k ∷ ks) [] cs are p = absurd are
candidates-left s hiding scope left text kept stay (k ∷ ks) (n ∷ ns) [] are p = absurd p

-- what a writer keeps when the text after a place is removed, if the arguments that may be named stay
abbrev pub kept-cut : (s : Symbol) (old new : Direct) (kept : Kept s old) (left rest : List ℕ) (to : ℕ) → old.text.list.items ≡ left ++ rest → to ≡ length left
    → new.text.list.items ≡ left → AreLeft (Hiding.After to) old.candidates.list.items new.candidates.list.items → new.has_scope ≡ old.has_scope
    → AreNamed left kept.scope → Kept s new
kept-cut s old new kept left rest to written to_is left_is are scope_same named = record {
  state = kept.state;
  scope = kept.scope;
  keeps = keeps-as s old new kept.state.candidates left_is refl scope_same
      (candidates-left s (Hiding.After to) kept.scope kept.scope old.text.list.items left
      (λ k c within own. candidate-kept old.text.list.items left rest k c written own (omega (arith, within, to_is)))
      old.candidates.list.items new.candidates.list.items kept.state.candidates are kept.keeps.candidates) named kept.keeps.single kept.keeps.unknown;
}

-- the bytes before a place, where what was after it is removed
pub front-left : (text left rest : List ℕ) (to : ℕ) → text ≡ left ++ rest → to ≡ length left → take to text ≡ left
front-left text left rest to written to_is = ap (λ n. take n text) to_is ∙ ap (λ l. take (length left) l) written ∙ take-append_seam left rest

-- a candidate that names no arguments stays one where none may be named
pub closed-kept : (s : Symbol) (scope : Scope) (text : List ℕ) (k : Candidate) (c : values.Candidate) → Stays Hiding.Dependent k → IsCandidate s scope text k c
    → IsCandidate s no_scope text k c
closed-kept s scope text k c closed own = record {
  bytes = own.bytes;
  placed = own.placed;
  prints = subst (λ d. PrintsAs (detail_of s) no_scope.names d c.tree own.bytes k.is_reference) (sym closed)
      (subst (λ d. PrintsAs (detail_of s) scope.names d c.tree own.bytes k.is_reference) closed own.prints);
  made_in = λ e. cc (sym closed ∙ e);
}

-- what a writer keeps once arguments can't be named any more, and candidates that name them are nowhere
abbrev pub kept-closed : (s : Symbol) (old new : Direct) (kept : Kept s old) → AreLeft Hiding.Dependent old.candidates.list.items new.candidates.list.items
    → new.text ≡ old.text → is_object s.bytes ≡ false → Kept s new
kept-closed s old new kept are text typed = record {
  state = kept.state;
  scope = no_scope;
  keeps = record {
    candidates = subst (λ v. AreCandidates s no_scope v.list.items new.candidates.list.items kept.state.candidates) (sym text)
        (candidates-left s Hiding.Dependent kept.scope no_scope old.text.list.items old.text.list.items (closed-kept s kept.scope old.text.list.items)
        old.candidates.list.items new.candidates.list.items kept.state.candidates are kept.keeps.candidates);
    named = none-named new.text.list.items;
    single = none-single;
    unknown = λ e. (refl, typed);
  };
}

-- ## Candidates are visited one after the other

-- the candidates before a place were visited, and the others are as they were
abbrev pub AreGoneOver : (hiding : Hiding) → (at : ℕ) → (old now : List Candidate) → Type 0
AreGoneOver hiding zero old now = now ≡ old
AreGoneOver hiding (suc at) (k ∷ old) (n ∷ now) = IsLeft hiding k n × AreGoneOver hiding at old now
AreGoneOver hiding (suc at) _ _ = ⊥

-- the next candidate was visited, too
pub one-gone : (hiding : Hiding) (at : ℕ) (old now : List Candidate) (n other : Candidate) → AreGoneOver hiding at old now → at < length now
    → IsLeft hiding (get_or now at other) n → AreGoneOver hiding (suc at) old (slice_set now at n)
one-gone hiding zero (k ∷ old) (m ∷ now) n other gone below is = (subst (λ x. IsLeft hiding x n) (cc gone) is, cc gone)
one-gone hiding zero [] (m ∷ now) n other gone below is = cc gone
one-gone hiding (suc at) (k ∷ old) (m ∷ now) n other gone below is = (gone.0, one-gone hiding at old now n other gone.1 (omega (arith, below)) is)
one-gone hiding (suc at) [] (m ∷ now) n other gone below is = absurd gone
one-gone hiding at old [] n other gone below is = absurd (omega (arith, below))

-- at the end all candidates were visited
pub all-gone : (hiding : Hiding) (at : ℕ) (old now : List Candidate) → AreGoneOver hiding at old now → length now ≤ at → AreLeft hiding old now
all-gone hiding zero [] [] gone over = tt
all-gone hiding zero (k ∷ old) [] gone over = cc gone
all-gone hiding zero old (n ∷ now) gone over = absurd (omega (arith, over))
all-gone hiding (suc at) (k ∷ old) (n ∷ now) gone over = (gone.0, all-gone hiding at old now gone.1 (omega (arith, over)))
all-gone hiding (suc at) [] now gone over = absurd gone
all-gone hiding (suc at) (k ∷ old) [] gone over = absurd gone
