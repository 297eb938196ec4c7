-- What it means for a spelling to be read, and how a production is read from its parts.
use Rattle.cpp_press_laws.proofs.Basics.{◌≡◌, ℕ, ◌+◌, ◌<◌, length, List, [], ◌∷◌, ◌++◌, Option, Some, true, false, Ok, refl, ap, sym, subst, ◌∙◌, append-nil, Err, slice_get, not, if◌then◌else◌, Sym, NumberKind, Token, bytes_of, IsNumberToken, Tree as Shape, Forest, branch, empty, token, fixed, grown, spell, spell_all, TakesRule, IsTree, AreTrees, unfold_tree, unfold_forest, found, standing, Kind, Production, ARGUMENT_LIST, ARGUMENTS_FIRST, in_ranges, among, is_in, pick, number_of_kind, alternatives, kinds, choose, parts_of, is_chain, may_be_empty, abi, rule_of, rule_taken, Term, appended, Continuation, between, meaning, cpp, opening, close, byte_of, list_first, rule_at_kind, empty_at_kind, at_number, its_symbols, Component, components_of, Written, written, IsAllowed, Reads, ReadsAt, Is, counted, IsSpellableName, AreDigitsOf, Digits}
use Rattle.sym_shape.specs.declared.rule.Sym.TheVariants.{Kind as OfKind, Name, Number, Byte}
use Rattle.sym_shape.specs.Tree as shape
use Rattle.cpp_grammar.specs.Values.{Candidate, State, Around, Value, nothing_there, text, tree, tree_of, text_of, piece_of, letter_of, ref_of, signed_of, adjustment_of, is_there, part, by_all}
use Rattle.cpp_grammar.specs.Unfolding as unfolding_
use Rattle.cpp_press_laws.proofs.ByKind.Rules.{OnGoing}
use Rattle.cpp_press_laws.proofs.ReadBack.Tokens.{name_token, name-spelled, name-is-token, digits_token}

infixr 1 ◌before◌
-- the other parts of a production, after the known ones; `at` and `began` are the place and state in which the production begins
pub record ReadsRow (p : Production) (taken : List ℕ) (around : Around) (allowed : Option ℕ) (at : ℕ) (began : State) (symbols : List Sym)
    (known : List Value) (Q : List Value → Type 0) (place : ℕ) (start : State) (w : Written) : Type 0 where
  pub forest : Forest
  pub spelled : spell_all forest ≡ w.bytes
  pub shaped : AreTrees abi symbols forest
  pub values : List Value
  pub good : Q values
  pub state : State
  pub unfolds : unfold_forest cpp (standing (rule_of p) taken at around began) known place forest start ≡ Ok (found values state)
  pub candidates : components_of state.candidates ≡ w.components
  pub packs : IsAllowed allowed state.packs

-- What a kind takes at a byte, what is done before the parts of a production, and what the parts mean. Proofs that compute
-- these, production by production, unfold `grammar`.
unfoldable pub grammar : Unit {0}
unfolding choose alternatives pick is_in in_ranges among kinds is_chain may_be_empty parts_of number_of_kind between close unfolding_.behind meaning byte_of part tree_of text_of piece_of letter_of ref_of signed_of adjustment_of is_there
grammar = tt

-- ## Candidates as components

components-append : (cs ds : List Candidate) → components_of (cs ++ ds) ≡ components_of cs ++ components_of ds
unfolding components_of
components-append [] ds = refl
components-append (c ∷ cs) ds = ap (λ l. record { tree = c.tree; encoding = c.encoding } ∷ l) (components-append cs ds)

abbrev pub more : Around → List Component → Term → List Component
more around cs t = cs ++ record { tree = t; encoding = around.encoding } ∷ []

-- one more candidate is one more component
pub appended-same : {components : List Component} (around : Around) (t : Term) (s : State) → components_of s.candidates ≡ components
    → components_of (appended around t s).candidates ≡ more around components t
unfolding appended components_of
appended-same around t s same =
    components-append s.candidates (record { tree = t; encoding = around.encoding; in_lambda = around.in_lambda; counted = by_all } ∷ [])
    ∙ ap (λ l. l ++ record { tree = t; encoding = around.encoding } ∷ []) same

-- ## Rows

-- a part, and then the others
abbrev pub ◌before◌ : {A B : Type 0} → A → B → A × B
◌before◌ one rest = (one, rest)

-- the bytes of parts, one after the other
abbrev pub all_bytes : List Written → List ℕ
all_bytes [] = []
all_bytes (w ∷ []) = w.bytes
all_bytes (w ∷ x ∷ ws) = w.bytes ++ all_bytes (x ∷ ws)

-- the components after these parts
abbrev pub last_components : List Component → List Written → List Component
last_components cs [] = cs
last_components cs (w ∷ ws) = last_components w.components ws

-- The other parts of a production, after the known ones: what is written for each is read as the part's value, in the part's
-- surroundings and in the state before it. `End` must hold of all values.
abbrev pub PartsRead : Production → Around → Option ℕ → (at : ℕ) → (End : List Value → Type 0) → List Sym → (values : List Value)
    → List Written → (known : List Value) → (place : ℕ) → List Component → Type 0
PartsRead p around allowed at End [] [] [] known place cs = End known
PartsRead p around allowed at End (x ∷ xs) (v ∷ vs) (w ∷ ws) known place cs =
    (s : State) → components_of s.candidates ≡ cs → IsAllowed allowed s.packs → OnGoing (between p around at known s) (λ next.
    Reads next.context allowed x (Is v) place next.state w
    × PartsRead p around allowed at End xs vs ws (next.values ++ v ∷ []) (place + length w.bytes) w.components)
PartsRead p around allowed at End xs vs ws known place cs = ⊥

pub one-or-more : (w : Written) (ws : List Written) (spelled : List ℕ) → spelled ≡ all_bytes ws → w.bytes ++ spelled ≡ all_bytes (w ∷ ws)
one-or-more w [] spelled same = ap (λ l. w.bytes ++ l) same ∙ append-nil w.bytes
one-or-more w (x ∷ ws) spelled same = ap (λ l. w.bytes ++ l) same

-- a row is read if its parts are read, one after the other
unfoldable pub row-of : (p : Production) (taken : List ℕ) (around : Around) (allowed : Option ℕ) (at : ℕ) (End : List Value → Type 0)
    (xs : List Sym) (vs : List Value) (ws : List Written) (known : List Value) (place : ℕ) (cs : List Component)
    → PartsRead p around allowed at End xs vs ws known place cs → (began s : State) → components_of s.candidates ≡ cs
    → IsAllowed allowed s.packs
    → ReadsRow p taken around allowed at began xs known End place s (written (all_bytes ws) (last_components cs ws))
unfolding cpp
row-of p taken around allowed at End [] [] [] known place cs h began s same packs = record {
  forest = shape.nothing;
  spelled = refl;
  shaped = tt;
  values = known;
  good = h;
  state = s;
  unfolds = refl;
  candidates = same;
  packs = packs;
}
row-of p taken around allowed at End (x ∷ xs) (v ∷ vs) (w ∷ ws) known place cs h began s same packs =
    go (between p around at known s) refl (h s same packs)
    (λ passed middle rest one more. row-of p taken around allowed at End xs vs ws passed (place + length w.bytes) w.components rest began middle
    one more)
  where
    Row : List Value → State → Type 0
    Row passed middle =
        ReadsRow p taken around allowed at began xs passed End (place + length w.bytes) middle (written (all_bytes ws) (last_components w.components ws))

    go : (m : Continuation) → between p around at known s ≡ m
        → OnGoing m (λ next. Reads next.context allowed x (Is v) place next.state w
        × PartsRead p around allowed at End xs vs ws (next.values ++ v ∷ []) (place + length w.bytes) w.components)
        → ((passed : List Value) (middle : State)
        → PartsRead p around allowed at End xs vs ws passed (place + length w.bytes) w.components
        → components_of middle.candidates ≡ w.components → IsAllowed allowed middle.packs → Row passed middle)
        → ReadsRow p taken around allowed at began (x ∷ xs) known End place s (written (all_bytes (w ∷ ws)) (last_components w.components ws))
    go (Ok next) goes (one, rest) more =
        let row = more (next.values ++ v ∷ []) one.state rest one.candidates one.packs in
        record {
          forest = grown one.shape row.forest;
          spelled = ap (λ l. l ++ spell_all row.forest) one.spelled ∙ one-or-more w ws (spell_all row.forest) row.spelled;
          shaped = (one.shaped, row.shaped);
          values = row.values;
          good = row.good;
          state = row.state;
          unfolds = rw (at_number p, goes, one.unfolds, one.spelled, one.good) row.unfolds;
          candidates = row.candidates;
          packs = row.packs;
        }
    go (Err d) goes h more = absurd h
row-of p taken around allowed at End [] [] (w ∷ ws) known place cs h began s same packs = absurd h
row-of p taken around allowed at End [] (v ∷ vs) ws known place cs h began s same packs = absurd h
row-of p taken around allowed at End (x ∷ xs) [] ws known place cs h began s same packs = absurd h
row-of p taken around allowed at End (x ∷ xs) (v ∷ vs) [] known place cs h began s same packs = absurd h

-- ## Productions

-- a kind takes a production at its byte
pub takes-byte : (k : ℕ) (kind : Kind) (p : Production) (byte : ℕ) → slice_get kinds k ≡ Some kind → choose kind byte ≡ Some p → byte < 256
    → is_chain p ≡ false
    → TakesRule abi k (rule_of p) (byte ∷ [])
unfolding rule_of rule_taken
takes-byte k kind p byte at chosen small chain = record {
  byte = byte;
  is_byte = small;
  found = rule_at_kind k kind byte at ∙ ap rule_taken chosen;
  takes = sym (ap (λ b. if not b then byte ∷ [] else []) chain);
}

-- a kind takes a production without a byte
pub takes-none : (k : ℕ) (kind : Kind) (p : Production) (byte : ℕ) → slice_get kinds k ≡ Some kind → choose kind byte ≡ Some p → byte < 256
    → is_chain p ≡ true
    → TakesRule abi k (rule_of p) []
unfolding rule_of rule_taken
takes-none k kind p byte at chosen small chain = record {
  byte = byte;
  is_byte = small;
  found = rule_at_kind k kind byte at ∙ ap rule_taken chosen;
  takes = sym (ap (λ b. if not b then byte ∷ [] else []) chain);
}

-- What a production means if its parts have these values: the production's value, and the state after it.
pub record Closes (p : Production) (byte : ℕ) (around : Around) (allowed inside : Option ℕ) (place : ℕ) (values : List Value)
    (middle components : List Component) (Q : Value → Type 0) (began s : State) : Type 0 where
  pub value : Value
  pub good : Q value
  pub state : State
  pub closes : close p byte around place began values s ≡ Ok (found value state)
  pub candidates : components_of state.candidates ≡ components
  pub packs : IsAllowed allowed state.packs

abbrev pub ClosesAt : Production → (byte : ℕ) → Around → (allowed inside : Option ℕ) → (place : ℕ) → (R : List Value → Type 0)
    → (middle components : List Component) → (Value → Type 0) → Type 0
ClosesAt p byte around allowed inside place R middle components Q =
    (values : List Value) → R values → (began s : State) → IsAllowed allowed began.packs → components_of s.candidates ≡ middle → IsAllowed inside s.packs
    → Closes p byte around allowed inside place values middle components Q began s

-- a production leaves the state as it is
pub closes-same : (p : Production) (byte : ℕ) (around : Around) (allowed : Option ℕ) (place : ℕ) (R : List Value → Type 0)
    (components : List Component) (v : Value)
    → ((values : List Value) → R values → (began s : State) → close p byte around place began values s ≡ Ok (found v s))
    → ClosesAt p byte around allowed allowed place R components components (λ w. w ≡ v)
closes-same p byte around allowed place R components v means values good began s first same packs =
    record { value = v; good = refl; state = s; closes = means values good began s; candidates = same; packs = packs }

-- a production makes a tree a component
pub closes-more : (p : Production) (byte : ℕ) (around : Around) (allowed : Option ℕ) (place : ℕ) (R : List Value → Type 0)
    (components : List Component) (v : Value) (t : Term)
    → ((values : List Value) → R values → (began s : State) → close p byte around place began values s ≡ Ok (found v (appended around t s)))
    → ClosesAt p byte around allowed allowed place R components (components ++ record { tree = t; encoding = around.encoding } ∷ []) (λ w. w ≡ v)
unfolding appended
closes-more p byte around allowed place R components v t means values good began s first same packs = record {
  value = v;
  good = refl;
  state = appended around t s;
  closes = means values good began s;
  candidates = appended-same around t s same;
  packs = packs;
}

-- A production that may test its parts before it reads them is read from these parts.
pub production-opened : (p : Production) (k : ℕ) (taken : List ℕ) (around : Around) (allowed inside : Option ℕ) (place : ℕ)
    (R : List Value → Type 0) (Q : Value → Type 0) (start components : List Component) (symbols : List Sym) (parts : Written)
    → TakesRule abi k (rule_of p) taken → parts_of p ≡ symbols
    → (row : (began s : State) → components_of s.candidates ≡ start → IsAllowed allowed s.packs
    → ReadsRow p taken around inside place began symbols [] R (place + length taken) s parts)
    → ((s : State) (same : components_of s.candidates ≡ start) (packs : IsAllowed allowed s.packs) → opening p (row s s same packs).forest place s ≡ Ok s)
    → ClosesAt p (byte_of taken) around allowed inside place R parts.components components Q
    → ReadsAt around allowed (OfKind k) Q place start (written (taken ++ parts.bytes) components)
unfolding cpp
production-opened p k taken around allowed inside place R Q start components symbols parts takes are row opened closed s same packs =
    let r = row s s same packs in
    let c = closed r.values r.good s r.state packs r.candidates r.packs in
    record {
      shape = branch (rule_of p) taken r.forest;
      spelled = ap (λ l. taken ++ l) r.spelled;
      shaped = (takes, subst (λ l. AreTrees abi l r.forest) (sym (its_symbols p ∙ are)) r.shaped);
      value = c.value;
      good = c.good;
      state = c.state;
      unfolds = rw (at_number p, opened s same packs, r.unfolds, c.closes) refl;
      candidates = c.candidates;
      packs = c.packs;
    }

-- a production that tests nothing before its parts
abbrev pub TestsNothing : Production → Type 0
TestsNothing Production.Lambda = ⊥
TestsNothing Production.Unnamed = ⊥
TestsNothing _ = Unit {0}

opens-plainly : (p : Production) → TestsNothing p → (f : Forest) (place : ℕ) (s : State) → opening p f place s ≡ Ok s
unfolding opening
opens-plainly Production.Lambda plain f place s = absurd plain
opens-plainly Production.Unnamed plain f place s = absurd plain
opens-plainly _ plain f place s = refl

-- the meaning of a production over parts with known values, whatever the states before it and after its parts
abbrev pub Means : Production → (byte : ℕ) → Around → (place : ℕ) → Value → (known : List Value) → Type 0
Means p byte around place v known = (began s : State) → close p byte around place began known s ≡ Ok (found v s)

-- A production that tests nothing before its parts is read from them, and leaves the state as it is.
pub read-by-parts : (p : Production) (k : ℕ) (taken : List ℕ) {around : Around} {allowed : Option ℕ} {place : ℕ} {cs : List Component}
    {v : Value} {bytes : List ℕ} (values : List Value) (texts : List Written)
    → TakesRule abi k (rule_of p) taken → TestsNothing p → taken ++ all_bytes texts ≡ bytes
    → PartsRead p around allowed place (Means p (byte_of taken) around place v) (parts_of p) values texts [] (place + length taken) cs
    → ReadsAt around allowed (OfKind k) (Is v) place cs (written bytes (last_components cs texts))
read-by-parts p k taken {around} {allowed} {place} {cs} {v} {bytes} values texts takes plain same parts =
    let after : List Component = last_components cs texts in
    subst (λ l. ReadsAt around allowed (OfKind k) (Is v) place cs (written l after)) same
    (production-opened p k taken around allowed allowed place _ (Is v) cs after (parts_of p) (written (all_bytes texts) after) takes refl
    (row-of p taken around allowed place _ (parts_of p) values texts [] (place + length taken) cs parts)
    (λ s here packs. opens-plainly p plain _ place s)
    (closes-same p (byte_of taken) around allowed place _ after v (λ known means. means)))

-- A production that tests nothing before its parts is read from them, and makes a tree a component.
pub component-by-parts : (p : Production) (k : ℕ) (taken : List ℕ) {around : Around} {allowed : Option ℕ} {place : ℕ} {cs : List Component}
    {bytes : List ℕ} (t : Term) (values : List Value) (texts : List Written)
    → TakesRule abi k (rule_of p) taken → TestsNothing p → taken ++ all_bytes texts ≡ bytes
    → PartsRead p around allowed place
    (λ known. (began s : State) → close p (byte_of taken) around place began known s ≡ Ok (found (tree t true) (appended around t s)))
    (parts_of p) values texts [] (place + length taken) cs
    → ReadsAt around allowed (OfKind k) (Is (tree t true)) place cs (written bytes (more around (last_components cs texts) t))
component-by-parts p k taken {around} {allowed} {place} {cs} {bytes} t values texts takes plain same parts =
    let after : List Component = last_components cs texts in
    subst (λ l. ReadsAt around allowed (OfKind k) (Is (tree t true)) place cs (written l (more around after t))) same
    (production-opened p k taken around allowed allowed place _ (Is (tree t true)) cs (more around after t) (parts_of p)
    (written (all_bytes texts) after) takes refl
    (row-of p taken around allowed place _ (parts_of p) values texts [] (place + length taken) cs parts)
    (λ s here packs. opens-plainly p plain _ place s)
    (closes-more p (byte_of taken) around allowed place _ after (tree t true) t (λ known means. means)))

-- equal bytes are read alike
pub same-written : {around : Around} {allowed : Option ℕ} {symbol : Sym} {Q : Value → Type 0} {place : ℕ} {cs after : List Component}
    {bytes others : List ℕ} → bytes ≡ others
    → ReadsAt around allowed symbol Q place cs (written bytes after) → ReadsAt around allowed symbol Q place cs (written others after)
same-written {around} {allowed} {symbol} {Q} {place} {cs} {after} same = subst (λ l. ReadsAt around allowed symbol Q place cs (written l after)) same

-- what is read at a place is also read at an equal place
pub elsewhere : {around : Around} {allowed : Option ℕ} {symbol : Sym} {Q : Value → Type 0} {place other : ℕ} {cs : List Component} {w : Written}
    → place ≡ other → ReadsAt around allowed symbol Q place cs w → ReadsAt around allowed symbol Q other cs w
elsewhere {around} {allowed} {symbol} {Q} {place} {other} {cs} {w} same =
    subst (λ q. ReadsAt around allowed symbol Q q cs w) same

-- ## Parts without a row, and tokens

-- a shape that is read as a value, whatever the state
unfoldable pub shape-reads : {around : Around} {allowed : Option ℕ} {x : Sym} {v : Value} {place : ℕ} {cs : List Component} (t : Shape)
    → IsTree abi x t → ((s : State) → unfold_tree cpp around place t s ≡ Ok (found (v ∷ []) s))
    → ReadsAt around allowed x (Is v) place cs (written (spell t) cs)
shape-reads {v} t is unfolds s same packs = record {
  shape = t;
  spelled = refl;
  shaped = is;
  value = v;
  good = refl;
  state = s;
  unfolds = unfolds s;
  candidates = same;
  packs = packs;
}

unfoldable pub fixed-reads : {around : Around} {allowed : Option ℕ} {byte place : ℕ} {cs : List Component}
    → ReadsAt around allowed (Byte byte) (Is nothing_there) place cs (written (byte ∷ []) cs)
unfolding cpp
fixed-reads {byte} s same packs = shape-reads (fixed byte) refl (λ s. refl) s same packs

pub empty-reads : {around : Around} {allowed : Option ℕ} {k place : ℕ} {cs : List Component} (kind : Kind) → slice_get kinds k ≡ Some kind
    → may_be_empty kind ≡ true → ReadsAt around allowed (OfKind k) (Is nothing_there) place cs (written [] cs)
unfolding cpp
empty-reads {k} kind at may = shape-reads empty (empty_at_kind k kind at ∙ may) (λ s. refl)

-- a token is read as its own bytes
unfoldable pub token-reads : {around : Around} {allowed : Option ℕ} {place : ℕ} {cs : List Component} (x : Sym) (t : Token) → IsTree abi x (token t)
    → ReadsAt around allowed x (Is (text t.own)) place cs (written (bytes_of t) cs)
unfolding cpp
token-reads x t is = shape-reads (token t) is (λ s. refl)

unfoldable pub number-reads : {around : Around} {allowed : Option ℕ} {place : ℕ} {cs : List Component} (kind : NumberKind) (t : Token)
    → IsNumberToken kind t → ReadsAt around allowed (Number kind) (Is (text t.own)) place cs (written (bytes_of t) cs)
number-reads kind t is = token-reads (Number kind) t is

-- digits with nothing around them
pub digits-read : {around : Around} {allowed : Option ℕ} {place : ℕ} {cs : List Component} (digits : List ℕ) → AreDigitsOf Digits digits
    → ReadsAt around allowed (Number Digits) (Is (text digits)) place cs (written digits cs)
digits-read digits are =
    same-written (append-nil digits) (token-reads (Number Digits) (digits_token digits) (record { bare = refl; digits = are; ends = refl }))

-- a name, with its length before it
pub name-reads : {around : Around} {allowed : Option ℕ} {place : ℕ} {cs : List Component} (name : List ℕ) → IsSpellableName name
    → ReadsAt around allowed Name (Is (text name)) place cs (written (counted name) cs)
unfolding abi
name-reads {around} {allowed} {place} {cs} name good =
    same-written (name-spelled name) (token-reads Name (name_token name) (name-is-token name good))

-- a shape is read as any other shape that is spelled and unfolded alike
pub reshaped : {around : Around} {allowed : Option ℕ} {x y : Sym} {Q : Value → Type 0} {place : ℕ} {cs : List Component} {w : Written}
    → ((t : Shape) → IsTree abi x t → (u : Shape) × (spell u ≡ spell t) × IsTree abi y u
    × ((s : State) → unfold_tree cpp around place u s ≡ unfold_tree cpp around place t s))
    → ReadsAt around allowed x Q place cs w → ReadsAt around allowed y Q place cs w
reshaped other one s same packs =
    let r = one s same packs in
    let o = other r.shape r.shaped in
    record {
      shape = o.0;
      spelled = o.1 ∙ r.spelled;
      shaped = o.2;
      value = r.value;
      good = r.good;
      state = r.state;
      unfolds = o.3 s ∙ r.unfolds;
      candidates = r.candidates;
      packs = r.packs;
    }

-- what is read as a list of arguments is also read as a list that begins with an argument
pub first-reads : {around : Around} {allowed : Option ℕ} {Q : Value → Type 0} {place : ℕ} {cs : List Component} {w : Written}
    → ReadsAt around allowed (OfKind ARGUMENT_LIST) Q place cs w → ReadsAt around allowed (OfKind ARGUMENTS_FIRST) Q place cs w
first-reads one = reshaped (λ t is. (t, refl, list_first t is, λ s. refl)) one
