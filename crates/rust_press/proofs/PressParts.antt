-- How pressing a rule follows from pressing its parts.
use Rattle.rust_press.proofs.Basics.{◌≡◌, ℕ, ◌+◌, ◌<◌, ◌≤◌, length, List, [], ◌∷◌, ◌++◌, Option, Some, None, Bool, true, false, Ok, refl, ap, arith, sym, subst, ◌∙◌, length-append, append_assoc, append-nil, ◌==◌, if◌then◌else◌, slice_index, eqb-true, eq-eqb, NumberKind, IsName, Rust, AreDigitsOf, ending_of, Rule, Sym, Kind, Name, Number, Byte, symbols_of, Tree, Production, production_of, v0_table, Value, Ended, v0, ended_at, At, byte_at, bound_behind, is_minus, meaning_of, plain, ends, token_of, ◌and◌, text, letter, nothing, Component, Pressed, Pressing, spelled_out, as_value, AreListed, Agrees, state_of, Reads, Presses, ReadsRow, PressesRow}
use Rattle.sym_shape.specs.Tree.{Tree as Shape, branch, empty, token, fixed, grown, spell, IsTree, AreTrees}
use Rattle.sym_link.specs.Unfold as linked
use Rattle.sym_shape.specs.Tree as shape

-- ## Components and places

listed-later : (ended : List Ended) (p q : ℕ) (cs : List Component) → p ≤ q → AreListed ended p cs → AreListed ended q cs
listed-later ended p q [] le are = tt
listed-later ended p q (c ∷ cs) le (there, from, low, rest) = (there, from, omega (arith, low, le), listed-later ended p q cs le rest)

pub agrees-later : (cs : List Component) (ended : List Ended) (p q : ℕ) → p ≤ q → Agrees cs ended p → Agrees cs ended q
agrees-later cs ended p q le a = record { listed = listed-later ended p q cs le a.listed; behind = λ r high. a.behind r (omega (arith, le, high)) }

pub agrees-at : (cs : List Component) (ended : List Ended) (p q : ℕ) → p ≡ q → Agrees cs ended p → Agrees cs ended q
agrees-at cs ended p q is a = agrees-later cs ended p q (omega (arith, is)) a

-- at any other place, what ended there is found as before
pub found-other : (e : Ended) (es : List Ended) (p : ℕ) → (e.place ≡ p → ⊥) → ended_at (e ∷ es) p ≡ ended_at es p
found-other e es p other = go (e.place == p) refl
  where
    go : (b : Bool) → (e.place == p) ≡ b → (if b then Some e.value else ended_at es p) ≡ ended_at es p
    go true is = absurd (other (eqb-true e.place p is))
    go false is = refl

pub found-own : (e : Ended) (es : List Ended) → ended_at (e ∷ es) e.place ≡ Some e.value
found-own e es = rw (eq-eqb e.place e.place refl) refl

listed-more : (e : Ended) (es : List Ended) (place : ℕ) (cs : List Component) → ended_at es e.place ≡ None → AreListed es place cs → AreListed (e ∷ es) place cs
listed-more e es place [] free are = tt
listed-more e es place (c ∷ cs) free (there, from, low, rest) =
    (found-other e es c.place other ∙ there, from, low, listed-more e es place cs free rest)
  where
    none-some : {v : Value} → None ≡ Some v → ⊥
    none-some bad = cc

    other : e.place ≡ c.place → ⊥
    other is = none-some (sym free ∙ ap (ended_at es) is ∙ there)

-- what has ended still agrees with the components, once something else has ended at an earlier free place
pub agrees-more : (cs : List Component) (e : Ended) (es : List Ended) (place : ℕ) → e.place < place → ended_at es e.place ≡ None → Agrees cs es place → Agrees cs (e ∷ es) place
agrees-more cs e es place low free a = record {
  listed = listed-more e es place cs free a.listed;
  behind = λ q high.
      let other : e.place ≡ q → ⊥ = λ is. omega (arith, low, high, is) in
      found-other e es q other ∙ a.behind q high;
}

-- what has ended still agrees with the components, once one more component has ended
pub agrees-component : (cs : List Component) (own : Tree) (at : ℕ) (es : List Ended) (place : ℕ) → 2 ≤ at → at < place → ended_at es at ≡ None → Agrees cs es place
    → Agrees (record { place = at; own = own } ∷ cs) (record { place = at; value = as_value own } ∷ es) place
agrees-component cs own at es place from low free a =
    let more = agrees-more cs (record { place = at; value = as_value own }) es place low free a in
    record { listed = (found-own (record { place = at; value = as_value own }) es, from, low, more.listed); behind = more.behind }

-- ## Rows

pub none-presses : (s : List ℕ) (rule : Rule) (taken : List ℕ) (bound : ℕ) (known : List Value) (Q : List Value → Type 0) → Q known → PressesRow s rule taken bound [] known nothing Q
none-presses s rule taken bound known Q good at before front back place components start is-at from agrees is = record {
  forest = shape.nothing;
  spelled = refl;
  shaped = tt;
  values = known;
  good = good;
  state = start;
  unfolds = refl;
  agrees = agrees-at components start.ended place (place + 0) (omega arith) agrees;
  keeps = λ p low. refl;
}

pub and-presses : (s : List ℕ) (rule : Rule) (taken : List ℕ) (bound : ℕ) (symbol : Sym) (symbols : List Sym) (known : List Value) (first rest : Pressing) (Q R : List Value → Type 0)
    → Presses s (bound_behind (production_of rule.number) bound known) (production_of rule.number) (is_minus known) symbol first Q
    → ((values : List Value) → Q values → PressesRow s rule taken bound symbols (known ++ values) rest R)
    → PressesRow s rule taken bound (symbol ∷ symbols) known (first and rest) R
and-presses s rule taken bound symbol symbols known first rest Q R one more at before front back place components start is-at from agrees is =
    let f : Pressed = first place components in
    let r : Pressed = rest (place + length f.bytes) f.components in
    let split : s ≡ front ++ (f.bytes ++ (r.bytes ++ back)) = is ∙ ap (λ l. front ++ l) (append_assoc f.bytes r.bytes back) in
    let a = one front (r.bytes ++ back) place components start.ended is-at from agrees split in
    let b = more a.values a.good at before (front ++ f.bytes) back (place + length f.bytes) f.components a.state
    (omega (arith, is-at, length-append front f.bytes)) (omega (arith, from)) a.agrees
    (split ∙ sym (append_assoc front f.bytes (r.bytes ++ back))) in
    record {
      forest = grown a.shape b.forest;
      spelled = rw (a.spelled, b.spelled) refl;
      shaped = (a.shaped, b.shaped);
      values = b.values;
      good = b.good;
      state = b.state;
      unfolds = rw (a.unfolds, a.spelled) b.unfolds;
      agrees = agrees-at r.components b.state.ended (place + length f.bytes + length r.bytes) (place + length (f.bytes ++ r.bytes)) (omega (arith, length-append f.bytes r.bytes)) b.agrees;
      keeps = λ p low. b.keeps p (omega (arith, low)) ∙ a.keeps p low;
    }

-- a rule's last part is pressed
pub last-presses : (s : List ℕ) (rule : Rule) (taken : List ℕ) (bound : ℕ) (symbol : Sym) (known : List Value) (first : Pressing) (Q R : List Value → Type 0)
    → Presses s (bound_behind (production_of rule.number) bound known) (production_of rule.number) (is_minus known) symbol first Q
    → ((values : List Value) → Q values → R (known ++ values))
    → PressesRow s rule taken bound (symbol ∷ []) known first R
last-presses s rule taken bound symbol known first Q R one more at before front back place components start is-at from agrees is =
    let a = one front back place components start.ended is-at from agrees is in
    record {
      forest = grown a.shape shape.nothing;
      spelled = rw a.spelled (append-nil (first place components).bytes);
      shaped = (a.shaped, tt);
      values = known ++ a.values;
      good = more a.values a.good;
      state = a.state;
      unfolds = rw a.unfolds refl;
      agrees = a.agrees;
      keeps = a.keeps;
    }

-- a row after a part that writes nothing is the rest of the row
pub behind-nothing : (s : List ℕ) (rule : Rule) (taken : List ℕ) (bound : ℕ) (symbols : List Sym) (known : List Value) (row : Pressing) (R : List Value → Type 0)
    → PressesRow s rule taken bound symbols known row R → PressesRow s rule taken bound symbols known (nothing and row) R
behind-nothing s rule taken bound symbols known row R one at before front back place components start is-at from agrees =
    subst (λ p. s ≡ front ++ ((row p components).bytes ++ back) → ReadsRow s rule taken bound at before symbols known R place start (row p components))
    same (one at before front back place components start is-at from agrees)
  where
    same : place ≡ place + 0
    same = omega arith

-- if Q implies R, a part read as values for which Q holds is read as values for which R holds
pub reads-as : {s : List ℕ} {bound : ℕ} {inside : Option Production} {minus : Bool} {symbol : Sym} {Q R : List Value → Type 0} {place : ℕ} {ended : List Ended} {pressed : Pressed}
    → ((values : List Value) → Q values → R values) → Reads s bound inside minus symbol Q place ended pressed → Reads s bound inside minus symbol R place ended pressed
reads-as more a = record {
  shape = a.shape;
  spelled = a.spelled;
  shaped = a.shaped;
  values = a.values;
  good = more a.values a.good;
  state = a.state;
  unfolds = a.unfolds;
  agrees = a.agrees;
  keeps = a.keeps;
}

pub nothing-presses : (s : List ℕ) (bound : ℕ) (inside : Option Production) (minus : Bool) (symbol : Sym) (pressing : Pressing) (Q : List Value → Type 0)
    → Presses s bound inside minus symbol pressing Q → Presses s bound inside minus symbol (nothing and pressing) Q
nothing-presses s bound inside minus symbol pressing Q one front back place components ended is-at from agrees =
    subst (λ p. s ≡ front ++ ((pressing p components).bytes ++ back) → Reads s bound inside minus symbol Q place ended (pressing p components))
    same (one front back place components ended is-at from agrees)
  where
    same : place ≡ place + 0
    same = omega arith

-- ## The byte of a rule

pub byte-there : (front : List ℕ) (byte : ℕ) (rest : List ℕ) → slice_index (front ++ byte ∷ rest) (length front) ≡ byte
byte-there [] byte rest = refl
byte-there (c ∷ cs) byte rest = byte-there cs byte rest

pub byte-in : (s front rest : List ℕ) (byte place : ℕ) → s ≡ front ++ byte ∷ rest → place ≡ length front → slice_index s place ≡ byte
byte-in s front rest byte place is at = rw (is, at) (byte-there front byte rest)

-- a rule that takes a byte makes something that is no component
pub takes-plain : (s : List ℕ) (bound : ℕ) (inside : Option Production) (minus : Bool) (kind byte : ℕ) (rule : Rule) (row : Pressing) (R : List Value → Type 0) (value : Value)
    → byte < 256 → v0_table.rule kind byte ≡ Some rule → rule.eats ≡ true
    → PressesRow s rule (byte ∷ []) bound (symbols_of rule) [] row R
    → ((at : At) → byte_at at ≡ byte → at.bound ≡ bound → (values : List Value) → R values → meaning_of (production_of rule.number) at values ≡ plain at value)
    → Presses s bound inside minus (Kind kind) (letter byte and row) (λ values. values ≡ value ∷ [])
takes-plain s bound inside minus kind byte rule row R value small found eats parts means front back place components ended is-at from agrees is =
    let r : Pressed = row (place + 1) components in
    let there : slice_index s place ≡ byte = byte-in s front (r.bytes ++ back) byte place is is-at in
    let m = parts place (state_of ended inside minus) (front ++ byte ∷ []) back (place + 1) components (state_of ended inside minus)
    (omega (arith, is-at, length-append front (byte ∷ []))) (omega (arith, from))
    (agrees-later components ended place (place + 1) (omega arith) agrees)
    (is ∙ sym (append_assoc front (byte ∷ []) (r.bytes ++ back))) in
    record {
      shape = branch rule (byte ∷ []) m.forest;
      spelled = ap (λ l. byte ∷ l) m.spelled;
      shaped = (record { byte = byte; is_byte = small; found = found; takes = rw eats refl }, m.shaped);
      values = value ∷ [];
      good = refl;
      state = record { ended = m.state.ended; inside = None; minus = false };
      unfolds = rw (m.unfolds, means (record { symbol = s; place = place; bound = bound; ended = m.state.ended }) there refl m.values m.good) refl;
      agrees = agrees-at r.components m.state.ended (place + 1 + length r.bytes) (place + length (byte ∷ r.bytes)) (omega arith) m.agrees;
      keeps = λ p low. m.keeps p (omega (arith, low));
    }

-- a rule that takes a byte makes a component that is spelled out
pub takes-ends : (s : List ℕ) (bound : ℕ) (inside : Option Production) (minus : Bool) (kind byte : ℕ) (rule : Rule) (row : Pressing) (R : List Value → Type 0) (own : Tree)
    → byte < 256 → v0_table.rule kind byte ≡ Some rule → rule.eats ≡ true
    → PressesRow s rule (byte ∷ []) bound (symbols_of rule) [] row R
    → ((at : At) → byte_at at ≡ byte → at.bound ≡ bound → (values : List Value) → R values → meaning_of (production_of rule.number) at values ≡ ends at (as_value own))
    → Presses s bound inside minus (Kind kind) (spelled_out own (letter byte and row)) (λ values. values ≡ as_value own ∷ [])
takes-ends s bound inside minus kind byte rule row R own small found eats parts means front back place components ended is-at from agrees is =
    let r : Pressed = row (place + 1) components in
    let there : slice_index s place ≡ byte = byte-in s front (r.bytes ++ back) byte place is is-at in
    let m = parts place (state_of ended inside minus) (front ++ byte ∷ []) back (place + 1) components (state_of ended inside minus)
    (omega (arith, is-at, length-append front (byte ∷ []))) (omega (arith, from))
    (agrees-later components ended place (place + 1) (omega arith) agrees)
    (is ∙ sym (append_assoc front (byte ∷ []) (r.bytes ++ back))) in
    let free : ended_at m.state.ended place ≡ None = m.keeps place (omega arith) ∙ agrees.behind place (omega arith) in
    record {
      shape = branch rule (byte ∷ []) m.forest;
      spelled = ap (λ l. byte ∷ l) m.spelled;
      shaped = (record { byte = byte; is_byte = small; found = found; takes = rw eats refl }, m.shaped);
      values = as_value own ∷ [];
      good = refl;
      state = record { ended = record { place = place; value = as_value own } ∷ m.state.ended; inside = None; minus = false };
      unfolds = rw (m.unfolds, means (record { symbol = s; place = place; bound = bound; ended = m.state.ended }) there refl m.values m.good) refl;
      agrees = agrees-component r.components own place m.state.ended (place + length (byte ∷ r.bytes)) from (omega arith) free
          (agrees-at r.components m.state.ended (place + 1 + length r.bytes) (place + length (byte ∷ r.bytes)) (omega arith) m.agrees);
      keeps = λ p low.
          let other : place ≡ p → ⊥ = λ same. omega (arith, same, low) in
          found-other (record { place = place; value = as_value own }) m.state.ended p other ∙ m.keeps p (omega (arith, low));
    }

-- a rule that takes no byte makes something that is no component
pub chains-plain : (s : List ℕ) (bound : ℕ) (inside : Option Production) (minus : Bool) (kind byte : ℕ) (rule : Rule) (row : Pressing) (R : List Value → Type 0) (value : Value)
    → byte < 256 → v0_table.rule kind byte ≡ Some rule → rule.eats ≡ false
    → PressesRow s rule [] bound (symbols_of rule) [] row R
    → ((at : At) → at.bound ≡ bound → (values : List Value) → R values → meaning_of (production_of rule.number) at values ≡ plain at value)
    → Presses s bound inside minus (Kind kind) row (λ values. values ≡ value ∷ [])
chains-plain s bound inside minus kind byte rule row R value small found eats parts means front back place components ended is-at from agrees is =
    let zero-more : place + 0 ≡ place = omega arith in
    let m = parts place (state_of ended inside minus) front back place components (state_of ended inside minus) is-at from agrees is in
    record {
      shape = branch rule [] m.forest;
      spelled = m.spelled;
      shaped = (record { byte = byte; is_byte = small; found = found; takes = rw eats refl }, m.shaped);
      values = value ∷ [];
      good = refl;
      state = record { ended = m.state.ended; inside = None; minus = false };
      unfolds = rw (zero-more, m.unfolds, means (record { symbol = s; place = place; bound = bound; ended = m.state.ended }) refl m.values m.good) refl;
      agrees = m.agrees;
      keeps = m.keeps;
    }

-- ## Leaves

-- a shape without rules, which ends nothing
pub leaf-reads : (s : List ℕ) (bound : ℕ) (inside : Option Production) (minus : Bool) (symbol : Sym) (place : ℕ) (components : List Component) (ended : List Ended)
    → (leaf : Shape) (bytes : List ℕ) (values : List Value) → spell leaf ≡ bytes → IsTree v0_table symbol leaf
    → linked.unfold_tree (v0 s) bound place leaf (state_of ended inside minus) ≡ Ok (linked.found values (state_of ended inside minus))
    → Agrees components ended place → Reads s bound inside minus symbol (λ others. others ≡ values) place ended (text bytes place components)
leaf-reads s bound inside minus symbol place components ended leaf bytes values spelled shaped unfolds agrees = record {
  shape = leaf;
  spelled = spelled;
  shaped = shaped;
  values = values;
  good = refl;
  state = state_of ended inside minus;
  unfolds = unfolds;
  agrees = agrees-later components ended place (place + length bytes) (omega arith) agrees;
  keeps = λ p low. refl;
}

pub empty-presses : (s : List ℕ) (bound : ℕ) (inside : Option Production) (minus : Bool) (kind : ℕ) → v0_table.may_be_empty kind ≡ true
    → Presses s bound inside minus (Kind kind) nothing (λ values. values ≡ [])
empty-presses s bound inside minus kind is_one front back place components ended is-at from agrees is =
    leaf-reads s bound inside minus (Kind kind) place components ended empty [] [] refl is_one refl agrees

pub byte-presses : (s : List ℕ) (bound : ℕ) (inside : Option Production) (minus : Bool) (byte : ℕ) → Presses s bound inside minus (Byte byte) (letter byte) (λ values. values ≡ [])
byte-presses s bound inside minus byte front back place components ended is-at from agrees is =
    leaf-reads s bound inside minus (Byte byte) place components ended (fixed byte) (byte ∷ []) [] refl refl refl agrees

pub number-presses : (s : List ℕ) (bound : ℕ) (inside : Option Production) (minus : Bool) (kind : NumberKind) (own : List ℕ) → AreDigitsOf kind own → ending_of kind ≡ 95 ∷ []
    → Presses s bound inside minus (Number kind) (text (own ++ 95 ∷ [])) (λ values. values ≡ token_of inside minus own ∷ [])
number-presses s bound inside minus kind own digits ends front back place components ended is-at from agrees is =
    leaf-reads s bound inside minus (Number kind) place components ended (token (record { before = []; own = own; behind = 95 ∷ [] })) (own ++ 95 ∷ []) (token_of inside minus own ∷ [])
    refl (record { bare = refl; digits = digits; ends = sym ends }) refl agrees

pub name-presses : (s : List ℕ) (bound : ℕ) (inside : Option Production) (minus : Bool) (digits separator own : List ℕ)
    → IsName Rust (record { before = digits ++ separator; own = own; behind = [] })
    → Presses s bound inside minus Name (text (digits ++ separator ++ own)) (λ values. values ≡ token_of inside minus own ∷ [])
name-presses s bound inside minus digits separator own is_name front back place components ended is-at from agrees is =
    leaf-reads s bound inside minus Name place components ended (token (record { before = digits ++ separator; own = own; behind = [] })) (digits ++ separator ++ own) (token_of inside minus own ∷ [])
    (append-nil (digits ++ separator ++ own)) is_name refl agrees

-- a rule that is a letter
pub letter-presses : (s : List ℕ) (bound : ℕ) (inside : Option Production) (minus : Bool) (kind byte : ℕ) (rule : Rule) (value : Value)
    → byte < 256 → v0_table.rule kind byte ≡ Some rule → rule.eats ≡ true → symbols_of rule ≡ []
    → ((at : At) → byte_at at ≡ byte → meaning_of (production_of rule.number) at [] ≡ plain at value)
    → Presses s bound inside minus (Kind kind) (letter byte) (λ values. values ≡ value ∷ [])
letter-presses s bound inside minus kind byte rule value small found eats none means =
    takes-plain s bound inside minus kind byte rule nothing (λ values. values ≡ []) value small found eats
    (subst (λ l. PressesRow s rule (byte ∷ []) bound l [] nothing (λ values. values ≡ [])) (sym none)
    (none-presses s rule (byte ∷ []) bound [] (λ values. values ≡ []) refl))
    (λ at there same values h. rw h (means at there))

-- a rule that is a letter and makes something that ends, but is no component
pub letter-ends : (s : List ℕ) (bound : ℕ) (inside : Option Production) (minus : Bool) (kind byte : ℕ) (rule : Rule) (v : Value)
    → byte < 256 → v0_table.rule kind byte ≡ Some rule → rule.eats ≡ true → symbols_of rule ≡ []
    → ((at : At) → byte_at at ≡ byte → meaning_of (production_of rule.number) at [] ≡ ends at v)
    → Presses s bound inside minus (Kind kind) (letter byte) (λ values. values ≡ v ∷ [])
letter-ends s bound inside minus kind byte rule v small found eats none means front back place components ended is-at from agrees is = record {
  shape = branch rule (byte ∷ []) shape.nothing;
  spelled = refl;
  shaped = (record { byte = byte; is_byte = small; found = found; takes = rw eats refl }, subst (λ l. AreTrees v0_table l shape.nothing) (sym none) tt);
  values = v ∷ [];
  good = refl;
  state = state_of (record { place = place; value = v } ∷ ended) None false;
  unfolds = rw (means (record { symbol = s; place = place; bound = bound; ended = ended }) (byte-in s front back byte place is is-at)) refl;
  agrees = agrees-more components (record { place = place; value = v }) ended (place + 1) (omega arith) (agrees.behind place (omega arith))
      (agrees-later components ended place (place + 1) (omega arith) agrees);
  keeps = λ q lower.
      let other : place ≡ q → ⊥ = λ same. omega (arith, same, lower) in
      found-other (record { place = place; value = v }) ended q other;
}
