-- A symbol is pressed in at most four bytes for each of its own: by induction over its shape.
use Rattle.rust_press.proofs.Basics.{◌≡◌, ℕ, ◌+◌, ◌*◌, ◌≤◌, length, List, [], ◌∷◌, ◌++◌, Option, Some, None, Bool, true, false, Ok, refl, ap, arith, sym, subst, ◌∙◌, length-append, same_Some, if◌then◌else◌, get_or, Result, Err, drop, codes, IsLengthForm, ending_of, Token, IsName, IsNumberToken, bytes_of, Rust, NumberKind, Base62, Hex, Refusal, Rule, Sym, Kind, Name, Number, Byte, Choice, classes_of, in_ranges, choice_at, symbols_of, IsToken, Found, Open, ◌>>=◌, unfold_tree, unfold_forest, standing, alone, ◌and◌, text, Production, production_of, v0_table, kinds, no_kind, taking, each, Value, State, Ended, v0, At, bound_behind, is_minus, meaning, meaning_of, at_rule, at_first, symbol_of, unfolded, token_of, value62, value16, Pressing, digits62, digits16, press_path, press_other, pressed, PressedIsShort}
use Rattle.std.proofs.lemmas.List.{length-drop}
use Rattle.sym_core.specs.declared.TheConstants.{MOST_BYTES}
use Rattle.sym_shape.specs.Tree.{Tree as Shape, Forest, branch, empty, token, fixed, grown, spell, spell_all, IsTree, AreTrees}
use Rattle.sym_shape.specs.Tree as shape
use Rattle.rust_grammar.specs.declared.production.Production.TheVariants as rules
use Rattle.rust_grammar.specs.Value as value
use Rattle.rust_tree.specs.Symbol as tree
use Rattle.rust_press.proofs.PressReadTrees.{symbol_rule, whole-shape}
use Rattle.rust_press.proofs.PressSymbol.{other_values}
use Rattle.sym_demangle.specs.Mangled.{misshapen, well_shaped}
use Rattle.rust_press.proofs.PressRead.{Holds, holds-then}
use Rattle.rust_press.proofs.ShortParts.{spelled, pressed_as, IsClosed, Alike, Fits, text-fits, and-fits, fits-without, pressed-fits, refers-fits}
use Rattle.rust_press.proofs.ShortTokens.{number62-short, number16-short, name-short}
use Rattle.rust_press.proofs.ShortRules.{Sort, sort_of, parts, path_part, other_part, sort_at, least, least_all, Row, Made, makes_plain, makes_text, makes_tree, makes_again, own_of, Closes, AllClose}
use Rattle.rust_press.proofs.ShortGrammar.{holds-as, each-kind}

-- ## Parts of a symbol, as they are read

-- a thing of a sort was read, and is pressed in few bytes
pub record IsRead (S : Sort) (few n : ℕ) (before : List Ended) (r : Found (List Value) State) : Type 0 where
  pub thing : S.thing
  pub values : r.value ≡ S.values thing
  pub fits : Fits (S.press thing) n before r.state.ended
  pub big : few ≤ n

-- the parts of a rule, after the known ones, were read
record AreRead (production : Option Production) (xs : List Sym) (known : List Value) (n : ℕ) (before : List Ended) (r : Found (List Value) State) : Type 0 where
  press : Pressing
  row : Row production xs known r.value press
  fits : Fits press n before r.state.ended
  big : least_all xs ≤ n

-- ## Tokens

number-long : (kind : NumberKind) (t : Token) → IsNumberToken kind t → length (bytes_of t) ≡ length t.own + length (ending_of kind)
number-long kind t is = omega (arith, length-append (t.before ++ t.own) t.behind, length-append t.before t.own, ap (λ l. length l) is.bare, ap (λ l. length l) is.ends)

name-some : (t : Token) → IsName Rust t → 1 ≤ length (bytes_of t)
name-some t is =
    omega (arith, form-some is.digits is.length_is.1, length-append (t.before ++ t.own) t.behind, length-append t.before t.own, length-append is.digits is.separator, ap (λ l. length l) is.split)
  where
    form-some : (ds : List ℕ) → IsLengthForm ds → 1 ≤ length ds
    form-some [] form = absurd form
    form-some (d ∷ ds) form = omega arith

token-read : (o : Option Production) (x : Sym) (t : Token) (minus : Bool) (state : State) → IsToken Rust x t → IsClosed state.ended
    → IsRead (sort_at o x) (least x) (length (bytes_of t)) state.ended (record { value = token_of o minus t.own ∷ []; state = state })
token-read o Name t minus state is closed =
    let short = name-short t is in
    record { thing = (t.own, minus); values = refl; fits = text-fits _ (length (bytes_of t)) state.ended closed (omega (arith, short)); big = name-some t is }
token-read o (Number Base62) t minus state is closed = record {
  thing = (t.own, minus);
  values = refl;
  fits = text-fits _ (length (bytes_of t)) state.ended closed
      (omega (arith, number62-short t.own is.digits, length-append (digits62 (value62 t.own)) (95 ∷ []), number-long Base62 t is));
  big = omega (arith, number-long Base62 t is);
}
token-read o (Number Hex) t minus state is closed = record {
  thing = (t.own, minus);
  values = refl;
  fits = text-fits _ (length (bytes_of t)) state.ended closed
      (omega (arith, number16-short t.own is.digits.0, length-append (digits16 (value16 t.own)) (95 ∷ []), number-long Hex t is));
  big = omega (arith, number-long Hex t is);
}
token-read o (Number kind) t minus state is closed =
    record { thing = (t.own, minus); values = refl; fits = text-fits [] (length (bytes_of t)) state.ended closed (omega arith); big = omega arith }
token-read o (Kind k) t minus state is closed = absurd is
token-read o (Byte b) t minus state is closed = absurd is

-- ## Rules

-- what a rule makes of its parts was read, if the parts are pressed as `h` in few bytes
made-read : (S : Sort) (own few_parts : ℕ) (at : At) (h : Pressing) (n : ℕ) (before : List Ended) (r : Found Value State) → 1 ≤ own + few_parts → few_parts ≤ n → IsClosed before → Fits h n before at.ended
    → Made S own few_parts at h r → IsRead S 1 (own + n) before (record { value = r.value ∷ []; state = r.state })
made-read S own few_parts at h n before r solid big closed fits (makes_plain m) = record {
  thing = m.thing;
  values = m.values;
  fits = rw (m.press, m.ended) (and-fits (text m.bytes) h own n before before at.ended (text-fits m.bytes own before closed m.few) fits);
  big = omega (arith, solid, big);
}
made-read S own few_parts at h n before r solid big closed fits (makes_text m) = record {
  thing = m.thing;
  values = m.values;
  fits = rw (m.press, m.ended)
      (fits-without m.old (text m.bytes) n own (own + n) before at.ended at.ended (omega arith) (omega arith) (subst (λ f. Fits f n before at.ended) m.old_is fits)
      (text-fits m.bytes own at.ended fits.closed m.few));
  big = omega (arith, solid, big);
}
made-read S own few_parts at h n before r solid big closed fits (makes_tree m) =
    let out : Fits (spelled m.tree) (own + n) before at.ended = rw m.out (and-fits (text m.bytes) h own n before before at.ended (text-fits m.bytes own before closed m.few) fits) in
    record {
      thing = m.thing;
      values = m.values;
      fits = rw (m.press, m.ended) (pressed-fits m.tree (record { place = at.place; value = r.value }) (own + n) before at.ended m.is (λ compared. omega (arith, m.big compared, big)) closed out);
      big = omega (arith, solid, big);
    }
made-read S own few_parts at h n before r solid big closed fits (makes_again m) = record {
  thing = m.thing;
  values = m.values;
  fits = rw (m.press, m.ended)
      (fits-without m.old (pressed_as m.tree) n 2 (own + n) before at.ended (record { place = at.place; value = r.value } ∷ at.ended) (omega arith) (omega (arith, m.big, big)) (subst (λ f. Fits f n before at.ended) m.old_is fits)
      (refers-fits m.tree (record { place = at.place; value = r.value }) at.ended m.is m.listed fits.closed));
  big = omega (arith, solid, big);
}

-- the rule that a byte chooses among the rules of a kind makes a thing of the kind's sort
closes-at : (S : Sort) (cs : List Choice) (byte : ℕ) (rule : Rule) → AllClose S cs → choice_at cs byte ≡ Some rule → Closes S rule
closes-at S [] byte rule are is = cc
closes-at S (c ∷ cs) byte rule (one, rest) is = go (in_ranges (classes_of c) byte) is (λ h. closes-at S cs byte rule rest h)
  where
    go : (t : Bool) → (if t then Some c.rule else choice_at cs byte) ≡ Some rule → (choice_at cs byte ≡ Some rule → Closes S rule) → Closes S rule
    go true found more = subst (Closes S) (same_Some _ _ found) one
    go false found more = more found

own-long : (eats : Bool) (taken : List ℕ) (byte : ℕ) → taken ≡ (if eats then byte ∷ [] else []) → length taken ≡ (if eats then 1 else 0)
own-long true taken byte is = ap (λ l. length l) is
own-long false taken byte is = ap (λ l. length l) is

-- if the parts of a rule were read, so was the rule
rule-read : (s : List ℕ) (S : Sort) (rule : Rule) (taken : List ℕ) (context place n byte : ℕ) (before : State) (closes : Closes S rule) (m : Result (Found (List Value) State) Refusal)
    → taken ≡ (if rule.eats then byte ∷ [] else []) → IsClosed before.ended → Holds (AreRead (production_of rule.number) (symbols_of rule) [] n before.ended) m
    → Holds (IsRead S 1 (length taken + n) before.ended) (m >>= λ inner. meaning_of (production_of rule.number) (at_rule s (standing rule taken place context before) inner.state) inner.value >>= alone)
rule-read s S rule taken context place n byte before closes m takes closed are =
    holds-then (AreRead (production_of rule.number) (symbols_of rule) [] n before.ended) (IsRead S 1 (length taken + n) before.ended) m _ are (λ inner parts.
    let at : At = at_rule s (standing rule taken place context before) inner.state in
    let row : Row closes.production closes.symbols [] inner.value parts.press = subst (λ xs. Row closes.production xs [] inner.value parts.press) closes.are
    (subst (λ o. Row o (symbols_of rule) [] inner.value parts.press) closes.is parts.row) in
    let big : least_all closes.symbols ≤ n = subst (λ xs. least_all xs ≤ n) closes.are parts.big in
    let made : Holds (Made S (own_of rule) (least_all closes.symbols) at parts.press) (meaning_of (production_of rule.number) at inner.value) =
    subst (λ o. Holds (Made S (own_of rule) (least_all closes.symbols) at parts.press) (meaning_of o at inner.value)) (sym closes.is) (closes.made at inner.value parts.press row) in
    holds-then (Made S (own_of rule) (least_all closes.symbols) at parts.press) (IsRead S 1 (length taken + n) before.ended) (meaning_of (production_of rule.number) at inner.value) alone made (λ r is.
    subst (λ k. IsRead S 1 (k + n) before.ended (record { value = r.value ∷ []; state = r.state })) (sym (own-long rule.eats taken byte takes))
    (made-read S (own_of rule) (least_all closes.symbols) at parts.press n before.ended r closes.solid big closed parts.fits is)))

kind-least : (k : ℕ) → least (Kind k) ≤ 1
kind-least k = go (v0_table.may_be_empty k)
  where
    go : (t : Bool) → (if t then 0 else 1) ≤ 1
    go true = omega arith
    go false = omega arith

-- ## The induction

module _ (s : List ℕ) where
  mutual
    tree-read : (o : Option Production) (x : Sym) (context place : ℕ) (tree : Shape) (state : State) → state.inside ≡ o → IsTree v0_table x tree → IsClosed state.ended
        → Holds (IsRead (sort_at o x) (least x) (length (spell tree)) state.ended) (unfold_tree (v0 s) context place tree state)
    tree-read o (Kind k) context place (branch rule taken parts) state inside (takes, are) closed =
        holds-as (IsRead (sort_at o (Kind k)) 1 (length taken + length (spell_all parts)) state.ended) (IsRead (sort_at o (Kind k)) (least (Kind k)) (length (taken ++ spell_all parts)) state.ended) _
        (λ r is. record { thing = is.thing; values = is.values; fits = subst (λ n. Fits ((sort_at o (Kind k)).press is.thing) n state.ended r.state.ended) (sym (length-append taken (spell_all parts))) is.fits; big = omega (arith, is.big, kind-least k, length-append taken (spell_all parts)) })
        (rule-read s (sort_at o (Kind k)) rule taken context place (length (spell_all parts)) takes.byte state
        (closes-at (sort_at o (Kind k)) (get_or kinds k no_kind).choices takes.byte rule (each-kind k).1 takes.found)
        (unfold_forest (v0 s) (standing rule taken place context state) [] (place + length taken) parts state) takes.takes closed
        (forest-read (production_of rule.number) (symbols_of rule) (standing rule taken place context state) [] (place + length taken) parts state refl are closed))
    tree-read o (Kind k) context place empty state inside is closed =
        let none = (each-kind k).0 is in
        record { thing = none.0; values = sym none.1; fits = rw none.2 (text-fits [] 0 state.ended closed (omega arith)); big = rw is (omega arith) }
    tree-read o Name context place (token t) state inside is closed = subst (λ p. IsRead (sort_at o Name) (least Name) (length (bytes_of t)) state.ended (record { value = token_of p state.minus t.own ∷ []; state = state })) (sym inside) (token-read o Name t state.minus state is closed)
    tree-read o (Number kind) context place (token t) state inside is closed =
        subst (λ p. IsRead (sort_at o (Number kind)) (least (Number kind)) (length (bytes_of t)) state.ended (record { value = token_of p state.minus t.own ∷ []; state = state })) (sym inside) (token-read o (Number kind) t state.minus state is closed)
    tree-read o (Byte b) context place (fixed c) state inside is closed = record { thing = tt; values = refl; fits = text-fits (b ∷ []) 1 state.ended closed (omega arith); big = omega arith }
    tree-read o x context place tree state inside bad closed = absurd bad

    forest-read : (o : Option Production) (xs : List Sym) (rule : Open State ℕ) (known : List Value) (place : ℕ) (parts : Forest) (state : State) → production_of rule.rule.number ≡ o → AreTrees v0_table xs parts → IsClosed state.ended
        → Holds (AreRead o xs known (length (spell_all parts)) state.ended) (unfold_forest (v0 s) rule known place parts state)
    forest-read o [] rule known place shape.nothing state made are closed = record { press = text []; row = (refl, refl); fits = text-fits [] 0 state.ended closed (omega arith); big = omega arith }
    forest-read o (x ∷ xs) rule known place (grown first rest) state made (tree, trees) closed =
        let next : State = record { ended = state.ended; inside = production_of rule.rule.number; minus = is_minus known } in
        holds-then (IsRead (sort_at o x) (least x) (length (spell first)) state.ended) _
        (unfold_tree (v0 s) (bound_behind (production_of rule.rule.number) rule.context known) place first next)
        (λ part. unfold_forest (v0 s) rule (known ++ part.value) (place + length (spell first)) rest part.state)
        (tree-read o x (bound_behind (production_of rule.rule.number) rule.context known) place first next made tree closed)
        (λ part is.
        holds-as (AreRead o xs (known ++ part.value) (length (spell_all rest)) part.state.ended) (AreRead o (x ∷ xs) known (length (spell first ++ spell_all rest)) state.ended) _
        (λ r more. record {
          press = (sort_at o x).press is.thing and more.press;
          row = (is.thing, more.press, refl, subst (λ vs. Row o xs (known ++ vs) r.value more.press) is.values more.row);
          fits = subst (λ n. Fits ((sort_at o x).press is.thing and more.press) n state.ended r.state.ended) (sym (length-append (spell first) (spell_all rest)))
              (and-fits ((sort_at o x).press is.thing) more.press (length (spell first)) (length (spell_all rest)) state.ended part.state.ended r.state.ended is.fits more.fits);
          big = omega (arith, is.big, more.big, length-append (spell first) (spell_all rest));
        })
        (forest-read o xs rule (known ++ part.value) (place + length (spell first)) rest part.state made trees is.fits.closed))
    forest-read o xs rule known place parts state made are closed = absurd are

-- ## A whole symbol

-- a suffix of at most `most` bytes, or none
abbrev IsSuffix : (most : ℕ) → List Value → Type 0
IsSuffix most [] = Unit {0}
IsSuffix most (value.a_suffix bytes ∷ []) = length bytes ≤ most
IsSuffix most _ = ⊥

anything : {A : Type 0} (m : Result A Refusal) → Holds (λ x. Unit {0}) m
anything (Ok x) = tt
anything (Err e) = tt

-- the suffix that is read at the end of a symbol has at most as many bytes as its spelling
suffix-read : (s : List ℕ) (place : ℕ) (tree : Shape) (state : State) → length s ≡ place + length (spell tree) → IsTree v0_table (Kind 3) tree
    → Holds (λ f. IsSuffix (length (spell tree)) f.value) (unfold_tree (v0 s) 0 place tree state)
suffix-read s place empty state long tree = tt
suffix-read s place (token t) state long tree = absurd tree
suffix-read s place (fixed c) state long tree = absurd tree
suffix-read s place (branch rule taken parts) state long (takes, are) = go (in_ranges (each (codes ".")) takes.byte) takes.found
  where
    go : (t : Bool) → (if t then Some (taking rules.Suffix (Kind 4 ∷ Kind 5 ∷ [])) else None) ≡ Some rule
        → Holds (λ f. IsSuffix (length (spell (branch rule taken parts))) f.value) (unfold_tree (v0 s) 0 place (branch rule taken parts) state)
    go false found-it = cc
    go true found-it =
        let short : length (drop place s) ≤ length (taken ++ spell_all parts) = omega (arith, long, length-drop place s) in
        holds-then (λ f. Unit {0}) _ (unfold_forest (v0 s) (standing rule taken place 0 state) [] (place + length taken) parts state) _ (anything _)
        (λ inner g. subst (λ r. Holds (λ f. IsSuffix (length (taken ++ spell_all parts)) f.value) (meaning_of (production_of r.number) (at_rule s (standing rule taken place 0 state) inner.state) inner.value >>= alone)) (same_Some _ _ found-it) short)

-- The values of a symbol's parts. Its path, other path and suffix have a, b and d bytes.
record AreParts (a b d : ℕ) (values : List Value) : Type 0 where
  path : tree.Path
  other : Option tree.Path
  last : List Value
  are : values ≡ ((value.a_path path ∷ []) ++ other_values other) ++ last
  middle : List Ended
  ended : List Ended
  path_fits : Fits (press_path path) a [] middle
  other_fits : Fits (press_other other) b middle ended
  suffix : IsSuffix d last

-- A symbol of a path, another path and a suffix that have a, b and d bytes.
record IsOfParts (a b d : ℕ) (symbol : tree.Symbol) : Type 0 where
  middle : List Ended
  ended : List Ended
  path_fits : Fits (press_path symbol.path) a [] middle
  other_fits : Fits (press_other symbol.instantiating) b middle ended
  suffix : length symbol.suffix ≤ d

symbol-made : (a b d : ℕ) (at : At) (path : tree.Path) (other : Option tree.Path) (last : List Value) (middle ended : List Ended) → Fits (press_path path) a [] middle → Fits (press_other other) b middle ended → IsSuffix d last
    → Holds (λ f. (y : tree.Symbol) × (f.value ≡ value.a_symbol y) × IsOfParts a b d y) (meaning rules.Symbol at (((value.a_path path ∷ []) ++ other_values other) ++ last))
symbol-made a b d at path None [] middle ended p o short =
    (record { path = path; instantiating = None; suffix = [] }, refl, record { middle = middle; ended = ended; path_fits = p; other_fits = o; suffix = omega arith })
symbol-made a b d at path None (value.a_suffix bytes ∷ []) middle ended p o short =
    (record { path = path; instantiating = None; suffix = bytes }, refl, record { middle = middle; ended = ended; path_fits = p; other_fits = o; suffix = short })
symbol-made a b d at path (Some q) [] middle ended p o short =
    (record { path = path; instantiating = Some q; suffix = [] }, refl, record { middle = middle; ended = ended; path_fits = p; other_fits = o; suffix = omega arith })
symbol-made a b d at path (Some q) (value.a_suffix bytes ∷ []) middle ended p o short =
    (record { path = path; instantiating = Some q; suffix = bytes }, refl, record { middle = middle; ended = ended; path_fits = p; other_fits = o; suffix = short })
symbol-made a b d at path other last middle ended p o short = absurd short

none-closed : IsClosed []
none-closed own listed = absurd listed

none-alike : Alike [] []
none-alike = record { ended = λ own has. absurd has; there = λ own listed compared. absurd listed; low = tt }

-- a symbol of these parts is pressed in at most four bytes for each of its own bytes
parts-short : (a b d : ℕ) (symbol : tree.Symbol) → 2 + (a + (b + d)) ≤ MOST_BYTES → IsOfParts a b d symbol → length (pressed symbol) ≤ 4 * (2 + (a + (b + d)))
parts-short a b d symbol fits is =
    let last = text-fits symbol.suffix d is.ended is.other_fits.closed (omega (arith, is.suffix)) in
    let rest = and-fits (press_path symbol.path) (press_other symbol.instantiating and text symbol.suffix) a (b + d) [] is.middle is.ended is.path_fits
    (and-fits (press_other symbol.instantiating) (text symbol.suffix) b d is.middle is.ended is.ended is.other_fits last) in
    let whole = and-fits (text (95 ∷ 82 ∷ [])) (press_path symbol.path and (press_other symbol.instantiating and text symbol.suffix)) 2 (a + (b + d)) [] [] is.ended
    (text-fits (95 ∷ 82 ∷ []) 2 [] none-closed (omega arith)) rest in
    (whole.writes 0 [] none-alike (omega (arith, fits))).bytes

whole-long : (byte : ℕ) (a b d : List ℕ) → length (byte ∷ 82 ∷ (a ++ (b ++ (d ++ [])))) ≡ 2 + length a + length b + length d
whole-long byte a b d = omega (arith, length-append a (b ++ (d ++ [])), length-append b (d ++ []), length-append d [])

-- a symbol of the one rule is pressed in at most four bytes for each of its own bytes
rule-short : (byte : ℕ) (a b d : Shape) → IsTree v0_table (Kind 1) a → IsTree v0_table (Kind 2) b → IsTree v0_table (Kind 3) d
    → 2 + (length (spell a) + (length (spell b) + length (spell d))) ≤ MOST_BYTES
    → Holds (λ y. length (pressed y) ≤ 4 * (2 + (length (spell a) + (length (spell b) + length (spell d))))) (unfolded (branch symbol_rule (byte ∷ []) (grown (fixed 82) (grown a (grown b (grown d shape.nothing))))))
rule-short byte a b d a-is b-is d-is few =
    let whole : Shape = branch symbol_rule (byte ∷ []) (grown (fixed 82) (grown a (grown b (grown d shape.nothing)))) in
    let s : List ℕ = spell whole in
    let rule : Open State ℕ = standing symbol_rule (byte ∷ []) 0 0 at_first in
    let pa : ℕ = 2 + length (spell a) in
    let pb : ℕ = pa + length (spell b) in
    let na : ℕ = length (spell a) in
    let nb : ℕ = length (spell b) in
    let nd : ℕ = length (spell d) in
    let long : length s ≡ pb + nd = whole-long byte (spell a) (spell b) (spell d) in
    holds-then (λ f. (y : tree.Symbol) × (f.value ≡ value.a_symbol y ∷ []) × IsOfParts na nb nd y) _ (unfold_tree (v0 s) 0 0 whole at_first) _
    (holds-then (λ f. AreParts na nb nd f.value) _ (unfold_forest (v0 s) rule [] 1 (grown (fixed 82) (grown a (grown b (grown d shape.nothing)))) at_first) _
    (holds-then (IsRead (sort_of path_part) 1 na []) _ (unfold_tree (v0 s) 0 2 a (record { ended = []; inside = Some rules.Symbol; minus = false })) _
    (tree-read s (Some rules.Symbol) (Kind 1) 0 2 a (record { ended = []; inside = Some rules.Symbol; minus = false }) refl a-is none-closed)
    (λ one p. holds-then (IsRead (sort_of other_part) 0 nb one.state.ended) _ (unfold_tree (v0 s) 0 pa b (record { ended = one.state.ended; inside = Some rules.Symbol; minus = is_minus one.value })) _
    (tree-read s (Some rules.Symbol) (Kind 2) 0 pa b (record { ended = one.state.ended; inside = Some rules.Symbol; minus = is_minus one.value }) refl b-is p.fits.closed)
    (λ two o. holds-then (λ f. IsSuffix nd f.value) _ (unfold_tree (v0 s) 0 pb d (record { ended = two.state.ended; inside = Some rules.Symbol; minus = is_minus (one.value ++ two.value) })) _
    (suffix-read s pb d (record { ended = two.state.ended; inside = Some rules.Symbol; minus = is_minus (one.value ++ two.value) }) long d-is)
    (λ three short. record {
      path = p.thing;
      other = o.thing;
      last = three.value;
      are = rw (p.values, o.values) refl;
      middle = one.state.ended;
      ended = two.state.ended;
      path_fits = p.fits;
      other_fits = o.fits;
      suffix = short;
    }))))
    (λ inner parts. holds-then (λ f. (y : tree.Symbol) × (f.value ≡ value.a_symbol y) × IsOfParts na nb nd y) _ (meaning rules.Symbol (at_rule s rule inner.state) inner.value) _
    (subst (λ vs. Holds (λ f. (y : tree.Symbol) × (f.value ≡ value.a_symbol y) × IsOfParts na nb nd y) (meaning rules.Symbol (at_rule s rule inner.state) vs)) (sym parts.are)
    (symbol-made na nb nd (at_rule s rule inner.state) parts.path parts.other parts.last parts.middle parts.ended parts.path_fits parts.other_fits parts.suffix))
    (λ f w. (w.0, ap (λ v. v ∷ []) w.1, w.2))))
    (λ found w. subst (λ vs. Holds (λ y. length (pressed y) ≤ 4 * (2 + (na + (nb + nd)))) (symbol_of vs)) (sym w.1) (parts-short na nb nd w.0 few w.2))

pub pressed-is-short : PressedIsShort
pressed-is-short symbol s fits (misshapen at bad e) = cc
pressed-is-short symbol s fits (well_shaped (shape, is, spelled, e)) =
    let whole = whole-shape shape is in
    let long : length s ≡ 2 + (length (spell whole.path) + (length (spell whole.other) + length (spell whole.suffix))) =
    ap (λ l. length l) (sym spelled ∙ ap spell whole.is) ∙ whole-long whole.byte (spell whole.path) (spell whole.other) (spell whole.suffix) ∙ omega arith in
    let short = rule-short whole.byte whole.path whole.other whole.suffix whole.path_is whole.other_is whole.suffix_is (omega (arith, long, fits)) in
    omega (arith, long, subst (λ r. Holds (λ y. length (pressed y) ≤ 4 * (2 + (length (spell whole.path) + (length (spell whole.other) + length (spell whole.suffix))))) r) (ap unfolded (sym whole.is) ∙ sym e) short)
