-- A pressed symbol is a shape of the grammar that is read as that symbol.
use Rattle.rust_press.proofs.Basics.{◌≡◌, ℕ, ◌+◌, ◌<◌, ◌≤◌, length, List, [], ◌∷◌, ◌++◌, Option, Some, None, Bool, true, false, Ok, refl, ap, arith, sym, ◌∙◌, length-append, append_assoc, append-nil, drop-append_seam, Kind, Byte, need, Production, v0_table, taking, Value, State, Ended, v0, ended_at, At, meaning, plain, greatest_u64, Agrees, state_of, Reads, Presses, drop, AllByRecursion, in_ranges, unfold_tree, found, suffix_bytes, text, Component, Pressed, press_path, press_other, pressed, spell_path, IsSpellable, IsSpellableSuffix, IsClosedOther, IsSpellableSymbol, IsReadAs}
use Rattle.rust_tree.specs.Symbol as tree
use Rattle.rust_grammar.specs.declared.production.Production.TheVariants as rules
use Rattle.rust_grammar.specs.Value as value
use Rattle.sym_shape.specs.Tree.{Tree as Shape, branch, empty, fixed, grown, spell, IsTree}
use Rattle.sym_shape.specs.Tree as shape
use Rattle.rust_press.proofs.PressParts.{agrees-later, empty-presses, leaf-reads}
use Rattle.rust_press.proofs.PressReferences.{paths-1, paths-2, path-presses}
use Rattle.rust_press.proofs.PressKept.{path-kept}

-- ## A suffix

abbrev AreSuffixBytes : List ℕ → Type 0
AreSuffixBytes bytes = AllByRecursion (λ c. (c < 256) × (in_ranges suffix_bytes c ≡ true)) bytes

abbrev rest_shape : List ℕ → Shape
rest_shape [] = empty
rest_shape (b ∷ bs) = branch (taking rules.SuffixByte (Kind 5 ∷ [])) (b ∷ []) (grown (rest_shape bs) shape.nothing)

rest-spelled : (bs : List ℕ) → spell (rest_shape bs) ≡ bs
rest-spelled [] = refl
rest-spelled (b ∷ bs) = ap (λ l. b ∷ l) (append-nil (spell (rest_shape bs)) ∙ rest-spelled bs)

rest-shaped : (bs : List ℕ) → AreSuffixBytes bs → IsTree v0_table (Kind 5) (rest_shape bs)
rest-shaped [] good = refl
rest-shaped (b ∷ bs) good = (record { byte = b; is_byte = good.0.0; found = rw good.0.1 refl; takes = refl }, (rest-shaped bs good.1, tt))

-- reading the rest of a suffix leaves what has ended as it is
record PassesBy (s : List ℕ) (place : ℕ) (tree : Shape) (start : State) : Type 0 where
  values : List Value
  state : State
  unfolds : unfold_tree (v0 s) 0 place tree start ≡ Ok (found values state)
  same : state.ended ≡ start.ended

rest-passes : (s : List ℕ) (bs : List ℕ) (place : ℕ) (start : State) → PassesBy s place (rest_shape bs) start
rest-passes s [] place start = record { values = []; state = start; unfolds = refl; same = refl }
rest-passes s (b ∷ bs) place start =
    let more = rest-passes s bs (place + 1) (state_of start.ended (Some rules.SuffixByte) false) in
    record { values = value.suffix_rest ∷ []; state = state_of more.state.ended None false; unfolds = rw more.unfolds refl; same = more.same }

abbrev suffix_values : List ℕ → List Value
suffix_values [] = []
suffix_values bytes = value.a_suffix bytes ∷ []

-- a pressed suffix at the end of a symbol is read as that suffix
suffix-reads : (s front : List ℕ) (place : ℕ) (components : List Component) (ended : List Ended) (inside : Option Production) (minus : Bool) (bytes : List ℕ)
    → place ≡ length front → s ≡ front ++ bytes → Agrees components ended place → IsSpellableSuffix bytes
    → Reads s 0 inside minus (Kind 3) (λ values. values ≡ suffix_values bytes) place ended (text bytes place components)
suffix-reads s front place components ended inside minus [] is-at is agrees good = leaf-reads s 0 inside minus (Kind 3) place components ended empty [] [] refl refl refl agrees
suffix-reads s front place components ended inside minus (dot ∷ []) is-at is agrees good = absurd good
suffix-reads s front place components ended inside minus (dot ∷ b ∷ bs) is-at is agrees good =
    let more = rest-passes s bs (place + 1 + 1) (state_of ended (Some rules.Suffix) false) in
    let there : drop place s ≡ dot ∷ b ∷ bs = rw (is, is-at) (drop-append_seam front (dot ∷ b ∷ bs)) in
    record {
      shape = branch (taking rules.Suffix (Kind 4 ∷ Kind 5 ∷ [])) (dot ∷ []) (grown (branch (taking rules.SuffixByte []) (b ∷ []) shape.nothing) (grown (rest_shape bs) shape.nothing));
      spelled = ap (λ l. dot ∷ b ∷ l) (append-nil (spell (rest_shape bs)) ∙ rest-spelled bs);
      shaped = (
        record { byte = dot; is_byte = rw good.0 (omega arith); found = rw good.0 refl; takes = refl },
        ((record { byte = b; is_byte = good.1.0.0; found = rw good.1.0.1 refl; takes = refl }, tt), (rest-shaped bs good.1.1, tt)),
      );
      values = value.a_suffix (dot ∷ b ∷ bs) ∷ [];
      good = refl;
      state = state_of more.state.ended None false;
      unfolds = rw (more.unfolds, there) refl;
      agrees = agrees-later components more.state.ended place (place + length (dot ∷ b ∷ bs)) (omega arith) (rw more.same agrees);
      keeps = λ p low. ap (λ es. ended_at es p) more.same;
    }

-- ## A symbol

-- a path that can be spelled, and that has all its lifetimes bound, is read after any spelled beginning
pub press-path-kept : (s : List ℕ) (bound : ℕ) → length s ≤ greatest_u64 → (inside : Option Production) (minus : Bool) (path : tree.Path) → IsSpellable path → need path ≤ bound
    → Presses s bound inside minus (Kind 1) (press_path path) (λ values. values ≡ value.a_path path ∷ [])
press-path-kept s bound fits inside minus path good closed =
    path-presses s bound inside minus 1 path (spell_path path) fits refl closed (path-kept s bound fits inside minus 1 paths-1 path good closed)

abbrev pub other_values : Option tree.Path → List Value
other_values None = []
other_values (Some path) = value.a_path path ∷ []

other-kept : (s : List ℕ) → length s ≤ greatest_u64 → (inside : Option Production) (minus : Bool) (other : Option tree.Path) → IsClosedOther other
    → Presses s 0 inside minus (Kind 2) (press_other other) (λ values. values ≡ other_values other)
other-kept s fits inside minus None good = empty-presses s 0 inside minus 2 refl
other-kept s fits inside minus (Some path) good =
    path-presses s 0 inside minus 2 path (spell_path path) fits refl good.1 (path-kept s 0 fits inside minus 2 paths-2 path good.0 good.1)

symbol-means : (path : tree.Path) (other : Option tree.Path) (bytes : List ℕ) (at : At)
    → meaning rules.Symbol at (((value.a_path path ∷ []) ++ other_values other) ++ suffix_values bytes) ≡ plain at (value.a_symbol (record { path = path; instantiating = other; suffix = bytes }))
symbol-means path None [] at = refl
symbol-means path None (b ∷ bs) at = refl
symbol-means path (Some second) [] at = refl
symbol-means path (Some second) (b ∷ bs) at = refl

abbrev whole_shape : Shape → Shape → Shape → Shape
whole_shape a b c = branch (taking rules.Symbol (Byte 82 ∷ Kind 1 ∷ Kind 2 ∷ Kind 3 ∷ [])) (95 ∷ []) (grown (fixed 82) (grown a (grown b (grown c shape.nothing))))

-- the parts of a symbol are read together
symbol-joined : (s : List ℕ) (path : tree.Path) (other : Option tree.Path) (bytes : List ℕ) (a b c : Shape) (first second third : List ℕ) (after-first after-second after-third : State)
    → spell a ≡ first → spell b ≡ second → spell c ≡ third → s ≡ 95 ∷ 82 ∷ (first ++ (second ++ third))
    → unfold_tree (v0 s) 0 2 a (state_of [] (Some rules.Symbol) false) ≡ Ok (found (value.a_path path ∷ []) after-first)
    → unfold_tree (v0 s) 0 (2 + length first) b (state_of after-first.ended (Some rules.Symbol) false) ≡ Ok (found (other_values other) after-second)
    → unfold_tree (v0 s) 0 (2 + length first + length second) c (state_of after-second.ended (Some rules.Symbol) false) ≡ Ok (found (suffix_values bytes) after-third)
    → IsTree v0_table (Kind 1) a → IsTree v0_table (Kind 2) b → IsTree v0_table (Kind 3) c
    → IsReadAs s (record { path = path; instantiating = other; suffix = bytes })
symbol-joined s path other bytes a b c first second third after-first after-second after-third a-spelled b-spelled c-spelled is a-read b-read c-read a-shaped b-shaped c-shaped =
    record {
      shape = whole_shape a b c;
      shaped = (record { byte = 95; is_byte = omega arith; found = refl; takes = refl }, (refl, (a-shaped, (b-shaped, (c-shaped, tt)))));
      spelled = spelled;
      unfolds = rw (spelled, a-read, a-spelled, b-read, b-spelled, c-read, symbol-means path other bytes (record { symbol = s; place = 0; bound = 0; ended = after-third.ended })) refl;
    }
  where
    spelled : spell (whole_shape a b c) ≡ s
    spelled = rw (a-spelled, b-spelled, c-spelled) (ap (λ l. 95 ∷ 82 ∷ (first ++ (second ++ l))) (append-nil third) ∙ sym is)

pub symbol-kept : (symbol : tree.Symbol) → IsSpellableSymbol symbol → length (pressed symbol) ≤ greatest_u64 → IsReadAs (pressed symbol) symbol
symbol-kept symbol good fits =
    let s : List ℕ = pressed symbol in
    let p : Pressed = press_path symbol.path 2 [] in
    let o : Pressed = press_other symbol.instantiating (2 + length p.bytes) p.components in
    let nothing-yet : Agrees [] [] 2 = record { listed = tt; behind = λ q high. refl } in
    let a = press-path-kept s 0 fits (Some rules.Symbol) false symbol.path good.path.0 good.path.1 (95 ∷ 82 ∷ []) (o.bytes ++ symbol.suffix) 2 [] [] refl (omega arith) nothing-yet refl in
    let b = other-kept s fits (Some rules.Symbol) false symbol.instantiating good.other (95 ∷ 82 ∷ p.bytes) symbol.suffix (2 + length p.bytes) p.components a.state.ended
    (omega arith) (omega arith) a.agrees refl in
    let c = suffix-reads s (95 ∷ 82 ∷ (p.bytes ++ o.bytes)) (2 + length p.bytes + length o.bytes) o.components b.state.ended (Some rules.Symbol) false symbol.suffix
    (omega (arith, length-append p.bytes o.bytes)) (ap (λ l. 95 ∷ 82 ∷ l) (sym (append_assoc p.bytes o.bytes symbol.suffix))) b.agrees good.suffix in
    symbol-joined s symbol.path symbol.instantiating symbol.suffix a.shape b.shape c.shape p.bytes o.bytes symbol.suffix a.state b.state c.state a.spelled b.spelled c.spelled refl
    (a.unfolds ∙ ap (λ v. Ok (found v a.state)) a.good) (b.unfolds ∙ ap (λ v. Ok (found v b.state)) b.good) (c.unfolds ∙ ap (λ v. Ok (found v c.state)) c.good)
    a.shaped b.shaped c.shaped
