-- The moves of whole symbols: their beginning, the instantiating crate, and their suffix.
use Rattle.rust_direct.proofs.Basics.{◌≡◌, ℕ, ◌+◌, ◌<◌, ◌≤◌, List, [], ◌∷◌, ◌++◌, length, drop, take, true, Option, Some, None, Ok, refl, ap, sym, subst, ◌∙◌, arith, append-nil, if◌then◌else◌, AllByRecursion, take-append_seam, take_all, length-append, length-drop, nat_tests, Rule, Kind, Byte, TakesRule, standing, StandsFor, opened, StandsAt, Production, SYMBOL, PATH, OTHER_PATH, SUFFIX, SUFFIX_BYTE, SUFFIX_REST, v0_table, taking, v0_mangled, Value, State, a_path, a_suffix, suffix_rest, a_symbol, at_first, rust_language, Opened, Comes, ComesAll, Expects, within, behind, is_suffix_byte, IsSuffix, EndsSymbol, OtherGoesOn}
use Rattle.sym_link.specs.Reading.{Open}
use Rattle.sym_direct.specs.Holes as direct
use Rattle.sym_direct.proofs.Moves as moves
use Rattle.rust_tree.specs.Symbol as tree
use Rattle.rust_direct.proofs.Moves.{comes-moved}

-- ## Suffixes

abbrev rest_rule : Rule
rest_rule = taking Production.SuffixByte (Kind SUFFIX_REST ∷ [])

abbrev byte_rule : Rule
byte_rule = taking Production.SuffixByte []

abbrev suffix_rule : Rule
suffix_rule = taking Production.Suffix (Kind SUFFIX_BYTE ∷ Kind SUFFIX_REST ∷ [])

-- a byte of a suffix is at most 255
suffix-small : (b : ℕ) → is_suffix_byte b ≡ true → b < 256
unfolding is_suffix_byte
suffix-small b is = grind (arith, nat_tests)

takes-rest : (b : ℕ) → is_suffix_byte b ≡ true → TakesRule v0_table SUFFIX_REST rest_rule (b ∷ [])
unfolding is_suffix_byte
takes-rest b is = record { byte = b; is_byte = suffix-small b is; found = ap (λ x. if x then Some rest_rule else None) is; takes = refl }

takes-byte : (b : ℕ) → is_suffix_byte b ≡ true → TakesRule v0_table SUFFIX_BYTE byte_rule (b ∷ [])
unfolding is_suffix_byte
takes-byte b is = record { byte = b; is_byte = suffix-small b is; found = ap (λ x. if x then Some byte_rule else None) is; takes = refl }

takes-suffix : TakesRule v0_table SUFFIX suffix_rule (46 ∷ [])
takes-suffix = record { byte = 46; is_byte = omega arith; found = refl; takes = refl }

-- the rest of a suffix is read, with or without a value
abbrev RestComes : (s : List ℕ) → List Opened → (at : ℕ) → State → Type 0
RestComes s os at st = (vs : List Value) × ComesAll s os vs at st

-- bytes of a suffix are read, maybe none
rest-comes : (s : List ℕ) (bs : List ℕ) (os : List Opened) (at : ℕ) (st : State) → AllByRecursion (λ c. is_suffix_byte c ≡ true) bs
    → Expects s SUFFIX_REST os at st → StandsAt s at bs → (now : State) × RestComes s os (at + length bs) now
rest-comes s [] os at st each expects stands =
    (st, ([], comes-moved s os [] at (at + 0) st (omega arith) (moves.expects-empty rust_language s SUFFIX_REST 0 os at st expects refl)))
rest-comes s (b ∷ bs) os at st each expects stands =
    let rule = standing rest_rule (b ∷ []) at 0 st in
    let places = moves.stands-split s at (b ∷ []) bs stands in
    let awaits = moves.first-of rust_language s SUFFIX_REST rest_rule (b ∷ []) 0 os at st st (Kind SUFFIX_REST) []
    (record { context = 0; values = []; state = within Production.SuffixByte st }) (takes-rest b each.0) (λ f. refl) refl refl expects places.0 in
    let more = rest-comes s bs (opened rule [] [] ∷ os) (at + 1) (within Production.SuffixByte st) each.1 awaits places.1 in (
      behind more.0,
      (
        suffix_rest ∷ [],
        comes-moved s os (suffix_rest ∷ []) (at + 1 + length bs) (at + length (b ∷ bs)) (behind more.0) (omega arith)
            (moves.last-of rust_language s rule [] more.1.0 os (at + 1 + length bs) more.0 suffix_rest (behind more.0) refl more.1.1),
      ),
    )

-- a suffix comes
suffix-comes : (s : List ℕ) (suffix : List ℕ) (os : List Opened) (at : ℕ) (st : State) → IsSuffix suffix → Expects s SUFFIX os at st
    → StandsAt s at suffix → (now : State) × Comes s os (a_suffix (drop at s)) (at + length suffix) now
suffix-comes s [] os at st is expects stands = absurd is
suffix-comes s (d ∷ []) os at st is expects stands = absurd is
suffix-comes s (d ∷ b ∷ bs) os at st is expects stands =
    let p = Production.Suffix in
    let dot = moves.stands-split s at (d ∷ []) (b ∷ bs) stands in
    let first = moves.stands-split s (at + 1) (b ∷ []) bs dot.1 in
    let rule = standing suffix_rule (46 ∷ []) at 0 st in
    let awaits = moves.first-of rust_language s SUFFIX suffix_rule (46 ∷ []) 0 os at st st (Kind SUFFIX_BYTE) (Kind SUFFIX_REST ∷ [])
    (record { context = 0; values = []; state = within p st }) takes-suffix (λ f. refl) refl refl expects
    (subst (λ c. StandsAt s at (c ∷ [])) is.0 dot.0) in
    let byte = moves.letter-comes rust_language s SUFFIX_BYTE byte_rule (b ∷ []) 0 (opened rule [] (Kind SUFFIX_REST ∷ []) ∷ os) (at + 1)
    (within p st) (within p st) suffix_rest (behind st) (takes-byte b is.1.0) (λ f. refl) refl refl awaits first.0 in
    let rest = moves.next-of rust_language s rule [] (suffix_rest ∷ []) (Kind SUFFIX_REST) [] os (at + 1 + 1) (behind st)
    (record { context = 0; values = suffix_rest ∷ []; state = within p st }) refl byte in
    let more = rest-comes s bs (opened rule (suffix_rest ∷ []) [] ∷ os) (at + 1 + 1) (within p st) is.1.1 rest first.1 in (
      behind more.0,
      comes-moved s os (a_suffix (drop at s) ∷ []) (at + 1 + 1 + length bs) (at + length (d ∷ b ∷ bs)) (behind more.0) (omega arith)
          (moves.last-of rust_language s rule (suffix_rest ∷ []) more.1.0 os (at + 1 + 1 + length bs) more.0 (a_suffix (drop at s)) (behind more.0)
          refl more.1.1),
    )

-- ## Symbols

abbrev symbol_rule : Rule
symbol_rule = taking Production.Symbol (Byte 82 ∷ Kind PATH ∷ Kind OTHER_PATH ∷ Kind SUFFIX ∷ [])

takes-symbol : TakesRule v0_table SYMBOL symbol_rule (95 ∷ [])
takes-symbol = record { byte = 95; is_byte = omega arith; found = refl; takes = refl }

-- a symbol is expected at the front
symbol-expected : (s : List ℕ) → Expects s SYMBOL [] 0 at_first
symbol-expected s bytes vs end reads stands =
    let front : take (0 + length bytes) s ≡ bytes =
    ap (λ n. take n s) (zero-add (length bytes)) ∙ ap (take (length bytes)) stands.1 ∙ take-append_seam bytes stands.0 in
    subst (λ l. direct.Reads rust_language s (Kind SYMBOL) 0 0 l at_first vs end) (sym front) reads
  where
    zero-add : (n : ℕ) → 0 + n ≡ n
    zero-add n = omega arith

-- what was read is the whole symbol
symbol-read : (s : List ℕ) (y : tree.Symbol) (end : State) → Comes s [] (a_symbol y) (length s) end → StandsFor v0_mangled s (Ok y)
symbol-read s y end reads =
    let whole = reads.spelled ∙ take_all (length s) s (omega arith) in
    (reads.shape, reads.shaped, whole, sym (rw (whole, reads.unfolds) refl))

abbrev open_symbol : Open State ℕ
open_symbol = standing symbol_rule (95 ∷ []) 0 0 at_first

-- a symbol with these values closes as this symbol
abbrev Closes : (s : List ℕ) → (known vs : List Value) → tree.Symbol → Type 0
Closes s known vs y =
    (now : State) → (rust_language.reading s).close open_symbol (known ++ vs) now ≡ Ok (record { value = a_symbol y; state = behind now })

-- the paths of a symbol are read, and its suffix is expected
symbol-ends : (s : List ℕ) (known : List Value) (p : tree.Path) (other : Option tree.Path) (at : ℕ) (st : State)
    → Closes s known [] (record { path = p; instantiating = other; suffix = [] })
    → ((suffix : List ℕ) → Closes s known (a_suffix suffix ∷ []) (record { path = p; instantiating = other; suffix = suffix }))
    → Expects s SUFFIX (opened open_symbol known [] ∷ []) at st → EndsSymbol s p at
symbol-ends s known p other at st bare suffixed expects = record {
  ends = λ here. (
    other,
    symbol-read s (record { path = p; instantiating = other; suffix = [] }) (behind st)
        (moves.last-of rust_language s open_symbol known [] [] (length s) st
        (a_symbol (record { path = p; instantiating = other; suffix = [] })) (behind st) (bare st)
        (comes-moved s (opened open_symbol known [] ∷ []) [] at (length s) st here
        (moves.expects-empty rust_language s SUFFIX 0 (opened open_symbol known [] ∷ []) at st expects refl))),
  );
  ends_in = λ suffix there whole is.
      let comes = suffix-comes s suffix (opened open_symbol known [] ∷ []) at st is expects there in
      let same : drop at s ≡ suffix = all-of suffix (drop at s) there.0 there.1 (omega (arith, whole, length-drop at s)) in (
        other,
        symbol-read s (record { path = p; instantiating = other; suffix = suffix }) (behind comes.0)
            (moves.last-of rust_language s open_symbol known (a_suffix suffix ∷ []) [] (length s) comes.0
            (a_symbol (record { path = p; instantiating = other; suffix = suffix })) (behind comes.0) (suffixed suffix comes.0)
            (comes-moved s (opened open_symbol known [] ∷ []) (a_suffix suffix ∷ []) (at + length suffix) (length s) comes.0 whole
            (subst (λ l. Comes s (opened open_symbol known [] ∷ []) (a_suffix l) (at + length suffix) comes.0) same comes.1))),
      );
}
  where
    none-behind : (rest : List ℕ) → length rest ≡ 0 → rest ≡ []
    none-behind [] e = refl
    none-behind (b ∷ bs) e = absurd (omega (arith, e))

    all-of : (suffix here rest : List ℕ) → here ≡ suffix ++ rest → length here ≤ length suffix → here ≡ suffix
    all-of suffix here rest e few =
        e ∙ ap (λ l. suffix ++ l) (none-behind rest (omega (arith, few, ap length e, length-append suffix rest))) ∙ append-nil suffix

-- the path of a symbol is expected after _R
pub symbol-starts : (s : List ℕ) → StandsAt s 0 (95 ∷ 82 ∷ [])
    → (inner : List Opened) × Expects s PATH inner 2 (within Production.Symbol at_first)
    × ((p : tree.Path) (at : ℕ) (st : State) → Comes s inner (a_path p) at st → OtherGoesOn s p at st)
symbol-starts s stands =
    let p = Production.Symbol in
    let places = moves.stands-split s 0 (95 ∷ []) (82 ∷ []) stands in
    let todo = Kind PATH ∷ Kind OTHER_PATH ∷ Kind SUFFIX ∷ [] in
    let awaits = moves.first-of rust_language s SYMBOL symbol_rule (95 ∷ []) 0 [] 0 at_first at_first (Byte 82) todo
    (record { context = 0; values = []; state = within p at_first }) takes-symbol (λ f. refl) refl refl (symbol-expected s) places.0 in
    let letter = moves.expects-byte rust_language s 82 0 (opened open_symbol [] todo ∷ []) 1 (within p at_first) awaits places.1 in
    let path_ = moves.next-of rust_language s open_symbol [] [] (Kind PATH) (Kind OTHER_PATH ∷ Kind SUFFIX ∷ []) [] 2 (within p at_first)
    (record { context = 0; values = []; state = within p at_first }) refl letter in
    (opened open_symbol [] (Kind OTHER_PATH ∷ Kind SUFFIX ∷ []) ∷ [], path_, goes)
  where
    goes : (p : tree.Path) (at : ℕ) (st : State) → Comes s (opened open_symbol [] (Kind OTHER_PATH ∷ Kind SUFFIX ∷ []) ∷ []) (a_path p) at st
        → OtherGoesOn s p at st
    goes p at st comes =
        let inner = opened open_symbol (a_path p ∷ []) (Kind SUFFIX ∷ []) ∷ [] in
        let other : Expects s OTHER_PATH inner at (within Production.Symbol st) =
        moves.next-of rust_language s open_symbol [] (a_path p ∷ []) (Kind OTHER_PATH) (Kind SUFFIX ∷ []) [] at st
        (record { context = 0; values = a_path p ∷ []; state = within Production.Symbol st }) refl comes in
        record {
          inner = inner;
          awaits = other;
          none = symbol-ends s (a_path p ∷ []) p None at (within Production.Symbol (within Production.Symbol st))
              (λ now. refl) (λ suffix now. refl)
              (moves.next-of rust_language s open_symbol (a_path p ∷ []) [] (Kind SUFFIX) [] [] at (within Production.Symbol st)
              (record { context = 0; values = a_path p ∷ []; state = within Production.Symbol st }) refl
              (moves.expects-empty rust_language s OTHER_PATH 0 inner at (within Production.Symbol st) other refl));
          some = λ q here now came.
              symbol-ends s (a_path p ∷ a_path q ∷ []) p (Some q) here (within Production.Symbol now)
              (λ now. refl) (λ suffix now. refl)
              (moves.next-of rust_language s open_symbol (a_path p ∷ []) (a_path q ∷ []) (Kind SUFFIX) [] [] here now
              (record { context = 0; values = a_path p ∷ a_path q ∷ []; state = within Production.Symbol now }) refl came);
        }
