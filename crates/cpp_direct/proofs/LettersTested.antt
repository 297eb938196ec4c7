-- A test that is computed for each item of a list holds of any one item: letters with texts, codes of two letters,
-- operators' codes.
use Rattle.cpp_direct.proofs.Basics.{close_by, ◌≡◌, ℕ, ◌<◌, List, [], ◌∷◌, Bool, true, false, ◌||◌, ◌&&◌, nat_eq, slice_get, Option, Some, None, refl, ap, sym, subst, ◌∙◌, ltb, ◌≢◌, ◌⊎◌, inl, inr, Ok, arith, false≢true, eqb-true, ltb-true, and_parts, alternatives, among, between, builtin_texts, choose, close, Continuation, Forest, found, in_ranges, is_chain, is_in, Kind, look_up, meaning, Naming, number_of, number_of_kind, opening, Operation, operator, operator_or_literal, operator_texts, parts_of, pick, Production, productions, same_bytes, integer_letters, State, Around, letter, piece, letter_of, part, same_choice, kept, Sym, unfolding_behind}

-- each of the bytes passes a test
unfoldable pub each_passes : (ℕ → Bool) → List ℕ → Bool
each_passes test [] = true
each_passes test (c ∷ cs) = test c && each_passes test cs

-- each byte of the list passes the test
pub tested : (cs : List ℕ) (test : ℕ → Bool) → each_passes test cs ≡ true → (byte : ℕ) → among cs byte ≡ true → test byte ≡ true
unfolding among each_passes
tested [] test all byte is = absurd (false≢true is)
tested (c ∷ cs) test all byte is =
    let both = and_parts (test c) (each_passes test cs) all in
    go (nat_eq byte c) refl is (tested cs test both.1 byte) both.0
  where
    go : (b : Bool) → nat_eq byte c ≡ b → b || among cs byte ≡ true → (among cs byte ≡ true → test byte ≡ true) → test c ≡ true → test byte ≡ true
    go true same h later here = subst (λ n. test n ≡ true) (sym (eqb-true byte c same)) here
    go false other h later here = later h

-- a byte is below 256
unfoldable pub is_small : ℕ → Bool
is_small byte = ltb byte 256

pub small : (byte : ℕ) → is_small byte ≡ true → byte < 256
unfolding is_small
small byte is = ltb-true byte 256 is

-- the production that is taken is this one
unfoldable pub takes : Production → Option Production → Bool
takes p None = false
takes p (Some q) = nat_eq (number_of q) (number_of p)

numbered : (p : Production) → slice_get productions (number_of p) ≡ Some p
unfolding productions number_of
numbered Production.Mark = refl
numbered (Production.Operation Operation.ExpressionC) = refl
numbered _ = refl

pub taken : (p : Production) (o : Option Production) → takes p o ≡ true → o ≡ Some p
unfolding takes
taken p None is = absurd (false≢true is)
taken p (Some q) is = sym (numbered q) ∙ ap (slice_get productions) (eqb-true (number_of q) (number_of p) is) ∙ numbered p

-- ## Letters that have texts

-- a text isn't empty
unfoldable pub is_filled : List ℕ → Bool
is_filled [] = false
is_filled (b ∷ bs) = true

pub filled : (xs : List ℕ) → is_filled xs ≡ true → xs ≢ []
unfolding is_filled
filled [] is = absurd (false≢true is)
filled (b ∷ bs) is = λ e. cc e

-- The letter of an integer's type has a text.
pub integer-there : (code : ℕ) → among integer_letters code ≡ true → look_up (code ∷ []) builtin_texts ≢ []
unfolding look_up builtin_texts same_bytes each_passes is_filled
integer-there code is = filled (look_up (code ∷ []) builtin_texts) (tested integer_letters (λ b. is_filled (look_up (b ∷ []) builtin_texts)) refl code is)

-- ## Codes of two letters

-- a code of two letters passes a test
unfoldable pub is_pair : (ℕ → ℕ → Bool) → List ℕ → Bool
is_pair test (c ∷ d ∷ []) = test c d
is_pair test _ = true

-- each code of a table passes a test
unfoldable pub codes_pass : (List ℕ → Bool) → List Naming → Bool
codes_pass test [] = true
codes_pass test (n ∷ rest) = test n.code && codes_pass test rest

same-code : (a b : List ℕ) → same_bytes a b ≡ true → a ≡ b
unfolding same_bytes
same-code [] [] same = refl
same-code (x ∷ xs) (y ∷ ys) same = let both = and_parts (nat_eq x y) (same_bytes xs ys) same in cc (eqb-true x y both.0, same-code xs ys both.1)
same-code [] (y ∷ ys) same = absurd (false≢true same)
same-code (x ∷ xs) [] same = absurd (false≢true same)

-- A code that has a text passes the test that all codes of its table pass.
pub code-listed : (table : List Naming) (test : List ℕ → Bool) (code : List ℕ) → codes_pass test table ≡ true → look_up code table ≢ [] → test code ≡ true
unfolding look_up codes_pass
code-listed [] test code all has = absurd (has refl)
code-listed (n ∷ rest) test code all has =
    let both = and_parts (test n.code) (codes_pass test rest) all in
    go (same_bytes code n.code) refl has (code-listed rest test code both.1) both.0
  where
    go : (b : Bool) → same_bytes code n.code ≡ b → ◌≢◌ {A = List ℕ} (elim b [ true ↦ n.text | false ↦ look_up code rest ]) []
        → (look_up code rest ≢ [] → test code ≡ true) → test n.code ≡ true → test code ≡ true
    go true same filled later passes = subst (λ c. test c ≡ true) (sym (same-code code n.code same)) passes
    go false same filled later passes = later filled

-- ## The productions of operators' first letters

-- the kind of the second letter, after the production that takes the first
unfoldable second_kind : Production → Option Kind
second_kind Production.OperatorN = Some Kind.OperatorAfterN
second_kind Production.OperatorD = Some Kind.OperatorAfterD
second_kind Production.OperatorA = Some Kind.OperatorAfterA
second_kind Production.OperatorP = Some Kind.OperatorAfterP
second_kind Production.OperatorC = Some Kind.OperatorAfterC
second_kind Production.OperatorM = Some Kind.OperatorAfterM
second_kind Production.OperatorR = Some Kind.OperatorAfterR
second_kind Production.OperatorO = Some Kind.OperatorAfterO
second_kind Production.OperatorE = Some Kind.OperatorAfterE
second_kind Production.OperatorL = Some Kind.OperatorAfterL
second_kind Production.OperatorS = Some Kind.OperatorAfterS
second_kind Production.OperatorI = Some Kind.OperatorAfterI
second_kind Production.OperatorG = Some Kind.OperatorAfterG
second_kind _ = None

-- A production takes the first letter of an operator, and the production's one part is of the kind of the second
-- letter.
pub record TakesFirst (p : Production) (kind : Kind) : Type 0 where
  pub parts : parts_of p ≡ Sym.Kind (number_of_kind kind) ∷ []
  pub chain : is_chain p ≡ false
  pub begins : (f : Forest) (at : ℕ) (st : State) → opening p f at st ≡ Ok st
  pub passes : (around : Around) (at : ℕ) (st : State)
      → ◌≡◌ {A = Continuation} (between p around at [] st) (Ok (record { context = around; values = []; state = st }))
  pub closes : (is_wide : Bool) (first second : ℕ) (around : Around) (at : ℕ) (before st : State)
      → close_by p is_wide first around at before (letter second ∷ []) st ≡ Ok (found (piece (operator first second)) st)

first-so : (p : Production) {kind other : Kind} → Some kind ≡ Some other → parts_of p ≡ Sym.Kind (number_of_kind kind) ∷ [] → is_chain p ≡ false
    → ((f : Forest) (at : ℕ) (st : State) → opening p f at st ≡ Ok st) → ((around : Around) (at : ℕ) (st : State)
    → ◌≡◌ {A = Continuation} (between p around at [] st) (Ok (record { context = around; values = []; state = st })))
    → ((is_wide : Bool) (first second : ℕ) (around : Around) (at : ℕ) (before st : State)
    → close_by p is_wide first around at before (letter second ∷ []) st ≡ Ok (found (piece (operator first second)) st)) → TakesFirst p other
first-so p {kind = kind} {other = other} same parts chain begins passes closes =
    subst (λ k. TakesFirst p k) (cc same) (record { parts = parts; chain = chain; begins = begins; passes = passes; closes = closes })

takes-first : (p : Production) (kind : Kind) → second_kind p ≡ Some kind → TakesFirst p kind
unfolding second_kind number_of_kind parts_of is_chain opening between close unfolding_behind meaning operator_or_literal letter_of part
takes-first Production.OperatorN kind is = first-so Production.OperatorN is refl refl (λ f at st. refl) (λ a at st. refl) (λ w b c a at d st. refl)
takes-first Production.OperatorD kind is = first-so Production.OperatorD is refl refl (λ f at st. refl) (λ a at st. refl) (λ w b c a at d st. refl)
takes-first Production.OperatorA kind is = first-so Production.OperatorA is refl refl (λ f at st. refl) (λ a at st. refl) (λ w b c a at d st. refl)
takes-first Production.OperatorP kind is = first-so Production.OperatorP is refl refl (λ f at st. refl) (λ a at st. refl) (λ w b c a at d st. refl)
takes-first Production.OperatorC kind is = first-so Production.OperatorC is refl refl (λ f at st. refl) (λ a at st. refl) (λ w b c a at d st. refl)
takes-first Production.OperatorM kind is = first-so Production.OperatorM is refl refl (λ f at st. refl) (λ a at st. refl) (λ w b c a at d st. refl)
takes-first Production.OperatorR kind is = first-so Production.OperatorR is refl refl (λ f at st. refl) (λ a at st. refl) (λ w b c a at d st. refl)
takes-first Production.OperatorO kind is = first-so Production.OperatorO is refl refl (λ f at st. refl) (λ a at st. refl) (λ w b c a at d st. refl)
takes-first Production.OperatorE kind is = first-so Production.OperatorE is refl refl (λ f at st. refl) (λ a at st. refl) (λ w b c a at d st. refl)
takes-first Production.OperatorL kind is = first-so Production.OperatorL is refl refl (λ f at st. refl) (λ a at st. refl) (λ w b c a at d st. refl)
takes-first Production.OperatorS kind is = first-so Production.OperatorS is refl refl (λ f at st. refl) (λ a at st. refl) (λ w b c a at d st. refl)
takes-first Production.OperatorI kind is = first-so Production.OperatorI is refl refl (λ f at st. refl) (λ a at st. refl) (λ w b c a at d st. refl)
takes-first Production.OperatorG kind is = first-so Production.OperatorG is refl refl (λ f at st. refl) (λ a at st. refl) (λ w b c a at d st. refl)
takes-first (Production.Operation Operation.ExpressionC) kind is = cc is
takes-first _ kind is = cc is

-- ## Codes

is_mark : Option Production → Bool
is_mark (Some Production.Mark) = true
is_mark _ = false

mark-is : (o : Option Production) → is_mark o ≡ true → o ≡ Some Production.Mark
unfolding is_mark
mark-is (Some Production.Mark) is = refl
mark-is (Some _) is = absurd (false≢true is)
mark-is None is = absurd (false≢true is)

is_second : Option Kind → ℕ → Bool
is_second (Some kind) second = is_mark (choose kind second)
is_second None second = false

is_code_by : Option Production → ℕ → Bool
is_code_by (Some p) second = is_second (second_kind p) second
is_code_by None second = false

is_byte : ℕ → Bool
is_byte b = ltb 0 b && ltb b 256

byte-is : (b : ℕ) → is_byte b ≡ true → (b < 256) × (b ≢ 0)
unfolding is_byte
byte-is b is =
    let both = and_parts (ltb 0 b) (ltb b 256) is in
    let more : 0 < b = ltb-true 0 b both.0 in
    (ltb-true b 256 both.1, λ e. omega (arith, e, more))

-- within a nested name, an operator that begins with a c has its own kind, and any other one is chosen as elsewhere
is_component : ℕ → ℕ → Bool
is_component first second = (nat_eq first 99 && is_mark (choose Kind.OperatorAfterC second)) || same_choice (choose Kind.Operator first) (choose Kind.OtherOperator first)

-- two letters that are the code of an operator
is_code : ℕ → ℕ → Bool
is_code first second = ((is_byte first && is_byte second) && is_code_by (choose Kind.Operator first) second) && is_component first second

-- The two letters are read as the code of an operator.
pub record IsOperator (first second : ℕ) : Type 0 where
  pub production : Production
  pub kind : Kind
  pub takes : TakesFirst production kind
  pub small : first < 256
  pub small_second : second < 256
  pub first_filled : first ≢ 0
  pub second_filled : second ≢ 0
  pub chosen : choose Kind.Operator first ≡ Some production
  pub marked : choose kind second ≡ Some Production.Mark
  pub component : ((first ≡ 99) × (choose Kind.OperatorAfterC second ≡ Some Production.Mark)) ⊎ (choose Kind.OtherOperator first ≡ Some production)

read-so : (first second : ℕ) → is_code first second ≡ true → IsOperator first second
unfolding is_code is_code_by is_second is_component
read-so first second is =
    let all = and_parts ((is_byte first && is_byte second) && is_code_by (choose Kind.Operator first) second) (is_component first second) is in
    let both = and_parts (is_byte first && is_byte second) (is_code_by (choose Kind.Operator first) second) all.0 in
    let bytes = and_parts (is_byte first) (is_byte second) both.0 in
    by-first (choose Kind.Operator first) refl both.1 (byte-is first bytes.0) (byte-is second bytes.1) all.1
  where
    within : (p : Production) → choose Kind.Operator first ≡ Some p → (a b : Bool) → nat_eq first 99 && is_mark (choose Kind.OperatorAfterC second) ≡ a
        → same_choice (choose Kind.Operator first) (choose Kind.OtherOperator first) ≡ b → (a || b) ≡ true
        → ((first ≡ 99) × (choose Kind.OperatorAfterC second ≡ Some Production.Mark)) ⊎ (choose Kind.OtherOperator first ≡ Some p)
    within p chosen true b c other h =
        let both = and_parts (nat_eq first 99) (is_mark (choose Kind.OperatorAfterC second)) c in
        inl (eqb-true first 99 both.0, mark-is (choose Kind.OperatorAfterC second) both.1)
    within p chosen false b c other h = inr (kept (choose Kind.Operator first) (choose Kind.OtherOperator first) p (other ∙ h) chosen)

    by-kind : (p : Production) → choose Kind.Operator first ≡ Some p → (k : Option Kind) → second_kind p ≡ k → is_second k second ≡ true
        → (first < 256) × (first ≢ 0) → (second < 256) × (second ≢ 0) → is_component first second ≡ true → IsOperator first second
    by-kind p chosen (Some kind) same is_one one two component = record {
      production = p;
      kind = kind;
      takes = takes-first p kind same;
      small = one.0;
      small_second = two.0;
      first_filled = one.1;
      second_filled = two.1;
      chosen = chosen;
      marked = mark-is (choose kind second) is_one;
      component = within p chosen (nat_eq first 99 && is_mark (choose Kind.OperatorAfterC second)) (same_choice (choose Kind.Operator first) (choose Kind.OtherOperator first)) refl refl component;
    }
    by-kind p chosen None same is_one one two component = absurd (false≢true is_one)

    by-first : (o : Option Production) → choose Kind.Operator first ≡ o → is_code_by o second ≡ true → (first < 256) × (first ≢ 0)
        → (second < 256) × (second ≢ 0) → is_component first second ≡ true → IsOperator first second
    by-first (Some p) chosen is_one one two component = by-kind p chosen (second_kind p) refl is_one one two component
    by-first None chosen is_one one two component = absurd (false≢true is_one)

-- Two letters with the text of an operator are read as its code.
pub operator-listed : (first second : ℕ) → look_up (first ∷ second ∷ []) operator_texts ≢ [] → IsOperator first second
unfolding operator_texts is_pair codes_pass is_code is_byte is_code_by is_second is_mark is_component same_choice number_of second_kind choose alternatives pick is_in in_ranges among
operator-listed first second has = read-so first second (code-listed operator_texts (is_pair (λ a b. is_code a b)) (first ∷ second ∷ []) refl has)
