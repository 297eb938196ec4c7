-- Two readings that differ only where rules begin and close give a tree the same meaning if they begin and close each of
-- the tree's rules alike.
use Rattle.cpp_link.proofs.Basics.{◌≡◌, refl, sym, ◌∙◌, ap, ℕ, ◌+◌, ◌<◌, List, [], ◌∷◌, ◌++◌, length, drop, Ok, Err, append_assoc, Result, drop-drop, drop-append_seam, Refusal, Rule, Sym, Kind, Name, Number, Byte, Table, symbols_of, IsSymbol, AreSymbols, Tree, Forest, branch, empty, token, fixed, nothing, grown, spell, spell_all, IsTree, AreTrees, Found, Open, Reading, ◌>>=◌, alone, standing, unfold_tree, unfold_forest}
use Rattle.sym_link.specs.Sound.{IsSound}

-- what follows a result is the same if it is the same for the result's value
pub bind_known : {A B : Type 0} (m : Result A Refusal) (f g : A → Result B Refusal) → ((x : A) → m ≡ Ok x → f x ≡ g x) → (m >>= f) ≡ (m >>= g)
bind_known (Ok x) f g same = same x refl
bind_known (Err e) f g same = refl

-- a reading with another way to begin and close rules
abbrev pub changed : {V S C : Type 0} → Reading V S C → (begin : Open S C → Forest → Result S Refusal)
    → (close : Open S C → List V → S → Result (Found V S) Refusal) → Reading V S C
changed reading begin close =
    record { rowless = reading.rowless; token = reading.token; begin = begin; between = reading.between; close = close }

-- Each rule of the grammar in the symbol begins as the reading says.
abbrev pub BeginsSame : {V S C : Type 0} → Table → List ℕ → Reading V S C → (Open S C → Forest → Result S Refusal) → Type 0
BeginsSame {S = S} {C = C} g s reading begin =
    (kind : ℕ) (rule : Rule) (taken : List ℕ) (parts : Forest) (place : ℕ) (context : C) (before : S) (behind : List ℕ)
    → kind < g.kinds → IsTree g (Kind kind) (branch rule taken parts) → drop place s ≡ taken ++ (spell_all parts ++ behind)
    → begin (standing rule taken place context before) parts ≡ reading.begin (standing rule taken place context before) parts

-- Each rule of the grammar in the symbol is closed to what the reading closes it to.
abbrev pub ClosesSame : {V S C : Type 0} → Table → List ℕ → Reading V S C → (Open S C → List V → S → Result (Found V S) Refusal) → Type 0
ClosesSame {V = V} {S = S} {C = C} g s reading close =
    (kind : ℕ) (rule : Rule) (taken : List ℕ) (parts : Forest) (place : ℕ) (context : C) (before begun : S) (inner : Found (List V) S) (behind : List ℕ)
    → kind < g.kinds → IsTree g (Kind kind) (branch rule taken parts) → drop place s ≡ taken ++ (spell_all parts ++ behind)
    → reading.begin (standing rule taken place context before) parts ≡ Ok begun
    → unfold_forest reading (standing rule taken place context before) [] (place + length taken) parts begun ≡ Ok inner
    → close (standing rule taken place context before) inner.value inner.state ≡ reading.close (standing rule taken place context before) inner.value inner.state

behind_front : (s front rest : List ℕ) (place : ℕ) → drop place s ≡ front ++ rest → drop (place + length front) s ≡ rest
behind_front s front rest place at = sym (drop-drop (length front) place s) ∙ ap (λ x. drop (length front) x) at ∙ drop-append_seam front rest

module _ {V S C : Type 0} (g : Table) (sound : IsSound g) (s : List ℕ) (reading : Reading V S C) (begin : Open S C → Forest → Result S Refusal)
    (close : Open S C → List V → S → Result (Found V S) Refusal) (begins : BeginsSame g s reading begin) (closes : ClosesSame g s reading close) where
  mutual
    pub tree_same : (symbol : Sym) (context : C) (place : ℕ) (tree : Tree) (state : S) (behind : List ℕ) → IsSymbol g symbol → IsTree g symbol tree
        → drop place s ≡ spell tree ++ behind
        → unfold_tree (changed reading begin close) context place tree state ≡ unfold_tree reading context place tree state
    tree_same (Kind kind) context place (branch rule taken parts) state behind known is at =
        let o = standing rule taken place context state in
        let here : drop place s ≡ taken ++ (spell_all parts ++ behind) = at ∙ append_assoc taken (spell_all parts) behind in
        let symbols : AreSymbols g (symbols_of rule) = sound.symbols kind is.0.byte rule known is.0.is_byte is.0.found in
        ap (λ m. m >>= λ begun. unfold_forest (changed reading begin close) o [] (place + length taken) parts begun >>= λ inner. close o inner.value inner.state >>= alone)
        (begins kind rule taken parts place context state behind known is here)
        ∙ bind_known (reading.begin o parts) _ _ (λ begun is_begun.
        ap (λ m. m >>= λ inner. close o inner.value inner.state >>= alone)
        (forest_same (symbols_of rule) o [] (place + length taken) parts begun behind symbols is.1 (behind_front s taken (spell_all parts ++ behind) place here))
        ∙ bind_known (unfold_forest reading o [] (place + length taken) parts begun) _ _ (λ inner is_inner.
        ap (λ m. m >>= alone) (closes kind rule taken parts place context state begun inner behind known is here is_begun is_inner)))
    tree_same symbol context place empty state behind known is at = refl
    tree_same symbol context place (token t) state behind known is at = refl
    tree_same symbol context place (fixed byte) state behind known is at = refl
    tree_same Name context place (branch rule taken parts) state behind known is at = absurd is
    tree_same (Number kind) context place (branch rule taken parts) state behind known is at = absurd is
    tree_same (Byte b) context place (branch rule taken parts) state behind known is at = absurd is

    forest_same : (symbols : List Sym) (rule : Open S C) (known : List V) (place : ℕ) (parts : Forest) (state : S) (behind : List ℕ) → AreSymbols g symbols → AreTrees g symbols parts
        → drop place s ≡ spell_all parts ++ behind
        → unfold_forest (changed reading begin close) rule known place parts state ≡ unfold_forest reading rule known place parts state
    forest_same symbols rule known place nothing state behind are is at = refl
    forest_same (symbol ∷ symbols) rule known place (grown first rest) state behind are is at =
        let here : drop place s ≡ spell first ++ (spell_all rest ++ behind) = at ∙ append_assoc (spell first) (spell_all rest) behind in
        bind_known (reading.between rule known state) _ _ (λ next is_next.
        ap (λ m. m >>= λ part. unfold_forest (changed reading begin close) rule (next.values ++ part.value) (place + length (spell first)) rest part.state)
        (tree_same symbol next.context place first next.state (spell_all rest ++ behind) are.0 is.0 here)
        ∙ bind_known (unfold_tree reading next.context place first next.state) _ _ (λ part is_part.
        forest_same symbols rule (next.values ++ part.value) (place + length (spell first)) rest part.state behind are.1 is.1
        (behind_front s (spell first) (spell_all rest ++ behind) place here)))
    forest_same [] rule known place (grown first rest) state behind are is at = absurd is
