-- The first byte of a tree.
use Rattle.sym_shape.proofs.Basics.{◌≡◌, ℕ, ◌<◌, true, false, inl, inr, List, [], ◌∷◌, ◌++◌, ap, ◌∙◌, subst, Some, is_some, cond, eq-eqb, or_left, or_right, and_from, Rule, Sym, Kind, Name, Number, Byte, Table, symbols_of, Tree, branch, empty, token, fixed, Forest, nothing, grown, spell, spell_all, IsTree, AreTrees, TakesRule, begins, can_be_empty, IsSymbol, AreSymbols, IsChain, IsLawful, first_of}
use Rattle.sym_shape.proofs.Lists.{split_nil, split_cons, true_or, one_taken, none_taken}
use Rattle.sym_shape.proofs.Tokens.{token_filled, token_first}

-- the byte that a rule takes itself
pub taken_eats : (g : Table) (k : ℕ) (rule : Rule) (taken : List ℕ) (h : TakesRule g k rule taken) → rule.eats ≡ true → taken ≡ h.byte ∷ []
taken_eats g k rule taken h e = h.takes ∙ ap (λ b. cond b (h.byte ∷ []) []) e

pub taken_chain : (g : Table) (k : ℕ) (rule : Rule) (taken : List ℕ) (h : TakesRule g k rule taken) → rule.eats ≡ false → taken ≡ []
taken_chain g k rule taken h e = h.takes ∙ ap (λ b. cond b (h.byte ∷ []) []) e

mutual
  -- only a kind may be empty
  pub tree_empty : (g : Table) (lawful : IsLawful g) (x : Sym) (t : Tree) → IsSymbol g x → IsTree g x t → spell t ≡ [] → can_be_empty g x ≡ true
  tree_empty g lawful (Kind k) (branch rule taken parts) known h e =
      let law = lawful.rule k h.0.byte rule known h.0.is_byte h.0.found in
      let parts_empty = split_nil taken (spell_all parts) e in
      elim (true_or rule.eats) [
        | inl eats ↦ (let one = taken_eats g k rule taken h.0 eats in cc)
        | inr chains ↦ absurd (chain_filled g lawful k rule (symbols_of rule) parts (law.chain chains) law.symbols h.1 parts_empty.1)
      ]
  tree_empty g lawful (Kind k) empty known h e = h
  tree_empty g lawful Name (token t) known h e = absurd (token_filled g Name t h e)
  tree_empty g lawful (Number kind) (token t) known h e = absurd (token_filled g (Number kind) t h e)
  tree_empty g lawful (Byte b) (fixed c) known h e = cc
  tree_empty g lawful x t known h e = absurd h

  pub chain_filled : (g : Table) (lawful : IsLawful g) (k : ℕ) (rule : Rule) (xs : List Sym) (parts : Forest) → IsChain g k rule xs → AreSymbols g xs → AreTrees g xs parts → spell_all parts ≡ [] → ⊥
  chain_filled g lawful k rule (x ∷ xs) (grown t parts) chain known h e =
      let first = tree_empty g lawful x t known.0 h.0 (split_nil (spell t) (spell_all parts) e).0 in
      cc (chain.0, first)
  chain_filled g lawful k rule [] parts chain known h e = chain
  chain_filled g lawful k rule (x ∷ xs) nothing chain known h e = h

mutual
  -- the first byte of a tree begins the tree's symbol
  pub tree_first : (g : Table) (lawful : IsLawful g) (x : Sym) (t : Tree) (b : ℕ) (w : List ℕ) → IsSymbol g x → IsTree g x t → spell t ≡ b ∷ w → (b < 256) × (begins g x b ≡ true)
  tree_first g lawful (Kind k) (branch rule taken parts) b w known h e =
      let law = lawful.rule k h.0.byte rule known h.0.is_byte h.0.found in
      elim (true_or rule.eats) [
        | inl eats ↦ (
            let same = one_taken taken h.0.byte (spell_all parts) b w (taken_eats g k rule taken h.0 eats) e in
            (subst (λ v. v < 256) same.0 h.0.is_byte, ap is_some (subst (λ v. g.rule k v ≡ Some rule) same.0 h.0.found)))
        | inr chains ↦ (
            let found = chain_first g lawful k rule (symbols_of rule) parts b w (law.chain chains) law.symbols h.1 (none_taken taken (spell_all parts) (b ∷ w) (taken_chain g k rule taken h.0 chains) e) in
            (found.0, ap is_some found.1))
      ]
  tree_first g lawful (Kind k) empty b w known h e = cc
  tree_first g lawful Name (token t) b w known h e = token_first g Name t b w h e
  tree_first g lawful (Number kind) (token t) b w known h e = token_first g (Number kind) t b w h e
  tree_first g lawful (Byte c) (fixed d) b w known h e =
      let same : c ≡ b = cc in
      (subst (λ v. v < 256) same known, eq-eqb c b same)
  tree_first g lawful x t b w known h e = absurd h

  pub chain_first : (g : Table) (lawful : IsLawful g) (k : ℕ) (rule : Rule) (xs : List Sym) (parts : Forest) (b : ℕ) (w : List ℕ) → IsChain g k rule xs → AreSymbols g xs → AreTrees g xs parts → spell_all parts ≡ b ∷ w → (b < 256) × (g.rule k b ≡ Some rule)
  chain_first g lawful k rule (x ∷ xs) (grown t parts) b w chain known h e =
      elim (split_cons (spell t) (spell_all parts) b w e) [
        | inl none ↦ absurd (let first = tree_empty g lawful x t known.0 h.0 none.0 in cc (chain.0, first))
        | inr some ↦ (let first = tree_first g lawful x t b some.0 known.0 h.0 some.1 in (first.0, chain.3 b first.0 first.1))
      ]
  chain_first g lawful k rule [] parts b w chain known h e = absurd chain
  chain_first g lawful k rule (x ∷ xs) nothing b w chain known h e = absurd h

-- the rule of a tree is the one that its first byte chooses
pub branch_first : (g : Table) (lawful : IsLawful g) (k : ℕ) (rule : Rule) (taken : List ℕ) (parts : Forest) (b : ℕ) (w : List ℕ) → k < g.kinds → IsTree g (Kind k) (branch rule taken parts) → taken ++ spell_all parts ≡ b ∷ w → (b < 256) × (g.rule k b ≡ Some rule)
branch_first g lawful k rule taken parts b w known h e =
    let law = lawful.rule k h.0.byte rule known h.0.is_byte h.0.found in
    elim (true_or rule.eats) [
      | inl eats ↦ (
          let same = one_taken taken h.0.byte (spell_all parts) b w (taken_eats g k rule taken h.0 eats) e in
          (subst (λ v. v < 256) same.0 h.0.is_byte, subst (λ v. g.rule k v ≡ Some rule) same.0 h.0.found))
      | inr chains ↦ chain_first g lawful k rule (symbols_of rule) parts b w (law.chain chains) law.symbols h.1 (none_taken taken (spell_all parts) (b ∷ w) (taken_chain g k rule taken h.0 chains) e)
    ]

-- a rule's tree isn't empty
pub branch_filled : (g : Table) (lawful : IsLawful g) (k : ℕ) (rule : Rule) (taken : List ℕ) (parts : Forest) → k < g.kinds → IsTree g (Kind k) (branch rule taken parts) → taken ++ spell_all parts ≡ [] → ⊥
branch_filled g lawful k rule taken parts known h e =
    let law = lawful.rule k h.0.byte rule known h.0.is_byte h.0.found in
    let none = split_nil taken (spell_all parts) e in
    elim (true_or rule.eats) [
      | inl eats ↦ (let one = taken_eats g k rule taken h.0 eats in cc)
      | inr chains ↦ chain_filled g lawful k rule (symbols_of rule) parts (law.chain chains) law.symbols h.1 none.1
    ]

pub forest_first : (g : Table) (lawful : IsLawful g) (xs : List Sym) (f : Forest) (b : ℕ) (w : List ℕ) → AreSymbols g xs → AreTrees g xs f → spell_all f ≡ b ∷ w → (b < 256) × (first_of g xs b ≡ true)
forest_first g lawful [] nothing b w known h e = cc
forest_first g lawful (x ∷ xs) (grown t f) b w known h e =
    elim (split_cons (spell t) (spell_all f) b w e) [
      | inl none ↦ (
          let bare = tree_empty g lawful x t known.0 h.0 none.0 in
          let rest = forest_first g lawful xs f b w known.1 h.1 none.1 in
          (rest.0, or_right _ _ (and_from _ _ bare rest.1)))
      | inr some ↦ (
          let first = tree_first g lawful x t b some.0 known.0 h.0 some.1 in
          (first.0, or_left _ _ first.1))
    ]
forest_first g lawful [] (grown t f) b w known h e = absurd h
forest_first g lawful (x ∷ xs) nothing b w known h e = absurd h
