-- A symbol has at most one tree.
use Rattle.sym_shape.proofs.Basics.{◌≡◌, ℕ, zero, suc, ◌+◌, ◌<◌, ◌≤◌, true, false, inl, inr, List, [], ◌∷◌, ◌++◌, refl, ap, sym, ◌∙◌, subst, arith, append_assoc, Some, is_some, cond, if◌then◌else◌, false≢true, append_cancel_left, Rule, Sym, Kind, Name, Number, Byte, Table, Token, symbols_of, bytes_of, IsToken, Tree, branch, empty, token, fixed, Forest, nothing, grown, spell, spell_all, IsTree, AreTrees, AreSymbols, IsLawful, IsFollowed}
use Rattle.sym_shape.proofs.Lists.{true_or, one_taken, filled, some_same}
use Rattle.sym_shape.proofs.Forests.{joined, spell_all-joined, AreTrees-joined, same_halves}
use Rattle.sym_shape.proofs.Tokens.{one_token}
use Rattle.sym_shape.proofs.Firsts.{branch_first, branch_filled, forest_first, taken_eats, taken_chain}
use Rattle.sym_shape.proofs.Follows.{symbols_pushed, followed_pushed, forest_follows}

abbrev mutual
  tree_size : Tree → ℕ
  tree_size (branch rule taken parts) = forest_size parts
  tree_size empty = 0
  tree_size (token t) = 0
  tree_size (fixed c) = 0

  forest_size : Forest → ℕ
  forest_size nothing = 0
  forest_size (grown t f) = 1 + (tree_size t + forest_size f)

forest_size-joined : (a b : Forest) → forest_size (joined a b) ≡ forest_size a + forest_size b
forest_size-joined nothing b = omega arith
forest_size-joined (grown t a) b = omega (arith, forest_size-joined a b)

-- two rules are equal, and so are the bytes that they take themselves
pub record SameRule (rule other : Rule) (taken also : List ℕ) : Type 0 where
  pub rules : rule ≡ other
  pub takes : taken ≡ also

-- the rule of a kind's tree is the one that the tree's first byte chooses
pub chosen_rule : (g : Table) (lawful : IsLawful g) (k : ℕ) (rule other : Rule) (also : List ℕ) (others : Forest) (b : ℕ) (w : List ℕ) → k < g.kinds → g.rule k b ≡ Some rule → IsTree g (Kind k) (branch other also others) → also ++ spell_all others ≡ b ∷ w → SameRule rule other (if rule.eats then b ∷ [] else []) also
chosen_rule g lawful k rule other also others b w known found q f =
    let two = branch_first g lawful k other also others b w known q f in
    let rules = some_same rule other (g.rule k b) found two.1 in
    elim (true_or rule.eats) [
      | inl eats ↦ (
          let also_eats : other.eats ≡ true = ap (λ r. r.eats) (sym rules) ∙ eats in
          let second = one_taken also q.0.byte (spell_all others) b w (taken_eats g k other also q.0 also_eats) f in
          record { rules = rules; takes = ap (λ c. cond c (b ∷ []) []) eats ∙ ap (λ c. c ∷ []) (sym second.0) ∙ sym (taken_eats g k other also q.0 also_eats) })
      | inr chains ↦ (
          let also_chains : other.eats ≡ false = ap (λ r. r.eats) (sym rules) ∙ chains in
          record { rules = rules; takes = ap (λ c. cond c (b ∷ []) []) chains ∙ sym (taken_chain g k other also q.0 also_chains) })
    ]

-- two trees of a kind that begin with the same byte have the same rule
pub same_rule : (g : Table) (lawful : IsLawful g) (k : ℕ) (rule other : Rule) (taken also : List ℕ) (parts others : Forest) (b : ℕ) (v w : List ℕ) → k < g.kinds → IsTree g (Kind k) (branch rule taken parts) → IsTree g (Kind k) (branch other also others) → taken ++ spell_all parts ≡ b ∷ v → also ++ spell_all others ≡ b ∷ w → SameRule rule other taken also
same_rule g lawful k rule other taken also parts others b v w known p q e f =
    let found = (branch_first g lawful k rule taken parts b v known p e).1 in
    let one = chosen_rule g lawful k rule rule taken parts b v known found p e in
    let two = chosen_rule g lawful k rule other also others b w known found q f in
    record { rules = two.rules; takes = sym one.takes ∙ two.takes }

-- a kind isn't empty if the next byte begins it
pub not_empty : (g : Table) (lawful : IsLawful g) (k : ℕ) (xs : List Sym) (rest : Forest) (rule : Rule) (taken : List ℕ) (parts : Forest) (tail : List ℕ) → AreSymbols g (Kind k ∷ xs) → IsFollowed g (Kind k ∷ xs) → g.may_be_empty k ≡ true → AreTrees g xs rest → IsTree g (Kind k) (branch rule taken parts) → spell_all rest ≡ (taken ++ spell_all parts) ++ tail → ⊥
not_empty g lawful k xs rest rule taken parts tail known followed bare p q e =
    let some = filled (taken ++ spell_all parts) (branch_filled g lawful k rule taken parts known.0 q) in
    let chosen = branch_first g lawful k rule taken parts some.0 some.1 known.0 q some.2 in
    let whole : spell_all rest ≡ some.0 ∷ (some.1 ++ tail) = e ∙ ap (λ u. u ++ tail) some.2 in
    let first = forest_first g lawful xs rest some.0 (some.1 ++ tail) known.1 p whole in
    let after : g.after k some.0 ≡ true = followed.0 some.0 first.0 first.1 in
    let apart = lawful.apart k some.0 known.0 chosen.0 bare (ap is_some chosen.1) in
    cc

abbrev OneForest : Table → ℕ → Type 0
OneForest g n = (xs : List Sym) (a b : Forest) → forest_size a ≤ n → AreSymbols g xs → IsFollowed g xs → AreTrees g xs a → AreTrees g xs b → spell_all a ≡ spell_all b → a ≡ b

one_branch : (g : Table) (lawful : IsLawful g) (n : ℕ) → OneForest g n → (k : ℕ) (xs : List Sym) (rule other : Rule) (taken also : List ℕ) (parts others a b : Forest) → forest_size parts + forest_size a ≤ n → AreSymbols g (Kind k ∷ xs) → IsFollowed g (Kind k ∷ xs) → AreTrees g (Kind k ∷ xs) (grown (branch rule taken parts) a) → AreTrees g (Kind k ∷ xs) (grown (branch other also others) b) → (taken ++ spell_all parts) ++ spell_all a ≡ (also ++ spell_all others) ++ spell_all b → grown (branch rule taken parts) a ≡ grown (branch other also others) b
one_branch g lawful n below k xs rule other taken also parts others a b small known followed p q e =
    let one = filled (taken ++ spell_all parts) (branch_filled g lawful k rule taken parts known.0 p.0) in
    let two = filled (also ++ spell_all others) (branch_filled g lawful k other also others known.0 q.0) in
    let heads : one.0 ∷ (one.1 ++ spell_all a) ≡ two.0 ∷ (two.1 ++ spell_all b) = sym (ap (λ u. u ++ spell_all a) one.2) ∙ e ∙ ap (λ u. u ++ spell_all b) two.2 in
    let same_byte : two.0 ≡ one.0 = cc in
    let same = same_rule g lawful k rule other taken also parts others one.0 one.1 two.1 known.0 p.0 q.0 one.2 (two.2 ∙ ap (λ c. c ∷ two.1) same_byte) in
    let regrouped : taken ++ (spell_all parts ++ spell_all a) ≡ taken ++ (spell_all others ++ spell_all b) = sym (append_assoc taken (spell_all parts) (spell_all a)) ∙ e ∙ append_assoc also (spell_all others) (spell_all b) ∙ ap (λ u. u ++ (spell_all others ++ spell_all b)) (sym same.takes) in
    let spelled : spell_all (joined parts a) ≡ spell_all (joined others b) = spell_all-joined parts a ∙ append_cancel_left taken _ _ regrouped ∙ sym (spell_all-joined others b) in
    let law = lawful.rule k p.0.0.byte rule known.0 p.0.0.is_byte p.0.0.found in
    let others_are : AreTrees g (symbols_of rule) others = subst (λ r. AreTrees g (symbols_of r) others) (sym same.rules) q.0.1 in
    let together = below (symbols_of rule ++ xs) (joined parts a) (joined others b) (omega (arith, forest_size-joined parts a)) (symbols_pushed g (symbols_of rule) xs law.symbols known.1) (followed_pushed g k (symbols_of rule) xs law.after followed) (AreTrees-joined g (symbols_of rule) xs parts a p.0.1 p.1) (AreTrees-joined g (symbols_of rule) xs others b others_are q.1) spelled in
    let halves = same_halves g (symbols_of rule) parts others a b p.0.1 others_are together in
    cc (halves.0, halves.1, same.rules, same.takes)

one_token_more : (g : Table) (lawful : IsLawful g) (n : ℕ) → OneForest g n → (x : Sym) (xs : List Sym) (s t : Token) (a b : Forest) → forest_size a ≤ n → AreSymbols g (x ∷ xs) → IsFollowed g (x ∷ xs) → IsToken g.names x s → IsToken g.names x t → AreTrees g xs a → AreTrees g xs b → bytes_of s ++ spell_all a ≡ bytes_of t ++ spell_all b → grown (token s) a ≡ grown (token t) b
one_token_more g lawful n below x xs s t a b small known followed is_s is_t p q e =
    let same = one_token g x s t (spell_all a) (spell_all b) is_s is_t (forest_follows g lawful x xs a known.1 followed p) (forest_follows g lawful x xs b known.1 followed q) e in
    let rest = append_cancel_left (bytes_of s) _ _ (e ∙ ap (λ u. bytes_of u ++ spell_all b) (sym same)) in
    let forests = below xs a b small known.1 followed.1 p q rest in
    cc (same, forests)

one_more : (g : Table) (lawful : IsLawful g) (n : ℕ) → OneForest g n → (x : Sym) (xs : List Sym) (s t : Tree) (a b : Forest) → tree_size s + forest_size a ≤ n → AreSymbols g (x ∷ xs) → IsFollowed g (x ∷ xs) → AreTrees g (x ∷ xs) (grown s a) → AreTrees g (x ∷ xs) (grown t b) → spell s ++ spell_all a ≡ spell t ++ spell_all b → grown s a ≡ grown t b
one_more g lawful n below (Kind k) xs empty empty a b small known followed p q e =
    ap (λ f. grown empty f) (below xs a b (omega arith) known.1 followed.1 p.1 q.1 e)
one_more g lawful n below (Kind k) xs empty (branch rule taken parts) a b small known followed p q e =
    absurd (not_empty g lawful k xs a rule taken parts (spell_all b) known followed p.0 p.1 q.0 e)
one_more g lawful n below (Kind k) xs (branch rule taken parts) empty a b small known followed p q e =
    absurd (not_empty g lawful k xs b rule taken parts (spell_all a) known followed q.0 q.1 p.0 (sym e))
one_more g lawful n below (Kind k) xs (branch rule taken parts) (branch other also others) a b small known followed p q e =
    one_branch g lawful n below k xs rule other taken also parts others a b small known followed p q e
one_more g lawful n below Name xs (token s) (token t) a b small known followed p q e =
    one_token_more g lawful n below Name xs s t a b (omega arith) known followed p.0 q.0 p.1 q.1 e
one_more g lawful n below (Number kind) xs (token s) (token t) a b small known followed p q e =
    one_token_more g lawful n below (Number kind) xs s t a b (omega arith) known followed p.0 q.0 p.1 q.1 e
one_more g lawful n below (Byte c) xs (fixed d) (fixed e) a b small known followed p q same =
    let rest = below xs a b (omega arith) known.1 followed.1 p.1 q.1 cc in
    cc
one_more g lawful n below (Kind k) xs (token s) t a b small known followed p q e = absurd p.0
one_more g lawful n below (Kind k) xs (fixed c) t a b small known followed p q e = absurd p.0
one_more g lawful n below Name xs (branch rule taken parts) t a b small known followed p q e = absurd p.0
one_more g lawful n below Name xs empty t a b small known followed p q e = absurd p.0
one_more g lawful n below Name xs (fixed c) t a b small known followed p q e = absurd p.0
one_more g lawful n below (Number kind) xs (branch rule taken parts) t a b small known followed p q e = absurd p.0
one_more g lawful n below (Number kind) xs empty t a b small known followed p q e = absurd p.0
one_more g lawful n below (Number kind) xs (fixed c) t a b small known followed p q e = absurd p.0
one_more g lawful n below (Byte c) xs (branch rule taken parts) t a b small known followed p q e = absurd p.0
one_more g lawful n below (Byte c) xs empty t a b small known followed p q e = absurd p.0
one_more g lawful n below (Byte c) xs (token s) t a b small known followed p q e = absurd p.0
one_more g lawful n below x xs s t a b small known followed p q e = absurd q.0

one_forest : (g : Table) (lawful : IsLawful g) (n : ℕ) → OneForest g n
one_forest g lawful n [] nothing nothing small known followed p q e = refl
one_forest g lawful zero (x ∷ xs) (grown s a) b small known followed p q e = absurd (omega arith)
one_forest g lawful (suc n) (x ∷ xs) (grown s a) (grown t b) small known followed p q e =
    one_more g lawful n (one_forest g lawful n) x xs s t a b (omega arith) known followed p q e
one_forest g lawful n [] (grown s a) b small known followed p q e = absurd p
one_forest g lawful n [] nothing (grown t b) small known followed p q e = absurd q
one_forest g lawful n (x ∷ xs) nothing b small known followed p q e = absurd p
one_forest g lawful (suc n) (x ∷ xs) (grown s a) nothing small known followed p q e = absurd q

-- there is at most one tree of the start kind that spells a symbol
pub one_tree : (g : Table) (lawful : IsLawful g) (s t : Tree) → IsTree g (Kind 0) s → IsTree g (Kind 0) t → spell s ≡ spell t → s ≡ t
one_tree g lawful s t p q e =
    let forests : grown s nothing ≡ grown t nothing = one_forest g lawful (forest_size (grown s nothing)) (Kind 0 ∷ []) (grown s nothing) (grown t nothing) (omega arith) (lawful.start, tt) ((λ b lt first. absurd (false≢true first)), tt) (p, tt) (q, tt) (ap (λ u. u ++ []) e) in
    cc
