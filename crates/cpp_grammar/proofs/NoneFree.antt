-- A production makes a value without free parameters from values without free parameters.
use Rattle.cpp_grammar.proofs.Basics.{◌≡◌, ℕ, List, [], ◌∷◌, false, Production, Term, list, is_open, Around, Prefix, outermost, behind, prefix_tree, Value, tree_of, part, no_items, parameters, encoding_of, meaning, Made, made}
use Rattle.cpp_grammar.proofs.ClosedValues.{held, GoodIf, AllIf, PrefixIf, good_tree, good_part, good_pair, good_parameters, good_prefix, good_encoding, made_tree_good, meaning_good}

-- no parameters are free in the tree
abbrev pub HasNone : Term → Type 0
HasNone t = is_open t ≡ false

abbrev pub AllNone : List Value → Type 0
AllNone [] = Unit {0}
AllNone (v ∷ vs) = HasNone (held v) × AllNone vs

abbrev pub PrefixHasNone : Prefix → Type 0
PrefixHasNone outermost = Unit {0}
PrefixHasNone (behind t listed) = HasNone t

-- a tree without free parameters is closed, and nothing is said of its scopes
good : (t : Term) → HasNone t → GoodIf ⊥ (Unit {0}) t
good t none = record { closed = λ h. none; scopes = λ n. absurd n }

all_good : (vs : List Value) → AllNone vs → AllIf ⊥ (Unit {0}) vs
all_good [] all = tt
all_good (v ∷ vs) all = (good (held v) all.0, all_good vs all.1)

prefix_good : (prefix : Prefix) → PrefixHasNone prefix → PrefixIf ⊥ (Unit {0}) prefix
prefix_good outermost none = tt
prefix_good (behind t listed) none = good t none

pub none_tree : (v : Value) → HasNone (held v) → HasNone (tree_of v)
none_tree v none = (good_tree (Unit {0}) v (good (held v) none)).closed tt

pub none_part : (vs : List Value) (k : ℕ) → AllNone vs → HasNone (tree_of (part vs k))
none_part vs k all = (good_part (Unit {0}) vs k (all_good vs all)).closed tt

pub none_prefix : (prefix : Prefix) → PrefixHasNone prefix → HasNone (prefix_tree prefix)
none_prefix prefix none = (good_prefix (Unit {0}) prefix (prefix_good prefix none)).closed tt

pub none_encoding : (v : Value) (items : Term) → HasNone (encoding_of v items)
none_encoding v items = (good_encoding {q = ⊥} (Unit {0}) v items (λ n. absurd n) (λ n. absurd n) (λ n. absurd n)).closed tt

-- no parameter is free in a lambda's list of parameters, if none is in the values of its parts
pub none_signature : (vs : List Value) → AllNone vs → HasNone (parameters (list (tree_of (part vs 0)) (no_items (part vs 1))))
none_signature vs all = (good_parameters (Unit {0}) (list (tree_of (part vs 0)) (no_items (part vs 1))) (good_pair (Unit {0}) vs 0 1 (all_good vs all))).closed tt

pub made_none : (byte : ℕ) (around : Around) (vs : List Value) (m : Made) → PrefixHasNone around.prefix → AllNone vs → HasNone (made byte around vs m)
made_none byte around vs m pre all = (made_tree_good (Unit {0}) byte around vs m (prefix_good around.prefix pre) (all_good vs all)).closed tt

pub meaning_none : (production : Production) (byte : ℕ) (around : Around) (vs : List Value) → PrefixHasNone around.prefix → AllNone vs → HasNone (held (meaning production byte around vs))
meaning_none production byte around vs pre all = (meaning_good (Unit {0}) production byte around vs (prefix_good around.prefix pre) (all_good vs all) (λ n. absurd n)).closed tt
