-- The counts for a production are those that its row gives.
use Rattle.cpp_link.proofs.Basics.{◌≡◌, refl, ◌∙◌, ap, arith, ℕ, zero, suc, ◌+◌, ◌<◌, List, [], ◌∷◌, length, get_or, Bool, true, false, if◌then◌else◌, cond, ◌&&◌, Production, Action, quiet, goes, becomes, tests, holds, unread, before_part, quiet_before, quiet_from, row_of, Value, part, tree_of, no_items, is_void, is_nil, makes_before, makes_at_end, std_before, pack_before, name_at_end, lambda_at_end, one_if_declared, made_before, made_at_end, nodes_made, nodes_before, nodes_of, nodes_at_end, quiet_parts}

-- ## How many nodes are made

pub same_before_nodes : (p : Production) (vs : List Value) → makes_before p vs ≡ nodes_before (before_part (row_of p) (length vs)) vs
unfolding makes_before made_before std_before pack_before row_of before_part nodes_before nodes_made part
same_before_nodes Production.Mark [] = refl
same_before_nodes _ [] = refl
same_before_nodes Production.Mark (v ∷ []) = refl
same_before_nodes _ (v ∷ []) = refl
same_before_nodes Production.Mark (v ∷ w ∷ []) = refl
same_before_nodes _ (v ∷ w ∷ []) = refl
same_before_nodes Production.Mark (v ∷ w ∷ x ∷ []) = refl
same_before_nodes _ (v ∷ w ∷ x ∷ []) = refl
same_before_nodes Production.Mark (v ∷ w ∷ x ∷ y ∷ vs) = refl
same_before_nodes _ (v ∷ w ∷ x ∷ y ∷ vs) = refl

pub same_end_nodes : (p : Production) (vs : List Value) → makes_at_end p vs ≡ nodes_at_end (row_of p).form vs
unfolding makes_at_end made_at_end name_at_end lambda_at_end row_of nodes_at_end nodes_made nodes_of
same_end_nodes Production.Lambda vs = ap (λ n. n + one_if_declared (part vs 0)) (go (is_void (tree_of (part vs 0)) && is_nil (no_items (part vs 1))))
  where
    go : (b : Bool) → ◌≡◌ {A = ℕ} (if b then 0 else 1) (cond b 0 1)
    go true = refl
    go false = refl
same_end_nodes Production.Mark vs = refl
same_end_nodes _ vs = refl

-- ## Before how many parts nothing is done

pub same_quiet : (p : Production) → quiet_parts p ≡ quiet_before (row_of p)
unfolding quiet_parts row_of quiet_before quiet_from
same_quiet Production.Mark = refl
same_quiet _ = refl

quiet_at : (before : List Action) (onward : Action) (m k : ℕ) → m + k < quiet_from before onward m → get_or before k onward ≡ quiet
unfolding quiet_from
quiet_at [] quiet m k less = refl
quiet_at [] (goes gain w) m k less = absurd (omega (arith, less))
quiet_at [] (becomes t is_in is_name is_candidate) m k less = absurd (omega (arith, less))
quiet_at [] (tests after_t is_name) m k less = absurd (omega (arith, less))
quiet_at [] holds m k less = absurd (omega (arith, less))
quiet_at [] unread m k less = absurd (omega (arith, less))
quiet_at (quiet ∷ rest) onward m zero less = refl
quiet_at (quiet ∷ rest) onward m (suc k) less = quiet_at rest onward (m + 1) k (omega (arith, less))
quiet_at (goes gain w ∷ rest) onward m k less = absurd (omega (arith, less))
quiet_at (becomes t is_in is_name is_candidate ∷ rest) onward m k less = absurd (omega (arith, less))
quiet_at (tests after_t is_name ∷ rest) onward m k less = absurd (omega (arith, less))
quiet_at (holds ∷ rest) onward m k less = absurd (omega (arith, less))
quiet_at (unread ∷ rest) onward m k less = absurd (omega (arith, less))

-- nothing is done before these parts
pub quiet_part : (p : Production) (k : ℕ) → k < quiet_parts p → before_part (row_of p) k ≡ quiet
unfolding before_part quiet_before
quiet_part p k less = quiet_at (row_of p).before (row_of p).onward 0 k (omega (arith, less, same_quiet p))

-- no node is made before these parts
pub quiet_makes : (p : Production) (vs : List Value) → length vs < quiet_parts p → makes_before p vs ≡ 0
unfolding nodes_before
quiet_makes p vs less = same_before_nodes p vs ∙ ap (λ b. nodes_before b vs) (quiet_part p (length vs) less)
