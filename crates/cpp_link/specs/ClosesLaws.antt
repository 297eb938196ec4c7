-- How many nodes a rule may add after its parts, as parts are added.
use Rattle.std.proofs.Common.{◌≡◌, refl, arith, lit≤, ℕ, zero, suc, ◌+◌, ◌≤◌, List, [], ◌∷◌, ◌++◌, length, drop, get_or, length-append}
use Rattle.cpp_grammar.specs.declared.production.Production.{Production}
use Rattle.cpp_link.specs.declared.part.Part.{Part}
use Rattle.cpp_link.specs.Owed.{made_before, made_at_end, sum_all, owes_of}
use Rattle.cpp_link.specs.Closes.{name_closes, pack_makes, pack_closes, closes_of, ends_of}

same_le : (n : ℕ) → n ≤ n
same_le n = omega arith

pub name_one : (own : List Part) → name_closes own ≤ 1
unfolding name_closes
name_one (name ∷ Part.Nothing ∷ parts) = omega arith
name_one own = same_le 1

pub makes_one : (part : Part) → pack_makes part ≤ 1
unfolding pack_makes
makes_one Part.Nothing = omega arith
makes_one part = same_le 1

-- ## What it owes

sum_next : (ns : List ℕ) (held : ℕ) → sum_all (drop held ns) ≡ get_or ns held 0 + sum_all (drop (suc held) ns)
unfolding sum_all
sum_next [] zero = refl
sum_next [] (suc held) = refl
sum_next (n ∷ ns) zero = refl
sum_next (n ∷ ns) (suc held) = sum_next ns held

-- a production owes no more after one more part
pub quiet_owed : (p : Production) (held : ℕ) → owes_of p (suc held) ≤ owes_of p held
unfolding owes_of
quiet_owed p held = omega (arith, sum_next (made_before p) held)

-- a production owes one node less after a part, if it makes one before it
pub made_owed : (p : Production) (held : ℕ) → get_or (made_before p) held 0 ≡ 1 → 1 + owes_of p (suc held) ≤ owes_of p held
unfolding owes_of
made_owed p held one = omega (arith, sum_next (made_before p) held, one)

pub end_owed : (p : Production) (held : ℕ) → made_at_end p ≤ owes_of p held
unfolding owes_of
end_owed p held = omega arith

dropped_sum : (ns : List ℕ) (held : ℕ) → sum_all (drop held ns) ≤ sum_all ns
unfolding sum_all
dropped_sum ns zero = same_le (sum_all ns)
dropped_sum [] (suc held) = omega arith
dropped_sum (n ∷ ns) (suc held) = omega (arith, dropped_sum ns held)

whole_two : (p : Production) → owes_of p 0 ≤ 2
unfolding owes_of made_before made_at_end sum_all
whole_two Production.Mark = omega arith
whole_two _ = lit≤ tt

pub owes_two : (p : Production) (held : ℕ) → owes_of p held ≤ 2
unfolding owes_of
owes_two p held = omega (arith, dropped_sum (made_before p) held, whole_two p)

-- ## Where it closes

pack_owed : (own : List Part) → pack_closes own ≤ owes_of Production.PackArgument (length own)
unfolding pack_closes owes_of made_before made_at_end sum_all
pack_owed [] = omega arith
pack_owed (elements ∷ []) = omega (arith, makes_one elements)
pack_owed (elements ∷ p ∷ own) = omega arith

pub closes_owed : (p : Production) (own : List Part) → closes_of p own ≤ owes_of p (length own)
unfolding closes_of made_at_end
closes_owed Production.InternalName own = omega (arith, name_one own, end_owed Production.InternalName (length own))
closes_owed Production.SourceName own = omega (arith, name_one own, end_owed Production.SourceName (length own))
closes_owed Production.Tag own = omega (arith, name_one own, end_owed Production.Tag (length own))
closes_owed Production.TypeTag own = omega (arith, name_one own, end_owed Production.TypeTag (length own))
closes_owed Production.PackArgument own = pack_owed own
closes_owed p own = same_le (owes_of p (length own))

pub ends_closes : (p : Production) (own : List Part) → ends_of p own ≤ closes_of p own
unfolding closes_of ends_of made_at_end pack_closes
ends_closes Production.InternalName own = same_le (name_closes own)
ends_closes Production.SourceName own = same_le (name_closes own)
ends_closes Production.Tag own = same_le (name_closes own)
ends_closes Production.TypeTag own = same_le (name_closes own)
ends_closes Production.PackArgument [] = omega arith
ends_closes Production.PackArgument (elements ∷ []) = omega arith
ends_closes Production.PackArgument (elements ∷ p ∷ own) = omega arith
ends_closes p own = end_owed p (length own)

-- ## After one more part, which is absent

name_behind : (first part : Part) (rest : List Part) → name_closes ((part ∷ rest) ++ Part.Nothing ∷ []) ≤ name_closes (first ∷ rest)
unfolding name_closes
name_behind first part [] = omega arith
name_behind first part (Part.Nothing ∷ rest) = omega arith
name_behind first part (second ∷ rest) = same_le 1

pack_behind : (first part : Part) (rest : List Part) → pack_closes ((part ∷ rest) ++ Part.Nothing ∷ []) ≤ pack_closes (first ∷ rest)
unfolding pack_closes
pack_behind first part [] = omega arith
pack_behind first part (second ∷ []) = omega arith
pack_behind first part (second ∷ third ∷ rest) = omega arith

longer : (p : Production) (own : List Part) (part : Part) → owes_of p (length (own ++ part ∷ [])) ≤ owes_of p (length own)
longer p own part =
    let more : length (own ++ part ∷ []) ≡ suc (length own) = omega (arith, length-append own (part ∷ [])) in
    rw more (quiet_owed p (length own))

-- after the first part is replaced and an absent part is added, the rule may add no more nodes than before
pub closes_behind : (p : Production) (first part : Part) (rest : List Part) → closes_of p ((part ∷ rest) ++ Part.Nothing ∷ []) ≤ closes_of p (first ∷ rest)
unfolding closes_of
closes_behind Production.InternalName first part rest = name_behind first part rest
closes_behind Production.SourceName first part rest = name_behind first part rest
closes_behind Production.Tag first part rest = name_behind first part rest
closes_behind Production.TypeTag first part rest = name_behind first part rest
closes_behind Production.PackArgument first part rest = pack_behind first part rest
closes_behind p first part rest = longer p (part ∷ rest) Part.Nothing

first_pushed : (p : Production) → closes_of p (Part.Nothing ∷ []) ≤ closes_of p []
unfolding closes_of name_closes pack_closes pack_makes
first_pushed Production.InternalName = omega arith
first_pushed Production.SourceName = omega arith
first_pushed Production.Tag = omega arith
first_pushed Production.TypeTag = omega arith
first_pushed Production.PackArgument = omega arith
first_pushed p = quiet_owed p 0

pub closes_pushed : (p : Production) (own : List Part) → closes_of p (own ++ Part.Nothing ∷ []) ≤ closes_of p own
closes_pushed p (first ∷ rest) = closes_behind p first first rest
closes_pushed p [] = first_pushed p

-- a rule that makes one node after its first part may add one node less from then on
abbrev behind_first : List ℕ
behind_first = 0 ∷ 1 ∷ []

name_made : (first part : Part) (rest : List Part) → get_or behind_first (length (first ∷ rest)) 0 ≡ 1
    → 1 + name_closes ((part ∷ rest) ++ Part.Nothing ∷ []) ≤ name_closes (first ∷ rest)
unfolding name_closes
name_made first part [] one = omega arith
name_made first part (second ∷ []) one = absurd (omega (arith, one))
name_made first part (second ∷ third ∷ rest) one = absurd (omega (arith, one))

pack_made : (first part : Part) (rest : List Part) → get_or behind_first (length (first ∷ rest)) 0 ≡ 1 → (rest ≡ [] → pack_makes first ≡ 1)
    → 1 + pack_closes ((part ∷ rest) ++ Part.Nothing ∷ []) ≤ pack_closes (first ∷ rest)
unfolding pack_closes
pack_made first part [] one makes = omega (arith, makes refl)
pack_made first part (second ∷ []) one makes = absurd (omega (arith, one))
pack_made first part (second ∷ third ∷ rest) one makes = absurd (omega (arith, one))

made_longer : (p : Production) (own : List Part) → get_or (made_before p) (length own) 0 ≡ 1 → 1 + owes_of p (length (own ++ Part.Nothing ∷ [])) ≤ owes_of p (length own)
made_longer p own one =
    let more : length (own ++ Part.Nothing ∷ []) ≡ suc (length own) = omega (arith, length-append own (Part.Nothing ∷ [])) in
    rw more (made_owed p (length own) one)

pub closes_made : (p : Production) (first part : Part) (rest : List Part) → get_or (made_before p) (length (first ∷ rest)) 0 ≡ 1
    → (p ≡ Production.PackArgument → rest ≡ [] → pack_makes first ≡ 1)
    → 1 + closes_of p ((part ∷ rest) ++ Part.Nothing ∷ []) ≤ closes_of p (first ∷ rest)
unfolding closes_of made_before
closes_made Production.InternalName first part rest one makes = name_made first part rest one
closes_made Production.SourceName first part rest one makes = name_made first part rest one
closes_made Production.Tag first part rest one makes = name_made first part rest one
closes_made Production.TypeTag first part rest one makes = name_made first part rest one
closes_made Production.PackArgument first part rest one makes = pack_made first part rest one (makes refl)
closes_made p first part rest one makes = made_longer p (part ∷ rest) one
