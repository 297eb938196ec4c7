-- The types that are awaited after the name of a lambda are the same for trees with arguments as for trees without
-- them.
use Rattle.cpp_term.proofs.Basics.{◌≡◌, refl, ap, ◌∙◌, ℕ, Bool, false, Term, alone, in_std, within, lambda, generic_lambda, declaring, list, Awaited, Counting, Around, head_of_name, head_of, first_head, rest_of, heads_of, behind_another, types_in, awaited_by_piece, awaited_by, awaiting, expecting_item, Place, in_own, annotate, noted_around}
use Rattle.cpp_term.specs.Term as term_
use Rattle.cpp_term.specs.Rescoping as wide_

-- ## Heads

name_head_noted : (s : Place) (t : Term) → wide_.head_of_name (annotate s t) ≡ head_of_name t
unfolding wide_.head_of_name head_of_name annotate
name_head_noted s (lambda parameters number) = refl
name_head_noted s (generic_lambda parameters number) = refl
name_head_noted s _ = refl

pub head_noted : (s : Place) (t : Term) → wide_.head_of (annotate s t) ≡ head_of t
unfolding wide_.head_of head_of annotate
head_noted s (alone last) = name_head_noted s last
head_noted s (in_std last) = name_head_noted s last
head_noted s (within prefix last) = name_head_noted s last
head_noted s _ = refl

first_noted : (s : Place) (t : Term) → wide_.first_head (annotate s t) ≡ first_head t
unfolding wide_.first_head first_head annotate
first_noted s (list t rest) = head_noted s t
first_noted s _ = refl

rest_noted : (s : Place) (t : Term) → wide_.rest_of (annotate s t) ≡ annotate s (rest_of t)
unfolding wide_.rest_of rest_of annotate
rest_noted s (list t rest) = refl
rest_noted s _ = refl

same_heads : (place a b c d x y z w : ℕ) → a ≡ x → b ≡ y → c ≡ z → d ≡ w →
    ◌≡◌ {A = Awaited} (record { encoding = place; is_called = false; first = a; second = b; third = c; fourth = d }) (record { encoding = place; is_called = false; first = x; second = y; third = z; fourth = w })
same_heads place a b c d x y z w e f g h = rw (e, f, g, h) refl

heads_noted : (place : ℕ) (s : Place) (t : Term) → wide_.heads_of place (annotate s t) ≡ heads_of place t
unfolding wide_.heads_of heads_of
heads_noted place s t =
    let rest : term_.Term → term_.Term = wide_.rest_of in
    let one : rest (annotate s t) ≡ annotate s (rest_of t) = rest_noted s t in
    let two : rest (rest (annotate s t)) ≡ annotate s (rest_of (rest_of t)) = ap rest one ∙ rest_noted s (rest_of t) in
    let three : rest (rest (rest (annotate s t))) ≡ annotate s (rest_of (rest_of (rest_of t))) = ap rest two ∙ rest_noted s (rest_of (rest_of t)) in
    same_heads place _ _ _ _ _ _ _ _ (first_noted s t) (ap wide_.first_head one ∙ first_noted s (rest_of t)) (ap wide_.first_head two ∙ first_noted s (rest_of (rest_of t)))
    (ap wide_.first_head three ∙ first_noted s (rest_of (rest_of (rest_of t))))

-- ## Lambdas

types_noted : (s : Place) (t : Term) → wide_.types_in (annotate s t) ≡ annotate s (types_in t)
unfolding wide_.types_in types_in annotate
types_noted s (declaring heads types) = refl
types_noted s _ = refl

piece_noted : (place : ℕ) (s : Place) (t : Term) → wide_.awaited_by_piece place (annotate s t) ≡ awaited_by_piece place t
unfolding wide_.awaited_by_piece awaited_by_piece annotate
piece_noted place s (lambda signature number) = heads_noted place s signature
piece_noted place s (generic_lambda signature number) = ap (λ u. behind_another (wide_.heads_of place u)) (types_noted in_own signature) ∙ ap behind_another (heads_noted place in_own (types_in signature))
piece_noted place s _ = refl

awaited_noted : (place : ℕ) (s : Place) (t : Term) → wide_.awaited_by place (annotate s t) ≡ awaited_by place t
unfolding wide_.awaited_by awaited_by annotate
awaited_noted place s (within prefix last) = piece_noted place s last
awaited_noted place s _ = refl

-- ## What is awaited

pub awaiting_noted : (own : Bool) (around : Around) (s : Place) (t : Term) (c : Counting) → wide_.awaiting (noted_around own around) (annotate s t) c ≡ awaiting around t c
unfolding wide_.awaiting awaiting noted_around
awaiting_noted own around s t c = ap {A = Awaited} {B = Counting} (λ a. record c { awaited = a }) (awaited_noted around.encoding s t)

pub item_noted : (own : Bool) (around : Around) (place : ℕ) (c : Counting) → wide_.expecting_item (noted_around own around) place c ≡ expecting_item around place c
unfolding wide_.expecting_item expecting_item noted_around
item_noted own around place c = refl
