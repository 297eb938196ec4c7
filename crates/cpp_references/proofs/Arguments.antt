-- The arguments that a name ends in: if no parameter is free in the name, none is free in the arguments, nor in any of them.
use Rattle.cpp_references.proofs.Basics.{◌≡◌, refl, ap, subst, ℕ, zero, suc, Bool, true, false, Option, Some, None, IfSome, Term, instance, local, of_default, list, is_open, arguments_of, element, closed_arguments, or_left, or_right}

arguments_closed : (t : Term) → is_open t ≡ false → IfSome (arguments_of t) (λ a. is_open a ≡ false)
unfolding is_open arguments_of
arguments_closed (instance template arguments) closed = or_right (is_open template) (is_open arguments) closed
arguments_closed (local encoding entity discriminator) closed = arguments_closed entity closed
arguments_closed (of_default digits entity) closed = arguments_closed entity closed
arguments_closed _ closed = tt

pub none_closed : (t : Term) → is_open t ≡ true → closed_arguments t ≡ None
unfolding closed_arguments
none_closed t is = ap (λ b. elim b as (λ _. Option Term) [ true ↦ None | false ↦ arguments_of t ]) is

pub some_closed : (t : Term) → is_open t ≡ false → closed_arguments t ≡ arguments_of t
unfolding closed_arguments
some_closed t is = ap (λ b. elim b as (λ _. Option Term) [ true ↦ None | false ↦ arguments_of t ]) is

-- an argument of a name without free parameters has no free parameters
pub argument_closed : (t a : Term) → is_open t ≡ false → arguments_of t ≡ Some a → is_open a ≡ false
argument_closed t a closed is = subst (λ o. IfSome o (λ x. is_open x ≡ false)) is (arguments_closed t closed)

pub closed_are : (t : Term) → IfSome (closed_arguments t) (λ a. is_open a ≡ false)
unfolding closed_arguments
closed_are t = by (is_open t) refl
  where
    by : (b : Bool) → is_open t ≡ b → IfSome (elim b as (λ _. Option Term) [ true ↦ None | false ↦ arguments_of t ]) (λ a. is_open a ≡ false)
    by true is = tt
    by false is = arguments_closed t is

pub element_closed : (t : Term) (k : ℕ) → is_open t ≡ false → is_open (element t k) ≡ false
unfolding is_open element
element_closed (list first rest) zero closed = or_left (is_open first) (is_open rest) closed
element_closed (list first rest) (suc k) closed = element_closed rest k (or_right (is_open first) (is_open rest) closed)
element_closed _ k closed = refl
