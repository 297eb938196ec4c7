-- Which rules may begin with a binder.
use Rattle.rust_v0.proofs.Basics.{◌≡◌, ℕ, ◌+◌, ◌<◌, List, map, get_or, refl, sym, ap, ◌∙◌, arith, Option, Some, get_or-map, range_with_len, Part, Production, productions, production_of, number_of}
use Rattle.std.proofs.lemmas.List.FromFn.{get_or-range_with_len}
use Rattle.std.proofs.lemmas.Option.{slice_get_within, get_or_from_slice_get}
use Rattle.rust_grammar.specs.declared.production.Production.TheVariants as rules
use Rattle.rust_v0.specs.CodeOperands as operands

in_order : map number_of productions ≡ range_with_len 0 48
in_order = refl

-- a rule has its production's number
number_of_rule : (rule : ℕ) (p : Production) → production_of rule ≡ Some p → number_of p ≡ rule
number_of_rule rule p is =
    let within : rule < 48 = slice_get_within productions rule p is in
    let here : number_of p ≡ 0 + rule =
    ap number_of (sym (get_or_from_slice_get productions rule p p is)) ∙ sym (get_or-map number_of productions rule p 0 within)
    ∙ ap (λ ns. get_or ns rule 0) in_order ∙ get_or-range_with_len 0 48 rule 0 within in
    omega (arith, here)

-- only rules of functions' and `dyn` types have parts that bind lifetimes
pub binds_nothing : (rule : ℕ) → (rule ≡ 27 → ⊥) → (rule ≡ 28 → ⊥) → (bound : ℕ) (parts : List Part)
    → operands.bound_behind (production_of rule) bound parts ≡ bound
binds_nothing rule no_function no_dyn bound parts = of_production (production_of rule) refl
  where
    of_production : (o : Option Production) → production_of rule ≡ o → operands.bound_behind o bound parts ≡ bound
    of_production (Some rules.Function) is = absurd (no_function (sym (number_of_rule rule rules.Function is)))
    of_production (Some rules.Dyn) is = absurd (no_dyn (sym (number_of_rule rule rules.Dyn is)))
    of_production o is = refl
