use Rattle.cpp_grammar.proofs.Basics.{◌≡◌, ◌∙◌, IfSome, ap, false, subst, sym, symbols_of, abi_listed, Head}
use Rattle.cpp_grammar.proofs.Letters.{place_at}
use Rattle.cpp_grammar.proofs.wide_table.place.Goals as goal

pub returns-in-Some : goal.returns-in-Some
returns-in-Some c =
    let head : Head = record { eats = false; count = 0 } in
    let number = c.in-Some.number in
    subst (λ taken. IfSome taken (λ rule. abi_listed c.place_of.result ≡ symbols_of rule)) (sym (c.in-Some.ensures.rule head))
    (ap abi_listed c.place_of.ensures ∙ place_at head number c.in-Some.ensures.few)

pub returns-in-None : goal.returns-in-None
returns-in-None c =
    let head : Head = record { eats = false; count = 0 } in
    subst (λ taken. IfSome taken (λ rule. abi_listed 0 ≡ symbols_of rule)) (sym (c.in-None.ensures.rule head)) tt
