use Rattle.std.proofs.Common.{◌≡◌, ◌∙◌, IfSome, ap, false, subst, sym}
use Rattle.sym_shape.specs.Listing.{listed_in}
use Rattle.sym_shape.specs.Table.{symbols_of}
use Rattle.rust_grammar.specs.declared.table.Head.{Head}
use Rattle.rust_grammar.specs.declared.table.TheConstants.{SYMBOLS}
use Rattle.rust_grammar.proofs.Letters.{place_at}
use Rattle.rust_grammar.proofs.table.place.Goals as goal

pub returns-in-Some : goal.returns-in-Some
returns-in-Some c =
    let head : Head = record { number = 0; eats = false; count = 0 } in
    let number = c.in-Some.number in
    subst (λ taken. IfSome taken (λ rule. listed_in SYMBOLS c.place_of.result ≡ symbols_of rule)) (sym (c.in-Some.ensures.rule head))
    (ap (listed_in SYMBOLS) c.place_of.ensures ∙ place_at head number c.in-Some.ensures.few)

pub returns-in-None : goal.returns-in-None
returns-in-None c =
    let head : Head = record { number = 0; eats = false; count = 0 } in
    subst (λ taken. IfSome taken (λ rule. listed_in SYMBOLS 0 ≡ symbols_of rule)) (sym (c.in-None.ensures.rule head)) tt
