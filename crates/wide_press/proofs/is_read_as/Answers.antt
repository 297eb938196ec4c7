use Rattle.std.proofs.Common.{◌≡◌, true, false, Ok, rules, ap, sym, ◌∙◌}
use Rattle.sym_shape.specs.Decided.{AreBytes}
use Rattle.cpp_layout.specs.Layout.{ReadSymbol, whole_of}
use Rattle.cpp_press_laws.specs.Same.{same_tree}
use Rattle.wide_press.proofs.Checked.{reads-told, refused-told, same-reading}
use Rattle.wide_press.proofs.is_read_as.Goals as goal

false-true : false ≡ true → ⊥
false-true bad = cc

pub returns-in_default : goal.returns-in_default
returns-in_default c =
    let s = c.args.bytes.now in
    let are : AreBytes s = λ i. search (rules, c.type_inv.bytes i) in
    record {
      is = refused-told s (whole_of c.args.symbol.now) c.in-Err.refusal are c.in_default.not-Memory c.in-Err.ensures.refused;
      read = λ bad. absurd (false-true bad);
      memory = tt;
    }

pub returns-clause-is : goal.returns-clause-is
returns-clause-is c =
    let s = c.args.bytes.now in
    let t = whole_of c.args.symbol.now in
    let are : AreBytes s = λ i. search (rules, c.type_inv.bytes i) in
    c.in_ok-is_same.ensures.same ∙ ap (λ (y : ReadSymbol). same_tree (whole_of y) (whole_of c.plain-2.result.now)) c.plain.ensures
    ∙ ap (λ (y : ReadSymbol). same_tree t (whole_of y)) c.plain-2.ensures
    ∙ sym (reads-told s t (Ok (whole_of c.in-Ok.again)) are c.in-Ok.ensures.symbol)

pub returns-clause-read : goal.returns-clause-read
returns-clause-read c = λ yes.
    let t = whole_of c.args.symbol.now in
    same-reading c.args.bytes.now t (whole_of c.in-Ok.again) c.in-Ok.ensures.symbol
    (sym (c.in_ok-is_same.ensures.same ∙ ap (λ (y : ReadSymbol). same_tree (whole_of y) (whole_of c.plain-2.result.now)) c.plain.ensures
    ∙ ap (λ (y : ReadSymbol). same_tree t (whole_of y)) c.plain-2.ensures) ∙ yes)
