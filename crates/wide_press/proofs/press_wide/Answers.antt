use Rattle.std.proofs.Common.{length, ap, arith, ◌∙◌}
use Rattle.cpp_layout.specs.Layout.{ReadSymbol, whole_of}
use Rattle.cpp_press_laws.specs.Pressing.{pressed}
use Rattle.wide_press.proofs.Checked.{answered, too-long, unread}
use Rattle.wide_press.proofs.press_wide.Goals as goal

pub returns-then-len-most-clause-kept : goal.returns-then-len-most-clause-kept
returns-then-len-most-clause-kept c =
    let out = c.in_ok-out.out in
    too-long c.args.most (whole_of c.args.symbol.now) out.items (c.in_ok-out.ensures.pressed ∙ ap (λ (y : ReadSymbol). pressed (whole_of y)) c.plain.ensures)
    (omega (arith, c.if-len-most.true, c.len.ensures, out.ok.0))

pub returns-then-branch-clause-kept : goal.returns-then-branch-clause-kept
returns-then-branch-clause-kept c =
    let out = c.in_ok-out.out in
    answered c.args.most (whole_of c.args.symbol.now) out.items c.deref.result.now c.in_ok-is_read_as.field-0
    (c.in_ok-out.ensures.pressed ∙ ap (λ (y : ReadSymbol). pressed (whole_of y)) c.plain.ensures) c.deref.ensures.value
    (omega (arith, c.if-len-most.false, c.len.ensures, out.ok.0)) c.if-branch.true c.in_ok-is_read_as.ensures.is

pub returns-then-branch-clause-once : goal.returns-then-branch-clause-once
returns-then-branch-clause-once c =
    let out = c.in_ok-out.out in
    answered (length out.items) (whole_of c.args.symbol.now) out.items c.deref.result.now c.in_ok-is_read_as.field-0
    (c.in_ok-out.ensures.pressed ∙ ap (λ (y : ReadSymbol). pressed (whole_of y)) c.plain.ensures) c.deref.ensures.value
    (omega arith) c.if-branch.true c.in_ok-is_read_as.ensures.is

pub returns-clause-kept : goal.returns-clause-kept
returns-clause-kept c =
    let out = c.in_ok-out.out in
    unread c.args.most (whole_of c.args.symbol.now) out.items c.deref.result.now c.in_ok-is_read_as.field-0
    (c.in_ok-out.ensures.pressed ∙ ap (λ (y : ReadSymbol). pressed (whole_of y)) c.plain.ensures) c.deref.ensures.value c.if-branch.false c.in_ok-is_read_as.ensures.is
