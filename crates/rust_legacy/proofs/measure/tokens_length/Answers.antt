use Rattle.rust_legacy.proofs.Basics.{◌≡◌, ◌≤◌, ◌+◌, length, drop, subst, arith, ap, ◌∙◌, sym, drop_all, take_rest, texts_of, token_of}
use Rattle.rust_legacy.proofs.Bounds.{texts_of_few}
use Rattle.rust_legacy.proofs.Measuring.{counted}
use Rattle.rust_legacy.proofs.Texts.{name_text, whole_text}
use Rattle.rust_legacy.proofs.measure.tokens_length.Goals as goal

pub overflow_add-length : goal.overflow_add-length
overflow_add-length c =
    let bytes = c.args.bytes.now in
    let whole = take_rest bytes c.tokens.at in
    let e = c.token_length-text.ensures in
    let now = counted bytes c.tokens.at c.token_length-text.result.1 c.token_length-text.result.0 c.tokens.length _ c.tokens-test.true
    (subst (λ r. c.token_length-text.result.0 ≡ length (token_of r).text) whole e.length) (subst (λ r. c.token_length-text.result.1 ≡ (token_of r).size) whole e.size) e.within.1
    c.tokens.invariant.1 in
    let few = texts_of_few bytes in
    omega (arith, now, few.0)

pub tokens-preserved : goal.tokens-preserved
tokens-preserved c =
    let bytes = c.args.bytes.now in
    let whole = take_rest bytes c.tokens.at in
    let e = c.token_length-text.ensures in (
      omega (arith, e.within.0, ap length whole),
      counted bytes c.tokens.at c.token_length-text.result.1 c.token_length-text.result.0 c.tokens.length _ c.tokens-test.true
          (subst (λ r. c.token_length-text.result.0 ≡ length (token_of r).text) whole e.length) (subst (λ r. c.token_length-text.result.1 ≡ (token_of r).size) whole e.size) e.within.1
          c.tokens.invariant.1,
    )

pub returns : goal.returns
returns c =
    let bytes = c.args.bytes.now in
    let none = drop_all c.tokens.at bytes c.tokens-test.false in
    omega (arith, c.tokens.invariant.1, ap (λ r. length (whole_text (texts_of r))) none, ap length (name_text (texts_of bytes)))
