use Rattle.rust_legacy.proofs.Basics.{◌≡◌, ◌+◌, ◌++◌, length, drop, subst, arith, inr, ap, sym, ◌∙◌, cost_of, text_of, name_parts, texts_of, token_of, IsRefused}
use Rattle.std.proofs.lemmas.List.{append-nil, drop_all, length-append, take_rest}
use Rattle.rust_legacy.proofs.Texts.{goes, limit_passed, name_cost, name_text, some_texts, token_within, whole_cost, whole_text}
use Rattle.rust_legacy.proofs.Writing.{at_exit, keeps_on, wider}
use Rattle.rust_legacy.proofs.text.write_tokens.Goals as goal

pub returns-in_err-left-clause-err : goal.returns-in_err-left-clause-err
returns-in_err-left-clause-err c =
    let bytes = c.args.bytes.now in
    let texts = texts_of bytes in
    let h = c.in_err-left.ensures.err in
    at_exit c.from_residual.result c.in_err-left.field-0.0 _ c.from_residual.ensures.1 (
    inr (
      h.0,
      omega (
        arith,
        name_cost texts (some_texts bytes c.requires),
        limit_passed bytes c.loop-at.at c.loop-at.left 1 (whole_cost texts) c.args.limit c.loop-at-test.true h.1 (omega arith) c.loop-at.invariant.cost,
      ),
    ))

pub returns-in_err-now-clause-err : goal.returns-in_err-now-clause-err
returns-in_err-now-clause-err c =
    let bytes = c.args.bytes.now in
    let texts = texts_of bytes in
    let i = c.loop-at.invariant in
    let found = c.in_err-now.field-0.0 in
    let token = token_of (drop c.loop-at.at bytes) in
    let fits = token_within bytes c.loop-at.at (c.args.out.now.items ++ whole_text texts) c.loop-at.out.items c.loop-at-test.true i.text in
    at_exit c.from_residual-in_err-now.result found _ c.from_residual-in_err-now.ensures.1 (
    wider found c.in_ok-left.left token.text (length token.text) c.loop-at.out c.args.limit (text_of (name_parts texts)) (cost_of (name_parts texts)) c.args.out.now
    (subst (λ r. IsRefused found c.in_ok-left.left (token_of r).text (length (token_of r).text) c.loop-at.out) (take_rest bytes c.loop-at.at) c.in_err-now.ensures.err)
    (λ room. omega (arith, room, i.keeps.capacity, fits, length-append c.args.out.now.items (whole_text texts), ap length (name_text texts), c.loop-at.out.ok.0, c.args.out.now.ok.0))
    (λ dear. omega (
      arith,
      name_cost texts (some_texts bytes c.requires),
      limit_passed bytes c.loop-at.at c.loop-at.left (1 + length token.text) (whole_cost texts) c.args.limit c.loop-at-test.true (omega (arith, dear, c.in_ok-left.ensures.ok)) (omega arith) i.cost,
    )))

pub loop-at-preserved : goal.loop-at-preserved
loop-at-preserved c =
    let bytes = c.args.bytes.now in
    let whole = take_rest bytes c.loop-at.at in
    let token = c.in_ok-now.ensures.ok in
    let done = goes bytes c.loop-at.at c.in_ok-now.size c.loop-at.left c.in_ok-left.left c.in_ok-now.now c.args.limit (whole_cost (texts_of bytes))
    (c.args.out.now.items ++ whole_text (texts_of bytes)) c.loop-at.out.items c.write_token.new.out.items c.loop-at-test.true
    (subst (λ r. c.in_ok-now.now + length (token_of r).text ≡ c.in_ok-left.left) whole token.0)
    (subst (λ r. c.write_token.new.out.items ≡ c.loop-at.out.items ++ (token_of r).text) whole token.1)
    (subst (λ r. c.in_ok-now.size ≡ (token_of r).size) whole c.in_ok-now.ensures.size)
    c.in_ok-now.ensures.within.1 c.in_ok-left.ensures.ok c.loop-at.invariant.text c.loop-at.invariant.cost in
    record {
      high = omega (arith, c.in_ok-now.ensures.within.0);
      text = done.0;
      cost = done.1;
      keeps = keeps_on c.args.out.now c.loop-at.out c.write_token.new.out c.loop-at.invariant.keeps c.write_token.ensures.keeps;
    }

pub returns-clause-ok : goal.returns-clause-ok
returns-clause-ok c =
    let bytes = c.args.bytes.now in
    let texts = texts_of bytes in
    let i = c.loop-at.invariant in
    let none = drop_all c.loop-at.at bytes c.loop-at-test.false in (
      omega (arith, name_cost texts (some_texts bytes c.requires), i.cost, ap (λ r. whole_cost (texts_of r)) none),
      sym (append-nil c.loop-at.out.items) ∙ ap (λ r. c.loop-at.out.items ++ whole_text (texts_of r)) (sym none) ∙ i.text ∙ ap (λ t. c.args.out.now.items ++ t) (sym (name_text texts)),
    )
