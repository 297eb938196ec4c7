use Rattle.sym_link.proofs.Basics.{refl, ◌≡◌, ◌<◌, ◌≤◌, ◌∙◌, ap, arith, [], ◌∷◌, ◌++◌, ◌-◌, drop, length, length-append, length-drop, lt-ltb, le-ltb, counted_language, IsNumber}
use Rattle.sym_link.specs.declared.counting.Part.TheVariants as parts
use Rattle.sym_link.proofs.Cases.{plain_ended, as_many}
use Rattle.sym_link.proofs.Lists.{pushed_at}
use Rattle.sym_link.proofs.counting.CountsLinking.close.Goals as goal

pub returns-then-own-gt3-clause-closes : goal.returns-then-own-gt3-clause-closes
returns-then-own-gt3-clause-closes c rule known from left state is none =
    let own = drop c.args.frame.now.base c.args.parts.now.items in
    let many : 3 < length known = omega (arith, as_many (IsNumber c.args.self.now) own known is.parts, length-drop c.args.frame.now.base c.args.parts.now.items, c.if-own-gt3.true) in
    rw (plain_ended counted_language rule known from left state none, lt-ltb 3 (length known) many, is.place) refl

pub returns-clause-closes : goal.returns-clause-closes
returns-clause-closes c rule known from left state is none =
    let own = drop c.args.frame.now.base c.args.parts.now.items in
    let count = as_many (IsNumber c.args.self.now) own known is.parts in
    let few : length known ≤ 3 = omega (arith, count, length-drop c.args.frame.now.base c.args.parts.now.items, c.if-own-gt3.false) in
    let own_is : c.len.result - c.args.frame.now.base ≡ length known = omega (arith, count, c.len.ensures, c.args.parts.now.ok.0, length-drop c.args.frame.now.base c.args.parts.now.items) in
    rw (plain_ended counted_language rule known from left state none, le-ltb 3 (length known) few) (
      parts.Node c.len-node.result,
      c.in_ok-push-2.ensures.items ∙ ap (λ ps. ps ++ parts.Node c.len-node.result ∷ []) c.truncate.ensures.items,
      (
        _,
        _,
        refl,
        pushed_at c.args.self.now.counts.items c.push.new.self.items (length known) (c.len.result - c.args.frame.now.base) c.len-node.result 0 (c.in_ok-push.ensures.items)
            (omega (arith, c.len-node.ensures, c.args.self.now.counts.ok.0)) own_is,
        omega (arith, is.holds, ap (λ xs. length xs) c.in_ok-push.ensures.items, length-append c.args.self.now.counts.items ((c.len.result - c.args.frame.now.base) ∷ [])),
      ),
    )
