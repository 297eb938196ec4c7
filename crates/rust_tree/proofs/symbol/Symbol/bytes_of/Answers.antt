use Rattle.std.proofs.Common.{◌-◌, ◌∙◌, ap, drop, take}
use Rattle.rust_tree.proofs.symbol.Symbol.bytes_of.Goals as goal

pub returns : goal.returns
returns c =
    ap (λ l. take (c.args.span.to - c.args.span.from) (drop c.args.span.from l)) (c.deref.ensures.value ∙ ap (λ v. v.bytes) c.self.view_is)
