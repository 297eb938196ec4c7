use Rattle.rust_tree.proofs.Basics.{arith, ap, ◌∙◌, ◌++◌, drop, length-drop, codes}
use Rattle.rust_tree.proofs.Showing.{text-changed}
use Rattle.rust_tree.proofs.Hexadecimals.{take-all}
use Rattle.rust_tree.proofs.symbol.Symbol.push_escaped.Goals as goal

pub returns-clause-shows : goal.returns-clause-shows
returns-clause-shows g c below so_far shows =
    text-changed c.args.self.now _ so_far _ _ (ap (λ x. codes "'\\u{" ++ (x ++ codes "}'")) (take-all _ (drop c.write_hexadecimal-from.result c.write_hexadecimal-from.new.list) (omega (arith, length-drop c.write_hexadecimal-from.result c.write_hexadecimal-from.new.list, c.write_hexadecimal-from.array_long)) ∙ c.write_hexadecimal-from.ensures.digits)) (c.push_own.ensures.shows _ _ shows)
