use Rattle.rust_tree.proofs.Basics.{ap, sym, le-leb, lt-leb, nested_name, identifier_of}
use Rattle.rust_tree.proofs.Showing.{changed}
use Rattle.rust_tree.proofs.symbol.Symbol.push_nested.Goals as goal

pub returns-then-namespace-ge97-clause-shows : goal.returns-then-namespace-ge97-clause-shows
returns-then-namespace-ge97-clause-shows g c below so_far shows has =
    changed c.args.self.now _ _ _ (ap (λ b. nested_name b c.args.namespace (identifier_of c.args.self.now.bytes c.args.name c.args.disambiguator) so_far) (sym (le-leb 97 c.args.namespace c.if-namespace-ge97.true))) (c.push_name_behind.ensures.shows _ _ shows has)

pub returns-else-namespace-ge97-clause-shows : goal.returns-else-namespace-ge97-clause-shows
returns-else-namespace-ge97-clause-shows g c below so_far shows has =
    changed c.args.self.now _ _ _ (ap (λ b. nested_name b c.args.namespace (identifier_of c.args.self.now.bytes c.args.name c.args.disambiguator) so_far) (sym (lt-leb 97 c.args.namespace c.if-namespace-ge97.false))) (c.push_special.ensures.shows _ _ shows has)
