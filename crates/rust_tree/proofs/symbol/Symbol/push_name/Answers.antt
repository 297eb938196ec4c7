use Rattle.std.proofs.Common.{sym}
use Rattle.rust_tree.proofs.Pushing.{name-plain, name-decoded}
use Rattle.rust_tree.proofs.Showing.{text-changed}
use Rattle.rust_tree.proofs.symbol.Symbol.push_name.Goals as goal

pub returns-in-None-clause-shows : goal.returns-in-None-clause-shows
returns-in-None-clause-shows g c below so_far shows has =
    text-changed c.args.self.now _ _ _ _ (sym (name-plain c.args.self.now.bytes c.args.self.now.table.text c.args.name c.in-None.is))
    (c.push_bytes.ensures.shows _ _ shows has.0)

pub returns-in-Some-clause-shows : goal.returns-in-Some-clause-shows
returns-in-Some-clause-shows g c below so_far shows has =
    let found = name-decoded c.args.self.now.bytes c.args.self.now.table.text c.args.name c.in-Some.decoded c.in-Some.is has in
    text-changed c.args.self.now _ _ _ _ (found.1) (c.push_printed.ensures.shows _ _ shows found.0)
