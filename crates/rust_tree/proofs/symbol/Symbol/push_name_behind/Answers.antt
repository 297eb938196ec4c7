use Rattle.rust_tree.proofs.Basics.{sym, ap, name_behind, fixed_text}
use Rattle.rust_tree.proofs.Pushing.{name-plain, name-decoded}
use Rattle.rust_tree.proofs.Showing.{changed}
use Rattle.rust_tree.proofs.symbol.Symbol.push_name_behind.Goals as goal

pub returns-in-None-clause-shows : goal.returns-in-None-clause-shows
returns-in-None-clause-shows g c below so_far shows has =
    changed c.args.self.now _ _ _ (ap (λ b. name_behind (fixed_text c.args.number) b so_far) (sym (name-plain c.args.self.now.bytes c.args.self.now.table.text c.args.name c.in-None.is)))
    (c.push_bytes_behind.ensures.shows _ _ shows has.0)

pub returns-in-Some-clause-shows : goal.returns-in-Some-clause-shows
returns-in-Some-clause-shows g c below so_far shows has =
    let found = name-decoded c.args.self.now.bytes c.args.self.now.table.text c.args.name c.in-Some.decoded c.in-Some.is has in
    changed c.args.self.now _ _ _ (ap (λ b. name_behind (fixed_text c.args.number) b so_far) found.1) (c.push_printed_behind.ensures.shows _ _ shows found.0)
