use Rattle.rust_tree.proofs.Basics.{ap, sym, subst, signature_opening, abi_of, HasAbi}
use Rattle.rust_tree.proofs.Showing.{changed}
use Rattle.rust_tree.proofs.symbol.Symbol.push_opening.Goals as goal

pub returns-in-Rust-clause-shows : goal.returns-in-Rust-clause-shows
returns-in-Rust-clause-shows g c below so_far shows has =
    changed c.args.self.now _ _ _ (ap (λ a. signature_opening c.args.is_unsafe (abi_of c.args.self.now.bytes a) so_far) (sym c.in-Rust.is)) (c.push_either.ensures.shows _ _ shows)

pub returns-in-C-clause-shows : goal.returns-in-C-clause-shows
returns-in-C-clause-shows g c below so_far shows has =
    changed c.args.self.now _ _ _ (ap (λ a. signature_opening c.args.is_unsafe (abi_of c.args.self.now.bytes a) so_far) (sym c.in-C.is)) (c.push_either-in-C.ensures.shows _ _ (c.push_text-in-C.ensures.shows _ _ (c.push_text.ensures.shows _ _ shows)))

pub returns-in-Named-clause-shows : goal.returns-in-Named-clause-shows
returns-in-Named-clause-shows g c below so_far shows has =
    changed c.args.self.now _ _ _ (ap (λ a. signature_opening c.args.is_unsafe (abi_of c.args.self.now.bytes a) so_far) (sym c.in-Named.is)) (c.push_either-in-Named.ensures.shows _ _ (c.push_name.ensures.shows _ _ (c.push_text-in-Named.ensures.shows _ _ shows) (subst (HasAbi c.args.self.now.bytes c.args.self.now.table.text) c.in-Named.is has)))
