use Rattle.rust_tree.proofs.Basics.{sym, ◌∙◌, le-leb, lt-leb}
use Rattle.rust_tree.proofs.Showing.{changed, some-suffix, no-suffix, empty-bytes}
use Rattle.rust_tree.proofs.symbol.Symbol.push_suffix.Goals as goal

pub returns-then-suffix-clause-shows : goal.returns-then-suffix-clause-shows
returns-then-suffix-clause-shows g c below so_far shows within =
    changed c.args.self.now _ _ _ (some-suffix _ so_far (sym (empty-bytes c.args.self.now.bytes c.args.suffix within) ∙ lt-leb c.args.suffix.to c.args.suffix.from c.if-suffix.true)) (c.push_text-then-suffix.ensures.shows _ _ (c.push_bytes.ensures.shows _ _ (c.push_text.ensures.shows _ _ shows) within))

pub returns-else-suffix-clause-shows : goal.returns-else-suffix-clause-shows
returns-else-suffix-clause-shows g c below so_far shows within =
    changed c.args.self.now _ _ _ (no-suffix _ so_far (sym (empty-bytes c.args.self.now.bytes c.args.suffix within) ∙ le-leb c.args.suffix.to c.args.suffix.from c.if-suffix.false)) shows
