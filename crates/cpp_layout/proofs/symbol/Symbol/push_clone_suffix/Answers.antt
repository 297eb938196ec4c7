use Rattle.cpp_layout.proofs.Functions.{no-clone, some-clone}
use Rattle.cpp_layout.proofs.Growing.{bytes-none, bytes-some, fills}
use Rattle.cpp_layout.proofs.symbol.Symbol.push_clone_suffix.Goals as goal

pub returns-then-suffix-clause-shows : goal.returns-then-suffix-clause-shows
returns-then-suffix-clause-shows g c d below others shows = fills c.args.self.now d _ _ _ (c.push_text-then-suffix.ensures.shows _ _ _ (c.push_bytes.ensures.shows _ _ _ (c.push_text.ensures.shows d _ _ shows))) (some-clone _ others (bytes-some _ c.args.suffix c.requires.suffix c.if-suffix.true))

pub returns-else-suffix-clause-shows : goal.returns-else-suffix-clause-shows
returns-else-suffix-clause-shows g c d below others shows = fills c.args.self.now d _ _ _ shows (no-clone _ others (bytes-none _ c.args.suffix c.if-suffix.false))
