use Rattle.cpp_layout.proofs.Basics.{ap, codes, sym, ◌∙◌, ◌∷◌, begins_with, bytes_at, text}
use Rattle.cpp_layout.proofs.Growing.{fills}
use Rattle.cpp_layout.proofs.Naming.{source-anonymous, source-plain}
use Rattle.cpp_layout.proofs.symbol.Symbol.push_name.Goals as goal

pub returns-then-is_anonymous-clause-shows : goal.returns-then-is_anonymous-clause-shows
returns-then-is_anonymous-clause-shows g c d below others shows = fills c.args.self.now d _ _ _ (c.push_text.ensures.shows d below others shows) (ap (λ t. text t ∷ others) (source-anonymous (bytes_at c.args.self.now.bytes c.args.name) (ap (λ b. begins_with (codes "_GLOBAL__N") b) (sym c.bytes_of.ensures) ∙ sym c.is_anonymous.ensures ∙ c.if-is_anonymous.true)))

pub returns-else-is_anonymous-clause-shows : goal.returns-else-is_anonymous-clause-shows
returns-else-is_anonymous-clause-shows g c d below others shows = fills c.args.self.now d _ _ _ (c.push_bytes.ensures.shows d below others shows) (ap (λ t. text t ∷ others) (source-plain (bytes_at c.args.self.now.bytes c.args.name) (ap (λ b. begins_with (codes "_GLOBAL__N") b) (sym c.bytes_of.ensures) ∙ sym c.is_anonymous.ensures ∙ c.if-is_anonymous.false)))
