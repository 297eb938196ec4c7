use Rattle.cpp_spelling.proofs.Basics.{ap, sym, ◌∙◌, table_of}
use Rattle.cpp_spelling.proofs.Tags.{untagged-some, untagged-none}
use Rattle.cpp_spelling.proofs.names.without_tags.Goals as goal

pub returns-in-Some-clause-tree : goal.returns-in-Some-clause-tree
returns-in-Some-clause-tree c =
    sym c.stored.ensures.tree
    ∙ untagged-some (table_of c.args.symbol.now) c.args.name c.in-Some.untagged c.requires.table c.requires.name
    (ap (λ e. e.untagged) (sym c.entry.ensures) ∙ c.in-Some.is)

pub returns-in-None-clause-tree : goal.returns-in-None-clause-tree
returns-in-None-clause-tree c =
    sym c.stored-in-None.ensures.tree
    ∙ untagged-none (table_of c.args.symbol.now) c.args.name c.requires.table c.requires.name
    (ap (λ e. e.untagged) (sym c.entry.ensures) ∙ c.in-None.is)
