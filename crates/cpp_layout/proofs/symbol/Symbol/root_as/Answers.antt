use Rattle.cpp_layout.proofs.Basics.{ap, ◌∙◌, noted_shown, tree_at, trees, table_of}
use Rattle.cpp_layout.proofs.Printing.{closed-root}
use Rattle.cpp_layout.proofs.symbol.Symbol.root_as.Goals as goal

pub returns-clause-shows : goal.returns-clause-shows
returns-clause-shows c =
    let ts = trees (table_of c.args.self.now) in
    closed-root c.args.self.now c.args.detail c.closed.result c.root_node.result c.closed.ensures
    ∙ ap (λ n. noted_shown c.args.detail (tree_at ts n)) c.root_node.ensures.root
    ∙ c.texts_are_the_same.ensures c.args.detail (tree_at ts c.args.self.now.root) c.root_node.ensures.read.carries
