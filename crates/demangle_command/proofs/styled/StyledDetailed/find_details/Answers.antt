use Rattle.demangle_command.proofs.Basics.{◌∙◌, sym, IfOk-weaker}
use Rattle.demangle_command.proofs.StyleLemmas.{details-as-path, details-as-symbol, details-left-out}
use Rattle.demangle_command.proofs.styled.StyledDetailed.find_details.Goals as goal

pub returns-then-leaves_out : goal.returns-then-leaves_out
returns-then-leaves_out c =
    let self = c.args.self.now in
    sym (details-left-out self.style self.languages.limit self.languages.detail c.args.kind c.args.symbol.now (sym c.leaves_out.ensures ∙ c.if-leaves_out.true))

pub returns-then-reads_paths : goal.returns-then-reads_paths
returns-then-reads_paths c =
    let self = c.args.self.now in
    IfOk-weaker c.details_by.result _ _ (λ found is. is ∙ sym (details-as-path self.style self.languages.limit self.languages.detail c.args.kind c.args.symbol.now (sym c.leaves_out.ensures ∙ c.if-leaves_out.false) (sym c.reads_paths.ensures ∙ c.if-reads_paths.true))) c.details_by.ensures

pub returns : goal.returns
returns c =
    let self = c.args.self.now in
    IfOk-weaker c.details_by-2.result _ _ (λ found is. is ∙ sym (details-as-symbol self.style self.languages.limit self.languages.detail c.args.kind c.args.symbol.now (sym c.leaves_out.ensures ∙ c.if-leaves_out.false) (sym c.reads_paths.ensures ∙ c.if-reads_paths.false))) c.details_by-2.ensures
