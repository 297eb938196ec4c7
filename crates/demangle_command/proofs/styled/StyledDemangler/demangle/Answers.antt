use Rattle.demangle_command.proofs.Basics.{◌∙◌, sym, subst, refl, IsDemangled, AreWideCountsOf}
use Rattle.demangle_command.proofs.StyleLemmas.{left-out, as-path, as-symbol}
use Rattle.demangle_command.proofs.styled.StyledDemangler.demangle.Goals as goal

pub returns-then-leaves_out : goal.returns-then-leaves_out
returns-then-leaves_out c =
    let self = c.args.self.now in
    (λ other. (left-out self.style self.languages.limit self.languages.detail c.args.kind c.args.symbol.now (sym c.leaves_out.ensures ∙ c.if-leaves_out.true), λ e. cc), refl)

pub returns-then-reads_paths : goal.returns-then-reads_paths
returns-then-reads_paths c =
    let self = c.args.self.now in
    subst (λ a. IsDemangled a (AreWideCountsOf c.args.kind.lang c.args.symbol.now) c.args.out.now.items c.demangle.new.out.items c.demangle.result)
    (sym (as-path self.style self.languages.limit self.languages.detail c.args.kind c.args.symbol.now (sym c.leaves_out.ensures ∙ c.if-leaves_out.false) (sym c.reads_paths.ensures ∙ c.if-reads_paths.true)))
    c.demangle.ensures

pub returns : goal.returns
returns c =
    let self = c.args.self.now in
    subst (λ a. IsDemangled a (AreWideCountsOf c.args.kind.lang c.args.symbol.now) c.args.out.now.items c.demangle-2.new.out.items c.demangle-2.result)
    (sym (as-symbol self.style self.languages.limit self.languages.detail c.args.kind c.args.symbol.now (sym c.leaves_out.ensures ∙ c.if-leaves_out.false) (sym c.reads_paths.ensures ∙ c.if-reads_paths.false)))
    c.demangle-2.ensures
