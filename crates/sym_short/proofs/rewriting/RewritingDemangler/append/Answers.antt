use Rattle.std.proofs.Common.{◌∙◌, subst, sym}
use Rattle.sym_filter.specs.Demangled.{IsAppended}
use Rattle.sym_short.proofs.RewritingLemmas.{is-kept, is-rewritten}
use Rattle.sym_short.proofs.rewriting.RewritingDemangler.append.Goals as goal

pub returns-then-keeps_texts : goal.returns-then-keeps_texts
returns-then-keeps_texts g c =
    let by = c.args.self.now in
    subst (λ answer. IsAppended answer c.args.out.now.items c.append.new.out.items c.append.result)
    (sym (is-kept (g.D.Demangler.answer by.demangler c.args.kind c.args.symbol.now) (g.R.Rewrites.rewritten by.rewrite c.args.kind c.args.symbol.now) (c.keeps_texts.ensures c.if-keeps_texts.true c.args.kind c.args.symbol.now)))
    c.append.ensures

pub returns : goal.returns
returns g c =
    let by = c.args.self.now in
    let appended = c.in_ok-append.ensures in
    is-rewritten (g.D.Demangler.answer by.demangler c.args.kind c.args.symbol.now) (g.R.Rewrites.rewritten by.rewrite c.args.kind c.args.symbol.now) c.args.out.now.items appended.0 c.append-2.new.out.items c.rewrite_or_remove.new.out.items c.len-from.result
    appended.1 appended.2 (c.len-from.ensures ∙ c.args.out.now.ok.0) c.in_ok-rewrite_or_remove.ensures.text
