use Rattle.std.proofs.Common.{◌∙◌}
use Rattle.sym_short.proofs.RewritingLemmas.{is-rewritten}
use Rattle.sym_short.proofs.rewriting.RewritingDemangler.demangle.Goals as goal

pub returns-in-Ok : goal.returns-in-Ok
returns-in-Ok g c =
    let by = c.args.self.now in
    let appended = c.in-Text.ensures.1 in (
      c.in-Text.ensures.0,
      is-rewritten (g.D.Demangler.answer by.demangler c.args.kind c.args.symbol.now) (g.R.Rewrites.rewritten by.rewrite c.args.kind c.args.symbol.now) c.args.out.now.items appended.0 c.demangle.new.out.items c.rewrite_or_remove.new.out.items c.len-from.result
          appended.1 appended.2 (c.len-from.ensures ∙ c.args.out.now.ok.0) c.in-Ok.ensures.text,
    )
