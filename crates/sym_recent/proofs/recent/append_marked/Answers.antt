use Rattle.std.proofs.Common.{◌∙◌, ap, sym, Ok}
use Rattle.sym_recent.proofs.KeptLemmas.{behind}
use Rattle.sym_recent.proofs.recent.append_marked.Goals as goal

pub invariant_of-lists : goal.invariant_of-lists
invariant_of-lists g c = record { keeps = c.came_again.ensures.keeps (g.D.Demangler.answer c.args.lists.now.demangler) c.args.lists.now.keeps; few = c.came_again.ensures.few c.args.lists.now.few }

pub invariant_of-lists-2 : goal.invariant_of-lists-2
invariant_of-lists-2 g c =
    let text = c.in_ok-append.ensures.0 in
    let is = c.in_ok-append.ensures.1 in
    let new_is = c.in_ok-append.ensures.2 in
    let text_is = behind c.args.out.now.items c.append.new.out.items c.deref.result.now text c.len-length.result (c.len-length.ensures ∙ c.args.out.now.ok.0) c.deref.ensures.value new_is in
    record { keeps = c.take.ensures.keeps (g.D.Demangler.answer c.args.lists.now.demangler) c.args.lists.now.keeps (is ∙ ap Ok (sym text_is)); few = c.take.ensures.few c.args.lists.now.few }
