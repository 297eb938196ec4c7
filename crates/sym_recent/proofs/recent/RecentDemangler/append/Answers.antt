use Rattle.sym_recent.proofs.recent.RecentDemangler.append.Goals as goal

pub invariant_of-lists-2 : goal.invariant_of-lists-2
invariant_of-lists-2 g c = record { keeps = c.looks.ensures.keeps (g.D.Demangler.answer c.args.lists.now.demangler) c.args.lists.now.keeps; few = c.looks.ensures.few c.args.lists.now.few }

pub invariant_of-lists : goal.invariant_of-lists
invariant_of-lists g c = record { keeps = c.looks.ensures.keeps (g.D.Demangler.answer c.args.lists.now.demangler) c.args.lists.now.keeps; few = c.looks.ensures.few c.args.lists.now.few }
