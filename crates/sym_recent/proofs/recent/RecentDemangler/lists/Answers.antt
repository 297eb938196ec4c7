use Rattle.sym_recent.proofs.recent.RecentDemangler.lists.Goals as goal

pub invariant_of-result : goal.invariant_of-result
invariant_of-result g c = record { keeps = c.new.ensures.keeps (g.D.Demangler.answer c.args.self.now.demangler); few = c.new.ensures.few }
