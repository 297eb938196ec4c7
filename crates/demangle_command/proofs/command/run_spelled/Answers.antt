use Rattle.demangle_command.proofs.CommandLemmas.{gnu-are, gnu-details, plain-are, plain-details}
use Rattle.demangle_command.proofs.command.run_spelled.Goals as goal

pub run_with-requires-clause-texts : goal.run_with-requires-clause-texts
run_with-requires-clause-texts g c = plain-are (g.D.Demangler.answer c.args.demangler) c.args.options c.requires.texts c.in-Plain.is

pub run_with-requires-in-Gnu-clause-texts : goal.run_with-requires-in-Gnu-clause-texts
run_with-requires-in-Gnu-clause-texts g c =
    gnu-are (g.D.Demangler.answer c.args.demangler) c.args.options c.requires.texts c.reads_paths.result c.reads_paths.ensures c.in-Gnu.is

pub run_with-requires-clause-details : goal.run_with-requires-clause-details
run_with-requires-clause-details g c = plain-details (g.D.Detailed.details c.args.demangler) c.args.options c.requires.details c.in-Plain.is

pub run_with-requires-in-Gnu-clause-details : goal.run_with-requires-in-Gnu-clause-details
run_with-requires-in-Gnu-clause-details g c = gnu-details c.args.options c.in-Gnu.is
