use Rattle.json_lines.proofs.Basics.{◌∙◌, ap, false, not, stays}
use Rattle.json_lines.proofs.MeaningLemmas.{text-known}
use Rattle.json_lines.proofs.texts.has_text.Goals as goal

pub returns : goal.returns
returns g c = ap not (c.stays.ensures ∙ ap stays c.in_ok-meaning.ensures) ∙ text-known false (g.D.Demangler.answer c.args.demangler.now) (g.D.Detailed.details c.args.demangler.now) c.args.word.now
