use Rattle.std.proofs.Common.{◌≡◌, ◌∙◌, ap, get_or, refl}
use Rattle.sym_shape.specs.Listing.{counts_after}
use Rattle.sym_shape.proofs.Listed.{place_within, after_at}
use Rattle.example_grammar.specs.Paths.{symbols}
use Rattle.example_grammar.specs.declared.TheConstants.{AFTER}
use Rattle.example_grammar.proofs.PathsGrammar.after.Goals as goal

after_each : AFTER ≡ counts_after symbols
after_each = refl

pub bounds-place : goal.bounds-place
bounds-place c = place_within symbols c.args.place c.requires.0 c.requires.1

pub returns : goal.returns
returns c = ap (λ counts. get_or counts c.args.place 0) after_each ∙ after_at symbols c.args.place
