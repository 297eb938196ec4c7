use Rattle.std.proofs.Common.{◌∙◌, ap, map}
use Rattle.symbol_parts.specs.Parsed.{found, part_behind}
use Rattle.symbol_parts.proofs.Parsing.{behind-parts}
use Rattle.symbol_parts.proofs.behind.parsed_behind.Goals as goal

pub returns : goal.returns
returns c = behind-parts c.args.skip (found c.args.parsed) c.in_ok-parts.parts.items (c.in_ok-parts.ensures ∙ ap (map (part_behind c.args.skip)) c.deref.ensures.value)
