-- The rules as the code lists them.
use Rattle.std.specs.Prelude.{ℕ, List, ◌+◌, ◌*◌, get_or, take, drop}
use Rattle.sym_shape.specs.Listing.{listed_in}
use Rattle.sym_shape.specs.declared.rule.Rule.{Rule}
use Rattle.sym_shape.specs.declared.rule.Sym.{Sym}
use Rattle.rust_grammar.specs.declared.table.Head.{Head}
use Rattle.rust_grammar.specs.declared.table.TheConstants.{HEADS, SYMBOLS}

-- the rule with a number in the lists; `head` is the default
unfoldable pub listed_rule : Head → ℕ → Rule
listed_rule head number = record {
  number = (get_or HEADS number head).number;
  eats = (get_or HEADS number head).eats;
  count = (get_or HEADS number head).count;
  symbols = take 5 (drop (number * 6 + 6) SYMBOLS);
}

-- the symbols of a rule from a place of the list on
abbrev pub v0_listed : ℕ → List Sym
v0_listed place = listed_in SYMBOLS place
