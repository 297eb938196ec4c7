-- Rust's linking keeps the laws of a language.
use Rattle.std.proofs.Common.{refl, arith, ℕ, List, Option, Some, None, [], sym, subst, ◌∙◌}
use Rattle.sym_link.specs.Linking.{IsLinking}
use Rattle.sym_link.specs.Sound.{lawful_sound}
use Rattle.sym_link.specs.OwingLaws.{cost_rows}
use Rattle.sym_link.specs.Tally.{closing_makes}
use Rattle.sym_link.proofs.Tally.{tallied_laws}
use Rattle.rust_tree.specs.Nodes.{IsAbi, HasAbi}
use Rattle.rust_tree.proofs.Trees.{tree-stays, type-stays, name-stays, within-grown, bytes-grown, HasAbi-grown}
use Rattle.rust_tree.specs.Symbol as tree
use Rattle.rust_tree.specs.declared.node.Abi.{Abi}
use Rattle.rust_v0.specs.declared.part.Part.{Part}
use Rattle.rust_v0.specs.declared.part.Integer.{Integer}
use Rattle.rust_v0.specs.declared.nodes.RustNodes.{RustNodes}
use Rattle.rust_grammar.specs.Value as value
use Rattle.rust_grammar.specs.Value.{Value}
use Rattle.rust_grammar.specs.TableLaws as laws
use Rattle.rust_grammar.specs.Rules.{v0_table}
use Rattle.rust_v0.specs.PartValues.{IsPart, IsSomeInteger}
use Rattle.rust_v0.specs.Made.{ground}
use Rattle.rust_v0.specs.RustNodes.{v0_view, GoesOn}
use Rattle.rust_v0.specs.NodeCount.{made_by, v0_counted}

module _ (s : List ℕ) (old new : RustNodes) (grows : GoesOn old new) where
  abi_stays : (abi : Abi) (spelled : tree.Abi) → IsAbi s old.nodes.text abi spelled → IsAbi s new.nodes.text abi spelled
  abi_stays abi spelled is = (subst (λ t. HasAbi s t abi) (sym grows.nodes.text) (HasAbi-grown s old.nodes.text grows.nodes.more_text [] [] abi is.0), is.1)

  integer_stays : (found : Option Integer) (integer : value.Integer) → IsSomeInteger (ground s old.nodes) found integer → IsSomeInteger (ground s new.nodes) found integer
  integer_stays None integer is = is
  integer_stays (Some found) integer is = record {
    minus = is.minus;
    few = is.few;
    digits = is.digits;
    no_zero = is.no_zero;
    hex = is.hex;
    magnitude = is.magnitude;
    printed = rw grows.nodes.text (within-grown old.nodes.text grows.nodes.more_text found.printed is.printed);
    decimal = rw grows.nodes.text (bytes-grown old.nodes.text grows.nodes.more_text found.printed is.printed ∙ is.decimal);
  }

  stays : (part : Part) (v : Value) → IsPart (ground s old.nodes) part v → IsPart (ground s new.nodes) part v
  stays (Part.Number m) (value.number n) is = is
  stays (Part.Integer found) (value.an_integer integer) is = integer_stays found integer is
  stays (Part.Letter c) (value.letter d) is = is
  stays (Part.Name name) (value.a_name spelled) is = name-stays s old.nodes new.nodes name spelled grows.nodes is
  stays (Part.Identifier name d) (value.an_identifier identifier) is = (name-stays s old.nodes new.nodes name identifier.name grows.nodes is.0, is.1)
  stays (Part.Disambiguator m) (value.a_disambiguator n) is = is
  stays (Part.Binder m) (value.a_binder n) is = is
  stays (Part.Lifetime m) (value.a_lifetime n) is = is
  stays Part.Unsafe value.unsafe_mark is = is
  stays (Part.Abi abi) (value.an_abi spelled) is = abi_stays abi spelled is
  stays (Part.Truth a) (value.a_truth b) is = is
  stays Part.Minus value.minus_mark is = is
  stays (Part.Path node) (value.a_path path) is = tree-stays s old.nodes new.nodes node _ grows.nodes is
  stays (Part.Type node) (value.a_type type) is = type-stays s old.nodes new.nodes node type grows.nodes is
  stays (Part.Constant node) (value.a_constant constant) is = tree-stays s old.nodes new.nodes node _ grows.nodes is
  stays (Part.Arguments node) (value.some_arguments given) is = tree-stays s old.nodes new.nodes node _ grows.nodes is
  stays (Part.Types node) (value.some_types types) is = tree-stays s old.nodes new.nodes node _ grows.nodes is
  stays (Part.Bounds node) (value.some_bounds list) is = tree-stays s old.nodes new.nodes node _ grows.nodes is
  stays (Part.Bindings node) (value.some_bindings list) is = tree-stays s old.nodes new.nodes node _ grows.nodes is
  stays (Part.Suffix span) (value.a_suffix bytes) is = is
  stays Part.SuffixRest value.suffix_rest is = is
  stays (Part.Symbol node) (value.a_symbol symbol) is = tree-stays s old.nodes new.nodes node _ grows.nodes is
  stays part v is = absurd is

pub v0_laws : (s : List ℕ) → IsLinking (v0_view s)
v0_laws s = record {
  sound = lawful_sound v0_table laws.lawful;
  starts = refl;
  part_stays = λ old new part v grows is. stays s old new grows part v is;
  kept_stays = λ old new kept rule grows is. record { is = is.is; few = is.few; there = omega (arith, grows.places, is.there) };
  paid_more = λ linked few more le paid. record { begun = paid.begun; text = omega (arith, le, paid.text); zero = paid.zero };
  keeps_count = λ rule known state. refl;
  few = λ tree is rows. omega (arith, rows, cost_rows (λ number held. 1) (λ number. omega arith) tree);
  two = λ number held. omega arith;
  closing = λ number own. omega arith;
  two_at_once = λ s around held from left rule taken parts rest stands next at_once. record { closed = λ own counted. omega arith; refused = omega arith };
}

pub v0_counted_laws : (s : List ℕ) → IsLinking (v0_counted s)
v0_counted_laws s = tallied_laws (v0_view s) (closing_makes made_by) (v0_laws s)
