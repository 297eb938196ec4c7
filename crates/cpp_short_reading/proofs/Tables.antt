-- What holds of the tables of both grammars.
use Rattle.cpp_grammar.proofs.Basics.{◌≡◌, ℕ, ◌<◌, List, [], ◌∷◌, slice_get, Bool, true, false, not, Option, Some, None, refl, sym, ap, ◌∙◌, Ok, Token, abi, among, ARGUMENT, ARGUMENT_LIST, ARGUMENTS_ALONE, ARGUMENTS_FIRST, branch, choose, empty, FIRST_OF_LAMBDA, fixed, in_ranges, is_chain, is_in, IsTree, ITEM, kinds, may_be_empty, MAYBE_ARGUMENTS, NEST_MORE_OR_END, NEST_REST, NEST_REST_ALONE, number_of, pick, Rule, rule_of, rule_taken, spell, Sym, SYMBOL, TakesRule, Term, token, Tree, wide, wide_alternatives, wide_choose}
use Rattle.std.proofs.Common.{if◌then◌else◌}
use Rattle.sym_core.specs.declared.NameClass.{NameClass}
use Rattle.sym_shape.specs.Table.{IsToken}
use Rattle.sym_demangle.specs.Mangled.{StandsFor}
use Rattle.cpp_grammar.specs.KindNumbers.{NEST_TAIL}
use Rattle.cpp_grammar.specs.declared.kind.Kind.{Kind}
use Rattle.cpp_grammar.specs.declared.production.Production.{Production}
use Rattle.cpp_short_reading.specs.Grammars.{mangled_by, table_by}
use Rattle.cpp_short_reading.specs.Reading.{unfold_by, unfold_own}
use Rattle.cpp_short_reading.proofs.Arguments.{Replaces, abi_argument, wide_argument, abi_first, wide_first}
use Rattle.cpp_grammar.proofs.Alone.{arguments_maybe, rest_any, list_first}
use Rattle.cpp_grammar.proofs.Choosing.{rule_at_kind, empty_at_kind, wide_rule_at, wide_empty_at}
use Rattle.cpp_grammar.proofs.Growing.{below, wide_kept, same_choice, each_below, kept}
use Rattle.cpp_short_reading.proofs.Staying.{meaning-stays}

-- ## Choices

-- a kind takes a production in the wide table
takes-in-wide : (kind : Kind) (k byte : ℕ) (p : Production) (taken : List ℕ) → slice_get kinds k ≡ Some kind → wide_choose kind byte ≡ Some p → byte < 256
    → taken ≡ (if not (is_chain p) then byte ∷ [] else []) → TakesRule wide k (rule_of p) taken
unfolding rule_of rule_taken
takes-in-wide kind k byte p taken at chosen small takes =
    record { byte = byte; is_byte = small; found = wide_rule_at k kind byte at ∙ ap rule_taken chosen; takes = takes }

-- a kind takes a production at its byte
pub takes-by : (is_wide : Bool) (kind : Kind) (k byte : ℕ) (p : Production) (taken : List ℕ) → slice_get kinds k ≡ Some kind → choose kind byte ≡ Some p → byte < 256
    → taken ≡ (if not (is_chain p) then byte ∷ [] else []) → TakesRule (table_by is_wide) k (rule_of p) taken
unfolding rule_of rule_taken
takes-by false kind k byte p taken at chosen small takes =
    record { byte = byte; is_byte = small; found = rule_at_kind k kind byte at ∙ ap rule_taken chosen; takes = takes }
takes-by true kind k byte p taken at chosen small takes = takes-in-wide kind k byte p taken at (wide_kept kind byte p small chosen) small takes

-- a production that only the wide grammar has
pub takes-wide : (is_wide : Bool) (kind : Kind) (k byte : ℕ) (p : Production) (taken : List ℕ) → is_wide ≡ true → slice_get kinds k ≡ Some kind
    → wide_choose kind byte ≡ Some p → byte < 256 → taken ≡ (if not (is_chain p) then byte ∷ [] else []) → TakesRule (table_by is_wide) k (rule_of p) taken
takes-wide true kind k byte p taken is at chosen small takes = takes-in-wide kind k byte p taken at chosen small takes
takes-wide false kind k byte p taken is at chosen small takes = let clash : false ≡ true = is in absurd cc

-- a kind may be empty in either table as in the grammar
pub empty-by : (is_wide : Bool) (k : ℕ) (kind : Kind) → slice_get kinds k ≡ Some kind → (table_by is_wide).may_be_empty k ≡ may_be_empty kind
empty-by true k kind at = wide_empty_at k kind at
empty-by false k kind at = empty_at_kind k kind at

-- names and numbers are C++'s
pub names-by : (is_wide : Bool) (x : Sym) (t : Token) → IsToken NameClass.Cpp x t → IsToken (table_by is_wide).names x t
unfolding abi wide
names-by true x t is = is
names-by false x t is = is

pub names-are : (is_wide : Bool) (x : Sym) (t : Token) → IsToken (table_by is_wide).names x t → IsToken NameClass.Cpp x t
unfolding abi wide
names-are true x t is = is
names-are false x t is = is

-- ## Kinds without tags, and without packs that begin with an I

rule-same : (small big : Option Production) (rule : Rule) → same_choice small big ≡ true → rule_taken small ≡ Some rule → rule_taken big ≡ Some rule
unfolding rule_taken
rule-same None big rule same is = let clash : None ≡ Some rule = is in absurd cc
rule-same (Some p) big rule same is = ap rule_taken (kept (Some p) big p same refl) ∙ is

-- a kind that has all alternatives of another kind, in whichever order, has all trees of that kind
grows : (j k : ℕ) (small big : Kind) → slice_get kinds j ≡ Some small → slice_get kinds k ≡ Some big
    → each_below 256 (λ b. same_choice (wide_choose small b) (wide_choose big b)) ≡ true → may_be_empty small ≡ may_be_empty big → (t : Tree)
    → IsTree wide (Sym.Kind j) t → IsTree wide (Sym.Kind k) t
grows j k small big at_small at_big same empties (branch rule taken parts) is = (
  record {
    byte = is.0.byte;
    is_byte = is.0.is_byte;
    found = wide_rule_at k big is.0.byte at_big ∙ rule-same (wide_choose small is.0.byte) (wide_choose big is.0.byte) rule
        (below 256 (λ b. same_choice (wide_choose small b) (wide_choose big b)) is.0.byte same is.0.is_byte) (sym (wide_rule_at j small is.0.byte at_small) ∙ is.0.found);
    takes = is.0.takes;
  },
  is.1,
)
grows j k small big at_small at_big same empties empty is = wide_empty_at k big at_big ∙ sym empties ∙ sym (wide_empty_at j small at_small) ∙ is
grows j k small big at_small at_big same empties (token t) is = absurd is
grows j k small big at_small at_big same empties (fixed byte) is = absurd is

-- what may follow a parameter or a substitution may follow any name
pub arguments-by : (is_wide : Bool) (t : Tree) → IsTree (table_by is_wide) (Sym.Kind ARGUMENTS_ALONE) t → IsTree (table_by is_wide) (Sym.Kind MAYBE_ARGUMENTS) t
unfolding kinds may_be_empty in_ranges among is_in pick number_of wide_choose wide_alternatives same_choice each_below
arguments-by true t is = grows ARGUMENTS_ALONE MAYBE_ARGUMENTS Kind.ArgumentsAlone Kind.MaybeArguments refl refl refl refl t is
arguments-by false t is = arguments_maybe t is

pub rests-by : (is_wide : Bool) (t : Tree) → IsTree (table_by is_wide) (Sym.Kind NEST_REST_ALONE) t → IsTree (table_by is_wide) (Sym.Kind NEST_REST) t
unfolding kinds may_be_empty in_ranges among is_in pick number_of wide_choose wide_alternatives same_choice each_below
rests-by true t is = grows NEST_REST_ALONE NEST_REST Kind.NestRestAlone Kind.NestRest refl refl refl refl t is
rests-by false t is = rest_any t is

-- a list of arguments is also a list from its first argument on
pub lists-by : (is_wide : Bool) (t : Tree) → IsTree (table_by is_wide) (Sym.Kind ARGUMENT_LIST) t → IsTree (table_by is_wide) (Sym.Kind ARGUMENTS_FIRST) t
unfolding kinds may_be_empty in_ranges among is_in pick number_of wide_choose wide_alternatives same_choice each_below
lists-by true t is = grows ARGUMENT_LIST ARGUMENTS_FIRST Kind.ArgumentList Kind.ArgumentsFirst refl refl refl refl t is
lists-by false t is = list_first t is

-- in the wide grammar a nested name may also end after the arguments of a substituted name
pub tails-by : (is_wide : Bool) → is_wide ≡ true → (t : Tree) → IsTree (table_by is_wide) (Sym.Kind NEST_TAIL) t → IsTree (table_by is_wide) (Sym.Kind NEST_MORE_OR_END) t
unfolding kinds may_be_empty in_ranges among is_in pick number_of wide_choose wide_alternatives same_choice each_below
tails-by true is t tree = grows NEST_TAIL NEST_MORE_OR_END Kind.NestTail Kind.NestMoreOrEnd refl refl refl refl t tree
tails-by false is t tree = let clash : false ≡ true = is in absurd cc

-- a type is an argument
pub item-by : (is_wide : Bool) (t : Tree) → IsTree (table_by is_wide) (Sym.Kind ITEM) t → Replaces (table_by is_wide) ARGUMENT t
item-by true t is = wide_argument t is
item-by false t is = abi_argument t is

-- a type is the first type of a lambda
pub first-by : (is_wide : Bool) (t : Tree) → IsTree (table_by is_wide) (Sym.Kind ITEM) t → Replaces (table_by is_wide) FIRST_OF_LAMBDA t
first-by true t is = wide_first t is
first-by false t is = abi_first t is

-- ## Symbols

-- the symbol denotes what its whole tree says
pub stands-by : (is_wide : Bool) (s : List ℕ) (shape : Tree) (t : Term) → IsTree (table_by is_wide) (Sym.Kind SYMBOL) shape → spell shape ≡ s
    → unfold_by is_wide shape ≡ Ok t → StandsFor (mangled_by is_wide) s (Ok t)
unfolding unfold_own
stands-by true s shape t shaped spelled is = (shape, shaped, spelled, sym (meaning-stays true shape t is))
stands-by false s shape t shaped spelled is = (shape, shaped, spelled, sym (meaning-stays false shape t is))
