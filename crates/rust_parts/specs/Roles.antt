-- Which parts the text of a Rust symbol has: the text with marks, by the symbol's tree and by what its items print, part by part.
use Rattle.std.specs.Prelude.{ℕ, ◌+◌, List, take, drop, slice_get}
use Rattle.rust_tree.specs.Symbol.{Path, Symbol, crate_root, nested, generic}
use Rattle.rust_tree.specs.Nodes.{symbol_in}
use Rattle.rust_tree.specs.Layout.{ReadSymbol, trees_of}
use Rattle.sym_print.specs.Unshared.{Unshared, bytes, item, text_of}
use Rattle.sym_parts.specs.Marked.{Marked, text, marked, ◌before◌}
use Rattle.sym_parts.specs.Marked as marks
use Rattle.sym_parts.specs.Plain.{plain, whole, alone, numbered, only, suffixed}
use Rattle.sym_parts.specs.declared.role.Role.TheVariants as role
use Rattle.sym_parts.specs.declared.spelling.Ordinal.{Ordinal}

-- ## Arguments

-- the arguments of a name's lists are numbered by their list, and within each list from 1 on
abbrev pub argument : (list number : ℕ) → Ordinal
argument list number = record { item = list; element = number }

unfoldable mutual
  -- the arguments of a list from this number on; a comma is in no argument
  pub elements : (list number : ℕ) → Unshared → Marked
  elements list number (item one rest) = alone role.GenericArgument (argument list number) (text_of one) (listed list (number + 1) rest)
  elements list number (bytes comma (item one rest)) =
      text comma (alone role.GenericArgument (argument list number) (text_of one) (listed list (number + 1) rest))
  elements list number printed = plain printed

  -- arguments, if there are any, and what is after them
  pub listed : (list number : ℕ) → Unshared → Marked
  listed list number (item others rest) = elements list number others before plain rest
  listed list number printed = plain printed

-- a list of arguments in brackets, after two colons that are in no part; in brief there is no list
unfoldable pub arguments : (list : ℕ) → Unshared → Marked
arguments list (bytes opening rest) =
    text (take 2 opening) (marked role.GenericArguments (numbered list) (text (drop 2 opening) (listed list 1 rest)) marks.done)
arguments list printed = plain printed

-- ## Implementations

-- the trait that is implemented, if there is one, and what is around it
unfoldable pub of_trait : Unshared → Marked
of_trait (bytes between (item implemented rest)) = text between (alone role.Trait only (text_of implemented) (plain rest))
of_trait printed = plain printed

-- the self type of an implementation, and its trait
unfoldable pub of_type : Unshared → Marked
of_type (bytes opening (item self_type rest)) = text opening (alone role.SelfType only (text_of self_type) (of_trait rest))
of_type printed = plain printed

-- an implementation, with its brackets
abbrev pub implementation : Unshared → Marked
implementation printed = marked role.Impl only (of_type printed) marks.done

-- ## Paths

-- The scope of a name, before this many lists of arguments: its crate or implementation is a part, and so are the arguments of
-- each path in it.
unfoldable pub scope : (lists : ℕ) → Path → Unshared → Marked
scope lists (nested namespace parent own) (item printed rest) = scope lists parent printed before plain rest
scope lists (generic parent args) (item printed rest) = scope (lists + 1) parent printed before arguments lists rest
scope lists (crate_root own) printed = whole role.Crate only printed
scope lists path printed = implementation printed

-- a scope, two colons, and the rest, which is the base
unfoldable pub scoped : (scope : Marked) → (colons : List ℕ) → Unshared → Marked
scoped outer colons rest = marked role.Scope only outer (text (take 2 colons) (marked role.Base only (text (drop 2 colons) (plain rest)) marks.done))

-- The path of a name, before this many lists of arguments. A path that prints nothing after its parent has the parts of its parent.
unfoldable pub name : (lists : ℕ) → Path → Unshared → Marked
name lists (nested namespace parent own) (item printed (bytes colons rest)) = scoped (scope lists parent printed) colons rest
name lists (nested namespace parent own) (item printed rest) = name lists parent printed before plain rest
name lists (generic parent args) (item printed rest) = name (lists + 1) parent printed before arguments lists rest
name lists path printed = scope lists path printed

-- a whole symbol
unfoldable pub symbol_marked : Symbol → Unshared → Marked
symbol_marked symbol (item printed rest) = name 0 symbol.path printed before suffixed rest
symbol_marked symbol printed = plain printed

-- ## Symbols that were read

-- what a symbol denotes
abbrev pub whole_of : ReadSymbol → Symbol
whole_of y = symbol_in (slice_get (trees_of y) y.root)
