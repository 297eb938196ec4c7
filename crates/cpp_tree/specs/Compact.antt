-- The entries that a table holds in few bytes.
use Rattle.std.specs.Prelude.{ℕ, zero, suc, Bool, true, false, Option, None, Some}
use Rattle.cpp_tree.specs.declared.node.Entry.{Entry}
use Rattle.cpp_tree.specs.declared.node.Node.{Node}
use Rattle.cpp_tree.specs.declared.node.Head.{Head}
use Rattle.cpp_tree.specs.declared.node.Placed.{Placed}
use Rattle.cpp_tree.specs.declared.node.HeadClass.{HeadClass}
use Rattle.cpp_tree.specs.declared.node.Free.{Free}
use Rattle.cpp_tree.specs.declared.node.ByArgument.{ByArgument}
use Rattle.cpp_tree.specs.declared.compact.FreeCount.{FreeCount}
use Rattle.cpp_tree.specs.declared.compact.TypeHead.{TypeHead}
use Rattle.cpp_tree.specs.declared.compact.Compact.{Compact}
use Rattle.cpp_tree.specs.Nodes.{under_kept}
use Rattle.cpp_tree.specs.Notes.{placed_under, if_own, class_by}

-- the length of packs, by the word that is kept: the length plus one, or 0 for no packs
unfoldable pub packs_kept : ℕ → Option ℕ
packs_kept zero = None
packs_kept (suc n) = Some n

-- the first word is a node, and the second the argument under which it is, plus one, or 0 for no argument
abbrev pub placed_kept : (first second : ℕ) → Placed
placed_kept first second = record { node = first; under = under_kept second }

unfoldable pub class_kept : TypeHead → (first second : ℕ) → HeadClass
class_kept TypeHead.FunctionOrArray n m = HeadClass.Known Head.FunctionOrArray
class_kept TypeHead.Lvalue n m = HeadClass.Known Head.Lvalue
class_kept TypeHead.Rvalue n m = HeadClass.Known Head.Rvalue
class_kept TypeHead.OfElement n m = HeadClass.OfElement (placed_kept n m)
class_kept TypeHead.CollapsedOfElement n m = HeadClass.CollapsedOfElement (placed_kept n m)
class_kept _ n m = HeadClass.Known Head.Plain

unfoldable pub arguments_kept : TypeHead → (first second : ℕ) → Option Placed
arguments_kept TypeHead.Arguments n m = Some (placed_kept n m)
arguments_kept TypeHead.ReturningArguments n m = Some (placed_kept n m)
arguments_kept _ n m = None

unfoldable pub untagged_kept : TypeHead → (first second : ℕ) → Option Placed
untagged_kept TypeHead.Tagged n m = Some (placed_kept n m)
untagged_kept _ n m = None

unfoldable pub returns_kept : TypeHead → Bool
returns_kept TypeHead.ReturningArguments = true
returns_kept _ = false

unfoldable pub count_kept : TypeHead → ℕ → ℕ
count_kept TypeHead.Elements n = n
count_kept TypeHead.ElementsWithPack n = n
count_kept _ n = 0

unfoldable pub run_kept : TypeHead → ℕ → ℕ
run_kept TypeHead.Elements n = n
run_kept TypeHead.ElementsWithPack n = n
run_kept _ n = 0

unfoldable pub has_pack_kept : TypeHead → Bool
has_pack_kept TypeHead.ElementsWithPack = true
has_pack_kept _ = false

-- the free parameters: the number is that of the only one, or the greatest of several
unfoldable pub free_kept : FreeCount → (number : ℕ) → Free
free_kept FreeCount.None k = Free.None
free_kept FreeCount.One k = Free.One k
free_kept FreeCount.Several k = Free.Several k

-- an entry, from what its two shared words record
abbrev pub kept : (n : Node) (packs : Option ℕ) (free : Free) (is_empty : Bool) (by_argument : ByArgument) (words : TypeHead) (first second : ℕ) → Entry
kept n packs free is_empty by_argument words first second = record {
  node = n;
  packs = packs;
  free = free;
  is_empty = is_empty;
  by_argument = by_argument;
  class = class_kept words first second;
  arguments = arguments_kept words first second;
  untagged = untagged_kept words first second;
  returns = returns_kept words;
  count = count_kept words first;
  run = run_kept words second;
  has_pack = has_pack_kept words;
}

-- the entry of a list of n elements
abbrev pub with_elements : (n : Node) (packs : Option ℕ) (free : Free) (is_empty : Bool) (by_argument : ByArgument) (count run : ℕ) (has_pack : Bool) → Entry
with_elements n packs free is_empty by_argument count run has_pack = record {
  node = n;
  packs = packs;
  free = free;
  is_empty = is_empty;
  by_argument = by_argument;
  class = HeadClass.Known Head.Plain;
  arguments = None;
  untagged = None;
  returns = false;
  count = count;
  run = run;
  has_pack = has_pack;
}

-- the entry of a type with this head
abbrev pub with_head : (n : Node) (packs : Option ℕ) (free : Free) (is_empty : Bool) (by_argument : ByArgument) (class : HeadClass) → Entry
with_head n packs free is_empty by_argument class = record {
  node = n;
  packs = packs;
  free = free;
  is_empty = is_empty;
  by_argument = by_argument;
  class = class;
  arguments = None;
  untagged = None;
  returns = false;
  count = 0;
  run = 0;
  has_pack = false;
}

-- the entry of a name that ends in these arguments
abbrev pub with_arguments : (n : Node) (packs : Option ℕ) (free : Free) (by_argument : ByArgument) (arguments : Option Placed) (returns : Bool) → Entry
with_arguments n packs free by_argument arguments returns = record {
  node = n;
  packs = packs;
  free = free;
  is_empty = false;
  by_argument = by_argument;
  class = HeadClass.Known Head.Plain;
  arguments = arguments;
  untagged = None;
  returns = returns;
  count = 0;
  run = 0;
  has_pack = false;
}

-- the entry of a name with tags: this name is under them
abbrev pub with_tags : (n : Node) (packs : Option ℕ) (free : Free) (by_argument : ByArgument) (untagged : Placed) → Entry
with_tags n packs free by_argument untagged = record {
  node = n;
  packs = packs;
  free = free;
  is_empty = false;
  by_argument = by_argument;
  class = HeadClass.Known Head.Plain;
  arguments = None;
  untagged = Some untagged;
  returns = false;
  count = 0;
  run = 0;
  has_pack = false;
}

-- the entry of an alias whose head is its tree's own, from the words of the tree and the argument
abbrev pub own_entry : (n : Node) (packs : Option ℕ) (free : Free) (is_empty : Bool) (by_argument : ByArgument) (words : TypeHead) (first second argument : ℕ) → Entry
own_entry n packs free is_empty by_argument words first second argument = record {
  node = n;
  packs = packs;
  free = free;
  is_empty = is_empty;
  by_argument = by_argument;
  class = class_kept words first second;
  arguments = placed_under argument (arguments_kept words first second);
  untagged = placed_under argument (untagged_kept words first second);
  returns = returns_kept words;
  count = count_kept words first;
  run = 0;
  has_pack = has_pack_kept words;
}

-- the entry of an alias, by the entry of its tree and the head that a parameter with the argument has
abbrev pub restated_entry : (n : Node) (packs : Option ℕ) (is_empty : Bool) (own : Entry) (argument : ℕ) (given : HeadClass) → Entry
restated_entry n packs is_empty own argument given = record {
  node = n;
  packs = packs;
  free = own.free;
  is_empty = is_empty;
  by_argument = own.by_argument;
  class = class_by own.by_argument.head own.class given;
  arguments = if_own own.by_argument.head (placed_under argument own.arguments) None;
  untagged = if_own own.by_argument.head (placed_under argument own.untagged) None;
  returns = if_own own.by_argument.head own.returns false;
  count = if_own own.by_argument.head own.count 0;
  run = 0;
  has_pack = if_own own.by_argument.head own.has_pack false;
}

-- the entry that is kept
abbrev pub entry_of : Compact → Entry
entry_of c = kept c.node (packs_kept c.packs) (free_kept c.free c.number) c.is_empty c.by_argument c.words c.first c.second
