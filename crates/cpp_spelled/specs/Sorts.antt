-- How the rows of a shape relate to the parts of a name.
use Rattle.std.specs.Prelude.{ℕ, Bool, ◌&&◌, Some, None, slice_get, nat_le, if◌then◌else◌}
use Rattle.cpp_grammar.specs.declared.production.Production.{Production}
use Rattle.cpp_grammar.specs.Grammar.{productions}
use Rattle.sym_shape.specs.declared.rule.Row.{Row}
use Rattle.cpp_spelled.specs.declared.sort.Sort.{Sort}
use Rattle.cpp_spelled.specs.declared.sort.Sort.TheVariants as sort
use Rattle.cpp_spelled.specs.declared.sought.Sought.{Sought}
use Rattle.cpp_spelled.specs.declared.sought.TheConstants.{ANY_ENCODING}

-- how the row of a production relates to the parts of a name
unfoldable pub sort_of : Production → Sort
sort_of Production.Symbol = sort.Opened
sort_of Production.NonVirtualThunk = sort.Opened
sort_of Production.VirtualThunk = sort.Opened
sort_of Production.CovariantThunk = sort.Opened
sort_of Production.Clone = sort.Opened
sort_of Production.NestArguments = sort.Opened
sort_of Production.NestNext = sort.Opened
sort_of Production.NestTag = sort.Opened
sort_of Production.Constructor = sort.Opened
sort_of Production.OperatorNameWithC = sort.Opened
sort_of Production.Holder = sort.Opened
sort_of Production.InModule = sort.Opened
sort_of Production.InNamedModule = sort.Opened
sort_of Production.DefaultEntity = sort.Opened
sort_of Production.Special = sort.Special
sort_of Production.OtherSpecial = sort.Special
sort_of Production.Encoding = sort.Encoding
sort_of Production.SpecialType = sort.Object
sort_of Production.SpecialName = sort.Object
sort_of Production.ParameterObject = sort.Object
sort_of Production.ConstructionVtable = sort.Object
sort_of Production.ModuleInitializer = sort.Object
sort_of Production.Temporary = sort.Temporary
sort_of Production.LocalName = sort.Local
sort_of Production.NestedName = sort.Nested
sort_of Production.NameWithS = sort.Begin
sort_of Production.NestWithS = sort.Begin
sort_of Production.NestParameter = sort.Begin
sort_of Production.NestInternal = sort.Begin
sort_of Production.NestLocalType = sort.Begin
sort_of Production.NestSource = sort.Begin
sort_of Production.NestDecltype = sort.Begin
sort_of Production.NestModule = sort.Begin
sort_of Production.SourceName = sort.Component
sort_of Production.InternalName = sort.Component
sort_of Production.LocalTypeName = sort.Component
sort_of Production.OperatorName = sort.Component
sort_of Production.OtherOperatorName = sort.Component
sort_of Production.ComponentWithC = sort.Component
sort_of Production.AnyConstructor = sort.Component
sort_of Production.Destructor = sort.Component
sort_of Production.BindingName = sort.Component
sort_of Production.Friend = sort.Component
sort_of Production.StringLiteral = sort.Component
sort_of Production.StdName = sort.InStd
sort_of Production.NestStd = sort.InStd
sort_of Production.AbbreviatedName = sort.Whole
sort_of Production.NestTemplate = sort.Whole
sort_of Production.Tag = sort.Tag
sort_of Production.Arguments = sort.ArgumentList
sort_of Production.NestInstance = sort.ArgumentList
sort_of Production.NestEnd = sort.End
sort_of Production.PackArgument = sort.Argument
sort_of Production.LiteralArgument = sort.Argument
sort_of Production.AnyArgument = sort.Argument
sort_of Production.LiteralElement = sort.Element
sort_of Production.AnyElement = sort.Element
sort_of Production.Items = sort.Parameter
sort_of Production.Suffix = sort.Suffix
sort_of _ = sort.Closed

-- the sort of a row, by the number of its production
unfoldable pub sort_at : (rule : ℕ) → Sort
sort_at rule = elim (slice_get productions rule) [ Some production ↦ sort_of production | None ↦ sort.Closed ]

-- the number of a sort, in the order of the sorts
unfoldable pub number_of_sort : Sort → ℕ
number_of_sort sort.Closed = 0
number_of_sort sort.Suffix = 1
number_of_sort sort.Object = 2
number_of_sort sort.Temporary = 3
number_of_sort sort.Opened = 4
number_of_sort sort.Special = 5
number_of_sort sort.Encoding = 6
number_of_sort sort.Local = 7
number_of_sort sort.Nested = 8
number_of_sort sort.Begin = 9
number_of_sort sort.Component = 10
number_of_sort sort.InStd = 11
number_of_sort sort.Whole = 12
number_of_sort sort.Tag = 13
number_of_sort sort.ArgumentList = 14
number_of_sort sort.End = 15
number_of_sort sort.Argument = 16
number_of_sort sort.Element = 17
number_of_sort sort.Parameter = 18

-- rows of this sort are sought
unfoldable pub is : Sought → Sort → Bool
is sought s = nat_le (number_of_sort sought.first) (number_of_sort s) && nat_le (number_of_sort s) (number_of_sort sought.last)

-- how a row relates to the parts of a name; the encoding of a local name, before an `E` and the entity, is closed
unfoldable pub sort_in : Row → Sort
sort_in row = if is ANY_ENCODING (sort_at row.rule) && nat_le 2 row.after then sort.Closed else sort_at row.rule
