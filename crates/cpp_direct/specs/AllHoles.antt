-- The definitions of what open rules still need, exported from one place.
pub use Rattle.cpp_direct.specs.Holes.{AwaitsComponent, AwaitsElement, AwaitsElementAs, Comes, Expects, IsListKind, IsNameAt, IsNumberAt, IsReferable, IsSeqAt, IsTagAt, IsTyped, ListGoesOn, Named, NestGoesOn, NestNamed, Opened, ReadsRest, SamePasses, StandsAt, TypeNamed, bare_name, candidate, cpp_language, opened, unless_listed, with_candidate}
pub use Rattle.cpp_direct.specs.HolesOfArrays.{ArrayOpened, IsSizeAt, access_letters, accessed, array_opening, is_lvalue, is_marked, with_accessed}
pub use Rattle.cpp_direct.specs.HolesOfFunctions.{FunctionOpened, ParameterOpened, ReferenceOpened, SignatureGoesOn, plain_function, pointed, reference, reference_letter, with_pointed}
pub use Rattle.cpp_direct.specs.HolesOfLevels.{LevelOpened, member_of, template_named}
pub use Rattle.cpp_direct.specs.HolesOfLists.{AddressOpened, ArgumentsOpened, BaseClassOpened, BaseOpened, EncodingOpened, EnumeratorOpened, IsArgumentKind, IsDigitsAt, IsOffsetAt, IsSuffix, ItemsOpened, LiteralOpened, NestOpened, PackOpened, SpecialOpened, SymbolOpened, TableOpened, const_letter, mark_letters, minus_sign, nest_marks}
pub use Rattle.cpp_direct.specs.HolesOfLocals.{Discriminator, FirstOpened, GuardOpened, IsComponentAt, IsDiscriminatorAt, IsEntityAt, IsLambdaDigit, IsPieceAt, LambdaEnds, LocalOpened, LocalTypeOpened, MemberOpened, by_digit, by_digits, discriminator_value, entity_in, lambda_digits, lambda_ending, lambda_number, lambda_with, local_in, member_in, unnumbered}
pub use Rattle.cpp_direct.specs.HolesOfNests.{AwaitsArguments, AwaitsInstance, IsFirstRest, IsRest}
pub use Rattle.cpp_direct.specs.HolesOfTypes.{IsNamedKind, IsQualifiable, NameOpens, NoReference, TreeOpens, TreePasses, TypeOpens, as_const}
