-- Lemmas on names, lists, types and encodings that were read, exported from one place.
pub use Rattle.cpp_direct.proofs.PrintedNests.{IsPiece, constructor-prints, destructor-prints, instance-as, joins, operator-opening, operator-piece, source-opening, source-piece, tagged-names, tagged-prints, within-as, within-class, within-names, within-tagged}
pub use Rattle.cpp_direct.proofs.PrintedLocals.{address-prints, component-prints, enclosed-prints, entity-shows, function-encloses, lambda-list-prints, local-prints, member-prints, name-encloses, name-shows, object-enclosing, piece-prints, returned-enclosing}
pub use Rattle.cpp_direct.proofs.Ending.{cut-kept, cut-text, ends-so, item-comes, next-separated, next-written, no-void, nothing-ended, parameter-goes_on, plain-text, qualifiers-text, types-scoped, void-read}
pub use Rattle.cpp_direct.proofs.Listed.{IsClosed, TakesElements, comma, element-goes-on, element-kind, element-scoped, element-stands, enumerator-stands, in-front, last-found, list-waits, listing-stays, some-elements, template-listed}
pub use Rattle.cpp_direct.proofs.MovesOfEncodings.{encoding-opens, guard-opens, name-internal, name-operator, name-source, name-std, operator-piece-comes, symbol-starts}
pub use Rattle.cpp_direct.proofs.TypesRead.{builtin-item, popped, reference_entry, whole-awaited}
pub use Rattle.cpp_direct.proofs.Begins.{encoded-whole, encoding-expected, items-await, nest-awaited}
pub use Rattle.cpp_direct.proofs.MovesOfLocals.{LambdaOpened, first-lambda-opens, lambda-opens, lambda-piece, lambda_bytes, local-opens, local-type-opens, nowhere-scoped, number-is}
pub use Rattle.cpp_direct.proofs.NamedArguments.{again-substituted, arguments-given, named-here, named-there, scope-kept, scope_at}
pub use Rattle.cpp_direct.proofs.Nesting.{classless-nest, closed-prints, nest-comes, nest-further, nest-scoped}
