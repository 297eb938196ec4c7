mod AllGround
mod AllRead
pub mod Arguments
mod Basics
pub mod Begins
mod ConstructionTables
pub mod DependentsRead
pub mod Elements
pub mod Ending
mod ForAnswers
mod FunctionsWithin
mod InstancesWithin
pub mod Handed
pub mod Kept
mod LambdasRead
pub mod LettersTested
pub mod Members
mod MemberFunctions
pub mod Listed
pub mod Moves
pub mod MovesOfEncodings
pub mod MovesOfLists
pub mod MovesOfLocals
pub mod MovesOfNests
pub mod MovesOfTypes
pub mod NameLanes
pub mod NamePlaces
pub mod NamedArguments
pub mod NestComponents
pub mod Nesting
pub mod PrintedExpansions
pub mod PrintedFunctions
pub mod PrintedLevels
pub mod PrintedLists
pub mod PrintedLocals
pub mod PrintedNames
pub mod PrintedNests
pub mod PrintedParts
pub mod PrintedSymbols
pub mod PrintedTypes
pub mod Scopes
pub mod ShortNumbers
pub mod Signatures
pub mod TypesRead
pub mod Unmarked
pub mod VisibleTexts
pub mod UnscopedNames
