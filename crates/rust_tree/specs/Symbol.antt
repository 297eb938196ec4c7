-- What a symbol denotes: a tree in which nothing is shared and no back reference is left.
use Rattle.std.specs.Prelude.{ℕ, List, Bool, Option}

-- a name as the symbol spells it; a name in Punycode is marked
pub record Name : Type 0 where
  pub punycode : Bool
  pub bytes : List ℕ

-- An identifier. Its disambiguator is 0 where there is none.
pub record Identifier : Type 0 where
  pub disambiguator : ℕ
  pub name : Name

-- the ABI of a function; `KC` differs from an ABI with the name `C`
pub data Abi : Type 0 where
  rust_abi : Abi
  c_abi : Abi
  named_abi : Name → Abi

-- A lifetime is its number among the bound lifetimes around it, the innermost being 1, or 0 if it is erased. A binder is the
-- number of lifetimes that it binds, or 0 if there is none. A basic type and the type of an integer are their letters.
mutual
  pub data Path : Type 0 where
    crate_root : Identifier → Path
    inherent_impl : (disambiguator : ℕ) → Path → Ty → Path
    trait_impl : (disambiguator : ℕ) → Path → Ty → Path → Path
    trait_definition : Ty → Path → Path
    nested : (namespace : ℕ) → Path → Identifier → Path
    generic : Path → Arguments → Path

  pub data Arguments : Type 0 where
    no_arguments : Arguments
    lifetime_argument : (lifetime : ℕ) → Arguments → Arguments
    constant_argument : Constant → Arguments → Arguments
    type_argument : Ty → Arguments → Arguments

  pub data Ty : Type 0 where
    basic : (letter : ℕ) → Ty
    path_type : Path → Ty
    array : Ty → Constant → Ty
    slice : Ty → Ty
    tuple : Tys → Ty
    shared_reference : (lifetime : ℕ) → Ty → Ty
    mutable_reference : (lifetime : ℕ) → Ty → Ty
    const_pointer : Ty → Ty
    mut_pointer : Ty → Ty
    function : (binder : ℕ) → (unsafe : Bool) → Abi → Tys → Ty → Ty
    dyn : (binder : ℕ) → Bounds → (lifetime : ℕ) → Ty

  pub data Tys : Type 0 where
    no_types : Tys
    more_types : Ty → Tys → Tys

  pub data Bounds : Type 0 where
    no_bounds : Bounds
    more_bounds : Path → Bindings → Bounds → Bounds

  pub data Bindings : Type 0 where
    no_bindings : Bindings
    more_bindings : Name → Ty → Bindings → Bindings

  pub data Constant : Type 0 where
    integer : (letter : ℕ) → (minus : Bool) → (magnitude : ℕ) → Constant
    boolean : Bool → Constant
    character : ℕ → Constant
    placeholder : Constant

-- a symbol: its path, the path of the crate that instantiates it, and its suffix with the dot
pub record Symbol : Type 0 where
  pub path : Path
  pub instantiating : Option Path
  pub suffix : List ℕ
