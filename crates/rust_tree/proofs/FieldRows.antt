-- The fields of some trees, computed.
use Rattle.rust_tree.proofs.Basics.{◌≡◌, [], ◌∷◌, true, false, None, Some, refl, codes, of_path, of_type, of_types, of_constant, of_symbol, hexadecimal, hexadecimal_before, fields_of}
use Rattle.rust_tree.specs.Symbol as tree

abbrev foo : tree.Path
foo = tree.crate_root (record { disambiguator = 5; name = record { punycode = false; bytes = codes "foo" } })

nested-row : fields_of (of_path (tree.nested 118 foo (record { disambiguator = 2; name = record { punycode = true; bytes = codes "bar" } })))
    ≡ record { production = 6; numbers = 118 ∷ 2 ∷ []; texts = codes "bar" ∷ [] ∷ []; parts = of_path foo ∷ [] }
nested-row = refl

-- the type of the implementation is a path: its part is the node of that path
trait_impl-row : fields_of (of_path (tree.trait_impl 0 foo (tree.path_type foo) foo))
    ≡ record { production = 3; numbers = 0 ∷ 0 ∷ []; texts = [] ∷ [] ∷ []; parts = of_path foo ∷ of_path foo ∷ of_path foo ∷ [] }
trait_impl-row = refl

slice-row : fields_of (of_type (tree.slice (tree.basic 104))) ≡ record { production = 15; numbers = 0 ∷ 0 ∷ []; texts = [] ∷ [] ∷ []; parts = of_type (tree.basic 104) ∷ [] }
slice-row = refl

function-row : fields_of (of_type (tree.function 1 true tree.c_abi tree.no_types (tree.basic 117)))
    ≡ record { production = 22; numbers = 1 ∷ 1 ∷ []; texts = [] ∷ [] ∷ []; parts = of_types tree.no_types ∷ of_type (tree.basic 117) ∷ [] }
function-row = refl

integer-row : fields_of (of_constant (tree.integer 108 true 65055)) ≡ record { production = 33; numbers = 108 ∷ 1 ∷ []; texts = codes "fe1f" ∷ [] ∷ []; parts = [] }
unfolding hexadecimal hexadecimal_before
integer-row = refl

zero-row : fields_of (of_constant (tree.integer 106 false 0)) ≡ record { production = 33; numbers = 106 ∷ 0 ∷ []; texts = [] ∷ [] ∷ []; parts = [] }
unfolding hexadecimal hexadecimal_before
zero-row = refl

symbol-row : fields_of (of_symbol (record { path = foo; instantiating = Some foo; suffix = codes ".llvm.1" }))
    ≡ record { production = 37; numbers = 0 ∷ 0 ∷ []; texts = codes ".llvm.1" ∷ [] ∷ []; parts = of_path foo ∷ of_path foo ∷ [] }
symbol-row = refl

lone-row : fields_of (of_symbol (record { path = foo; instantiating = None; suffix = [] })) ≡ record { production = 37; numbers = 0 ∷ 0 ∷ []; texts = [] ∷ [] ∷ []; parts = of_path foo ∷ [] }
lone-row = refl
