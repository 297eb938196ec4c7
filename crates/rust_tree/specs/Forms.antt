-- The forms of items by their numbers.
use Rattle.std.specs.Prelude.{ℕ, List, [], ◌∷◌, slice_index_or}
use Rattle.rust_tree.specs.declared.form.Form.{Form}

abbrev pub forms : List Form
forms =
    Form.Root ∷ Form.ValuePath ∷ Form.PlainPath ∷ Form.Ty ∷ Form.Constant ∷ Form.FirstArgument ∷ Form.MoreArguments ∷ Form.Lifetime
    ∷ Form.FirstType ∷ Form.MoreTypes ∷ Form.Signature ∷ Form.Names ∷ Form.FirstBound ∷ Form.MoreBounds ∷ Form.Bound ∷ Form.FirstBinding ∷ []

-- the form with a number
abbrev pub form_of : ℕ → Form
form_of number = slice_index_or forms number Form.MoreBindings
