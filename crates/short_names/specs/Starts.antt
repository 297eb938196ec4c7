-- Elements of a list in a text that ends with them, by where each begins.
use Rattle.std.specs.Prelude.{◌≡◌, ◌<◌, ℕ, List, [], ◌∷◌, ◌++◌, ◌+◌, length}
use Rattle.short_names.specs.Elements.{joined}

-- where each element begins, if the elements are written one after the other from a place on, with `, ` between them
unfoldable pub starts_of : (from : ℕ) → List (List ℕ) → List ℕ
starts_of from [] = []
starts_of from (element ∷ elements) = from ∷ starts_of (from + length element + 2) elements

-- A text ends with these elements, at least one, which begin at these places.
pub record AreElements (text starts : List ℕ) (elements : List (List ℕ)) : Type 0 where
  pub before : List ℕ
  pub text_is : text ≡ before ++ joined elements
  pub starts_are : starts ≡ starts_of (length before) elements
  pub some : 0 < length elements
