use Rattle.short_names.proofs.Basics.{◌≡◌, ℕ, List, AreHoles, left_of, AreElements}
use Rattle.short_names.proofs.elements.Elements.without_defaults.Given as goal

abbrev pub invariant-elements : goal.invariant-elements
invariant-elements l = (elements : List (List ℕ)) → AreElements l.self.text.now l.self.starts.now elements → AreHoles l.named elements l.holes → left_of l.named elements l.fn.count ≡ left_of l.named elements l.left

abbrev pub decreases-elements : goal.decreases-elements
decreases-elements l = l.left
