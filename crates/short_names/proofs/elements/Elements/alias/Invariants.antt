use Rattle.short_names.proofs.Basics.{◌≡◌, ◌-◌, ℕ, List, length, take, drop, ALIASES, AreHoles, alias_in, aliases_of, AreElements}
use Rattle.short_names.proofs.elements.Elements.alias.Given as goal

abbrev pub invariant-rows : goal.invariant-rows
invariant-rows l = record {
  same : (elements : List (List ℕ)) → AreElements l.fn.self.text.now l.fn.self.starts.now elements → AreHoles l.fn.named elements l.fn.holes →
      alias_in (aliases_of l.fn.named) l.fn.named elements l.fn.count
      ≡ alias_in (take (l.fn.named.template.end_alias - l.k) (drop l.k ALIASES)) l.fn.named elements l.fn.count;
}

abbrev pub decreases-rows : goal.decreases-rows
decreases-rows l = length ALIASES - l.k
