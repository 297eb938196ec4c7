use Rattle.short_names.proofs.Basics.{◌≡◌, ◌≢◌, ◌++◌, ℕ, List, MatchOption, subst, strip_prefix_is, Decides-eqb}
use Rattle.short_names.proofs.patterns.behind.Goals as goal

pub returns-then-byte-lt4 : goal.returns-then-byte-lt4
returns-then-byte-lt4 c =
    let text = c.args.text.now in
    subst (λ (p : List ℕ). MatchOption c.strip_prefix.result ((rest : List ℕ) → text ≢ p ++ rest) (λ x. text ≡ p ++ x.now)) c.filling-part.ensures
    (strip_prefix_is Decides-eqb text c.filling-part.result.now c.strip_prefix.result c.strip_prefix.ensures.cases)
