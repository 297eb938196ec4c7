use Rattle.sym_languages.proofs.Basics.{◌≡◌, ℕ, List, ap, subst, Option, Some, None, Result, Refusal, text_within}
use Rattle.std.specs.Option.{MatchOption}
use Rattle.rust_legacy.specs.Path.{AreRead, Path, legacy_of}
use Rattle.rust_legacy.specs.Text.{shown_path}
use Rattle.sym_languages.proofs.legacy.may_be_legacy.Goals as goal

pub returns-in-None : goal.returns-in-None
returns-in-None c = λ _ limit other.
    ap (λ (path : Option Path). elim (elim path as (λ x. Option (Result (List ℕ) Refusal)) [ Some path ↦ Some (text_within limit (shown_path path)) | None ↦ None ]) as (λ x. Result (List ℕ) Refusal) [ Some answer ↦ answer | None ↦ other ])
    (subst (λ found. MatchOption found (legacy_of c.args.symbol.now ≡ None) (AreRead c.args.symbol.now)) c.in-None.is c.names_of.ensures.place)
