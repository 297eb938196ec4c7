use Rattle.std.proofs.Common.{sym, ◌∙◌}
use Rattle.rust_legacy.proofs.Legacy.{not_begun, not_bytes}
use Rattle.rust_legacy.proofs.Reading.{no_hash, placed}
use Rattle.rust_legacy.proofs.path.is_path.Goals as goal

pub returns-then-not-starts_with-clause-no : goal.returns-then-not-starts_with-clause-no
returns-then-not-starts_with-clause-no c = λ _. not_begun c.args.symbol.now (sym c.if-not-starts_with.ensures.value)

pub returns-then-not-is_hash-clause-no : goal.returns-then-not-is_hash-clause-no
returns-then-not-is_hash-clause-no c = λ _. no_hash c.args.symbol.now c.args.place c.requires _ _ c.in-Some.ensures.name (sym c.is_hash-is_hash.ensures.is ∙ c.if-not-is_hash.true)

pub returns-clause-yes : goal.returns-clause-yes
returns-clause-yes c = λ are.
    placed c.args.symbol.now c.args.place c.requires _ _ c.in-Some.ensures.name (sym c.is_hash-is_hash.ensures.is ∙ c.if-not-is_hash.false)
    (sym c.if-not-starts_with.ensures.value) (sym c.are_legacy_bytes-are.ensures.are ∙ are)

pub returns-clause-no : goal.returns-clause-no
returns-clause-no c = λ are. not_bytes c.args.symbol.now (sym c.are_legacy_bytes-are.ensures.are ∙ are)
