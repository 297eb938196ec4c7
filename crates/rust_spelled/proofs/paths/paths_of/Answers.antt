use Rattle.std.proofs.Common.{◌≡◌, ◌<◌, length, subst, ◌∷◌, ◌++◌, ◌-◌, [], ap, sym, ◌∙◌, rules}
use Rattle.std.proofs.lemmas.List.Elements.{All-push}
use Rattle.std.specs.List.{All}
use Rattle.rust_spelled.specs.Paths.{paths_from}
use Rattle.rust_spelled.proofs.Walking.{found-all, found-more, paths_from-none, paths_from-past, paths_from-more, paths_from-end}
use Rattle.rust_spelled.proofs.paths.paths_of.Goals as goal

pub returns-in_default-clause-paths : goal.returns-in_default-clause-paths
returns-in_default-clause-paths c =
    found-all _ _ _ (ap (paths_from c.paths.left c.args.rows.now) c.in_default.is ∙ paths_from-none c.paths.left c.args.rows.now) c.paths.invariant.goes

pub returns-then-path-rows-clause-paths : goal.returns-then-path-rows-clause-paths
returns-then-path-rows-clause-paths c =
    found-all _ _ _ (ap (paths_from c.paths.left c.args.rows.now) c.in-Some.is ∙ paths_from-past c.paths.left c.args.rows.now c.in-Some.path c.if-path-rows.true)
    c.paths.invariant.goes

pub paths-preserved : goal.paths-preserved
paths-preserved c =
    let rows = c.args.rows.now in
    let path = c.in-Some.path in
    let old = c.paths.paths.items in
    let new = c.push_within.new.list.items in
    let pushed : new ≡ old ++ path ∷ [] = search rules in
    let more = ap (paths_from c.paths.left rows) c.in-Some.is ∙ paths_from-more c.paths.left rows path c.paths-test.true c.if-path-rows.false in
    record {
      goes = found-more old new (path ∷ []) _ _ pushed (ap (λ next. old ++ path ∷ paths_from (c.paths.left - 1) rows next) c.parent_of-next.ensures ∙ (sym (ap (λ left. old ++ left) more) ∙ c.paths.invariant.goes));
      within = subst (All (λ path. path < length rows)) (sym pushed) (All-push (λ path. path < length rows) old path c.paths.invariant.within c.if-path-rows.false);
    }

pub returns-clause-paths : goal.returns-clause-paths
returns-clause-paths c = found-all _ _ _ (paths_from-end c.paths.left c.args.rows.now c.paths.next c.paths-test.false) c.paths.invariant.goes
