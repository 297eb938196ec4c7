-- Bounds of a `dyn` whose text is known.
use Rattle.std.proofs.Common.{◌≡◌, refl, ap, sym, subst, ◌∙◌, ℕ, List, [], ◌++◌, true, false, arith, codes, length-append, append-nil, Some, Bool}
use Rattle.rust_direct.proofs.Basics.{done, text_of, ◌then◌, ◌also◌, ◌perhaps◌, Path, Bounds, crate_root, nested, generic, inherent_impl, trait_impl, trait_definition, more_bounds, no_bindings, no_bounds, dyn, need, path_parts, bounds_from, detail_by, IsWrittenAs, PathPrints, TypePrints, text_of_some, cost_of_some, BoundsBegin}
use Rattle.rust_direct.proofs.WrittenTexts.{perhaps-text, written-plain, written-after, one-written, after-others}
use Rattle.rust_direct.proofs.PrintedPaths.{then-cost, perhaps-cost}

-- no text comes before the first bound
pub no-bounds-begin : (brief : Bool) → BoundsBegin brief (λ b. b) [] []
no-bounds-begin brief = record { plain = refl; text_is = λ rest more p. p; cost = λ rest. omega arith; needs_none = λ rest h. h }

-- a bound is an item whose only part is its path
bound-shown : (brief : Bool) (separator : List ℕ) (p : Path) (rest : Bounds)
    → bounds_from (detail_by brief) 0 separator (more_bounds p no_bindings rest)
    ≡ Some (separator then (path_parts (detail_by brief) 0 false p also done) also bounds_from (detail_by brief) 0 (codes " + ") rest perhaps done)
unfolding path_parts
bound-shown true separator (crate_root name) rest = refl
bound-shown true separator (inherent_impl d q t) rest = refl
bound-shown true separator (trait_impl d q t r) rest = refl
bound-shown true separator (trait_definition t r) rest = refl
bound-shown true separator (nested letter q name) rest = refl
bound-shown true separator (generic q args) rest = refl
bound-shown false separator (crate_root name) rest = refl
bound-shown false separator (inherent_impl d q t) rest = refl
bound-shown false separator (trait_impl d q t r) rest = refl
bound-shown false separator (trait_definition t r) rest = refl
bound-shown false separator (nested letter q name) rest = refl
bound-shown false separator (generic q args) rest = refl

-- a path after other bounds
pub bound-begins : (brief : Bool) (made : Bounds → Bounds) (separator bytes : List ℕ) (p : Path) (own : List ℕ) → BoundsBegin brief made separator bytes
    → PathPrints brief false p own → BoundsBegin brief (λ r. made (more_bounds p no_bindings r)) (codes " + ") (bytes ++ separator ++ own)
unfolding need
bound-begins brief made separator bytes p own begin prints =
    let u = path_parts (detail_by brief) 0 false p also done in
    record {
      plain = refl;
      text_is = λ rest more w. subst (λ l. IsWrittenAs brief (text_of_some (bounds_from (detail_by brief) 0 [] (made (more_bounds p no_bindings rest)))) l)
          (after-others bytes separator own more) (begin.text_is (more_bounds p no_bindings rest) (separator ++ (own ++ more))
          (subst (λ o. IsWrittenAs brief (text_of_some o) (separator ++ (own ++ more))) (sym (bound-shown brief separator p rest))
          (one-written brief separator own more u (bounds_from (detail_by brief) 0 (codes " + ") rest) begin.plain
          (subst (λ l. IsWrittenAs brief l own) (sym (append-nil (text_of (path_parts (detail_by brief) 0 false p)))) prints.shows.text_is) w)));
      cost = λ rest. omega (
        arith,
        begin.cost (more_bounds p no_bindings rest),
        ap cost_of_some (bound-shown brief separator p rest),
        prints.shows.cost,
        then-cost separator (u also bounds_from (detail_by brief) 0 (codes " + ") rest perhaps done),
        perhaps-cost (bounds_from (detail_by brief) 0 (codes " + ") rest) done,
        length-append (bytes ++ separator) own,
        length-append bytes separator,
      );
      needs_none = λ rest h. begin.needs_none (more_bounds p no_bindings rest) (omega (arith, prints.needs_none, h));
    }

-- A `dyn` prints its bounds.
pub dyn-prints : (brief : Bool) (made : Bounds → Bounds) (bytes : List ℕ) → BoundsBegin brief made (codes " + ") bytes → TypePrints brief (dyn 0 (made no_bounds) 0) (codes "dyn " ++ bytes)
unfolding path_parts need
dyn-prints brief made bytes begin =
    let o = bounds_from (detail_by brief) 0 [] (made no_bounds) in
    record {
      shows = record {
        text_is = subst (λ l. IsWrittenAs brief (codes "dyn " ++ l) (codes "dyn " ++ bytes)) (sym (perhaps-text o done ∙ append-nil (text_of_some o)))
            (written-after brief (codes "dyn ") (text_of_some o) bytes refl
            (subst (λ l. IsWrittenAs brief (text_of_some o) l) (append-nil bytes) (begin.text_is no_bounds [] (written-plain brief [] refl))));
        cost = omega (arith, begin.cost no_bounds, perhaps-cost o done, length-append (codes "dyn ") bytes);
      };
      needs_none = omega (arith, begin.needs_none no_bounds refl);
    }
