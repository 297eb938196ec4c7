use Rattle.legacy_parts.proofs.Basics.{◌≡◌, ◌-◌, ◌+◌, ◌∷◌, length, take, drop, subst, arith, ap, sym, ◌∙◌, AreNames, Name, AreNames-low, AreNames-none, some_names, first_name, first_of, place_of, last_of, shown}
use Rattle.legacy_parts.proofs.Sizes.{begun, named_first, next-one, none_named}
use Rattle.legacy_parts.proofs.names.measured.Goals as goal

pub name_at-requires : goal.name_at-requires
name_at-requires c =
    let names = c.requires.names in
    omega (arith, AreNames-low c.args.symbol.now 3 c.args.hash names.0 names.1, c.requires.within)

pub unreachable-requires : goal.unreachable-requires
unreachable-requires c = none_named c.args.symbol.now 3 c.args.hash c.requires.names.0 c.requires.names.1 c.requires.names.2 c.in_default.ensures.name

pub overflow_cast-first : goal.overflow_cast-first
overflow_cast-first c =
    let names = c.requires.names in
    let name = c.in-Some.name in
    let first = named_first c.args.symbol.now 3 c.args.hash names.0 (record { bytes = take (name.to - name.from) (drop name.from c.args.symbol.now); size = name.to - 3 }) names.2 names.1 c.in-Some.ensures.name in
    omega (arith, c.text_length-first.ensures, (begun names.0 _ first.0 first.1 (c.requires.fits names.0 names.1)).0)

pub names-init : goal.names-init
names-init c =
    let s = c.args.symbol.now in
    let names = c.requires.names in
    let name = c.in-Some.name in
    let found : Name = record { bytes = take (name.to - name.from) (drop name.from s); size = name.to - 3 } in
    let to : 3 + (name.to - 3) ≡ name.to = omega (arith, c.in-Some.ensures.within) in
    let one = named_first s 3 c.args.hash names.0 found names.2 names.1 c.in-Some.ensures.name in
    record {
      high = omega (arith, to, AreNames-low s (3 + (name.to - 3)) c.args.hash one.0 one.2);
      goes = λ others are. (
          let first = first_name s 3 c.args.hash others found (omega (arith, AreNames-low s 3 c.args.hash names.0 names.1, names.2)) are c.in-Some.ensures.name in
          let begins = begun others found.bytes first.0 first.1 (c.requires.fits others are) in
          (found.bytes, first.0, subst (λ n. AreNames s n c.args.hash first.0) to first.2, c.text_length-first.ensures, begins.1, begins.2));
    }

pub overflow_add-place : goal.overflow_add-place
overflow_add-place c =
    let s = c.args.symbol.now in
    let names = c.requires.names in
    let name = c.in-Some-name_at.name in
    let goes = c.names.invariant.goes names.0 names.1 in
    let first = first_name s c.names.at c.args.hash goes.1 (record { bytes = take (name.to - name.from) (drop name.from s); size = name.to - c.names.at }) c.names-test.true goes.2 c.in-Some-name_at.ensures.name in
    omega (arith, (next-one names.0 goes.0 goes.1 _ first.0 c.names.last c.names.place names.2 (c.requires.fits names.0 names.1) first.1 goes.3 goes.4 goes.5).3)

pub overflow_add-place-in-names : goal.overflow_add-place-in-names
overflow_add-place-in-names c =
    let s = c.args.symbol.now in
    let names = c.requires.names in
    let name = c.in-Some-name_at.name in
    let goes = c.names.invariant.goes names.0 names.1 in
    let first = first_name s c.names.at c.args.hash goes.1 (record { bytes = take (name.to - name.from) (drop name.from s); size = name.to - c.names.at }) c.names-test.true goes.2 c.in-Some-name_at.ensures.name in
    omega (arith, (next-one names.0 goes.0 goes.1 _ first.0 c.names.last c.names.place names.2 (c.requires.fits names.0 names.1) first.1 goes.3 goes.4 goes.5).3)

pub overflow_cast-last : goal.overflow_cast-last
overflow_cast-last c =
    let s = c.args.symbol.now in
    let names = c.requires.names in
    let name = c.in-Some-name_at.name in
    let goes = c.names.invariant.goes names.0 names.1 in
    let first = first_name s c.names.at c.args.hash goes.1 (record { bytes = take (name.to - name.from) (drop name.from s); size = name.to - c.names.at }) c.names-test.true goes.2 c.in-Some-name_at.ensures.name in
    omega (arith, c.text_length-last.ensures, (next-one names.0 goes.0 goes.1 _ first.0 c.names.last c.names.place names.2 (c.requires.fits names.0 names.1) first.1 goes.3 goes.4 goes.5).0)

pub names-preserved : goal.names-preserved
names-preserved c =
    let s = c.args.symbol.now in
    let names = c.requires.names in
    let name = c.in-Some-name_at.name in
    let at = c.names.at in
    let found : Name = record { bytes = take (name.to - name.from) (drop name.from s); size = name.to - at } in
    let to : at + (name.to - at) ≡ name.to = omega (arith, c.in-Some-name_at.ensures.within) in
    let one = c.names.invariant.goes names.0 names.1 in
    let next = first_name s at c.args.hash one.1 found c.names-test.true one.2 c.in-Some-name_at.ensures.name in
    record {
      high = omega (arith, to, AreNames-low s (at + (name.to - at)) c.args.hash next.0 next.2);
      goes = λ others are. (
          let goes = c.names.invariant.goes others are in
          let first = first_name s at c.args.hash goes.1 found c.names-test.true goes.2 c.in-Some-name_at.ensures.name in
          let some = some_names s 3 c.args.hash others are (λ same. omega (arith, same, c.names-test.true, AreNames-low s 3 c.args.hash names.0 names.1, names.2)) in
          let on = next-one others goes.0 goes.1 found.bytes first.0 c.names.last c.names.place some (c.requires.fits others are) first.1 goes.3 goes.4 goes.5 in
          (found.bytes, first.0, subst (λ n. AreNames s n c.args.hash first.0) to first.2, c.text_length-last.ensures, on.1, on.2));
    }

pub returns : goal.returns
returns c = λ names are. (
    let s = c.args.symbol.now in
    let some = c.requires.names in
    let name = c.in-Some.name in
    let found : Name = record { bytes = take (name.to - name.from) (drop name.from s); size = name.to - 3 } in
    let first = first_name s 3 c.args.hash names found (omega (arith, AreNames-low s 3 c.args.hash some.0 some.1, some.2)) are c.in-Some.ensures.name in
    let goes = c.names.invariant.goes names are in
    let to : c.names.at ≡ c.args.hash = omega (arith, c.names.invariant.high, c.names-test.false) in
    let none = AreNames-none s c.args.hash goes.1 (subst (λ n. AreNames s n c.args.hash goes.1) to goes.2) in
    record {
      first = c.text_length-first.ensures ∙ ap (λ n. length (shown (first_of n))) (sym first.1);
      last = goes.3 ∙ ap (λ n. length (shown n)) (ap (λ r. last_of (goes.0 ∷ r)) (sym none) ∙ goes.5);
      place = omega (arith, goes.4, ap (λ r. place_of (goes.0 ∷ r)) none);
    })
