use Rattle.rust_legacy.proofs.Basics.{◌≡◌, ◌+◌, ◌-◌, ◌++◌, [], length, take, drop, subst, arith, refl, ap, sym, ◌∙◌, codes, cost_of, text_of, AreNames, front_at, names_parts, shown_name}
use Rattle.std.proofs.lemmas.List.{append-nil, length-append}
use Rattle.rust_legacy.proofs.Paths.{first_name, front_later, names_cost, names_cost_is, parted, text_goes, text_within}
use Rattle.rust_legacy.proofs.Names.{AreNames-low, AreNames-none}
use Rattle.rust_legacy.proofs.Writing.{at_exit, keeps_on, keeps_same, wider}
use Rattle.rust_legacy.proofs.text.write_names.Goals as goal

pub loop-at-init : goal.loop-at-init
loop-at-init c =
    record {
      low = omega arith;
      high = omega (arith, AreNames-low c.args.symbol.now 3 c.args.hash c.requires.names.0 c.requires.names.1);
      goes = λ names are. (names, are, refl, refl);
      keeps = keeps_same c.args.out.now;
    }

pub returns-in_err-left-2-clause-err : goal.returns-in_err-left-2-clause-err
returns-in_err-left-2-clause-err c = λ names are some. (
    let i = c.loop-at.invariant in
    let old = c.args.out.now in
    let found = c.in_err-left-2.field-0.0 in
    let name = c.in-Some.name in
    let bytes = take (name.to - name.from) (drop name.from c.args.symbol.now) in
    let front = front_at c.loop-at.at in
    let goes = i.goes names are in
    let first = first_name c.args.symbol.now c.loop-at.at c.args.hash goes.0 (record { bytes = bytes; size = name.to - c.loop-at.at }) c.loop-at-test.true goes.1 c.in-Some.ensures.name in
    let part = parted front goes.0 bytes first.0 first.1 in
    let fits = text_within c.loop-at.out.items front (text_of (shown_name bytes)) (text_of (names_parts (codes "::") first.0)) _ (ap (λ t. c.loop-at.out.items ++ t) (sym part.text) ∙ goes.2) in
    at_exit c.from_residual-in_err-left-2.result found _ c.from_residual-in_err-left-2.ensures.1 (
    wider found c.in_ok-left.left front (length front) c.loop-at.out c.args.limit (text_of (names_parts [] names)) (cost_of (names_parts [] names)) old
    c.in_err-left-2.ensures.err
    (λ room. omega (arith, room, i.keeps.capacity, fits, length-append old.items (text_of (names_parts [] names)), c.loop-at.out.ok.0, old.ok.0))
    (λ dear. omega (arith, dear, c.in_ok-left.ensures.ok, goes.3, part.cost, names_cost_is [] names some))))

pub returns-in_err-left-3-clause-err : goal.returns-in_err-left-3-clause-err
returns-in_err-left-3-clause-err c = λ names are some. (
    let i = c.loop-at.invariant in
    let old = c.args.out.now in
    let mid = c.write_front.new.out in
    let found = c.in_err-left-3.field-0.0 in
    let name = c.in-Some.name in
    let bytes = take (name.to - name.from) (drop name.from c.args.symbol.now) in
    let front = front_at c.loop-at.at in
    let goes = i.goes names are in
    let first = first_name c.args.symbol.now c.loop-at.at c.args.hash goes.0 (record { bytes = bytes; size = name.to - c.loop-at.at }) c.loop-at-test.true goes.1 c.in-Some.ensures.name in
    let part = parted front goes.0 bytes first.0 first.1 in
    let wrote = c.in_ok-left-2.ensures.ok in
    let fits = text_within c.loop-at.out.items front (text_of (shown_name bytes)) (text_of (names_parts (codes "::") first.0)) _ (ap (λ t. c.loop-at.out.items ++ t) (sym part.text) ∙ goes.2) in
    at_exit c.from_residual-in_err-left-3.result found _ c.from_residual-in_err-left-3.ensures.1 (
    wider found c.in_ok-left-2.left (text_of (shown_name bytes)) (cost_of (shown_name bytes)) mid c.args.limit (text_of (names_parts [] names)) (cost_of (names_parts [] names)) old
    c.in_err-left-3.ensures.err
    (λ room. omega (
      arith,
      room,
      i.keeps.capacity,
      c.write_front.ensures.keeps.capacity,
      fits,
      length-append old.items (text_of (names_parts [] names)),
      ap length wrote.1,
      length-append c.loop-at.out.items front,
      mid.ok.0,
      old.ok.0,
    ))
    (λ dear. omega (arith, dear, wrote.0, c.in_ok-left.ensures.ok, goes.3, part.cost, names_cost_is [] names some))))

pub loop-at-preserved : goal.loop-at-preserved
loop-at-preserved c =
    let i = c.loop-at.invariant in
    let s = c.args.symbol.now in
    let name = c.in-Some.name in
    let bytes = take (name.to - name.from) (drop name.from s) in
    let front = front_at c.loop-at.at in
    let wrote = c.in_ok-left-2.ensures.ok in
    let named = c.in_ok-left-3.ensures.ok in
    let on = front_later name.to (omega (arith, i.low, c.in-Some.ensures.within)) in
    let to : c.loop-at.at + (name.to - c.loop-at.at) ≡ name.to = omega (arith, c.in-Some.ensures.within) in
    let one = i.goes c.requires.names.0 c.requires.names.1 in
    let next = first_name s c.loop-at.at c.args.hash one.0 (record { bytes = bytes; size = name.to - c.loop-at.at }) c.loop-at-test.true one.1 c.in-Some.ensures.name in
    record {
      low = omega (arith, i.low, c.in-Some.ensures.within);
      high = omega (arith, to, AreNames-low s (c.loop-at.at + (name.to - c.loop-at.at)) c.args.hash next.0 next.2);
      goes = λ names are. (
          let goes = i.goes names are in
          let first = first_name s c.loop-at.at c.args.hash goes.0 (record { bytes = bytes; size = name.to - c.loop-at.at }) c.loop-at-test.true goes.1 c.in-Some.ensures.name in
          let part = parted front goes.0 bytes first.0 first.1 in
          let later = text_of (names_parts (codes "::") first.0) in
          let text = text_goes c.loop-at.out.items c.write_front.new.out.items c.write_name.new.out.items front (text_of (shown_name bytes)) later _ wrote.1 named.1 (ap (λ t. c.loop-at.out.items ++ t) (sym part.text) ∙ goes.2) in (
            first.0,
            subst (λ n. AreNames s n c.args.hash first.0) to first.2,
            ap (λ f. c.write_name.new.out.items ++ text_of (names_parts f first.0)) on ∙ text,
            omega (arith, named.0, wrote.0, c.in_ok-left.ensures.ok, goes.3, part.cost, ap (λ f. names_cost f first.0) on),
          ));
      keeps = keeps_on c.args.out.now c.write_front.new.out c.write_name.new.out (keeps_on c.args.out.now c.loop-at.out c.write_front.new.out i.keeps c.write_front.ensures.keeps) c.write_name.ensures.keeps;
    }

pub returns-clause-ok : goal.returns-clause-ok
returns-clause-ok c = λ names are some. (
    let i = c.loop-at.invariant in
    let goes = i.goes names are in
    let none = AreNames-none c.args.symbol.now c.args.hash goes.0 (subst (λ n. AreNames c.args.symbol.now n c.args.hash goes.0) (omega (arith, i.high, c.loop-at-test.false)) goes.1) in (
      omega (arith, goes.3, ap (names_cost (front_at c.loop-at.at)) none, names_cost_is [] names some),
      sym (append-nil c.loop-at.out.items) ∙ ap (λ r. c.loop-at.out.items ++ text_of (names_parts (front_at c.loop-at.at) r)) (sym none) ∙ goes.2,
    ))
