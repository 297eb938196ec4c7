use Rattle.short_names.proofs.Basics.{◌≡◌, ◌+◌, ◌-◌, suc, not, length, drop, sym, ap, ◌∙◌, arith, eq-eqb, ne_eqb, list_all, drop_all, is_no_colon}
use Rattle.short_names.proofs.FrontLemmas.{rest-all}
use Rattle.short_names.proofs.NameLemmas.{end-whole, end-behind, one-more-passes}
use Rattle.short_names.proofs.names.last_part.Goals as goal

pub bytes-init : goal.bytes-init
bytes-init c = record { within = omega arith; all = ap (list_all is_no_colon) (drop_all (length c.args.name.now) c.args.name.now (omega arith)) }

pub bytes-preserved : goal.bytes-preserved
bytes-preserved c =
    let name = c.args.name.now in
    let on : c.bytes.start - 1 + 1 ≡ c.bytes.start = omega (arith, c.bytes-test.true) in
    record {
      within = omega (arith, c.bytes.invariant.within);
      all =
          one-more-passes is_no_colon name (c.bytes.start - 1) (omega (arith, c.bytes-test.true, c.bytes.invariant.within))
          (ap not (ne_eqb _ _ c.if-byte-eq58.false)) (ap (λ k. list_all is_no_colon (drop k name)) on ∙ c.bytes.invariant.all);
    }

pub returns-then-byte-eq58 : goal.returns-then-byte-eq58
returns-then-byte-eq58 c =
    let name = c.args.name.now in
    let on : suc (c.bytes.start - 1) ≡ c.bytes.start = omega (arith, c.bytes-test.true) in
    rest-all name c.bytes.start
    ∙ sym
    (end-behind is_no_colon name (c.bytes.start - 1) (omega (arith, c.bytes-test.true, c.bytes.invariant.within)) (ap not (eq-eqb _ _ c.if-byte-eq58.true))
    (ap (λ k. list_all is_no_colon (drop k name)) on ∙ c.bytes.invariant.all)
    ∙ ap (λ k. drop k name) on)

pub returns : goal.returns
returns c =
    let none : c.bytes.start ≡ 0 = omega (arith, c.bytes-test.false) in
    sym (end-whole is_no_colon c.args.name.now (ap (λ k. list_all is_no_colon (drop k c.args.name.now)) (sym none) ∙ c.bytes.invariant.all))
