use Rattle.cpp_link.proofs.Basics.{◌≡◌, ℕ, sym, ◌∙◌, ap, ◌-◌, Err, arith, Refusal, BadValue, Result, standing, production_at, State, is_numbered}
use Rattle.cpp_link.proofs.Endings.{plain_opens, first_begins, none_before, number_opens, if_fits, begins_kept}
use Rattle.cpp_link.proofs.linked.Linked.begin_rule.Goals as goal

pub returns-then-not-is_numbered-clause-begins : goal.returns-then-not-is_numbered-clause-begins
returns-then-not-is_numbered-clause-begins c around state rule taken inner place row_is kind known tree behind at surrounds holds =
    let numbered : is_numbered (production_at c.args.row.rule) ≡ c.is_numbered.result = sym c.is_numbered.ensures in (
      state,
      plain_opens c.args.symbol.now c.args.rows.now c.args.row rule taken inner place around state row_is (numbered ∙ c.if-not-is_numbered.true),
      begins_kept c.args.symbol.now c.args.self.now c.args.context c.with_packs-kept.result around state rule taken place c.with_packs-kept.ensures.around c.with_packs-kept.ensures.there c.with_packs-kept.ensures.packs surrounds holds,
      holds,
    )

pub returns-in_default-clause-begins : goal.returns-in_default-clause-begins
returns-in_default-clause-begins c around state rule taken inner place row_is kind known tree behind at surrounds holds = (
  state,
  first_begins (standing rule taken place around state) inner (sym row_is.from ∙ none_before c.args.row.from (λ one. c.in_default.ensures one)),
  begins_kept c.args.symbol.now c.args.self.now c.args.context c.with_packs-kept.result around state rule taken place c.with_packs-kept.ensures.around c.with_packs-kept.ensures.there c.with_packs-kept.ensures.packs surrounds holds,
  holds,
)

pub returns-then-last_fits-clause-begins : goal.returns-then-last_fits-clause-begins
returns-then-last_fits-clause-begins c around state rule taken inner place row_is kind known tree behind at surrounds holds =
    let numbered : is_numbered (production_at c.args.row.rule) ≡ c.is_numbered.result = sym c.is_numbered.ensures in (
      state,
      number_opens c.args.symbol.now c.args.rows.now c.args.row rule taken inner place around state row_is c.in-Some.at kind behind c.args.row c.last_fits.result
          (omega (arith, row_is.from, c.in-Some.ensures)) (omega (arith, row_is.from, c.requires.place)) c.requires.end known tree at
          (numbered ∙ c.if-not-is_numbered.false) c.last_fits.ensures
          ∙ ap (λ b. if_fits b (place - 1) state) c.if-last_fits.true,
      begins_kept c.args.symbol.now c.args.self.now c.args.context c.with_packs-kept.result around state rule taken place c.with_packs-kept.ensures.around c.with_packs-kept.ensures.there c.with_packs-kept.ensures.packs surrounds holds,
      holds,
    )

pub returns-clause-begins : goal.returns-clause-begins
returns-clause-begins c around state rule taken inner place row_is kind known tree behind at surrounds holds =
    let numbered : is_numbered (production_at c.args.row.rule) ≡ c.is_numbered.result = sym c.is_numbered.ensures in
    let refused : ℕ → Result State Refusal = λ n. Err (BadValue n) in
    let place_is : place - 1 ≡ c.in-Some.at = omega (arith, row_is.from, c.in-Some.ensures) in
    number_opens c.args.symbol.now c.args.rows.now c.args.row rule taken inner place around state row_is c.in-Some.at kind behind c.args.row c.last_fits.result
    (omega (arith, row_is.from, c.in-Some.ensures)) (omega (arith, row_is.from, c.requires.place)) c.requires.end known tree at
    (numbered ∙ c.if-not-is_numbered.false) c.last_fits.ensures
    ∙ ap (λ b. if_fits b (place - 1) state) c.if-last_fits.false
    ∙ ap refused place_is
