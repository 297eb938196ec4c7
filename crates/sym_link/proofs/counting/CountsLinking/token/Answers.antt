use Rattle.sym_link.proofs.Basics.{refl, ◌∙◌, ◌-◌, ap, arith, length, length-append, take, drop, counted_language, IsNumber}
use Rattle.sym_link.proofs.Cases.{plain_next}
use Rattle.sym_link.proofs.Lists.{all_push}
use Rattle.sym_link.proofs.Lists.{pushed_behind, span_length}
use Rattle.sym_link.proofs.counting.CountsLinking.token.Goals as goal

pub returns-clause-takes : goal.returns-clause-takes
returns-clause-takes c around known from left state t rest is left_is row_is after =
    rw (plain_next counted_language around known from left state) (
      _,
      _,
      refl,
      is.holds,
      _,
      c.in_ok-push.ensures.items ∙ pushed_behind c.args.frame.now.base c.args.parts.now.items _ c.requires.base,
      all_push (IsNumber c.args.self.now) (drop c.args.frame.now.base c.args.parts.now.items) known _ _ is.parts row_is.to,
    )

pub returns-clause-pays : goal.returns-clause-pays
returns-clause-pays c at before first paid =
    omega (
      arith,
      before,
      paid,
      ap (λ xs. length xs) c.in_ok-extend_from_slice.ensures.items,
      length-append c.args.self.now.text.items (take (c.args.row.to - c.args.row.from) (drop c.args.row.from c.args.symbol.now)),
      span_length c.args.row.from c.args.row.to c.args.symbol.now c.requires.from c.requires.to,
    )
