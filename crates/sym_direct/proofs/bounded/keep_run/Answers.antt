use Rattle.std.proofs.Common.{◌∙◌, ◌+◌, ◌-◌, ap, take, drop, arith}
use Rattle.sym_direct.proofs.Marking.{pasted-front, pasted-rest, same-front}
use Rattle.sym_direct.proofs.bounded.keep_run.Goals as goal
use Rattle.sym_direct.proofs.bounded.keep_run.Goals.{then-kept-at, else-kept-at}

pub returns-clause-front : goal.returns-clause-front
returns-clause-front c =
    let bytes = c.args.bytes.now in
    elim c.if-kept-at.branch [
      | then-kept-at w ↦ ap (take (c.args.kept + (c.args.end - c.args.at))) (w.bytes-is ∙ w.copy_within.ensures.after)
          ∙ pasted-front bytes c.args.kept c.args.at c.args.end c.requires.kept c.requires.run c.requires.within
      | else-kept-at w ↦ ap (take (c.args.kept + (c.args.end - c.args.at))) w.bytes-is
          ∙ same-front bytes c.args.kept c.args.at (c.args.end - c.args.at) (omega (arith, c.requires.kept, w.if-kept-at.false))
    ]

pub returns-clause-rest : goal.returns-clause-rest
returns-clause-rest c = elim c.if-kept-at.branch [
  | then-kept-at w ↦ ap (drop c.args.end) (w.bytes-is ∙ w.copy_within.ensures.after)
      ∙ pasted-rest c.args.bytes.now c.args.kept c.args.at c.args.end c.requires.kept c.requires.run c.requires.within
  | else-kept-at w ↦ ap (drop c.args.end) w.bytes-is
]
