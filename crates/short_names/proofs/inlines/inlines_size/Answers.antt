use Rattle.std.proofs.Common.{length, drop, sym, ap, ◌∙◌, arith, length-drop, drop-drop}
use Rattle.short_names.proofs.Basics.{inlines_size, size_of, row_in}
use Rattle.short_names.proofs.FrontLemmas.{rest-all, first-dropped}
use Rattle.short_names.proofs.InlineLemmas.{size-behind, size-none, size-other, size-end}
use Rattle.short_names.proofs.inlines.inlines_size.Goals as goal

pub returns-then-name-size-ne95-clause-size : goal.returns-then-name-size-ne95-clause-size
returns-then-name-size-ne95-clause-size c =
    let name = c.args.name.now in
    let other = size-other c.args.rows.now (drop c.names.size name) c.requires (λ low. c.if-name-size-ne95.true (sym (first-dropped name c.names.size) ∙ low)) in
    omega (arith, c.names.invariant.so_far, other)

pub returns-then-next-eq0-clause-size : goal.returns-then-next-eq0-clause-size
returns-then-next-eq0-clause-size c =
    let name = c.args.name.now in
    let is = sym (c.row_size-next.ensures.size ∙ ap (λ t. size_of (row_in c.args.rows.now t)) (rest-all name c.names.size)) ∙ c.if-next-eq0.true in
    omega (arith, c.names.invariant.so_far, size-none c.args.rows.now (drop c.names.size name) is)

pub names-preserved : goal.names-preserved
names-preserved c =
    let name = c.args.name.now in
    let rows = c.args.rows.now in
    let size = c.names.size in
    let next = c.row_size-next.result in
    let rest = rest-all name size in
    let is = sym (c.row_size-next.ensures.size ∙ ap (λ t. size_of (row_in rows t)) rest) in
    record {
      within = omega (arith, c.row_size-next.ensures.within, ap length rest, length-drop size name, c.names-test.true);
      so_far = omega (arith, c.names.invariant.so_far, size-behind rows (drop size name) next is, ap (inlines_size rows 0) (drop-drop next size name));
    }

pub returns-clause-size : goal.returns-clause-size
returns-clause-size c = omega (arith, c.names.invariant.so_far, size-end c.args.rows.now c.args.name.now c.names.size c.names-test.false)
