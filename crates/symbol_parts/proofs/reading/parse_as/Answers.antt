use Rattle.std.proofs.Common.{◌≡◌, ℕ, Err, List, ap, arith, inl, inr, length, refl, rules, subst, sym, ◌∙◌}
use Rattle.std.proofs.lemmas.Result.{err_from_is_err_and}
use Rattle.sym_shape.specs.Decided.{AreBytes}
use Rattle.sym_shape.specs.Reader.{IsMalformedOrMemory}
use Rattle.sym_shape.specs.Tree.{AreRowsOf}
use Rattle.sym_parts.specs.Spelling.{parts_spelled}
use Rattle.symbol_parts.proofs.Parsing.{parsed-unread, parsed-shapeless, parsed-long, parsed-text, short-text}
use Rattle.symbol_parts.proofs.reading.parse_as.Goals as goal

pub returns-in_err-read-clause-err : goal.returns-in_err-read-clause-err
returns-in_err-read-clause-err g c =
    let symbol = c.args.symbol.now in
    let bytes : AreBytes symbol = λ i. search (rules, c.type_inv.symbol i) in
    let p = err_from_is_err_and c.from_residual.result c.from_residual.ensures.1 in
    let e = c.in_err-read.field-0.0 in
    rw (p.1, p.2) (parsed-unread g.M.Marked.over g.M.Marked.marking c.args.detail c.args.limit symbol bytes e
    (elim c.in_err-read.ensures.refused [ inl memory ↦ inl memory | inr is ↦ inr (g.met.M.Marked.refuses symbol e is) ]))

pub returns-in_err-text-clause-err : goal.returns-in_err-text-clause-err
returns-in_err-text-clause-err g c =
    let symbol = c.args.symbol.now in
    let bytes : AreBytes symbol = λ i. search (rules, c.type_inv.symbol i) in
    let p = err_from_is_err_and c.from_residual-in_err-text.result c.from_residual-in_err-text.ensures.1 in
    let read = c.in_ok-read.read in
    let tree = g.M.Marked.tree_of read in
    rw (p.1, p.2) (parsed-long g.M.Marked.over g.M.Marked.marking c.args.detail c.args.limit symbol bytes tree _ c.in_err-text.field-0.0 (g.met.M.Marked.reads symbol read c.in_ok-read.ensures.symbol)
    (c.root.ensures.shows ∙ g.met.M.Marked.shows c.args.detail read) c.in_err-text.ensures.refusals (λ long. c.print.ensures.too_long (subst (λ r. c.print.result ≡ Err r) long c.in_err-text.was)))

pub returns-in_err-stretches-clause-err : goal.returns-in_err-stretches-clause-err
returns-in_err-stretches-clause-err g c =
    let symbol = c.args.symbol.now in
    let bytes : AreBytes symbol = λ i. search (rules, c.type_inv.symbol i) in
    let p = err_from_is_err_and c.from_residual-in_err-stretches.result c.from_residual-in_err-stretches.ensures.1 in
    let read = c.in_ok-read.read in
    let tree = g.M.Marked.tree_of read in
    rw (p.1, p.2) (parsed-long g.M.Marked.over g.M.Marked.marking c.args.detail c.args.limit symbol bytes tree (g.M.Marked.over.shown c.args.detail tree) c.in_err-stretches.field-0.0
    (g.met.M.Marked.reads symbol read c.in_ok-read.ensures.symbol) refl c.in_err-stretches.ensures.refusals (λ long. c.stretches_as.ensures.too_long (subst (λ r. c.stretches_as.result ≡ Err r) long c.in_err-stretches.was)))

pub returns-in_err-shape-clause-err : goal.returns-in_err-shape-clause-err
returns-in_err-shape-clause-err g c =
    let symbol = c.args.symbol.now in
    let bytes : AreBytes symbol = λ i. search (rules, c.type_inv.symbol i) in
    let p = err_from_is_err_and c.from_residual-in_err-shape.result c.from_residual-in_err-shape.ensures.1 in
    rw (p.1, p.2) (parsed-shapeless g.M.Marked.over g.M.Marked.marking c.args.detail c.args.limit symbol bytes c.in_err-shape.field-0.0
    (subst (λ t. IsMalformedOrMemory t symbol c.in_err-shape.field-0.0) (g.met.M.Mangling.table_is ∙ g.met.M.Marked.same_table) c.in_err-shape.ensures.refused))

pub length_of-length-requires : goal.length_of-length-requires
length_of-length-requires g c =
    short-text _ _ c.args.limit (c.deref.ensures.value ∙ c.in_ok-text.ensures.text) c.in_ok-text.ensures.within (omega (arith, c.ranges.limit.fits))

pub returns-in_err-spelling-clause-err : goal.returns-in_err-spelling-clause-err
returns-in_err-spelling-clause-err g c =
    let p = err_from_is_err_and c.from_residual-in_err-spelling.result c.from_residual-in_err-spelling.ensures.1 in
    rw (p.1, p.2) (inl c.in_err-spelling.ensures.refusals)

pub returns-in_err-parts-clause-err : goal.returns-in_err-parts-clause-err
returns-in_err-parts-clause-err g c =
    let p = err_from_is_err_and c.from_residual-in_err-parts.result c.from_residual-in_err-parts.ensures.1 in
    rw (p.1, p.2) (inl c.in_err-parts.ensures.refusals)

pub returns-clause-ok : goal.returns-clause-ok
returns-clause-ok g c =
    let symbol = c.args.symbol.now in
    let bytes : AreBytes symbol = λ i. search (rules, c.type_inv.symbol i) in
    let read = c.in_ok-read.read in
    let tree = g.M.Marked.tree_of read in
    let stretches = c.in_ok-stretches.stretches.items in
    let rows : AreRowsOf g.M.Marked.over.table symbol c.rows.result.now =
    subst (λ t. AreRowsOf t symbol c.rows.result.now) (g.met.M.Mangling.table_is ∙ g.met.M.Marked.same_table) (subst (λ rs. AreRowsOf g.M.Grammar.table symbol rs) (sym c.rows.ensures) c.in_ok-shape.ensures.rows) in
    parsed-text g.M.Marked.over g.M.Marked.marking c.args.detail c.args.limit symbol bytes tree _ _ _ c.rows.result.now _ stretches c.length_of-length.result _ (g.met.M.Marked.reads symbol read c.in_ok-read.ensures.symbol) rows
    (c.root.ensures.shows ∙ g.met.M.Marked.shows c.args.detail read) c.in_ok-text.ensures.text c.in_ok-text.ensures.within c.kind_of.ensures
    (c.in_ok-spelling.ensures.spelling ∙ ap (λ xs. g.M.Marked.marking.spelled symbol c.rows.result.now xs) c.deref-2.ensures.value) c.in_ok-stretches.ensures.stretches
    (c.length_of-length.ensures ∙ ap (λ (t : List ℕ). length t) c.deref.ensures.value)
    (c.in_ok-parts.ensures.parts ∙ ap (λ xs. parts_spelled c.in_ok-spelling.spelling c.length_of-length.result xs) c.deref-3.ensures.value)
