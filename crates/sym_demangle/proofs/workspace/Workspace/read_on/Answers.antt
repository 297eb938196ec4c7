use Rattle.sym_demangle.proofs.Basics.{◌≡◌, ◌⊎◌, ◌∙◌, ◌++◌, ap, refl, sym, subst, ℕ, List, length, Err, IfOk, err_from_is_err_and, FitsSymbol, Fed, AreFew, AreRowsOf, AreStepsOf, same_steps, IsReading, AreStepsInAll, AreNodesOf}
use Rattle.sym_core.specs.declared.refusal.Refusal.TheVariants as refusals
use Rattle.sym_demangle.proofs.Rows.{rows_there}
use Rattle.sym_demangle.proofs.Reasons.{links_not_too_long, links_read}
use Rattle.sym_demangle.proofs.workspace.Workspace.read_on.Goals as goal

pub returns-clause-never_too_long : goal.returns-clause-never_too_long
returns-clause-never_too_long g c = links_not_too_long g.M.Mangling.mangled c.refuses_bad_tokens.ensures _ c.link.result c.link.ensures.refused

pub link-requires-clause-steps : goal.link-requires-clause-steps
link-requires-clause-steps g c =
    rw (c.replace-bytes.ensures.after, c.replace-shape.ensures.after)
    (subst (λ t. AreStepsOf t c.in_ok-bytes.bytes.items c.in_ok-bytes.shape.steps) g.met.M.Mangling.table_is
    (same_steps g.M.Grammar.table _ c.in_ok-bytes.bytes.items c.in_ok-bytes.shape.steps c.in_ok-bytes.shape.steps (sym c.in_ok-bytes.ensures.bytes) refl c.in_ok-bytes.ensures.steps))

pub returns-clause-bytes : goal.returns-clause-bytes
returns-clause-bytes g c =
    let whole : c.in_ok-bytes.bytes.items ≡ c.args.self.now.ahead.bytes ++ c.args.rest.now =
    ◌∙◌ {c = c.args.self.now.ahead.bytes ++ c.args.rest.now} c.in_ok-bytes.ensures.bytes (◌∙◌ {c = c.args.self.now.ahead.bytes ++ c.args.rest.now} c.in_default.ensures.bytes (ap (λ (v : Fed). v.bytes ++ c.args.rest.now) c.replace-reader.ensures.value)) in
    let there : c.replace-bytes.new.dest.items ≡ c.args.self.now.ahead.bytes ++ c.args.rest.now = rw c.replace-bytes.ensures.after whole in
    subst (λ (s : List ℕ). IfOk c.link.result (λ symbol. g.M.Mangling.bytes_of symbol ≡ s)) there c.link.ensures.bytes

pub returns-clause-symbol : goal.returns-clause-symbol
returns-clause-symbol g c =
    let whole : c.in_ok-bytes.bytes.items ≡ c.args.self.now.ahead.bytes ++ c.args.rest.now =
    ◌∙◌ {c = c.args.self.now.ahead.bytes ++ c.args.rest.now} c.in_ok-bytes.ensures.bytes (◌∙◌ {c = c.args.self.now.ahead.bytes ++ c.args.rest.now} c.in_default.ensures.bytes (ap (λ (v : Fed). v.bytes ++ c.args.rest.now) c.replace-reader.ensures.value)) in
    let there : c.replace-bytes.new.dest.items ≡ c.args.self.now.ahead.bytes ++ c.args.rest.now = rw c.replace-bytes.ensures.after whole in
    links_read g.M.Mangling.mangled c.refuses_bad_tokens.ensures g.M.Mangling.whole_of _ (c.args.self.now.ahead.bytes ++ c.args.rest.now) c.link.result there c.link.ensures.stands

pub returns-clause-steps : goal.returns-clause-steps
returns-clause-steps g c =
    let whole : c.in_ok-bytes.bytes.items ≡ c.args.self.now.ahead.bytes ++ c.args.rest.now =
    ◌∙◌ {c = c.args.self.now.ahead.bytes ++ c.args.rest.now} c.in_ok-bytes.ensures.bytes (◌∙◌ {c = c.args.self.now.ahead.bytes ++ c.args.rest.now} c.in_default.ensures.bytes (ap (λ (v : Fed). v.bytes ++ c.args.rest.now) c.replace-reader.ensures.value)) in
    let there : c.replace-bytes.new.dest.items ≡ c.args.self.now.ahead.bytes ++ c.args.rest.now = rw c.replace-bytes.ensures.after whole in
    subst (λ (s : List ℕ). IfOk c.link.result (λ symbol. AreStepsInAll g.M.Mangling.mangled.table s (g.M.Mangling.steps_of symbol))) there c.link.ensures.steps

pub returns-clause-nodes : goal.returns-clause-nodes
returns-clause-nodes g c =
    let whole : c.in_ok-bytes.bytes.items ≡ c.args.self.now.ahead.bytes ++ c.args.rest.now =
    ◌∙◌ {c = c.args.self.now.ahead.bytes ++ c.args.rest.now} c.in_ok-bytes.ensures.bytes (◌∙◌ {c = c.args.self.now.ahead.bytes ++ c.args.rest.now} c.in_default.ensures.bytes (ap (λ (v : Fed). v.bytes ++ c.args.rest.now) c.replace-reader.ensures.value)) in
    let there : c.replace-bytes.new.dest.items ≡ c.args.self.now.ahead.bytes ++ c.args.rest.now = rw c.replace-bytes.ensures.after whole in
    subst (λ (s : List ℕ). IfOk c.link.result (λ symbol. AreNodesOf g.M.Mangling.mangled.table g.M.Mangling.are_nodes s (g.M.Mangling.nodes_of symbol))) there c.link.ensures.nodes

pub returns-clause-rows : goal.returns-clause-rows
returns-clause-rows g c =
    let whole : c.in_ok-bytes.bytes.items ≡ c.args.self.now.ahead.bytes ++ c.args.rest.now =
    ◌∙◌ {c = c.args.self.now.ahead.bytes ++ c.args.rest.now} c.in_ok-bytes.ensures.bytes (◌∙◌ {c = c.args.self.now.ahead.bytes ++ c.args.rest.now} c.in_default.ensures.bytes (ap (λ (v : Fed). v.bytes ++ c.args.rest.now) c.replace-reader.ensures.value)) in
    let own = subst (λ t. AreRowsOf t c.in_ok-bytes.bytes.items c.in_ok-bytes.shape.rows) g.met.M.Mangling.table_is
    (subst (λ (s : List ℕ). AreRowsOf g.M.Grammar.table s c.in_ok-bytes.shape.rows) (sym c.in_ok-bytes.ensures.bytes) c.in_ok-bytes.ensures.rows) in
    let are : AreRowsOf g.M.Mangling.mangled.table (c.args.self.now.ahead.bytes ++ c.args.rest.now) c.replace-shape.new.dest.rows = rw c.replace-shape.ensures.after (subst (λ (s : List ℕ). AreRowsOf g.M.Mangling.mangled.table s c.in_ok-bytes.shape.rows) whole own) in
    rows_there g.M.Mangling.rows_of g.M.Mangling.mangled.table (c.args.self.now.ahead.bytes ++ c.args.rest.now) c.replace-shape.new.dest.rows c.link.result are c.link.ensures.rows

pub link-requires-clause-fits : goal.link-requires-clause-fits
link-requires-clause-fits g c = rw c.replace-bytes.ensures.after (subst FitsSymbol (sym c.in_ok-bytes.ensures.bytes) c.in_ok-bytes.ensures.fits)

pub link-requires-clause-rows : goal.link-requires-clause-rows
link-requires-clause-rows g c =
    let own = subst (λ t. AreRowsOf t c.in_ok-bytes.bytes.items c.in_ok-bytes.shape.rows) g.met.M.Mangling.table_is
    (subst (λ (s : List ℕ). AreRowsOf g.M.Grammar.table s c.in_ok-bytes.shape.rows) (sym c.in_ok-bytes.ensures.bytes) c.in_ok-bytes.ensures.rows) in
    rw (c.replace-bytes.ensures.after, c.replace-shape.ensures.after) own

pub link-requires-clause-few : goal.link-requires-clause-few
link-requires-clause-few g c =
    let few : AreFew c.in_ok-bytes.shape.steps (length c.in_ok-bytes.shape.rows) (length c.in_ok-bytes.bytes.items) = rw (c.in_ok-bytes.ensures.step_count, c.in_ok-bytes.ensures.row_count, c.in_ok-bytes.ensures.bytes) c.in_ok-bytes.ensures.few in
    rw (c.replace-bytes.ensures.after, c.replace-shape.ensures.after) few

pub returns-in-Err-clause-bytes : goal.returns-in-Err-clause-bytes
returns-in-Err-clause-bytes g c = tt

-- Generated by tools/alike.py.
pub returns-in_err-bytes-clause-bytes : goal.returns-in_err-bytes-clause-bytes
returns-in_err-bytes-clause-bytes g c = rw (err_from_is_err_and c.from_residual.result c.from_residual.ensures.1).1 tt

pub returns-in-Err-clause-symbol : goal.returns-in-Err-clause-symbol
returns-in-Err-clause-symbol g c = tt

-- Generated by tools/alike.py.
pub returns-in_err-bytes-clause-symbol : goal.returns-in_err-bytes-clause-symbol
returns-in_err-bytes-clause-symbol g c = rw (err_from_is_err_and c.from_residual.result c.from_residual.ensures.1).1 tt

pub returns-in-Err-clause-rows : goal.returns-in-Err-clause-rows
returns-in-Err-clause-rows g c = tt

-- Generated by tools/alike.py.
pub returns-in_err-bytes-clause-rows : goal.returns-in_err-bytes-clause-rows
returns-in_err-bytes-clause-rows g c = rw (err_from_is_err_and c.from_residual.result c.from_residual.ensures.1).1 tt

pub returns-in-Err-clause-steps : goal.returns-in-Err-clause-steps
returns-in-Err-clause-steps g c = tt

-- Generated by tools/alike.py.
pub returns-in_err-bytes-clause-steps : goal.returns-in_err-bytes-clause-steps
returns-in_err-bytes-clause-steps g c = rw (err_from_is_err_and c.from_residual.result c.from_residual.ensures.1).1 tt

pub returns-in-Err-clause-nodes : goal.returns-in-Err-clause-nodes
returns-in-Err-clause-nodes g c = tt

-- Generated by tools/alike.py.
pub returns-in_err-bytes-clause-nodes : goal.returns-in_err-bytes-clause-nodes
returns-in_err-bytes-clause-nodes g c = rw (err_from_is_err_and c.from_residual.result c.from_residual.ensures.1).1 tt

pub returns-in-Err-clause-never_too_long : goal.returns-in-Err-clause-never_too_long
returns-in-Err-clause-never_too_long g c = c.in-Err.ensures.never_too_long

pub returns-in-Err-clause-refused : goal.returns-in-Err-clause-refused
returns-in-Err-clause-refused g c = subst (λ (v : Fed). (c.in-Err.refusal ≡ refusals.Memory) ⊎ IsReading g.M.Mangling.mangled (v.bytes ++ c.args.rest.now) (Err c.in-Err.refusal)) c.replace-reader.ensures.value c.in-Err.ensures.refused
