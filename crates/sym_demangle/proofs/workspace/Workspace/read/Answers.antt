use Rattle.sym_demangle.proofs.Basics.{◌≡◌, subst, sym, ap, ◌∙◌, ◌++◌, ℕ, List, length, IfOk, FitsSymbol, AreRowsOf, AreStepsOf, err_from_is_err_and, AreFew, IsMalformedOrMemory, AreStepsInAll, AreNodesOf}
use Rattle.sym_demangle.proofs.Rows.{rows_there}
use Rattle.sym_demangle.proofs.Feeding.{behind_prefix}
use Rattle.sym_demangle.proofs.Answering.{shape_refused}
use Rattle.sym_demangle.proofs.Reasons.{links_not_too_long, links_read}
use Rattle.sym_demangle.proofs.workspace.Workspace.read.Goals as goal

pub returns-in_err-read_into-clause-refused : goal.returns-in_err-read_into-clause-refused
returns-in_err-read_into-clause-refused g c =
    let refusal = c.in_err-read_into.field-0.0 in
    let p = err_from_is_err_and c.from_residual.result c.from_residual.ensures.1 in
    rw (p.1, p.2) (shape_refused g.M.Mangling.mangled c.args.s.now refusal (subst (λ t. IsMalformedOrMemory t c.args.s.now refusal) g.met.M.Mangling.table_is c.in_err-read_into.ensures.refused))

pub returns-2-clause-never_too_long : goal.returns-2-clause-never_too_long
returns-2-clause-never_too_long g c = links_not_too_long g.M.Mangling.mangled c.refuses_bad_tokens.ensures _ c.link.result c.link.ensures.refused

pub returns-clause-bytes : goal.returns-clause-bytes
returns-clause-bytes g c =
    let is = behind_prefix c.args.s.now c.bytes.result.now c.args.self.now.ahead.bytes c.strip_prefix.result c.in-Some.rest c.strip_prefix.ensures.cases c.in-Some.is c.bytes.ensures in
    rw is c.read_on.ensures.bytes

pub returns-clause-symbol : goal.returns-clause-symbol
returns-clause-symbol g c =
    let is = behind_prefix c.args.s.now c.bytes.result.now c.args.self.now.ahead.bytes c.strip_prefix.result c.in-Some.rest c.strip_prefix.ensures.cases c.in-Some.is c.bytes.ensures in
    rw is c.read_on.ensures.symbol

pub returns-clause-rows : goal.returns-clause-rows
returns-clause-rows g c =
    let is = behind_prefix c.args.s.now c.bytes.result.now c.args.self.now.ahead.bytes c.strip_prefix.result c.in-Some.rest c.strip_prefix.ensures.cases c.in-Some.is c.bytes.ensures in
    rw is c.read_on.ensures.rows

pub returns-clause-refused : goal.returns-clause-refused
returns-clause-refused g c =
    let is = behind_prefix c.args.s.now c.bytes.result.now c.args.self.now.ahead.bytes c.strip_prefix.result c.in-Some.rest c.strip_prefix.ensures.cases c.in-Some.is c.bytes.ensures in
    rw is c.read_on.ensures.refused

pub returns-clause-steps : goal.returns-clause-steps
returns-clause-steps g c =
    let is = behind_prefix c.args.s.now c.bytes.result.now c.args.self.now.ahead.bytes c.strip_prefix.result c.in-Some.rest c.strip_prefix.ensures.cases c.in-Some.is c.bytes.ensures in
    rw is c.read_on.ensures.steps

pub returns-2-clause-symbol : goal.returns-2-clause-symbol
returns-2-clause-symbol g c =
    links_read g.M.Mangling.mangled c.refuses_bad_tokens.ensures g.M.Mangling.whole_of _ c.args.s.now c.link.result (◌∙◌ {c = c.args.s.now} c.in_ok-extend_from_slice.ensures.items (ap (λ xs. xs ++ c.args.s.now) c.clear.ensures.items)) c.link.ensures.stands

pub returns-clause-nodes : goal.returns-clause-nodes
returns-clause-nodes g c =
    let is = behind_prefix c.args.s.now c.bytes.result.now c.args.self.now.ahead.bytes c.strip_prefix.result c.in-Some.rest c.strip_prefix.ensures.cases c.in-Some.is c.bytes.ensures in
    rw is c.read_on.ensures.nodes

pub returns-2-clause-bytes : goal.returns-2-clause-bytes
returns-2-clause-bytes g c =
    let there : c.extend_from_slice.new.self.items ≡ c.args.s.now = ◌∙◌ {c = c.args.s.now} c.in_ok-extend_from_slice.ensures.items (ap (λ xs. xs ++ c.args.s.now) c.clear.ensures.items) in
    subst (λ (s : List ℕ). IfOk c.link.result (λ symbol. g.M.Mangling.bytes_of symbol ≡ s)) there c.link.ensures.bytes

pub returns-2-clause-steps : goal.returns-2-clause-steps
returns-2-clause-steps g c =
    let there : c.extend_from_slice.new.self.items ≡ c.args.s.now = ◌∙◌ {c = c.args.s.now} c.in_ok-extend_from_slice.ensures.items (ap (λ xs. xs ++ c.args.s.now) c.clear.ensures.items) in
    subst (λ (s : List ℕ). IfOk c.link.result (λ symbol. AreStepsInAll g.M.Mangling.mangled.table s (g.M.Mangling.steps_of symbol))) there c.link.ensures.steps

pub returns-2-clause-nodes : goal.returns-2-clause-nodes
returns-2-clause-nodes g c =
    let there : c.extend_from_slice.new.self.items ≡ c.args.s.now = ◌∙◌ {c = c.args.s.now} c.in_ok-extend_from_slice.ensures.items (ap (λ xs. xs ++ c.args.s.now) c.clear.ensures.items) in
    subst (λ (s : List ℕ). IfOk c.link.result (λ symbol. AreNodesOf g.M.Mangling.mangled.table g.M.Mangling.are_nodes s (g.M.Mangling.nodes_of symbol))) there c.link.ensures.nodes

pub returns-2-clause-rows : goal.returns-2-clause-rows
returns-2-clause-rows g c = rows_there g.M.Mangling.rows_of g.M.Mangling.mangled.table c.args.s.now c.read_into.new.shape.rows c.link.result (subst (λ t. AreRowsOf t c.args.s.now c.read_into.new.shape.rows) g.met.M.Mangling.table_is c.in_ok-read_into.ensures.rows) c.link.ensures.rows

pub link-requires-clause-fits : goal.link-requires-clause-fits
link-requires-clause-fits g c =
    let there : c.extend_from_slice.new.self.items ≡ c.args.s.now = ◌∙◌ {c = c.args.s.now} c.in_ok-extend_from_slice.ensures.items (ap (λ xs. xs ++ c.args.s.now) c.clear.ensures.items) in
    subst FitsSymbol (sym there) c.requires

pub link-requires-clause-rows : goal.link-requires-clause-rows
link-requires-clause-rows g c =
    let there : c.extend_from_slice.new.self.items ≡ c.args.s.now = ◌∙◌ {c = c.args.s.now} c.in_ok-extend_from_slice.ensures.items (ap (λ xs. xs ++ c.args.s.now) c.clear.ensures.items) in
    subst (λ (s : List ℕ). AreRowsOf g.M.Mangling.mangled.table s c.read_into.new.shape.rows) (sym there)
    (subst (λ t. AreRowsOf t c.args.s.now c.read_into.new.shape.rows) g.met.M.Mangling.table_is c.in_ok-read_into.ensures.rows)

pub link-requires-clause-steps : goal.link-requires-clause-steps
link-requires-clause-steps g c =
    let there : c.extend_from_slice.new.self.items ≡ c.args.s.now = ◌∙◌ {c = c.args.s.now} c.in_ok-extend_from_slice.ensures.items (ap (λ xs. xs ++ c.args.s.now) c.clear.ensures.items) in
    subst (λ (s : List ℕ). AreStepsOf g.M.Mangling.mangled.table s c.read_into.new.shape.steps) (sym there)
    (subst (λ t. AreStepsOf t c.args.s.now c.read_into.new.shape.steps) g.met.M.Mangling.table_is c.in_ok-read_into.ensures.steps)

pub link-requires-clause-few : goal.link-requires-clause-few
link-requires-clause-few g c =
    let there : c.extend_from_slice.new.self.items ≡ c.args.s.now = ◌∙◌ {c = c.args.s.now} c.in_ok-extend_from_slice.ensures.items (ap (λ xs. xs ++ c.args.s.now) c.clear.ensures.items) in
    subst (λ (s : List ℕ). AreFew c.read_into.new.shape.steps (length c.read_into.new.shape.rows) (length s)) (sym there) c.read_into.ensures.few

pub returns-clause-never_too_long : goal.returns-clause-never_too_long
returns-clause-never_too_long g c = c.read_on.ensures.never_too_long

-- Generated by tools/alike.py.
pub returns-in_err-read_into-clause-bytes : goal.returns-in_err-read_into-clause-bytes
returns-in_err-read_into-clause-bytes g c = rw (err_from_is_err_and c.from_residual.result c.from_residual.ensures.1).1 tt

-- Generated by tools/alike.py.
pub returns-in_err-read_into-clause-symbol : goal.returns-in_err-read_into-clause-symbol
returns-in_err-read_into-clause-symbol g c = rw (err_from_is_err_and c.from_residual.result c.from_residual.ensures.1).1 tt

-- Generated by tools/alike.py.
pub returns-in_err-read_into-clause-rows : goal.returns-in_err-read_into-clause-rows
returns-in_err-read_into-clause-rows g c = rw (err_from_is_err_and c.from_residual.result c.from_residual.ensures.1).1 tt

-- Generated by tools/alike.py.
pub returns-in_err-read_into-clause-steps : goal.returns-in_err-read_into-clause-steps
returns-in_err-read_into-clause-steps g c = rw (err_from_is_err_and c.from_residual.result c.from_residual.ensures.1).1 tt

-- Generated by tools/alike.py.
pub returns-in_err-read_into-clause-nodes : goal.returns-in_err-read_into-clause-nodes
returns-in_err-read_into-clause-nodes g c = rw (err_from_is_err_and c.from_residual.result c.from_residual.ensures.1).1 tt

-- Generated by tools/alike.py.
pub returns-in_err-extend_from_slice-clause-bytes : goal.returns-in_err-extend_from_slice-clause-bytes
returns-in_err-extend_from_slice-clause-bytes g c = rw (err_from_is_err_and c.from_residual-in_err-extend_from_slice.result c.from_residual-in_err-extend_from_slice.ensures.1).1 tt

-- Generated by tools/alike.py.
pub returns-in_err-extend_from_slice-clause-symbol : goal.returns-in_err-extend_from_slice-clause-symbol
returns-in_err-extend_from_slice-clause-symbol g c = rw (err_from_is_err_and c.from_residual-in_err-extend_from_slice.result c.from_residual-in_err-extend_from_slice.ensures.1).1 tt

-- Generated by tools/alike.py.
pub returns-in_err-extend_from_slice-clause-rows : goal.returns-in_err-extend_from_slice-clause-rows
returns-in_err-extend_from_slice-clause-rows g c = rw (err_from_is_err_and c.from_residual-in_err-extend_from_slice.result c.from_residual-in_err-extend_from_slice.ensures.1).1 tt

-- Generated by tools/alike.py.
pub returns-in_err-extend_from_slice-clause-steps : goal.returns-in_err-extend_from_slice-clause-steps
returns-in_err-extend_from_slice-clause-steps g c = rw (err_from_is_err_and c.from_residual-in_err-extend_from_slice.result c.from_residual-in_err-extend_from_slice.ensures.1).1 tt

-- Generated by tools/alike.py.
pub returns-in_err-extend_from_slice-clause-nodes : goal.returns-in_err-extend_from_slice-clause-nodes
returns-in_err-extend_from_slice-clause-nodes g c = rw (err_from_is_err_and c.from_residual-in_err-extend_from_slice.result c.from_residual-in_err-extend_from_slice.ensures.1).1 tt
