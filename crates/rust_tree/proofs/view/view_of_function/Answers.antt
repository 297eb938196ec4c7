use Rattle.rust_tree.proofs.Viewing.{function-by}
use Rattle.rust_tree.proofs.view.view_of_function.Goals as goal

pub returns-in-Rust-clause-seen : goal.returns-in-Rust-clause-seen
returns-in-Rust-clause-seen c s text all bare h = function-by s text all bare _ c.args.binder c.args.is_unsafe c.args.abi _ c.args.parameters c.args.returned c.in-Rust.is (rw c.one_if.ensures at c.view_of.ensures) h

pub returns-in-C-clause-seen : goal.returns-in-C-clause-seen
returns-in-C-clause-seen c s text all bare h = function-by s text all bare _ c.args.binder c.args.is_unsafe c.args.abi _ c.args.parameters c.args.returned c.in-C.is (rw c.one_if.ensures at c.view_of-in-C.ensures) h

pub returns-in-Named-clause-seen : goal.returns-in-Named-clause-seen
returns-in-Named-clause-seen c s text all bare h = function-by s text all bare _ c.args.binder c.args.is_unsafe c.args.abi _ c.args.parameters c.args.returned c.in-Named.is (rw (c.one_if.ensures, c.by_name-by.ensures) at c.view_of-in-Named.ensures) h
