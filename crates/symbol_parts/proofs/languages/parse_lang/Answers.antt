use Rattle.std.proofs.Common.{◌≡◌, ◌⊎◌, Err, Ok, subst, sym}
use Rattle.std.specs.Prelude.{IfErr, IfOk}
use Rattle.sym_core.specs.declared.refusal.Refusal.TheVariants.{Memory}
use Rattle.symbol_parts.specs.Parsed.{found, language_parsed_by}
use Rattle.symbol_parts.proofs.languages.parse_lang.Goals as goal

pub returns-in-Cpp-clause-ok : goal.returns-in-Cpp-clause-ok
returns-in-Cpp-clause-ok g c =
    subst (λ l. IfOk c.parse_as.result (λ p. language_parsed_by g.C.Marked.over g.C.Marked.marking c.args.limit c.args.detail l c.args.symbol.now ≡ Ok (found p))) (sym c.in-Cpp.is) c.parse_as.ensures.ok

pub returns-in-Cpp-clause-err : goal.returns-in-Cpp-clause-err
returns-in-Cpp-clause-err g c =
    subst (λ l. IfErr c.parse_as.result (λ e. (e ≡ Memory) ⊎ (language_parsed_by g.C.Marked.over g.C.Marked.marking c.args.limit c.args.detail l c.args.symbol.now ≡ Err e))) (sym c.in-Cpp.is) c.parse_as.ensures.err

pub returns-in-Rust-clause-ok : goal.returns-in-Rust-clause-ok
returns-in-Rust-clause-ok g c =
    subst (λ l. IfOk c.parse_as-in-Rust.result (λ p. language_parsed_by g.C.Marked.over g.C.Marked.marking c.args.limit c.args.detail l c.args.symbol.now ≡ Ok (found p))) (sym c.in-Rust.is) c.parse_as-in-Rust.ensures.ok

pub returns-in-Rust-clause-err : goal.returns-in-Rust-clause-err
returns-in-Rust-clause-err g c =
    subst (λ l. IfErr c.parse_as-in-Rust.result (λ e. (e ≡ Memory) ⊎ (language_parsed_by g.C.Marked.over g.C.Marked.marking c.args.limit c.args.detail l c.args.symbol.now ≡ Err e))) (sym c.in-Rust.is) c.parse_as-in-Rust.ensures.err
