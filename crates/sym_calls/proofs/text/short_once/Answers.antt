use Rattle.sym_calls.proofs.Basics.{ℕ, List, Result, ap, rules, sym, Refusal, AreBytes, language_answer_by}
use Rattle.sym_filter.specs.declared.kinds.Lang.{Lang}
use Rattle.sym_languages.proofs.LanguageLemmas.{rust_answered}
use Rattle.sym_calls.proofs.Ending.{same-told}
use Rattle.sym_calls.proofs.text.short_once.Goals as goal

pub returns-in-Cpp-clause-told : goal.returns-in-Cpp-clause-told
returns-in-Cpp-clause-told g c =
    let answers : Lang → Result (List ℕ) Refusal = λ lang. language_answer_by g.C.Mangling.mangled c.args.languages.now.limit c.args.languages.now.detail lang c.args.symbol.now in
    same-told (answers Lang.Cpp) (answers c.args.kind.lang) c.args.buffer.now c.write_short.new.buffer c.write_short.result
    (ap answers (sym c.in-Cpp.is)) c.write_short.ensures.told

pub returns-in-Rust-clause-told : goal.returns-in-Rust-clause-told
returns-in-Rust-clause-told g c =
    let bytes : AreBytes c.args.symbol.now = λ i. search (rules, c.type_inv.symbol i) in
    same-told _ _ c.args.buffer.now c.write_short-in-Rust.new.buffer c.write_short-in-Rust.result
    (rust_answered g.C.Mangling.mangled c.args.languages.now.limit c.args.languages.now.detail c.with_parameters-detail.result c.args.kind.lang c.args.symbol.now bytes c.in-Rust.is c.with_parameters-detail.ensures)
    c.write_short-in-Rust.ensures.told
