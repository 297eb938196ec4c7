use Rattle.std.proofs.Common.{◌≡◌, ◌∙◌, sym, ap, None, Some, Ok, Err}
use Rattle.std.specs.Prelude.{string_bytes}
use Rattle.std.proofs.lemmas.Result.{IfOk-weaker}
use Rattle.sym_filter.specs.Kinds.{kind_of, symbol_of}
use Rattle.sym_command.specs.Lines.{answer_for}
use Rattle.sym_command.proofs.LineLemmas.{answer_for-unnamed, answer_of-symbol}
use Rattle.demangle_names.specs.Names.{reason_by}
use Rattle.demangle_names.proofs.NameLemmas.{why-refused}
use Rattle.demangle_names.proofs.reasons.reason_why.Goals as goal

pub returns-in_default : goal.returns-in_default
returns-in_default g c =
    let answers = g.D.Demangler.answer c.args.demangler.now in
    let name = c.args.name.now in
    let none : kind_of name ≡ None = sym c.kind_of.ensures ∙ c.in_default.is in
    IfOk-weaker c.from_str.result _ _ (λ text is. is ∙ sym (ap reason_by (answer_for-unnamed answers name none))) c.from_str.ensures.ok

pub returns-in-Ok : goal.returns-in-Ok
returns-in-Ok g c =
    let answers = g.D.Demangler.answer c.args.demangler.now in
    let name = c.args.name.now in
    let kind = c.in-Some.kind in
    let named : kind_of name ≡ Some kind = sym c.kind_of.ensures ∙ c.in-Some.is in
    let same : c.symbol_of.result.now ≡ symbol_of kind name = c.symbol_of.ensures.symbol in
    let given = c.in-Ok.ensures in
    IfOk-weaker c.from_str-in-Ok.result _ _ (λ text is. is ∙ sym (ap reason_by (answer_of-symbol answers name c.symbol_of.result.now kind (Ok given.0) named same given.1))) c.from_str-in-Ok.ensures.ok

pub returns : goal.returns
returns g c =
    let answers = g.D.Demangler.answer c.args.demangler.now in
    let name = c.args.name.now in
    let kind = c.in-Some.kind in
    let named : kind_of name ≡ Some kind = sym c.kind_of.ensures ∙ c.in-Some.is in
    let same : c.symbol_of.result.now ≡ symbol_of kind name = c.symbol_of.ensures.symbol in
    why-refused string_bytes c.reason.result c.in-Err.refusal (answer_for answers name)
    (λ known. answer_of-symbol answers name c.symbol_of.result.now kind (Err c.in-Err.refusal) named same (c.in-Err.ensures.0 known)) c.reason.ensures.said c.reason.ensures.memory
