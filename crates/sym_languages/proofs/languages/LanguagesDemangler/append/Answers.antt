use Rattle.sym_languages.proofs.Basics.{rules, subst, AreBytes, IsAppended}
use Rattle.sym_languages.proofs.LanguageLemmas.{rust_answered}
use Rattle.sym_languages.proofs.languages.LanguagesDemangler.append.Goals as goal

pub returns-in-Rust : goal.returns-in-Rust
returns-in-Rust g c =
    let symbol = c.args.symbol.now in
    let bytes : AreBytes symbol = λ i. search (rules, c.type_inv.symbol i) in
    subst (λ answer. IsAppended answer c.args.out.now.items c.append_in-in-Rust.new.out.items c.append_in-in-Rust.result)
    (rust_answered g.C.Mangling.mangled c.args.self.now.limit c.args.self.now.detail c.with_parameters-detail.result c.args.kind.lang symbol bytes c.in-Rust.is c.with_parameters-detail.ensures)
    c.append_in-in-Rust.ensures
