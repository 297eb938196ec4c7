use Rattle.sym_languages.proofs.Basics.{rules, AreBytes}
use Rattle.sym_languages.proofs.LanguageLemmas.{append_answered}
use Rattle.sym_languages.proofs.languages.append_in.Goals as goal

pub returns : goal.returns
returns g c =
    let symbol = c.args.symbol.now in
    let bytes : AreBytes symbol = λ i. search (rules, c.type_inv.symbol i) in
    append_answered g.M.Mangling.mangled c.args.limit c.args.detail symbol bytes c.args.out.now.items c.demangle_into.new.out.items c.demangle_into.result
    c.demangle_into.ensures.text c.demangle_into.ensures.refused c.demangle_into.ensures.same
