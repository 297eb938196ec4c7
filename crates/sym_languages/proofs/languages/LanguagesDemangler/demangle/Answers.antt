use Rattle.sym_languages.proofs.Basics.{Cpp, Rust, AreCountsBy, language_answer_by}
use Rattle.sym_languages.proofs.LanguageLemmas.{demangled_in}
use Rattle.sym_languages.proofs.languages.LanguagesDemangler.demangle.Goals as goal

pub returns-in-Cpp : goal.returns-in-Cpp
returns-in-Cpp g c =
    demangled_in (λ lang. language_answer_by g.C.Mangling.mangled c.args.self.now.limit c.args.self.now.detail lang c.args.symbol.now)
    (λ lang symbol counts. AreCountsBy (record { mangled = g.C.Mangling.mangled; IsRead = g.C.Counted.is_read; bytes_of = g.C.Mangling.bytes_of; whole_of = g.C.Mangling.whole_of; are_nodes = g.C.Mangling.are_nodes; nodes_a_byte = g.C.Counted.nodes_a_byte }) lang symbol counts)
    c.args.kind.lang Cpp c.args.symbol.now c.args.out.now.items c.demangle_in.new.out.items c.demangle_in.result c.in-Cpp.is c.demangle_in.ensures

pub returns-in-Rust : goal.returns-in-Rust
returns-in-Rust g c =
    demangled_in (λ lang. language_answer_by g.C.Mangling.mangled c.args.self.now.limit c.args.self.now.detail lang c.args.symbol.now)
    (λ lang symbol counts. AreCountsBy (record { mangled = g.C.Mangling.mangled; IsRead = g.C.Counted.is_read; bytes_of = g.C.Mangling.bytes_of; whole_of = g.C.Mangling.whole_of; are_nodes = g.C.Mangling.are_nodes; nodes_a_byte = g.C.Counted.nodes_a_byte }) lang symbol counts)
    c.args.kind.lang Rust c.args.symbol.now c.args.out.now.items c.demangle_in-in-Rust.new.out.items c.demangle_in-in-Rust.result c.in-Rust.is c.demangle_in-in-Rust.ensures
