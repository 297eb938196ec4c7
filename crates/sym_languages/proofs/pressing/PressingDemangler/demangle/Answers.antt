use Rattle.sym_languages.proofs.Basics.{underscore_of, AreCountsOf, with_front, pressed_language, Cpp, Rust}
use Rattle.sym_languages.proofs.LanguageLemmas.{demangled_in}
use Rattle.sym_languages.proofs.pressing.PressingDemangler.demangle.Goals as goal

pub returns-in-Cpp : goal.returns-in-Cpp
returns-in-Cpp c =
    demangled_in (λ lang. with_front (underscore_of c.args.kind.skip) (pressed_language lang c.args.symbol.now)) (λ lang symbol counts. AreCountsOf lang symbol counts) c.args.kind.lang Cpp c.args.symbol.now c.args.out.now.items c.press_into.new.out.items c.press_into.result c.in-Cpp.is c.press_into.ensures

pub returns-in-Rust : goal.returns-in-Rust
returns-in-Rust c =
    demangled_in (λ lang. with_front (underscore_of c.args.kind.skip) (pressed_language lang c.args.symbol.now)) (λ lang symbol counts. AreCountsOf lang symbol counts) c.args.kind.lang Rust c.args.symbol.now c.args.out.now.items c.press_into-in-Rust.new.out.items c.press_into-in-Rust.result c.in-Rust.is c.press_into-in-Rust.ensures
