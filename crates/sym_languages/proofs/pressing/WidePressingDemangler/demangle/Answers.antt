use Rattle.sym_languages.proofs.Basics.{underscore_of, Cpp, Rust, AreWideCountsOf, with_front, wide_pressed_language}
use Rattle.sym_languages.proofs.LanguageLemmas.{demangled_in}
use Rattle.sym_languages.proofs.pressing.WidePressingDemangler.demangle.Goals as goal

pub returns-in-Cpp : goal.returns-in-Cpp
returns-in-Cpp c =
    demangled_in (λ lang. with_front (underscore_of c.args.kind.skip) (wide_pressed_language lang c.args.symbol.now)) (λ lang symbol counts. AreWideCountsOf lang symbol counts) c.args.kind.lang Cpp c.args.symbol.now c.args.out.now.items c.press_wide_into.new.out.items c.press_wide_into.result c.in-Cpp.is c.press_wide_into.ensures

pub returns-in-Rust : goal.returns-in-Rust
returns-in-Rust c =
    demangled_in (λ lang. with_front (underscore_of c.args.kind.skip) (wide_pressed_language lang c.args.symbol.now)) (λ lang symbol counts. AreWideCountsOf lang symbol counts) c.args.kind.lang Rust c.args.symbol.now c.args.out.now.items c.press_into.new.out.items c.press_into.result c.in-Rust.is c.press_into.ensures
