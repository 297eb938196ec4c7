use Rattle.rust_direct.proofs.Basics.{arith, Some, drop, refl, Rust, IsName, HasToken}
use Rattle.rust_direct.proofs.FoundTokens.{name-found, own-found, place-found}
use Rattle.rust_direct.proofs.names.any_name_span.Goals as goal

pub overflow_cast-result-2 : goal.overflow_cast-result-2
overflow_cast-result-2 c =
    let s = c.args.s.now in
    let place = c.in_ok-place.place in
    let h : HasToken (IsName Rust) (drop c.args.at s) c.args.at place =
    place-found (IsName Rust) s c.args.at c.find_name.result (Some place) place c.find_name.ensures c.in_ok-place.ensures.value refl in
    let own = own-found (IsName Rust) s c.args.at place h (omega (arith, c.if-at-s.false)) in
    omega (arith, own.1, c.requires)

pub returns : goal.returns
returns c =
    let s = c.args.s.now in
    let place = c.in_ok-place.place in
    let h : HasToken (IsName Rust) (drop c.args.at s) c.args.at place =
    place-found (IsName Rust) s c.args.at c.find_name.result (Some place) place c.find_name.ensures c.in_ok-place.ensures.value refl in
    name-found s c.args.at place h (omega (arith, c.if-at-s.false))
