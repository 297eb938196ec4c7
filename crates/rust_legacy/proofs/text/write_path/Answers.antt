use Rattle.rust_legacy.proofs.Basics.{◌≡◌, ◌-◌, ◌++◌, [], length, take, drop, subst, arith, ap, sym, ◌∙◌, append_assoc, unwrap_or, IfErr, IfOk, cost_of, cost_of_parts, text_of, names_parts, shown_path, suffix_parts, IsRefused, IsWritten}
use Rattle.std.proofs.lemmas.List.{length-append}
use Rattle.rust_legacy.proofs.Digits.{rest_whole}
use Rattle.rust_legacy.proofs.Legacy.{some_names_of}
use Rattle.rust_legacy.proofs.Writing.{at_exit, err_on, ok_on, wider}
use Rattle.rust_legacy.proofs.text.write_path.Goals as goal

pub write_names-requires-clause-names : goal.write_names-requires-clause-names
write_names-requires-clause-names c = (c.requires.0.names, c.requires.2.0, some_names_of c.args.symbol.now c.requires.0 c.requires.1)

pub returns-in_err-left-2-clause-err : goal.returns-in_err-left-2-clause-err
returns-in_err-left-2-clause-err c = λ path is. (
    let p = c.requires.0 in
    let same : p ≡ path = ap (λ o. unwrap_or o p) (sym c.requires.1 ∙ is) in
    let found = c.in_err-left-2.field-0.0 in
    let old = c.args.out.now in
    let names = text_of (names_parts [] p.names) in
    subst (λ q. IfErr c.from_residual-in_err-left-2.result (λ e. IsRefused e c.args.limit (text_of (shown_path q)) (cost_of (shown_path q)) old)) same (
    at_exit c.from_residual-in_err-left-2.result found _ c.from_residual-in_err-left-2.ensures.1 (
    wider found c.in_ok-left.left names (cost_of (names_parts [] p.names)) old c.args.limit (text_of (shown_path p)) (cost_of (shown_path p)) old
    (c.in_err-left-2.ensures.err p.names c.requires.2.0 (some_names_of c.args.symbol.now p c.requires.1))
    (λ room. omega (arith, room, length-append names (text_of (suffix_parts p.suffix))))
    (λ dear. omega (arith, dear, c.in_ok-left.ensures.ok)))))

pub returns-clause-ok : goal.returns-clause-ok
returns-clause-ok c = λ path is. (
    let p = c.requires.0 in
    let s = c.args.symbol.now in
    let same : p ≡ path = ap (λ o. unwrap_or o p) (sym c.requires.1 ∙ is) in
    let suffix : take (length s - c.args.place.end) (drop c.args.place.end s) ≡ p.suffix = rest_whole s c.args.place.end ∙ c.requires.2.1 in
    let old = c.args.out.now.items in
    let names = text_of (names_parts [] p.names) in
    let wrote = c.in_ok-left-2.ensures.ok p.names c.requires.2.0 (some_names_of s p c.requires.1) in
    subst (λ q. IfOk c.write_suffix.result (λ now. IsWritten c.args.limit now (text_of (shown_path q)) (cost_of (shown_path q)) old c.write_suffix.new.out.items)) same (
    ok_on c.write_suffix.result _ _ c.write_suffix.ensures.ok (λ now h. (
      omega (arith, h.0, wrote.0, c.in_ok-left.ensures.ok, ap (λ r. cost_of_parts (suffix_parts r)) suffix),
      h.1 ∙ ap (λ m. m ++ text_of (suffix_parts (take (length s - c.args.place.end) (drop c.args.place.end s)))) wrote.1
          ∙ append_assoc old names _ ∙ ap (λ r. old ++ (names ++ text_of (suffix_parts r))) suffix,
    ))))

pub returns-clause-err : goal.returns-clause-err
returns-clause-err c = λ path is. (
    let p = c.requires.0 in
    let s = c.args.symbol.now in
    let same : p ≡ path = ap (λ o. unwrap_or o p) (sym c.requires.1 ∙ is) in
    let suffix : take (length s - c.args.place.end) (drop c.args.place.end s) ≡ p.suffix = rest_whole s c.args.place.end ∙ c.requires.2.1 in
    let old = c.args.out.now in
    let mid = c.write_names.new.out in
    let names = text_of (names_parts [] p.names) in
    let wrote = c.in_ok-left-2.ensures.ok p.names c.requires.2.0 (some_names_of s p c.requires.1) in
    subst (λ q. IfErr c.write_suffix.result (λ e. IsRefused e c.args.limit (text_of (shown_path q)) (cost_of (shown_path q)) old)) same (
    err_on c.write_suffix.result _ _ c.write_suffix.ensures.err (λ e h.
    wider e c.in_ok-left-2.left (text_of (suffix_parts p.suffix)) (cost_of_parts (suffix_parts p.suffix)) mid c.args.limit (text_of (shown_path p)) (cost_of (shown_path p)) old
    (subst (λ r. IsRefused e c.in_ok-left-2.left (text_of (suffix_parts r)) (cost_of_parts (suffix_parts r)) mid) suffix h)
    (λ room. omega (arith, room, c.write_names.ensures.keeps.capacity, ap length wrote.1, length-append old.items names, length-append names (text_of (suffix_parts p.suffix)), mid.ok.0, old.ok.0))
    (λ dear. omega (arith, dear, wrote.0, c.in_ok-left.ensures.ok)))))
