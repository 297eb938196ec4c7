use Rattle.rust_legacy.proofs.Basics.{length, arith, ap, ◌∙◌, Option, Some, None, Result, List, ℕ, Refusal, text_within, text_of, Path, shown_path}
use Rattle.std.proofs.lemmas.List.{length-append}
use Rattle.rust_legacy.proofs.Short.{short_path}
use Rattle.rust_legacy.proofs.Writing.{within_limit}
use Rattle.rust_legacy.proofs.text.push_text.Goals as goal

abbrev answer : ℕ → Option Path → Option (Result (List ℕ) Refusal)
answer limit found = elim found [ Some path ↦ Some (text_within limit (shown_path path)) | None ↦ None ]

pub returns-in-Ok-clause-text : goal.returns-in-Ok-clause-text
returns-in-Ok-clause-text c =
    let p = c.requires.0 in
    let wrote = c.in-Ok.ensures.ok p c.requires.1 in
    (text_of (shown_path p), ap (answer c.args.limit) c.requires.1 ∙ ap Some (within_limit c.args.limit (shown_path p) (omega (arith, wrote.0))), wrote.1)

pub returns-in-Ok-clause-few : goal.returns-in-Ok-clause-few
returns-in-Ok-clause-few c =
    let p = c.requires.0 in
    let wrote = c.in-Ok.ensures.ok p c.requires.1 in
    omega (arith, (short_path c.args.symbol.now p c.requires.1).text, ap length wrote.1, length-append c.args.out.now.items (text_of (shown_path p)), c.args.out.now.ok.0, c.write_path.new.out.ok.0)
