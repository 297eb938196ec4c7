use Rattle.sym_core.proofs.Basics.{◌≡◌, ◌+◌, ◌*◌, ◌≤◌, Some, arith, ap, length, string_bytes, decoded_name}
use Rattle.std.proofs.lemmas.Result.{IfOk-weaker}
use Rattle.sym_core.proofs.Decoding.{decoded_name-short}
use Rattle.sym_core.proofs.names.push_name.Goals as goal

pub append-requires-in-Some : goal.append-requires-in-Some
append-requires-in-Some c =
    let stands : decoded_name c.args.bytes.now ≡ Some (string_bytes c.in-Some.text) = rw c.in-Some.is at c.in_ok-text.ensures.text in
    omega (arith, decoded_name-short c.args.bytes.now (string_bytes c.in-Some.text) stands, ap length c.as_bytes.ensures.value)

pub returns-in-Some-clause-few : goal.returns-in-Some-clause-few
returns-in-Some-clause-few c =
    let stands : decoded_name c.args.bytes.now ≡ Some (string_bytes c.in-Some.text) = rw c.in-Some.is at c.in_ok-text.ensures.text in
    IfOk-weaker c.append-in-Some.result _ (λ span. span.to ≤ span.from + 4 * length c.args.bytes.now + 8)
    (λ span width. omega (arith, width, decoded_name-short c.args.bytes.now (string_bytes c.in-Some.text) stands, ap length c.as_bytes.ensures.value))
    c.append-in-Some.ensures.width
