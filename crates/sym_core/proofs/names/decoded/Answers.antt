use Rattle.sym_core.proofs.Basics.{◌≡◌, ◌<◌, ◌^◌, List, ℕ, true, false, arith, ap, length, sym, ◌∙◌, subst, string_bytes, list_all, is_xid_continue, IsUtf8-from_ascii, hyphenated}
use Rattle.std.specs.Str.{IsUtf8, chars}
use Rattle.sym_core.proofs.Hyphen.{hyphenated-ascii}
use Rattle.sym_core.proofs.Decoding.{hyphenated-length}
use Rattle.sym_core.proofs.Decoded.{decoded_name-invalid, decoded_name-text}
use Rattle.sym_core.proofs.names.decoded.Goals as goal

pub unreachable-requires : goal.unreachable-requires
unreachable-requires c =
    c.in_default.ensures.cases.0 (subst IsUtf8 (sym (c.deref.ensures.value ∙ c.in_ok-coded.ensures.name))
    (IsUtf8-from_ascii (hyphenated c.args.bytes.now) (hyphenated-ascii c.args.bytes.now c.requires)))

pub returns-in-Err-Invalid-clause-text : goal.returns-in-Err-Invalid-clause-text
returns-in-Err-Invalid-clause-text c =
    let coded : c.in-Ok.coded.now ≡ hyphenated c.args.bytes.now = c.in-Ok.ensures.cases.0 ∙ c.deref.ensures.value ∙ c.in_ok-coded.ensures.name in
    let short : length c.in-Ok.coded.now < 2 ^ 32 = omega (arith, ap length coded, hyphenated-length c.args.bytes.now) in
    decoded_name-invalid c.args.bytes.now c.in-Ok.coded.now coded (rw c.in-Err-Invalid.field-0-is at (c.in-Err-Invalid.ensures.value short))

pub returns-then-is_identifier-clause-text : goal.returns-then-is_identifier-clause-text
returns-then-is_identifier-clause-text c =
    let coded : c.in-Ok.coded.now ≡ hyphenated c.args.bytes.now = c.in-Ok.ensures.cases.0 ∙ c.deref.ensures.value ∙ c.in_ok-coded.ensures.name in
    let short : length c.in-Ok.coded.now < 2 ^ 32 = omega (arith, ap length coded, hyphenated-length c.args.bytes.now) in
    decoded_name-text c.args.bytes.now c.in-Ok.coded.now (string_bytes c.in-Ok-decode_to_string.text) true (omega arith) coded
    (subst IsUtf8 c.deref-2.ensures c.deref-2.utf8) (c.in-Ok-decode_to_string.ensures.value short)
    (c.if-is_identifier.ensures ∙ ap (λ (t : List ℕ). list_all is_xid_continue (chars t)) c.deref-2.ensures)

pub returns-clause-text : goal.returns-clause-text
returns-clause-text c =
    let coded : c.in-Ok.coded.now ≡ hyphenated c.args.bytes.now = c.in-Ok.ensures.cases.0 ∙ c.deref.ensures.value ∙ c.in_ok-coded.ensures.name in
    let short : length c.in-Ok.coded.now < 2 ^ 32 = omega (arith, ap length coded, hyphenated-length c.args.bytes.now) in
    decoded_name-text c.args.bytes.now c.in-Ok.coded.now (string_bytes c.in-Ok-decode_to_string.text) false (omega arith) coded
    (subst IsUtf8 c.deref-2.ensures c.deref-2.utf8) (c.in-Ok-decode_to_string.ensures.value short)
    (c.if-is_identifier.ensures ∙ ap (λ (t : List ℕ). list_all is_xid_continue (chars t)) c.deref-2.ensures)
