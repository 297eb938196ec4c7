-- The answers of idna are what names denote.
use Rattle.sym_core.proofs.Basics.{◌≡◌, ℕ, ◌≤◌, Bool, true, false, cond, nat_le, List, length, Option, Some, None, option_and_then, option_map, refl, sym, ap, ◌∙◌, le-leb, encode_utf8_all, chars, IsUtf8, list_all, chars_from_encodes, is_xid_continue, decode, hyphenated, identifier_text, decoded_name}

nothing : (o : Option (List ℕ)) → option_map encode_utf8_all o ≡ None → option_and_then identifier_text o ≡ None
nothing None e = refl
nothing (Some cs) e = cc

pick : (b : Bool) (o : Option (List ℕ)) → o ≡ None → cond b o None ≡ None
pick true o e = e
pick false o e = refl

-- a name that idna doesn't decode
pub decoded_name-invalid : (bytes coded : List ℕ) → coded ≡ hyphenated bytes → option_map encode_utf8_all (decode coded) ≡ None → decoded_name bytes ≡ None
decoded_name-invalid bytes coded same e =
    pick (nat_le (length bytes) 2000) (option_and_then identifier_text (decode (hyphenated bytes)))
    (nothing (decode (hyphenated bytes)) (ap (λ (t : List ℕ). option_map encode_utf8_all (decode t)) (sym same) ∙ e))

something : (o : Option (List ℕ)) (text : List ℕ) (b : Bool) → IsUtf8 text → option_map encode_utf8_all o ≡ Some text → list_all is_xid_continue (chars text) ≡ b
    → option_and_then identifier_text o ≡ cond b (Some text) None
something None text b u e x = cc
something (Some cs) text b u e x =
    let same : encode_utf8_all cs ≡ text = cc in
    let all : list_all is_xid_continue cs ≡ b = ap (list_all is_xid_continue) (chars_from_encodes cs text u same) ∙ x in
    ap (λ t. cond t (Some (encode_utf8_all cs)) None) all ∙ ap (λ t. cond b (Some t) None) same

-- a name that idna decodes
pub decoded_name-text : (bytes coded text : List ℕ) (b : Bool) → length bytes ≤ 2000 → coded ≡ hyphenated bytes → IsUtf8 text
    → option_map encode_utf8_all (decode coded) ≡ Some text → b ≡ list_all is_xid_continue (chars text) → decoded_name bytes ≡ cond b (Some text) None
decoded_name-text bytes coded text b h same u e x =
    let yes : nat_le (length bytes) 2000 ≡ true = le-leb (length bytes) 2000 h in
    ap (λ t. cond t (option_and_then identifier_text (decode (hyphenated bytes))) None) yes
    ∙ something (decode (hyphenated bytes)) text b u (ap (λ (t : List ℕ). option_map encode_utf8_all (decode t)) (sym same) ∙ e) (sym x)
