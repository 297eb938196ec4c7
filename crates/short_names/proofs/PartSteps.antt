-- Steps of the walk over parts of a text.
use Rattle.short_names.proofs.Basics.{◌≡◌, ◌==◌, ◌<◌, ◌+◌, ◌&&◌, refl, sym, ap, ◌∙◌, ℕ, arith, true, false, List, [], ◌∷◌, ◌++◌, length, drop, get_or, nat_eq, codes, None, Some, if◌then◌else◌, append-nil, append_assoc, length-append, and_parts, list_all, starts_with, is_letter, is_name_byte, run_of, Rules, Written, Opened, Answer, stepped, written_for, at_name, at_plain, at_byte, at_sign, sign_of, keeps, opens, is_list, is_opening, is_closing, ends_operator}
use Rattle.short_names.proofs.BracketLemmas.{and_false}
use Rattle.short_names.proofs.WalkLemmas.{goes}

-- more was written
abbrev pub add : Written → List ℕ → Written
add w bytes = record { opened = w.opened; last = w.last ++ bytes }

pub add-nothing : (w : Written) → add w [] ≡ w
add-nothing w = ap (λ t. record { opened = w.opened; last = t }) (append-nil w.last)

pub add-more : (w : Written) (x y : List ℕ) → add (add w x) y ≡ add w (x ++ y)
add-more w x y = ap (λ t. record { opened = w.opened; last = t }) (append_assoc w.last x y)

pub behind-all : (x y : List ℕ) → drop (length x) (x ++ y) ≡ y
behind-all [] y = refl
behind-all (b ∷ x) y = behind-all x y

-- a step over some bytes of a text
pub over : (rules : Rules) (byte : ℕ) (others text : List ℕ) (w next : Written) (size : ℕ) → size ≡ length (byte ∷ others)
    → stepped rules byte (others ++ text) w ≡ Some (record { size = size; written = next })
    → written_for rules 0 (byte ∷ others ++ text) w ≡ written_for rules 0 text next
over rules byte others text w next size is step =
    let all : 0 + size ≡ length (byte ∷ others) = omega (arith, is) in
    goes rules (byte ∷ others ++ text) 0 byte (others ++ text) w next size refl step (omega (arith, is))
    ∙ ap (λ n. written_for rules 0 (drop n (byte ∷ others ++ text)) next) all
    ∙ ap (λ t. written_for rules 0 t next) (behind-all (byte ∷ others) text)

-- no byte of a name comes first
abbrev pub IsBehind : List ℕ → Type 0
IsBehind text = is_name_byte (get_or text 0 0) ≡ false

-- neither a byte of a name nor a list comes first
abbrev pub IsFree : List ℕ → Type 0
IsFree text = IsBehind text × (get_or text 0 0 ≡ 60 → ⊥)

pub free-nothing : IsFree []
unfolding is_name_byte is_letter
free-nothing = (refl, λ e. absurd (omega (arith, e)))

pub run-is : (name text : List ℕ) → list_all is_name_byte name ≡ true → IsBehind text → run_of (name ++ text) ≡ name
unfolding run_of
run-is [] [] all other = refl
run-is [] (byte ∷ text) all other = rw other refl
run-is (byte ∷ name) text all other =
    let parts = and_parts (is_name_byte byte) (list_all is_name_byte name) all in
    rw parts.0 (ap (λ t. byte ∷ t) (run-is name text parts.1 other))

abbrev pub at : List Opened → List ℕ → Written
at opened last = record { opened = opened; last = last }

abbrev pub within : (bracket : ℕ) → (name before : List ℕ) → List (List ℕ) → Opened
within bracket name before elements = record { bracket = bracket; name = name; before = before; elements = elements }

-- ## Names

pub no-sign : (opened : List Opened) (run rest : List ℕ) → ends_operator run ≡ false → sign_of opened run rest ≡ []
no-sign [] run rest other = refl
no-sign (top ∷ around) run rest other = rw other refl

name-step : (rules : Rules) (byte : ℕ) (others text : List ℕ) (w : Written) → list_all is_name_byte (byte ∷ others) ≡ true → IsBehind text
    → stepped rules byte (others ++ text) w ≡ at_name rules (byte ∷ others) text w
unfolding stepped
name-step rules byte others text w all behind =
    let letter : is_name_byte byte ≡ true = (and_parts (is_name_byte byte) (list_all is_name_byte others) all).0 in
    let whole : List ℕ = byte ∷ others ++ text in
    rw letter (ap (λ r. at_name rules r (drop (length r) whole) w) (run-is (byte ∷ others) text all behind) ∙ ap (λ t. at_name rules (byte ∷ others) t w) (behind-all (byte ∷ others) text))

pub name-stays : (rules : Rules) (name text : List ℕ) (opened : List Opened) (last : List ℕ) → 0 < length name → list_all is_name_byte name ≡ true → IsBehind text
    → rules.opens name ≡ false → rules.for_name name text ≡ None → sign_of opened name text ≡ []
    → written_for rules 0 (name ++ text) (at opened last) ≡ written_for rules 0 text (at opened (last ++ name))
name-stays rules [] text opened last some all behind shut none no_sign = absurd (omega (arith, some))
name-stays rules (byte ∷ others) text opened last some all behind shut none no_sign =
    let name : List ℕ = byte ∷ others in
    let w : Written = at opened last in
    over rules byte others text w (at opened (last ++ name)) (length name) refl (
    name-step rules byte others text w all behind
    ∙ ap (λ b. if starts_with nat_eq text (codes "<") && b then opens 60 name w else at_plain name text w (rules.for_name name text)) shut
    ∙ ap (λ b. if b then opens 60 name w else at_plain name text w (rules.for_name name text)) (and_false (starts_with nat_eq text (codes "<")))
    ∙ ap (at_plain name text w) none
    ∙ ap (λ t. keeps (name ++ t) w) no_sign
    ∙ ap (λ t. keeps t w) (append-nil name))

-- a name with an answer
pub name-answers : (rules : Rules) (name text : List ℕ) (opened : List Opened) (last bytes : List ℕ) → 0 < length name → list_all is_name_byte name ≡ true → IsBehind text → rules.opens name ≡ false
    → rules.for_name name text ≡ Some (record { bytes = bytes; size = length name })
    → written_for rules 0 (name ++ text) (at opened last) ≡ written_for rules 0 text (at opened (last ++ bytes))
name-answers rules [] text opened last bytes some all behind shut answer = absurd (omega (arith, some))
name-answers rules (byte ∷ others) text opened last bytes some all behind shut answer =
    let name : List ℕ = byte ∷ others in
    let w : Written = at opened last in
    over rules byte others text w (at opened (last ++ bytes)) (0 + length name) (omega arith) (
    name-step rules byte others text w all behind
    ∙ ap (λ b. if starts_with nat_eq text (codes "<") && b then opens 60 name w else at_plain name text w (rules.for_name name text)) shut
    ∙ ap (λ b. if b then opens 60 name w else at_plain name text w (rules.for_name name text)) (and_false (starts_with nat_eq text (codes "<")))
    ∙ ap (at_plain name text w) answer
    )

-- a name with an answer, after which the walk continues with what is left
pub name-goes-on : (rules : Rules) (name member text last bytes : List ℕ) → 0 < length name → list_all is_name_byte (name ++ member) ≡ true → IsBehind text → rules.opens (name ++ member) ≡ false
    → rules.for_name (name ++ member) text ≡ Some (record { bytes = bytes; size = length name })
    → written_for rules 0 (name ++ (member ++ text)) (at [] last) ≡ written_for rules 0 (member ++ text) (at [] (last ++ bytes))
name-goes-on rules [] member text last bytes some all behind shut answer = absurd (omega (arith, some))
name-goes-on rules (byte ∷ others) member text last bytes some all behind shut answer =
    let name : List ℕ = byte ∷ others ++ member in
    let w : Written = at [] last in
    over rules byte others (member ++ text) w (at [] (last ++ bytes)) (0 + length (byte ∷ others)) (omega arith) (
    ap (λ t. stepped rules byte t w) (sym (append_assoc others member text))
    ∙ name-step rules byte (others ++ member) text w all behind
    ∙ ap (λ b. if starts_with nat_eq text (codes "<") && b then opens 60 name w else at_plain name text w (rules.for_name name text)) shut
    ∙ ap (λ b. if b then opens 60 name w else at_plain name text w (rules.for_name name text)) (and_false (starts_with nat_eq text (codes "<")))
    ∙ ap (at_plain name text w) answer
    )

-- a name with an answer that has some bytes after it, outside of brackets
pub name-answers-over : (rules : Rules) (name more text last bytes : List ℕ) → 0 < length name → list_all is_name_byte name ≡ true → IsBehind (more ++ text) → rules.opens name ≡ false
    → rules.for_name name (more ++ text) ≡ Some (record { bytes = bytes; size = length (name ++ more) })
    → written_for rules 0 (name ++ (more ++ text)) (at [] last) ≡ written_for rules 0 text (at [] (last ++ bytes))
name-answers-over rules [] more text last bytes some all behind shut answer = absurd (omega (arith, some))
name-answers-over rules (byte ∷ others) more text last bytes some all behind shut answer =
    let name : List ℕ = byte ∷ others in
    let w : Written = at [] last in
    ap (λ t. written_for rules 0 (byte ∷ t) w) (sym (append_assoc others more text))
    ∙ over rules byte (others ++ more) text w (at [] (last ++ bytes)) (0 + length (name ++ more)) (omega arith) (
    ap (λ t. stepped rules byte t w) (append_assoc others more text)
    ∙ name-step rules byte others (more ++ text) w all behind
    ∙ ap (λ b. if starts_with nat_eq (more ++ text) (codes "<") && b then opens 60 name w else at_plain name (more ++ text) w (rules.for_name name (more ++ text))) shut
    ∙ ap (λ b. if b then opens 60 name w else at_plain name (more ++ text) w (rules.for_name name (more ++ text))) (and_false (starts_with nat_eq (more ++ text) (codes "<")))
    ∙ ap (at_plain name (more ++ text) w) answer
    )

pub inner-name : (rules : Rules) (name text : List ℕ) (opened : List Opened) (last : List ℕ) → 0 < length name → list_all is_name_byte name ≡ true → IsBehind text
    → rules.opens name ≡ false → rules.for_name name text ≡ None → ends_operator name ≡ false
    → written_for rules 0 (name ++ text) (at opened last) ≡ written_for rules 0 text (at opened (last ++ name))
inner-name rules name text opened last some all behind shut none other = name-stays rules name text opened last some all behind shut none (no-sign opened name text other)

pub name-opens : (rules : Rules) (name text : List ℕ) (opened : List Opened) (last : List ℕ) → 0 < length name → list_all is_name_byte name ≡ true
    → rules.opens name ≡ true
    → written_for rules 0 (name ++ 60 ∷ text) (at opened last) ≡ written_for rules 0 text (at (within 60 name last [] ∷ opened) [])
unfolding is_name_byte is_letter
name-opens rules [] text opened last some all opening = absurd (omega (arith, some))
name-opens rules (byte ∷ others) text opened last some all opening =
    let name : List ℕ = byte ∷ others in
    let w : Written = at opened last in
    let next : Written = at (within 60 name last [] ∷ opened) [] in
    let apart : others ++ 60 ∷ text ≡ (others ++ 60 ∷ []) ++ text = sym (append_assoc others (60 ∷ []) text) in
    ap (λ t. written_for rules 0 (byte ∷ t) w) apart
    ∙ over rules byte (others ++ 60 ∷ []) text w next (length name + 1) (omega (arith, length-append others (60 ∷ [])))
    (
    ap (λ t. stepped rules byte t w) (sym apart)
    ∙ name-step rules byte others (60 ∷ text) w all refl
    ∙ ap (λ b. if b then opens 60 name w else at_plain name (60 ∷ text) w (rules.for_name name (60 ∷ text))) opening
    )

-- ## Bytes

byte-step : (rules : Rules) (byte : ℕ) (text : List ℕ) (w next : Written) → is_name_byte byte ≡ false → at_byte rules w.opened byte text w ≡ Some (record { size = 1; written = next })
    → written_for rules 0 (byte ∷ text) w ≡ written_for rules 0 text next
unfolding stepped
byte-step rules byte text w next other step = over rules byte [] text w next 1 refl (rw other step)

pub byte-outside : (rules : Rules) (byte : ℕ) (text last : List ℕ) → is_name_byte byte ≡ false
    → written_for rules 0 (byte ∷ text) (at [] last) ≡ written_for rules 0 text (at [] (last ++ byte ∷ []))
byte-outside rules byte text last other = byte-step rules byte text (at [] last) (at [] (last ++ byte ∷ [])) other refl

pub byte-within : (rules : Rules) (byte : ℕ) (text : List ℕ) (top : Opened) (around : List Opened) (last : List ℕ) → is_name_byte byte ≡ false
    → is_opening byte ≡ false → (byte == 62) ≡ false → is_closing byte ≡ false → (is_list top && starts_with nat_eq (byte ∷ text) (codes ", ")) ≡ false
    → starts_with nat_eq (byte ∷ text) (codes "->") ≡ false
    → written_for rules 0 (byte ∷ text) (at (top ∷ around) last) ≡ written_for rules 0 text (at (top ∷ around) (last ++ byte ∷ []))
unfolding at_sign
byte-within rules byte text top around last other no_opening no_list no_closing no_end no_arrow =
    byte-step rules byte text (at (top ∷ around) last) (at (top ∷ around) (last ++ byte ∷ [])) other (rw (no_opening, no_list, no_closing, no_end, no_arrow) refl)

pub group-opens : (rules : Rules) (byte : ℕ) (text : List ℕ) (top : Opened) (around : List Opened) (last : List ℕ) → is_name_byte byte ≡ false → is_opening byte ≡ true
    → written_for rules 0 (byte ∷ text) (at (top ∷ around) last) ≡ written_for rules 0 text (at (within byte [] last [] ∷ top ∷ around) [])
unfolding at_sign
group-opens rules byte text top around last other opening =
    byte-step rules byte text (at (top ∷ around) last) (at (within byte [] last [] ∷ top ∷ around) []) other (rw opening refl)

pub group-closes : (rules : Rules) (byte : ℕ) (text : List ℕ) (top : Opened) (around : List Opened) (last : List ℕ) → is_name_byte byte ≡ false → is_opening byte ≡ false
    → (byte == 62) ≡ false → is_closing byte ≡ true → is_list top ≡ false
    → written_for rules 0 (byte ∷ text) (at (top ∷ around) last) ≡ written_for rules 0 text (at around ((top.before ++ top.bracket ∷ last) ++ byte ∷ []))
unfolding at_sign
group-closes rules byte text top around last other no_opening no_list closing no_top =
    byte-step rules byte text (at (top ∷ around) last) (at around ((top.before ++ top.bracket ∷ last) ++ byte ∷ [])) other (rw (no_opening, no_list, closing, no_top) refl)

-- some bytes after the list are written with it
pub list-closes-over : (rules : Rules) (more text name before : List ℕ) (elements : List (List ℕ)) (around : List Opened) (last bytes : List ℕ)
    → rules.for_list name (elements ++ last ∷ []) (more ++ text) ≡ record { bytes = bytes; size = length more }
    → written_for rules 0 (62 ∷ (more ++ text)) (at (within 60 name before elements ∷ around) last) ≡ written_for rules 0 text (at around (before ++ bytes))
unfolding at_sign is_name_byte is_letter stepped
list-closes-over rules more text name before elements around last bytes answer =
    over rules 62 more text (at (within 60 name before elements ∷ around) last) (at around (before ++ bytes)) (1 + length more) (omega arith)
    (ap (λ (a : Answer). Some (record { size = 1 + a.size; written = at around (before ++ a.bytes) })) answer)

pub element-ends : (rules : Rules) (text name before : List ℕ) (elements : List (List ℕ)) (around : List Opened) (last : List ℕ)
    → written_for rules 0 (44 ∷ 32 ∷ text) (at (within 60 name before elements ∷ around) last) ≡ written_for rules 0 text (at (within 60 name before (elements ++ last ∷ []) ∷ around) [])
unfolding at_sign is_name_byte is_letter stepped
element-ends rules text name before elements around last =
    over rules 44 (32 ∷ []) text (at (within 60 name before elements ∷ around) last) (at (within 60 name before (elements ++ last ∷ []) ∷ around) []) 2 refl refl
