-- Once the bytes between marks are left out, what is written of a tree is what the tree shows.
use Rattle.cpp_direct.proofs.AllGround.{◌≡◌, ◌≢◌, ◌⊎◌, inl, inr, refl, ap, sym, subst, ◌∙◌, ℕ, zero, suc, ◌≤◌, List, [], ◌∷◌, ◌++◌, length, Bool, true, false, Option, Some, None, arith, append-nil, append_assoc, OnSome, closes, Context, Detail, first, Form, has_arguments, HasNoZero, instance, instance_parts, is_mark, Item, left, left_parts, list_part, low, low_parts, not_empty, opens, parts, parts_in, rank, root_item, shown, Term, visible, PartOf, text, sub, printed_parts, printed_to, Unshared, text_of, cost_of, more-unmarked, unmarked-hidden, unmarked-seen, stretch-left, detail_by, detail_of, IsShown, IsUnmarked, IsWhole, Symbol, unmarked, unmarked_byte, unmarked_parts, written, written_in, written_instance, written_parts, parts-joined, list-unmarked, is_mark, more-unmarked, unmarked-same, length-unmarked}
use Rattle.sym_print.specs.Unfold.{printed}

-- ## Bytes

-- no byte of a text is a mark where arguments aren't shown
unmarked-byte : (byte : ℕ) → is_mark (unmarked_byte false byte) ≡ false
unmarked-byte byte = go (is_mark byte) refl
  where
    go : (b : Bool) → is_mark byte ≡ b → is_mark (elim b [ true ↦ 0 | false ↦ byte ]) ≡ false
    go true is = refl
    go false is = is

unmarked-plain : (bytes : List ℕ) → IsUnmarked (unmarked false bytes)
unmarked-plain [] = refl
unmarked-plain (byte ∷ bytes) = more-unmarked (unmarked_byte false byte) (unmarked false bytes) (unmarked-byte byte) (unmarked-plain bytes)

unmarked-join : (xs ys : List ℕ) → unmarked false (xs ++ ys) ≡ unmarked false xs ++ unmarked false ys
unmarked-join [] ys = refl
unmarked-join (x ∷ xs) ys = ap (λ l. unmarked_byte false x ∷ l) (unmarked-join xs ys)

-- ## Parts

-- in a stretch that is left out, nothing of this text is visible
abbrev IsHidden : Unshared → Type 0
IsHidden u = (depth : ℕ) (rest : List ℕ) → visible (suc depth) (text_of u ++ rest) ≡ visible (suc depth) rest

-- outside of all stretches, the second text is what is visible of the first
abbrev IsSeen : (u shown : Unshared) → Type 0
IsSeen u v = (rest : List ℕ) → visible 0 (text_of u ++ rest) ≡ unmarked false (text_of v) ++ visible 0 rest

parts-hidden : (f : Item → Unshared) → ((i : Item) → IsHidden (f i)) → (ps : List (PartOf Item)) → IsHidden (printed_parts f (not_empty (unmarked_parts false ps)))
unfolding not_empty
parts-hidden f each [] depth rest = refl
parts-hidden f each (text [] ∷ ps) depth rest = parts-hidden f each ps depth rest
parts-hidden f each (text (b ∷ bs) ∷ ps) depth rest =
    let more = text_of (printed_parts f (not_empty (unmarked_parts false ps))) in
    ap (visible (suc depth)) (append_assoc (unmarked false (b ∷ bs)) more rest) ∙ unmarked-hidden (unmarked false (b ∷ bs)) (unmarked-plain (b ∷ bs)) depth (more ++ rest)
    ∙ parts-hidden f each ps depth rest
parts-hidden f each (sub i ∷ ps) depth rest =
    let more = text_of (printed_parts f (not_empty (unmarked_parts false ps))) in
    ap (visible (suc depth)) (append_assoc (text_of (f i)) more rest) ∙ each i depth (more ++ rest) ∙ parts-hidden f each ps depth rest

parts-seen : (f h : Item → Unshared) → ((i : Item) → IsSeen (f i) (h i)) → (ps : List (PartOf Item))
    → IsSeen (printed_parts f (not_empty (unmarked_parts false ps))) (printed_parts h (not_empty ps))
unfolding not_empty
parts-seen f h each [] rest = refl
parts-seen f h each (text [] ∷ ps) rest = parts-seen f h each ps rest
parts-seen f h each (text (b ∷ bs) ∷ ps) rest =
    let own = b ∷ bs in
    let more = text_of (printed_parts f (not_empty (unmarked_parts false ps))) in
    let others = text_of (printed_parts h (not_empty ps)) in
    ap (visible 0) (append_assoc (unmarked false own) more rest) ∙ unmarked-seen (unmarked false own) (unmarked-plain own) (more ++ rest)
    ∙ ap (λ l. unmarked false own ++ l) (parts-seen f h each ps rest)
    ∙ sym (append_assoc (unmarked false own) (unmarked false others) (visible 0 rest)) ∙ ap (λ l. l ++ visible 0 rest) (sym (unmarked-join own others))
parts-seen f h each (sub i ∷ ps) rest =
    let own = text_of (h i) in
    let more = text_of (printed_parts f (not_empty (unmarked_parts false ps))) in
    let others = text_of (printed_parts h (not_empty ps)) in
    ap (visible 0) (append_assoc (text_of (f i)) more rest) ∙ each i (more ++ rest) ∙ ap (λ l. unmarked false own ++ l) (parts-seen f h each ps rest)
    ∙ sym (append_assoc (unmarked false own) (unmarked false others) (visible 0 rest)) ∙ ap (λ l. l ++ visible 0 rest) (sym (unmarked-join own others))

-- ## Instances

-- what is written after the name of a template, up to the last mark, is left out
abbrev marked_text : (f : Item → Unshared) (c : Context) (a : Term) → List ℕ
marked_text f c a = text_of (printed_parts f (not_empty (list_part first c a ++ (text (closes ∷ []) ∷ []))))

arguments-left : (f : Item → Unshared) → ((i : Item) → IsHidden (f i)) → (c : Context) (a : Term) (depth : ℕ) (rest : List ℕ)
    → visible depth (opens ∷ (marked_text f c a ++ rest)) ≡ visible depth rest
unfolding not_empty
arguments-left f each c a depth rest =
    let inner = text_of (printed_parts f (not_empty (list_part first c a))) in
    ap (λ l. visible depth (opens ∷ (l ++ rest))) (parts-joined f (list_part first c a) (text (closes ∷ []) ∷ []))
    ∙ ap (λ l. visible depth (opens ∷ l)) (append_assoc inner (closes ∷ []) rest)
    ∙ stretch-left inner (subst (λ ps. IsHidden (printed_parts f (not_empty ps))) (list-unmarked false first c a) (parts-hidden f each (list_part first c a))) depth rest

instance-hidden : (f : Item → Unshared) → ((i : Item) → IsHidden (f i)) → (c : Context) (t a : Term)
    → IsHidden (printed_parts f (not_empty (written_instance false c t a)))
unfolding not_empty
instance-hidden f each c t a depth rest =
    let own = text_of (f (record { tree = t; form = left; context = c })) in
    ap (visible (suc depth)) (append_assoc own (opens ∷ marked_text f c a) rest)
    ∙ each (record { tree = t; form = left; context = c }) depth (opens ∷ (marked_text f c a ++ rest)) ∙ arguments-left f each c a (suc depth) rest

instance-seen : (f h : Item → Unshared) → ((i : Item) → IsHidden (f i)) → ((i : Item) → IsSeen (f i) (h i)) → (c : Context) (t a : Term)
    → IsSeen (printed_parts f (not_empty (written_instance false c t a))) (printed_parts h (not_empty (instance_parts false c t a)))
unfolding not_empty instance_parts
instance-seen f h hidden each c t a rest =
    let i : Item = record { tree = t; form = left; context = c } in
    ap (visible 0) (append_assoc (text_of (f i)) (opens ∷ marked_text f c a) rest) ∙ each i (opens ∷ (marked_text f c a ++ rest))
    ∙ ap (λ l. unmarked false (text_of (h i)) ++ l) (arguments-left f hidden c a 0 rest)
    ∙ ap (λ l. unmarked false l ++ visible 0 rest) (sym (append-nil (text_of (h i))))

-- ## Costs

parts-cost : (f h : Item → Unshared) → ((i : Item) → cost_of (h i) ≤ cost_of (f i)) → (ps : List (PartOf Item))
    → cost_of (printed_parts h (not_empty ps)) ≤ cost_of (printed_parts f (not_empty (unmarked_parts false ps)))
unfolding not_empty
parts-cost f h each [] = omega arith
parts-cost f h each (text [] ∷ ps) = parts-cost f h each ps
parts-cost f h each (text (b ∷ bs) ∷ ps) = omega (arith, parts-cost f h each ps, length-unmarked false bs)
parts-cost f h each (sub i ∷ ps) = omega (arith, parts-cost f h each ps, each i)

instance-cost : (f h : Item → Unshared) → ((i : Item) → cost_of (h i) ≤ cost_of (f i)) → (c : Context) (t a : Term)
    → cost_of (printed_parts h (not_empty (instance_parts false c t a))) ≤ cost_of (printed_parts f (not_empty (written_instance false c t a)))
unfolding not_empty instance_parts
instance-cost f h each c t a = omega (arith, each (record { tree = t; form = left; context = c }))

-- ## Items

-- What is written of a tree in a form is what the tree prints, unless it is an instance.
abbrev Views : Detail → Context → Form → Term → Type 0
Views d c form t =
    (written_in d c form t ≡ unmarked_parts (has_arguments d) (parts_in d c form t))
    ⊎ ((u : Term) × (a : Term) × (written_in d c form t ≡ written_instance (has_arguments d) c u a)
    × (parts_in d c form t ≡ instance_parts (has_arguments d) c u a))

views : (d : Detail) (c : Context) (form : Form) (t : Term) → Views d c form t
unfolding parts_in low_parts left_parts
views d c left (instance u a) = inr (u, a, refl, refl)
views d c low (instance u a) = inr (u, a, refl, refl)
views d c left t = inl refl
views d c low t = inl refl
views d c form t = inl refl

-- a relation between what is written of an item and what the item prints holds if it holds for plain parts and for
-- instances
step : (Q : List (PartOf Item) → List (PartOf Item) → Type 0) (d : Detail) → has_arguments d ≡ false
    → ((ps : List (PartOf Item)) → Q (not_empty (unmarked_parts false ps)) (not_empty ps))
    → ((c : Context) (t a : Term) → Q (not_empty (written_instance false c t a)) (not_empty (instance_parts false c t a)))
    → (i : Item) → Q (written_parts d i) (parts d i)
unfolding written_parts parts
step Q d brief plain marked i = go (views d i.context i.form i.tree)
  where
    go : Views d i.context i.form i.tree → Q (not_empty (written_in d i.context i.form i.tree)) (not_empty (parts_in d i.context i.form i.tree))
    go (inl is) =
        subst (λ ps. Q (not_empty ps) (not_empty (parts_in d i.context i.form i.tree)))
        (sym (is ∙ ap (λ b. unmarked_parts b (parts_in d i.context i.form i.tree)) brief)) (plain (parts_in d i.context i.form i.tree))
    go (inr (u, a, is, other)) =
        subst (λ ps. Q (not_empty ps) (not_empty (parts_in d i.context i.form i.tree))) (sym (is ∙ ap (λ b. written_instance b i.context u a) brief))
        (subst (λ ps. Q (not_empty (written_instance false i.context u a)) (not_empty ps)) (sym (other ∙ ap (λ b. instance_parts b i.context u a) brief))
        (marked i.context u a))

hidden-to : (d : Detail) → has_arguments d ≡ false → (n : ℕ) (i : Item) → IsHidden (printed_to (written_parts d) n i)
unfolding printed_to
hidden-to d brief zero i depth rest = refl
hidden-to d brief (suc n) i depth rest =
    let f = printed_to (written_parts d) n in
    step (λ ps qs. IsHidden (printed_parts f ps)) d brief (λ ps. parts-hidden f (hidden-to d brief n) ps) (λ c t a. instance-hidden f (hidden-to d brief n) c t a) i
    depth rest

seen-to : (d : Detail) → has_arguments d ≡ false → (n : ℕ) (i : Item) → IsSeen (printed_to (written_parts d) n i) (printed_to (parts d) n i)
unfolding printed_to
seen-to d brief zero i rest = refl
seen-to d brief (suc n) i rest =
    let f = printed_to (written_parts d) n in
    let h = printed_to (parts d) n in
    step (λ ps qs. IsSeen (printed_parts f ps) (printed_parts h qs)) d brief (λ ps. parts-seen f h (seen-to d brief n) ps)
    (λ c t a. instance-seen f h (hidden-to d brief n) (seen-to d brief n) c t a) i rest

cost-to : (d : Detail) → has_arguments d ≡ false → (n : ℕ) (i : Item) → cost_of (printed_to (parts d) n i) ≤ cost_of (printed_to (written_parts d) n i)
unfolding printed_to
cost-to d brief zero i = omega arith
cost-to d brief (suc n) i =
    let f = printed_to (written_parts d) n in
    let h = printed_to (parts d) n in
    step (λ ps qs. cost_of (printed_parts h qs) ≤ cost_of (printed_parts f ps)) d brief (λ ps. parts-cost f h (cost-to d brief n) ps)
    (λ c t a. instance-cost f h (cost-to d brief n) c t a) i

-- **The visible bytes of what is written of an item are what the item shows**, where no byte of what it shows is a
-- mark.
visible-written : (d : Detail) → has_arguments d ≡ false → (i : Item) → visible 0 (text_of (written d i)) ≡ unmarked false (text_of (shown d i))
unfolding printed visible
visible-written d brief i =
    ap (visible 0) (sym (append-nil (text_of (written d i)))) ∙ seen-to d brief (suc (rank i)) i [] ∙ append-nil (unmarked false (text_of (shown d i)))

-- What an item shows costs no more than what is written of it.
shown-cost : (d : Detail) → has_arguments d ≡ false → (i : Item) → cost_of (shown d i) ≤ cost_of (written d i)
unfolding printed
shown-cost d brief i = cost-to d brief (suc (rank i)) i

-- ## Where arguments are shown

same-byte : (byte : ℕ) → unmarked_byte true byte ≡ byte
same-byte byte = go (is_mark byte)
  where
    go : (b : Bool) → elim b [ true ↦ byte | false ↦ byte ] ≡ byte
    go true = refl
    go false = refl

same-bytes : (bytes : List ℕ) → unmarked true bytes ≡ bytes
same-bytes [] = refl
same-bytes (byte ∷ bytes) = cc (same-byte byte, same-bytes bytes)

same-parts : (ps : List (PartOf Item)) → unmarked_parts true ps ≡ ps
same-parts [] = refl
same-parts (text b ∷ ps) = cc (same-bytes b, same-parts ps)
same-parts (sub i ∷ ps) = ap (λ qs. sub i ∷ qs) (same-parts ps)

whole-parts : (d : Detail) → has_arguments d ≡ true → (i : Item) → written_parts d i ≡ parts d i
unfolding written_parts parts
whole-parts d whole i = ap not_empty (go (views d i.context i.form i.tree))
  where
    go : Views d i.context i.form i.tree → written_in d i.context i.form i.tree ≡ parts_in d i.context i.form i.tree
    go (inl is) = is ∙ ap (λ b. unmarked_parts b (parts_in d i.context i.form i.tree)) whole ∙ same-parts (parts_in d i.context i.form i.tree)
    go (inr (u, a, is, other)) =
        is ∙ ap (λ b. written_instance b i.context u a) whole ∙ sym (other ∙ ap (λ b. instance_parts b i.context u a) whole)

same-printed : (f h : Item → Unshared) → ((i : Item) → f i ≡ h i) → (ps : List (PartOf Item)) → printed_parts f ps ≡ printed_parts h ps
same-printed f h same [] = refl
same-printed f h same (text b ∷ ps) = cc (same-printed f h same ps)
same-printed f h same (sub i ∷ ps) = cc (same i, same-printed f h same ps)

same-to : (d : Detail) → has_arguments d ≡ true → (n : ℕ) (i : Item) → printed_to (written_parts d) n i ≡ printed_to (parts d) n i
unfolding printed_to
same-to d whole zero i = refl
same-to d whole (suc n) i =
    same-printed (printed_to (written_parts d) n) (printed_to (parts d) n) (same-to d whole n) (written_parts d i)
    ∙ ap (λ ps. printed_parts (printed_to (parts d) n) ps) (whole-parts d whole i)

-- ## Symbols

-- a text without a byte 0 has no marks
none-marked : (bytes : List ℕ) → HasNoZero (unmarked false bytes) → IsUnmarked bytes
none-marked [] plain = refl
none-marked (byte ∷ bytes) plain =
    more-unmarked byte bytes (go (is_mark byte) refl (plain 0 0 (omega arith))) (none-marked bytes (λ k d less. plain (suc k) d (omega (arith, less))))
  where
    go : (b : Bool) → is_mark byte ≡ b → ◌≢◌ {A = ℕ} (elim b [ true ↦ 0 | false ↦ byte ]) 0 → is_mark byte ≡ false
    go true is some = absurd (some refl)
    go false is some = is

brief-by : (is_bare : Bool) → has_arguments (detail_by is_bare true) ≡ false
brief-by true = refl
brief-by false = refl

whole-by : (is_bare : Bool) → has_arguments (detail_by is_bare false) ≡ true
whole-by true = refl
whole-by false = refl

-- The visible bytes of what was written of a whole symbol are what the symbol shows.
pub brief-shown : (s : Symbol) → s.is_brief ≡ true → (old new : List ℕ) → IsWhole s old → new ≡ visible 0 old → HasNoZero new → IsShown s (length old) new
brief-shown s brief old new p is plain =
    let d = detail_of s in
    let none : has_arguments d ≡ false = ap (λ b. has_arguments (detail_by s.is_bare b)) brief ∙ brief-by s.is_bare in
    let i = root_item p.whole in
    let left_is : unmarked false (text_of (shown d i)) ≡ new = sym (visible-written d none i) ∙ ap (visible 0) p.text_is ∙ sym is in
    record {
      whole = p.whole;
      stands = p.stands;
      text_is = sym (unmarked-same false (text_of (shown d i)) (none-marked (text_of (shown d i)) (subst HasNoZero (sym left_is) plain))) ∙ left_is;
      cost = omega (arith, p.cost, shown-cost d none i);
    }

-- If arguments are shown, all of what was written of a whole symbol is shown.
pub whole-shown : (s : Symbol) → s.is_brief ≡ false → (bytes : List ℕ) → IsWhole s bytes → IsShown s (length bytes) bytes
unfolding printed
whole-shown s whole bytes p =
    let d = detail_of s in
    let i = root_item p.whole in
    let same : written d i ≡ shown d i = same-to d (ap (λ b. has_arguments (detail_by s.is_bare b)) whole ∙ whole-by s.is_bare) (suc (rank i)) i in
    record { whole = p.whole; stands = p.stands; text_is = ap text_of (sym same) ∙ p.text_is; cost = omega (arith, p.cost, ap cost_of same) }

-- The visible bytes are what is shown, if there are any and none of them is 0.
pub left-shown : {T : Type 0} (r : Option T) (s : Symbol) → s.is_brief ≡ true → (old new : List ℕ) → IsWhole s old → OnSome r (new ≡ visible 0 old)
    → OnSome r (HasNoZero new) → OnSome r (IsShown s (length old) new)
left-shown None s brief old new p is plain = tt
left-shown (Some x) s brief old new p is plain = brief-shown s brief old new p is plain
