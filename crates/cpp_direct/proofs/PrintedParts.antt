-- What an item prints is what its parts print.
use Rattle.cpp_direct.proofs.Basics.{◌≡◌, Bool, true, false, refl, ap, sym, ◌∙◌, ℕ, ◌+◌, ◌≤◌, List, [], ◌∷◌, ◌++◌, length, arith, subst, append-nil, append_assoc, ◌≢◌, closes, Context, Detail, first, Form, has_arguments, has_parameters, instance, instance_parts, Item, last_piece, left, left_parts, list_part, low, low_parts, nil, not_empty, opening_text, parts, parts_in, rank, rank_in, says, Term, text_part, PartOf, text, sub, printed_parts, RanksBelow, Unshared, text_of, cost_of, detail_by, detail_of, IsUnmarked, Symbol, unmarked, unmarked_parts, written, written_in, written_instance, written_name, written_of, written_parts}
use Rattle.sym_print.proofs.Unfolding.{printed-parts}
use Rattle.cpp_grammar.proofs.RanksFall.{ranks_fall}
use Rattle.cpp_direct.proofs.Unmarked.{unmarked-same, length-unmarked}

whole-by : (is_brief : Bool) → has_parameters (detail_by false is_brief) ≡ true
whole-by true = refl
whole-by false = refl

bare-by : (is_brief : Bool) → has_parameters (detail_by true is_brief) ≡ false
bare-by true = refl
bare-by false = refl

-- functions are shown with their parameters, or by their names only
pub has-parameters : (s : Symbol) → s.is_bare ≡ false → has_parameters (detail_of s) ≡ true
has-parameters s whole = ap (λ b. has_parameters (detail_by b s.is_brief)) whole ∙ whole-by s.is_brief

pub has-none : (s : Symbol) → s.is_bare ≡ true → has_parameters (detail_of s) ≡ false
has-none s bare = ap (λ b. has_parameters (detail_by b s.is_brief)) bare ∙ bare-by s.is_brief

-- ## What parts print

-- what parts print in a detail, with all marks in their texts
abbrev pub printed_by : Detail → List (PartOf Item) → Unshared
printed_by d ps = printed_parts (written d) (not_empty ps)

-- what parts print in a detail, without marks in their texts where arguments aren't shown
abbrev pub shown_by : Detail → List (PartOf Item) → Unshared
shown_by d ps = printed_by d (unmarked_parts (has_arguments d) ps)

-- a list's elements are one item, or none
pub list-unmarked : (shown : Bool) (form : Form) (context : Context) (t : Term) → unmarked_parts shown (list_part form context t) ≡ list_part form context t
unfolding list_part
list-unmarked shown form context nil = refl
list-unmarked shown form context t = refl

unmarked-falls : (shown : Bool) (n : ℕ) (ps : List (PartOf Item)) → RanksBelow rank n (not_empty ps) → RanksBelow rank n (not_empty (unmarked_parts shown ps))
unfolding not_empty
unmarked-falls shown n [] below = below
unmarked-falls shown n (text [] ∷ ps) below = unmarked-falls shown n ps below
unmarked-falls shown n (text (b ∷ bs) ∷ ps) below = unmarked-falls shown n ps below
unmarked-falls shown n (sub i ∷ ps) below = (below.0, unmarked-falls shown n ps below.1)

-- the ranks of parts stay below a bound if the last text is replaced by another one
last-falls : (n x y : ℕ) (ps : List (PartOf Item)) → RanksBelow rank n (not_empty (ps ++ text (x ∷ []) ∷ []))
    → RanksBelow rank n (not_empty (ps ++ text (y ∷ []) ∷ []))
unfolding not_empty
last-falls n x y [] below = below
last-falls n x y (text [] ∷ ps) below = last-falls n x y ps below
last-falls n x y (text (b ∷ bs) ∷ ps) below = last-falls n x y ps below
last-falls n x y (sub i ∷ ps) below = (below.0, last-falls n x y ps below.1)

-- the ranks of parts stay below a bound if the first text is left out
first-falls : (n : ℕ) (b : List ℕ) (ps : List (PartOf Item)) → RanksBelow rank n (not_empty (text b ∷ ps)) → RanksBelow rank n (not_empty ps)
unfolding not_empty
first-falls n [] ps below = below
first-falls n (b ∷ bs) ps below = below

instance-falls : (shown : Bool) (n : ℕ) (c : Context) (t a : Term) → RanksBelow rank n (not_empty (instance_parts true c t a))
    → RanksBelow rank n (not_empty (written_instance shown c t a))
unfolding not_empty instance_parts
instance-falls true n c t a below = below
instance-falls false n c t a below =
    (below.0, last-falls n 62 closes (list_part first c a) (first-falls n (opening_text (last_piece t)) (list_part first c a ++ (says ">" ∷ [])) below.1))

name-falls : (d : Detail) (c : Context) (form : Form) (t : Term) → ((e : Detail) → RanksBelow rank (rank_in c form t) (not_empty (parts_in e c form t)))
    → ((a b : Term) → t ≡ instance a b → parts_in Detail.Full c form t ≡ instance_parts true c a b)
    → RanksBelow rank (rank_in c form t) (not_empty (written_name d c form t))
name-falls d c form (instance a b) below is =
    instance-falls (has_arguments d) (rank_in c form (instance a b)) c a b
    (subst (λ ps. RanksBelow rank (rank_in c form (instance a b)) (not_empty ps)) (is a b refl) (below Detail.Full))
name-falls d c form t below is = unmarked-falls (has_arguments d) (rank_in c form t) (parts_in d c form t) (below d)

same-instance : (c : Context) (form : Form) (t a b : Term) → t ≡ instance a b → parts_in Detail.Full c form (instance a b) ≡ instance_parts true c a b
    → parts_in Detail.Full c form t ≡ instance_parts true c a b
same-instance c form t a b e is = subst (λ u. parts_in Detail.Full c form u ≡ instance_parts true c a b) (sym e) is

in-falls : (d : Detail) (c : Context) (form : Form) (t : Term) → ((e : Detail) → RanksBelow rank (rank_in c form t) (not_empty (parts_in e c form t)))
    → RanksBelow rank (rank_in c form t) (not_empty (written_in d c form t))
unfolding parts_in left_parts low_parts
in-falls d c left t below = name-falls d c left t below (λ a b e. same-instance c left t a b e refl)
in-falls d c low t below = name-falls d c low t below (λ a b e. same-instance c low t a b e refl)
in-falls d c form t below = unmarked-falls (has_arguments d) (rank_in c form t) (parts_in d c form t) (below d)

-- each part of what is written of an item has a lower rank than the item
pub written_falls : (d : Detail) (item : Item) → RanksBelow rank (rank item) (written_parts d item)
unfolding written_parts parts rank
written_falls d item = in-falls d item.context item.form item.tree (λ e. ranks_fall e item)

-- a tree in a form prints its parts
pub writes_parts : (d : Detail) (form : Form) (context : Context) (t : Term) → written_of d form context t ≡ printed_by d (written_in d context form t)
unfolding written_parts
writes_parts d form context t = printed-parts (written_parts d) rank (written_falls d) (record { tree = t; form = form; context = context })

-- the text of a tree in a form, if its parts are known and it is no instance
pub text_shown : (d : Detail) (form : Form) (context : Context) (t : Term) (ps : List (PartOf Item)) → parts_in d context form t ≡ ps
    → written_in d context form t ≡ unmarked_parts (has_arguments d) (parts_in d context form t)
    → text_of (written_of d form context t) ≡ text_of (shown_by d ps)
text_shown d form context t ps e same = ap text_of (writes_parts d form context t) ∙ ap (λ xs. text_of (printed_by d xs)) same ∙ ap (λ xs. text_of (shown_by d xs)) e

-- likewise for the cost
pub cost_shown : (d : Detail) (form : Form) (context : Context) (t : Term) (ps : List (PartOf Item)) → parts_in d context form t ≡ ps
    → written_in d context form t ≡ unmarked_parts (has_arguments d) (parts_in d context form t)
    → cost_of (written_of d form context t) ≡ cost_of (shown_by d ps)
cost_shown d form context t ps e same = ap cost_of (writes_parts d form context t) ∙ ap (λ xs. cost_of (printed_by d xs)) same ∙ ap (λ xs. cost_of (shown_by d xs)) e

-- a first text precedes what the other parts print, whether the first text is empty or not
first-printed : (d : Detail) (b : List ℕ) (ps : List (PartOf Item)) → text_of (printed_by d (text b ∷ ps)) ≡ b ++ text_of (printed_by d ps)
unfolding not_empty
first-printed d [] ps = refl
first-printed d (b ∷ bs) ps = refl

pub first_shown : (d : Detail) (b : List ℕ) (ps : List (PartOf Item)) → IsUnmarked b → text_of (shown_by d (text b ∷ ps)) ≡ b ++ text_of (shown_by d ps)
first_shown d b ps plain =
    first-printed d (unmarked (has_arguments d) b) (unmarked_parts (has_arguments d) ps) ∙ ap (λ x. x ++ text_of (shown_by d ps)) (unmarked-same (has_arguments d) b plain)

first-cost-printed : (d : Detail) (b : List ℕ) (ps : List (PartOf Item)) → cost_of (printed_by d (text b ∷ ps)) ≡ length b + cost_of (printed_by d ps)
unfolding not_empty
first-cost-printed d [] ps = omega arith
first-cost-printed d (b ∷ bs) ps = omega arith

-- a first text costs its length
pub first_cost_shown : (d : Detail) (b : List ℕ) (ps : List (PartOf Item)) → cost_of (shown_by d (text b ∷ ps)) ≡ length b + cost_of (shown_by d ps)
first_cost_shown d b ps = omega (arith, first-cost-printed d (unmarked (has_arguments d) b) (unmarked_parts (has_arguments d) ps), length-unmarked (has_arguments d) b)

-- a text as the only part
pub alone_shown : (d : Detail) (b : List ℕ) → IsUnmarked b → text_of (shown_by d (text b ∷ [])) ≡ b
unfolding not_empty
alone_shown d b plain = first_shown d b [] plain ∙ append-nil b

-- a list that isn't empty has an element
pub length-filled : (xs : List ℕ) → xs ≢ [] → 1 ≤ length xs
length-filled [] e = absurd (e refl)
length-filled (x ∷ xs) e = omega arith

-- the texts of two lists of parts are joined
pub parts-joined : (f : Item → Unshared) (ps qs : List (PartOf Item))
    → text_of (printed_parts f (not_empty (ps ++ qs))) ≡ text_of (printed_parts f (not_empty ps)) ++ text_of (printed_parts f (not_empty qs))
unfolding not_empty
parts-joined f [] qs = refl
parts-joined f (text [] ∷ ps) qs = parts-joined f ps qs
parts-joined f (text (b ∷ bs) ∷ ps) qs =
    ap (λ l. (b ∷ bs) ++ l) (parts-joined f ps qs)
    ∙ sym (append_assoc (b ∷ bs) (text_of (printed_parts f (not_empty ps))) (text_of (printed_parts f (not_empty qs))))
parts-joined f (sub i ∷ ps) qs =
    ap (λ l. text_of (f i) ++ l) (parts-joined f ps qs)
    ∙ sym (append_assoc (text_of (f i)) (text_of (printed_parts f (not_empty ps))) (text_of (printed_parts f (not_empty qs))))

pub text-append : (detail : Detail) (ps qs : List (PartOf Item))
    → text_of (printed_by detail (ps ++ qs)) ≡ text_of (printed_by detail ps) ++ text_of (printed_by detail qs)
text-append detail ps qs = parts-joined (λ i. written detail i) ps qs

-- the costs of two lists of parts are added
pub cost-append : (detail : Detail) (ps qs : List (PartOf Item))
    → 1 + cost_of (printed_by detail (ps ++ qs)) ≡ cost_of (printed_by detail ps) + cost_of (printed_by detail qs)
unfolding not_empty
cost-append detail [] qs = omega arith
cost-append detail (text [] ∷ ps) qs = cost-append detail ps qs
cost-append detail (text (b ∷ bs) ∷ ps) qs = omega (arith, cost-append detail ps qs)
cost-append detail (sub i ∷ ps) qs = omega (arith, cost-append detail ps qs)

unmarked-append : (shown : Bool) (ps qs : List (PartOf Item)) → unmarked_parts shown (ps ++ qs) ≡ unmarked_parts shown ps ++ unmarked_parts shown qs
unmarked-append shown [] qs = refl
unmarked-append shown (text b ∷ ps) qs = ap (λ rs. text (unmarked shown b) ∷ rs) (unmarked-append shown ps qs)
unmarked-append shown (sub i ∷ ps) qs = ap (λ rs. sub i ∷ rs) (unmarked-append shown ps qs)

-- likewise for parts without marks
pub text_append : (detail : Detail) (ps qs : List (PartOf Item))
    → text_of (shown_by detail (ps ++ qs)) ≡ text_of (shown_by detail ps) ++ text_of (shown_by detail qs)
text_append detail ps qs =
    ap (λ rs. text_of (printed_by detail rs)) (unmarked-append (has_arguments detail) ps qs)
    ∙ text-append detail (unmarked_parts (has_arguments detail) ps) (unmarked_parts (has_arguments detail) qs)

pub cost_append : (detail : Detail) (ps qs : List (PartOf Item))
    → 1 + cost_of (shown_by detail (ps ++ qs)) ≡ cost_of (shown_by detail ps) + cost_of (shown_by detail qs)
cost_append detail ps qs =
    omega (
      arith,
      ap (λ rs. cost_of (printed_by detail rs)) (unmarked-append (has_arguments detail) ps qs),
      cost-append detail (unmarked_parts (has_arguments detail) ps) (unmarked_parts (has_arguments detail) qs),
    )

-- a part that is left out if its text is empty prints its text
pub part-text : (detail : Detail) (b : List ℕ) → IsUnmarked b → text_of (shown_by detail (text_part b)) ≡ b
unfolding text_part not_empty
part-text detail [] plain = refl
part-text detail (b ∷ bs) plain = alone_shown detail (b ∷ bs) plain

-- a part that is left out if its text is empty costs one more than its length
pub part-cost : (detail : Detail) (b : List ℕ) → cost_of (shown_by detail (text_part b)) ≡ 1 + length b
unfolding text_part not_empty
part-cost detail [] = omega arith
part-cost detail (b ∷ bs) = omega (arith, first_cost_shown detail (b ∷ bs) [])
