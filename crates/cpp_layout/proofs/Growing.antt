-- Lists of parts that grow.
use Rattle.cpp_layout.proofs.Basics.{Bool, true, false, not, if◌then◌else◌, nat_eq, None, ◌≡◌, ℕ, ◌-◌, ◌<◌, ◌≤◌, List, [], ◌∷◌, ◌++◌, length, take, drop, refl, ap, subst, ◌∙◌, arith, append-nil, eq-eqb, ne_eqb, length-take, length-drop, Span, Part, Item, Detail, PartOf, text, sub, IsText, Stacked, Held, with_part, not_empty, list_part, text_part, as_item, member_parts, array_left, float_parts, closing_right, left_parts, right_parts, first_parts, more_parts, expand_parts, parts_in, Term, Context, reargued_none, trees, tree_at, tree_if_there, bytes_at, IsWithin, IsAliasBelow, fixed_text, BLANK, BRAIN_FLOAT, COLONS_STAR, COMMA, FLOAT, LEFT, LEFT_BRACKET, RIGHT, RIGHT_BRACKET, VECTOR, WIDER, TAG, ReadSymbol, table_of, tree_in, form_of, context_of, text_if, marked, referred, shown_in, printed_tree, item_in, MayCome, IsOwn, unshared_of, bytes_of_part, shown, Shows}
use Rattle.sym_print.specs.declared.layout.Part.TheVariants as part
use Rattle.sym_print.specs.Building.{◌then◌}
use Rattle.sym_print.proofs.Stacking.{stacked-nothing, stacked-text, stacked-item}
use Rattle.cpp_grammar.specs.Items as heads
use Rattle.cpp_term.specs.Items as items
use Rattle.cpp_term.specs.Term as term

abbrev Others : Type 0
Others = List (PartOf items.Item)

pub starts : (y : ReadSymbol) (d : Detail) (held : Held Context) → Shows y d held held []
unfolding not_empty
starts y d held = record { stacked = stacked-nothing (unshared_of y) (bytes_of_part y) (MayCome (table_of y)) held.items; capacity = refl }

-- a list that shows some parts also shows equal parts
pub fills : {below : Held Context} (y : ReadSymbol) (d : Detail) (held : Held Context) (others whole : Others) → Shows y d below held others → others ≡ whole → Shows y d below held whole
fills {below} y d held others whole shows e = subst (Shows y d below held) e shows

pub item-pushed : {below : Held Context} (y : ReadSymbol) (old new : Held Context) (node form at : ℕ) (c : Context) (others : Others)
    → new ≡ with_part old (part.Sub (record { node = node; form = form; at = at; ctx = c })) → Shows y c.detail below old others → node < length y.table.nodes → IsAliasBelow (length y.table.nodes) c.argument
    → Shows y c.detail below new (sub (item_in (trees (table_of y)) node form at c) ∷ others)
unfolding not_empty
item-pushed {below} y old new node form at c others e shows less there =
    let i : Item Context = record { node = node; form = form; at = at; ctx = c } in
    record {
      stacked = stacked-item (unshared_of y) (bytes_of_part y) (MayCome (table_of y)) below.items old.items new.items i (shown c.detail others) (ap (λ (h : Held Context). h.items) e) shows.stacked (less, there);
      capacity = ap (λ (h : Held Context). h.capacity) e ∙ shows.capacity;
    }

-- a text that isn't empty is a part
then-text : (d : Detail) (b : List ℕ) (others : Others) → (b then shown d others) ≡ shown d (text b ∷ others)
unfolding not_empty
then-text d [] others = refl
then-text d (c ∷ cs) others = refl

text-pushed : {below : Held Context} (y : ReadSymbol) (d : Detail) (old new : Held Context) (p : Part Context) (b : List ℕ) (others : Others) → new ≡ with_part old p → Shows y d below old others
    → IsText p → bytes_of_part y p ≡ b → 0 < length b → MayCome (table_of y) p → Shows y d below new (text b ∷ others)
text-pushed {below} y d old new p b others e shows is says some may = record {
  stacked = subst (Stacked (unshared_of y) (bytes_of_part y) (MayCome (table_of y)) below.items new.items) (then-text d b others)
      (stacked-text (unshared_of y) (bytes_of_part y) (MayCome (table_of y)) below.items old.items new.items p b (shown d others) (ap (λ (h : Held Context). h.items) e) shows.stacked is says some may);
  capacity = ap (λ (h : Held Context). h.capacity) e ∙ shows.capacity;
}

pub fixed-pushed : {below : Held Context} (y : ReadSymbol) (d : Detail) (old new : Held Context) (number : ℕ) (others : Others) → new ≡ with_part old (part.Fixed number) → 0 < length (fixed_text number)
    → Shows y d below old others → Shows y d below new (text (fixed_text number) ∷ others)
fixed-pushed y d old new number others e some shows = text-pushed y d old new (part.Fixed number) (fixed_text number) others e shows tt refl some some

length-bytes_at : (s : List ℕ) (span : Span) → IsWithin span s → length (bytes_at s span) ≡ span.to - span.from
length-bytes_at s span h = omega (arith, length-take (span.to - span.from) (drop span.from s), length-drop span.from s, h.0, h.1)

pub bytes-some : (s : List ℕ) (span : Span) → IsWithin span s → span.from < span.to → 0 < length (bytes_at s span)
bytes-some s span h some = omega (arith, length-bytes_at s span h)

pub bytes-none : (s : List ℕ) (span : Span) → span.to ≤ span.from → bytes_at s span ≡ []
bytes-none s span h = let none : span.to - span.from ≡ 0 = omega arith in ap (λ n. take n (drop span.from s)) none

pub bytes-pushed : {below : Held Context} (y : ReadSymbol) (d : Detail) (old new : Held Context) (span : Span) (others : Others) → new ≡ with_part old (part.Symbol span) → span.from < span.to
    → Shows y d below old others → IsWithin span y.bytes → Shows y d below new (text (bytes_at y.bytes span) ∷ others)
bytes-pushed y d old new span others e some shows within =
    text-pushed y d old new (part.Symbol span) (bytes_at y.bytes span) others e shows tt refl (bytes-some y.bytes span within some) (within, some)

pub no-text : {below : Held Context} (y : ReadSymbol) (d : Detail) (held : Held Context) (b : List ℕ) (others : Others) → b ≡ [] → Shows y d below held others → Shows y d below held (text b ∷ others)
unfolding not_empty
no-text y d held b others e shows = rw e (record { stacked = shows.stacked; capacity = shows.capacity })

-- `text_part` before other parts is that text, or nothing where the text is empty
pub part-text : {below : Held Context} (y : ReadSymbol) (d : Detail) (held : Held Context) (b : List ℕ) (others : Others) → Shows y d below held (text b ∷ others) → Shows y d below held (text_part b ++ others)
unfolding not_empty text_part
part-text y d held [] others shows = record { stacked = shows.stacked; capacity = shows.capacity }
part-text y d held (c ∷ cs) others shows = shows

-- ## Lists of elements

pub list-none : (form : heads.Form) (c : items.Context) (t : Term) (rest : Others) → t ≡ term.nil → rest ≡ list_part form c t ++ rest
unfolding list_part
list-none form c t rest e = rw e refl

pub list-some : (form : heads.Form) (c : items.Context) (t : Term) (rest : Others) → (t ≡ term.nil → ⊥) → as_item form c t ∷ rest ≡ list_part form c t ++ rest
unfolding list_part
list-some form c term.nil rest other = absurd (other refl)
list-some form c _ rest other = refl

-- an item in a form below 6 has the tree itself
tree-in : (form : ℕ) (t : Term) → form < 6 → tree_in form t ≡ t
tree-in form t less = rw (ne_eqb form 6 (omega (arith, less))) refl

pub list-here : (ts : List Term) (node form : ℕ) (c : Context) (rest : Others) → form < 6 → (shown_in ts c (tree_at ts node) ≡ term.nil → ⊥)
    → sub (item_in ts node form 0 c) ∷ rest ≡ list_part (form_of form 0) (context_of c) (shown_in ts c (tree_at ts node)) ++ rest
list-here ts node form c rest less other =
    ap (λ t. as_item (form_of form 0) (context_of c) t ∷ rest) (tree-in form (shown_in ts c (tree_at ts node)) less) ∙ list-some (form_of form 0) (context_of c) (shown_in ts c (tree_at ts node)) rest other

-- ## Parts that depend on a test

pub marked-by : (b : Bool) (i : PartOf items.Item) (m n : ℕ) → i ∷ text (fixed_text (if b then m else n)) ∷ [] ≡ marked b i (fixed_text m) (fixed_text n)
marked-by true i m n = refl
marked-by false i m n = refl

pub referred-so : (b : Bool) (i : PartOf items.Item) (l : Others) → b ≡ true → i ∷ [] ≡ referred b i l
referred-so b i l e = rw e refl

pub referred-not : (b : Bool) (i : PartOf items.Item) (l : Others) → b ≡ false → l ≡ referred b i l
referred-not b i l e = rw e refl

pub if-text : (b : Bool) (t : List ℕ) (rest : Others) → b ≡ true → text t ∷ rest ≡ text_if b t rest
if-text b t rest e = rw e refl

pub if-not : (b : Bool) (t : List ℕ) (rest : Others) → b ≡ false → rest ≡ text_if b t rest
if-not b t rest e = rw e refl

pub either-so : (b : Bool) (m n : ℕ) (rest : Others) → b ≡ true → text (fixed_text m) ∷ rest ≡ text (fixed_text (if b then m else n)) ∷ rest
either-so b m n rest e = rw e refl

pub either-not : (b : Bool) (m n : ℕ) (rest : Others) → b ≡ false → text (fixed_text n) ∷ rest ≡ text (fixed_text (if b then m else n)) ∷ rest
either-not b m n rest e = rw e refl

module _ (c : items.Context) (class t : Term) where
  pub member-whole : (b : Bool) → heads.is_funarr (items.head c t) ≡ b → as_item heads.left c t ∷ text (fixed_text (if b then LEFT else BLANK)) ∷ as_item heads.left c class ∷ text (fixed_text COLONS_STAR) ∷ [] ≡ member_parts c class t
  unfolding member_parts
  member-whole true e = rw (member_parts, e) refl
  member-whole false e = rw (member_parts, e) refl

module _ (c : items.Context) (t : Term) where
  pub array-whole : (b : Bool) → heads.is_funarr (items.head c t) ≡ b → as_item heads.left c t ∷ text_if (not b) (fixed_text BLANK) [] ≡ array_left c t
  unfolding array_left
  array-whole true e = rw (array_left, e) refl
  array-whole false e = rw (array_left, e) refl

  pub closing-whole : (b : Bool) → heads.is_funarr (items.head c t) ≡ b → text_if b (fixed_text RIGHT) (as_item heads.right c t ∷ []) ≡ closing_right c t
  unfolding closing_right
  closing-whole true e = rw (closing_right, e) refl
  closing-whole false e = rw (closing_right, e) refl

  pub vector-whole : (d : Detail) (digits : List ℕ) → as_item heads.left c t ∷ text (fixed_text VECTOR) ∷ text digits ∷ text (fixed_text RIGHT) ∷ [] ≡ left_parts d c (term.vector digits t)
  unfolding left_parts
  vector-whole d digits = refl

  pub tagged-whole : (d : Detail) (b : Bool) (tag : List ℕ) → as_item heads.left c t ∷ text (fixed_text TAG) ∷ text tag ∷ text (fixed_text RIGHT_BRACKET) ∷ [] ≡ left_parts d c (term.tagged b t tag)
  unfolding left_parts
  tagged-whole d b tag = refl

  pub array-right : (digits : List ℕ) → text (fixed_text LEFT_BRACKET) ∷ (text_part digits ++ (text (fixed_text RIGHT_BRACKET) ∷ as_item heads.right c t ∷ [])) ≡ right_parts c (term.array digits t)
  unfolding right_parts
  array-right digits = refl

  pub bounded-right : (bound : Term) → text (fixed_text LEFT_BRACKET) ∷ as_item heads.left c bound ∷ text (fixed_text RIGHT_BRACKET) ∷ as_item heads.right c t ∷ [] ≡ right_parts c (term.bounded bound t)
  unfolding right_parts
  bounded-right bound = refl

-- the parts of a floating type, by the letter at its end
pub float-brain : (digits : List ℕ) (end : ℕ) → end ≡ 98 → text (fixed_text BRAIN_FLOAT) ∷ [] ≡ float_parts digits end
unfolding float_parts
float-brain digits end is = rw (float_parts, eq-eqb end 98 is) refl

pub float-sized : (digits : List ℕ) (end : ℕ) → (end ≡ 98 → ⊥) → text (fixed_text FLOAT) ∷ text digits ∷ text_if (nat_eq end 120) (fixed_text WIDER) [] ≡ float_parts digits end
unfolding float_parts
float-sized digits end other = go (nat_eq end 120) refl
  where
    go : (b : Bool) → nat_eq end 120 ≡ b → text (fixed_text FLOAT) ∷ text digits ∷ text_if b (fixed_text WIDER) [] ≡ float_parts digits end
    go true is = rw (float_parts, ne_eqb end 98 other, is) refl
    go false is = rw (float_parts, ne_eqb end 98 other, is) refl

pub parameter-same : (ts : List Term) (form node : ℕ) (inner : Context) (t : Term) → form < 6 → shown_in ts inner (tree_at ts node) ≡ t → context_of inner ≡ items.closed
    → sub (item_in ts node form 0 inner) ∷ [] ≡ as_item (form_of form 0) items.closed t ∷ []
parameter-same ts form node inner t less e closed =
    ap (λ u. sub (record { tree = u; form = form_of form 0; context = context_of inner }) ∷ []) (tree-in form (shown_in ts inner (tree_at ts node)) less ∙ e)
    ∙ ap (λ x. sub (record { tree = t; form = form_of form 0; context = x }) ∷ []) closed

-- parts shown in a detail are shown in an equal detail
pub told-so : {below : Held Context} (y : ReadSymbol) (d e : Detail) (held : Held Context) (others : Others) → d ≡ e → Shows y d below held others → Shows y e below held others
told-so {below} y d e held others is shows = subst (λ x. Shows y x below held others) is shows

-- ## Contexts that are the same

module _ (y : ReadSymbol) (c told : Context) (is : c ≡ told) (old new : Held Context) (form node : ℕ) where
  pub told-item : ((below : Held Context) (others : Others) → Shows y c.detail below old others → Shows y c.detail below new (sub (item_in (trees (table_of y)) node form 0 c) ∷ others))
      → (below : Held Context) (others : Others) → Shows y told.detail below old others → Shows y told.detail below new (sub (item_in (trees (table_of y)) node form 0 told) ∷ others)
  told-item pushed =
      subst (λ (x : Context). (below : Held Context) (others : Others) → Shows y x.detail below old others → Shows y x.detail below new (sub (item_in (trees (table_of y)) node form 0 x) ∷ others)) is pushed

  pub told-list : ((below : Held Context) (others : Others) → Shows y c.detail below old others → Shows y c.detail below new (list_part (form_of form 0) (context_of c) (printed_tree y c node) ++ others))
      → (below : Held Context) (others : Others) → Shows y told.detail below old others → Shows y told.detail below new (list_part (form_of form 0) (context_of told) (printed_tree y told node) ++ others)
  told-list pushed =
      subst (λ (x : Context). (below : Held Context) (others : Others) → Shows y x.detail below old others → Shows y x.detail below new (list_part (form_of form 0) (context_of x) (printed_tree y x node) ++ others)) is pushed

pub told-parts : {below held : Held Context} (y : ReadSymbol) (c told : Context) (parts_of : Context → Others) → c ≡ told → Shows y c.detail below held (parts_of c) → Shows y told.detail below held (parts_of told)
told-parts {below} {held} y c told parts_of is shows = subst (λ (x : Context). Shows y x.detail below held (parts_of x)) is shows

-- without an index and an argument, an item has the node's own tree
module _ (y : ReadSymbol) (d : Detail) (form node : ℕ) where
  pub closed-item : item_in (trees (table_of y)) node form 0 (record { index = None; detail = d; argument = None }) ≡ record { tree = tree_in form (tree_at (trees (table_of y)) node); form = form_of form 0; context = items.closed }
  unfolding tree_if_there
  closed-item =
      let item : Term → items.Item = λ t. record { tree = tree_in form t; form = form_of form 0; context = items.closed } in
      ap item (reargued_none (tree_at (trees (table_of y)) node))

-- ## Cells

module _ (c : items.Context) (e r : Term) where
  pub first-empty : items.is_empty c e ≡ true → list_part heads.first c r ++ [] ≡ first_parts c (term.list e r)
  unfolding first_parts
  first-empty h = rw (first_parts, h) (append-nil (list_part heads.first c r))

  pub first-some : items.is_empty c e ≡ false → as_item heads.left c e ∷ as_item heads.right c e ∷ (list_part heads.more c r ++ []) ≡ first_parts c (term.list e r)
  unfolding first_parts
  first-some h = rw (first_parts, h) (ap (λ l. as_item heads.left c e ∷ as_item heads.right c e ∷ l) (append-nil (list_part heads.more c r)))

  pub more-empty : items.is_empty c e ≡ true → list_part heads.more c r ++ [] ≡ more_parts c (term.list e r)
  unfolding more_parts
  more-empty h = rw (more_parts, h) (append-nil (list_part heads.more c r))

  pub more-some : items.is_empty c e ≡ false → text (fixed_text COMMA) ∷ as_item heads.left c e ∷ as_item heads.right c e ∷ (list_part heads.more c r ++ []) ≡ more_parts c (term.list e r)
  unfolding more_parts
  more-some h = rw (more_parts, h) (ap (λ l. text (fixed_text COMMA) ∷ as_item heads.left c e ∷ as_item heads.right c e ∷ l) (append-nil (list_part heads.more c r)))

-- ## A part's own bytes

own-may : (y : ReadSymbol) (p : Part Context) (b : List ℕ) → IsOwn p b → 0 < length b → length b ≤ 24 → MayCome (table_of y) p
own-may y (part.Own bytes count) b is some few = (omega (arith, is.1, some), omega (arith, is.1, few), is.2)
own-may y (part.Sub i) b is some few = absurd is
own-may y (part.Symbol i) b is some few = absurd is
own-may y (part.List i) b is some few = absurd is
own-may y (part.Fixed i) b is some few = absurd is

own-text : (p : Part Context) (b : List ℕ) → IsOwn p b → IsText p
own-text (part.Own bytes count) b is = tt
own-text (part.Sub i) b is = absurd is
own-text (part.Symbol i) b is = absurd is
own-text (part.List i) b is = absurd is
own-text (part.Fixed i) b is = absurd is

own-says : (y : ReadSymbol) (p : Part Context) (b : List ℕ) → IsOwn p b → bytes_of_part y p ≡ b
own-says y (part.Own bytes count) b is = is.0
own-says y (part.Sub i) b is = absurd is
own-says y (part.Symbol i) b is = absurd is
own-says y (part.List i) b is = absurd is
own-says y (part.Fixed i) b is = absurd is

pub own-pushed : {below : Held Context} (y : ReadSymbol) (d : Detail) (old new : Held Context) (p : Part Context) (b : List ℕ) (others : Others) → new ≡ with_part old p → IsOwn p b → 0 < length b → length b ≤ 24
    → Shows y d below old others → Shows y d below new (text b ∷ others)
own-pushed y d old new p b others e is some few shows =
    text-pushed y d old new p b others e shows (own-text p b is) (own-says y p b is) some (own-may y p b is some few)

-- ## Forms

pub form-expand : (form at : ℕ) (t : Term) (d : Detail) (c : items.Context) → 10 ≤ form → (form ≡ 11 → ⊥) → expand_parts c t at ≡ parts_in d c (form_of form at) (tree_in form t)
unfolding parts_in
form-expand form at t d c more other = rw (
  ne_eqb form 0 (omega (arith, more)),
  ne_eqb form 1 (omega (arith, more)),
  ne_eqb form 2 (omega (arith, more)),
  ne_eqb form 3 (omega (arith, more)),
  ne_eqb form 4 (omega (arith, more)),
  ne_eqb form 5 (omega (arith, more)),
  ne_eqb form 6 (omega (arith, more)),
  ne_eqb form 7 (omega (arith, more)),
  ne_eqb form 8 (omega (arith, more)),
  ne_eqb form 9 (omega (arith, more)),
  ne_eqb form 11 other,
) refl
