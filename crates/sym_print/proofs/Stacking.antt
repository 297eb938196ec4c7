-- A stack that grows part by part, the last part first.
use Rattle.sym_print.proofs.Basics.{◌≡◌, ℕ, ◌<◌, List, [], ◌∷◌, ◌++◌, length, reverse, refl, sym, ap, ◌∙◌, append_assoc, append-nil, reverse-append, All-nil, All-cons, Item, Part, Sub, Unshared, done, bytes, item, ◌then◌, joined, IsText, Stacked}
use Rattle.sym_print.proofs.Building.{then-bytes}

-- one more part is above the others
above : {X : Type 0} (below added old new : List X) (x : X) → new ≡ old ++ x ∷ [] → old ≡ below ++ reverse added → new ≡ below ++ reverse (x ∷ added)
above below added old new x e is =
    e ∙ ap (λ l. l ++ x ∷ []) is ∙ append_assoc below (reverse added) (x ∷ []) ∙ ap (λ l. below ++ l) (sym (reverse-append (x ∷ []) added))

module _ {C : Type 0} (unshared : Item C → Unshared) (bytes_of : Part C → List ℕ) (may_come : Part C → Type 0) where
  -- a stack to which nothing was added shows nothing
  pub stacked-nothing : (below : List (Part C)) → Stacked unshared bytes_of may_come below below done
  stacked-nothing below = record { added = []; is = sym (append-nil below); all = All-nil may_come; joined = refl }

  first-text : (part : Part C) (rest : List (Part C)) → IsText part → joined unshared bytes_of (part ∷ rest) ≡ bytes (bytes_of part) (joined unshared bytes_of rest)
  first-text (Sub i) rest h = elim h [ ]
  first-text _ rest h = refl

  -- a text that is added comes before what was shown
  pub stacked-text : (below old new : List (Part C)) (part : Part C) (b : List ℕ) (shown : Unshared) → new ≡ old ++ part ∷ [] → Stacked unshared bytes_of may_come below old shown
      → IsText part → bytes_of part ≡ b → 0 < length b → may_come part → Stacked unshared bytes_of may_come below new (b then shown)
  stacked-text below old new part b shown e stacked is_text says some may = record {
    added = part ∷ stacked.added;
    is = above below stacked.added old new part e stacked.is;
    all = All-cons may_come part stacked.added may stacked.all;
    joined = then-bytes b shown some ∙ ap (bytes b) stacked.joined ∙ ap (λ c. bytes c (joined unshared bytes_of stacked.added)) (sym says)
        ∙ sym (first-text part stacked.added is_text);
  }

  -- an item that is added comes before what was shown
  pub stacked-item : (below old new : List (Part C)) (i : Item C) (shown : Unshared) → new ≡ old ++ Sub i ∷ [] → Stacked unshared bytes_of may_come below old shown
      → may_come (Sub i) → Stacked unshared bytes_of may_come below new (item (unshared i) shown)
  stacked-item below old new i shown e stacked may = record {
    added = Sub i ∷ stacked.added;
    is = above below stacked.added old new (Sub i) e stacked.is;
    all = All-cons may_come (Sub i) stacked.added may stacked.all;
    joined = ap (item (unshared i)) stacked.joined;
  }
