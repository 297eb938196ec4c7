-- What is noted still holds while entries are taken.
use Rattle.sym_print.proofs.Basics.{◌≡◌, ℕ, ◌+◌, ◌-◌, ◌<◌, ◌≤◌, Some, List, [], ◌∷◌, ◌++◌, length, take, drop, reverse, refl, sym, ap, ◌∙◌, subst, append_assoc, append-nil, arith, inl, inr, ◌⊎◌, ⊎_elim, drop-append-le, length-append, length-drop, take-append-le, take_all, drop-length, drop-append_seam, All, Contains, All-nil, All-cons, All-head, All-tail, All-push, All-pop, All-weaker, All-same, All-contains, Item, Part, Sub, Unshared, bytes, item, done, text_of, cost_of_parts, cost_of, steps_of_parts, steps_of, Stacked, IsNext, IsText, text_of_part, cost_of_part, steps_of_part, text_of_stack, cost_of_stack, steps_of_stack, spare_of_part, spare_of_stack, IsNote, IsBegun, AreNested, AreBelow, EndsAt, AreNoted}
use Rattle.std.proofs.Math.Numerals.{lt_of_le_of_ne}
use Rattle.sym_print.specs.declared.notes.Note.{Note}
use Rattle.sym_print.specs.declared.notes.Begun.{Begun}
use Rattle.sym_print.specs.declared.notes.Notes.{Notes}
use Rattle.sym_print.proofs.Stack.{next_is_last, text_of_stack-append, cost_of_stack-append, steps_of_stack-append, text_of_stack-reverse, cost_of_stack-reverse, steps_of_stack-reverse, text_of_text, cost_of_text, steps_of_text, cost_of_next}
use Rattle.sym_print.proofs.Sparing.{spare_of_stack-append, spare_of_text}

-- a text costs at least its bytes
pub length_of_text : (parts : Unshared) → length (text_of parts) ≤ cost_of_parts parts
length_of_text done = omega arith
length_of_text (bytes b rest) = omega (arith, length-append b (text_of rest), length_of_text rest)
length_of_text (item parts rest) = omega (arith, length-append (text_of parts) (text_of rest), length_of_text parts, length_of_text rest)

module _ {C : Type 0} where
  -- the items stay nested when one begins at a place no lower than theirs
  pub nested-push : (low : ℕ) (begun : List (Begun C)) (b : Begun C) → low ≤ b.below → AreNested low begun → All (λ a. a.below ≤ b.below) begun → AreNested low (begun ++ b ∷ [])
  nested-push low [] b lt nested all = (lt, tt)
  nested-push low (a ∷ rest) b lt nested all =
      (nested.0, nested-push a.below rest b (All-head (λ x. x.below ≤ b.below) a rest all) nested.1 (All-tail (λ x. x.below ≤ b.below) a rest all))

  -- the items before the innermost one are nested
  pub nested-pop : (low : ℕ) (begun : List (Begun C)) (b : Begun C) → AreNested low (begun ++ b ∷ []) → AreNested low begun
  nested-pop low [] b nested = tt
  nested-pop low (a ∷ rest) b nested = (nested.0, nested-pop a.below rest b nested.1)

  -- the innermost item has the highest place
  nested-low : (low : ℕ) (begun : List (Begun C)) (b : Begun C) → AreNested low (begun ++ b ∷ []) → low ≤ b.below
  nested-low low [] b nested = nested.0
  nested-low low (a ∷ rest) b nested = omega (arith, nested.0, nested-low a.below rest b nested.1)

  nested-all : (low : ℕ) (begun : List (Begun C)) (b : Begun C) → AreNested low (begun ++ b ∷ []) → All (λ a. a.below ≤ b.below) begun
  nested-all low [] b nested = All-nil (λ a. a.below ≤ b.below)
  nested-all low (a ∷ rest) b nested = All-cons (λ x. x.below ≤ b.below) a rest (nested-low a.below rest b nested.1) (nested-all a.below rest b nested.1)

  -- if the innermost item isn't whole, no item is whole
  pub below-unmet : (low height : ℕ) (begun : List (Begun C)) → AreNested low begun → All (λ b. b.below ≤ height) begun → (EndsAt height begun → ⊥) → AreBelow height begun
  below-unmet low height [] nested all unmet = All-nil (λ b. b.below < height)
  below-unmet low height (b ∷ []) nested all unmet =
      All-cons (λ x. x.below < height) b [] (lt_of_le_of_ne (All-head (λ x. x.below ≤ height) b [] all) (λ e. unmet (b, [], refl, e))) (All-nil (λ x. x.below < height))
  below-unmet low height (a ∷ b ∷ rest) nested all unmet =
      let inner = below-unmet a.below height (b ∷ rest) nested.1 (All-tail (λ x. x.below ≤ height) a (b ∷ rest) all)
      (λ h. unmet (h.0, a ∷ h.1, ap (λ l. a ∷ l) h.2, h.3)) in
      All-cons (λ x. x.below < height) a (b ∷ rest) (omega (arith, nested.1.0, All-head (λ x. x.below < height) b rest inner)) inner

-- the bytes after a place, when more bytes are written
joined-on : (d own up rest one whole : List ℕ) → own ++ up ≡ one → d ++ (one ++ rest) ≡ whole → (d ++ own) ++ (up ++ rest) ≡ whole
joined-on d own up rest one whole e w =
    append_assoc d own (up ++ rest) ∙ ap (λ t. d ++ t) (sym (append_assoc own up rest)) ∙ ap (λ t. d ++ (t ++ rest)) e ∙ w

-- steps that are paid stay paid
spare-on : (since begun spent paid taken counted old new : ℕ) → taken + begun ≤ since + spent + old → counted + spent + old ≤ taken + paid + new → counted + begun ≤ since + paid + new
spare-on since begun spent paid taken counted old new before now = omega (arith, before, now)

module _ {C : Type 0} (unshared : Item C → Unshared) (bytes_of : Part C → List ℕ) where
  shown : List (Part C) → List ℕ
  shown = text_of_stack unshared bytes_of

  price : List (Part C) → ℕ
  price = cost_of_stack unshared bytes_of

  count : List (Part C) → ℕ
  count = steps_of_stack unshared bytes_of

  spare : List (Part C) → ℕ
  spare = spare_of_stack bytes_of

  -- An entry was taken: other entries take its place, and the bytes that it prints before those of the other entries
  -- are written.
  pub record Moves (stack new : List (Part C)) (text written : List ℕ) (spent paid taken counted : ℕ) : Type 0 where
    pub left : List (Part C)
    pub next : Part C
    pub above : List (Part C)
    pub own : List ℕ
    pub was : stack ≡ left ++ next ∷ []
    pub is : new ≡ left ++ above
    pub puts : written ≡ text ++ own
    pub shows : own ++ text_of_stack unshared bytes_of above ≡ text_of_part unshared bytes_of next
    pub costs : paid + cost_of_stack unshared bytes_of above ≡ spent + cost_of_part unshared bytes_of next
    pub takes : counted + steps_of_stack unshared bytes_of above ≡ taken + steps_of_part unshared bytes_of next
    pub few : counted + spent + spare_of_part bytes_of next ≤ taken + paid + spare_of_stack bytes_of above

  -- the text and the stack together print the same as before
  pub text-moved : (stack new : List (Part C)) (text written : List ℕ) (spent paid taken counted : ℕ) → Moves stack new text written spent paid taken counted
      → written ++ text_of_stack unshared bytes_of new ≡ text ++ text_of_stack unshared bytes_of stack
  unfolding shown
  text-moved stack new text written spent paid taken counted m =
      ap (λ t. t ++ shown new) m.puts
      ∙ ap (λ s. (text ++ m.own) ++ shown s) m.is
      ∙ ap (λ t. (text ++ m.own) ++ t) (text_of_stack-append unshared bytes_of m.left m.above)
      ∙ joined-on text m.own (shown m.above) (shown m.left) (text_of_part unshared bytes_of m.next) (text ++ shown stack) m.shows
      (ap (λ t. text ++ t) (sym (text_of_stack-append unshared bytes_of m.left (m.next ∷ []))) ∙ ap (λ s. text ++ shown s) (sym m.was))

  pub cost-moved : (stack new : List (Part C)) (text written : List ℕ) (spent paid taken counted : ℕ) → Moves stack new text written spent paid taken counted
      → paid + cost_of_stack unshared bytes_of new ≡ spent + cost_of_stack unshared bytes_of stack
  unfolding price
  cost-moved stack new text written spent paid taken counted m =
      omega (
        arith,
        ap price m.is,
        ap price m.was,
        cost_of_stack-append unshared bytes_of m.left m.above,
        cost_of_stack-append unshared bytes_of m.left (m.next ∷ []),
        m.costs,
      )

  pub steps-moved : (stack new : List (Part C)) (text written : List ℕ) (spent paid taken counted : ℕ) → Moves stack new text written spent paid taken counted
      → counted + steps_of_stack unshared bytes_of new ≡ taken + steps_of_stack unshared bytes_of stack
  unfolding count
  steps-moved stack new text written spent paid taken counted m =
      omega (
        arith,
        ap count m.is,
        ap count m.was,
        steps_of_stack-append unshared bytes_of m.left m.above,
        steps_of_stack-append unshared bytes_of m.left (m.next ∷ []),
        m.takes,
      )

  -- the steps are paid as before, or will be paid by the texts of the stack
  pub spare-moved : (stack new : List (Part C)) (text written : List ℕ) (spent paid taken counted : ℕ) → Moves stack new text written spent paid taken counted
      → counted + spent + spare_of_stack bytes_of stack ≤ taken + paid + spare_of_stack bytes_of new
  unfolding spare
  spare-moved stack new text written spent paid taken counted m =
      omega (
        arith,
        ap spare m.is,
        ap spare m.was,
        spare_of_stack-append bytes_of m.left m.above,
        spare_of_stack-append bytes_of m.left (m.next ∷ []),
        m.few,
      )

  -- if a place is below the entry that is taken, the entries above that place move as the whole stack does
  moved-above : (stack new : List (Part C)) (text written : List ℕ) (spent paid taken counted below from : ℕ) → Moves stack new text written spent paid taken counted
      → below < length stack → from ≤ length text → Moves (drop below stack) (drop below new) (drop from text) (drop from written) spent paid taken counted
  moved-above stack new text written spent paid taken counted below from m lt within =
      let low : below ≤ length m.left = omega (arith, ap length m.was, length-append m.left (m.next ∷ [])) in record {
        left = drop below m.left;
        next = m.next;
        above = m.above;
        own = m.own;
        was = ap (λ s. drop below s) m.was ∙ drop-append-le below m.left (m.next ∷ []) low;
        is = ap (λ s. drop below s) m.is ∙ drop-append-le below m.left m.above low;
        puts = ap (λ t. drop from t) m.puts ∙ drop-append-le from text m.own within;
        shows = m.shows;
        costs = m.costs;
        takes = m.takes;
        few = m.few;
      }

  begun-moved : (stack new : List (Part C)) (text written : List ℕ) (spent paid taken counted : ℕ) (b : Begun C) → Moves stack new text written spent paid taken counted
      → b.below < length stack → IsBegun unshared bytes_of stack text spent taken b → IsBegun unshared bytes_of new written paid counted b
  begun-moved stack new text written spent paid taken counted b m lt h =
      let up = moved-above stack new text written spent paid taken counted b.below b.from m lt h.within in record {
        place = omega (arith, ap length m.was, length-append m.left (m.next ∷ []), ap length m.is, length-append m.left m.above);
        within = omega (arith, ap length m.puts, length-append text m.own, h.within);
        is = text-moved (drop b.below stack) (drop b.below new) (drop b.from text) (drop b.from written) spent paid taken counted up ∙ h.is;
        costs = cost-moved (drop b.below stack) (drop b.below new) (drop b.from text) (drop b.from written) spent paid taken counted up ∙ h.costs;
        takes = steps-moved (drop b.below stack) (drop b.below new) (drop b.from text) (drop b.from written) spent paid taken counted up ∙ h.takes;
        few = spare-on b.steps b.spent spent paid taken counted (spare_of_stack bytes_of (drop b.below stack)) (spare_of_stack bytes_of (drop b.below new)) h.few (spare-moved (drop b.below stack) (drop b.below new) (drop b.from text) (drop b.from written) spent paid taken counted up);
      }

  -- a note still holds when more is written
  note-moved : (text written own : List ℕ) (n : Note C) → written ≡ text ++ own → IsNote unshared text n → IsNote unshared written n
  note-moved text written own n puts h = record {
    after = h.after ++ own;
    within = omega (arith, ap length puts, length-append text own, h.within);
    is = ap (λ t. drop n.from t) puts ∙ drop-append-le n.from text own h.within ∙ ap (λ t. t ++ own) h.is ∙ append_assoc (text_of (unshared n.item)) h.after own;
    ends = h.ends;
    costs = h.costs;
    takes = h.takes;
    few = h.few;
  }

  -- the notes hold after an entry is taken
  pub noted-moved : (notes : Notes C) (stack new : List (Part C)) (text written : List ℕ) (spent paid taken counted : ℕ) → Moves stack new text written spent paid taken counted
      → AreBelow (length stack) notes.begun.items → AreNoted unshared bytes_of notes stack text spent taken → AreNoted unshared bytes_of notes new written paid counted
  noted-moved notes stack new text written spent paid taken counted m below h = record {
    known = All-weaker (IsNote unshared text) (IsNote unshared written) (λ n. note-moved text written m.own n m.puts) notes.known.items h.known;
    begun = λ k d lt. begun-moved stack new text written spent paid taken counted _ m (below k d lt) (h.begun k d lt);
    nested = h.nested;
  }

  -- equal notes hold, too
  pub noted-same : (old new : Notes C) (stack : List (Part C)) (text : List ℕ) (spent taken : ℕ) → new.known ≡ old.known → new.begun ≡ old.begun
      → AreNoted unshared bytes_of old stack text spent taken → AreNoted unshared bytes_of new stack text spent taken
  noted-same old new stack text spent taken known begun h = record {
    known = All-same (IsNote unshared text) new.known.items old.known.items (ap (λ k. k.items) known) h.known;
    begun = All-same (IsBegun unshared bytes_of stack text spent taken) new.begun.items old.begun.items (ap (λ b. b.items) begun) h.begun;
    nested = subst (λ b. AreNested 0 b.items) (sym begun) h.nested;
  }

  -- if the innermost item that is being written isn't whole, no item is whole
  pub noted-unmet : (notes : Notes C) (stack : List (Part C)) (text : List ℕ) (spent taken height : ℕ) → AreNoted unshared bytes_of notes stack text spent taken
      → height ≡ length stack → (EndsAt height notes.begun.items → ⊥) → AreBelow (length stack) notes.begun.items
  noted-unmet notes stack text spent taken height h is unmet =
      below-unmet 0 (length stack) notes.begun.items h.nested
      (All-weaker (IsBegun unshared bytes_of stack text spent taken) (λ b. b.below ≤ length stack) (λ b i. i.place) notes.begun.items h.begun)
      (subst (λ k. EndsAt k notes.begun.items → ⊥) is unmet)

  -- a text was written and removed from the stack
  pub moves-text : (stack new : List (Part C)) (next : Part C) (text written : List ℕ) (spent paid taken counted : ℕ) → IsNext stack next → IsText next
      → new ≡ take (length stack - 1) stack → written ≡ text ++ bytes_of next → paid ≡ spent + length (bytes_of next) → counted ≡ taken + 1 → 0 < length (bytes_of next)
      → Moves stack new text written spent paid taken counted
  moves-text stack new next text written spent paid taken counted h is_text popped puts pays counts some = record {
    left = take (length stack - 1) stack;
    next = next;
    above = [];
    own = bytes_of next;
    was = next_is_last stack next h;
    is = popped ∙ sym (append-nil (take (length stack - 1) stack));
    puts = puts;
    shows = append-nil (bytes_of next) ∙ sym (text_of_text unshared bytes_of next is_text);
    costs = omega (arith, pays, cost_of_text unshared bytes_of next is_text);
    takes = omega (arith, counts, steps_of_text unshared bytes_of next is_text);
    few = omega (arith, pays, counts, spare_of_text bytes_of next is_text, some);
  }

  -- the text of an item was written again and the item was removed from the stack
  pub moves-again : (stack new : List (Part C)) (note : Note C) (i : Item C) (text written : List ℕ) (spent paid taken counted : ℕ) → IsNext stack (Sub i) → note.item ≡ i → IsNote unshared text note
      → new ≡ take (length stack - 1) stack → written ≡ text ++ text_of (unshared note.item) → paid ≡ spent + note.cost → counted ≡ taken + note.steps
      → Moves stack new text written spent paid taken counted
  moves-again stack new note i text written spent paid taken counted h same noted popped puts pays counts = record {
    left = take (length stack - 1) stack;
    next = Sub i;
    above = [];
    own = text_of (unshared note.item);
    was = next_is_last stack (Sub i) h;
    is = popped ∙ sym (append-nil (take (length stack - 1) stack));
    puts = puts;
    shows = append-nil (text_of (unshared note.item)) ∙ ap (λ x. text_of (unshared x)) same;
    costs = omega (arith, pays, noted.costs, ap (λ x. cost_of (unshared x)) same);
    takes = omega (arith, counts, noted.takes, ap (λ x. steps_of (unshared x)) same);
    few = omega (arith, pays, counts, noted.few);
  }

  -- an item was replaced by its parts
  pub moves-parts : (may_come : Part C → Type 0) (stack new : List (Part C)) (i : Item C) (text : List ℕ) (spent paid taken counted : ℕ) → IsNext stack (Sub i)
      → Stacked unshared bytes_of may_come (take (length stack - 1) stack) new (unshared i) → paid ≡ spent + 1 → counted ≡ taken + 1
      → Moves stack new text text spent paid taken counted
  moves-parts may_come stack new i text spent paid taken counted h stacked pays counts = record {
    left = take (length stack - 1) stack;
    next = Sub i;
    above = reverse stacked.added;
    own = [];
    was = next_is_last stack (Sub i) h;
    is = stacked.is;
    puts = sym (append-nil text);
    shows = text_of_stack-reverse unshared bytes_of stacked.added ∙ ap text_of (sym stacked.joined);
    costs = omega (arith, pays, cost_of_stack-reverse unshared bytes_of stacked.added, ap cost_of_parts stacked.joined);
    takes = omega (arith, counts, steps_of_stack-reverse unshared bytes_of stacked.added, ap steps_of_parts stacked.joined);
    few = omega (arith, pays, counts);
  }

  -- an item whose writing begins is noted as begun
  begins : (stack : List (Part C)) (i : Item C) (text : List ℕ) (spent taken : ℕ) (b : Begun C) → IsNext stack (Sub i) → b.item ≡ i → b.below ≡ length stack - 1 → b.from ≡ length text
      → b.spent ≡ spent → b.steps ≡ taken → IsBegun unshared bytes_of stack text spent taken b
  begins stack i text spent taken b h same below from pays counts =
      let was = next_is_last stack (Sub i) h in
      let long : length (take (length stack - 1) stack) ≡ length stack - 1 = omega (arith, ap length was, length-append (take (length stack - 1) stack) (Sub i ∷ [])) in
      let top : drop b.below stack ≡ Sub i ∷ [] =
      ap (λ n. drop n stack) (below ∙ sym long) ∙ ap (λ s. drop (length (take (length stack - 1) stack)) s) was
      ∙ drop-append_seam (take (length stack - 1) stack) (Sub i ∷ []) in
      let none : drop b.from text ≡ [] = ap (λ n. drop n text) from ∙ drop-length text in record {
        place = omega (arith, below);
        within = omega (arith, from);
        is = ap (λ t. t ++ text_of_stack unshared bytes_of (drop b.below stack)) none ∙ ap (text_of_stack unshared bytes_of) top ∙ ap (λ x. text_of (unshared x)) (sym same);
        costs = omega (arith, pays, ap (cost_of_stack unshared bytes_of) top, ap (λ x. cost_of (unshared x)) same);
        takes = omega (arith, counts, ap (steps_of_stack unshared bytes_of) top, ap (λ x. steps_of (unshared x)) same);
        few = omega (arith, pays, counts);
      }

  pub noted-begun : (old new : Notes C) (stack : List (Part C)) (i : Item C) (text : List ℕ) (spent taken : ℕ) (b : Begun C) → IsNext stack (Sub i)
      → b.item ≡ i → b.below ≡ length stack - 1 → b.from ≡ length text → b.spent ≡ spent → b.steps ≡ taken
      → new.known ≡ old.known → (new.begun.items ≡ old.begun.items) ⊎ (new.begun.items ≡ old.begun.items ++ b ∷ [])
      → AreBelow (length stack) old.begun.items → AreNoted unshared bytes_of old stack text spent taken
      → AreNoted unshared bytes_of new stack text spent taken × AreBelow (length stack) new.begun.items
  noted-begun old new stack i text spent taken b h same place from pays counts known (inl e) below noted = (
    record {
      known = All-same (IsNote unshared text) new.known.items old.known.items (ap (λ k. k.items) known) noted.known;
      begun = All-same (IsBegun unshared bytes_of stack text spent taken) new.begun.items old.begun.items e noted.begun;
      nested = subst (AreNested 0) (sym e) noted.nested;
    },
    subst (AreBelow (length stack)) (sym e) below,
  )
  noted-begun old new stack i text spent taken b h same place from pays counts known (inr e) below noted =
      let was = next_is_last stack (Sub i) h in
      let some : 0 < length stack = omega (arith, ap length was, length-append (take (length stack - 1) stack) (Sub i ∷ [])) in (
        record {
          known = All-same (IsNote unshared text) new.known.items old.known.items (ap (λ k. k.items) known) noted.known;
          begun = All-same (IsBegun unshared bytes_of stack text spent taken) new.begun.items (old.begun.items ++ b ∷ []) e
              (All-push (IsBegun unshared bytes_of stack text spent taken) old.begun.items b noted.begun (begins stack i text spent taken b h same place from pays counts));
          nested = subst (AreNested 0) (sym e)
              (nested-push 0 old.begun.items b (omega arith) noted.nested
              (All-weaker (λ a. a.below < length stack) (λ a. a.below ≤ b.below) (λ a lt. omega (arith, place, lt)) old.begun.items below));
        },
        All-same (λ a. a.below < length stack) new.begun.items (old.begun.items ++ b ∷ []) e
            (All-push (λ a. a.below < length stack) old.begun.items b below (omega (arith, place, some))),
      )

  -- the notes still hold once a whole item is noted
  pub noted-whole : (old new : Notes C) (stack : List (Part C)) (text : List ℕ) (spent taken : ℕ) (b : Begun C) (n : Note C) → b.below ≡ length stack → old.begun.items ≡ new.begun.items ++ b ∷ []
      → n.item ≡ b.item → n.from ≡ b.from → n.to ≡ length text → n.cost ≡ spent - b.spent → n.steps ≡ taken - b.steps
      → All (λ x. (x ≡ n) ⊎ Contains old.known.items x) new.known.items
      → AreNoted unshared bytes_of old stack text spent taken → AreNoted unshared bytes_of new stack text spent taken
  noted-whole old new stack text spent taken b n top was same from to pays counts adds noted =
      let both = All-pop (IsBegun unshared bytes_of stack text spent taken) old.begun.items new.begun.items (Some b) was noted.begun in
      let h : IsBegun unshared bytes_of stack text spent taken b = both.1 in
      let none : drop b.below stack ≡ [] = ap (λ k. drop k stack) top ∙ drop-length stack in
      let whole : drop b.from text ≡ text_of (unshared b.item) =
      sym (append-nil (drop b.from text)) ∙ ap (λ s. drop b.from text ++ text_of_stack unshared bytes_of s) (sym none) ∙ h.is in
      let note : IsNote unshared text n = record {
        after = [];
        within = omega (arith, from, h.within);
        is = ap (λ k. drop k text) from ∙ whole ∙ ap (λ x. text_of (unshared x)) (sym same) ∙ sym (append-nil (text_of (unshared n.item)));
        ends = omega (arith, to, from, h.within, ap length whole, length-drop b.from text, ap (λ x. length (text_of (unshared x))) same);
        costs = omega (arith, pays, h.costs, ap (cost_of_stack unshared bytes_of) none, ap (λ x. cost_of (unshared x)) same);
        takes = omega (arith, counts, h.takes, ap (steps_of_stack unshared bytes_of) none, ap (λ x. steps_of (unshared x)) same);
        few = omega (arith, pays, counts, h.few, ap (spare_of_stack bytes_of) none);
      } in record {
        known = All-weaker (λ x. (x ≡ n) ⊎ Contains old.known.items x) (IsNote unshared text)
            (λ x. ⊎_elim (λ e. subst (IsNote unshared text) (sym e) note) (λ c. All-contains (IsNote unshared text) old.known.items x noted.known c)) new.known.items adds;
        begun = both.0;
        nested = nested-pop 0 new.begun.items b (subst (AreNested 0) was noted.nested);
      }

  -- once an item's text is written again and paid for, the text is still no longer than what was paid
  pub again-paid : (text written : List ℕ) (n : Note C) (spent paid : ℕ) → IsNote unshared text n → written ≡ text ++ text_of (unshared n.item) → paid ≡ spent + n.cost → length text ≤ spent → length written ≤ paid
  again-paid text written n spent paid h puts pays within =
      omega (arith, ap length puts, length-append text (text_of (unshared n.item)), length_of_text (unshared n.item), h.costs, pays, within)

  -- if the limit doesn't cover a noted item, it doesn't cover the stack, either
  pub again-too-dear : (stack : List (Part C)) (i : Item C) (text : List ℕ) (n : Note C) (limit spent : ℕ) → IsNext stack (Sub i) → n.item ≡ i → IsNote unshared text n → limit < spent + n.cost
      → limit < spent + cost_of_stack unshared bytes_of stack
  again-too-dear stack i text n limit spent next same h dear =
      omega (arith, cost_of_next unshared bytes_of stack (Sub i) next, h.costs, ap (λ x. cost_of (unshared x)) same, dear)

  -- with no notes, nothing has to hold
  pub noted-nothing : (notes : Notes C) (stack : List (Part C)) (text : List ℕ) (spent taken : ℕ) → notes.known.items ≡ [] → notes.begun.items ≡ [] → AreNoted unshared bytes_of notes stack text spent taken
  noted-nothing notes stack text spent taken known begun = record {
    known = All-same (IsNote unshared text) notes.known.items [] known (All-nil (IsNote unshared text));
    begun = All-same (IsBegun unshared bytes_of stack text spent taken) notes.begun.items [] begun (All-nil (IsBegun unshared bytes_of stack text spent taken));
    nested = subst (AreNested 0) (sym begun) tt;
  }

  -- the bytes between the two places of a note are its item's text
  pub noted-bytes : (text : List ℕ) (n : Note C) → IsNote unshared text n → take (n.to - n.from) (drop n.from text) ≡ text_of (unshared n.item)
  noted-bytes text n h =
      let long : n.to - n.from ≡ length (text_of (unshared n.item)) = omega (arith, h.ends) in
      ap (λ k. take k (drop n.from text)) long
      ∙ ap (λ t. take (length (text_of (unshared n.item))) t) h.is
      ∙ take-append-le (length (text_of (unshared n.item))) (text_of (unshared n.item)) h.after (omega arith)
      ∙ take_all (length (text_of (unshared n.item))) (text_of (unshared n.item)) (omega arith)

  -- a note's bytes are within the text, and the item costs at least as much as their number
  pub noted-within : (text : List ℕ) (n : Note C) → IsNote unshared text n → (n.from ≤ n.to) × (n.to ≤ length text) × (n.to - n.from ≤ n.cost) × (0 < n.cost)
  noted-within text n h = (
    omega (arith, h.ends),
    omega (arith, h.ends, h.within, ap length h.is, length-append (text_of (unshared n.item)) h.after, length-drop n.from text),
    omega (arith, h.ends, h.costs, length_of_text (unshared n.item)),
    omega (arith, h.costs),
  )
