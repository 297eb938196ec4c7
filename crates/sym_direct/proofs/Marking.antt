-- Bytes are moved to the front unless they are between marks.
use Rattle.std.proofs.Common.{◌≡◌, ◌≢◌, refl, ap, ap₂, sym, ◌∙◌, subst, ℕ, zero, suc, ◌+◌, ◌-◌, ◌≤◌, ◌<◌, List, [], ◌∷◌, ◌++◌, length, take, drop, Bool, true, false, nat_eq, nat_lt, arith, append-nil, append_assoc}
use Rattle.std.specs.Prelude.{get_or}
use Rattle.std.proofs.lemmas.Bool.{eq-eqb, eqb-true, ltb-true, ltb-false}
use Rattle.std.proofs.lemmas.List.{drop-drop, drop_all, get_or-drop, length-drop}
use Rattle.std.proofs.lemmas.List.Elements.{All-append}
use Rattle.std.proofs.lemmas.List.Edits.{drop-paste, take-paste}
use Rattle.std.proofs.Math.Seq.{drop-cons, paste, take-add}
use Rattle.sym_direct.specs.Marked.{opens, closes, visible, unless_within, HasNoZero}

-- The bytes before a place were moved, and this much of them is kept. What is visible of all the bytes is what was kept
-- and what is visible of the bytes after the place.
pub record AreClosedUp (all bytes : List ℕ) (kept depth at : ℕ) : Type 0 where
  pub kept_few : kept ≤ at
  pub depth_few : depth ≤ at
  pub inside : at ≤ length bytes
  pub as_long : length bytes ≡ length all
  pub left : take kept bytes ++ visible depth (drop at bytes) ≡ visible 0 all
  pub plain : HasNoZero (take kept bytes)

unequal : (a b : ℕ) → a ≢ b → nat_eq a b ≡ false
unequal a b other = go (nat_eq a b) refl
  where
    go : (is : Bool) → nat_eq a b ≡ is → nat_eq a b ≡ false
    go true e = absurd (other (eqb-true a b e))
    go false e = e

chosen : (b : Bool) (xs ys : List ℕ) → b ≡ true → elim b [ true ↦ xs | false ↦ ys ] ≡ xs
chosen true xs ys is = refl
chosen false xs ys is = cc is

not-chosen : (b : Bool) (xs ys : List ℕ) → b ≡ false → elim b [ true ↦ xs | false ↦ ys ] ≡ ys
not-chosen false xs ys is = refl
not-chosen true xs ys is = cc is

-- what is left of bytes that begin with no opening mark
abbrev unless_closed : (depth byte : ℕ) (bytes : List ℕ) → List ℕ
unless_closed depth byte bytes = elim (nat_eq byte closes) [ true ↦ visible (depth - 1) bytes | false ↦ unless_within depth byte (visible depth bytes) ]

pub visible-opened : (depth byte : ℕ) (bytes : List ℕ) → nat_eq byte opens ≡ true → visible depth (byte ∷ bytes) ≡ visible (depth + 1) bytes
unfolding visible
visible-opened depth byte bytes is = chosen (nat_eq byte opens) (visible (depth + 1) bytes) (unless_closed depth byte bytes) is

pub visible-closed : (depth byte : ℕ) (bytes : List ℕ) → nat_eq byte opens ≡ false → nat_eq byte closes ≡ true
    → visible depth (byte ∷ bytes) ≡ visible (depth - 1) bytes
unfolding visible
visible-closed depth byte bytes other is =
    not-chosen (nat_eq byte opens) (visible (depth + 1) bytes) (unless_closed depth byte bytes) other
    ∙ chosen (nat_eq byte closes) (visible (depth - 1) bytes) (unless_within depth byte (visible depth bytes)) is

pub visible-other : (depth byte : ℕ) (bytes : List ℕ) → nat_eq byte opens ≡ false → nat_eq byte closes ≡ false
    → visible depth (byte ∷ bytes) ≡ unless_within depth byte (visible depth bytes)
unfolding visible
visible-other depth byte bytes one two =
    not-chosen (nat_eq byte opens) (visible (depth + 1) bytes) (unless_closed depth byte bytes) one
    ∙ not-chosen (nat_eq byte closes) (visible (depth - 1) bytes) (unless_within depth byte (visible depth bytes)) two

visible-kept : (byte : ℕ) (bytes : List ℕ) → nat_eq byte opens ≡ false → nat_eq byte closes ≡ false → visible 0 (byte ∷ bytes) ≡ byte ∷ visible 0 bytes
unfolding unless_within
visible-kept byte bytes one two = visible-other 0 byte bytes one two

-- the bytes from one place to another are neither marks nor 0
pub record IsRun (bytes : List ℕ) (from at : ℕ) : Type 0 where
  pub after : from ≤ at
  pub within : at ≤ length bytes
  pub each : (k : ℕ) → from ≤ k → k < at → 2 < get_or bytes k 0

pub is-run : (bytes : List ℕ) (from at : ℕ) → from ≤ at → at ≤ length bytes → ((k : ℕ) → from ≤ k → k < at → 2 < get_or bytes k 0) → IsRun bytes from at
is-run bytes from at after within each = record {
  after = after;
  within = within;
  each = each;
}

pub no-run : (bytes : List ℕ) (at : ℕ) → at ≤ length bytes → IsRun bytes at at
no-run bytes at within = record {
  after = omega arith;
  within = within;
  each = λ k low high. absurd (omega (arith, low, high));
}

-- a run and another one after it are one run
pub longer-run : (bytes : List ℕ) (from at to : ℕ) → IsRun bytes from at → IsRun bytes at to → IsRun bytes from to
longer-run bytes from at to run more = record {
  after = omega (arith, run.after, more.after);
  within = more.within;
  each = λ k low high. go k low high (nat_lt k at) refl;
}
  where
    go : (k : ℕ) → from ≤ k → k < to → (b : Bool) → nat_lt k at ≡ b → 2 < get_or bytes k 0
    go k low high true is = run.each k low (ltb-true k at is)
    go k low high false is = more.each k (omega (arith, ltb-false k at is)) high

-- a byte that is neither a mark nor 0 is a run
pub byte-run : (bytes : List ℕ) (at : ℕ) → at < length bytes → 2 < get_or bytes at 0 → IsRun bytes at (at + 1)
byte-run bytes at inside above = record {
  after = omega arith;
  within = omega (arith, inside);
  each = λ k low high. subst (λ n. 2 < get_or bytes n 0) (omega (arith, low, high)) above;
}

front-plain : (all : List ℕ) (size : ℕ) → ((k : ℕ) → k < size → 2 < get_or all k 0) → HasNoZero (take size all)
front-plain [] zero each k d less = absurd (omega (arith, less))
front-plain [] (suc size) each k d less = absurd (omega (arith, less))
front-plain (byte ∷ bytes) zero each k d less = absurd (omega (arith, less))
front-plain (byte ∷ bytes) (suc size) each zero d less = λ e. omega (arith, each 0 (omega arith), e)
front-plain (byte ∷ bytes) (suc size) each (suc k) d less = front-plain bytes size (λ j small. each (suc j) (omega (arith, small))) k d (omega (arith, less))

-- leading bytes that are neither marks nor 0 are visible outside of stretches
front-visible : (all : List ℕ) (size : ℕ) → size ≤ length all → ((k : ℕ) → k < size → 2 < get_or all k 0)
    → take size all ++ visible 0 (drop size all) ≡ visible 0 all
front-visible all zero within each = refl
front-visible [] (suc size) within each = absurd (omega (arith, within))
front-visible (byte ∷ bytes) (suc size) within each =
    let above = each 0 (omega arith) in
    ap (λ l. byte ∷ l) (front-visible bytes size (omega (arith, within)) (λ k less. each (suc k) (omega (arith, less))))
    ∙ sym (visible-kept byte bytes (unequal byte opens (λ e. omega (arith, above, e))) (unequal byte closes (λ e. omega (arith, above, e))))

-- leading bytes that are neither marks nor 0 are left out within a stretch
front-hidden : (depth : ℕ) (all : List ℕ) (size : ℕ) → size ≤ length all → ((k : ℕ) → k < size → 2 < get_or all k 0)
    → visible (suc depth) (drop size all) ≡ visible (suc depth) all
unfolding unless_within
front-hidden depth all zero within each = refl
front-hidden depth [] (suc size) within each = absurd (omega (arith, within))
front-hidden depth (byte ∷ bytes) (suc size) within each =
    let above = each 0 (omega arith) in
    front-hidden depth bytes size (omega (arith, within)) (λ k less. each (suc k) (omega (arith, less)))
    ∙ sym (visible-other (suc depth) byte bytes (unequal byte opens (λ e. omega (arith, above, e))) (unequal byte closes (λ e. omega (arith, above, e))))

run-size : (bytes : List ℕ) (at to : ℕ) → IsRun bytes at to → to - at ≤ length (drop at bytes)
run-size bytes at to run = omega (arith, run.within, run.after, length-drop at bytes)

run-each : (bytes : List ℕ) (at to : ℕ) → IsRun bytes at to → (k : ℕ) → k < to - at → 2 < get_or (drop at bytes) k 0
run-each bytes at to run k less = subst (λ n. 2 < n) (sym (get_or-drop at bytes k 0)) (run.each (at + k) (omega arith) (omega (arith, less)))

run-rest : (bytes : List ℕ) (at to : ℕ) → at ≤ to → drop (to - at) (drop at bytes) ≡ drop to bytes
run-rest bytes at to after = drop-drop (to - at) at bytes ∙ ap (λ n. drop n bytes) (omega (arith, after))

-- nothing is closed up at first
pub none-closed : (all : List ℕ) → AreClosedUp all all 0 0 0
none-closed all = record {
  kept_few = omega arith;
  depth_few = omega arith;
  inside = omega arith;
  as_long = refl;
  left = refl;
  plain = λ k d less. absurd (omega (arith, less));
}

next-at : (all bytes : List ℕ) (kept depth at : ℕ) → at < length bytes → AreClosedUp all bytes kept depth at
    → take kept bytes ++ visible depth (get_or bytes at 0 ∷ drop (at + 1) bytes) ≡ visible 0 all
next-at all bytes kept depth at less p =
    let more : at + 1 ≡ suc at = omega arith in
    ap (λ l. take kept bytes ++ visible depth l) (ap (λ n. get_or bytes at 0 ∷ drop n bytes) more ∙ sym (drop-cons bytes at 0 less)) ∙ p.left

-- a stretch begins at the byte
pub opened-up : (all bytes : List ℕ) (kept depth at : ℕ) → at < length bytes → AreClosedUp all bytes kept depth at
    → get_or bytes at 0 ≡ opens → AreClosedUp all bytes kept (depth + 1) (at + 1)
opened-up all bytes kept depth at less p is = record {
  kept_few = omega (arith, p.kept_few);
  depth_few = omega (arith, p.depth_few);
  inside = omega (arith, less);
  as_long = p.as_long;
  left = ap (λ l. take kept bytes ++ l) (sym (visible-opened depth (get_or bytes at 0) (drop (at + 1) bytes) (eq-eqb _ _ is))) ∙ next-at all bytes kept depth at less p;
  plain = p.plain;
}

-- a stretch ends at the byte
pub closed-up : (all bytes : List ℕ) (kept depth at : ℕ) → at < length bytes → AreClosedUp all bytes kept depth at
    → get_or bytes at 0 ≢ opens → get_or bytes at 0 ≡ closes → AreClosedUp all bytes kept (depth - 1) (at + 1)
closed-up all bytes kept depth at less p other is = record {
  kept_few = omega (arith, p.kept_few);
  depth_few = omega (arith, p.depth_few);
  inside = omega (arith, less);
  as_long = p.as_long;
  left = ap (λ l. take kept bytes ++ l) (sym (visible-closed depth (get_or bytes at 0) (drop (at + 1) bytes) (unequal _ _ other) (eq-eqb _ _ is)))
      ∙ next-at all bytes kept depth at less p;
  plain = p.plain;
}

-- a run within a stretch is left out
pub passed-run : (all bytes : List ℕ) (kept depth at to : ℕ) → AreClosedUp all bytes kept depth at → IsRun bytes at to → depth ≢ 0
    → AreClosedUp all bytes kept depth to
passed-run all bytes kept zero at to p run within = absurd (within refl)
passed-run all bytes kept (suc depth) at to p run within = record {
  kept_few = omega (arith, p.kept_few, run.after);
  depth_few = omega (arith, p.depth_few, run.after);
  inside = run.within;
  as_long = p.as_long;
  left = ap (λ l. take kept bytes ++ l)
      (ap (visible (suc depth)) (sym (run-rest bytes at to run.after))
      ∙ front-hidden depth (drop at bytes) (to - at) (run-size bytes at to run) (run-each bytes at to run)) ∙ p.left;
  plain = p.plain;
}

kept-outside : (all bytes after : List ℕ) (kept at to : ℕ) → AreClosedUp all bytes kept 0 at → IsRun bytes at to
    → take (kept + (to - at)) after ≡ take kept bytes ++ take (to - at) (drop at bytes) → drop to after ≡ drop to bytes → length after ≡ length bytes
    → AreClosedUp all after (kept + (to - at)) 0 to
kept-outside all bytes after kept at to p run front rest long =
    let size = to - at in
    let more = front-plain (drop at bytes) size (run-each bytes at to run) in
    record {
      kept_few = omega (arith, p.kept_few, run.after);
      depth_few = omega arith;
      inside = omega (arith, run.within, long);
      as_long = long ∙ p.as_long;
      left = ap₂ (λ l m. l ++ visible 0 m) front (rest ∙ sym (run-rest bytes at to run.after))
          ∙ append_assoc (take kept bytes) (take size (drop at bytes)) (visible 0 (drop size (drop at bytes)))
          ∙ ap (λ l. take kept bytes ++ l) (front-visible (drop at bytes) size (run-size bytes at to run) (run-each bytes at to run))
          ∙ p.left;
      plain = subst HasNoZero (sym front) (All-append (λ b. b ≢ 0) (take kept bytes) (take size (drop at bytes)) p.plain more);
    }

-- a run outside of stretches is kept
pub kept-run : (all bytes after : List ℕ) (kept depth at to : ℕ) → AreClosedUp all bytes kept depth at → IsRun bytes at to → depth ≡ 0
    → take (kept + (to - at)) after ≡ take kept bytes ++ take (to - at) (drop at bytes) → drop to after ≡ drop to bytes → length after ≡ length bytes
    → AreClosedUp all after (kept + (to - at)) depth to
kept-run all bytes after kept zero at to p run none = kept-outside all bytes after kept at to p run
kept-run all bytes after kept (suc depth) at to p run none = absurd (omega (arith, none))

-- ## A run that is moved to an earlier place

pub pasted-front : (bytes : List ℕ) (kept at to : ℕ) → kept ≤ at → at ≤ to → to ≤ length bytes
    → take (kept + (to - at)) (paste bytes kept (drop at bytes) (to - at)) ≡ take kept bytes ++ take (to - at) (drop at bytes)
pasted-front bytes kept at to low after within =
    take-paste bytes kept (drop at bytes) (to - at) (omega (arith, low, after, within)) (omega (arith, after, within, length-drop at bytes))

pub pasted-rest : (bytes : List ℕ) (kept at to : ℕ) → kept ≤ at → at ≤ to → to ≤ length bytes
    → drop to (paste bytes kept (drop at bytes) (to - at)) ≡ drop to bytes
pasted-rest bytes kept at to low after within =
    let moved = paste bytes kept (drop at bytes) (to - at) in
    let place : (at - kept) + (kept + (to - at)) ≡ to = omega (arith, low, after) in
    let apart : (l : List ℕ) → drop (at - kept) (drop (kept + (to - at)) l) ≡ drop to l =
    λ l. drop-drop (at - kept) (kept + (to - at)) l ∙ ap (λ n. drop n l) (omega (arith, low, after)) in
    sym (apart moved)
    ∙ ap (drop (at - kept)) (drop-paste bytes kept (drop at bytes) (to - at) (omega (arith, low, after, within)) (omega (arith, after, within, length-drop at bytes)))
    ∙ apart bytes

pub same-front : (bytes : List ℕ) (kept at size : ℕ) → kept ≡ at → take (kept + size) bytes ≡ take kept bytes ++ take size (drop at bytes)
same-front bytes kept at size same = take-add kept size bytes ∙ ap (λ n. take kept bytes ++ take size (drop n bytes)) same

-- at the end, the bytes that are kept are the visible ones
pub all-closed : (all bytes : List ℕ) (kept depth at : ℕ) → length bytes ≤ at → AreClosedUp all bytes kept depth at → take kept bytes ≡ visible 0 all
unfolding visible
all-closed all bytes kept depth at ended p =
    sym (append-nil (take kept bytes)) ∙ ap (λ l. take kept bytes ++ visible depth l) (sym (drop_all at bytes ended)) ∙ p.left

pub same-depth : (all bytes : List ℕ) (kept depth other at : ℕ) → other ≡ depth → AreClosedUp all bytes kept depth at → AreClosedUp all bytes kept other at
same-depth all bytes kept depth other at same p = subst (λ n. AreClosedUp all bytes kept n at) (sym same) p

same-closed : (all b c : List ℕ) (k l depth at : ℕ) → c ≡ b → l ≡ k → AreClosedUp all b k depth at → AreClosedUp all c l depth at
same-closed all b c k l depth at same_bytes same_kept p =
    subst (λ x. AreClosedUp all x l depth at) (sym same_bytes) (subst (λ x. AreClosedUp all b x depth at) (sym same_kept) p)

-- a run outside of stretches was moved
pub moved-run : (all bytes moved after : List ℕ) (kept more now depth at to : ℕ) → after ≡ moved → now ≡ more → AreClosedUp all bytes kept depth at → IsRun bytes at to
    → depth ≡ 0 → more ≡ kept + (to - at) → take more moved ≡ take kept bytes ++ take (to - at) (drop at bytes) → drop to moved ≡ drop to bytes
    → length moved ≡ length bytes → AreClosedUp all after now depth to
moved-run all bytes moved after kept more now depth at to same_bytes same_kept p run none size front rest long =
    same-closed all moved after more now depth to same_bytes same_kept
    (same-closed all moved moved (kept + (to - at)) more depth to refl size
    (kept-run all bytes moved kept depth at to p run none (ap (λ n. take n moved) (sym size) ∙ front) rest long))

-- a run within a stretch was left out
pub left-run : (all bytes after : List ℕ) (kept now depth at to : ℕ) → after ≡ bytes → now ≡ kept → AreClosedUp all bytes kept depth at → IsRun bytes at to → depth ≢ 0
    → AreClosedUp all after now depth to
left-run all bytes after kept now depth at to same_bytes same_kept p run within =
    same-closed all bytes after kept now depth to same_bytes same_kept (passed-run all bytes kept depth at to p run within)
