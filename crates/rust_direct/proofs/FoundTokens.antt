-- Names and numbers that were found, and the bytes at a place.
use Rattle.rust_direct.proofs.Basics.{◌≡◌, ◌≢◌, ℕ, ◌+◌, ◌-◌, ◌<◌, ◌≤◌, List, [], ◌∷◌, ◌++◌, length, take, drop, get_or, Bool, true, Option, Some, None, Result, Ok, Err, ap, sym, subst, ◌∙◌, arith, append_assoc, add-zero, get_or-drop, length-append, length-drop, length-take, drop-drop, drop-append_seam, take-append_seam, Rust, Token, IsName, HasToken, FindsToken, StandsAt, stands-join, written, IsErasedAt, IsNamePlace}
use Rattle.std.specs.Result.{result_ok}
use Rattle.sym_core.specs.declared.tokens.TokenPlace.{TokenPlace}

-- the bytes between two places, counted from an earlier place
piece-at : (s before own behind rest : List ℕ) (at from to : ℕ) → at ≤ length s → drop at s ≡ (before ++ own ++ behind) ++ rest
    → from ≡ at + length before → to ≡ at + length before + length own
    → (from ≤ to) × (to ≤ length s) × (take (to - from) (drop from s) ≡ own)
piece-at s before own behind rest at from to le e from_is to_is = (omega (arith, from_is, to_is), inside, found)
  where
    inside : to ≤ length s
    inside = omega (
      arith,
      to_is,
      le,
      length-drop at s,
      ap length e,
      length-append ((before ++ own) ++ behind) rest,
      length-append (before ++ own) behind,
      length-append before own,
    )

    size : to - from ≡ length own
    size = omega (arith, from_is, to_is)

    whole : drop at s ≡ before ++ (own ++ (behind ++ rest))
    whole = e ∙ append_assoc (before ++ own) behind rest ∙ append_assoc before own (behind ++ rest)

    there : drop from s ≡ own ++ (behind ++ rest)
    there = ap (λ n. drop n s) from_is ∙ sym (drop-drop (length before) at s) ∙ ap (λ l. drop (length before) l) whole
        ∙ drop-append_seam before (own ++ (behind ++ rest))

    found : take (to - from) (drop from s) ≡ own
    found = ap (λ n. take n (drop from s)) size ∙ ap (λ l. take (length own) l) there ∙ take-append_seam own (behind ++ rest)

-- the place of a token's own bytes
pub own-found : (Is : Token → Type 0) (s : List ℕ) (at : ℕ) (place : TokenPlace) (h : HasToken Is (drop at s) at place) → at ≤ length s
    → (place.from ≤ place.to) × (place.to ≤ length s) × (take (place.to - place.from) (drop place.from s) ≡ h.token.own)
own-found Is s at place h le = piece-at s h.token.before h.token.own h.token.behind h.rest at place.from place.to le h.split h.from h.to

-- a place that was found is that of a token
pub place-found : (Is : Token → Type 0) (s : List ℕ) (at : ℕ) (r : Result TokenPlace ℕ) (o : Option TokenPlace) (place : TokenPlace)
    → FindsToken Is s at r → o ≡ result_ok r → o ≡ Some place → HasToken Is (drop at s) at place
place-found Is s at (Ok p) o place finds ok some = subst (λ x. HasToken Is (drop at s) at x) (same p o place ok some) finds
  where
    same : (p : TokenPlace) (o : Option TokenPlace) (place : TokenPlace) → o ≡ Some p → o ≡ Some place → p ≡ place
    same p o place e f = cc (e, f)
place-found Is s at (Err bad) o place finds ok some = absurd (apart o place ok some)
  where
    apart : (o : Option TokenPlace) (place : TokenPlace) → o ≡ None → o ≡ Some place → ⊥
    apart o place e f = cc (e, f)

-- a name that was found ends with its own bytes
pub name-found : (s : List ℕ) (at : ℕ) (place : TokenPlace) → HasToken (IsName Rust) (drop at s) at place → at ≤ length s
    → IsNamePlace s at (record { from = place.from; to = place.to; end = place.to })
name-found s at place h le =
    let own = own-found (IsName Rust) s at place h le in
    let all = length-append (h.token.before ++ h.token.own) h.token.behind in (
      own.0,
      own.1,
      record {
        token = h.token;
        is_name = h.is;
        own = sym own.2;
        stands = (h.rest, h.split);
        ends = omega (arith, h.to, all, length-append h.token.before h.token.own, ap length h.is.ends);
      },
    )

-- the byte that was compared with a letter is at its place
pub there : (s : List ℕ) (at byte letter : ℕ) → byte ≡ letter → 0 < letter → (byte ≢ 0 → StandsAt s at (byte ∷ [])) → StandsAt s at (letter ∷ [])
there s at byte letter is some stands = subst (λ b. StandsAt s at (b ∷ [])) is (stands (λ none. omega (arith, some, sym is ∙ none)))

-- a byte that was read at a place is at this place
pub read-there : (s : List ℕ) (at : ℕ) → at < length s → StandsAt s at (get_or s at 0 ∷ [])
read-there s at less = front (drop at s) (get_or-drop at s 0 0 ∙ ap (λ n. get_or s n 0) (add-zero at)) (omega (arith, less, length-drop at s))
  where
    front : {b : ℕ} (l : List ℕ) → get_or l 0 0 ≡ b → 0 < length l → (rest : List ℕ) × (l ≡ (b ∷ []) ++ rest)
    front [] e some = absurd (omega (arith, some))
    front (x ∷ rest) e some = (rest, ap (λ y. y ∷ rest) e)

-- a byte that was read as a letter at a place is that letter
pub letter-there : (s : List ℕ) (at letter : ℕ) → at < length s → get_or s at 0 ≡ letter → StandsAt s at (letter ∷ [])
letter-there s at letter less is = subst (λ b. StandsAt s at (b ∷ [])) is (read-there s at less)

-- a piece isn't empty if it begins before its end
pub piece-filled : (s : List ℕ) (from to : ℕ) → from < to → to ≤ length s → 1 ≤ length (take (to - from) (drop from s))
piece-filled s from to some inside = omega (arith, some, inside, length-take (to - from) (drop from s), length-drop from s)

-- a test was true
pub tested : (result test : Bool) → result ≡ test → result ≡ true → test ≡ true
tested result test is e = sym is ∙ e

-- an erased lifetime that was found
pub erased-found : (s : List ℕ) (at digits end : ℕ) → StandsAt s at (76 ∷ []) → StandsAt s digits (95 ∷ []) → digits ≡ at + 1 → end ≡ digits + 1
    → IsErasedAt s at end
erased-found s at digits end letter mark next last = (
  written,
  stands-join s at (76 ∷ []) (95 ∷ []) letter (subst (λ k. StandsAt s k (95 ∷ [])) next mark),
  omega (arith, next, last),
)
