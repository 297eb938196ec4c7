-- Bytes that were read and written in several pieces.
use Rattle.sym_filter.proofs.Basics.{◌≡◌, ℕ, zero, suc, ◌+◌, ◌*◌, ◌^◌, min, ◌-◌, subst, ◌<◌, ◌≤◌, List, [], ◌∷◌, ◌++◌, length, take, drop, refl, sym, ap, ◌∙◌, append_assoc, arith, Option, Some, None, replicate, Bool, true, cond, Appends, Consumes, Keeps, append-nil, length-drop, take-append-drop, length-take, replicate-append-replicate, replicate_more, take-add, take-length, take-append_seam, Result, Ok, Err, IfErr, IsErrAnd, cond-true, Words, Answering, rest_after, Takes, BeginsWith, Puts, PutsFront, write_failures, reader_faults, READ_SIZE}
use Rattle.sym_filter.specs.declared.streams.FilterFault.{FilterFault}
use Rattle.sym_filter.specs.declared.streams.FilterFault.TheVariants.{Read, Write, Memory}

pub Appends-none : (known : Option (List ℕ)) → Appends known known []
Appends-none None = tt
Appends-none (Some xs) = sym (append-nil xs)

pub Consumes-none : (known : Option (List ℕ)) → Consumes known known []
Consumes-none None = tt
Consumes-none (Some xs) = refl

pub Appends-join : (a b c : Option (List ℕ)) (xs ys : List ℕ) → Appends a b xs → Appends b c ys → Appends a c (xs ++ ys)
Appends-join None b c xs ys h i = tt
Appends-join (Some xs') None c xs ys h i = absurd h
Appends-join (Some xs') (Some bs) None xs ys h i = absurd i
Appends-join (Some xs') (Some bs) (Some cs) xs ys h i = i ∙ ap (λ (t : List ℕ). t ++ ys) h ∙ append_assoc xs' xs ys

pub Appends-keeps : (a b c : Option (List ℕ)) (xs : List ℕ) → Appends a b xs → Keeps b c → Appends a c xs
Appends-keeps None b c xs h i = tt
Appends-keeps (Some xs') None c xs h i = absurd h
Appends-keeps (Some xs') (Some bs) None xs h i = absurd i
Appends-keeps (Some xs') (Some bs) (Some cs) xs h i = i ∙ h

pub Consumes-join : (a b c : Option (List ℕ)) (xs ys : List ℕ) → Consumes a b xs → Consumes b c ys → Consumes a c (xs ++ ys)
Consumes-join None b c xs ys h i = tt
Consumes-join (Some xs') None c xs ys h i = absurd h
Consumes-join (Some xs') (Some bs) None xs ys h i = absurd i
Consumes-join (Some xs') (Some bs) (Some cs) xs ys h i = h ∙ ap (λ (t : List ℕ). xs ++ t) i ∙ sym (append_assoc xs ys cs)

pub Consumes-keeps : (a b c : Option (List ℕ)) (xs : List ℕ) → Consumes a b xs → Keeps b c → Consumes a c xs
Consumes-keeps None b c xs h i = tt
Consumes-keeps (Some xs') None c xs h i = absurd h
Consumes-keeps (Some xs') (Some bs) None xs h i = absurd i
Consumes-keeps (Some xs') (Some bs) (Some cs) xs h i = h ∙ ap (λ (t : List ℕ). xs ++ t) (sym i)

-- a list was written up to a place, and more of it was written from there
pub Appends-part : (a b c : Option (List ℕ)) (xs : List ℕ) (i n : ℕ) → Appends a b (take i xs) → Appends b c (take n (take (length xs - i) (drop i xs))) → Appends a c (take (i + n) xs)
Appends-part a b c xs i n h j =
    let rest : take (length xs - i) (drop i xs) ≡ drop i xs = ap (λ k. take k (drop i xs)) (sym (length-drop i xs)) ∙ take-length (drop i xs) in
    let whole : take i xs ++ take n (take (length xs - i) (drop i xs)) ≡ take (i + n) xs = ap (λ (t : List ℕ). take i xs ++ take n t) rest ∙ sym (take-add i n xs) in
    subst (λ (t : List ℕ). Appends a c t) whole (Appends-join a b c _ _ h j)

pub BeginsWith-take : (xs : List ℕ) (i : ℕ) → BeginsWith xs (take i xs)
BeginsWith-take xs i = (drop i xs, sym (take-append-drop i xs))

pub BeginsWith-append : (xs ys more : List ℕ) → BeginsWith xs ys → BeginsWith (xs ++ more) ys
BeginsWith-append xs ys more h = (h.0 ++ more, ap (λ (t : List ℕ). t ++ more) h.1 ∙ append_assoc ys h.0 more)

pub write_failures-some : (count : ℕ) (bytes : List ℕ) → (count ≡ 0 → ⊥) → write_failures (Some count) bytes ≡ 0
write_failures-some zero bytes h = absurd (h refl)
write_failures-some (suc count) bytes h = refl

pub IfErr-from_and : {T E : Type 0} → (r : Result T E) (Q P : E → Type 0) → IsErrAnd r Q → ((y : E) → Q y → P y) → IfErr r P
IfErr-from_and (Ok x) Q P h f = absurd h
IfErr-from_and (Err y) Q P h f = f y h

-- the whole text, once one more piece of it is taken
pub next-text : (whole part next : List ℕ → List ℕ) (text piece gone more_gone : List ℕ) → ((more : List ℕ) → whole (text ++ more) ≡ gone ++ part more) → ((more : List ℕ) → part (piece ++ more) ≡ more_gone ++ next more) → (more : List ℕ) → whole ((text ++ piece) ++ more) ≡ (gone ++ more_gone) ++ next more
next-text whole part next text piece gone more_gone so_far taken more =
    ap whole (append_assoc text piece more) ∙ so_far (piece ++ more) ∙ ap (λ (t : List ℕ). gone ++ t) (taken more) ∙ sym (append_assoc gone more_gone (next more))

pub next-counts : {T : Type 0} (whole part next : List ℕ → T) (text piece : List ℕ) → ((more : List ℕ) → whole (text ++ more) ≡ part more) → ((more : List ℕ) → part (piece ++ more) ≡ next more) → (more : List ℕ) → whole ((text ++ piece) ++ more) ≡ next more
next-counts whole part next text piece so_far taken more = ap whole (append_assoc text piece more) ∙ so_far (piece ++ more) ∙ taken more

pub reader_faults-other : {A : Type 0} (r : Result A FilterFault) (fault : FilterFault) → IsErrAnd r (λ y. y ≡ fault) → (fault ≡ Read → ⊥) → reader_faults r ≡ 0
reader_faults-other (Ok x) fault h other = refl
reader_faults-other (Err Read) fault h other = absurd (other (sym h))
reader_faults-other (Err Write) fault h other = refl
reader_faults-other (Err Memory) fault h other = refl

pub take-none : (n : ℕ) (xs : List ℕ) → n ≡ 0 → take n xs ≡ []
take-none zero [] h = refl
take-none zero (x ∷ xs) h = refl
take-none (suc n) xs h = absurd (omega arith)

-- a list after its first items were overwritten through a slice of the list
pub room-back : (new items : List ℕ) (len : ℕ) → length new ≡ len → take len (new ++ drop (length new) items) ≡ new
room-back new items len h = ap (λ n. take n (new ++ drop (length new) items)) (sym h) ∙ take-append_seam new (drop (length new) items)

-- no dot waits before the first read
pub dots-first : (dots left count : ℕ) → dots ≡ 0 → count ≡ left → count < 2 ^ 64 → dots + READ_SIZE * left < 2 ^ 64 * READ_SIZE
dots-first dots left count none same fits = omega arith

-- each read brings at most `READ_SIZE` dots, so their count has room
pub dots-step : (dots dots' left left' count : ℕ) (bytes piece : List ℕ) → dots + READ_SIZE * left < 2 ^ 64 * READ_SIZE → left' < left → dots' ≤ dots + length piece → take count bytes ≡ piece → length bytes ≡ READ_SIZE → dots' + READ_SIZE * left' < 2 ^ 64 * READ_SIZE
dots-step dots dots' left left' count bytes piece room fewer more same whole =
    let short : length piece ≡ min count (length bytes) = ap length (sym same) ∙ length-take count bytes in omega arith

-- fewer bytes than are read at a time still wait
pub few-still : (out out' : List ℕ) → out' ≡ out → length out < READ_SIZE → length out' < READ_SIZE
few-still out out' same few = subst (λ (t : List ℕ). length t < READ_SIZE) (sym same) few

-- bytes are put after those that wait
pub Puts-push : (known : Option (List ℕ)) (out out' bytes : List ℕ) → out' ≡ out ++ bytes → Puts known known out out' bytes
Puts-push known out out' bytes pushed = record { gone = []; writes = Appends-none known; keeps = sym pushed }

pub Puts-none : (known : Option (List ℕ)) → Puts known known [] [] []
Puts-none known = record { gone = []; writes = Appends-none known; keeps = refl }

pub Puts-join : (a b c : Option (List ℕ)) (out mid out' bytes more : List ℕ) → Puts a b out mid bytes → Puts b c mid out' more → Puts a c out out' (bytes ++ more)
Puts-join a b c out mid out' bytes more h i = record {
  gone = h.gone ++ i.gone;
  writes = Appends-join a b c h.gone i.gone h.writes i.writes;
  keeps = sym (append_assoc out bytes more) ∙ ap (λ (t : List ℕ). t ++ more) h.keeps ∙ append_assoc h.gone mid more ∙ ap (λ (t : List ℕ). h.gone ++ t) i.keeps ∙ sym (append_assoc h.gone i.gone out');
}

pub Puts-same : (a b : Option (List ℕ)) (out out' bytes same : List ℕ) → bytes ≡ same → Puts a b out out' bytes → Puts a b out out' same
Puts-same a b out out' bytes same e h = subst (λ (t : List ℕ). Puts a b out out' t) e h

-- if no byte waits before or after, all bytes went out
pub Puts-all : (a b : Option (List ℕ)) (bytes : List ℕ) → Puts a b [] [] bytes → Appends a b bytes
Puts-all a b bytes h = subst (λ (t : List ℕ). Appends a b t) (sym (h.keeps ∙ append-nil h.gone)) h.writes

-- the bytes that went out are a beginning of all bytes to be written
pub PutsFront-of : (a b : Option (List ℕ)) (out out' bytes more : List ℕ) → Puts a b out out' bytes → PutsFront a b out (bytes ++ more)
PutsFront-of a b out out' bytes more h = record {
  gone = h.gone;
  writes = h.writes;
  begins = (out' ++ more, sym (append_assoc out bytes more) ∙ ap (λ (t : List ℕ). t ++ more) h.keeps ∙ append_assoc h.gone out' more);
}

-- no byte went out
pub PutsFront-none : (known : Option (List ℕ)) (out bytes : List ℕ) → PutsFront known known out bytes
PutsFront-none known out bytes = record { gone = []; writes = Appends-none known; begins = (out ++ bytes, refl) }

pub PutsFront-more : (a b : Option (List ℕ)) (out bytes more : List ℕ) → PutsFront a b out bytes → PutsFront a b out (bytes ++ more)
PutsFront-more a b out bytes more h = record {
  gone = h.gone;
  writes = h.writes;
  begins = subst (λ (t : List ℕ). BeginsWith t h.gone) (append_assoc out bytes more) (BeginsWith-append (out ++ bytes) h.gone more h.begins);
}

pub PutsFront-join : (a b c : Option (List ℕ)) (out mid bytes more : List ℕ) → Puts a b out mid bytes → PutsFront b c mid more → PutsFront a c out (bytes ++ more)
PutsFront-join a b c out mid bytes more h i = record {
  gone = h.gone ++ i.gone;
  writes = Appends-join a b c h.gone i.gone h.writes i.writes;
  begins = (i.begins.0, sym (append_assoc out bytes more) ∙ ap (λ (t : List ℕ). t ++ more) h.keeps ∙ append_assoc h.gone mid more ∙ ap (λ (t : List ℕ). h.gone ++ t) i.begins.1 ∙ sym (append_assoc h.gone i.gone i.begins.0));
}

pub PutsFront-same : (a b : Option (List ℕ)) (out bytes same : List ℕ) → bytes ≡ same → PutsFront a b out bytes → PutsFront a b out same
PutsFront-same a b out bytes same e h = subst (λ (t : List ℕ). PutsFront a b out t) e h

-- dots are put one by one
dots-split : (n dots : ℕ) → n < dots → replicate (n + 1) 46 ++ replicate (dots - n - 1) 46 ≡ replicate {A = ℕ} dots 46
dots-split n dots h =
    let count : n + 1 + (dots - n - 1) ≡ dots = omega arith in
    replicate-append-replicate (n + 1) (dots - n - 1) 46 ∙ ap (λ (k : ℕ). replicate {A = ℕ} k 46) count

pub dots-more : (a b c : Option (List ℕ)) (out mid mid' out' : List ℕ) (n : ℕ) → Puts a b out mid (replicate n 46) → mid' ≡ mid ++ 46 ∷ [] → Puts b c mid' out' [] → Puts a c out out' (replicate (n + 1) 46)
dots-more a b c out mid mid' out' n h pushed i =
    let dot = Puts-join a b b out mid mid' (replicate n 46) (46 ∷ []) h (Puts-push b mid mid' (46 ∷ []) pushed) in
    Puts-same a c out out' ((replicate n 46 ++ 46 ∷ []) ++ []) (replicate (n + 1) 46) (append-nil (replicate n 46 ++ 46 ∷ []) ∙ replicate_more n 46) (Puts-join a b c out mid' out' (replicate n 46 ++ 46 ∷ []) [] dot i)

pub dots-front : (a b c : Option (List ℕ)) (out mid mid' : List ℕ) (n dots : ℕ) → Puts a b out mid (replicate n 46) → mid' ≡ mid ++ 46 ∷ [] → PutsFront b c mid' [] → n < dots → PutsFront a c out (replicate dots 46)
dots-front a b c out mid mid' n dots h pushed i fewer =
    let dot = Puts-same a b out mid' (replicate n 46 ++ 46 ∷ []) (replicate (n + 1) 46) (replicate_more n 46) (Puts-join a b b out mid mid' (replicate n 46) (46 ∷ []) h (Puts-push b mid mid' (46 ∷ []) pushed)) in
    let front = PutsFront-join a b c out mid' (replicate (n + 1) 46) [] dot i in
    let rest = replicate {A = ℕ} (dots - n - 1) 46 in
    PutsFront-same a c out ((replicate (n + 1) 46 ++ []) ++ rest) (replicate dots 46) (ap (λ (t : List ℕ). t ++ rest) (append-nil (replicate (n + 1) 46)) ∙ dots-split n dots fewer) (PutsFront-more a c out (replicate (n + 1) 46 ++ []) rest front)

pub dots-none : (a b : Option (List ℕ)) (out mid : List ℕ) (n dots : ℕ) → Puts a b out mid (replicate n 46) → n < dots → PutsFront a b out (replicate dots 46)
dots-none a b out mid n dots h fewer =
    let rest = replicate {A = ℕ} (dots - n) 46 in
    let count : n + (dots - n) ≡ dots = omega arith in
    PutsFront-same a b out (replicate n 46 ++ rest) (replicate dots 46) (replicate-append-replicate n (dots - n) 46 ∙ ap (λ (k : ℕ). replicate {A = ℕ} k 46) count) (PutsFront-of a b out mid (replicate n 46) rest h)

-- bytes that stay are put after the dots
pub stays-more : (a b c : Option (List ℕ)) (out mid mid' out' dots bytes : List ℕ) (stay : Bool) → stay ≡ true → Puts a b out mid dots → mid' ≡ mid ++ bytes → Puts b c mid' out' [] → Puts a c out out' (dots ++ cond stay bytes [])
stays-more a b c out mid mid' out' dots bytes stay e h pushed i =
    let all = Puts-join a b b out mid mid' dots bytes h (Puts-push b mid mid' bytes pushed) in
    Puts-same a c out out' ((dots ++ bytes) ++ []) (dots ++ cond stay bytes []) (append-nil (dots ++ bytes) ∙ ap (λ (t : List ℕ). dots ++ t) (sym (cond-true stay bytes [] e))) (Puts-join a b c out mid' out' (dots ++ bytes) [] all i)

pub stays-front : (a b c : Option (List ℕ)) (out mid mid' dots bytes : List ℕ) (stay : Bool) → stay ≡ true → Puts a b out mid dots → mid' ≡ mid ++ bytes → PutsFront b c mid' [] → PutsFront a c out (dots ++ cond stay bytes [])
stays-front a b c out mid mid' dots bytes stay e h pushed i =
    let all = Puts-join a b b out mid mid' dots bytes h (Puts-push b mid mid' bytes pushed) in
    PutsFront-same a c out ((dots ++ bytes) ++ []) (dots ++ cond stay bytes []) (append-nil (dots ++ bytes) ∙ ap (λ (t : List ℕ). dots ++ t) (sym (cond-true stay bytes [] e))) (PutsFront-join a b c out mid' (dots ++ bytes) [] all i)

-- what is written for a piece that was taken in part
pub rest-bytes : (answers : Answering) (old words : Words) (piece bytes : List ℕ) (n : ℕ) → Takes answers old words (take n piece) bytes → rest_after answers old piece ≡ bytes ++ rest_after answers words (drop n piece)
rest-bytes answers old words piece bytes n h = ap (rest_after answers old) (sym (take-append-drop n piece)) ∙ h.text (drop n piece)

pub take-part : (piece : List ℕ) (i n : ℕ) → take (i + n) piece ≡ take i piece ++ take n (take (length piece - i) (drop i piece))
take-part piece i n =
    let rest : take (length piece - i) (drop i piece) ≡ drop i piece = ap (λ k. take k (drop i piece)) (sym (length-drop i piece)) ∙ take-length (drop i piece) in
    take-add i n piece ∙ ap (λ (t : List ℕ). take i piece ++ take n t) (sym rest)
