-- What the reader needs to know of tokens.
use Rattle.sym_shape.proofs.Basics.{◌≡◌, ℕ, ◌<◌, ◌≤◌, Bool, true, false, inl, inr, List, [], ◌∷◌, ◌++◌, length, refl, ap, sym, ◌∙◌, arith, append_assoc, length-append, Sym, Kind, Name, Number, Byte, Table, Token, bytes_of, IsToken, append-nil, Agrees, begins, may_follow}
use Rattle.std.specs.Bool.{⊤}
use Rattle.sym_core.specs.declared.NumberKind.{NumberKind}
use Rattle.sym_shape.proofs.Lists.{compared}
use Rattle.sym_core.proofs.TokenFacts.{number_filled, number_first, number_there, extended_number, same_number, name_filled, name_first, name_there, extended_name, same_name}

-- the bytes may follow the symbol
abbrev pub MayFollow : Table → Sym → List ℕ → Type 0
MayFollow g x [] = ⊤
MayFollow g x (b ∷ w) = may_follow g x b ≡ true

pub token_filled : (g : Table) (x : Sym) (t : Token) → IsToken g.names x t → bytes_of t ≡ [] → ⊥
token_filled g (Kind k) t h e = h
token_filled g Name t h e = name_filled g.names t h e
token_filled g (Number kind) t h e = number_filled kind t h e
token_filled g (Byte c) t h e = h

pub token_first : (g : Table) (x : Sym) (t : Token) (b : ℕ) (w : List ℕ) → IsToken g.names x t → bytes_of t ≡ b ∷ w → (b < 256) × (begins g x b ≡ true)
token_first g (Kind k) t b w h e = absurd h
token_first g Name t b w h e = name_first g.names t b w h e
token_first g (Number kind) t b w h e = number_first kind t b w h e
token_first g (Byte c) t b w h e = absurd h

-- If one token begins another, the longer token's next byte may not follow the shorter one, and the shorter one with
-- just that byte added is a token, too.
pub extended : (g : Table) (x : Sym) (s t : Token) (b : ℕ) (m : List ℕ) → IsToken g.names x s → IsToken g.names x t → bytes_of t ≡ bytes_of s ++ b ∷ m → (may_follow g x b ≡ false) × ((u : Token) × IsToken g.names x u × (bytes_of u ≡ bytes_of s ++ b ∷ []))
extended g (Kind k) s t b m p q e = absurd p
extended g Name s t b m p q e =
    let on = extended_name g.names s t b m p q e in
    (on.clash, (t, q, e ∙ ap (λ v. bytes_of s ++ b ∷ v) on.alone))
extended g (Number kind) s t b m p q e = extended_number kind s t b m p q e
extended g (Byte c) s t b m p q e = absurd p

pub same_token : (g : Table) (x : Sym) (s t : Token) → IsToken g.names x s → IsToken g.names x t → bytes_of s ≡ bytes_of t → s ≡ t
same_token g (Kind k) s t p q e = absurd p
same_token g Name s t p q e = same_name g.names s t p q e
same_token g (Number kind) s t p q e = same_number kind s t p q e
same_token g (Byte c) s t p q e = absurd p

follows_not : (g : Table) (x : Sym) (v : List ℕ) {b : ℕ} {w : List ℕ} → MayFollow g x v → v ≡ b ∷ w → may_follow g x b ≡ true
follows_not g x [] h e = cc
follows_not g x (c ∷ v) h e = ap (λ d. may_follow g x d) (sym cc) ∙ h

-- no token begins another, unless the next byte of the longer one may not follow the shorter one
pub one_token : (g : Table) (x : Sym) (s t : Token) (v w : List ℕ) → IsToken g.names x s → IsToken g.names x t → MayFollow g x v → MayFollow g x w → bytes_of s ++ v ≡ bytes_of t ++ w → s ≡ t
one_token g x s t v w p q after_s after_t e =
    elim (compared (bytes_of s) (bytes_of t) v w e) [
      | inl more ↦ longer more.0 more.1 more.2
      | inr less ↦ absurd (
          let clash = (extended g x s t less.0 less.1 p q less.2).0 in
          let follows = follows_not g x v after_s less.3 in
          cc (clash, follows))
    ]
  where
    longer : (m : List ℕ) → bytes_of s ≡ bytes_of t ++ m → w ≡ m ++ v → s ≡ t
    longer [] f h = same_token g x s t p q (f ∙ append-nil (bytes_of t))
    longer (b ∷ m) f h = absurd (
        let clash = (extended g x t s b m q p f).0 in
        let follows = follows_not g x w after_t h in
        cc (clash, follows))

-- the longest token here is the only one, whatever comes after the known bytes
pub settled : (g : Table) (ended : Bool) (x : Sym) (t : Token) (q : List ℕ) → IsToken g.names x t → (q ≡ [] → ended ≡ true) → ((other : Token) (behind : List ℕ) → IsToken g.names x other → bytes_of t ++ q ≡ bytes_of other ++ behind → length (bytes_of other) ≤ length (bytes_of t)) → (w v : List ℕ) (other : Token) → Agrees ended q w → IsToken g.names x other → MayFollow g x v → bytes_of other ++ v ≡ bytes_of t ++ w → other ≡ t
settled g ended x t q is told longest w v other agrees is_other after e =
    elim (compared (bytes_of other) (bytes_of t) v w e) [
      | inl more ↦ longer more.0 more.1 more.2
      | inr less ↦ absurd (
          let clash = (extended g x other t less.0 less.1 is_other is less.2).0 in
          let follows = follows_not g x v after less.3 in
          cc (clash, follows))
    ]
  where
    beyond : (r : List ℕ) (b : ℕ) (m : List ℕ) → r ≡ q → Agrees ended r w → w ≡ b ∷ (m ++ v) → bytes_of other ≡ bytes_of t ++ b ∷ m → ⊥
    beyond [] b m same agree h f = (let nil = agree (told (sym same)) in cc)
    beyond (c ∷ r) b m same agree h f =
        let byte : b ≡ c = cc (agree.1, h) in
        let made = (extended g x t other b m is is_other f).1 in
        let whole : bytes_of t ++ q ≡ bytes_of made.0 ++ r =
        ap (λ u. bytes_of t ++ u) (sym same ∙ ap (λ d. d ∷ r) (sym byte)) ∙ sym (append_assoc (bytes_of t) (b ∷ []) r) ∙ ap (λ u. u ++ r) (sym made.2) in
        omega (arith, longest made.0 r made.1 whole, ap length made.2, length-append (bytes_of t) (b ∷ []))

    longer : (m : List ℕ) → bytes_of other ≡ bytes_of t ++ m → w ≡ m ++ v → other ≡ t
    longer [] f h = same_token g x other t is_other is (f ∙ append-nil (bytes_of t))
    longer (b ∷ m) f h = absurd (beyond q b m refl agrees h f)

pub number_made : (kind : NumberKind) → (g : Table) → (t : Token) × IsToken g.names (Number kind) t
number_made kind g = number_there kind

pub name_made : (g : Table) → (t : Token) × IsToken g.names Name t
name_made g = name_there g.names
