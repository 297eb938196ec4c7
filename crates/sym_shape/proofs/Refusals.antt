-- Where the reader refuses.
use Rattle.sym_shape.proofs.Basics.{◌≡◌, ℕ, ◌+◌, ◌<◌, Bool, true, false, List, [], ◌∷◌, ◌++◌, length, take, refl, ap, sym, ◌∙◌, subst, arith, append_assoc, length-append, take_at, Row, Sym, Kind, Name, Number, Byte, Entry, Symbol, Table, Token, bytes_of, IsToken, branch, empty, token, fixed, Forest, nothing, grown, spell, spell_all, IsTree, AreTrees, IsWellShaped, BeginsWellShaped, IsMalformed, IsLawful, TakesNone, symbols_in, Agrees, IsReading, Spell}
use Rattle.sym_shape.proofs.Completions.{some_forest}
use Rattle.sym_shape.proofs.Moves.{agrees_behind, only_empty}

agrees_self : (ended : Bool) (q : List ℕ) → (q ≡ [] → ended ≡ true) → Agrees ended q q
agrees_self ended [] told = λ e. refl
agrees_self ended (b ∷ q) told = (q, refl)

-- If nothing that continues with the next byte completes c, the first bad byte comes after c.
pub malformed : (g : Table) (ended : Bool) (c q : List ℕ) → BeginsWellShaped g c → ((w : List ℕ) → Agrees ended q w → IsWellShaped g (c ++ w) → ⊥) → (q ≡ [] → ended ≡ true) → IsMalformed g (c ++ q) (length c)
malformed g ended c q front none told = record {
  refused = λ whole. none q (agrees_self ended q told) whole;
  first = record {
    within = omega (arith, length-append c q);
    front = subst (λ u. BeginsWellShaped g u) (sym (take_at c q (length c) refl)) front;
    next = λ lt whole. next q lt none whole;
  };
}
  where
    next : (r : List ℕ) → length c < length (c ++ r) → ((w : List ℕ) → Agrees ended r w → IsWellShaped g (c ++ w) → ⊥) → BeginsWellShaped g (take (length c + 1) (c ++ r)) → ⊥
    next [] lt never whole = absurd (omega (arith, length-append c []))
    next (b ∷ r) lt never whole =
        let cut : take (length c + 1) (c ++ b ∷ r) ≡ c ++ b ∷ [] = ap (λ u. take (length c + 1) u) (sym (append_assoc c (b ∷ []) r)) ∙ take_at (c ++ b ∷ []) r (length c + 1) (length-append c (b ∷ [])) in
        never (b ∷ whole.0) (whole.0, refl) (subst (λ u. IsWellShaped g u) (ap (λ u. u ++ whole.0) cut ∙ append_assoc c (b ∷ []) whole.0) whole.1)

-- the bytes that were read begin a well shaped symbol
pub begins_here : {n : ℕ} (g : Table) (lawful : IsLawful g) (ended : Bool) (p q : List ℕ) (es : List Entry) (rows : List Row) → IsReading g n ended p q es rows → BeginsWellShaped g p
begins_here g lawful ended p q es rows r =
    let some = some_forest g lawful (symbols_in es) r.known in
    let made = r.sound some.0 some.1 in
    (spell_all some.0, (made.0, made.1, made.2))

-- nothing that the stack spells continues with the next byte
pub refused_here : {n : ℕ} (g : Table) (lawful : IsLawful g) (ended : Bool) (p q : List ℕ) (es : List Entry) (rows : List Row) → IsReading g n ended p q es rows → ((w : List ℕ) → Agrees ended q w → Spell g (symbols_in es) w → ⊥) → (q ≡ [] → ended ≡ true) → IsMalformed g (p ++ q) (length p)
refused_here g lawful ended p q es rows r none told =
    malformed g ended p q (begins_here g lawful ended p q es rows r) (λ w agrees whole. none w agrees (r.complete w agrees whole)) told

-- no token begins with c and the next byte, or ends within c
abbrev pub IsNoToken : Table → Bool → Sym → List ℕ → List ℕ → Type 0
IsNoToken g ended x c q = (w v : List ℕ) (t : Token) → Agrees ended q w → IsToken g.names x t → bytes_of t ++ v ≡ c ++ w → ⊥

-- some token begins with c
abbrev pub BeginsToken : Table → Sym → List ℕ → Type 0
BeginsToken g x c = (t : Token) × (rest : List ℕ) × IsToken g.names x t × (bytes_of t ≡ c ++ rest)

no_spelling : (g : Table) (ended : Bool) (x : Sym) (xs : List Sym) (f : Forest) (c q w : List ℕ) → (t : Token) → IsToken g.names x t → IsNoToken g ended x c q → Agrees ended q w → AreTrees g (x ∷ xs) f → spell_all f ≡ c ++ w → ⊥
no_spelling g ended Name xs (grown (token t) f) c q w s is none agrees p e = none w (spell_all f) t agrees p.0 e
no_spelling g ended (Number kind) xs (grown (token t) f) c q w s is none agrees p e = none w (spell_all f) t agrees p.0 e
no_spelling g ended (Kind k) xs f c q w s is none agrees p e = is
no_spelling g ended (Byte b) xs f c q w s is none agrees p e = is
no_spelling g ended Name xs nothing c q w s is none agrees p e = p
no_spelling g ended (Number kind) xs nothing c q w s is none agrees p e = p
no_spelling g ended x xs (grown s f) c q w t is none agrees p e = p.0

-- the bytes that were read and the front of a token begin a well shaped symbol
pub token_front : {n : ℕ} (g : Table) (lawful : IsLawful g) (ended : Bool) (p q c : List ℕ) (x : Sym) (es : List Entry) (rows : List Row) → IsReading g n ended p q (Symbol x ∷ es) rows → BeginsToken g x c → BeginsWellShaped g (p ++ c)
token_front g lawful ended p q c x es rows r begun =
    let some = some_forest g lawful (symbols_in es) r.known.1 in
    let made = r.sound (grown (token begun.0) some.0) (tree_of x begun.2, some.1) in
    let text : spell made.0 ≡ (p ++ c) ++ (begun.1 ++ spell_all some.0) =
    made.2 ∙ ap (λ u. p ++ (u ++ spell_all some.0)) begun.3 ∙ ap (λ u. p ++ u) (append_assoc c begun.1 (spell_all some.0)) ∙ sym (append_assoc p c (begun.1 ++ spell_all some.0)) in
    (begun.1 ++ spell_all some.0, (made.0, made.1, text))
  where
    tree_of : (y : Sym) → IsToken g.names y begun.0 → IsTree g y (token begun.0)
    tree_of Name h = h
    tree_of (Number kind) h = h
    tree_of (Kind k) h = absurd h
    tree_of (Byte b) h = absurd h

-- a token breaks off after c
pub refused_token : {n : ℕ} (g : Table) (lawful : IsLawful g) (ended : Bool) (p c q : List ℕ) (x : Sym) (es : List Entry) (rows : List Row) → IsReading g n ended p (c ++ q) (Symbol x ∷ es) rows → BeginsToken g x c → IsNoToken g ended x c q → (q ≡ [] → ended ≡ true) → IsMalformed g ((p ++ c) ++ q) (length (p ++ c))
refused_token g lawful ended p c q x es rows r begun none told = malformed g ended (p ++ c) q (token_front g lawful ended p (c ++ q) c x es rows r begun) never told
  where
    never : (w : List ℕ) → Agrees ended q w → IsWellShaped g ((p ++ c) ++ w) → ⊥
    never w agrees whole =
        let old = r.complete (c ++ w) (agrees_behind ended c q w agrees) (subst (λ u. IsWellShaped g u) (append_assoc p c w) whole) in
        no_spelling g ended x (symbols_in es) old.0 c q w begun.0 begun.2 none agrees old.1 old.2

-- there are bytes after the end of the stack
pub refused_behind : {n : ℕ} (g : Table) (lawful : IsLawful g) (ended : Bool) (p : List ℕ) (b : ℕ) (q : List ℕ) (rows : List Row) → IsReading g n ended p (b ∷ q) [] rows → IsMalformed g (p ++ b ∷ q) (length p)
refused_behind g lawful ended p b q rows r = refused_here g lawful ended p (b ∷ q) [] rows r none (λ e. cc)
  where
    none_of : (w : List ℕ) (f : Forest) → AreTrees g [] f → spell_all f ≡ b ∷ w → ⊥
    none_of w nothing p e = cc
    none_of w (grown t f) p e = p

    none : (w : List ℕ) → Agrees ended (b ∷ q) w → Spell g [] w → ⊥
    none w agrees spelled = none_of agrees.0 spelled.0 spelled.1 (spelled.2 ∙ agrees.1)

-- the next byte isn't the expected one, or the bytes have ended
pub refused_byte : {n : ℕ} (g : Table) (lawful : IsLawful g) (ended : Bool) (p : List ℕ) (c : ℕ) (q : List ℕ) (es : List Entry) (rows : List Row) → IsReading g n ended p q (Symbol (Byte c) ∷ es) rows → (q ≡ [] → ended ≡ true) → ((r : List ℕ) → q ≡ c ∷ r → ⊥) → IsMalformed g (p ++ q) (length p)
refused_byte g lawful ended p c q es rows r told other = refused_here g lawful ended p q (Symbol (Byte c) ∷ es) rows r (λ w agrees spelled. none q other told w agrees spelled.0 spelled.1 spelled.2) told
  where
    byte_of : (f : Forest) → AreTrees g (Byte c ∷ symbols_in es) f → (v : List ℕ) × (spell_all f ≡ c ∷ v)
    byte_of (grown (fixed d) f) trees = (spell_all f, ap (λ e. e ∷ spell_all f) (sym trees.0))
    byte_of (grown (branch rule taken parts) f) trees = absurd trees.0
    byte_of (grown empty f) trees = absurd trees.0
    byte_of (grown (token t) f) trees = absurd trees.0
    byte_of nothing trees = absurd trees

    none : (u : List ℕ) → ((v : List ℕ) → u ≡ c ∷ v → ⊥) → (u ≡ [] → ended ≡ true) → (w : List ℕ) → Agrees ended u w → (f : Forest) → AreTrees g (Byte c ∷ symbols_in es) f → spell_all f ≡ w → ⊥
    none [] wrong end w agrees f trees e = (let byte = byte_of f trees in let nil = agrees (end refl) in cc (byte.1))
    none (b ∷ u) wrong end w agrees f trees e =
        let byte = byte_of f trees in
        let next = agrees.1 in
        let same : b ≡ c = cc (byte.1) in
        wrong u (ap (λ d. d ∷ u) same)

-- no rule of the kind may be taken, and the kind isn't empty
pub refused_kind : {n : ℕ} (g : Table) (lawful : IsLawful g) (ended : Bool) (p : List ℕ) (k : ℕ) (q : List ℕ) (es : List Entry) (rows : List Row) → IsReading g n ended p q (Symbol (Kind k) ∷ es) rows → TakesNone g k ended q → g.may_be_empty k ≡ false → IsMalformed g (p ++ q) (length p)
refused_kind g lawful ended p k q es rows r none full =
    refused_here g lawful ended p q (Symbol (Kind k) ∷ es) rows r
    (λ w agrees spelled. (let bare = (only_empty g lawful ended k (symbols_in es) spelled.0 q w r.known none agrees spelled.1 spelled.2).0 in cc))
    (λ e. told q e none)
  where
    told : (u : List ℕ) → u ≡ [] → TakesNone g k ended u → ended ≡ true
    told [] e h = h
    told (b ∷ u) e h = cc
