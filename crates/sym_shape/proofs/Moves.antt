-- The reader's moves: what holds before one holds after it.
use Rattle.sym_shape.proofs.Basics.{◌≡◌, ℕ, zero, suc, ◌+◌, ◌<◌, ◌≤◌, Bool, true, inl, inr, List, [], ◌∷◌, ◌++◌, length, refl, ap, sym, ◌∙◌, subst, ap₂, arith, append_assoc, length-append, Some, is_some, cond, if◌then◌else◌, append_cancel_left, append-nil, false≢true, Rule, Row, Sym, Kind, Name, Number, Byte, Entry, Symbol, Close, Table, Token, symbols_of, bytes_of, IsToken, branch, empty, token, fixed, Forest, nothing, grown, spell, spell_all, IsTree, AreTrees, TakesRule, rows_of, rows_of_all, row_count, row_count_all, tree_count, read_steps_all, IsWellShaped, AreSymbols, IsLawful, symbols_in, entries_of, closed, symbols_left, finished, steps_left, AreOpen, IsFollowed, Agrees, IsReading, IsCompleted, Spell, open_row, TakesNone}
use Rattle.sym_shape.proofs.Lists.{true_or, filled}
use Rattle.sym_shape.proofs.Forests.{joined, spell_all-joined, AreTrees-joined, halves, count_trees, length-rows_of, length-rows_of_all}
use Rattle.sym_shape.proofs.Tokens.{MayFollow}
use Rattle.sym_shape.proofs.Firsts.{branch_first, branch_filled, forest_first}
use Rattle.sym_shape.proofs.Uniqueness.{chosen_rule}
use Rattle.sym_shape.proofs.Follows.{symbols_pushed, followed_pushed, forest_follows}

pub symbols_in-pushed : (xs : List Sym) (i : ℕ) (es : List Entry) → symbols_in (entries_of xs ++ Close i ∷ es) ≡ xs ++ symbols_in es
symbols_in-pushed [] i es = refl
symbols_in-pushed (x ∷ xs) i es = ap (λ v. x ∷ v) (symbols_in-pushed xs i es)

AreOpen-more : (es : List Entry) (m n : ℕ) → m ≤ n → AreOpen es m → AreOpen es n
AreOpen-more [] m n le h = tt
AreOpen-more (Symbol x ∷ es) m n le h = AreOpen-more es m n le h
AreOpen-more (Close i ∷ es) m n le h = (omega arith, AreOpen-more es m n le h.1)

AreOpen-pushed : (xs : List Sym) (i : ℕ) (es : List Entry) (n : ℕ) → i < n → AreOpen es n → AreOpen (entries_of xs ++ Close i ∷ es) n
AreOpen-pushed [] i es n lt h = (lt, h)
AreOpen-pushed (x ∷ xs) i es n lt h = AreOpen-pushed xs i es n lt h

pub length-closed : (rows : List Row) (i at end : ℕ) → length (closed rows i at end) ≡ length rows
length-closed [] i at end = refl
length-closed (row ∷ rows) zero at end = refl
length-closed (row ∷ rows) (suc i) at end = omega (arith, length-closed rows i at end)

pub same_length : (made rows : List Row) (i at end : ℕ) → made ≡ closed rows i at end → length made ≡ length rows
same_length made rows i at end e = ap length e ∙ length-closed rows i at end

pub closed_at : (rows : List Row) (row : Row) (more : List Row) (at end : ℕ) → closed (rows ++ row ∷ more) (length rows) at end ≡ rows ++ record row { to = at; end = end } ∷ more
closed_at [] row more at end = refl
closed_at (r ∷ rows) row more at end = ap (λ v. r ∷ v) (closed_at rows row more at end)

same_finished : (es : List Entry) (f : Forest) (m n : ℕ) (rows others : List Row) → m ≡ n → rows ≡ others → finished es f m rows ≡ finished es f n others
same_finished es f m n rows others p q = cc

same_rows_of_all : (f : Forest) (at m n : ℕ) → m ≡ n → rows_of_all f at m ≡ rows_of_all f at n
same_rows_of_all f at m n p = cc

pub left-pushed : (xs : List Sym) (i : ℕ) (es : List Entry) → symbols_left (entries_of xs ++ Close i ∷ es) ≡ length xs
left-pushed [] i es = refl
left-pushed (x ∷ xs) i es = omega (arith, left-pushed xs i es)

-- a rule's parts are read one after another
finished-pushed : (g : Table) (xs : List Sym) (i : ℕ) (es : List Entry) (parts f : Forest) (at : ℕ) (rows : List Row) → AreTrees g xs parts → finished (entries_of xs ++ Close i ∷ es) (joined parts f) at rows ≡ finished (Close i ∷ es) f (at + length (spell_all parts)) (rows ++ rows_of_all parts at (length rows))
finished-pushed g [] i es nothing f at rows p = same_finished (Close i ∷ es) f at (at + 0) rows (rows ++ []) (omega arith) (sym (append-nil rows))
finished-pushed g (x ∷ xs) i es (grown t parts) f at rows p =
    let first = rows_of t (tree_count parts) at (length rows) in
    let after : symbols_left (entries_of xs ++ Close i ∷ es) ≡ tree_count parts = left-pushed xs i es ∙ sym (count_trees g xs parts p.1) in
    let later = finished-pushed g xs i es parts f (at + length (spell t)) (rows ++ first) p.1 in
    let count : length (rows ++ first) ≡ length rows + row_count t = length-append rows first ∙ ap (λ n. length rows + n) (length-rows_of t (tree_count parts) at (length rows)) in
    let lists : (rows ++ first) ++ rows_of_all parts (at + length (spell t)) (length (rows ++ first)) ≡ rows ++ (first ++ rows_of_all parts (at + length (spell t)) (length rows + row_count t)) =
    append_assoc rows first _ ∙ ap (λ rs. rows ++ (first ++ rs)) (same_rows_of_all parts (at + length (spell t)) _ _ count) in
    rw after (later ∙ same_finished (Close i ∷ es) f _ _ _ _ (omega (arith, length-append (spell t) (spell_all parts))) lists)
finished-pushed g [] i es (grown t parts) f at rows p = absurd p
finished-pushed g (x ∷ xs) i es nothing f at rows p = absurd p

steps_left-pushed : (g : Table) (xs : List Sym) (es : List Entry) (parts f : Forest) → AreTrees g xs parts → steps_left (entries_of xs ++ es) (joined parts f) ≡ read_steps_all parts + steps_left es f
steps_left-pushed g [] es nothing f p = omega arith
steps_left-pushed g (x ∷ xs) es (grown t parts) f p = omega (arith, steps_left-pushed g xs es parts f p.1)
steps_left-pushed g [] es (grown t parts) f p = absurd p
steps_left-pushed g (x ∷ xs) es nothing f p = absurd p

-- how many steps it takes to begin a rule, apart from ending its row: one if the rule has symbols, else none
abbrev pub beginning : List Sym → ℕ
beginning [] = 0
beginning (x ∷ xs) = 1

rule_steps : (g : Table) (rule : Rule) (taken : List ℕ) (xs : List Sym) (es : List Entry) (i n : ℕ) (front back : Forest) → AreTrees g xs front →
    n + beginning xs + steps_left (entries_of xs ++ Close i ∷ es) (joined front back) ≡ n + steps_left (Symbol (Kind 0) ∷ es) (grown (branch rule taken front) back)
rule_steps g rule taken [] es i n nothing back p = omega arith
rule_steps g rule taken (x ∷ xs) es i n (grown t front) back p = omega (arith, steps_left-pushed g xs (Close i ∷ es) front back p.1)
rule_steps g rule taken [] es i n (grown t front) back p = absurd p
rule_steps g rule taken (x ∷ xs) es i n nothing back p = absurd p

-- the start
pub started : (g : Table) (lawful : IsLawful g) (ended : Bool) (q : List ℕ) → IsReading g 0 ended [] q (Symbol (Kind 0) ∷ []) []
started g lawful ended q = record {
  known = (lawful.start, tt);
  followed = ((λ b lt first. absurd (false≢true first)), tt);
  opened = tt;
  sound = sound;
  complete = λ w agrees whole. (grown whole.0 nothing, (whole.1, tt), append-nil (spell whole.0) ∙ whole.2);
}
  where
    sound : (f : Forest) → AreTrees g (Kind 0 ∷ []) f → IsCompleted g [] (spell_all f) (finished (Symbol (Kind 0) ∷ []) f 0 []) (0 + steps_left (Symbol (Kind 0) ∷ []) f)
    sound (grown t nothing) p = (t, p.0, sym (append-nil (spell t)), refl, omega arith)
    sound (grown t (grown s f)) p = absurd p.1
    sound nothing p = absurd p

recounted : (g : Table) (p w : List ℕ) (rows : List Row) (m n : ℕ) → n ≡ m → IsCompleted g p w rows m → IsCompleted g p w rows n
recounted g p w rows m n same old = (old.0, old.1, old.2, old.3, same ∙ old.4)

-- a row is ended
pub closes : (g : Table) (n : ℕ) (ended : Bool) (p q : List ℕ) (i : ℕ) (es : List Entry) (rows : List Row) → IsReading g n ended p q (Close i ∷ es) rows → IsReading g (n + 1) ended p q es (closed rows i (length p) (length rows))
closes g n ended p q i es rows r = record {
  known = r.known;
  followed = r.followed;
  opened = subst (λ n. AreOpen es n) (sym (length-closed rows i (length p) (length rows))) r.opened.1;
  sound = λ f trees. recounted g p (spell_all f) _ _ _ (omega arith) (r.sound f trees);
  complete = r.complete;
}

pub agrees_behind : (ended : Bool) (c q w : List ℕ) → Agrees ended q w → Agrees ended (c ++ q) (c ++ w)
agrees_behind ended [] q w h = h
agrees_behind ended (b ∷ c) q w h = (c ++ w, refl)

-- a tree with the bytes c is read, and its rows are made
completed : (g : Table) (p c w : List ℕ) (es : List Entry) (f : Forest) (rows made : List Row) (m n : ℕ) → n ≡ m → IsCompleted g p (c ++ w) (finished es f (length p + length c) (rows ++ made)) m → IsCompleted g (p ++ c) w (finished es f (length (p ++ c)) (rows ++ made)) n
completed g p c w es f rows made m n same old =
    (old.0, old.1, old.2 ∙ sym (append_assoc p c w), same_finished es f _ _ _ _ (length-append p c) refl ∙ old.3, same ∙ old.4)

byte_continues : (g : Table) (c : ℕ) (xs : List Sym) (f : Forest) (w : List ℕ) → AreTrees g (Byte c ∷ xs) f → spell_all f ≡ c ∷ w → Spell g xs w
byte_continues g c xs (grown (fixed d) f) w p e = (f, p.1, cc)
byte_continues g c xs (grown (branch rule taken parts) f) w p e = absurd p.0
byte_continues g c xs (grown empty f) w p e = absurd p.0
byte_continues g c xs (grown (token t) f) w p e = absurd p.0
byte_continues g c xs nothing w p e = absurd p

-- a fixed byte is read
pub takes_byte : (g : Table) (n : ℕ) (ended : Bool) (p q : List ℕ) (c : ℕ) (es : List Entry) (rows : List Row) → IsReading g n ended p (c ∷ q) (Symbol (Byte c) ∷ es) rows → IsReading g (n + 1) ended (p ++ c ∷ []) q es rows
takes_byte g n ended p q c es rows r = record {
  known = r.known.1;
  followed = r.followed.1;
  opened = r.opened;
  sound = λ f trees. (
      let old = r.sound (grown (fixed c) f) (refl, trees) in
      subst (λ rs. IsCompleted g (p ++ c ∷ []) (spell_all f) (finished es f (length (p ++ c ∷ [])) rs) (n + 1 + steps_left es f)) (append-nil rows) (completed g p (c ∷ []) (spell_all f) es f rows [] (n + (1 + steps_left es f)) (n + 1 + steps_left es f) (omega arith) old));
  complete = λ w agrees whole. (
      let old = r.complete (c ∷ w) (w, refl) (subst (λ v. IsWellShaped g v) (append_assoc p (c ∷ []) w) whole) in
      byte_continues g c (symbols_in es) old.0 w old.1 old.2);
}

-- only this token may be read here, whatever comes after the known bytes
abbrev pub IsSettled : Table → Bool → Sym → Token → List ℕ → Type 0
IsSettled g ended x t q = (w v : List ℕ) (other : Token) → Agrees ended q w → IsToken g.names x other → MayFollow g x v → bytes_of other ++ v ≡ bytes_of t ++ w → other ≡ t

token_continues : (g : Table) (lawful : IsLawful g) (ended : Bool) (x : Sym) (t : Token) (xs : List Sym) (f : Forest) (q w : List ℕ) → AreSymbols g (x ∷ xs) → IsFollowed g (x ∷ xs) → IsToken g.names x t → IsSettled g ended x t q → Agrees ended q w → AreTrees g (x ∷ xs) f → spell_all f ≡ bytes_of t ++ w → Spell g xs w
token_continues g lawful ended Name t xs (grown (token s) f) q w known followed is settled agrees p e =
    let same = settled w (spell_all f) s agrees p.0 (forest_follows g lawful Name xs f known.1 followed p.1) e in
    (f, p.1, append_cancel_left (bytes_of t) _ _ (ap (λ u. bytes_of u ++ spell_all f) (sym same) ∙ e))
token_continues g lawful ended (Number kind) t xs (grown (token s) f) q w known followed is settled agrees p e =
    let same = settled w (spell_all f) s agrees p.0 (forest_follows g lawful (Number kind) xs f known.1 followed p.1) e in
    (f, p.1, append_cancel_left (bytes_of t) _ _ (ap (λ u. bytes_of u ++ spell_all f) (sym same) ∙ e))
token_continues g lawful ended (Kind k) t xs f q w known followed is settled agrees p e = absurd is
token_continues g lawful ended (Byte c) t xs f q w known followed is settled agrees p e = absurd is
token_continues g lawful ended Name t xs nothing q w known followed is settled agrees p e = absurd p
token_continues g lawful ended (Number kind) t xs nothing q w known followed is settled agrees p e = absurd p
token_continues g lawful ended x t xs (grown s f) q w known followed is settled agrees p e = absurd p.0

-- the row of a token
abbrev pub token_row : Token → (after at number : ℕ) → Row
token_row t after at number = record { rule = 65535; after = after; from = at + length t.before; to = at + length t.before + length t.own; end = number + 1 }

-- a token is read
pub takes_token : (g : Table) (n : ℕ) (lawful : IsLawful g) (ended : Bool) (p q : List ℕ) (x : Sym) (t : Token) (es : List Entry) (rows : List Row) → IsToken g.names x t → IsSettled g ended x t q → IsReading g n ended p (bytes_of t ++ q) (Symbol x ∷ es) rows → IsReading g (n + 1) ended (p ++ bytes_of t) q es (rows ++ token_row t (symbols_left es) (length p) (length rows) ∷ [])
takes_token g n lawful ended p q x t es rows is settled r = record {
  known = r.known.1;
  followed = r.followed.1;
  opened = AreOpen-more es _ _ (omega (arith, length-append rows (token_row t (symbols_left es) (length p) (length rows) ∷ []))) r.opened;
  sound = λ f trees. (
      let old = r.sound (grown (token t) f) (tree_of x is, trees) in
      completed g p (bytes_of t) (spell_all f) es f rows (token_row t (symbols_left es) (length p) (length rows) ∷ []) (n + (1 + steps_left es f)) (n + 1 + steps_left es f) (omega arith) old);
  complete = λ w agrees whole. (
      let old = r.complete (bytes_of t ++ w) (agrees_behind ended (bytes_of t) q w agrees) (subst (λ v. IsWellShaped g v) (append_assoc p (bytes_of t) w) whole) in
      token_continues g lawful ended x t (symbols_in es) old.0 q w r.known r.followed is settled agrees old.1 old.2);
}
  where
    tree_of : (y : Sym) → IsToken g.names y t → IsTree g y (token t)
    tree_of Name h = h
    tree_of (Number kind) h = h
    tree_of (Kind k) h = absurd h
    tree_of (Byte c) h = absurd h

-- a kind with no rule to take is empty here
pub only_empty : (g : Table) (lawful : IsLawful g) (ended : Bool) (k : ℕ) (xs : List Sym) (f : Forest) (q w : List ℕ) → AreSymbols g (Kind k ∷ xs) → TakesNone g k ended q → Agrees ended q w → AreTrees g (Kind k ∷ xs) f → spell_all f ≡ w → (g.may_be_empty k ≡ true) × Spell g xs w
only_empty g lawful ended k xs (grown empty f) q w known none agrees p e = (p.0, (f, p.1, e))
only_empty g lawful ended k xs (grown (branch rule taken parts) f) q w known none agrees p e =
    let some = filled (taken ++ spell_all parts) (branch_filled g lawful k rule taken parts known.0 p.0) in
    let chosen = branch_first g lawful k rule taken parts some.0 some.1 known.0 p.0 some.2 in
    let whole : w ≡ some.0 ∷ (some.1 ++ spell_all f) = sym e ∙ ap (λ u. u ++ spell_all f) some.2 in
    absurd (never q none agrees chosen.1 whole)
  where
    never : (r : List ℕ) {b : ℕ} {v : List ℕ} → TakesNone g k ended r → Agrees ended r w → g.rule k b ≡ Some rule → w ≡ b ∷ v → ⊥
    never [] told agree found is = (let nil = agree told in cc)
    never (c ∷ r) nothere agree found is = (let next = agree.1 in cc)
only_empty g lawful ended k xs (grown (token t) f) q w known none agrees p e = absurd p.0
only_empty g lawful ended k xs (grown (fixed c) f) q w known none agrees p e = absurd p.0
only_empty g lawful ended k xs nothing q w known none agrees p e = absurd p

-- the reader leaves a kind that is empty
pub takes_nothing : (g : Table) (n : ℕ) (lawful : IsLawful g) (ended : Bool) (p q : List ℕ) (k : ℕ) (es : List Entry) (rows : List Row) → g.may_be_empty k ≡ true → TakesNone g k ended q → IsReading g n ended p q (Symbol (Kind k) ∷ es) rows → IsReading g (n + 1) ended p q es rows
takes_nothing g n lawful ended p q k es rows bare none r = record {
  known = r.known.1;
  followed = r.followed.1;
  opened = r.opened;
  sound = λ f trees. (
      let old = r.sound (grown empty f) (bare, trees) in
      (old.0, old.1, old.2, same_finished es f _ _ _ _ (omega arith) (sym (append-nil rows)) ∙ old.3, omega (arith, old.4)));
  complete = λ w agrees whole. (
      let old = r.complete w agrees whole in
      (only_empty g lawful ended k (symbols_in es) old.0 q w r.known none agrees old.1 old.2).1);
}

rule_continues : (g : Table) (lawful : IsLawful g) (k : ℕ) (xs : List Sym) (f : Forest) (rule : Rule) (b : ℕ) (v w : List ℕ) → AreSymbols g (Kind k ∷ xs) → IsFollowed g (Kind k ∷ xs) → g.rule k b ≡ Some rule → AreTrees g (Kind k ∷ xs) f → spell_all f ≡ (if rule.eats then b ∷ [] else []) ++ w → (if rule.eats then b ∷ [] else []) ++ w ≡ b ∷ v → Spell g (symbols_of rule ++ xs) w
rule_continues g lawful k xs (grown empty f) rule b v w known followed found p e begins =
    let first = forest_first g lawful xs f b v known.1 p.1 (e ∙ begins) in
    let after : g.after k b ≡ true = followed.0 b first.0 first.1 in
    let apart = lawful.apart k b known.0 first.0 p.0 (ap is_some found) in
    cc
rule_continues g lawful k xs (grown (branch other also others) f) rule b v w known followed found p e begins =
    let some = filled (also ++ spell_all others) (branch_filled g lawful k other also others known.0 p.0) in
    let whole : some.0 ∷ (some.1 ++ spell_all f) ≡ b ∷ v = sym (ap (λ u. u ++ spell_all f) some.2) ∙ e ∙ begins in
    let same_byte : some.0 ≡ b = cc in
    let same = chosen_rule g lawful k rule other also others b some.1 known.0 found p.0 (some.2 ∙ ap (λ c. c ∷ some.1) same_byte) in
    let parts : AreTrees g (symbols_of rule) others = subst (λ r. AreTrees g (symbols_of r) others) (sym same.rules) p.0.1 in
    let regrouped : also ++ (spell_all others ++ spell_all f) ≡ also ++ w = sym (append_assoc also (spell_all others) (spell_all f)) ∙ e ∙ ap (λ u. u ++ w) same.takes in
    (joined others f, AreTrees-joined g (symbols_of rule) xs others f parts p.1, spell_all-joined others f ∙ append_cancel_left also _ _ regrouped)
rule_continues g lawful k xs (grown (token t) f) rule b v w known followed found p e begins = absurd p.0
rule_continues g lawful k xs (grown (fixed c) f) rule b v w known followed found p e begins = absurd p.0
rule_continues g lawful k xs nothing rule b v w known followed found p e begins = absurd p

-- the bytes that a rule takes itself
abbrev pub taken_by : Rule → ℕ → List ℕ
taken_by rule b = if rule.eats then b ∷ [] else []

begins_so : (rule : Rule) (b : ℕ) (q w : List ℕ) (ended : Bool) → Agrees ended q w → ((rest : List ℕ) × (taken_by rule b ++ q ≡ b ∷ rest)) → ((rest : List ℕ) × (taken_by rule b ++ w ≡ b ∷ rest))
begins_so rule b q w ended agrees some =
    elim (true_or rule.eats) [
      | inl eats ↦ (w, ap (λ c. cond c (b ∷ []) [] ++ w) eats)
      | inr chains ↦ (
          let front : q ≡ b ∷ some.0 = sym (ap (λ c. cond c (b ∷ []) [] ++ q) chains) ∙ some.1 in
          let next = agrees_next q front agrees in
          (next.0, ap (λ c. cond c (b ∷ []) [] ++ w) chains ∙ next.1))
    ]
  where
    agrees_next : (r : List ℕ) → r ≡ b ∷ some.0 → Agrees ended r w → (rest : List ℕ) × (w ≡ b ∷ rest)
    agrees_next [] e h = cc
    agrees_next (c ∷ r) e h = (h.0, h.1 ∙ ap (λ d. d ∷ h.0) cc)

-- the parts of a rule are read and its row is ended
rule_rows : (g : Table) (rule : Rule) (taken : List ℕ) (es : List Entry) (front back : Forest) (at to end : ℕ) (rows : List Row) → AreTrees g (symbols_of rule) front →
    finished (entries_of (symbols_of rule) ++ Close (length rows) ∷ es) (joined front back) (at + length taken) (rows ++ open_row rule (symbols_left es) at to end ∷ [])
    ≡ finished (Symbol (Kind 0) ∷ es) (grown (branch rule taken front) back) at rows
rule_rows g rule taken es front back at to end rows p =
    let begun = rows ++ open_row rule (symbols_left es) at to end ∷ [] in
    let place = at + length taken in
    let counted : length begun ≡ length rows + 1 = length-append rows (open_row rule (symbols_left es) at to end ∷ []) in
    let parts = rows_of_all front place (length rows + 1) in
    let read = finished-pushed g (symbols_of rule) (length rows) es front back place begun p in
    let stop = place + length (spell_all front) in
    let regrouped : begun ++ rows_of_all front place (length begun) ≡ rows ++ open_row rule (symbols_left es) at to end ∷ parts =
    append_assoc rows (open_row rule (symbols_left es) at to end ∷ []) _ ∙ ap (λ rs. rows ++ open_row rule (symbols_left es) at to end ∷ rs) (same_rows_of_all front place _ _ counted) in
    let many : length (rows ++ open_row rule (symbols_left es) at to end ∷ parts) ≡ length rows + 1 + row_count_all front =
    omega (arith, length-append rows (open_row rule (symbols_left es) at to end ∷ parts), length-rows_of_all front place (length rows + 1)) in
    let reach : stop ≡ at + length (taken ++ spell_all front) = omega (arith, length-append taken (spell_all front)) in
    let ended : closed (begun ++ rows_of_all front place (length begun)) (length rows) stop (length (begun ++ rows_of_all front place (length begun))) ≡ rows ++ rows_of (branch rule taken front) (symbols_left es) at (length rows) =
    ap (λ rs. closed rs (length rows) stop (length rs)) regrouped ∙ closed_at rows (open_row rule (symbols_left es) at to end) parts stop _ ∙ ap₂ (λ m n. rows ++ record { rule = rule.number; after = symbols_left es; from = at; to = m; end = n } ∷ parts) reach many in
    read ∙ same_finished es back _ _ _ _ reach ended

-- a rule is taken
pub takes_rule : (g : Table) (n : ℕ) (lawful : IsLawful g) (ended : Bool) (p q : List ℕ) (k b to end : ℕ) (rule : Rule) (es : List Entry) (rows : List Row) → b < 256 → g.rule k b ≡ Some rule → ((rest : List ℕ) × (taken_by rule b ++ q ≡ b ∷ rest)) → IsReading g n ended p (taken_by rule b ++ q) (Symbol (Kind k) ∷ es) rows → IsReading g (n + beginning (symbols_of rule)) ended (p ++ taken_by rule b) q (entries_of (symbols_of rule) ++ Close (length rows) ∷ es) (rows ++ open_row rule (symbols_left es) (length p) to end ∷ [])
takes_rule g n lawful ended p q k b to end rule es rows is_byte found begins r =
    let law = lawful.rule k b rule r.known.0 is_byte found in
    let path = sym (symbols_in-pushed (symbols_of rule) (length rows) es) in
    let counted : length (rows ++ open_row rule (symbols_left es) (length p) to end ∷ []) ≡ length rows + 1 = length-append rows (open_row rule (symbols_left es) (length p) to end ∷ []) in
    record {
      known = subst (λ xs. AreSymbols g xs) path (symbols_pushed g (symbols_of rule) (symbols_in es) law.symbols r.known.1);
      followed = subst (λ xs. IsFollowed g xs) path (followed_pushed g k (symbols_of rule) (symbols_in es) law.after r.followed);
      opened = AreOpen-pushed (symbols_of rule) (length rows) es _ (omega (arith, counted)) (AreOpen-more es _ _ (omega (arith, counted)) r.opened);
      sound = λ f trees. (
          let parts = halves g (symbols_of rule) (symbols_in es) f (subst (λ xs. AreTrees g xs f) (sym path) trees) in
          let takes : TakesRule g k rule (taken_by rule b) = record { byte = b; is_byte = is_byte; found = found; takes = refl } in
          let old = r.sound (grown (branch rule (taken_by rule b) parts.front) parts.back) ((takes, parts.fronts), parts.backs) in
          let spelled : spell_all f ≡ spell_all parts.front ++ spell_all parts.back = ap spell_all parts.is ∙ spell_all-joined parts.front parts.back in
          let text : spell old.0 ≡ (p ++ taken_by rule b) ++ spell_all f =
          old.2 ∙ ap (λ u. p ++ u) (append_assoc (taken_by rule b) (spell_all parts.front) (spell_all parts.back)) ∙ sym (append_assoc p (taken_by rule b) (spell_all parts.front ++ spell_all parts.back)) ∙ ap (λ u. (p ++ taken_by rule b) ++ u) (sym spelled) in
          let made = ap (λ h. finished (entries_of (symbols_of rule) ++ Close (length rows) ∷ es) h (length (p ++ taken_by rule b)) (rows ++ open_row rule (symbols_left es) (length p) to end ∷ [])) parts.is
          ∙ same_finished (entries_of (symbols_of rule) ++ Close (length rows) ∷ es) _ _ _ _ _ (length-append p (taken_by rule b)) refl
          ∙ rule_rows g rule (taken_by rule b) es parts.front parts.back (length p) to end rows parts.fronts in
          let counted = ap (λ h. n + beginning (symbols_of rule) + steps_left (entries_of (symbols_of rule) ++ Close (length rows) ∷ es) h) parts.is
          ∙ rule_steps g rule (taken_by rule b) (symbols_of rule) es (length rows) n parts.front parts.back parts.fronts in
          (old.0, old.1, text, made ∙ old.3, counted ∙ old.4));
      complete = λ w agrees whole. (
          let begun = begins_so rule b q w ended agrees begins in
          let old = r.complete (taken_by rule b ++ w) (agrees_behind ended (taken_by rule b) q w agrees) (subst (λ v. IsWellShaped g v) (append_assoc p (taken_by rule b) w) whole) in
          let rest = rule_continues g lawful k (symbols_in es) old.0 rule b begun.0 w r.known r.followed found old.1 old.2 begun.1 in
          subst (λ xs. Spell g xs w) path rest);
    }

-- all is read
pub read_whole : (g : Table) (n : ℕ) (ended : Bool) (p : List ℕ) (q : List ℕ) (rows : List Row) → IsReading g n ended p q [] rows → IsCompleted g p [] rows n
read_whole g n ended p q rows r = recounted g p [] rows _ _ (omega arith) (r.sound nothing tt)
