-- The moves of a reader that goes from left to right, in any language: a rule opens, its next part is expected, and it closes.
use Rattle.std.proofs.Common.{◌≡◌, ℕ, ◌+◌, List, [], ◌∷◌, ◌++◌, length, drop, true, Ok, refl, ap, sym, subst, ◌∙◌, arith, append_assoc}
use Rattle.std.proofs.lemmas.List.{length-append, drop-drop}
use Rattle.std.proofs.Math.Seq.{drop-append_seam}
use Rattle.sym_shape.specs.declared.rule.Rule.{Rule}
use Rattle.sym_shape.specs.declared.rule.Sym.{Sym}
use Rattle.sym_shape.specs.declared.rule.Sym.TheVariants.{Kind, Byte}
use Rattle.sym_shape.specs.Table.{Token, symbols_of, bytes_of}
use Rattle.sym_shape.specs.Tree.{Forest, branch, empty, token, fixed, nothing, grown, IsTree, AreTrees, TakesRule, spell_all}
use Rattle.sym_link.specs.Reading.{Open, Next}
use Rattle.sym_link.specs.Unfold.{found, standing}
use Rattle.sym_direct.specs.Holes.{Language, Opened, opened, Reads, ReadsRest, StandsAt, Comes, Needs, Expects}

-- ## Bytes at a place

drop-more : (at : ℕ) (s a rest : List ℕ) → drop at s ≡ a ++ rest → drop (at + length a) s ≡ rest
drop-more at s a rest e = sym (drop-drop (length a) at s) ∙ ap (λ l. drop (length a) l) e ∙ drop-append_seam a rest

-- two pieces at a place, one after the other, are one piece there
pub stands-join : (s : List ℕ) (at : ℕ) (a b : List ℕ) → StandsAt s at a → StandsAt s (at + length a) b → StandsAt s at (a ++ b)
stands-join s at a b first second =
    (second.0, first.1 ∙ ap (λ l. a ++ l) (sym (drop-more at s a first.0 first.1) ∙ second.1) ∙ sym (append_assoc a b second.0))

-- one piece at a place is two pieces there, one after the other
pub stands-split : (s : List ℕ) (at : ℕ) (a b : List ℕ) → StandsAt s at (a ++ b) → StandsAt s at a × StandsAt s (at + length a) b
stands-split s at a b whole =
    let e = whole.1 ∙ append_assoc a b whole.0 in
    ((b ++ whole.0, e), (whole.0, drop-more at s a (b ++ whole.0) e))

-- an empty piece is at each place
pub stands-none : (s : List ℕ) (at : ℕ) → StandsAt s at []
stands-none s at = (drop at s, refl)

pub comes-moved : {V S C : Type 0} (l : Language V S C) (s : List ℕ) (os : List (Opened V S C)) (vs : List V) (at to : ℕ) (st : S) → at ≡ to
    → Comes l s os vs at st → Comes l s os vs to st
comes-moved l s os vs at to st same = subst (λ k. Comes l s os vs k st) same

-- ## Rules

-- a rule is read once its parts are
unfoldable pub reads-rule : {V S C : Type 0} (l : Language V S C) (s : List ℕ) (kind : ℕ) (rule : Rule) (taken : List ℕ) (context : C) (at : ℕ)
    (st begun inner after : S) (bytes : List ℕ) (vs : List V) (w : V)
    → TakesRule l.table kind rule taken
    → (rest : ReadsRest l s (standing rule taken at context st) [] (symbols_of rule) (at + length taken) bytes begun vs inner)
    → (l.reading s).begin (standing rule taken at context st) rest.forest ≡ Ok begun
    → (l.reading s).close (standing rule taken at context st) vs inner ≡ Ok (found w after)
    → Reads l s (Kind kind) context at (taken ++ bytes) st (w ∷ []) after
reads-rule l s kind rule taken context at st begun inner after bytes vs w takes rest begins closes = record {
  shape = branch rule taken rest.forest;
  shaped = (takes, rest.shaped);
  spelled = ap (λ b. taken ++ b) rest.spelled;
  unfolds = rw (begins, rest.unfolds, closes) refl;
}

-- a kind takes a rule, which is then open, if the rule begins in the same way with any parts at this place
pub opens-where : {V S C : Type 0} (l : Language V S C) (s : List ℕ) (kind : ℕ) (rule : Rule) (taken : List ℕ) (context : C)
    (os : List (Opened V S C)) (at : ℕ) (st begun : S)
    → TakesRule l.table kind rule taken
    → ((f : Forest) → AreTrees l.table (symbols_of rule) f → StandsAt s (at + length taken) (spell_all f)
    → (l.reading s).begin (standing rule taken at context st) f ≡ Ok begun)
    → Expects l s (Kind kind) context os at st → StandsAt s at taken
    → Needs l s os (standing rule taken at context st) [] (symbols_of rule) (at + length taken) begun
opens-where l s kind rule taken context os at st begun takes begins expects stands bytes vs inner w after rest there closes =
    comes-moved l s os (w ∷ []) (at + length (taken ++ bytes)) (at + length taken + length bytes) after
    (omega (arith, length-append taken bytes))
    (expects (taken ++ bytes) (w ∷ []) after
    (reads-rule l s kind rule taken context at st begun inner after bytes vs w takes rest
    (begins rest.forest rest.shaped (subst (λ b. StandsAt s (at + length taken) b) (sym rest.spelled) there)) closes)
    (stands-join s at taken bytes stands there))

-- a kind takes a rule, which is then open
pub opens : {V S C : Type 0} (l : Language V S C) (s : List ℕ) (kind : ℕ) (rule : Rule) (taken : List ℕ) (context : C)
    (os : List (Opened V S C)) (at : ℕ) (st begun : S)
    → TakesRule l.table kind rule taken
    → ((f : Forest) → (l.reading s).begin (standing rule taken at context st) f ≡ Ok begun)
    → Expects l s (Kind kind) context os at st → StandsAt s at taken
    → Needs l s os (standing rule taken at context st) [] (symbols_of rule) (at + length taken) begun
opens l s kind rule taken context os at st begun takes begins expects stands =
    opens-where l s kind rule taken context os at st begun takes (λ f shaped there. begins f) expects stands

-- a part is read, and then those after it
unfoldable pub joins : {V S C : Type 0} (l : Language V S C) (s : List ℕ) (rule : Open S C) (known : List V) (x : Sym) (todo : List Sym) (at : ℕ) (st : S)
    (next : Next V S C) (after inner : S) (v : List V) (first more : List ℕ) (vs : List V)
    → (l.reading s).between rule known st ≡ Ok next
    → Reads l s x next.context at first next.state v after
    → ReadsRest l s rule (next.values ++ v) todo (at + length first) more after vs inner
    → ReadsRest l s rule known (x ∷ todo) at (first ++ more) st vs inner
joins l s rule known x todo at st next after inner v first more vs goes one rest = record {
  forest = grown one.shape rest.forest;
  shaped = (one.shaped, rest.shaped);
  spelled = rw (one.spelled, rest.spelled) refl;
  unfolds = rw (goes, one.unfolds, one.spelled) rest.unfolds;
}

-- the next part of a rule is expected
pub needs-next : {V S C : Type 0} (l : Language V S C) (s : List ℕ) (rule : Open S C) (known : List V) (x : Sym) (todo : List Sym)
    (os : List (Opened V S C)) (at : ℕ) (st : S) (next : Next V S C)
    → (l.reading s).between rule known st ≡ Ok next
    → Needs l s os rule known (x ∷ todo) at st
    → Expects l s x next.context (opened rule next.values todo ∷ os) at next.state
needs-next l s rule known x todo os at st next goes needs first v middle one here more vs inner w after rest there closes =
    comes-moved l s os (w ∷ []) (at + length (first ++ more)) (at + length first + length more) after
    (omega (arith, length-append first more))
    (needs (first ++ more) vs inner w after
    (joins l s rule known x todo at st next middle inner v first more vs goes one rest)
    (stands-join s at first more here there) closes)

-- a rule has no part left
unfoldable pub none-left : {V S C : Type 0} (l : Language V S C) (s : List ℕ) (rule : Open S C) (known : List V) (at : ℕ) (st : S)
    → ReadsRest l s rule known [] at [] st known st
none-left l s rule known at st = record { forest = nothing; shaped = tt; spelled = refl; unfolds = refl }

-- a rule whose parts are all known closes
pub ends : {V S C : Type 0} (l : Language V S C) (s : List ℕ) (rule : Open S C) (known : List V) (os : List (Opened V S C)) (at : ℕ) (st : S)
    (w : V) (after : S)
    → Needs l s os rule known [] at st → (l.reading s).close rule known st ≡ Ok (found w after) → Comes l s os (w ∷ []) at after
ends l s rule known os at st w after needs closes =
    comes-moved l s os (w ∷ []) (at + 0) at after (omega arith)
    (needs [] known st w after (none-left l s rule known at st) (stands-none s at) closes)

-- ## Parts without a row, and tokens

-- a kind that may be empty denotes nothing
pub expects-empty : {V S C : Type 0} (l : Language V S C) (s : List ℕ) (kind : ℕ) (context : C) (os : List (Opened V S C)) (at : ℕ) (st : S)
    → Expects l s (Kind kind) context os at st → l.table.may_be_empty kind ≡ true → Comes l s os (l.reading s).rowless at st
expects-empty l s kind context os at st expects may =
    comes-moved l s os (l.reading s).rowless (at + 0) at st (omega arith)
    (expects [] (l.reading s).rowless st (record { shape = empty; shaped = may; spelled = refl; unfolds = refl }) (stands-none s at))

-- a fixed byte of the rule
pub expects-byte : {V S C : Type 0} (l : Language V S C) (s : List ℕ) (b : ℕ) (context : C) (os : List (Opened V S C)) (at : ℕ) (st : S)
    → Expects l s (Byte b) context os at st → StandsAt s at (b ∷ []) → Comes l s os (l.reading s).rowless (at + 1) st
expects-byte l s b context os at st expects stands =
    expects (b ∷ []) (l.reading s).rowless st (record { shape = fixed b; shaped = refl; spelled = refl; unfolds = refl }) stands

-- a token
pub expects-token : {V S C : Type 0} (l : Language V S C) (s : List ℕ) (x : Sym) (context : C) (os : List (Opened V S C)) (at : ℕ) (st : S)
    (t : Token) (v : V) (after : S)
    → Expects l s x context os at st → IsTree l.table x (token t) → (l.reading s).token at t st ≡ Ok (found v after)
    → StandsAt s at (bytes_of t) → Comes l s os (v ∷ []) (at + length (bytes_of t)) after
expects-token l s x context os at st t v after expects is means stands =
    expects (bytes_of t) (v ∷ []) after (record { shape = token t; shaped = is; spelled = refl; unfolds = rw means refl }) stands

-- ## Moves of a rule

-- the first part of a rule is expected
pub first-of : {V S C : Type 0} (l : Language V S C) (s : List ℕ) (kind : ℕ) (rule : Rule) (taken : List ℕ) (context : C)
    (os : List (Opened V S C)) (at : ℕ) (st begun : S) (x : Sym) (todo : List Sym) (next : Next V S C)
    → TakesRule l.table kind rule taken
    → ((f : Forest) → (l.reading s).begin (standing rule taken at context st) f ≡ Ok begun) → symbols_of rule ≡ x ∷ todo
    → (l.reading s).between (standing rule taken at context st) [] begun ≡ Ok next
    → Expects l s (Kind kind) context os at st → StandsAt s at taken
    → Expects l s x next.context (opened (standing rule taken at context st) next.values todo ∷ os) (at + length taken) next.state
first-of l s kind rule taken context os at st begun x todo next takes begins parts goes expects stands =
    needs-next l s (standing rule taken at context st) [] x todo os (at + length taken) begun next goes
    (subst (λ xs. Needs l s os (standing rule taken at context st) [] xs (at + length taken) begun) parts
    (opens l s kind rule taken context os at st begun takes begins expects stands))

-- a part was read, and the next one is expected
pub next-of : {V S C : Type 0} (l : Language V S C) (s : List ℕ) (rule : Open S C) (known : List V) (v : List V) (x : Sym) (todo : List Sym)
    (os : List (Opened V S C)) (at : ℕ) (st : S) (next : Next V S C)
    → (l.reading s).between rule (known ++ v) st ≡ Ok next
    → Comes l s (opened rule known (x ∷ todo) ∷ os) v at st
    → Expects l s x next.context (opened rule next.values todo ∷ os) at next.state
next-of l s rule known v x todo os at st next goes comes = needs-next l s rule (known ++ v) x todo os at st next goes comes

-- the last part was read, and the rule closes
pub last-of : {V S C : Type 0} (l : Language V S C) (s : List ℕ) (rule : Open S C) (known : List V) (v : List V) (os : List (Opened V S C))
    (at : ℕ) (st : S) (w : V) (after : S)
    → (l.reading s).close rule (known ++ v) st ≡ Ok (found w after)
    → Comes l s (opened rule known [] ∷ os) v at st → Comes l s os (w ∷ []) at after
last-of l s rule known v os at st w after closes comes = ends l s rule (known ++ v) os at st w after comes closes

-- a rule without parts
pub letter-comes : {V S C : Type 0} (l : Language V S C) (s : List ℕ) (kind : ℕ) (rule : Rule) (taken : List ℕ) (context : C)
    (os : List (Opened V S C)) (at : ℕ) (st begun : S) (w : V) (after : S)
    → TakesRule l.table kind rule taken
    → ((f : Forest) → (l.reading s).begin (standing rule taken at context st) f ≡ Ok begun) → symbols_of rule ≡ []
    → (l.reading s).close (standing rule taken at context st) [] begun ≡ Ok (found w after)
    → Expects l s (Kind kind) context os at st → StandsAt s at taken → Comes l s os (w ∷ []) (at + length taken) after
letter-comes l s kind rule taken context os at st begun w after takes begins parts closes expects stands =
    ends l s (standing rule taken at context st) [] os (at + length taken) begun w after
    (subst (λ xs. Needs l s os (standing rule taken at context st) [] xs (at + length taken) begun) parts
    (opens l s kind rule taken context os at st begun takes begins expects stands))
    closes
