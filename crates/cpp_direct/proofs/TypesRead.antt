-- A writer reads a type, or the first bytes of one.
use Rattle.cpp_direct.proofs.AllGround.{◌≡◌, ◌≢◌, inl, inr, ℕ, ◌+◌, ◌-◌, ◌≤◌, List, [], ◌∷◌, ◌++◌, length, take, drop, reverse, slice_get, Bool, true, false, Some, codes, refl, ap, sym, subst, ◌∙◌, arith, append_assoc, append-nil, if◌then◌else◌, length-append, reverse-append, reverse-reverse, take-append_seam, ◌==◌, false≢true, abbreviation, abbreviation_texts, after, alone, among, Around, builtin, builtin_texts, counted_value, in_std, inside, Kind, look_up, lvalue, may_be_empty, Naming, no_items, pointer, rvalue, same_bytes, source, source_text, State, Term, tree, abbreviation_letters, added, added_unless, AwaitsMark, AwaitsNamedType, AwaitsNest, AwaitsType, below, builtin_letters, builtin_letters_with_d, Candidate, detail_of, Direct, is_abbreviated, is_builtin, is_builtin_with_d, IsBuiltinAt, IsNamedAgain, IsScoped, IsTypeNamed, IsWriting, Kept, Lists, Marks, Open, OpensArguments, OpensEntry, Prints, PrintsAs, Reads, Stands, Symbol, Writes, Comes, Expects, IsNameAt, IsQualifiable, IsReferable, IsSeqAt, Opened, StandsAt, TypeNamed, TypeOpens, reference_letter, unless_listed, with_candidate, NumberKind, Purpose, Step, name-unmarked, scoped-inside, candidate-found, kept-grown, kept-same, piece-found, reverse-last, type-comes, value-added, value-comes, list-begins, kept-unless, awaited-in, expects-empty, stands-join, arguments-open, solid-opens, builtin-comes, builtin-with-d-comes, pointer-opens, reference-type-opens, const-opens, source-opens, std-opens, abbreviation-opens, substitution-opens, substituted-so, nested-type-opens, source-prints, std-prints, abbreviation-prints, builtin-prints, builtin-with-d-prints, no-module}
use Rattle.cpp_direct.proofs.LettersTested.{code-listed, codes_pass, each_passes, tested, is_filled, filled}

-- ## What calls give

-- the byte that was compared is at its place
pub there : (s : List ℕ) (at b d : ℕ) → b ≡ d → 1 ≤ d → (b ≢ 0 → StandsAt s at (b ∷ [])) → StandsAt s at (d ∷ [])
there s at b d is some stands = subst (λ k. StandsAt s at (k ∷ [])) is (stands (λ z. omega (arith, is, some, z)))

-- one more byte is at its place, after the bytes before it
pub then-there : (s front : List ℕ) (at next b d : ℕ) → StandsAt s at front → next ≡ at + length front → b ≡ d → 1 ≤ d
    → (b ≢ 0 → StandsAt s next (b ∷ [])) → StandsAt s at (front ++ d ∷ [])
then-there s front at next b d first next_is is some stands =
    stands-join s at front (d ∷ []) first (subst (λ k. StandsAt s k (d ∷ [])) next_is (there s next b d is some stands))

-- a text that isn't empty
pub some-text : (text same : List ℕ) → text ≡ same → false ≡ (length text == 0) → same ≢ []
some-text text same is filled none = cc (filled ∙ ap (λ l. length l == 0) (is ∙ none))

-- the open entries without the last
pub popped : (xs ys rest : List Open) (x : Open) (n : ℕ) → n ≡ length xs → reverse xs ≡ x ∷ rest → ys ≡ take (n - 1) xs → reverse ys ≡ rest
popped xs ys rest x n size e is =
    let whole : xs ≡ reverse rest ++ x ∷ [] = sym (reverse-reverse xs) ∙ ap reverse e ∙ reverse-append (x ∷ []) rest in
    let less : n - 1 ≡ length (reverse rest) = omega (arith, size, ap length whole, length-append (reverse rest) (x ∷ [])) in
    ap reverse (is ∙ ap (λ m. take m xs) less ∙ ap (λ l. take (length (reverse rest)) l) whole ∙ take-append_seam (reverse rest) (x ∷ []))
    ∙ reverse-reverse rest

-- ## Marks

-- a type ends with its mark
pub mark-answer : (s : Symbol) (old mid new : Direct) (mark : List ℕ) (from : ℕ) (r d : Bool) (a : AwaitsMark s old mark from r d)
    → reverse mid.waiting.list.items ≡ a.rest → mid.text.list.items ≡ old.text.list.items ++ mark → mid.candidates ≡ old.candidates
    → mid.has_scope ≡ old.has_scope → mid.at ≡ old.at → Lists mid new (added mid from r d) → IsWriting s new (Step.Value r d)
mark-answer s old mid new mark from r d a waits text candidates scope at lists =
    let marked : mid.text.list.items ≡ a.front ++ (a.bytes ++ mark) = text ∙ ap (λ l. l ++ mark) a.written ∙ append_assoc a.front a.bytes mark in
    let open_is : reverse new.waiting.list.items ≡ a.rest = ap (λ v. reverse v.list.items) lists.waiting ∙ waits in
    value-added s mid new (kept-grown s old mid mark text candidates scope a.kept) a.outer a.made_in a.made a.front (a.bytes ++ mark) from r d
    marked a.from_is a.prints a.made_here lists.text lists.candidates lists.scope open_is a.naming
    (subst (λ k. Comes s a.outer (tree a.made true) k (with_candidate a.made_in a.made a.state)) (sym (lists.at ∙ at)) a.comes) a.stands

-- ## Names of types

-- the name of a type became a candidate, unless it was one already
abbrev named-kept : (s : Symbol) (old new : Direct) (from : ℕ) (listed r : Bool) (a : IsTypeNamed s old from listed r)
    → Lists old new (added_unless old listed from false) → Kept s new
named-kept s old new from listed r a lists =
    kept-unless s old new a.kept listed a.front a.bytes from a.own a.around false a.written a.from_is
    (λ e. subst (λ b. Prints (detail_of s) a.own a.bytes b) (a.no_reference e) a.prints) (λ e. absurd (false≢true e)) lists.text lists.candidates lists.scope

-- nothing follows the name of a type
pub bare-done : (s : Symbol) (old new : Direct) (from : ℕ) (listed r : Bool) → IsTypeNamed s old from listed r
    → Lists old new (added_unless old listed from false) → IsWriting s new (Step.Value r false)
unfolding may_be_empty
bare-done s old new from listed r a lists =
    let state : State = unless_listed listed a.around a.own a.state in
    value-comes s new (named-kept s old new from listed r a lists) a.outer a.own a.front a.bytes r false
    (ap (λ v. v.list.items) lists.text ∙ a.written) a.prints (ap (λ v. reverse v.list.items) lists.waiting) (λ e. cc e)
    (subst (λ k. Comes s a.outer (tree a.own true) k state) (sym lists.at) (a.named.bare old.at a.state a.prints.no_function
    (expects-empty s Kind.ArgumentsAlone (after a.own listed a.around) a.named.inner old.at a.state a.named.awaits refl))) a.stands

-- arguments follow the name of a type
pub argued-done : (s : Symbol) (old mid new : Direct) (from : ℕ) (listed r : Bool) → IsTypeNamed s old from listed r → r ≡ false → StandsAt s.bytes mid.at (73 ∷ [])
    → Lists old mid (added_unless old listed from false) → OpensArguments (detail_of s) mid new (Open.TypeArguments from false) → IsWriting s new (Step.List true)
unfolding inside
argued-done s old mid new from listed r named none stands lists opening_ =
    let a = subst (λ b. IsTypeNamed s old from listed b) none named in
    let o = arguments-open s a.named.inner a.around a.own listed old.at a.state a.named.awaits (subst (λ n. StandsAt s.bytes n (73 ∷ [])) lists.at stands) in
    list-begins s old mid new (added_unless old listed from false) (named-kept s old mid from listed false a lists)
    (Open.TypeArguments from false) a.front a.bytes a.own lists opening_ (a.from_is, a.prints) a.written (
      inside a.around,
      o.inner,
      refl,
      (λ within. scoped-inside a.scope a.around (reverse old.waiting.list.items) a.scoped),
      o.awaits,
      (λ l here now comes ended. (
        a.outer,
        a.around,
        a.named.argued (no_items l) (here + 1) now (o.onward l here now comes ended),
        a.scoped,
        λ e. cc e,
        a.stands,
      )),
    )

-- ## Letters of tables

unfoldable pub code_in : List ℕ → List ℕ → Bool
code_in (c ∷ []) cs = among cs c
code_in _ cs = true

pub letter-listed : (table : List Naming) (cs : List ℕ) (letter : ℕ) → codes_pass (λ code. code_in code cs) table ≡ true → look_up (letter ∷ []) table ≢ []
    → among cs letter ≡ true
unfolding code_in
letter-listed table cs letter all has = code-listed table (λ code. code_in code cs) (letter ∷ []) all has

-- a letter with the text of a builtin type is the letter of one
pub builtin-listed : (letter : ℕ) → look_up (letter ∷ []) builtin_texts ≢ [] → is_builtin letter ≡ true
unfolding is_builtin builtin_texts code_in codes_pass among
builtin-listed letter has = letter-listed builtin_texts builtin_letters letter refl has

-- a letter of a builtin type that comes after a D has a text
builtin-with-d-text : (letter : ℕ) → is_builtin_with_d letter ≡ true → look_up (68 ∷ letter ∷ []) builtin_texts ≢ []
unfolding is_builtin_with_d builtin_texts look_up same_bytes each_passes is_filled
builtin-with-d-text letter is =
    filled (look_up (68 ∷ letter ∷ []) builtin_texts) (tested builtin_letters_with_d (λ b. is_filled (look_up (68 ∷ b ∷ []) builtin_texts)) refl letter is)

-- a letter with the text of an abbreviation is the letter of one
pub abbreviation-listed : (letter : ℕ) → look_up (letter ∷ []) abbreviation_texts ≢ [] → is_abbreviated letter ≡ true
unfolding is_abbreviated abbreviation_texts code_in codes_pass among
abbreviation-listed letter has = letter-listed abbreviation_texts abbreviation_letters letter refl has

pub no-builtin : (letter : ℕ) → is_builtin letter ≡ true → letter ≢ 0
unfolding is_builtin among
no-builtin letter is none = let clash : false ≡ true = subst (λ l. is_builtin l ≡ true) none is in cc clash

no-abbreviation : (letter : ℕ) → is_abbreviated letter ≡ true → letter ≢ 0
unfolding is_abbreviated among
no-abbreviation letter is none = let clash : false ≡ true = subst (λ l. is_abbreviated l ≡ true) none is in cc clash

-- ## Types

-- where a type is expected, it may have a qualifier
pub whole-awaited : (s : Symbol) (w : Direct) → IsWriting s w Step.Type → (a : AwaitsType s w) × IsQualifiable a.kind
whole-awaited s w p = elim p.is_before.1 [
  | inl awaits ↦ (record { kept = p.kept; awaited = p.is_before.0; kind = Kind.Type; typed = tt; referable = inl tt; awaits = awaits }, tt)
  | inr (inl awaits) ↦ (record { kept = p.kept; awaited = p.is_before.0; kind = Kind.Item; typed = tt; referable = inl tt; awaits = awaits }, tt)
  | inr (inr awaits) ↦ (record { kept = p.kept; awaited = p.is_before.0; kind = Kind.ItemButRef; typed = tt; referable = inr awaits.1; awaits = awaits.0 }, tt)
]

-- at a step that takes a type, whole or plain, a type is expected
pub awaits-type : (s : Symbol) (w : Direct) (is_plain : Bool) → IsWriting s w (if is_plain then Step.Plain else Step.Type) → AwaitsType s w
awaits-type s w true p = record { kept = p.kept; awaited = p.is_before.0; kind = Kind.Plain; typed = tt; referable = inl tt; awaits = p.is_before.1 }
awaits-type s w false p = (whole-awaited s w p).0

-- a type that is no candidate is read
value-done : (s : Symbol) (old new : Direct) (a : AwaitsType s old) (t : Term) (bytes : List ℕ) → Prints (detail_of s) t bytes false
    → new.text.list.items ≡ old.text.list.items ++ bytes → new.candidates ≡ old.candidates → new.waiting ≡ old.waiting → new.has_scope ≡ old.has_scope
    → Comes s a.os (tree t true) new.at a.state → IsWriting s new (Step.Value false false)
value-done s old new a t bytes prints text candidates waits scope comes =
    value-comes s new (kept-grown s old new bytes text candidates scope a.kept) a.os t old.text.list.items bytes false false text prints
    (ap (λ v. reverse v.list.items) waits) (λ e. cc e) comes a.stands

-- a builtin type is read
pub builtin-done : (s : Symbol) (old new : Direct) (letter : ℕ) → AwaitsType s old → (letter ≢ 0 → StandsAt s.bytes old.at (letter ∷ []))
    → look_up (letter ∷ []) builtin_texts ≢ [] → new.text.list.items ≡ old.text.list.items ++ look_up (letter ∷ []) builtin_texts
    → new.candidates ≡ old.candidates → new.waiting ≡ old.waiting → new.has_scope ≡ old.has_scope → new.at ≡ old.at + 1
    → IsWriting s new (Step.Value false false)
builtin-done s old new letter a stands has text candidates waits scope at =
    let is = builtin-listed letter has in
    let bytes : List ℕ = look_up (letter ∷ []) builtin_texts in
    value-done s old new a (builtin (letter ∷ [])) bytes (builtin-prints letter has) text candidates waits scope
    (subst (λ k. Comes s a.os (tree (builtin (letter ∷ [])) true) k a.state) (sym at)
    (builtin-comes s a.kind a.around a.os old.at a.state letter a.typed is a.awaits (stands (no-builtin letter is))))

pub no-builtin-with-d : (letter : ℕ) → is_builtin_with_d letter ≡ true → letter ≢ 0
unfolding is_builtin_with_d among
no-builtin-with-d letter is none = let clash : false ≡ true = subst (λ l. is_builtin_with_d l ≡ true) none is in cc clash

-- a builtin type with a code of two letters is read
pub builtin-with-d-done : (s : Symbol) (old new : Direct) (letter : ℕ) → AwaitsType s old → StandsAt s.bytes old.at (68 ∷ [])
    → (letter ≢ 0 → StandsAt s.bytes (old.at + 1) (letter ∷ []))
    → is_builtin_with_d letter ≡ true → new.text.list.items ≡ old.text.list.items ++ look_up (68 ∷ letter ∷ []) builtin_texts
    → new.candidates ≡ old.candidates → new.waiting ≡ old.waiting → new.has_scope ≡ old.has_scope → new.at ≡ old.at + 1 + 1
    → IsWriting s new (Step.Value false false)
builtin-with-d-done s old new letter a first stands is text candidates waits scope at =
    let bytes : List ℕ = look_up (68 ∷ letter ∷ []) builtin_texts in
    value-done s old new a (builtin (68 ∷ letter ∷ [])) bytes (builtin-with-d-prints letter (builtin-with-d-text letter is)) text candidates waits scope
    (subst (λ k. Comes s a.os (tree (builtin (68 ∷ letter ∷ [])) true) k a.state) (omega (arith, at))
    (builtin-with-d-comes s a.kind a.around a.os old.at a.state letter a.typed is a.awaits
    (stands-join s.bytes old.at (68 ∷ []) (letter ∷ []) first (stands (no-builtin-with-d letter is)))))

-- a builtin type is an item of a list
pub builtin-item : (s : Symbol) (around : Around) (os : List Opened) (at end : ℕ) (st : State) → IsBuiltinAt s.bytes at end → Expects s Kind.Item around os at st
    → (r : Term) × Comes s os (tree r true) end st
builtin-item s around os at end st is expects = elim is.1 [
  | inl one ↦
      let listed = builtin-listed is.0 one.0 in
      let r = builtin (is.0 ∷ []) in
      (r, subst (λ k. Comes s os (tree r true) k st) (sym one.2) (builtin-comes s Kind.Item around os at st is.0 tt listed expects (one.1 (no-builtin is.0 listed))))
  | inr two ↦
      let r = builtin (68 ∷ is.0 ∷ []) in
      (r, subst (λ k. Comes s os (tree r true) k st) (sym two.2) (builtin-with-d-comes s Kind.Item around os at st is.0 tt two.0 expects two.1))
]

-- ## Names

-- where a type is expected, it may be a name
pub names-awaited : (s : Symbol) (w : Direct) → AwaitsType s w → AwaitsNamedType s w
names-awaited s w a = record {
  kept = a.kept;
  awaited = a.awaited;
  kind = Kind.Solid;
  is_named = tt;
  begins = solid-opens s a.kind a.around a.os w.at a.state a.typed a.awaits;
}

-- a name was read where one was expected
named-from : (s : Symbol) (old new : Direct) (from : ℕ) (listed r : Bool) (a : AwaitsNamedType s old) (own : Term) (bytes : List ℕ)
    → TypeNamed s a.os a.around own listed new.at a.state → new.candidates ≡ old.candidates → new.has_scope ≡ old.has_scope
    → new.text.list.items ≡ old.text.list.items ++ bytes → from ≡ length old.text.list.items → Prints (detail_of s) own bytes r
    → (listed ≡ false → r ≡ false) → new.waiting ≡ old.waiting → IsTypeNamed s new from listed r
named-from s old new from listed r a own bytes named candidates scope written from_is prints no_reference waits = record {
  kept = kept-grown s old new bytes written candidates scope a.kept;
  around = a.around;
  outside = a.outside;
  outer = a.os;
  own = own;
  named = named;
  front = old.text.list.items;
  bytes = bytes;
  written = written;
  from_is = from_is;
  prints = prints;
  no_reference = no_reference;
  stands = subst (λ v. Stands s a.scope (reverse v.list.items) a.os old.text.list.items) (sym waits) a.stands;
  scoped = subst (λ v. IsScoped a.scope a.around (reverse v.list.items)) (sym waits) a.scoped;
}

-- a name with its length is read
pub source-named : (s : Symbol) (old new : Direct) (from : ℕ) (name : List ℕ) → AwaitsNamedType s old → IsNameAt s.bytes old.at name new.at → name ≢ []
    → Reads old new (source_text name) → from ≡ length old.text.list.items → IsTypeNamed s new from false false
source-named s old new from name a is some reads begins =
    named-from s old new from false false a (alone (source false name)) (source_text name)
    (source-opens s a.kind a.around a.os old.at a.state name new.at a.is_named a.outside a.begins is)
    reads.candidates reads.scope reads.text begins (source-prints false name some (name-unmarked s.bytes old.at name new.at is)) (λ e. refl) reads.waiting

-- a name in std is read
pub std-named : (s : Symbol) (old mid new : Direct) (from : ℕ) (name : List ℕ) → AwaitsNamedType s old → StandsAt s.bytes old.at (83 ∷ [])
    → StandsAt s.bytes (old.at + 1) (116 ∷ [])
    → mid.text.list.items ≡ old.text.list.items ++ codes "std::" → mid.candidates ≡ old.candidates → mid.waiting ≡ old.waiting
    → mid.has_scope ≡ old.has_scope → mid.at ≡ old.at + 1 + 1
    → IsNameAt s.bytes mid.at name new.at → name ≢ [] → Reads mid new (source_text name) → from ≡ length old.text.list.items → IsTypeNamed s new from false false
std-named s old mid new from name a s_stands t_stands text candidates waits scope at is some reads begins =
    named-from s old new from false false a (in_std (source false name)) (codes "std::" ++ source_text name)
    (std-opens s a.kind a.around a.os old.at a.state name new.at a.is_named a.begins (stands-join s.bytes old.at (83 ∷ []) (116 ∷ []) s_stands t_stands)
    (subst (λ k. IsNameAt s.bytes k name new.at) (omega (arith, at)) is)) (reads.candidates ∙ candidates) (reads.scope ∙ scope)
    (reads.text ∙ ap (λ l. l ++ source_text name) text ∙ append_assoc old.text.list.items (codes "std::") (source_text name))
    begins (std-prints false name some (name-unmarked s.bytes mid.at name new.at is)) (λ e. refl) (reads.waiting ∙ waits)

-- an abbreviation is read
pub abbreviation-named : (s : Symbol) (old new : Direct) (from letter : ℕ) → AwaitsNamedType s old → StandsAt s.bytes old.at (83 ∷ [])
    → (letter ≢ 0 → StandsAt s.bytes (old.at + 1) (letter ∷ [])) → look_up (letter ∷ []) abbreviation_texts ≢ []
    → new.text.list.items ≡ old.text.list.items ++ look_up (letter ∷ []) abbreviation_texts → new.candidates ≡ old.candidates → new.waiting ≡ old.waiting
    → new.has_scope ≡ old.has_scope → new.at ≡ old.at + 1 + 1 → from ≡ length old.text.list.items → IsTypeNamed s new from true false
abbreviation-named s old new from letter a s_stands stands has text candidates waits scope at begins =
    let is = abbreviation-listed letter has in
    let bytes : List ℕ = look_up (letter ∷ []) abbreviation_texts in
    named-from s old new from true false a (abbreviation letter) bytes
    (subst (λ k. TypeNamed s a.os a.around (abbreviation letter) true k a.state) (omega (arith, at))
    (abbreviation-opens s a.kind a.around a.os old.at a.state letter a.is_named is a.begins
    (stands-join s.bytes old.at (83 ∷ []) (letter ∷ []) s_stands (stands (no-abbreviation letter is)))))
    candidates scope text begins (abbreviation-prints letter has) (λ e. refl) waits

-- a substitution is read
pub substitution-named : (s : Symbol) (old mid new : Direct) (n from : ℕ) (digits : List ℕ) (k : Candidate) → AwaitsNamedType s old → StandsAt s.bytes old.at (83 ∷ [])
    → IsSeqAt s.bytes (old.at + 1) digits mid.at → k.from ≤ k.to → slice_get old.candidates.list.items (counted_value NumberKind.Seq36 digits) ≡ Some k
    → Reads (record old { at = n }) mid [] → Writes mid new (take (k.to - k.from) (drop k.from mid.text.list.items)) → from ≡ length old.text.list.items
    → k.is_dependent ≡ false → IsTypeNamed s new from true k.is_reference
substitution-named s old mid new n from digits k a stands is ordered found reads writes begins plain =
    let text = old.text.list.items in
    let c = candidate-found text old.candidates.list.items a.state.candidates (counted_value NumberKind.Seq36 digits) k a.keeps.candidates ordered found in
    let piece = piece-found text c.2.bytes k.from k.to c.2.placed in
    let written : new.text.list.items ≡ text ++ c.2.bytes =
    writes.text ∙ ap (λ l. l ++ take (k.to - k.from) (drop k.from l)) (reads.text ∙ append-nil text) ∙ ap (λ l. text ++ l) piece.2 in
    let prints = subst (λ b. PrintsAs (detail_of s) a.scope.names b c.0.tree c.2.bytes k.is_reference) plain c.2.prints in
    named-from s old new from true k.is_reference a c.0.tree c.2.bytes
    (substitution-opens s a.kind a.around a.os old.at a.state digits new.at c.0 a.is_named c.1
    (λ place. substituted-so s.is_wide a.around place c.0 a.state (no-module c.0.tree prints.as_prefix) prints.is_closed prints.packless) a.begins stands
    (subst (λ n. IsSeqAt s.bytes (old.at + 1) digits n) (sym writes.at) is))
    (writes.candidates ∙ reads.candidates) (writes.scope ∙ reads.scope) written begins prints (λ e. cc e) (writes.waiting ∙ reads.waiting)

-- a substitution is read for a type that names an argument
pub named-again : (s : Symbol) (old new : Direct) (n : ℕ) (digits : List ℕ) (k : Candidate) → AwaitsNamedType s old → StandsAt s.bytes old.at (83 ∷ [])
    → IsSeqAt s.bytes (old.at + 1) digits new.at → k.from ≤ k.to → slice_get old.candidates.list.items (counted_value NumberKind.Seq36 digits) ≡ Some k
    → Reads (record old { at = n }) new [] → k.is_dependent ≡ true → IsNamedAgain s new k
named-again s old new n digits k a stands is ordered found reads dependent = record {
  before = old.at;
  awaits = record {
    kept = kept-grown s old (record new { at = old.at }) [] reads.text reads.candidates reads.scope a.kept;
    awaited = awaited-in s a.scope old (record new { at = old.at }) a.around a.os (reads.text ∙ append-nil old.text.list.items)
        (ap (λ v. reverse v.list.items) reads.waiting) a.outside a.stands a.scoped;
    kind = a.kind;
    is_named = a.is_named;
    begins = a.begins;
  };
  letter = stands;
  digits = digits;
  number = is;
  found = subst (λ v. slice_get v.list.items (counted_value NumberKind.Seq36 digits) ≡ Some k) (sym reads.candidates) found;
  ordered = ordered;
  is = dependent;
}

-- ## Types within types

-- a type within another one is expected
pub type-opened : (s : Symbol) (old new : Direct) (entry : Open) (from : ℕ) (made : Term → Term) (a : AwaitsType s old)
    (t : TypeOpens s Kind.Type a.os a.around made (old.at + 1) a.state) → from ≡ length old.text.list.items
    → (Marks s (below s a.scope (reverse old.waiting.list.items)) t.inner old.text.list.items from made
    → Stands s a.scope (entry ∷ reverse old.waiting.list.items) t.inner old.text.list.items)
    → IsScoped a.scope a.around (entry ∷ reverse old.waiting.list.items) → OpensEntry old new entry → IsWriting s new Step.Type
type-opened s old new entry from made a t begins stands scoped entered =
    type-comes s old new a.kept a.around t.inner entered.text entered.candidates entered.scope
    (ap reverse entered.waiting ∙ reverse-last old.waiting.list.items entry) a.outside
    (inl (subst (λ k. Expects s Kind.Type a.around t.inner k a.state) (sym entered.at) t.awaits))
    (stands (a.os, a.around, begins, t.onward, a.scoped, a.stands)) scoped

-- a type is expected after a P
pub pointer-opened : (s : Symbol) (old new : Direct) (from : ℕ) → AwaitsType s old → from ≡ length old.text.list.items
    → StandsAt s.bytes old.at (80 ∷ []) → OpensEntry old new (Open.Pointer from) → IsWriting s new Step.Type
pointer-opened s old new from a begins stands entered =
    type-opened s old new (Open.Pointer from) from pointer a (pointer-opens s a.kind a.around a.os old.at a.state a.typed a.awaits stands) begins
    (λ m. m) a.scoped entered

-- the entry that waits for a referenced type
abbrev pub reference_entry : (is_lvalue : Bool) → (from : ℕ) → Open
reference_entry true from = Open.Lvalue from
reference_entry false from = Open.Rvalue from

-- a type is expected after an R, and after an O
pub reference-opened : (s : Symbol) (old new : Direct) (is_lvalue : Bool) (from : ℕ) (a : AwaitsType s old) → from ≡ length old.text.list.items
    → StandsAt s.bytes old.at (reference_letter is_lvalue ∷ []) → OpensEntry old new (reference_entry is_lvalue from) → IsWriting s new Step.Type
reference-opened s old new true from a begins stands entered =
    let may : IsReferable a.kind = elim a.referable [ inl is_one ↦ is_one | inr none ↦ absurd (none.0 stands) ] in
    type-opened s old new (Open.Lvalue from) from lvalue a (reference-type-opens s a.kind true a.around a.os old.at a.state may a.awaits stands) begins
    (λ m. m) a.scoped entered
reference-opened s old new false from a begins stands entered =
    let may : IsReferable a.kind = elim a.referable [ inl is_one ↦ is_one | inr none ↦ absurd (none.1 stands) ] in
    type-opened s old new (Open.Rvalue from) from rvalue a (reference-type-opens s a.kind false a.around a.os old.at a.state may a.awaits stands) begins
    (λ m. m) a.scoped entered

-- expects a plain type after a K, where a whole type is expected
pub const-opened : (s : Symbol) (old new : Direct) (from : ℕ) → IsWriting s old Step.Type → from ≡ length old.text.list.items
    → StandsAt s.bytes old.at (75 ∷ []) → OpensEntry old new (Open.Const from) → IsWriting s new Step.Plain
const-opened s old new from p begins stands entered =
    let whole = whole-awaited s old p in
    let a = whole.0 in
    let t = const-opens s a.kind a.around a.os old.at a.state whole.1 a.awaits stands in
    let open_is : reverse new.waiting.list.items ≡ Open.Const from ∷ reverse old.waiting.list.items
    = ap reverse entered.waiting ∙ reverse-last old.waiting.list.items (Open.Const from) in
    record {
      kept = kept-same s old new entered.text entered.candidates entered.scope a.kept;
      is_before = (
        awaited-in s a.scope old new a.around t.inner (ap (λ v. v.list.items) entered.text) open_is a.outside (a.os, a.around, begins, t.onward, a.scoped, a.stands) a.scoped,
        subst (λ k. Expects s Kind.Plain a.around t.inner k a.state) (sym entered.at) t.awaits,
      );
    }

-- a nested name is expected after an N
pub nest-awaited : (s : Symbol) (old : Direct) (n : ℕ) → AwaitsNamedType s old → n ≡ old.at + 1 → StandsAt s.bytes old.at (78 ∷ [])
    → AwaitsNest s (record old { at = n }) Purpose.Type
nest-awaited s old n a at stands =
    let t = nested-type-opens s a.kind a.around a.os old.at a.state a.is_named a.begins stands in
    record {
      kept = kept-same s old (record old { at = n }) refl refl refl a.kept;
      around = a.around;
      outside = a.outside;
      outer = t.inner;
      awaits = subst (λ k. Expects s Kind.Nest a.around t.inner k a.state) (sym at) t.awaits;
      scoped = λ within. a.scoped;
      serves = (a.os, a.around, t.onward, a.scoped, a.stands);
    }
