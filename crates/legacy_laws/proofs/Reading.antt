-- Each legacy name is read by the grammars of C++, as data with a nested name.
use Rattle.std.proofs.Common.{◌≡◌, ℕ, zero, suc, ◌+◌, ◌-◌, ◌<◌, ◌≤◌, List, [], ◌∷◌, length, drop, Bool, true, false, cond, ◌&&◌, refl, ap, sym, subst, ◌∙◌, arith}
use Rattle.std.specs.Prelude.{Option, Some, None, Ok, codes, unwrap_or}
use Rattle.std.specs.List.{list_all}
use Rattle.std.proofs.lemmas.List.{append-nil, length-drop, drop-drop}
use Rattle.sym_demangle.specs.Mangled.{StandsFor}
use Rattle.cpp_grammar.specs.declared.kind.Kind.{Kind}
use Rattle.cpp_grammar.specs.Grammar.{may_be_empty}
use Rattle.cpp_grammar.specs.Term.{Term, any_value, symbol, source, alone, within}
use Rattle.cpp_grammar.specs.Values.{State, Around, Value, tree, tree_of, named, nothing_there}
use Rattle.cpp_grammar.specs.Between.{after, in_name, in_types, no_items}
use Rattle.cpp_grammar.specs.Meaning.{encoding_of}
use Rattle.cpp_grammar.specs.Unfolding.{first_around, first_state}
use Rattle.rust_legacy.specs.Path.{Name, Path, before_hash, begins_with, is_hash, is_legacy_byte, is_suffix, legacy_of, name_in, names_in, path_before_hash, path_in, with_name, with_suffix}
use Rattle.rust_legacy.proofs.Names.{after as after_name, at_end, names_after}
use Rattle.rust_legacy.proofs.Legacy.{legacy_is, path_is}
use Rattle.cpp_direct.specs.Symbol.{Symbol, mangled_of}
use Rattle.cpp_direct.specs.Holes.{Opened, StandsAt, Comes, IsNameAt, NestGoesOn, with_candidate}
use Rattle.cpp_direct.specs.HolesOfNests.{IsRest}
use Rattle.cpp_direct.specs.HolesOfLists.{SymbolOpened}
use Rattle.cpp_direct.proofs.Moves.{comes-moved, expects-empty}
use Rattle.cpp_direct.proofs.MovesOfNests.{nest-source, component-awaits, component-source, nest-end}
use Rattle.cpp_direct.proofs.MovesOfEncodings.{encoding-opens, name-nested, symbol-starts}
use Rattle.legacy_laws.proofs.Bytes.{end_here, front_here, legacy_drop, name_here, suffix_here}

-- ## Reading

-- a nested name continues after one more name
one_name : (s : Symbol) (kind : Kind) (outer : List Opened) (around : Around) (t : Term) (at : ℕ) (st : State) (name : List ℕ) (end : ℕ)
    → IsRest kind → NestGoesOn s kind outer around t false at st → IsNameAt s.bytes at name end
    → NestGoesOn s Kind.NestTail outer around (within t (source false name)) false end (with_candidate around t st)
unfolding may_be_empty
one_name s kind outer around t at st name end rest goes is =
    let now = with_candidate around t st in
    let u = within t (source false name) in
    let next = component-awaits s kind goes.inner around t false at st rest goes.awaits in
    let named = component-source s next.inner around t next.listed at now name end next.awaits is in
    let tail = next.onward u end now (named.bare end now (expects-empty s Kind.MaybeArguments (after u false around) named.inner end now named.awaits refl)) in
    record { inner = tail.inner; awaits = tail.awaits; passes = λ v here then_ comes. goes.passes v here then_ (tail.passes v here then_ comes) }

-- names, the E after them and a suffix are read: the tree they denote, and the place before the suffix
record Ends (s : Symbol) (outer : List Opened) (suffix : List ℕ) : Type 0 where
  term : Term
  end : ℕ
  state : State
  comes : Comes s outer (tree term false) end state
  suffix_is : drop end s.bytes ≡ suffix
  within : end ≤ length s.bytes

-- the rest of a list of names after its first name
record Later (depth : ℕ) (q : List ℕ) (name : Name) (path : Path) : Type 0 where
  later : Path
  is : names_in depth (drop name.size q) ≡ Some later
  whole : path ≡ record { names = name.bytes ∷ later.names; suffix = later.suffix }

later_of : (depth : ℕ) (q : List ℕ) (name : Name) (found : Option Path) (path : Path) → names_in depth (drop name.size q) ≡ found
    → with_name name.bytes found ≡ Some path → Later depth q name path
later_of depth q name None path is h = absurd (cc (h))
later_of depth q name (Some later) path is h = record { later = later; is = is; whole = sym (ap (λ o. unwrap_or o path) h) }

end_within : (q : List ℕ) (at : ℕ) (s : List ℕ) → StandsAt s at (69 ∷ []) → at + 1 ≤ length s
end_within q at s stands = omega (arith, length-drop at s, ap length stands.1)

-- the names from a place on, and the E
rest_read : (depth : ℕ) (s : Symbol) (path : Path) (outer : List Opened) (around : Around) (t : Term) (at : ℕ) (st : State)
    → list_all is_legacy_byte s.bytes ≡ true → names_in depth (drop at s.bytes) ≡ Some path
    → NestGoesOn s Kind.NestTail outer around t false at st → Ends s outer path.suffix
rest_read zero s path outer around t at st are is goes = absurd (cc (is))
rest_read (suc depth) s path outer around t at st are is goes =
    by (begins_with (codes "E") (drop at s.bytes)) (name_in (drop at s.bytes)) refl refl is
    (λ name here later. rest_read depth s later.later outer around (within t (source false name.bytes)) (at + name.size) (with_candidate around t st) are
    (ap (names_in depth) (sym (drop-drop name.size at s.bytes)) ∙ later.is)
    (one_name s Kind.NestTail outer around t at st name.bytes (at + name.size) tt goes (name_here s.bytes at name are here)))
  where
    by : (b : Bool) (found : Option Name) → begins_with (codes "E") (drop at s.bytes) ≡ b → name_in (drop at s.bytes) ≡ found
        → cond {A = Option Path} b (at_end (drop at s.bytes)) (after_name depth (drop at s.bytes) found) ≡ Some path
        → ((name : Name) → name_in (drop at s.bytes) ≡ Some name → (later : Later depth (drop at s.bytes) name path) → Ends s outer later.later.suffix)
        → Ends s outer path.suffix
    by true found e n h rest = (
        let stands = end_here s.bytes at e in
        let same : record { names = []; suffix = drop 1 (drop at s.bytes) } ≡ path = ap (λ o. unwrap_or o path) h in
        record {
          term = t;
          end = at + 1;
          state = st;
          comes = goes.passes (tree t false) (at + 1) st (nest-end s goes.inner around t false at st goes.awaits stands);
          suffix_is = sym (drop-drop 1 at s.bytes) ∙ ap (λ p. p.suffix) same;
          within = end_within [] at s.bytes stands;
        })
    by false None e n h rest = absurd (cc (h))
    by false (Some name) e n h rest = (
        let later = later_of depth (drop at s.bytes) name (names_in depth (drop name.size (drop at s.bytes))) path refl h in
        subst (λ p. Ends s outer p.suffix) (sym later.whole) (rest name n later))

-- ## From the definition

-- a nonempty list of names begins with a name
first_of : (depth : ℕ) (q : List ℕ) (path : Path) → names_in depth q ≡ Some path → 0 < length path.names
    → (more : ℕ) × (name : Name) × (name_in q ≡ Some name) × Later more q name path
first_of zero q path is some = absurd (cc (is))
first_of (suc depth) q path is some = by (begins_with (codes "E") q) (name_in q) refl is
  where
    by : (b : Bool) (found : Option Name) → name_in q ≡ found → cond {A = Option Path} b (at_end q) (after_name depth q found) ≡ Some path
        → (more : ℕ) × (name : Name) × (name_in q ≡ Some name) × Later more q name path
    by true found n h = absurd (omega (arith, some, ap (λ o. length (unwrap_or o path).names) h))
    by false None n h = absurd (cc (h))
    by false (Some name) n h = (depth, name, n, later_of depth q name (names_in depth (drop name.size q)) path refl h)

names_cond : (b : Bool) (names : List (List ℕ)) → cond {A = Option (List (List ℕ))} b (Some []) None ≡ Some names → names ≡ []
names_cond true names is = sym (ap (λ o. unwrap_or o names) is)
names_cond false names is = absurd (cc (is))

-- there are more names than those before the hash
hash_more : (all names : List (List ℕ)) → before_hash all ≡ Some names → length names + 1 ≤ length all
hash_more [] names is = absurd (cc (is))
hash_more (name ∷ []) names is = omega (arith, ap length (names_cond (is_hash name) names is))
hash_more (name ∷ next ∷ rest) names is = by (before_hash (next ∷ rest)) is (λ n h. hash_more (next ∷ rest) n h)
  where
    by : (found : Option (List (List ℕ))) → names_after name found ≡ Some names → ((n : List (List ℕ)) → found ≡ Some n → length n + 1 ≤ length (next ∷ rest))
        → length names + 1 ≤ length (name ∷ next ∷ rest)
    by None h more = absurd (cc (h))
    by (Some n) h more = omega (arith, more n refl, ap (λ o. length (unwrap_or o names)) h)

-- all names of a legacy name, its hash among them
record AllNames (s : List ℕ) (path : Path) : Type 0 where
  all : Path
  are : names_in (length s) (drop 3 s) ≡ Some all
  two : 2 ≤ length all.names
  suffix : all.suffix ≡ path.suffix

path_from : (all : Path) (found : Option (List (List ℕ))) (path : Path) → path_before_hash all.suffix found ≡ Some path
    → (names : List (List ℕ)) × (found ≡ Some names) × (0 < length names) × (all.suffix ≡ path.suffix)
path_from all (Some (name ∷ rest)) path is = (name ∷ rest, refl, omega arith, ap (λ o. (unwrap_or o path).suffix) is)
path_from all (Some []) path is = absurd (cc (is))
path_from all None path is = absurd (cc (is))

all_names : (s : List ℕ) (path : Path) → legacy_of s ≡ Some path → AllNames s path
all_names s path is = by (names_in (length s) (drop 3 s)) refl (path_is s path is)
  where
    by : (found : Option Path) → names_in (length s) (drop 3 s) ≡ found → path_in found ≡ Some path → AllNames s path
    by None e h = absurd (cc (h))
    by (Some all) e h = (
        let from = path_from all (before_hash all.names) path h in
        record { all = all; are = e; two = omega (arith, hash_more all.names from.0 from.1, from.2); suffix = from.3 })

both : (a b : Bool) → (a && b) ≡ true → (a ≡ true) × (b ≡ true)
both true b h = (refl, h)
both false b h = absurd (cc (h))

suffix_cond : (b : Bool) (path found : Path) → cond {A = Option Path} b (Some path) None ≡ Some found → b ≡ true
suffix_cond true path found is = refl
suffix_cond false path found is = absurd (cc (is))

asked_all : (b : Bool) (all : Option Path) (path : Path) → cond {A = Option Path} b all None ≡ Some path → (b ≡ true) × (all ≡ Some path)
asked_all true all path is = (refl, is)
asked_all false all path is = absurd (cc (is))

right_suffix : (all : Option Path) (path : Path) → with_suffix all ≡ Some path → all ≡ Some path → is_suffix path.suffix ≡ true
right_suffix None path is same = absurd (cc (same))
right_suffix (Some all) path is same = ap (λ o. is_suffix (unwrap_or o path).suffix) (sym same) ∙ suffix_cond (is_suffix all.suffix) all path is

-- what is required of a legacy name
record Asked (s : List ℕ) (path : Path) : Type 0 where
  front : begins_with (codes "_ZN") s ≡ true
  bytes : list_all is_legacy_byte s ≡ true
  suffix : is_suffix path.suffix ≡ true

asked_of : (s : List ℕ) (path : Path) → legacy_of s ≡ Some path → Asked s path
asked_of s path is =
    let all = path_in (names_in (length s) (drop 3 s)) in
    let asked_ = asked_all (begins_with (codes "_ZN") s && list_all is_legacy_byte s) (with_suffix all) path (sym (legacy_is s) ∙ is) in
    let tests = both (begins_with (codes "_ZN") s) (list_all is_legacy_byte s) asked_.0 in
    record { front = tests.0; bytes = tests.1; suffix = right_suffix all path asked_.1 (path_is s path is) }

-- an encoding that is followed by nothing but a suffix ends the symbol
finish : (s : Symbol) (opened_ : SymbolOpened s) (e : Term) (end : ℕ) (st : State) (suffix : List ℕ) → Comes s opened_.inner (tree e true) end st
    → drop end s.bytes ≡ suffix → end ≤ length s.bytes → list_all is_legacy_byte s.bytes ≡ true → is_suffix suffix ≡ true
    → (t : Term) × StandsFor (mangled_of s) s.bytes (Ok t)
finish s opened_ e end st [] comes rest long are is =
    let ends : end ≡ length s.bytes = omega (arith, long, length-drop end s.bytes, ap length rest) in
    (symbol e [], opened_.ends e st (comes-moved s opened_.inner (tree e true) end (length s.bytes) st ends comes))
finish s opened_ e end st (b ∷ suffix) comes rest long are is =
    let here = suffix_here (b ∷ suffix) (subst (λ r. list_all is_legacy_byte r ≡ true) rest (legacy_drop end s.bytes are)) is (omega arith) in
    (symbol e (b ∷ suffix), opened_.ends_in e end (b ∷ suffix) st comes ([], rest ∙ sym (append-nil (b ∷ suffix))) (omega (arith, long, length-drop end s.bytes, ap length rest)) here)

-- _ZN, at least two names, E, and a suffix or nothing
names_read : (s : Symbol) (first second : Name) (depth : ℕ) (later : Path) → begins_with (codes "_ZN") s.bytes ≡ true → list_all is_legacy_byte s.bytes ≡ true
    → name_in (drop 3 s.bytes) ≡ Some first → name_in (drop first.size (drop 3 s.bytes)) ≡ Some second
    → names_in depth (drop second.size (drop first.size (drop 3 s.bytes))) ≡ Some later → is_suffix later.suffix ≡ true
    → (t : Term) × StandsFor (mangled_of s) s.bytes (Ok t)
unfolding may_be_empty in_name
names_read s first second depth later front are first_is second_is later_is suffix =
    let at = 3 + first.size in
    let to = at + second.size in
    let moved = drop-drop first.size 3 s.bytes in
    let there = front_here s.bytes front in
    let opened_ = symbol-starts s there.0 in
    let encoding = encoding-opens s opened_.inner first_around 2 first_state opened_.awaits in
    let around = in_name 2 in
    let nest = name-nested s encoding.inner around false any_value 2 first_state (λ e. cc e) encoding.awaits there.1 in
    let one = nest-source s nest.inner around 3 first_state first.bytes at refl nest.awaits (name_here s.bytes 3 first are first_is) in
    let t = alone (source false first.bytes) in
    let next = one_name s Kind.NestRestAlone nest.inner around t at first_state second.bytes to tt one (name_here s.bytes at second are (ap name_in (sym moved) ∙ second_is)) in
    let rest = rest_read depth s later nest.inner around (within t (source false second.bytes)) to (with_candidate around t first_state) are
    (ap (names_in depth) (sym (ap (drop second.size) moved ∙ drop-drop second.size at s.bytes)) ∙ later_is) next in
    let name : Value = named rest.term (record { restrict = false; volatile = false; const = false }) any_value in
    let items = encoding.onward name rest.end rest.state (nest.onward rest.term false rest.end rest.state rest.comes) in
    let comes = items.onward nothing_there rest.end rest.state (expects-empty s Kind.Items (in_types 2 (tree_of name)) items.inner rest.end rest.state items.awaits refl) in
    finish s opened_ (encoding_of name (no_items nothing_there)) rest.end rest.state later.suffix comes rest.suffix_is rest.within are suffix

-- Each legacy name denotes a tree of C++, by either grammar.
pub legacy_read : (s : Symbol) (path : Path) → legacy_of s.bytes ≡ Some path → (t : Term) × StandsFor (mangled_of s) s.bytes (Ok t)
legacy_read s path is =
    let asks = asked_of s.bytes path is in
    let all = all_names s.bytes path is in
    let first = first_of (length s.bytes) (drop 3 s.bytes) all.all all.are (omega (arith, all.two)) in
    let later = first.3 in
    let two : 1 ≤ length later.later.names = omega (arith, all.two, ap (λ p. length p.names) later.whole) in
    let second = first_of first.0 (drop first.1.size (drop 3 s.bytes)) later.later later.is two in
    let same : path.suffix ≡ second.3.later.suffix = sym all.suffix ∙ ap (λ p. p.suffix) later.whole ∙ ap (λ p. p.suffix) second.3.whole in
    names_read s first.1 second.1 second.0 second.3.later asks.front asks.bytes first.2 second.2 second.3.is (ap is_suffix (sym same) ∙ asks.suffix)
