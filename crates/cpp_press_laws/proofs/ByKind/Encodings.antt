-- An encoding that was read fits: its name and its types are read in surroundings of their own.
use Rattle.cpp_press_laws.proofs.Basics.{◌≡◌, ℕ, ◌+◌, ◌<◌, ◌≤◌, inl, inr, length, List, [], ◌∷◌, ◌++◌, Bool, true, false, Ok, refl, ap, sym, subst, ◌∙◌, arith, lit≤, false≢true, Sym, IsSymbol, Tree as Shape, spell, IsTree, found, unfold_tree, Kind, Production, Operation, ENCODING, SPECIAL, SPECIAL_MARK, SPECIAL_AFTER_G, COMPLETE_NAME, ITEMS, alternatives, choose, is_chain, number_of_kind, parts_of, number_of, abi, Thunk, Term, adjusting, covariant, non_virtual, by_table, symbol, function, of_name, thunk, nil, list, absent, has_return_type, Candidate, State, Around, Value, tree, tree_of, qualifiers_of, ref_of, signed_of, adjustment_of, part, in_name, in_types, no_items, between, encoding_of, meaning, parameters, close, byte_of, cpp, Good, held, Bare, AllOld, AllNew, Grows, old_later, old_grows, ok_same, is_encoding, item_type, IsSpellableThunk}
use Rattle.std.proofs.lemmas.List.{append_assoc}
use Rattle.sym_shape.specs.declared.rule.Sym.TheVariants.{Kind as OfKind}
use Rattle.cpp_grammar.specs.Unfolding as unfolding_
use Rattle.cpp_grammar.proofs.ClosedTrees.{is_encoding as holds_encoding, old_inner, old_types}
use Rattle.cpp_press_laws.proofs.ByKind.AbiTrees.{known, tree_good}
use Rattle.cpp_press_laws.proofs.Components.Complete.{AllBefore}
use Rattle.cpp_press_laws.proofs.ByKind.Rules.{Opened, opened, by-name, IsAmong}
use Rattle.cpp_press_laws.proofs.Fits.Lists.{IsList, ListFits}
use Rattle.cpp_press_laws.proofs.Fits.Nests.{OwnNameFits}
use Rattle.cpp_press_laws.proofs.Fits.Encodings.{AllAfter, AllShut}
use Rattle.cpp_press_laws.proofs.Fits.Symbols.{StaysBehind, WholeFits, guard-fits, special-fits, thunk-fits, returning-fits, plain-function-fits, object-fits}
use Rattle.cpp_press_laws.proofs.Fits.Sorts.{Meant, Later}
use Rattle.cpp_press_laws.proofs.Fits.Places.{Ended, ended-as}
use Rattle.cpp_press_laws.proofs.ByKind.LeafKinds.{own-byte, only-at}
use Rattle.cpp_press_laws.proofs.ByKind.Known.{EncodingRead, SpecialRead, KindRead, BranchRead, InFront, ShapeRead, opened-read, by-parts, OwnNameRead, one-read, OpenedRead}

-- ## Candidates around an encoding and in it

all-before : (around : Around) (at : ℕ) (cs : List Candidate) → around.encoding < at → AllOld false around at cs → AllBefore at cs
all-before around at [] less old = tt
all-before around at (c ∷ cs) less old = (
  elim old.0.place [ inl same ↦ omega (arith, same, less) | inr before ↦ before ],
  all-before around at cs less old.1,
)

all-after : (around inner : Around) (end : ℕ) (cs : List Candidate) → around.encoding < inner.encoding → AllNew false inner end cs
    → AllAfter around.encoding cs
all-after around inner end [] less new = tt
all-after around inner end (c ∷ cs) less new = (
  elim new.0.place [ inl here ↦ omega (arith, here.0, less) | inr deep ↦ omega (arith, deep.0, less) ],
  all-after around inner end cs less new.1,
)

all-shut : (at end : ℕ) (cs : List Candidate) → AllOld false (in_name at) end cs → AllShut at cs
unfolding in_name
all-shut at end [] old = tt
all-shut at end (c ∷ cs) old = (λ same. old.0.closed (refl, λ own. refl) refl (λ own. absurd (false≢true own)) same, all-shut at end cs old.1)

after-append : (encoding : ℕ) (cs ds : List Candidate) → AllAfter encoding cs → AllAfter encoding ds → AllAfter encoding (cs ++ ds)
after-append encoding [] ds one other = other
after-append encoding (c ∷ cs) ds one other = (one.0, after-append encoding cs ds one.1 other)

-- the candidates that were made inside an encoding were made after the place where the encoding begins
stays-behind : (around inner : Around) (at end : ℕ) (old new : State) → around.encoding < at → inner.encoding ≡ at
    → AllOld false around at old.candidates → Grows false inner end old new → StaysBehind around at old new
stays-behind around inner at end old new less is before grows = record {
  more = grows.more;
  grows = grows.is;
  before = all-before around at old.candidates less before;
  later = all-after around inner end grows.more (omega (arith, is, less)) grows.each;
}

stays-further : (around inner : Around) (at end : ℕ) (old mid new : State) → around.encoding < at → inner.encoding ≡ at
    → StaysBehind around at old mid → Grows false inner end mid new → StaysBehind around at old new
stays-further around inner at end old mid new less is one grows = record {
  more = one.more ++ grows.more;
  grows = grows.is ∙ ap (λ cs. cs ++ grows.more) one.grows ∙ append_assoc old.candidates one.more grows.more;
  before = one.before;
  later = after-append around.encoding one.more grows.more one.later
      (all-after around inner end grows.more (omega (arith, is, less)) grows.each);
}

-- ## Parts of an encoding

-- what is known before a part of an encoding's name
name-front : (x : Sym) (around : Around) (at from : ℕ) (state : State) → around.encoding < at → at ≤ from → holds_encoding x ≡ false
    → AllOld false around at state.candidates → InFront x (in_name at) from state
unfolding in_name
name-front x around at from state less le other old = record {
  placed = record {
    lambda = λ is. refl;
    encoding = le;
    old = old_later false (in_name at) at from state.candidates le (old_inner false around at state.candidates less old);
  };
  opening = λ opens. absurd (false≢true (sym other ∙ opens));
  prefix = tt;
}

-- the candidates and the value once a part is read
record PartCame (around : Around) (later : ℕ) (state : State) (v : Value) (new : State) : Type 0 where
  pub grows : Grows false around later state new
  pub good : Good (Bare false around) (held v)
  pub old : AllOld false around later new.candidates

first-of : List Value → Value → Value
first-of [] d = d
first-of (v ∷ vs) d = v

part-came : (x : Sym) (around : Around) (from : ℕ) (state : State) (shape : Shape) (v : Value) (new : State) → IsSymbol abi x
    → InFront x around from state → IsTree abi x shape → unfold_tree cpp around from shape state ≡ Ok (found (v ∷ []) new)
    → PartCame around (from + length (spell shape)) state v new
unfolding first-of
part-came x around from state shape v new small front is e =
    let later : ℕ = from + length (spell shape) in
    let came = tree_good shape x around from state (found (v ∷ []) new) small is front.placed.encoding front.opening front.prefix
    front.placed.old e in
    let same : v ≡ came.value = ap (λ vs. first-of vs v) came.is in
    record {
      grows = came.grows;
      good = subst (λ w. Good (Bare false around) (held w)) (sym same) came.good;
      old = old_grows false around from later state new (omega arith) front.placed.old came.grows;
    }

-- a property that holds of the production's meaning and of the state after it holds of the value and the state that
-- were read
ended-read : (P : Value → State → Type 0) (p : Production) (byte : ℕ) (around : Around) (old : State) (vs : List Value) (mid : State)
    (v : Value) (new : State) → Ended p byte around old vs mid v new → P (Meant p byte around vs) (Later p byte around old vs mid) → P v new
ended-read P p byte around old vs mid v new e one = subst (λ w. P w new) (sym e.comes) (subst (P (Meant p byte around vs)) (sym e.ends) one)

-- ## Functions and data

items-read : (around : Around) (at : ℕ) (name : Value) (t : Term) (old mid new : State) → IsList t → StaysBehind around at old new
    → AllShut at mid.candidates → OwnNameRead (in_name at) name old mid
    → ListFits (in_types at (tree_of name)) item_type t mid new → EncodingRead around (tree (encoding_of name t) true) old new
unfolding encoding_of is_encoding tree_of
items-read around at name nil old mid new is stays shut one other = record {
  is = refl;
  value = refl;
  fits = object-fits around at (tree_of name) (qualifiers_of name) (ref_of name) old mid new one.1 stays shut one.0 other;
}
items-read around at name (list first rest) old mid new is stays shut one other = go (has_return_type (tree_of name)) refl
  where
    go : (b : Bool) → has_return_type (tree_of name) ≡ b → EncodingRead around (tree (elim b as (λ _. Term) [
      | true ↦ function (tree_of name) (qualifiers_of name) (ref_of name) first (parameters rest)
      | false ↦ function (tree_of name) (qualifiers_of name) (ref_of name) absent (parameters (list first rest))
    ]) true) old new
    go true returns = record {
      is = refl;
      value = refl;
      fits = returning-fits around at (tree_of name) first rest (qualifiers_of name) (ref_of name) old mid new one.1 returns stays shut one.0 other;
    }
    go false none = record {
      is = refl;
      value = refl;
      fits =
          plain-function-fits around at (tree_of name) (list first rest) (qualifiers_of name) (ref_of name) old mid new one.1 none stays shut one.0
          other;
    }
items-read around at name (symbol e suffix) old mid new is stays shut one other = absurd is
items-read around at name _ old mid new is stays shut one other = absurd is

function-read : (around : Around) (at : ℕ) (old : State) (v : Value) (new : State) → InFront (OfKind ENCODING) around at old
    → Opened ShapeRead Kind.Encoding around at old (found (v ∷ []) new) Production.Encoding → EncodingRead around v old new
unfolding parts_of between close in_name in_types number_of_kind holds_encoding meaning unfolding_.behind part
function-read around at old v new front o =
    let less : around.encoding < at = front.opening refl in
    let byte : ℕ = byte_of o.taken in
    let from : ℕ = at + length o.taken in
    let g = o.goes in
    let f = name-front (OfKind COMPLETE_NAME) around at from old less (omega arith) refl front.placed.old in
    let own = g.holds Kind.CompleteName (in_name at) from old g.value g.after f g.is g.unfolds refl in
    let c = part-came (OfKind COMPLETE_NAME) (in_name at) from old g.shape g.value g.after (known 8 (lit≤ tt)) f g.is g.unfolds in
    let name : Term = tree_of g.value in
    let later : ℕ = from + length (spell g.shape) in
    let h = g.onward in
    let s : InFront (OfKind ITEMS) (in_types at name) later g.after = record {
      placed = record {
        lambda = λ is. absurd (false≢true is);
        encoding = omega arith;
        old = old_types false at later name g.after.candidates c.old;
      };
      opening = λ opens. absurd (false≢true opens);
      prefix = tt;
    } in
    let items = h.holds Kind.Items (in_types at name) later g.after h.value h.after s h.is h.unfolds refl in
    let d = part-came (OfKind ITEMS) (in_types at name) later g.after h.shape h.value h.after (known ITEMS (lit≤ tt)) s h.is h.unfolds in
    let stays = stays-further around (in_types at name) at (later + length (spell h.shape)) old g.after h.after less refl
    (stays-behind around (in_name at) at later old g.after less refl front.placed.old c.grows) d.grows in
    ended-read (λ w t. EncodingRead around w old t) Production.Encoding byte around old (g.value ∷ h.value ∷ []) h.after v new
    (ended-as Production.Encoding byte around old o.inner o.one (g.value ∷ h.value ∷ []) h.after v new (ok_same _ o.one o.closes) h.onward
    o.comes)
    (items-read around at g.value (no_items h.value) old g.after h.after items.0 stays (all-shut at later g.after.candidates c.old) own
    items.1)

-- ## Guard variables and special encodings

guard-read : (around : Around) (at : ℕ) (old : State) (v : Value) (new : State) → InFront (OfKind ENCODING) around at old
    → Opened ShapeRead Kind.Encoding around at old (found (v ∷ []) new) Production.OtherSpecial → EncodingRead around v old new
unfolding parts_of between close in_name number_of_kind holds_encoding meaning unfolding_.behind part is_encoding tree_of
guard-read around at old v new front o =
    let less : around.encoding < at = front.opening refl in
    let byte : ℕ = byte_of o.taken in
    let from : ℕ = at + length o.taken in
    let g = o.goes in
    let m = name-front (OfKind SPECIAL_MARK) around at from old less (omega arith) refl front.placed.old in
    let b : g.after ≡ old = g.holds Kind.SpecialMark (in_name at) from old g.value g.after m g.is g.unfolds in
    let later : ℕ = from + length (spell g.shape) in
    let h = g.onward in
    let f = name-front (OfKind SPECIAL_AFTER_G) around at later g.after less (omega arith) refl
    (subst (λ s. AllOld false around at (State.candidates s)) (sym b) front.placed.old) in
    let guard = h.holds Kind.SpecialAfterG (in_name at) later g.after h.value h.after f h.is h.unfolds refl in
    let name : Value = guard.0 in
    let c = part-came (OfKind SPECIAL_AFTER_G) (in_name at) later g.after h.shape h.value h.after (known SPECIAL_AFTER_G (lit≤ tt)) f h.is h.unfolds in
    let whole = guard-fits around at (tree_of name) (qualifiers_of name) (ref_of name) old h.after guard.2.1
    (stays-behind around (in_name at) at (later + length (spell h.shape)) old h.after less refl front.placed.old
    (subst (λ s. Grows false (in_name at) (later + length (spell h.shape)) s h.after) b c.grows))
    (subst (λ s. OwnNameFits (in_name at) (tree_of name) (qualifiers_of name) (ref_of name) s h.after) b guard.2.0) in
    ended-read (λ w t. EncodingRead around w old t) Production.OtherSpecial byte around old (g.value ∷ h.value ∷ []) h.after v new
    (ended-as Production.OtherSpecial byte around old o.inner o.one (g.value ∷ h.value ∷ []) h.after v new (ok_same _ o.one o.closes) h.onward
    o.comes)
    (subst (λ w. EncodingRead around w old h.after) (sym guard.1) (record { is = refl; value = refl; fits = whole }))

-- an encoding that begins with a T fits, given what is known of what follows the T
special-encoding : (around : Around) (at : ℕ) (v : Value) (old new : State) → StaysBehind around at old new
    → SpecialRead (in_name at) v old new → EncodingRead around v old new
unfolding is_encoding tree_of
special-encoding around at v old new stays (inl (l, type, is, small, chosen, fits)) =
    subst (λ w. EncodingRead around w old new) (sym is)
    (record { is = refl; value = refl; fits = special-fits around at l type old new small chosen stays fits })
special-encoding around at v old new stays (inr (kind, e, is, good, fits)) =
    subst (λ w. EncodingRead around w old new) (sym is)
    (record { is = refl; value = refl; fits = thunk-fits around at kind e old new good stays fits })

special-read : (around : Around) (at : ℕ) (old : State) (v : Value) (new : State) → InFront (OfKind ENCODING) around at old
    → Opened ShapeRead Kind.Encoding around at old (found (v ∷ []) new) Production.Special → EncodingRead around v old new
unfolding parts_of between close in_name number_of_kind holds_encoding meaning unfolding_.behind part
special-read around at old v new front o =
    let less : around.encoding < at = front.opening refl in
    let byte : ℕ = byte_of o.taken in
    let from : ℕ = at + length o.taken in
    let g = o.goes in
    let f = name-front (OfKind SPECIAL) around at from old less (omega arith) refl front.placed.old in
    let one = g.holds Kind.Special (in_name at) from old g.value g.after f g.is g.unfolds refl in
    let c = part-came (OfKind SPECIAL) (in_name at) from old g.shape g.value g.after (known 5 (lit≤ tt)) f g.is g.unfolds in
    let stays = stays-behind around (in_name at) at (from + length (spell g.shape)) old g.after less refl front.placed.old c.grows in
    ended-read (λ w t. EncodingRead around w old t) Production.Special byte around old (g.value ∷ []) g.after v new
    (ended-as Production.Special byte around old o.inner o.one (g.value ∷ []) g.after v new (ok_same _ o.one o.closes) g.onward o.comes)
    (special-encoding around at g.value old g.after stays one)

-- an encoding fits, given what is known of its parts
pub encoding-branch : BranchRead Kind.Encoding
unfolding alternatives number_of_kind number_of
encoding-branch rule taken parts all around at old v new front is e =
    let one = by-name (alternatives Kind.Encoding) (Opened ShapeRead Kind.Encoding around at old (found (v ∷ []) new))
    (opened ShapeRead Kind.Encoding rule taken parts all around at old (found (v ∷ []) new) is e) in
    arm one.0 one.1 one.2
  where
    arm : (p : Production) → IsAmong (alternatives Kind.Encoding) p → Opened ShapeRead Kind.Encoding around at old (found (v ∷ []) new) p
        → KindRead Kind.Encoding around v old new
    arm Production.Special here o = special-read around at old v new front o
    arm Production.OtherSpecial here o = guard-read around at old v new front o
    arm Production.Encoding here o = function-read around at old v new front o
    arm (Production.Operation Operation.ExpressionC) here o = absurd here
    arm p here o = absurd here

-- ## What comes after a G

pub special-after-g-branch : BranchRead Kind.SpecialAfterG
unfolding alternatives parts_of between number_of_kind meaning part unfolding_.behind is_chain
special-after-g-branch rule taken parts all around at old v new front is e =
    let o = opened-read Kind.SpecialAfterG rule taken parts all around at old v new front is e in
    let letter : byte_of o.taken ≡ 86 =
    own-byte Production.SpecialName o.taken o.byte o.takes refl ∙ only-at Kind.SpecialAfterG Production.SpecialName 86 refl o.byte o.chosen in
    by-parts (λ w s. KindRead Kind.SpecialAfterG around w old s) Production.SpecialName tt tt o (λ w s name outer.
    (w, ap (λ b. tree (of_name b (tree_of w) (qualifiers_of w) (ref_of w)) true) letter, name Kind.CompleteName refl outer))

-- ## What comes after a T

-- an encoding after offsets, which leave the state as it is
thunk-read : (around : Around) (kind : Thunk) (v : Value) (old mid new : State) → IsSpellableThunk kind → mid ≡ old
    → EncodingRead around v mid new → SpecialRead around (tree (thunk kind (tree_of v)) true) old new
thunk-read around kind v old mid new good same one =
    inr (kind, tree_of v, refl, good, subst (λ s. WholeFits around (tree_of v) s new) same one.fits)

-- special encodings of a type, and thunks, fit, given what is known of their parts
pub special-branch : BranchRead Kind.Special
unfolding alternatives parts_of between number_of_kind meaning part unfolding_.behind is_chain number_of
special-branch rule taken parts all around at old v new front is e =
    let one = one-read Kind.Special rule taken parts all around at old v new front is e in
    arm one.0 one.1 one.2
  where
    arm : (p : Production) → IsAmong (alternatives Kind.Special) p → OpenedRead Kind.Special around at old v new p
        → KindRead Kind.Special around v old new
    arm Production.SpecialType here o =
        let same : byte_of o.taken ≡ o.byte = own-byte Production.SpecialType o.taken o.byte o.takes refl in
        by-parts (λ w s. KindRead Kind.Special around w old s) Production.SpecialType tt tt o (λ w s type outer.
        inl (byte_of o.taken, tree_of w, refl, omega (arith, same, o.small), ap (choose Kind.Special) same ∙ o.chosen, type Kind.Type refl outer))
    arm Production.NonVirtualThunk here o = by-parts (λ w s. KindRead Kind.Special around w old s) Production.NonVirtualThunk tt tt o (λ n s read b t mark w u one outer.
        let offset = read Kind.Integer refl in
        thunk-read around (adjusting (non_virtual (signed_of n))) w old t u offset.1 (mark.0 ∙ offset.0) (one Kind.Encoding refl))
    arm Production.VirtualThunk here o = by-parts (λ w s. KindRead Kind.Special around w old s) Production.VirtualThunk tt tt o
        (λ n s read b t mark m u more c r end w q one outer.
        let offset = read Kind.Integer refl in
        let table = more Kind.Integer refl in
        thunk-read around (adjusting (by_table (signed_of n) (signed_of m))) w old r q (offset.1, table.1)
        (end.0 ∙ table.0 ∙ mark.0 ∙ offset.0) (one Kind.Encoding refl))
    arm Production.CovariantThunk here o = by-parts (λ w s. KindRead Kind.Special around w old s) Production.CovariantThunk tt tt o
        (λ a s read b t more w u one outer.
        let this = read Kind.CallOffset refl in
        let result = more Kind.CallOffset refl in
        thunk-read around (covariant (adjustment_of a) (adjustment_of b)) w old t u (this.1, result.1) (result.0 ∙ this.0) (one Kind.Encoding refl))
    arm (Production.Operation Operation.ExpressionC) here o = absurd here
    arm p here o = absurd here
