-- Types that name an argument of a function's template, and parameters that expand a pack, are read.
use Rattle.cpp_direct.proofs.AllGround.{after, appended, applied, argument_so_far, between, byte_of, close, Continuation, count, counted_value, Detail, element, enclosed_argument, ends_arguments, expansion, index_of, instance, is_code, is_function_type, is_void, Kind, length_if_pack, listed_so_far, listed_value, lvalue, may_be_empty, meaning, number_of_kind, parameter, parameter_named, parameter_so_far, parts_of, Production, rvalue, Term, types_of, under_expansion, with_packs, with_type, added, AreCandidates, AreExpanded, AreParametersRead, Argument, argument_of, Arguments, arguments_in, ArgumentsGoOn, AwaitsNextArgument, AwaitsType, below, Candidate, comma_text, detail_of, Direct, EncodedBehind, expansion_letters, hidden, in_front_of_next, IsFunctionEnded, IsKnown, IsDependentNow, IsMarkedBy, IsNamedAgain, IsNaming, IsPackOf, IsPackThere, IsPlaced, IsScope, IsScoped, IsSingle, IsTemplate, IsWriting, Kept, list_of, Lists, made_by, Mark, most_by_digit, Open, Owns, parameter_digits, ParametersGoOn, Pattern, pattern_letters, place_of, PrintAllBy, PrintsAs, PrintsGiven, PrintsMade, Scope, scoped_in, separator, Symbol, with_argument, Writes, Comes, Expects, IsReferable, IsTyped, Opened, StandsAt, TypeOpens, as_const, candidate, with_candidate, tree, State, Around, is_there, letter_of, part, piece_of, tree_of, is_listed, Bool, ◌≡◌, ◌≢◌, ℕ, zero, suc, ◌+◌, ◌-◌, ◌≤◌, ◌<◌, length, List, [], ◌∷◌, ◌++◌, take, drop, reverse, slice_get, get_or, true, false, replicate, Some, None, nat_le, ◌&&◌, refl, ap, sym, ◌∙◌, subst, arith, append_assoc, append-nil, Ok, codes, le-leb, lt-ltb, length-append, slice_get_within, get_or_from_slice_get, get_or-append_seam, Token, IsNumberToken, NumberKind, Step, reverse-last, template-stays, candidate-found, kept-argument, kept-grown, kept-same, kept-written, made-here, piece-found, placed-stays, value-added, value-comes, candidate-inside, kept-as, kept-with, const-opens, reference-type-opens, solid-opens, substitution-opens, parameter-given, rvalue-given, argument-awaits, element-awaits, all-more, next-prints-in, next-prints-by, parameters-as, pack-stays, unfolding_behind}
use Rattle.cpp_direct.proofs.AllRead.{element-goes-on, element-scoped, some-elements, template-listed, again-substituted, named-here, next-separated, nothing-ended, parameter-goes_on}
use Rattle.cpp_direct.proofs.Handed.{noted-added, noted-within}
use Rattle.cpp_direct.proofs.Moves.{chain-opens, eats-widely, fixed-fills, is_eaten_widely, is_left, leaves, hole, eats, byte-opens, next-part, closes, none-fills, number-fills, is_eaten, stands-join, stands-split, expects-empty, open_at, fill, filled-at}
use Rattle.cpp_direct.proofs.PrintedExpansions.{expansion-element, expansion-empty}
use Rattle.cpp_grammar.specs.Values.{text_of}
use Rattle.cpp_direct.proofs.Signatures.{one-hidden}
use Rattle.cpp_grammar.specs.Values as values

-- ## Moves

-- the number of a parameter
abbrev pub parameter_token : ℕ → Token
parameter_token k = record { before = []; own = parameter_digits k; behind = 95 ∷ [] }

digit-is : (k : ℕ) → k ≤ 9 → nat_le 48 (48 + k) && nat_le (48 + k) 57 ≡ true
digit-is k few = ap (λ b. b && nat_le (48 + k) 57) (le-leb 48 (48 + k) (omega arith)) ∙ le-leb (48 + k) 57 (omega (arith, few))

pub parameter-number : (k : ℕ) → k ≤ most_by_digit → IsNumberToken NumberKind.Decimal (parameter_token k)
parameter-number zero few = record { bare = refl; digits = (tt, tt); ends = refl }
parameter-number (suc k) few = record { bare = refl; digits = ((digit-is k (omega (arith, few)), tt), tt); ends = refl }

digits-count : (k : ℕ) → k ≤ most_by_digit → index_of (values.text (parameter_digits k)) ≡ k
unfolding index_of text_of
digits-count zero few = refl
digits-count (suc k) few = omega arith

parameter-found : (around : Around) (k at : ℕ) (st : State) (all : Term) → around.scope ≡ Some all → k < count all → length_if_pack (element all k) ≡ None
    → parameter_named around at k st ≡ Ok (with_candidate around (parameter k) st)
unfolding parameter_named with_packs appended
parameter-found around k at st all scope below none = rw (scope, lt-ltb k (count all) below, none, parameter_named) refl

-- the argument that a parameter names is found
number-tested : (around : Around) (k at : ℕ) (st later : State) → k ≤ most_by_digit → parameter_named around at k st ≡ Ok later
    → ◌≡◌ {A = Continuation} (between Production.Parameter around at (values.text (parameter_digits k) ∷ []) st)
    (Ok (record { context = after (parameter k) true around; values = tree (parameter k) true ∷ []; state = later }))
unfolding between parameter_so_far listed_so_far
number-tested around k at st later few named =
    subst (λ n. ◌≡◌ {A = Continuation} (parameter_so_far around at n [] st)
    (Ok (record { context = after (parameter k) true around; values = tree (parameter k) true ∷ []; state = later }))) (sym (digits-count k few)) (rw named refl)

-- the parameter is accepted
number-comes : (s : Symbol) (kind : Kind) (around : Around) (os : List Opened) (k at : ℕ) (st later : State) → IsTyped kind → k ≤ most_by_digit
    → ((place : ℕ) → parameter_named around place k st ≡ Ok later) → Expects s kind around os at st → StandsAt s.bytes at (84 ∷ (parameter_digits k ++ 95 ∷ []))
    → Comes s os (tree (parameter k) true) (at + 1 + length (parameter_digits k ++ 95 ∷ [])) later
unfolding is_eaten number_of_kind parts_of may_be_empty between close unfolding_behind meaning part byte_of tree_of text_of piece_of letter_of is_there applied is_function_type
number-comes s kind around os k at st later typed few named expects stands =
    let p = Production.Parameter in
    let both = stands-split s.bytes at (84 ∷ []) (parameter_digits k ++ 95 ∷ []) stands in
    let solid = solid-opens s kind around os at st typed expects in
    let number = byte-opens (eats s Kind.Solid p 84 refl) (hole s Kind.Solid around solid.inner at st solid.awaits) both.0 refl refl in
    let arguments = next-part p (number-fills (parameter_token k) number (parameter-number k few) both.1) (number-tested around k at st later few (named at)) in
    solid.onward (parameter k) true (at + 1 + length (parameter_digits k ++ 95 ∷ [])) later refl (closes p (none-fills Kind.ArgumentsAlone arguments refl) refl).comes

-- a parameter becomes a candidate in its scope
pub parameter-comes : (s : Symbol) (kind : Kind) (around : Around) (os : List Opened) (k at : ℕ) (st : State) → IsTyped kind → k ≤ most_by_digit
    → IsScope k around → Expects s kind around os at st → StandsAt s.bytes at (84 ∷ (parameter_digits k ++ 95 ∷ []))
    → Comes s os (tree (parameter k) true) (at + 1 + length (parameter_digits k ++ 95 ∷ [])) (with_candidate around (parameter k) st)
parameter-comes s kind around os k at st typed few scope expects stands =
    number-comes s kind around os k at st (with_candidate around (parameter k) st) typed few
    (λ place. parameter-found around k place st scope.all scope.scope_is scope.there.1 (ap length_if_pack scope.there.0 ∙ scope.no_pack)) expects stands

-- the digit of a parameter's number precedes its underscore
pub digit-stands : (s : List ℕ) (at k digit : ℕ) → digit ≡ 48 + k → StandsAt s at (digit ∷ []) → StandsAt s (at + 1) (95 ∷ [])
    → StandsAt s at (parameter_digits (k + 1) ++ 95 ∷ [])
digit-stands s at k digit is first line =
    let next : suc k ≡ k + 1 = omega arith in
    subst (λ n. StandsAt s at (parameter_digits n ++ 95 ∷ [])) next
    (stands-join s at ((48 + k) ∷ []) (95 ∷ []) (subst (λ d. StandsAt s at (d ∷ [])) is first) line)

-- ## The argument

-- the argument that a parameter names is at its place
placed-there : (s : Symbol) (w : Direct) (all : Arguments) (k : ℕ) (p : Argument) (kept : Kept s w) (around : Around) → IsScoped kept.scope around (reverse w.waiting.list.items)
    → argument_of (reverse w.waiting.list.items) ≡ Some all → p ≡ place_of all k → IsSingle all k
    → (bytes : List ℕ) × (kept.scope.names k ≡ Some (record { bytes = bytes; reference = p.is_reference })) × IsPlaced w.text.list.items p bytes
placed-there s w all k p kept around scoped found is single =
    let same : p ≡ place_of kept.scope.arguments k = is ∙ ap (λ (q : Arguments). place_of q k) (sym (scoped all found).0) in
    let h = kept.keeps.named k (subst (λ (q : Arguments). IsSingle q k) (sym (scoped all found).0) single) in (
      h.0,
      subst (λ (q : Argument). kept.scope.names k ≡ Some (record { bytes = h.0; reference = q.is_reference })) (sym same) h.1,
      subst (λ (q : Argument). IsPlaced w.text.list.items q h.0) (sym same) h.2,
    )

named-placed : (s : Symbol) (w : Direct) (all : Arguments) (k : ℕ) (p : Argument) (a : AwaitsType s w) → argument_of (reverse w.waiting.list.items) ≡ Some all
    → p ≡ place_of all k → IsSingle all k
    → (bytes : List ℕ) × (a.scope.names k ≡ Some (record { bytes = bytes; reference = p.is_reference })) × IsPlaced w.text.list.items p bytes
named-placed s w all k p a found is single = placed-there s w all k p a.kept a.around a.scoped found is single

-- the argument that a parameter names is within what is written
there-inside : (s : Symbol) (w : Direct) (all : Arguments) (k : ℕ) (p : Argument) (kept : Kept s w) (around : Around) → IsScoped kept.scope around (reverse w.waiting.list.items)
    → argument_of (reverse w.waiting.list.items) ≡ Some all → p ≡ place_of all k → IsSingle all k → (p.from ≤ p.to) × (p.to ≤ length w.text.list.items)
there-inside s w all k p kept around scoped found is single =
    let h = placed-there s w all k p kept around scoped found is single in
    let found = piece-found w.text.list.items h.0 p.from p.to h.2 in
    (found.0, found.1)

pub argument-inside : (s : Symbol) (w : Direct) (all : Arguments) (k : ℕ) (p : Argument) → AwaitsType s w
    → argument_of (reverse w.waiting.list.items) ≡ Some all → p ≡ place_of all k → IsSingle all k → (p.from ≤ p.to) × (p.to ≤ length w.text.list.items)
argument-inside s w all k p a found is single = there-inside s w all k p a.kept a.around a.scoped found is single

pub operand-inside : (s : Symbol) (w : Direct) (all : Arguments) (k : ℕ) (p : Argument) → AwaitsNextArgument s w
    → argument_of (reverse w.waiting.list.items) ≡ Some all → p ≡ place_of all k → IsSingle all k → (p.from ≤ p.to) × (p.to ≤ length w.text.list.items)
operand-inside s w all k p a found is single = there-inside s w all k p a.kept a.goes.0 (element-scoped s w a) found is single

-- a parameter may name the argument
scope-named : (s : Symbol) (w : Direct) (all : Arguments) (k : ℕ) (a : AwaitsType s w) → argument_of (reverse w.waiting.list.items) ≡ Some all
    → IsSingle all k → IsScope k a.around
scope-named s w all k a found single = (a.scoped all found).1.1 k single

-- ## Parameters

-- the parameter is read, and its argument is written once more
pub parameter-done : (s : Symbol) (old mid new : Direct) (all : Arguments) (k : ℕ) (p : Argument) (n : ℕ) → AwaitsType s old → k ≤ most_by_digit
    → StandsAt s.bytes old.at (84 ∷ []) → StandsAt s.bytes (old.at + 1) (parameter_digits k ++ 95 ∷ [])
    → argument_of (reverse old.waiting.list.items) ≡ Some all → p ≡ place_of all k → IsSingle all k → all.encoding ≢ 0
    → Writes (record old { at = n }) mid (take (p.to - p.from) (drop p.from old.text.list.items)) → n ≡ old.at + 1 + length (parameter_digits k ++ 95 ∷ [])
    → new.candidates.list.items ≡ with_argument mid p → new.text ≡ mid.text → new.waiting ≡ mid.waiting → new.has_scope ≡ mid.has_scope
    → new.at ≡ mid.at → IsWriting s new (Step.Value p.is_reference true)
parameter-done s old mid new all k p n a few letter line found is single real writes at more same_text same_waits same_scope same_at =
    let text = old.text.list.items in
    let h = named-placed s old all k p a found is single in
    let bytes = h.0 in
    let grown : mid.text.list.items ≡ text ++ bytes = writes.text ∙ ap (λ l. text ++ l) (piece-found text bytes p.from p.to h.2).2 in
    let prints = parameter-given a.scope.names k (record { bytes = bytes; reference = p.is_reference }) h.1 in
    let naming = named-here s old a.kept a.around all a.scoped found real in
    value-comes s new
    (kept-argument s mid new (kept-grown s old mid bytes grown writes.candidates writes.scope a.kept) p bytes (parameter k) a.around
    (subst (λ l. IsPlaced l p bytes) (sym grown) (placed-stays text bytes p bytes h.2)) prints
    (made-here a.scope a.around (reverse old.waiting.list.items) a.scoped naming) same_text more same_scope)
    a.os (parameter k) text bytes p.is_reference true (ap (λ v. v.list.items) same_text ∙ grown) prints (ap (λ v. reverse v.list.items) (same_waits ∙ writes.waiting))
    (λ e. naming)
    (subst (λ n. Comes s a.os (tree (parameter k) true) n (with_candidate a.around (parameter k) a.state)) (sym (same_at ∙ writes.at ∙ at))
    (parameter-comes s a.kind a.around a.os k old.at a.state a.typed few (scope-named s old all k a found single) a.awaits
    (stands-join s.bytes old.at (84 ∷ []) (parameter_digits k ++ 95 ∷ []) letter line))) a.stands

-- ## Parameters as expressions

-- the argument that a parameter names as an expression is found, and no candidate is made
operand-tested : (around : Around) (k at : ℕ) (st : State) → k ≤ most_by_digit → IsScope k around
    → ◌≡◌ {A = Continuation} (between Production.ParameterExpression around at (values.text (parameter_digits k) ∷ []) st)
    (Ok (record { context = around; values = tree (parameter k) true ∷ []; state = st }))
unfolding between argument_so_far
operand-tested around k at st few scope =
    subst (λ n. ◌≡◌ {A = Continuation} (argument_so_far around (at - 1) n st) (Ok (record { context = around; values = tree (parameter k) true ∷ []; state = st })))
    (sym (digits-count k few))
    (rw (parameter-found around k (at - 1) st scope.all scope.scope_is scope.there.1 (ap length_if_pack scope.there.0 ∙ scope.no_pack), argument_so_far) refl)

-- a parameter as an expression is accepted as an argument
operand-comes : (s : Symbol) (around : Around) (os : List Opened) (k at : ℕ) (st : State) → s.is_wide ≡ true → k ≤ most_by_digit → IsScope k around
    → Expects s Kind.Argument around os at st → StandsAt s.bytes at (88 ∷ []) → StandsAt s.bytes (at + 1) (84 ∷ [])
    → StandsAt s.bytes (at + 1 + 1) (parameter_digits k ++ 95 ∷ []) → StandsAt s.bytes (at + 1 + 1 + length (parameter_digits k ++ 95 ∷ [])) (69 ∷ [])
    → Comes s os (tree (parameter k) false) (at + 1 + 1 + length (parameter_digits k ++ 95 ∷ []) + 1) st
unfolding is_eaten is_eaten_widely is_left number_of_kind parts_of may_be_empty between close unfolding_behind meaning part byte_of tree_of text_of piece_of letter_of is_there applied enclosed_argument ends_arguments is_code
operand-comes s around os k at st wide few scope expects x letter line ends =
    let p = Production.ParameterExpression in
    let argument = byte-opens (eats s Kind.Argument Production.Expression 88 refl) (hole s Kind.Argument around os at st expects) x refl refl in
    let expression = byte-opens (eats-widely s Kind.Expression Production.ExpressionWithT 84 wide refl) argument letter refl refl in
    let number = chain-opens (leaves s Kind.ExpressionParameter p 48 refl) expression refl refl in
    let arguments = next-part p (number-fills (parameter_token k) number (parameter-number k few) line) (operand-tested around k (at + 1 + 1) st few scope) in
    let operand = closes Production.ExpressionWithT (closes p (none-fills Kind.ArgumentsAlone arguments refl) refl) refl in
    (closes Production.Expression (fixed-fills (next-part Production.Expression operand refl) ends) refl).comes

-- a parameter as an expression is read, and its argument is written once more
pub operand-done : (s : Symbol) (old mid new : Direct) (all : Arguments) (k : ℕ) (p : Argument) (n : ℕ) (ws : List Open) (owner noted : Open) → AwaitsNextArgument s old → s.is_wide ≡ true
    → k ≤ most_by_digit → StandsAt s.bytes old.at (88 ∷ []) → StandsAt s.bytes (old.at + 1) (84 ∷ []) → StandsAt s.bytes (old.at + 1 + 1) (parameter_digits k ++ 95 ∷ [])
    → StandsAt s.bytes (old.at + 1 + 1 + length (parameter_digits k ++ 95 ∷ [])) (69 ∷ [])
    → argument_of (reverse old.waiting.list.items) ≡ Some all → p ≡ place_of all k → IsSingle all k → all.encoding ≢ 0
    → Writes (record old { at = n }) mid (take (p.to - p.from) (drop p.from old.text.list.items))
    → n ≡ old.at + 1 + 1 + length (parameter_digits k ++ 95 ∷ []) + 1 → mid.waiting.list.items ≡ ws ++ owner ∷ [] → IsDependentNow owner noted
    → new.waiting.list.items ≡ ws ++ noted ∷ [] → new.text ≡ mid.text → new.candidates ≡ mid.candidates → new.has_scope ≡ mid.has_scope → new.at ≡ mid.at
    → IsWriting s new (Step.List false)
operand-done s old mid new all k p n ws owner noted a wide few x letter line ends found is single real writes at waits now now_waits same_text same_candidates same_scope same_at =
    let text = old.text.list.items in
    let place = a.place in
    let around = a.goes.0 in
    let scoped = element-scoped s old a in
    let opened : reverse old.waiting.list.items ≡ owner ∷ reverse ws =
    ap (λ v. reverse v.list.items) (sym writes.waiting) ∙ ap reverse waits ∙ reverse-last ws owner in
    let apart : (others : List Open) → reverse old.waiting.list.items ≡ Open.Pack ∷ others → ⊥
    = λ others e. let same : owner ≡ Open.Pack = cc (sym opened ∙ e) in subst (λ o. IsDependentNow o noted) same now in
    let l = template-listed s a.scope old a.state place.listing place.owner place.rest place.front place.template place.name a.ts a.texts (in_front_of_next a.ts a.texts)
    apart place.belongs a.elements a.written a.goes in
    let rest_is : place.rest ≡ reverse ws = cc (sym l.0 ∙ opened) in
    let owner_is : owner ≡ place.owner = cc (sym opened ∙ l.0) in
    let noting : IsDependentNow place.owner noted = subst (λ o. IsDependentNow o noted) owner_is now in
    let within = noted-within place.owner noted noting in
    let named : argument_of place.rest ≡ Some all =
    subst (λ b. elim b [ true ↦ argument_of place.rest | false ↦ arguments_in place.owner ] ≡ Some all) within (subst (λ os. argument_of os ≡ Some all) l.0 found) in
    let h = placed-there s old all k p a.kept around scoped found is single in
    let bytes = h.0 in
    let grown : mid.text.list.items ≡ text ++ bytes = writes.text ∙ ap (λ l. text ++ l) (piece-found text bytes p.from p.to h.2).2 in
    let outer = below s a.scope place.rest in
    let element = argument-awaits s Kind.ArgumentList l.3.1 l.3.0 old.at a.state false tt l.3.4 in
    let end = old.at + 1 + 1 + length (parameter_digits k ++ 95 ∷ []) + 1 in
    let goes = element-goes-on s Kind.ArgumentList (scoped_in place.owner outer) (λ u there later. Owns s place.owner outer place.front (instance place.template u) there later)
    a.ts (parameter k) old.at end a.state a.state l.3 (element.onward (parameter k) end a.state
    (operand-comes s l.3.0 element.inner k old.at a.state wide few ((l.3.3 within all named).1.1 k single) element.awaits x letter line ends)) in
    noted-added s mid new (kept-grown s old mid bytes grown writes.candidates writes.scope a.kept) ws place.owner noted place.front place.template place.name a.ts a.texts
    (parameter k) bytes p.is_reference
    (subst (λ t. IsTemplate (detail_of s) a.scope.names place.owner place.front place.template place.name t) (sym grown)
    (template-stays (detail_of s) a.scope.names place.owner place.front place.template place.name text bytes place.is_template))
    l.1 (parameter-given a.scope.names k (record { bytes = bytes; reference = p.is_reference }) h.1) (grown ∙ ap (λ t. t ++ bytes) l.2)
    (subst (λ os. IsNaming a.scope os) (l.0 ∙ ap (λ r. place.owner ∷ r) rest_is) (named-here s old a.kept around all scoped found real))
    (subst (λ r. ArgumentsGoOn s place.owner (below s a.scope r) place.front place.template (a.ts ++ parameter k ∷ []) mid.at a.state) rest_is
    (subst (λ j. ArgumentsGoOn s place.owner outer place.front place.template (a.ts ++ parameter k ∷ []) j a.state) (sym (writes.at ∙ at)) goes))
    noting now_waits same_text same_candidates same_scope same_at

-- ## References to parameters

-- An rvalue reference to a parameter is read. If the argument is a reference, the rvalue reference is that argument itself.
pub forwarded-done : (s : Symbol) (old mid one new : Direct) (all : Arguments) (k : ℕ) (p : Argument) (n from : ℕ) (a : AwaitsType s old) → k ≤ most_by_digit → IsReferable a.kind
    → StandsAt s.bytes old.at (79 ∷ []) → StandsAt s.bytes (old.at + 1) (84 ∷ []) → StandsAt s.bytes (old.at + 1 + 1) (parameter_digits k ++ 95 ∷ [])
    → argument_of (reverse old.waiting.list.items) ≡ Some all → p ≡ place_of all k → IsSingle all k → all.encoding ≢ 0 → p.is_reference ≡ true
    → from ≡ length old.text.list.items → Writes (record old { at = n }) mid (take (p.to - p.from) (drop p.from old.text.list.items))
    → n ≡ old.at + 1 + 1 + length (parameter_digits k ++ 95 ∷ []) → Lists mid one (added mid from true true) → Lists one new (added one from true true)
    → IsWriting s new (Step.Value true true)
forwarded-done s old mid one new all k p n from a few referable mark letter line found is single real refers from_is writes at first second =
    let text = old.text.list.items in
    let h = named-placed s old all k p a found is single in
    let bytes = h.0 in
    let named : a.scope.names k ≡ Some (record { bytes = bytes; reference = true })
    = subst (λ r. a.scope.names k ≡ Some (record { bytes = bytes; reference = r })) refers h.1 in
    let grown : mid.text.list.items ≡ text ++ bytes = writes.text ∙ ap (λ l. text ++ l) (piece-found text bytes p.from p.to h.2).2 in
    let listed : one.text.list.items ≡ text ++ bytes = ap (λ v. v.list.items) first.text ∙ grown in
    let naming = named-here s old a.kept a.around all a.scoped found real in
    let here = made-here a.scope a.around (reverse old.waiting.list.items) a.scoped naming in
    let open_is : new.waiting ≡ old.waiting = second.waiting ∙ first.waiting ∙ writes.waiting in
    let own = with_candidate a.around (parameter k) a.state in
    let later = with_candidate a.around (rvalue (parameter k)) own in
    let reference = reference-type-opens s a.kind false a.around a.os old.at a.state referable a.awaits mark in
    let prints = rvalue-given a.scope.names k bytes named in
    value-added s one new
    (kept-with s mid one (kept-grown s old mid bytes grown writes.candidates writes.scope a.kept) text bytes from (parameter k) a.around true true grown from_is
    (parameter-given a.scope.names k (record { bytes = bytes; reference = true }) named) (λ e. here) first.text first.candidates first.scope)
    a.os a.around (rvalue (parameter k)) text bytes from true true listed from_is prints (λ e. here) second.text second.candidates second.scope (ap (λ v. reverse v.list.items) open_is) (λ e. naming)
    (subst (λ n. Comes s a.os (tree (rvalue (parameter k)) true) n later) (sym (second.at ∙ first.at ∙ writes.at ∙ at))
    (reference.onward (parameter k) (old.at + 1 + 1 + length (parameter_digits k ++ 95 ∷ [])) own
    (parameter-comes s Kind.Type a.around reference.inner k (old.at + 1) a.state tt few (scope-named s old all k a found single) reference.awaits
    (stands-join s.bytes (old.at + 1) (84 ∷ []) (parameter_digits k ++ 95 ∷ []) letter line)))) a.stands

-- ## The argument once more

-- a type that a substitution names again is within what is written
pub again-inside : (s : Symbol) (w : Direct) (k : Candidate) → IsNamedAgain s w k → (k.from ≤ k.to) × (k.to ≤ length w.text.list.items)
again-inside s w k p = candidate-inside s (record w { at = p.before }) (counted_value NumberKind.Seq36 p.digits) k p.awaits.kept p.ordered p.found

pub dependent-again : (s : Symbol) (w new : Direct) (k : Candidate) (all : Arguments) → IsNamedAgain s w k
    → argument_of (reverse w.waiting.list.items) ≡ Some all → all.encoding ≢ 0 → Writes w new (take (k.to - k.from) (drop k.from w.text.list.items))
    → IsWriting s new (Step.Value k.is_reference true)
unfolding may_be_empty
dependent-again s w new k all p found real writes =
    let a = p.awaits in
    let text = w.text.list.items in
    let c = candidate-found text w.candidates.list.items a.state.candidates (counted_value NumberKind.Seq36 p.digits) k a.keeps.candidates p.ordered p.found in
    let t = c.0.tree in
    let bytes = c.2.bytes in
    let written : new.text.list.items ≡ text ++ bytes = writes.text ∙ ap (λ l. text ++ l) (piece-found text bytes k.from k.to c.2.placed).2 in
    let prints : PrintsGiven (detail_of s) a.scope.names t bytes k.is_reference
    = subst (λ d. PrintsAs (detail_of s) a.scope.names d t bytes k.is_reference) p.is c.2.prints in
    let open_ = reverse w.waiting.list.items in
    let kept = kept-same s (record w { at = p.before }) w refl refl refl a.kept in
    let naming = named-here s w kept a.around all a.scoped found real in
    let named = substitution-opens s a.kind a.around a.os p.before a.state p.digits w.at c.0 a.is_named c.1
    (again-substituted s a.around open_ c.0 a.state bytes k.is_reference a.keeps.single a.scoped naming (c.2.made_in p.is) prints) a.begins p.letter p.number in
    let comes : Comes s a.os (tree t true) w.at a.state = named.bare w.at a.state prints.no_function
    (expects-empty s Kind.ArgumentsAlone (after t true a.around) named.inner w.at a.state named.awaits refl) in
    value-comes s new (kept-written s w new (take (k.to - k.from) (drop k.from text)) writes kept) a.os t text bytes k.is_reference true written prints
    (ap (λ v. reverse v.list.items) writes.waiting) (λ e. naming) (subst (λ n. Comes s a.os (tree t true) n a.state) (sym writes.at) comes) a.stands

-- ## A parameter that expands a pack

-- the state in which types are expanded, before a pack is named
abbrev pub begun : State → State
begun st = record st { packs = None }

-- the state once a pack of this many elements is named
abbrev named_many : ℕ → State → State
named_many n st = record st { packs = Some n }

-- under an expansion, a parameter that names a pack is found, and becomes a candidate
pack-found : (around : Around) (k at : ℕ) (st : State) (ts : List Term) → IsPackThere around k ts
    → parameter_named (under_expansion around) at k (begun st) ≡ Ok (with_candidate around (parameter k) (named_many (count (list_of ts)) st))
unfolding parameter_named with_packs appended under_expansion length_if_pack
pack-found around k at st ts p = rw (p.scope_is, lt-ltb k (count p.all) p.there.1, p.there.0, parameter_named) refl

-- the parameter that names the pack is accepted
pack-comes : (s : Symbol) (kind : Kind) (around : Around) (os : List Opened) (k at : ℕ) (st : State) (ts : List Term) → IsTyped kind → k ≤ most_by_digit → IsPackThere around k ts
    → Expects s kind (under_expansion around) os at (begun st) → StandsAt s.bytes at (84 ∷ (parameter_digits k ++ 95 ∷ []))
    → Comes s os (tree (parameter k) true) (at + 1 + length (parameter_digits k ++ 95 ∷ [])) (with_candidate around (parameter k) (named_many (count (list_of ts)) st))
pack-comes s kind around os k at st ts typed few there expects stands =
    number-comes s kind (under_expansion around) os k at (begun st) (with_candidate around (parameter k) (named_many (count (list_of ts)) st)) typed few
    (λ place. pack-found around k place st ts there) expects stands

-- the trees that a pattern makes of a parameter, one after the other
abbrev trees_of : Pattern → Term → List Term
trees_of Pattern.Same t = t ∷ []
trees_of Pattern.Lvalue t = t ∷ lvalue t ∷ []
trees_of Pattern.ConstLvalue t = t ∷ as_const t ∷ lvalue (as_const t) ∷ []
trees_of Pattern.Rvalue t = t ∷ rvalue t ∷ []

-- the state once these trees are candidates
abbrev with_trees : Around → List Term → State → State
with_trees around [] st = st
with_trees around (t ∷ ts) st = with_trees around ts (with_candidate around t st)

-- after `R` or `O` comes the referenced type
marked-comes : (s : Symbol) (byte : ℕ) (made : Term → Term) (around : Around) (os : List Opened) (k at : ℕ) (st : State) (ts : List Term) → k ≤ most_by_digit → IsPackThere around k ts
    → (StandsAt s.bytes at (byte ∷ []) → TypeOpens s Kind.Type os (under_expansion around) made (at + 1) (begun st))
    → StandsAt s.bytes at (byte ∷ 84 ∷ (parameter_digits k ++ 95 ∷ []))
    → Comes s os (tree (made (parameter k)) true) (at + length (byte ∷ 84 ∷ (parameter_digits k ++ 95 ∷ [])))
    (with_candidate around (made (parameter k)) (with_candidate around (parameter k) (named_many (count (list_of ts)) st)))
unfolding under_expansion
marked-comes s byte made around os k at st ts few there opens stands =
    let both = stands-split s.bytes at (byte ∷ []) (84 ∷ (parameter_digits k ++ 95 ∷ [])) stands in
    let o = opens both.0 in
    let own = with_candidate around (parameter k) (named_many (count (list_of ts)) st) in
    subst (λ n. Comes s os (tree (made (parameter k)) true) n (with_candidate around (made (parameter k)) own)) (omega arith)
    (o.onward (parameter k) (at + 1 + 1 + length (parameter_digits k ++ 95 ∷ [])) own
    (pack-comes s Kind.Type around o.inner k (at + 1) st ts tt few there o.awaits both.1))

-- what the pattern makes of the parameter is accepted
pattern-comes : (s : Symbol) (pattern : Pattern) (around : Around) (os : List Opened) (k at : ℕ) (st : State) (ts : List Term) → k ≤ most_by_digit → IsPackThere around k ts
    → Expects s Kind.Type (under_expansion around) os at (begun st) → StandsAt s.bytes at (pattern_letters pattern ++ 84 ∷ (parameter_digits k ++ 95 ∷ []))
    → Comes s os (tree (made_by pattern (parameter k)) true) (at + length (pattern_letters pattern ++ 84 ∷ (parameter_digits k ++ 95 ∷ [])))
    (with_trees around (trees_of pattern (parameter k)) (named_many (count (list_of ts)) st))
unfolding under_expansion
pattern-comes s Pattern.Same around os k at st ts few there expects stands =
    subst (λ n. Comes s os (tree (parameter k) true) n (with_candidate around (parameter k) (named_many (count (list_of ts)) st))) (omega arith)
    (pack-comes s Kind.Type around os k at st ts tt few there expects stands)
pattern-comes s Pattern.Lvalue around os k at st ts few there expects stands =
    marked-comes s 82 lvalue around os k at st ts few there (λ first. reference-type-opens s Kind.Type true (under_expansion around) os at (begun st) tt expects first) stands
pattern-comes s Pattern.ConstLvalue around os k at st ts few there expects stands =
    let letters = 84 ∷ (parameter_digits k ++ 95 ∷ []) in
    let both = stands-split s.bytes at (82 ∷ []) (75 ∷ letters) stands in
    let rest = stands-split s.bytes (at + 1) (75 ∷ []) letters both.1 in
    let o = reference-type-opens s Kind.Type true (under_expansion around) os at (begun st) tt expects both.0 in
    let c = const-opens s Kind.Type (under_expansion around) o.inner (at + 1) (begun st) tt o.awaits rest.0 in
    let own = with_candidate around (parameter k) (named_many (count (list_of ts)) st) in
    let const_ = with_candidate around (as_const (parameter k)) own in
    let end = at + 1 + 1 + 1 + length (parameter_digits k ++ 95 ∷ []) in
    subst (λ n. Comes s os (tree (lvalue (as_const (parameter k))) true) n (with_candidate around (lvalue (as_const (parameter k))) const_)) (omega arith)
    (o.onward (as_const (parameter k)) end const_
    (c.onward (parameter k) end own (pack-comes s Kind.Plain around c.inner k (at + 1 + 1) st ts tt few there c.awaits rest.1)))
pattern-comes s Pattern.Rvalue around os k at st ts few there expects stands =
    marked-comes s 79 rvalue around os k at st ts few there (λ first. reference-type-opens s Kind.Type false (under_expansion around) os at (begun st) tt expects first) stands

-- the state after an expansion, with its candidates
abbrev pub with_expansion : Pattern → (k size : ℕ) → Around → State → State
with_expansion pattern k size around st =
    with_candidate around (expansion (made_by pattern (parameter k)))
    (record (with_trees around (trees_of pattern (parameter k)) (named_many size st)) { packs = st.packs })

-- an expansion is accepted, where a parameter is expected
pub expansion-comes : (s : Symbol) (pattern : Pattern) (around : Around) (os : List Opened) (k at : ℕ) (st : State) (ts : List Term) → k ≤ most_by_digit → IsPackThere around k ts
    → Expects s Kind.Item around os at st → StandsAt s.bytes at (expansion_letters pattern k)
    → Comes s os (tree (expansion (made_by pattern (parameter k))) true) (at + length (expansion_letters pattern k)) (with_expansion pattern k (count (list_of ts)) around st)
unfolding is_eaten number_of_kind parts_of between close unfolding_behind meaning part byte_of tree_of text_of piece_of letter_of is_there listed_value with_type is_listed appended under_expansion
expansion-comes s pattern around os k at st ts few there expects stands =
    let letters = pattern_letters pattern ++ 84 ∷ (parameter_digits k ++ 95 ∷ []) in
    let first = stands-split s.bytes at (68 ∷ []) (112 ∷ letters) stands in
    let second = stands-split s.bytes (at + 1) (112 ∷ []) letters first.1 in
    let item = byte-opens (eats s Kind.Item Production.ItemWithD 68 refl) (hole s Kind.Item around os at st expects) first.0 refl refl in
    let expanded = byte-opens (eats s Kind.ItemAfterD Production.Expansion 112 refl) item second.0 refl refl in
    let made = with_trees around (trees_of pattern (parameter k)) (named_many (count (list_of ts)) st) in
    let comes = pattern-comes s pattern around (open_at expanded) k (at + 1 + 1) st ts few there expanded.expects second.1 in
    let refers = fill expanded (tree (made_by pattern (parameter k)) true) (at + 1 + 1 + length letters) made comes in
    (filled-at (at + length (expansion_letters pattern k)) (closes Production.ItemWithD (closes Production.Expansion refers refl) refl) (omega arith)).comes

-- the letters of an expansion are side by side
pub letters-stand : (s : List ℕ) (pattern : Pattern) (k at second third named digits : ℕ) → StandsAt s at (68 ∷ []) → second ≡ at + 1 → StandsAt s second (112 ∷ [])
    → third ≡ second + 1 → StandsAt s third (pattern_letters pattern) → named ≡ third + length (pattern_letters pattern) → StandsAt s named (84 ∷ [])
    → digits ≡ named + 1 → StandsAt s digits (parameter_digits k ++ 95 ∷ []) → StandsAt s at (expansion_letters pattern k)
letters-stand s pattern k at second third named digits d b p c letters e t f line =
    let behind = parameter_digits k ++ 95 ∷ [] in
    stands-join s at (68 ∷ []) (112 ∷ (pattern_letters pattern ++ 84 ∷ behind)) d
    (subst (λ n. StandsAt s n (112 ∷ (pattern_letters pattern ++ 84 ∷ behind))) b
    (stands-join s second (112 ∷ []) (pattern_letters pattern ++ 84 ∷ behind) p
    (subst (λ n. StandsAt s n (pattern_letters pattern ++ 84 ∷ behind)) c
    (stands-join s third (pattern_letters pattern) (84 ∷ behind) letters
    (subst (λ n. StandsAt s n (84 ∷ behind)) e (stands-join s named (84 ∷ []) behind t (subst (λ n. StandsAt s n behind) f line)))))))

-- nothing is written
pub none-written : (w : Direct) → Writes w w []
none-written w = record { text = sym (append-nil w.text.list.items); candidates = refl; waiting = refl; nest = refl; scope = refl; at = refl }

-- no element is written yet
pub none-expanded : {detail : Detail} (pattern : Pattern) (w : Direct) (ts : List Term) → AreExpanded detail pattern w w ts 0
none-expanded pattern w ts = record { done = []; rest = ts; all = refl; count = refl; bytes = []; prints = ([], tt, refl); writes = none-written w }

none-left : (l : List Term) → length l ≡ 0 → l ≡ []
none-left [] e = refl
none-left (t ∷ ts) e = absurd (omega (arith, e))

-- once all elements are written, no element remains
all-expanded : {detail : Detail} (pattern : Pattern) (before w : Direct) (ts : List Term) (number : ℕ) → length ts ≡ number → (f : AreExpanded detail pattern before w ts number)
    → f.rest ≡ []
all-expanded pattern before w ts number all f = none-left f.rest (omega (arith, all, f.count, ap length f.all, length-append f.done f.rest))

next-one : (done rest : List Term) (n : ℕ) (own : Term) → length done ≡ n → slice_get (done ++ rest) n ≡ Some own → (more : List Term) × (rest ≡ own ∷ more)
next-one done [] n own size at = absurd (omega (arith, size, slice_get_within (done ++ []) n own at, length-append done []))
next-one done (t ∷ more) n own size at = (
  more,
  ap (λ u. u ∷ more) (sym (get_or-append_seam done t more own) ∙ ap (λ k. get_or (done ++ t ∷ more) k own) size
      ∙ get_or_from_slice_get (done ++ t ∷ more) n own own at),
)

comma-between : (done : List Term) (number : ℕ) (bytes : List ℕ) → length done ≡ number → in_front_of_next done bytes ≡ bytes ++ comma_text number
comma-between [] zero bytes e = sym (append-nil bytes)
comma-between [] (suc k) bytes e = absurd (omega (arith, e))
comma-between (d ∷ done) zero bytes e = absurd (omega (arith, e))
comma-between (d ∷ done) (suc k) bytes e = refl

-- an element of the pack is within what is written
pub expanded-inside : {detail : Detail} (pattern : Pattern) (before w one : Direct) (ts : List Term) (argument : Arguments) (number : ℕ) (place : Argument)
    → IsPackOf detail before.text.list.items argument ts
    → AreExpanded detail pattern before w ts number → place ≡ place_of argument (argument.before + number) → IsKnown argument (argument.before + number) → Writes w one (comma_text number)
    → (place.from ≤ place.to) × (place.to ≤ length one.text.list.items)
expanded-inside pattern before w one ts argument number place p f is known writes =
    let q = place_of argument (argument.before + number) in
    let h = p.among number known in
    let inside = piece-found before.text.list.items h.bytes q.from q.to h.placed in (
      omega (arith, ap (λ (k : Argument). k.from) is, ap (λ (k : Argument). k.to) is, inside.0),
      omega (arith, ap (λ (k : Argument). k.to) is, inside.1, ap length writes.text, length-append {A = ℕ}, ap length f.writes.text),
    )

-- what the pattern makes of one more element is written
pub expanded-more : {detail : Detail} (pattern : Pattern) (before w one two new : Direct) (ts : List Term) (argument : Arguments) (number : ℕ) (place : Argument) (marks : List ℕ)
    → IsPackOf detail before.text.list.items argument ts → AreExpanded detail pattern before w ts number
    → place ≡ place_of argument (argument.before + number) → IsKnown argument (argument.before + number) → Writes w one (comma_text number)
    → Writes one two (take (place.to - place.from) (drop place.from one.text.list.items)) → IsMarkedBy pattern place.is_reference marks → Writes two new marks
    → AreExpanded detail pattern before new ts (number + 1)
expanded-more {detail} pattern before w one two new ts argument number place marks p f is known comma piece marks_are mark =
    let q = place_of argument (argument.before + number) in
    let h = p.among number known in
    let size = f.count in
    let next = next-one f.done f.rest number h.own size (subst (λ l. slice_get l number ≡ Some h.own) f.all h.there) in
    let one_is : one.text.list.items ≡ before.text.list.items ++ (f.bytes ++ comma_text number) =
    comma.text ∙ ap (λ l. l ++ comma_text number) f.writes.text ∙ append_assoc before.text.list.items f.bytes (comma_text number) in
    let placed = placed-stays before.text.list.items (f.bytes ++ comma_text number) q h.bytes h.placed in
    let found = piece-found (before.text.list.items ++ (f.bytes ++ comma_text number)) h.bytes q.from q.to placed in
    let own : take (place.to - place.from) (drop place.from one.text.list.items) ≡ h.bytes =
    ap (λ (k : Argument). take (k.to - k.from) (drop k.from one.text.list.items)) is ∙ ap (λ l. take (q.to - q.from) (drop q.from l)) one_is ∙ found.2 in
    let more = h.bytes ++ marks in
    record {
      done = f.done ++ h.own ∷ [];
      rest = next.0;
      all = f.all ∙ ap (λ l. f.done ++ l) next.1 ∙ sym (append_assoc f.done (h.own ∷ []) next.0);
      count = omega (arith, size, length-append f.done (h.own ∷ []));
      bytes = in_front_of_next f.done f.bytes ++ more;
      prints = next-prints-by (PrintsMade detail pattern) f.done f.bytes h.own more f.prints
          (h.bytes, q.is_reference, marks, h.prints, subst (λ (k : Argument). IsMarkedBy pattern k.is_reference marks) is marks_are, refl);
      writes = record {
        text = mark.text ∙ ap (λ l. l ++ marks) (piece.text ∙ ap (λ l. one.text.list.items ++ l) own ∙ ap (λ l. l ++ h.bytes) one_is)
            ∙ append_assoc (before.text.list.items ++ (f.bytes ++ comma_text number)) h.bytes marks
            ∙ append_assoc before.text.list.items (f.bytes ++ comma_text number) more
            ∙ ap (λ l. before.text.list.items ++ (l ++ more)) (sym (comma-between f.done number f.bytes size));
        candidates = mark.candidates ∙ piece.candidates ∙ comma.candidates ∙ f.writes.candidates;
        waiting = mark.waiting ∙ piece.waiting ∙ comma.waiting ∙ f.writes.waiting;
        nest = mark.nest ∙ piece.nest ∙ comma.nest ∙ f.writes.nest;
        scope = mark.scope ∙ piece.scope ∙ comma.scope ∙ f.writes.scope;
        at = mark.at ∙ piece.at ∙ comma.at ∙ f.writes.at;
      };
    }

-- trees become candidates with unknown texts
trees-hidden : (s : Symbol) (scope : Scope) (text : List ℕ) (around : Around) (ts : List Term) (ks : List Candidate) (st : State) → AreCandidates s scope text ks st.candidates
    → AreCandidates s scope text (ks ++ replicate (length ts) hidden) (with_trees around ts st).candidates
trees-hidden s scope text around [] ks st known = subst (λ l. AreCandidates s scope text l st.candidates) (sym (append-nil ks)) known
trees-hidden s scope text around (t ∷ ts) ks st known =
    subst (λ l. AreCandidates s scope text l (with_trees around ts (with_candidate around t st)).candidates) (append_assoc ks (hidden ∷ []) (replicate (length ts) hidden))
    (trees-hidden s scope text around ts (ks ++ hidden ∷ []) (with_candidate around t st) (one-hidden s scope text ks st.candidates (candidate around t) known))

-- each tree that a pattern makes becomes an unknown candidate, and so does the expansion
expansion-hidden : (s : Symbol) (scope : Scope) (text : List ℕ) (ks : List Candidate) (around : Around) (pattern : Pattern) (k size : ℕ) (st : State)
    → AreCandidates s scope text ks st.candidates
    → AreCandidates s scope text (ks ++ replicate (2 + length (pattern_letters pattern)) hidden) (with_expansion pattern k size around st).candidates
expansion-hidden s scope text ks around Pattern.Same k size st known =
    let p = parameter k in
    trees-hidden s scope text around (p ∷ expansion p ∷ []) ks st known
expansion-hidden s scope text ks around Pattern.Lvalue k size st known =
    let p = parameter k in
    trees-hidden s scope text around (p ∷ lvalue p ∷ expansion (lvalue p) ∷ []) ks st known
expansion-hidden s scope text ks around Pattern.ConstLvalue k size st known =
    let p = parameter k in
    trees-hidden s scope text around (p ∷ as_const p ∷ lvalue (as_const p) ∷ expansion (lvalue (as_const p)) ∷ []) ks st known
expansion-hidden s scope text ks around Pattern.Rvalue k size st known =
    let p = parameter k in
    trees-hidden s scope text around (p ∷ rvalue p ∷ expansion (rvalue p) ∷ []) ks st known

-- after an expansion a writer keeps what it kept
abbrev expansion-kept : (s : Symbol) (w new : Direct) (around : Around) (pattern : Pattern) (k size : ℕ) (kept : Kept s w)
    → new.text ≡ w.text → new.candidates.list.items ≡ w.candidates.list.items ++ replicate (2 + length (pattern_letters pattern)) hidden
    → new.has_scope ≡ w.has_scope → Kept s new
expansion-kept s w new around pattern k size kept text candidates scope_ =
    kept-as s w new (with_expansion pattern k size around kept.state) kept text candidates scope_
    (expansion-hidden s kept.scope w.text.list.items w.candidates.list.items around pattern k size kept.state kept.keeps.candidates)

-- parameters continue after an expansion
expansion-goes : (s : Symbol) (pattern : Pattern) (w : Direct) (is_first : Bool) (mark : Mark) (start : ℕ) (argument : Arguments)
    (a : AreParametersRead s w 3 is_first mark start argument) → argument.has_pack ≡ true → argument.before ≤ most_by_digit
    → StandsAt s.bytes w.at (expansion_letters pattern argument.before)
    → (size : ℕ) × ParametersGoOn s argument a.lead a.make (a.ts ++ expansion (made_by pattern (parameter argument.before)) ∷ [])
    (w.at + length (expansion_letters pattern argument.before)) (with_expansion pattern argument.before size a.goes.around a.state)
expansion-goes s pattern w is_first mark start argument a has_pack below stands =
    let k = argument.before in
    let around = a.goes.around in
    let packed = a.goes.scoped.2 has_pack in
    let size = count (list_of packed.0) in
    let t = expansion (made_by pattern (parameter k)) in
    let later = with_expansion pattern k size around a.state in
    let end = w.at + length (expansion_letters pattern k) in
    let item = element-awaits s Kind.Items a.goes.inner around w.at a.state tt a.goes.awaits in
    let comes = expansion-comes s pattern around item.inner k w.at a.state packed.0 below packed.1 item.awaits stands in (
      size,
      parameter-goes_on s argument (λ x there then_. EncodedBehind s a.lead x there then_) a.make a.ts w.at a.state a.goes t end later (item.onward t end later comes),
    )

-- the elements stay at their places when a comma is written
pub pack-separated : (s : Symbol) {extra : ℕ} (w mid : Direct) (is_first : Bool) (mark : Mark) (start : ℕ) (argument : Arguments) (end : ℕ)
    (a : AreParametersRead s w extra is_first mark start argument) (has_pack : argument.has_pack ≡ true) → Writes (record w { at = end }) mid (separator is_first)
    → IsPackOf (detail_of s) mid.text.list.items argument (a.is_function.names.1 has_pack).elements
pack-separated s w mid is_first mark start argument end a has_pack one =
    let packed = a.is_function.names.1 has_pack in
    subst (λ l. IsPackOf (detail_of s) l argument packed.elements) (sym one.text)
    (pack-stays w.text.list.items (separator is_first) argument packed.elements packed.are)

-- an expansion is read, and what its pattern makes of each element is written
pub expansion-read : (s : Symbol) (pattern : Pattern) (old mid last new : Direct) (is_first : Bool) (mark : Mark) (start : ℕ) (argument : Arguments) (end : ℕ)
    (a : AreParametersRead s old 3 is_first mark start argument) (has_pack : argument.has_pack ≡ true) → argument.elements ≢ 0
    → argument.before ≤ most_by_digit → StandsAt s.bytes old.at (expansion_letters pattern argument.before)
    → end ≡ old.at + length (expansion_letters pattern argument.before) → Writes (record old { at = end }) mid (separator is_first)
    → AreExpanded (detail_of s) pattern mid last (a.is_function.names.1 has_pack).elements argument.elements
    → new.text ≡ last.text → new.candidates.list.items ≡ last.candidates.list.items ++ replicate (2 + length (pattern_letters pattern)) hidden
    → new.waiting ≡ last.waiting → new.has_scope ≡ last.has_scope → new.at ≡ last.at
    → (extra : ℕ) × (extra ≤ 6) × AreParametersRead s new extra false mark start argument
expansion-read s pattern old mid last new is_first mark start argument end a has_pack some below stands end_is one fw text candidates waiting scope_ at =
    let f = a.is_function in
    let k = argument.before in
    let packed = f.names.1 has_pack in
    let ts = packed.elements in
    let bytes = fw.bytes in
    let t = expansion (made_by pattern (parameter k)) in
    let goes = expansion-goes s pattern old is_first mark start argument a has_pack below stands in
    let later = with_expansion pattern k goes.0 a.goes.around a.state in
    let between = separator is_first in
    let rest = all-expanded pattern mid last ts argument.elements packed.are.size fw in
    let done : fw.done ≡ ts = sym (append-nil fw.done) ∙ ap (λ l. fw.done ++ l) (sym rest) ∙ sym fw.all in
    let prints : PrintAllBy (PrintsMade (detail_of s) pattern) ts bytes = subst (λ l. PrintAllBy (PrintsMade (detail_of s) pattern) l bytes) done fw.prints in
    let grown : new.text.list.items ≡ mid.text.list.items ++ bytes = ap (λ v. v.list.items) text ∙ fw.writes.text in
    let all_grown : new.text.list.items ≡ old.text.list.items ++ (between ++ bytes) =
    grown ∙ ap (λ l. l ++ bytes) one.text ∙ append_assoc old.text.list.items between bytes in
    let kept = kept-written s mid last bytes fw.writes
    (kept-written s (record old { at = end }) mid between one (kept-same s old (record old { at = end }) refl refl refl a.kept)) in (
      6,
      omega arith,
      record {
        kept = expansion-kept s last new a.goes.around pattern k goes.0 kept text candidates scope_;
        rest = a.rest;
        open_is = ap (λ v. reverse v.list.items) (waiting ∙ fw.writes.waiting ∙ one.waiting) ∙ a.open_is;
        ts = a.ts ++ t ∷ [];
        none = λ e. cc e;
        some = λ e. some-elements a.ts t;
        texts = in_front_of_next a.ts a.texts ++ bytes;
        has = parameters-as s old.text.list.items new.text.list.items (between ++ bytes) mark start argument a.has all_grown
            (next-prints-in (types_of f.own) 6 a.ts a.texts t bytes (all-more (detail_of s) (types_of f.own) 3 6 (omega arith) a.ts a.texts f.elements)
            (expansion-element f.own packed.all k ts pattern bytes (λ none. some (sym packed.are.size ∙ ap length none)) packed.all_are packed.there.0 prints));
        written = grown ∙ ap (λ l. l ++ bytes) (next-separated s old is_first mark start argument a mid.text.list.items one.text)
            ∙ append_assoc (a.front ++ codes "(") (in_front_of_next a.ts a.texts) bytes;
        goes = subst (λ j. ParametersGoOn s argument a.lead a.make (a.ts ++ t ∷ []) j later) (sym (at ∙ fw.writes.at ∙ one.at ∙ end_is)) goes.1;
      },
    )

-- the expansion of an empty pack is read, and the function ends
pub nothing-read : (s : Symbol) (pattern : Pattern) (old new : Direct) (is_first : Bool) (mark : Mark) (start : ℕ) (argument : Arguments)
    (a : AreParametersRead s old 3 is_first mark start argument) (has_pack : argument.has_pack ≡ true) → argument.elements ≡ 0
    → argument.before ≤ most_by_digit → StandsAt s.bytes old.at (expansion_letters pattern argument.before)
    → new.text ≡ old.text → new.candidates.list.items ≡ old.candidates.list.items ++ replicate (2 + length (pattern_letters pattern)) hidden
    → new.has_scope ≡ old.has_scope → new.at ≡ old.at + length (expansion_letters pattern argument.before) → IsFunctionEnded s new mark start
unfolding is_void
nothing-read s pattern old new is_first mark start argument a has_pack none below stands text candidates scope_ at =
    let k = argument.before in
    let f = a.is_function in
    let packed = f.names.1 has_pack in
    let t = expansion (made_by pattern (parameter k)) in
    let goes = expansion-goes s pattern old is_first mark start argument a has_pack below stands in
    nothing-ended s old new is_first mark start argument a t (expansion-kept s old new a.goes.around pattern k goes.0 a.kept text candidates scope_) text
    (expansion-empty f.own packed.all k packed.elements pattern (packed.are.size ∙ none) packed.all_are packed.there.0) refl
    (subst (λ j. ParametersGoOn s argument a.lead a.make (a.ts ++ t ∷ []) j (with_expansion pattern k goes.0 a.goes.around a.state)) (sym at) goes.1)
