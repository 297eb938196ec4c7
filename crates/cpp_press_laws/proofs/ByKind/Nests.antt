-- Names between N and E that were read, part by part: what is read after the name so far makes a name that fits in each of its ways.
use Rattle.cpp_press_laws.proofs.Basics.{◌≡◌, ℕ, [], ◌∷◌, Bool, true, false, Result, Ok, Err, refl, sym, subst, Refusal, Next, ◌>>=◌, Kind, Production, Operation, alternatives, number_of_kind, parts_of, number_of, Term, in_std, instance, parameter, source, State, Around, prefix_tree, prefix_listed, Value, tree, tree_of, piece_of, text_of, part, appended, with_prefix, parameter_named, after, inside, extended, applied, no_items, named_so_far, listed_so_far, parameter_so_far, index_of, between, meaning, is_encoding, begins_name, names_type, names_function, names_member}
use Rattle.cpp_grammar.specs.Unfolding as unfolding_
use Rattle.cpp_press_laws.proofs.Fits.Read.{Wherever}
use Rattle.cpp_press_laws.proofs.Fits.Names.{PrefixFits, PieceFits}
use Rattle.cpp_press_laws.proofs.Fits.Nests.{NestFits}
use Rattle.cpp_press_laws.proofs.Fits.Solids.{LambdasAreBare, ParameterNamed, parameter-names}
use Rattle.cpp_press_laws.proofs.Fits.Rests.{NestRead, SoFarFits, component-read, std-read}
use Rattle.cpp_press_laws.proofs.Fits.Firsts.{BeginsName, named-so-far, parameter-so-far, piece-so-far, arguments-so-far}
use Rattle.cpp_press_laws.proofs.ByKind.Pieces.{type-begins, begins-function, function-member}
use Rattle.cpp_press_laws.proofs.ByKind.Rules.{OneOf, IsAmong}
use Rattle.cpp_press_laws.proofs.ByKind.Known.{KindRead, OpenedRead, opened-read, by-parts, BranchRead, Unless, one-read, OneRead}
use Rattle.cpp_press_laws.proofs.ByKind.Pieced.{PieceRead, renamed, name-piece, source-comes, internal-comes, local-type-comes, other-operator-comes, operator-with-c-comes, constructor-comes, destructor-comes}

-- ## After a name so far

-- the name so far ends here
nest-end : (outer : Around) (t : Term) (start : State) (at : ℕ) (old : State) (v : Value) (new : State) → NestFits outer t start old
    → OpenedRead Kind.NestTail (after t false outer) at old v new Production.NestEnd → NestRead outer v start new
unfolding parts_of after prefix_tree prefix_listed tree_of meaning unfolding_.behind
nest-end outer t start at old v new nest o =
    by-parts (λ w s. NestRead outer w start s) Production.NestEnd tt tt o (refl, nest)

-- a further piece after what fits as a prefix
nest-next : (kind : Kind) (outer : Around) (t : Term) (listed : Bool) (start : State) (at : ℕ) (old : State) (v : Value) (new : State)
    → Wherever outer start (is_encoding t ≡ false) → PrefixFits outer t start (with_prefix (after t listed outer) old)
    → OpenedRead kind (after t listed outer) at old v new Production.NestNext → NestRead outer v start new
unfolding parts_of number_of_kind between after prefix_tree meaning part unfolding_.behind
nest-next kind outer t listed start at old v new apart prefix o =
    by-parts (λ w s. NestRead outer w start s) Production.NestNext tt tt o (λ w s one x q two.
    two Kind.NestTail refl outer (tree_of w) start refl (one Kind.Component refl outer t listed start refl apart prefix).1)

-- arguments, which end a prefix, and a further piece
nest-arguments : (kind : Kind) (outer : Around) (t : Term) (listed : Bool) (start : State) (at : ℕ) (old : State) (v : Value) (new : State)
    → SoFarFits outer t listed start old → OpenedRead kind (after t listed outer) at old v new Production.NestArguments
    → NestRead outer v start new
unfolding parts_of number_of_kind between listed_so_far after inside prefix_tree is_encoding meaning part unfolding_.behind
nest-arguments kind outer t listed start at old v new so_far o =
    by-parts (λ w s. NestRead outer w start s) Production.NestArguments tt tt o (λ a s given b r end c q one d u two.
    let own : Term = instance t (no_items a) in
    let prefix : PrefixFits outer own start (appended (after t listed outer) own r) =
    subst (λ s. PrefixFits outer own start (appended (after t listed outer) own s)) (sym end.0)
    (arguments-so-far outer t listed a start old s so_far (given Kind.ArgumentsFirst refl refl)) in
    two Kind.NestTail refl outer (tree_of c) start refl (one Kind.Component refl outer own false start refl (λ n place cs front. refl) prefix).1)

-- arguments of a name that an S denotes, and a further piece
nest-instance : (outer : Around) (t : Term) (listed : Bool) (start : State) (at : ℕ) (old : State) (v : Value) (new : State)
    → SoFarFits outer t listed start old → OpenedRead Kind.NestRestOrEnd (after t listed outer) at old v new Production.NestInstance
    → NestRead outer v start new
unfolding parts_of number_of_kind between named_so_far after inside prefix_tree prefix_listed with_prefix appended is_encoding meaning part unfolding_.behind
nest-instance outer t listed start at old v new so_far o =
    by-parts (λ w s. NestRead outer w start s) Production.NestInstance tt tt o (λ a s given b r end d u more.
    let own : Term = instance t (no_items a) in
    more Kind.NestMoreOrEnd refl outer own start refl (λ n place cs front. refl)
    (subst (λ s. PrefixFits outer own start (appended (after t listed outer) own s)) (sym end.0)
    (arguments-so-far outer t listed a start old s so_far (given Kind.ArgumentsFirst refl refl))))

pub nest-more-or-end-branch : BranchRead Kind.NestMoreOrEnd
unfolding alternatives
nest-more-or-end-branch rule taken parts all around at old v new front is e outer t start same apart prefix =
    let o = subst (λ r. OneOf (alternatives Kind.NestMoreOrEnd) (OpenedRead Kind.NestMoreOrEnd r at old v new)) same
    (opened-read Kind.NestMoreOrEnd rule taken parts all around at old v new front is e) in
    nest-next Kind.NestMoreOrEnd outer t false start at old v new apart prefix o

pub nest-rest-or-end-branch : BranchRead Kind.NestRestOrEnd
unfolding alternatives number_of
nest-rest-or-end-branch rule taken parts all around at old v new front is e outer t listed start same so_far =
    let one = subst (λ r. OneRead Kind.NestRestOrEnd r at old v new) same
    (one-read Kind.NestRestOrEnd rule taken parts all around at old v new front is e) in
    arm one.0 one.1 one.2
  where
    arm : (p : Production) → IsAmong (alternatives Kind.NestRestOrEnd) p → OpenedRead Kind.NestRestOrEnd (after t listed outer) at old v new p
        → NestRead outer v start new
    arm Production.NestInstance here o = nest-instance outer t listed start at old v new so_far o
    arm Production.NestNext here o = nest-next Kind.NestRestOrEnd outer t listed start at old v new so_far.apart so_far.prefix o
    arm (Production.Operation Operation.ExpressionC) here o = absurd here
    arm p here o = absurd here

pub nest-tail-branch : BranchRead Kind.NestTail
unfolding alternatives with_prefix after prefix_tree prefix_listed appended number_of
nest-tail-branch rule taken parts all around at old v new front is e outer t start same nest =
    let one = subst (λ r. OneRead Kind.NestTail r at old v new) same
    (one-read Kind.NestTail rule taken parts all around at old v new front is e) in
    arm one.0 one.1 one.2
  where
    arm : (p : Production) → IsAmong (alternatives Kind.NestTail) p → OpenedRead Kind.NestTail (after t false outer) at old v new p
        → NestRead outer v start new
    arm Production.NestEnd here o = nest-end outer t start at old v new nest o
    arm Production.NestNext here o = nest-next Kind.NestTail outer t false start at old v new (λ n place cs front. nest.apart) nest.prefix o
    arm (Production.Operation Operation.ExpressionC) here o = absurd here
    arm p here o = absurd here

pub nest-rest-branch : BranchRead Kind.NestRest
unfolding alternatives number_of
nest-rest-branch rule taken parts all around at old v new front is e outer t listed start same so_far =
    let one = subst (λ r. OneRead Kind.NestRest r at old v new) same
    (one-read Kind.NestRest rule taken parts all around at old v new front is e) in
    arm one.0 one.1 one.2
  where
    arm : (p : Production) → IsAmong (alternatives Kind.NestRest) p → OpenedRead Kind.NestRest (after t listed outer) at old v new p
        → NestRead outer v start new
    arm Production.NestArguments here o = nest-arguments Kind.NestRest outer t listed start at old v new so_far o
    arm Production.NestNext here o = nest-next Kind.NestRest outer t listed start at old v new so_far.apart so_far.prefix o
    arm (Production.Operation Operation.ExpressionC) here o = absurd here
    arm p here o = absurd here

pub nest-rest-alone-branch : BranchRead Kind.NestRestAlone
unfolding alternatives number_of
nest-rest-alone-branch rule taken parts all around at old v new front is e outer t listed start same so_far =
    let one = subst (λ r. OneRead Kind.NestRestAlone r at old v new) same
    (one-read Kind.NestRestAlone rule taken parts all around at old v new front is e) in
    arm one.0 one.1 one.2
  where
    arm : (p : Production) → IsAmong (alternatives Kind.NestRestAlone) p → OpenedRead Kind.NestRestAlone (after t listed outer) at old v new p
        → NestRead outer v start new
    arm Production.NestArguments here o = nest-arguments Kind.NestRestAlone outer t listed start at old v new so_far o
    arm Production.NestNext here o = nest-next Kind.NestRestAlone outer t listed start at old v new so_far.apart so_far.prefix o
    arm (Production.Operation Operation.ExpressionC) here o = absurd here
    arm p here o = absurd here

-- ## A piece after a prefix

component-piece : (outer : Around) (t : Term) (listed : Bool) (start old : State) (v : Value) (new : State) → Wherever outer start (is_encoding t ≡ false)
    → PrefixFits outer t start old → PieceRead names_member (after t listed outer) v old new → NestRead outer v start new
unfolding extended after
component-piece outer t listed start old v new apart prefix o =
    subst (λ w. NestRead outer w start new) (sym o.value)
    (component-read outer t o.piece listed o.arguments start old o.mid new apart o.named prefix o.fits o.later)

pub component-after-c-branch : BranchRead Kind.ComponentAfterC
unfolding alternatives
component-after-c-branch rule taken parts all around at old v new front is e outer t listed start same apart prefix =
    let o = subst (λ r. OneOf (alternatives Kind.ComponentAfterC) (OpenedRead Kind.ComponentAfterC r at old v new)) same
    (opened-read Kind.ComponentAfterC rule taken parts all around at old v new front is e) in
    component-piece outer t listed start old v new apart prefix
    (renamed names_function names_member inner v old new function-member (operator-with-c-comes Kind.ComponentAfterC inner at old v new o))
  where
    inner : Around
    inner = after t listed outer

pub constructor-after-c-branch : BranchRead Kind.ConstructorAfterC
unfolding alternatives
constructor-after-c-branch rule taken parts all around at old v new front is e outer t listed start same apart prefix =
    let o = subst (λ r. OneOf (alternatives Kind.ConstructorAfterC) (OpenedRead Kind.ConstructorAfterC r at old v new)) same
    (opened-read Kind.ConstructorAfterC rule taken parts all around at old v new front is e) in
    component-piece outer t listed start old v new apart prefix (constructor-comes Kind.ConstructorAfterC inner at old v new o)
  where
    inner : Around
    inner = after t listed outer

pub component-branch : BranchRead Kind.Component
unfolding alternatives parts_of number_of_kind between meaning part unfolding_.behind number_of
component-branch rule taken parts all around at old v new front is e outer t listed start same apart prefix =
    let one = subst (λ r. OneRead Kind.Component r at old v new) same
    (one-read Kind.Component rule taken parts all around at old v new front is e) in
    arm one.0 one.1 one.2
  where
    inner : Around
    inner = after t listed outer

    piece : PieceRead names_member inner v old new → NestRead outer v start new
    piece o = component-piece outer t listed start old v new apart prefix o

    begun : (p : Term) → begins_name p ≡ true → names_member p ≡ true
    begun p begins = function-member p (begins-function p begins)

    typed : PieceRead names_type inner v old new → NestRead outer v start new
    typed o = piece (renamed names_type names_member inner v old new (λ p names. begun p (type-begins p names)) o)

    arm : (p : Production) → IsAmong (alternatives Kind.Component) p → OpenedRead Kind.Component inner at old v new p → NestRead outer v start new
    arm Production.AnyConstructor here o = by-parts (λ w s. NestRead outer w start s) Production.AnyConstructor tt tt o
        (λ w s one. one Kind.ConstructorAfterC refl outer t listed start refl apart prefix)
    arm Production.Destructor here o = piece (destructor-comes Kind.Component inner at old v new o)
    arm Production.InternalName here o = piece (renamed begins_name names_member inner v old new begun (internal-comes Kind.Component inner at old v new o))
    arm Production.LocalTypeName here o = typed (local-type-comes Kind.Component inner at old v new o)
    arm Production.SourceName here o = typed (source-comes Kind.Component inner at old v new o)
    arm Production.ComponentWithC here o = by-parts (λ w s. NestRead outer w start s) Production.ComponentWithC tt tt o
        (λ w s one. one Kind.ComponentAfterC refl outer t listed start refl apart prefix)
    arm Production.OtherOperatorName here o = piece (renamed names_function names_member inner v old new function-member (other-operator-comes Kind.Component inner at old v new o))
    arm (Production.Operation Operation.ExpressionC) here o = absurd here
    arm p here o = absurd here

-- ## The first part

-- the name so far, after a piece
nest-piece : (around : Around) (p : Term) (old mid : State) (w : Value) (new : State) → BeginsName around → begins_name p ≡ true
    → PieceFits around p old mid → KindRead Kind.NestRest (after (extended around.prefix p) false around) w mid new
    → NestRead around w old new
nest-piece around p old mid w new begins names one rest =
    rest around (extended around.prefix p) false old refl (piece-so-far around p old mid begins names one)

-- what follows a parameter, once the parameter is named
pub parameter-goes : (around : Around) (at k : ℕ) (state : State) (rest : Next Value State Around → Type 0)
    → ((s : State) → ParameterNamed around k state s
    → rest (record { values = tree (parameter k) true ∷ []; context = after (parameter k) true around; state = s }))
    → Unless (parameter_so_far around at k [] state) rest
unfolding parameter_so_far listed_so_far
parameter-goes around at k state rest further = go (parameter_named around at k state) refl
  where
    go : (r : Result State Refusal) → parameter_named around at k state ≡ r → Unless (r >>= λ s. listed_so_far around (parameter k) [] s) rest
    go (Ok s) is = further s (parameter-names around at k state s is)
    go (Err d) is = tt

-- a parameter that wasn't refused
nest-parameter : (around : Around) (at : ℕ) (old : State) (v : Value) (new : State) → LambdasAreBare around
    → OpenedRead Kind.Nest around at old v new Production.NestParameter → NestRead around v old new
unfolding parts_of number_of_kind between parameter_so_far listed_so_far meaning part unfolding_.behind
nest-parameter around at old v new bare o =
    by-parts (λ w s. NestRead around w old s) Production.NestParameter tt tt o (λ w s digits. parameter-goes around at (index_of w) s _ (λ t named b q more.
    more Kind.NestRestAlone refl around (parameter (index_of w)) true old refl
    (parameter-so-far around (index_of w) old t (subst (λ u. ParameterNamed around (index_of w) u t) digits.0 named) bare)))

pub nest-branch : BranchRead Kind.Nest
unfolding alternatives parts_of number_of_kind between named_so_far begins_name meaning part unfolding_.behind number_of
nest-branch rule taken parts all around at old v new front is e begins =
    let one = one-read Kind.Nest rule taken parts all around at old v new front is e in
    arm one.0 one.1 one.2
  where
    arm : (p : Production) → IsAmong (alternatives Kind.Nest) p → OpenedRead Kind.Nest around at old v new p → NestRead around v old new
    arm Production.NestWithS here o = by-parts (λ w s. NestRead around w old s) Production.NestWithS tt tt o (λ w s one. one Kind.NestAfterS refl begins)
    arm Production.NestParameter here o = nest-parameter around at old v new front.placed.lambda o
    arm Production.NestInternal here o = by-parts (λ w s. NestRead around w old s) Production.NestInternal tt tt o (λ w s one x q more.
        nest-piece around (source true (text_of w)) old s x q begins refl (name-piece around true w old s one) (more Kind.NestRest refl))
    arm Production.NestLocalType here o = by-parts (λ w s. NestRead around w old s) Production.NestLocalType tt tt o (λ w s read x q more.
        let one = read Kind.Anonymous refl in nest-piece around (piece_of w) old s x q begins one.1 one.2 (more Kind.NestRest refl))
    arm Production.NestSource here o = by-parts (λ w s. NestRead around w old s) Production.NestSource tt tt o (λ w s one x q more.
        nest-piece around (source false (text_of w)) old s x q begins refl (name-piece around false w old s one) (more Kind.NestRest refl))
    arm (Production.Operation Operation.ExpressionC) here o = absurd here
    arm p here o = absurd here

-- ## After an S

pub nest-after-s-branch : BranchRead Kind.NestAfterS
unfolding alternatives parts_of number_of_kind between named_so_far listed_so_far tree_of meaning part unfolding_.behind number_of
nest-after-s-branch rule taken parts all around at old v new front is e begins =
    let one = one-read Kind.NestAfterS rule taken parts all around at old v new front is e in
    arm one.0 one.1 one.2
  where
    arm : (p : Production) → IsAmong (alternatives Kind.NestAfterS) p → OpenedRead Kind.NestAfterS around at old v new p → NestRead around v old new
    arm Production.NestStd here o = by-parts (λ w s. NestRead around w old s) Production.NestStd tt tt o (λ w s read b q more c u rest.
        let one = read Kind.Unqualified refl in
        rest Kind.NestTail refl around (applied (in_std (piece_of w)) b) old refl
        (std-read around (piece_of w) b old s q one.0 one.1 (more Kind.MaybeArguments refl)).1)
    arm Production.NestTemplate here o = by-parts (λ w s. NestRead around w old s) Production.NestTemplate tt tt o (λ w s one b q more.
        more Kind.NestRestOrEnd refl around (tree_of w) true old refl (named-so-far around w old s (one Kind.Abbreviation refl)))
    arm (Production.Operation Operation.ExpressionC) here o = absurd here
    arm p here o = absurd here
