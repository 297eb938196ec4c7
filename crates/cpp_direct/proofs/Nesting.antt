-- Nested names are read and written from left to right.
use Rattle.cpp_direct.proofs.AllGround.{named_by, abbreviation, abbreviation_texts, after, alone, arguments_of, Around, counted_value, Detail, found, has_return_type, in_std, inside, instance, is_function_type, is_structor, Kind, look_up, may_be_empty, no_items, same_bytes, source, source_text, State, Term, tree, with_tag, ◌≡◌, ◌≢◌, ℕ, ◌+◌, ◌-◌, ◌≤◌, List, [], ◌∷◌, ◌++◌, length, take, drop, reverse, slice_get, Bool, true, false, Some, refl, ap, sym, ◌∙◌, subst, arith, codes, append-nil, append_assoc, length-append, nat_eq, ◌&&◌, Ok, false≢true, eqb-true, take-append-drop, abbreviation_letters, added, added_unless, argument_of, Arguments, AwaitsNest, below, Candidate, detail_of, Direct, HasArguments, HasSingles, is_abbreviated, is_type, is_unmarked, IsMadeIn, IsNameEnded, IsNaming, IsNest, IsNesting, IsNestKnown, IsNestNamed, IsNestScoped, IsNestSoFar, IsOperatorRead, IsOwn, IsScoped, IsUnmarked, IsWriting, Kept, Lists, Mark, Names, NamesClass, Nest, nowhere, Open, opening_bracket, OpensArguments, Prints, PrintsAs, Purpose, Reads, Scope, Serves, Symbol, tag_text, AwaitsComponent, Comes, IsFirstRest, IsNameAt, IsRest, IsSeqAt, IsTagAt, NestGoesOn, Opened, SamePasses, StandsAt, unless_listed, with_candidate, NumberKind, Step, name-unmarked, no-arguments, scoped-inside, has-member, alone-arguments, any-tail, expects-empty, stands-join, comes-moved, kept-grown, kept-read, kept-same, made-here, candidate-found, piece-found, nest-stays, value-comes, list-begins, type-named, kept-unless, kept-with, placed-last, placed-moved, arguments-open, substituted-so, nest-source, nest-abbreviation, nest-substitution, nest-std, component-awaits, component-outside, any-arguments, instance-arguments, nest-end, tag-follows, as-name, source-prints, source-class, std-prints, std-class, abbreviation-prints, abbreviation-class, prints-as, no-module}
use Rattle.cpp_direct.proofs.LettersTested.{each_passes, tested}
use Rattle.cpp_direct.proofs.NamedArguments.{again-substituted, named-here}
use Rattle.cpp_direct.proofs.PrintedNests.{tagged-as, std-tagged, again-tagged}
use Rattle.cpp_direct.proofs.TypesRead.{abbreviation-listed}
use Rattle.cpp_grammar.specs.Values as values

-- ## What types may name

-- types in a nested name that continues may name the same arguments as before
pub nest-scoped : (s : Symbol) {scope : Scope} (old new : Direct) (around : Around) → new.waiting.list.items ≡ old.waiting.list.items
    → new.nest.purpose ≡ old.nest.purpose → new.nest.is_dependent ≡ old.nest.is_dependent → IsNestScoped s scope old around → IsNestScoped s scope new around
nest-scoped s {scope} old new around waiting_is purpose_same dependent_same n = record {
  scoped = λ e. subst (λ (o : List Open). IsScoped scope around (reverse o)) (sym waiting_is) (n.scoped (ap is_type (sym purpose_same) ∙ e));
  naming = λ e. subst (λ (o : List Open). IsNaming scope (reverse o)) (sym waiting_is) (n.naming (sym dependent_same ∙ e));
}

-- types in a nested name may name what types may name where the nested name begins
nest-placed : (s : Symbol) {scope : Scope} (old new : Direct) (around : Around) (purpose : Purpose)
    → (is_type purpose ≡ true → IsScoped scope around (reverse old.waiting.list.items)) → new.waiting ≡ old.waiting → new.nest.purpose ≡ purpose
    → (new.nest.is_dependent ≡ true → IsNaming scope (reverse old.waiting.list.items)) → IsNestScoped s scope new around
nest-placed s {scope} old new around purpose scoped waiting_is purpose_is naming = record {
  scoped = λ e. subst (λ o. IsScoped scope around (reverse o.list.items)) (sym waiting_is) (scoped (ap is_type (sym purpose_is) ∙ e));
  naming = λ e. subst (λ o. IsNaming scope (reverse o.list.items)) (sym waiting_is) (naming e);
}

-- a nested name stays one when more is written, or when the rest of the writer changes
abbrev pub nest-further : (s : Symbol) {scope : Scope} (old new : Direct) {t : Term} (n : IsNestSoFar s scope old t) (u : Term) (bytes : List ℕ)
    → new.text.list.items ≡ n.front ++ bytes → new.waiting.list.items ≡ old.waiting.list.items → new.nest.purpose ≡ old.nest.purpose
    → new.nest.is_dependent ≡ old.nest.is_dependent → IsNest (detail_of s) scope.names n.front bytes new.text.list.items new.nest u → IsNestSoFar s scope new u
nest-further s {scope} old new n u bytes written waiting_is purpose_same dependent_same is_nest = record {
  around = n.around;
  outer = n.outer;
  front = n.front;
  bytes = bytes;
  written = written;
  is_nest = is_nest;
  scoped = nest-scoped s old new n.around waiting_is purpose_same dependent_same n.scoped;
  serves = subst (λ (o : List Open). Serves s new.nest.purpose (below s scope (reverse o)) n.outer n.front) (sym waiting_is)
      (subst (λ (p : Purpose). Serves s p (below s scope (reverse old.waiting.list.items)) n.outer n.front) (sym purpose_same) n.serves);
}

-- if a nested name names arguments, it is in the encoding that has them
nest-here : (s : Symbol) {scope : Scope} (w : Direct) (around : Around) → IsNestScoped s scope w around → (IsOwn w.nest.purpose → w.nest.is_dependent ≡ false)
    → w.nest.is_dependent ≡ true → IsMadeIn scope around.encoding around.in_lambda
nest-here s {scope} w around n closed e =
    made-here scope around (reverse w.waiting.list.items) (n.scoped (type-named w.nest.purpose w.nest.is_dependent closed e)) (n.naming e)

-- a tree that names no arguments prints its text anywhere
pub closed-prints : {detail : Detail} (names : Names) {d : Bool} {t : Term} {bytes : List ℕ} → d ≡ false → PrintsAs detail names d t bytes false → Prints detail t bytes false
closed-prints {detail} names {t = t} {bytes = bytes} closed prints = subst (λ b. PrintsAs detail names b t bytes false) closed prints

-- a tree that prints a text is no function type
no-function : (detail : Detail) (names : Names) (d : Bool) (t : Term) (bytes : List ℕ) → PrintsAs detail names d t bytes false → is_function_type t ≡ false
no-function detail names true t bytes prints = prints.no_function
no-function detail names false t bytes prints = prints.no_function

-- ## A name with or without arguments

-- no arguments follow a name
pub named-goes-on : (s : Symbol) (w : Direct) → IsNestNamed s w → IsWriting s w Step.Tail
unfolding may_be_empty
named-goes-on s w n = record {
  kept = n.kept;
  is_before = (
    n.own,
    record {
      so_far = n.so_far;
      goes = subst (λ b. NestGoesOn s Kind.NestTail n.outer n.around n.own b w.at n.state) (sym n.unlisted)
          (n.named.bare w.at n.state (expects-empty s Kind.MaybeArguments (after n.own false n.around) n.named.inner w.at n.state n.named.awaits refl));
    },
    (λ own e. n.no_return),
    (λ e. absurd (false≢true (sym (ap (λ b. b && w.nest.has_class) n.no_instance) ∙ e))),
    (λ e. absurd (false≢true (sym n.no_instance ∙ e))),
  );
}

-- a tag follows a name
pub named-tagged : (s : Symbol) (old new : Direct) (tag : List ℕ) → s.is_wide ≡ true → IsNestNamed s old → IsTagAt s.bytes old.at tag new.at
    → Reads old new (tag_text tag) → IsNestNamed s new
unfolding with_tag has_return_type arguments_of is_structor
named-tagged s old new tag wide n is reads =
    let g = tag-follows s n.named.inner n.around n.own old.at n.state tag new.at wide n.named.awaits is in
    let own : Term = with_tag n.own tag in
    let plain = name-unmarked s.bytes (old.at + 1) tag new.at is.1 in
    let names = n.scope.names in
    let prints = tagged-as (detail_of s) names old.nest.is_dependent (is_structor n.own) n.own n.bytes n.is_nest.prints tag plain in
    let written : new.text.list.items ≡ n.front ++ (n.bytes ++ tag_text tag)
    = reads.text ∙ ap (λ l. l ++ tag_text tag) n.written ∙ append_assoc n.front n.bytes (tag_text tag) in
    let nest = sym reads.nest in
    let classed : new.nest.has_class ≡ true → old.nest.has_class ≡ true = λ e. ap (λ x. x.has_class) nest ∙ e in
    let closed : new.nest.is_dependent ≡ false → old.nest.is_dependent ≡ false = λ e. ap (λ x. x.is_dependent) nest ∙ e in
    let is_nest : IsNest (detail_of s) names n.front (n.bytes ++ tag_text tag) new.text.list.items new.nest own = record {
      back = [];
      written = written ∙ sym (append-nil (n.front ++ (n.bytes ++ tag_text tag)));
      from_is = ap (λ x. x.from) reads.nest ∙ n.is_nest.from_is;
      prints = subst (λ b. PrintsAs (detail_of s) names b own (n.bytes ++ tag_text tag) false) (ap (λ x. x.is_dependent) nest) prints;
      closed = subst (λ x. IsOwn x.purpose → x.is_dependent ≡ false) nest n.is_nest.closed;
      class = n.is_nest.class;
      class_placed = placed-moved old.text.list.items (tag_text tag) n.is_nest.class reads.text (ap (λ x. x.class_from) reads.nest) (ap (λ x. x.class_to) reads.nest)
          n.is_nest.class_placed;
      names_class = λ e none. n.names_tagged (classed e) (closed none) tag plain;
    } in
    record {
      kept = kept-read s old new (tag_text tag) reads n.kept;
      own = own;
      so_far = nest-further s old new n.so_far own (n.bytes ++ tag_text tag) written (ap (λ v. v.list.items) reads.waiting) (ap (λ x. x.purpose) reads.nest)
          (ap (λ x. x.is_dependent) reads.nest) is_nest;
      named = record {
        inner = g.inner;
        awaits = g.awaits;
        bare = λ at st comes. n.named.renamed own at st (g.bare at st comes);
        argued = λ a at st comes. n.named.renamed (instance own a) at st (g.argued a at st comes);
        renamed = λ u at st comes. n.named.renamed u at st (g.renamed u at st comes);
      };
      names_tagged = λ e none more more_plain.
          again-tagged (is_structor n.own) n.own n.bytes (closed-prints names (closed none) n.is_nest.prints) tag more n.is_nest.class plain more_plain
          (n.names_tagged (classed e) (closed none) tag plain);
      unlisted = ap (λ x. x.is_listed) reads.nest ∙ n.unlisted;
      no_instance = ap (λ x. x.is_instance) reads.nest ∙ n.no_instance;
      no_return = refl;
      structor = λ e. n.structor (ap (λ x. x.has_class) nest ∙ e);
      no_structor = λ e. n.no_structor (classed e);
    }

-- arguments follow a name
pub named-opens : (s : Symbol) (old mid new : Direct) → IsNestNamed s old → StandsAt s.bytes old.at (73 ∷ [])
    → Lists old mid (added old old.nest.from false old.nest.is_dependent) → OpensArguments (detail_of s) mid new (Open.NestArguments mid.nest)
    → IsWriting s new (Step.List true)
unfolding inside
named-opens s old mid new n here lists opening_ =
    let begun = arguments-open s n.named.inner n.around n.own false old.at n.state
    (alone-arguments s (after n.own false n.around) n.named.inner old.at n.state n.named.awaits) here in
    list-begins s old mid new (added old old.nest.from false old.nest.is_dependent)
    (kept-with s old mid n.kept n.front n.bytes old.nest.from n.own n.around false old.nest.is_dependent n.written n.is_nest.from_is n.is_nest.prints
    (nest-here s old n.around n.scoped n.is_nest.closed) lists.text lists.candidates lists.scope) (Open.NestArguments old.nest) n.front n.bytes
    n.own lists (subst (λ x. OpensArguments (detail_of s) mid new (Open.NestArguments x)) lists.nest opening_)
    (nest-stays n.front n.bytes old.text.list.items (opening_bracket (detail_of s)) old.nest n.own n.is_nest, (λ own. n.structor), n.no_structor) n.written (
      inside n.around,
      begun.inner,
      refl,
      (λ within. scoped-inside n.scope n.around (reverse old.waiting.list.items) (n.scoped.scoped within)),
      begun.awaits,
      (λ l at st comes ended. (
        n.around,
        n.outer,
        n.named.argued (no_items l) (at + 1) st (begun.onward l at st comes ended),
        n.scoped.scoped,
        n.scoped.naming,
        n.serves,
      )),
    )

-- ## A substituted name

-- what follows a substituted name is read
pub known-goes-on : (s : Symbol) (w : Direct) → IsNestKnown s w → IsWriting s w Step.Rest
known-goes-on s w n = record { kept = n.kept; is_before = (n.own, Kind.NestRestOrEnd, tt, n.nesting) }

-- what is accepted inside is accepted outside
nest-outside : (s : Symbol) (kind : Kind) (inner outer : List Opened) (around : Around) (t : Term) (listed : Bool) (at : ℕ) (st : State)
    → SamePasses s inner outer → NestGoesOn s kind inner around t listed at st → NestGoesOn s kind outer around t listed at st
nest-outside s kind inner outer around t listed at st passes g =
    record { inner = g.inner; awaits = g.awaits; passes = λ v to later came. passes v to later (g.passes v to later came) }

-- in the wide grammar, a substituted name may end after its arguments
may-end : (s : Symbol) (outer : List Opened) (around : Around) (t : Term) (listed : Bool) (at : ℕ) (st : State) → s.is_wide ≡ true
    → NestGoesOn s Kind.NestMoreOrEnd outer around t listed at st → NestGoesOn s Kind.NestTail outer around t listed at st
may-end s outer around t listed at st wide g = record { inner = g.inner; awaits = any-tail s (after t listed around) g.inner at st wide g.awaits; passes = g.passes }

-- in the wide grammar, arguments follow a substituted name if the nested name is a type
pub known-opens : (s : Symbol) (old new : Direct) → IsNestKnown s old → s.is_wide ≡ true → old.nest.purpose ≡ Purpose.Type → StandsAt s.bytes old.at (73 ∷ [])
    → OpensArguments (detail_of s) old new (Open.NestArguments old.nest) → IsWriting s new (Step.List true)
unfolding inside
known-opens s old new n wide is_type here opening_ =
    let m = n.nesting in
    let g = subst (λ b. NestGoesOn s Kind.NestRestOrEnd m.outer m.around n.own b old.at n.state) n.listed m.goes in
    let begun = instance-arguments s g.inner m.around n.own true old.at n.state g.awaits here in
    let not_own : IsOwn old.nest.purpose → ⊥ = λ own. subst IsOwn is_type own in
    list-begins s old old new old.candidates.list.items n.kept (Open.NestArguments old.nest) m.front m.bytes n.own
    (record { candidates = refl; text = refl; waiting = refl; nest = refl; scope = refl; at = refl }) opening_ (
      nest-stays m.front m.bytes old.text.list.items (opening_bracket (detail_of s)) old.nest n.own m.is_nest,
      (λ own. absurd (not_own own)),
      n.no_structor,
    ) m.written (
      inside m.around,
      begun.inner,
      refl,
      (λ within. scoped-inside n.scope m.around (reverse old.waiting.list.items) (m.scoped.scoped within)),
      begun.awaits,
      (λ l at st comes ended. (
        m.around,
        m.outer,
        nest-outside s Kind.NestTail g.inner m.outer m.around (instance n.own (no_items l)) false (at + 1) st g.passes
            (may-end s g.inner m.around (instance n.own (no_items l)) false (at + 1) st wide (begun.onward l at st comes ended)),
        m.scoped.scoped,
        m.scoped.naming,
        m.serves,
      )),
    )

-- ## After a name so far

-- a component follows
pub component-next : (s : Symbol) (kind : Kind) (old new : Direct) (kept : Kept s old) (t : Term) → IsRest kind → IsNesting s kept.scope kind old t kept.state
    → Lists old new (added_unless old old.nest.is_listed old.nest.from old.nest.is_dependent) → IsWriting s new Step.Component
component-next s kind old new kept t rest n lists =
    let listed = old.nest.is_listed in
    let text_is : new.text.list.items ≡ old.text.list.items = cc (lists.text) in
    let waiting_is : new.waiting.list.items ≡ old.waiting.list.items = cc (lists.waiting) in
    let later = unless_listed listed n.around t kept.state in
    record {
      kept = kept-unless s old new kept listed n.front n.bytes old.nest.from t n.around old.nest.is_dependent n.written n.is_nest.from_is (λ e. n.is_nest.prints)
          (nest-here s old n.around n.scoped n.is_nest.closed) lists.text lists.candidates lists.scope;
      is_before = (
        t,
        nest-further s old new n.so_far t n.bytes (text_is ∙ n.written) waiting_is (ap (λ x. x.purpose) lists.nest) (ap (λ x. x.is_dependent) lists.nest)
            (subst (λ x. IsNest (detail_of s) kept.scope.names n.front n.bytes new.text.list.items x t) (sym lists.nest)
            (subst (λ l. IsNest (detail_of s) kept.scope.names n.front n.bytes l old.nest t) (sym text_is) n.is_nest)),
        subst (λ m. AwaitsComponent s n.outer n.around t m later) (sym lists.at)
            (component-outside s n.goes.inner n.outer n.around t old.at later n.goes.passes
            (component-awaits s kind n.goes.inner n.around t listed old.at kept.state rest n.goes.awaits)),
      );
    }

-- arguments of the first piece follow
pub first-opens : (s : Symbol) (kind : Kind) (old mid new : Direct) (kept : Kept s old) (t : Term) → IsFirstRest kind
    → IsNesting s kept.scope kind old t kept.state → StandsAt s.bytes old.at (73 ∷ [])
    → Lists old mid (added_unless old old.nest.is_listed old.nest.from old.nest.is_dependent) → OpensArguments (detail_of s) mid new (Open.FirstArguments mid.nest)
    → IsWriting s new (Step.List true)
unfolding inside
first-opens s kind old mid new kept t first n here lists opening_ =
    let around = n.around in
    let listed = old.nest.is_listed in
    let begun = any-arguments s kind n.goes.inner n.around t listed old.at kept.state first n.goes.awaits here in
    list-begins s old mid new (added_unless old listed old.nest.from old.nest.is_dependent)
    (kept-unless s old mid kept listed n.front n.bytes old.nest.from t around old.nest.is_dependent n.written n.is_nest.from_is (λ e. n.is_nest.prints)
    (nest-here s old around n.scoped n.is_nest.closed) lists.text lists.candidates lists.scope) (Open.FirstArguments old.nest) n.front n.bytes t
    lists (subst (λ x. OpensArguments (detail_of s) mid new (Open.FirstArguments x)) lists.nest opening_)
    (nest-stays n.front n.bytes old.text.list.items (opening_bracket (detail_of s)) old.nest t n.is_nest) n.written (
      inside n.around,
      begun.inner,
      refl,
      (λ within. scoped-inside kept.scope around (reverse old.waiting.list.items) (n.scoped.scoped within)),
      begun.awaits,
      (λ l at later comes ended. (
        n.around,
        n.outer,
        component-outside s n.goes.inner n.outer n.around (instance t (no_items l)) (at + 1)
            (with_candidate around (instance t (no_items l)) later) n.goes.passes (begun.onward l at later comes ended),
        n.scoped.scoped,
        n.scoped.naming,
        n.serves,
      )),
    )

-- ## The end of a nested name

-- a finished name is accepted outside
pub nest-comes : (s : Symbol) {scope : Scope} (old : Direct) (st : State) (t : Term) (n : IsNesting s scope Kind.NestTail old t st)
    → StandsAt s.bytes old.at (69 ∷ []) → Comes s n.outer (tree t old.nest.is_listed) (old.at + 1) st
nest-comes s old st t n here = n.goes.passes (tree t old.nest.is_listed) (old.at + 1) st
    (nest-end s n.goes.inner n.around t old.nest.is_listed old.at st n.goes.awaits here)

-- a finished nested name is a type
pub type-ended : (s : Symbol) (old new : Direct) (kept : Kept s old) (t : Term)
    → IsNesting s kept.scope Kind.NestTail old t kept.state → StandsAt s.bytes old.at (69 ∷ []) → old.nest.purpose ≡ Purpose.Type
    → Lists (record old { at = old.at + 1 }) new (added_unless old old.nest.is_listed old.nest.from old.nest.is_dependent)
    → IsWriting s new (Step.Value false old.nest.is_dependent)
type-ended s old new kept t n here is_type lists =
    let listed = old.nest.is_listed in
    let d = old.nest.is_dependent in
    let open_ = reverse old.waiting.list.items in
    let serves = subst (λ p. Serves s p (below s kept.scope open_) n.outer n.front) is_type n.serves in
    let text_is : new.text.list.items ≡ old.text.list.items = cc (lists.text) in
    let waiting_is : new.waiting.list.items ≡ old.waiting.list.items = cc (lists.waiting) in
    value-comes s new
    (kept-unless s old new kept listed n.front n.bytes old.nest.from t serves.1 d n.written n.is_nest.from_is (λ e. n.is_nest.prints)
    (λ e. made-here kept.scope serves.1 open_ serves.3 (n.scoped.naming e)) lists.text lists.candidates lists.scope)
    serves.0 t n.front n.bytes false d (text_is ∙ n.written) n.is_nest.prints (ap reverse waiting_is) n.scoped.naming
    (comes-moved s serves.0 (tree t true) (old.at + 1) new.at (unless_listed listed serves.1 t kept.state) (sym lists.at)
    (serves.2 t listed (old.at + 1) kept.state (no-function (detail_of s) kept.scope.names d t n.bytes n.is_nest.prints) (nest-comes s old kept.state t n here))) serves.4

-- the arguments that a nested name ends in were noted, or none are known
pub arguments-noted : {detail : Detail} (b : Bool) (text : List ℕ) (a r : Arguments) (t : Term) → (b ≡ true → r ≡ a) → (b ≡ false → r ≡ nowhere)
    → (b ≡ true → HasArguments detail text a t) → HasArguments detail text r t
arguments-noted {detail} true text a r t known none has = subst (λ (k : Arguments). HasArguments detail text k t) (sym (known refl)) (has refl)
arguments-noted {detail} false text a r t known none has = subst (λ (k : Arguments). HasArguments detail text k t) (sym (none refl)) (no-arguments text t)

-- a finished nested name is the name of the encoding
pub name-comes : (s : Symbol) (old : Direct) (kept : Kept s old) (t : Term) (mark : Mark) (is_function : Bool) (argument_ : Arguments)
    → IsNesting s kept.scope Kind.NestTail old t kept.state
    → (is_function ≡ false → has_return_type t ≡ false) → (is_function ≡ true → has_return_type t ≡ true)
    → HasArguments (detail_of s) old.text.list.items argument_ t → StandsAt s.bytes old.at (69 ∷ [])
    → old.nest.purpose ≡ Purpose.Name mark → IsNameEnded s (record old { at = old.at + 1 }) mark is_function argument_ old.nest.from
name-comes s old kept t mark is_function argument_ n no_return returns names here is_name =
    let serves = subst (λ p. Serves s p (below s kept.scope (reverse old.waiting.list.items)) n.outer n.front) is_name n.serves in
    record {
      kept = kept-same s old (record old { at = old.at + 1 }) refl refl refl kept;
      has = has-member s old.text.list.items mark old.nest.from t n.front n.bytes n.written n.is_nest.from_is
          (as-name t n.bytes false (closed-prints kept.scope.names (n.is_nest.closed (subst IsOwn (sym is_name) tt)) n.is_nest.prints));
      no_return = no_return;
      returns = returns;
      names = names;
      awaits = serves t old.nest.is_listed (old.at + 1) kept.state (nest-comes s old kept.state t n here);
    }

-- the E of a nested name is read after an operator that ends it
pub operator-ends : (s : Symbol) (w : Direct) (mark : Mark) → IsOperatorRead s w → StandsAt s.bytes w.at (69 ∷ [])
    → w.nest.purpose ≡ Purpose.Name mark → IsNameEnded s (record w { at = w.at + 1 }) mark false nowhere w.nest.from
unfolding may_be_empty
operator-ends s w mark p here is_name =
    let t = p.own in
    let st = p.state in
    let serves = subst (λ u. Serves s u (below s p.scope (reverse w.waiting.list.items)) p.outer p.front) is_name p.serves in
    let goes = p.named.bare w.at st (expects-empty s Kind.MaybeArguments (after t false p.around) p.named.inner w.at st p.named.awaits refl) in
    record {
      kept = kept-same s w (record w { at = w.at + 1 }) refl refl refl p.kept;
      has = has-member s w.text.list.items mark w.nest.from t p.front p.bytes p.written p.from_is p.prints;
      no_return = λ e. p.no_return;
      returns = λ e. absurd (false≢true e);
      names = no-arguments w.text.list.items p.own;
      awaits = serves t false (w.at + 1) st
          (goes.passes (tree t false) (w.at + 1) st (nest-end s goes.inner p.around t false w.at st goes.awaits here));
    }

-- ## The first piece

-- a name so far whose last piece names a class
abbrev class-nest : {detail : Detail} (names : Names) (text front before class : List ℕ) (nest : Nest) (t : Term) → text ≡ front ++ (before ++ class)
    → nest.from ≡ length front → nest.class_from ≡ length (front ++ before) → nest.class_to ≡ length text → nest.is_dependent ≡ false
    → Prints detail t (before ++ class) false → NamesClass detail t class → IsNest detail names front (before ++ class) text nest t
class-nest {detail} names text front before class nest t written from_is class_from class_to closed prints names_class = record {
  back = [];
  written = written ∙ sym (append-nil (front ++ (before ++ class)));
  from_is = from_is;
  prints = prints-as detail names nest.is_dependent t (before ++ class) false prints;
  closed = λ own. closed;
  class = class;
  class_placed = placed-last (front ++ before) class nest.class_from nest.class_to (written ∙ sym (append_assoc front before class)) class_from class_to;
  names_class = λ e none. names_class;
}

-- a name that a reference denotes
pub classless-nest : {detail : Detail} (names : Names) (front bytes : List ℕ) (nest : Nest) (t : Term) → nest.from ≡ length front → nest.class_from ≡ length front
    → nest.class_to ≡ length front → nest.has_class ≡ false → (IsOwn nest.purpose → nest.is_dependent ≡ false) → PrintsAs detail names nest.is_dependent t bytes false
    → IsNest detail names front bytes (front ++ bytes) nest t
classless-nest {detail} names front bytes nest t from_is class_from class_to none closed prints = record {
  back = [];
  written = sym (append-nil (front ++ bytes));
  from_is = from_is;
  prints = prints;
  closed = closed;
  class = [];
  class_placed = record {
    front = front;
    back = bytes;
    written = ap (λ l. l ++ bytes) (sym (append-nil front));
    from_is = class_from;
    to_is = omega (arith, class_to);
  };
  names_class = λ e closed. absurd (false≢true (sym none ∙ e));
}

-- the first piece of a nested name was read
abbrev first-so-far : (s : Symbol) (old new : Direct) (purpose : Purpose) (a : AwaitsNest s old purpose) (t : Term) (bytes : List ℕ)
    → new.text.list.items ≡ old.text.list.items ++ bytes → new.waiting ≡ old.waiting → new.nest.purpose ≡ purpose
    → (new.nest.is_dependent ≡ true → IsNaming a.scope (reverse old.waiting.list.items))
    → IsNest (detail_of s) a.scope.names old.text.list.items bytes new.text.list.items new.nest t → IsNestSoFar s a.scope new t
first-so-far s old new purpose a t bytes text_is waiting_is purpose_is naming is_nest = record {
  around = a.around;
  outer = a.outer;
  front = old.text.list.items;
  bytes = bytes;
  written = text_is;
  is_nest = is_nest;
  scoped = nest-placed s old new a.around purpose a.scoped waiting_is purpose_is naming;
  serves = subst (λ p. Serves s p (below s a.scope (reverse new.waiting.list.items)) a.outer old.text.list.items) (sym purpose_is)
      (subst (λ o. Serves s purpose (below s a.scope (reverse o.list.items)) a.outer old.text.list.items) (sym waiting_is) a.serves);
}

first-nesting : (s : Symbol) (old new : Direct) (purpose : Purpose) (a : AwaitsNest s old purpose) (kind : Kind) (t : Term) (bytes : List ℕ)
    → new.text.list.items ≡ old.text.list.items ++ bytes → new.waiting ≡ old.waiting → new.nest.purpose ≡ purpose
    → (new.nest.is_dependent ≡ true → IsNaming a.scope (reverse old.waiting.list.items))
    → IsNest (detail_of s) a.scope.names old.text.list.items bytes (old.text.list.items ++ bytes) new.nest t
    → NestGoesOn s kind a.outer a.around t new.nest.is_listed new.at a.state → IsNesting s a.scope kind new t a.state
first-nesting s old new purpose a kind t bytes text_is waiting_is purpose_is naming is_nest goes = record {
  so_far = first-so-far s old new purpose a t bytes text_is waiting_is purpose_is naming
      (subst (λ l. IsNest (detail_of s) a.scope.names old.text.list.items bytes l new.nest t) (sym text_is) is_nest);
  goes = goes;
}

-- the rest of a nested name is expected after its first piece
nest-begins : (s : Symbol) (old new : Direct) (purpose : Purpose) (a : AwaitsNest s old purpose) (t : Term) (bytes : List ℕ)
    → new.text.list.items ≡ old.text.list.items ++ bytes → new.candidates ≡ old.candidates → new.waiting ≡ old.waiting → new.has_scope ≡ old.has_scope
    → new.nest.purpose ≡ purpose → new.nest.is_dependent ≡ false
    → IsNest (detail_of s) a.scope.names old.text.list.items bytes (old.text.list.items ++ bytes) new.nest t
    → NestGoesOn s Kind.NestRestAlone a.outer a.around t new.nest.is_listed new.at a.state → IsWriting s new Step.Rest
nest-begins s old new purpose a t bytes text_is candidates_are waiting_is scope_same purpose_is closed is_nest goes = record {
  kept = kept-grown s old new bytes text_is candidates_are scope_same a.kept;
  is_before = (
    t,
    Kind.NestRestAlone,
    tt,
    first-nesting s old new purpose a Kind.NestRestAlone t bytes text_is waiting_is purpose_is (λ e. absurd (false≢true (sym closed ∙ e))) is_nest goes,
  );
}

-- the rest of a nested name is expected after a substituted name
known-begins : (s : Symbol) (old new : Direct) (purpose : Purpose) (a : AwaitsNest s old purpose) (t : Term) (bytes : List ℕ)
    → new.text.list.items ≡ old.text.list.items ++ bytes → new.candidates ≡ old.candidates → new.waiting ≡ old.waiting → new.has_scope ≡ old.has_scope
    → new.nest.purpose ≡ purpose → (new.nest.is_dependent ≡ true → IsNaming a.scope (reverse old.waiting.list.items))
    → IsNest (detail_of s) a.scope.names old.text.list.items bytes (old.text.list.items ++ bytes) new.nest t → new.nest.is_listed ≡ true
    → (new.nest.has_class ≡ true → is_structor t ≡ false)
    → NestGoesOn s Kind.NestRestOrEnd a.outer a.around t new.nest.is_listed new.at a.state → IsNestKnown s new
known-begins s old new purpose a t bytes text_is candidates_are waiting_is scope_same purpose_is naming is_nest listed no_structor goes = record {
  kept = kept-grown s old new bytes text_is candidates_are scope_same a.kept;
  own = t;
  nesting = first-nesting s old new purpose a Kind.NestRestOrEnd t bytes text_is waiting_is purpose_is naming is_nest goes;
  listed = listed;
  no_structor = no_structor;
}

-- the nested name so far, with the places between which its class is written
abbrev pub nest_of : (from class_from class_to : ℕ) → Purpose → (is_listed has_class : Bool) → Nest
nest_of from class_from class_to purpose is_listed has_class = record {
  from = from;
  class_from = class_from;
  class_to = class_to;
  purpose = purpose;
  is_listed = is_listed;
  has_class = has_class;
  is_instance = false;
  is_dependent = false;
}

-- a name begins a nested one
pub source-begins : (s : Symbol) (old mid : Direct) (purpose : Purpose) (name : List ℕ) → AwaitsNest s old purpose
    → IsNameAt s.bytes old.at name mid.at → name ≢ [] → Reads old mid (source_text name) → (from to : ℕ)
    → from ≡ length old.text.list.items → to ≡ length mid.text.list.items
    → IsWriting s (record mid { nest = nest_of from from to purpose false true }) Step.Rest
source-begins s old mid purpose name a is filled reads from to from_is to_is =
    let nest = nest_of from from to purpose false true in
    let t : Term = alone (source false name) in
    nest-begins s old (record mid { nest = nest }) purpose a t (source_text name) reads.text reads.candidates reads.waiting reads.scope refl refl
    (class-nest a.scope.names (old.text.list.items ++ source_text name) old.text.list.items [] (source_text name) nest t refl from_is
    (from_is ∙ ap length (sym (append-nil old.text.list.items))) (to_is ∙ ap length reads.text) refl
    (source-prints false name filled (name-unmarked s.bytes old.at name mid.at is)) (source-class false name filled (name-unmarked s.bytes old.at name mid.at is)))
    (nest-source s a.outer a.around old.at a.state name mid.at a.outside a.awaits is)

-- the text of an abbreviation has five bytes before the name of a class
letter-class : (letter : ℕ) → look_up (letter ∷ []) abbreviation_texts ≢ []
    → (length (take 5 (look_up (letter ∷ []) abbreviation_texts)) ≡ 5) × IsUnmarked (drop 5 (look_up (letter ∷ []) abbreviation_texts))
unfolding is_abbreviated look_up abbreviation_texts same_bytes each_passes
letter-class letter there =
    let is = abbreviation-listed letter there in (
      eqb-true (length (take 5 (look_up (letter ∷ []) abbreviation_texts))) 5
          (tested abbreviation_letters (λ b. nat_eq (length (take 5 (look_up (b ∷ []) abbreviation_texts))) 5) refl letter is),
      tested abbreviation_letters (λ b. is_unmarked (drop 5 (look_up (b ∷ []) abbreviation_texts))) refl letter is,
    )

-- an abbreviation begins a nested name
pub abbreviation-begins : (s : Symbol) (old mid : Direct) (purpose : Purpose) (letter : ℕ) → AwaitsNest s old purpose → StandsAt s.bytes old.at (83 ∷ [])
    → (letter ≢ 0 → StandsAt s.bytes (old.at + 1) (letter ∷ [])) → look_up (letter ∷ []) abbreviation_texts ≢ []
    → mid.text.list.items ≡ old.text.list.items ++ look_up (letter ∷ []) abbreviation_texts → mid.candidates ≡ old.candidates → mid.waiting ≡ old.waiting
    → mid.has_scope ≡ old.has_scope → mid.at ≡ old.at + 1 + 1 → (from class_from to : ℕ) → from ≡ length old.text.list.items → class_from ≡ from + 5
    → to ≡ length mid.text.list.items → IsNestKnown s (record mid { nest = nest_of from class_from to purpose true true })
unfolding look_up abbreviation_texts same_bytes is_structor
abbreviation-begins s old mid purpose letter a here behind there text_is candidates_are waiting_is scope_same at_is from class_from to from_is class_from_is to_is =
    let nest = nest_of from class_from to purpose true true in
    let t : Term = abbreviation letter in
    let b = look_up (letter ∷ []) abbreviation_texts in
    let front = old.text.list.items in
    let bytes = take 5 b ++ drop 5 b in
    let whole : b ≡ bytes = sym (take-append-drop 5 b) in
    let written : mid.text.list.items ≡ front ++ bytes = text_is ∙ ap (λ l. front ++ l) whole in
    let class = letter-class letter there in
    let some : letter ≢ 0 = λ e. there (ap (λ l. look_up (l ∷ []) abbreviation_texts) e) in
    known-begins s old (record mid { nest = nest }) purpose a t bytes written candidates_are waiting_is scope_same refl (λ e. absurd (false≢true e))
    (class-nest a.scope.names (front ++ bytes) front (take 5 b) (drop 5 b) nest t refl from_is
    (omega (arith, class_from_is, from_is, class.0, length-append front (take 5 b))) (to_is ∙ ap length written) refl
    (subst (λ l. Prints (detail_of s) t l false) whole (abbreviation-prints letter there)) (abbreviation-class letter there class.1))
    refl (λ e. refl) (subst (λ n. NestGoesOn s Kind.NestRestOrEnd a.outer a.around t true n a.state) (omega (arith, at_is))
    (nest-abbreviation s a.outer a.around old.at a.state letter a.awaits (stands-join s.bytes old.at (83 ∷ []) (letter ∷ []) here (behind some))
    (abbreviation-listed letter there)))

-- only a type names arguments
own-closed : (purpose : Purpose) (d : Bool) → (d ≡ true → is_type purpose ≡ true) → IsOwn purpose → d ≡ false
own-closed purpose false typed own = refl
own-closed Purpose.Type true typed own = absurd own
own-closed (Purpose.Name mark) true typed own = absurd (false≢true (typed refl))
own-closed (Purpose.Enclosing mark encoding) true typed own = absurd (false≢true (typed refl))
own-closed (Purpose.Address mark) true typed own = absurd (false≢true (typed refl))

-- what a reference denotes may be named here
named-again : (s : Symbol) {scope : Scope} (around : Around) (open_ : List Open) (c : values.Candidate) (st : State) (bytes : List ℕ) (d : Bool)
    → PrintsAs (detail_of s) scope.names d c.tree bytes false → HasSingles scope → (d ≡ true → IsScoped scope around open_)
    → (d ≡ true → IsNaming scope open_) → (d ≡ true → IsMadeIn scope c.encoding c.in_lambda) → (place : ℕ)
    → named_by s.is_wide around place (Some c) st ≡ Ok (found (tree c.tree true) st)
named-again s around open_ c st bytes false prints own scoped naming made place = substituted-so s.is_wide around place c st (no-module c.tree prints.as_prefix) prints.is_closed prints.packless
named-again s around open_ c st bytes true prints own scoped naming made place =
    again-substituted s around open_ c st bytes false own (scoped refl) (naming refl) (made refl) prints place

-- a reference begins a nested name
pub reference-begins : (s : Symbol) (old mid : Direct) (purpose : Purpose) (digits : List ℕ) (k : Candidate) → AwaitsNest s old purpose
    → StandsAt s.bytes old.at (83 ∷ []) → IsSeqAt s.bytes (old.at + 1) digits mid.at
    → k.from ≤ k.to → slice_get old.candidates.list.items (counted_value NumberKind.Seq36 digits) ≡ Some k → k.is_reference ≡ false
    → (k.is_dependent ≡ true → is_type purpose ≡ true)
    → (k.is_dependent ≡ true → (all : Arguments) × (argument_of (reverse old.waiting.list.items) ≡ Some all) × (all.encoding ≢ 0))
    → mid.text.list.items ≡ old.text.list.items ++ take (k.to - k.from) (drop k.from old.text.list.items) → mid.candidates ≡ old.candidates
    → mid.waiting ≡ old.waiting → mid.has_scope ≡ old.has_scope → (from : ℕ) → from ≡ length old.text.list.items
    → IsNestKnown s (record mid { nest = record (nest_of from from from purpose true false) { is_dependent = k.is_dependent } })
reference-begins s old mid purpose digits k a here is ordered found_ plain typed known text_is candidates_are waiting_is scope_same from from_is =
    let nest = record (nest_of from from from purpose true false) { is_dependent = k.is_dependent } in
    let one = candidate-found old.text.list.items old.candidates.list.items a.state.candidates (counted_value NumberKind.Seq36 digits) k a.keeps.candidates ordered found_ in
    let c = one.0 in
    let it = one.2 in
    let piece = piece-found old.text.list.items it.bytes k.from k.to it.placed in
    let prints = subst (λ r. PrintsAs (detail_of s) a.scope.names k.is_dependent c.tree it.bytes r) plain it.prints in
    let scoped : k.is_dependent ≡ true → IsScoped a.scope a.around (reverse old.waiting.list.items) = λ e. a.scoped (typed e) in
    let naming : k.is_dependent ≡ true → IsNaming a.scope (reverse old.waiting.list.items) =
    λ e. let n = known e in named-here s old a.kept a.around n.0 (scoped e) n.1 n.2 in
    known-begins s old (record mid { nest = nest }) purpose a c.tree it.bytes (text_is ∙ ap (λ l. old.text.list.items ++ l) piece.2) candidates_are
    waiting_is scope_same refl naming
    (classless-nest a.scope.names old.text.list.items it.bytes nest c.tree from_is from_is from_is refl (own-closed purpose k.is_dependent typed) prints)
    refl (λ e. absurd (false≢true e)) (nest-substitution s a.outer a.around old.at a.state digits mid.at c a.awaits here is one.1
    (named-again s a.around (reverse old.waiting.list.items) c a.state it.bytes k.is_dependent prints a.keeps.single scoped naming it.made_in))

-- a name in std begins a nested one
pub std-begins : (s : Symbol) (old mid : Direct) (purpose : Purpose) (before : ℕ) (name : List ℕ)
    → AwaitsNest s (record old { at = before }) purpose → StandsAt s.bytes before (83 ∷ 116 ∷ []) → IsNameAt s.bytes (before + 2) name mid.at → name ≢ []
    → mid.text.list.items ≡ old.text.list.items ++ codes "std::" ++ source_text name → mid.candidates ≡ old.candidates → mid.waiting ≡ old.waiting
    → mid.has_scope ≡ old.has_scope → (from class_from to : ℕ) → from ≡ length old.text.list.items → class_from ≡ length (old.text.list.items ++ codes "std::") → to ≡ length mid.text.list.items
    → IsNestNamed s (record mid { nest = nest_of from class_from to purpose false true })
unfolding has_return_type arguments_of is_structor
std-begins s old mid purpose before name a here is filled text_is candidates_are waiting_is scope_same from class_from to from_is class_from_is to_is =
    let nest = nest_of from class_from to purpose false true in
    let t : Term = in_std (source false name) in
    let bytes = codes "std::" ++ source_text name in
    let written : mid.text.list.items ≡ old.text.list.items ++ bytes = text_is ∙ append_assoc old.text.list.items (codes "std::") (source_text name) in
    record {
      kept = kept-grown s (record old { at = before }) (record mid { nest = nest }) bytes written candidates_are scope_same a.kept;
      own = t;
      so_far = first-so-far s (record old { at = before }) (record mid { nest = nest }) purpose a t bytes written waiting_is refl (λ e. absurd (false≢true e))
          (class-nest a.scope.names mid.text.list.items old.text.list.items (codes "std::") (source_text name) nest t written from_is class_from_is to_is refl
          (std-prints false name filled (name-unmarked s.bytes (before + 2) name mid.at is)) (std-class false name filled (name-unmarked s.bytes (before + 2) name mid.at is)));
      named = nest-std s a.outer a.around before a.state name mid.at a.awaits here is;
      names_tagged = λ e none tag plain. std-tagged false name filled (name-unmarked s.bytes (before + 2) name mid.at is) tag plain;
      unlisted = refl;
      no_instance = refl;
      no_return = refl;
      structor = λ e. absurd (false≢true (sym e));
      no_structor = λ e. refl;
    }
