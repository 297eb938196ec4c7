-- The state of a writer once a component of a nested name is written.
use Rattle.cpp_direct.proofs.AllGround.{◌≡◌, ◌≢◌, ℕ, ◌+◌, ◌-◌, inl, inr, length, List, [], ◌∷◌, ◌++◌, take, drop, reverse, Bool, true, false, refl, ap, sym, ◌∙◌, subst, arith, codes, append_assoc, append-nil, false≢true, arguments_of, Around, constructor, destructor, has_return_type, instance, is_structor, opening_text, operator, source, source_text, State, Term, within, AwaitsClass, below, detail_of, Direct, is_angle, IsConstructorDigit, IsDestructorDigit, IsNestNamed, IsNestSoFar, IsOperatorAt, IsOperatorRead, IsOwn, IsWriting, Kept, Nest, Open, operator_text, Prints, PrintsAs, Purpose, Reads, Scope, Serves, Symbol, Writes, Opened, StandsAt, IsNameAt, Named, NestNamed, AwaitsComponent, Step, name-unmarked, kept-grown, piece-found, placed-last, placed-moved, prints-as, stands-join, component-source, component-internal, component-operator, component-constructor, component-destructor, IsOperator, operator-listed, ◌⊎◌, ◌≤◌}
use Rattle.cpp_direct.proofs.AllRead.{closed-prints, nest-scoped, nest-further, within-tagged, IsPiece, source-opening, source-piece, operator-opening, operator-piece, within-names, within-as, within-class, constructor-prints, destructor-prints}

-- ## A text is written

-- These bytes were written at the end of the text. The nested name begins at the same place as before, and serves the
-- same purpose.
pub record Goes (old new : Direct) (bytes : List ℕ) : Type 0 where
  pub text : new.text.list.items ≡ old.text.list.items ++ bytes
  pub candidates : new.candidates ≡ old.candidates
  pub waiting : new.waiting.list.items ≡ old.waiting.list.items
  pub scope : new.has_scope ≡ old.has_scope
  pub from : new.nest.from ≡ old.nest.from
  pub purpose : new.nest.purpose ≡ old.nest.purpose
  pub dependent : new.nest.is_dependent ≡ old.nest.is_dependent

-- only the place changes
pub record Moves (old new : Direct) (by : ℕ) : Type 0 where
  pub text : new.text.list.items ≡ old.text.list.items
  pub candidates : new.candidates ≡ old.candidates
  pub waiting : new.waiting.list.items ≡ old.waiting.list.items
  pub scope : new.has_scope ≡ old.has_scope
  pub nest : new.nest ≡ old.nest
  pub at : new.at ≡ old.at + by

-- a mark was written after a move
goes-marked : (old between new : Direct) (by : ℕ) (bytes : List ℕ) → Moves old between by → Writes between new bytes → Goes old new bytes
goes-marked old between new by bytes m w = record {
  text = rw (w.text, m.text) refl;
  candidates = rw (w.candidates, m.candidates) refl;
  waiting = rw (w.waiting, m.waiting) refl;
  scope = w.scope ∙ m.scope;
  from = rw (w.nest, m.nest) refl;
  purpose = rw (w.nest, m.nest) refl;
  dependent = rw (w.nest, m.nest) refl;
}

abbrev kept-go : (s : Symbol) (old new : Direct) (bytes : List ℕ) → Goes old new bytes → Kept s old → Kept s new
kept-go s old new bytes g kept = kept-grown s old new bytes g.text g.candidates g.scope kept

serves-go : (s : Symbol) (scope : Scope) (old new : Direct) (bytes : List ℕ) (outer : List Opened) (front : List ℕ) → Goes old new bytes
    → Serves s old.nest.purpose (below s scope (reverse old.waiting.list.items)) outer front
    → Serves s new.nest.purpose (below s scope (reverse new.waiting.list.items)) outer front
serves-go s scope old new bytes outer front g p =
    subst (λ (o : List Open). Serves s new.nest.purpose (below s scope (reverse o)) outer front) (sym g.waiting)
    (subst (λ (u : Purpose). Serves s u (below s scope (reverse old.waiting.list.items)) outer front) (sym g.purpose) p)

-- ## The name of a class once more

-- a constructor or a destructor follows a name, and was written except for the name of its class
class-awaits : (s : Symbol) (old new : Direct) (kept : Kept s old) (t own : Term) (mark : List ℕ) (n : IsNestSoFar s kept.scope old t) → old.nest.is_dependent ≡ false
    → Goes old new mark → new.nest ≡ old.nest → NestNamed s n.outer n.around own new.at kept.state
    → Prints (detail_of s) own (n.bytes ++ mark ++ n.is_nest.class) false → has_return_type own ≡ false → is_structor own ≡ true → AwaitsClass s new
class-awaits s old new kept t own mark n closed g same named prints no_return structor = record {
  kept = kept-go s old new mark g kept;
  around = n.around;
  outer = n.outer;
  own = own;
  named = named;
  front = n.front;
  bytes = n.bytes ++ mark;
  written = g.text ∙ ap (λ l. l ++ mark) n.written ∙ append_assoc n.front n.bytes mark;
  from_is = g.from ∙ n.is_nest.from_is;
  class = n.is_nest.class;
  class_placed = placed-moved old.text.list.items mark n.is_nest.class g.text (ap (λ (x : Nest). x.class_from) same) (ap (λ (x : Nest). x.class_to) same)
      n.is_nest.class_placed;
  closed = g.dependent ∙ closed;
  scoped = nest-scoped s old new n.around g.waiting g.purpose g.dependent n.scoped;
  prints = prints;
  no_return = no_return;
  structor = structor;
  serves = serves-go s kept.scope old new mark n.outer n.front g n.serves;
}

-- what a component is read as
component-named : (s : Symbol) (outer : List Opened) (around : Around) (t u : Term) (at : ℕ) (st : State)
    → (a : AwaitsComponent s outer around t at st) → (to end : ℕ) → end ≡ to → Named s a.inner around u to st → NestNamed s outer around u end st
component-named s outer around t u at st a to end same n = subst (λ k. NestNamed s outer around u k st) (sym same) (record {
  inner = n.inner;
  awaits = n.awaits;
  bare = λ k later comes. a.onward u k later (n.bare k later comes);
  argued = λ v k later comes. a.onward (instance u v) k later (n.argued v k later comes);
  renamed = λ v k later comes. a.onward v k later (n.renamed v k later comes);
})

-- the byte of a constructor's or a destructor's digit isn't zero
pub structor-digit-some : {is_wide : Bool} {digit most : ℕ} (least : ℕ) → 1 ≤ least → ((least ≤ digit) × (digit ≤ most)) ⊎ ((is_wide ≡ true) × ((digit ≡ 52) ⊎ (digit ≡ 53)))
    → digit ≢ 0
structor-digit-some least some (inl (low, high)) e = omega (arith, some, low, e)
structor-digit-some least some (inr (wide, inl four)) e = omega (arith, four, e)
structor-digit-some least some (inr (wide, inr five)) e = omega (arith, five, e)

-- a constructor was read, and was written except for its class
pub constructor-awaits : (s : Symbol) (old between new : Direct) (digit : ℕ) → Writes between new (codes "::") → Moves old between 2
    → IsWriting s old Step.Component → StandsAt s.bytes old.at (67 ∷ []) → StandsAt s.bytes (old.at + 1) (digit ∷ []) → IsConstructorDigit s.is_wide digit
    → old.nest.has_class ≡ true → old.nest.is_dependent ≡ false → AwaitsClass s new
unfolding has_return_type is_structor arguments_of
constructor-awaits s old between new digit w m p letter next is has closed =
    let t = p.is_before.0 in
    let n = p.is_before.1 in
    let awaits = p.is_before.2 in
    class-awaits s old new p.kept t (within t (constructor digit)) (codes "::") n closed
    (goes-marked old between new 2 (codes "::") m w) (rw (w.nest, m.nest) refl)
    (component-named s n.outer n.around t (within t (constructor digit)) old.at p.state awaits (old.at + 2) new.at (w.at ∙ m.at)
    (component-constructor s awaits.inner n.around t awaits.listed old.at p.state digit awaits.awaits (stands-join s.bytes old.at (67 ∷ []) (digit ∷ []) letter next) is))
    (constructor-prints t n.bytes n.is_nest.class (closed-prints p.scope.names closed n.is_nest.prints) (n.is_nest.names_class has closed) digit) refl refl

-- likewise for a destructor
pub destructor-awaits : (s : Symbol) (old between new : Direct) (digit : ℕ) → Writes between new (codes "::~") → Moves old between 2
    → IsWriting s old Step.Component → StandsAt s.bytes old.at (68 ∷ []) → StandsAt s.bytes (old.at + 1) (digit ∷ []) → IsDestructorDigit s.is_wide digit
    → old.nest.has_class ≡ true → old.nest.is_dependent ≡ false → AwaitsClass s new
unfolding has_return_type is_structor arguments_of
destructor-awaits s old between new digit w m p letter next is has closed =
    let t = p.is_before.0 in
    let n = p.is_before.1 in
    let awaits = p.is_before.2 in
    class-awaits s old new p.kept t (within t (destructor digit)) (codes "::~") n closed
    (goes-marked old between new 2 (codes "::~") m w) (rw (w.nest, m.nest) refl)
    (component-named s n.outer n.around t (within t (destructor digit)) old.at p.state awaits (old.at + 2) new.at (w.at ∙ m.at)
    (component-destructor s awaits.inner n.around t awaits.listed old.at p.state digit awaits.awaits (stands-join s.bytes old.at (68 ∷ []) (digit ∷ []) letter next) is))
    (destructor-prints t n.bytes n.is_nest.class (closed-prints p.scope.names closed n.is_nest.prints) (n.is_nest.names_class has closed) digit) refl refl

-- Once its class is written, a constructor or a destructor is a named component.
named-again : (s : Symbol) (old new : Direct) (p : AwaitsClass s old) → Goes old new p.class → new.at ≡ old.at
    → new.nest ≡ record old.nest { is_listed = false; has_class = false; is_instance = false } → IsNestNamed s new
named-again s old new p g at nest =
    let written : new.text.list.items ≡ p.front ++ (p.bytes ++ p.class) = g.text ∙ ap (λ l. l ++ p.class) p.written ∙ append_assoc p.front p.bytes p.class in
    let classless : new.nest.has_class ≡ false = ap (λ (x : Nest). x.has_class) nest in
    record {
      kept = kept-go s old new p.class g p.kept;
      own = p.own;
      so_far = record {
        around = p.around;
        outer = p.outer;
        front = p.front;
        bytes = p.bytes ++ p.class;
        written = written;
        is_nest = record {
          back = [];
          written = written ∙ sym (append-nil (p.front ++ (p.bytes ++ p.class)));
          from_is = g.from ∙ p.from_is;
          prints = prints-as (detail_of s) p.scope.names new.nest.is_dependent p.own (p.bytes ++ p.class) false p.prints;
          closed = λ own. g.dependent ∙ p.closed;
          class = p.class;
          class_placed = placed-moved old.text.list.items p.class p.class g.text (ap (λ (x : Nest). x.class_from) nest) (ap (λ (x : Nest). x.class_to) nest)
              p.class_placed;
          names_class = λ e closed. absurd (false≢true (sym classless ∙ e));
        };
        scoped = nest-scoped s old new p.around g.waiting g.purpose g.dependent p.scoped;
        serves = serves-go s p.scope old new p.class p.outer p.front g p.serves;
      };
      named = subst (λ k. NestNamed s p.outer p.around p.own k p.state) (sym at) p.named;
      names_tagged = λ e closed tag plain. absurd (false≢true (sym classless ∙ e));
      unlisted = ap (λ x. x.is_listed) nest;
      no_instance = ap (λ x. x.is_instance) nest;
      no_return = p.no_return;
      structor = λ e. p.structor;
      no_structor = λ e. absurd (false≢true (sym classless ∙ e));
    }

-- likewise if the class is copied from its place
pub class-named : (s : Symbol) (old between : Direct) (p : AwaitsClass s old)
    → Writes old between (take (old.nest.class_to - old.nest.class_from) (drop old.nest.class_from old.text.list.items))
    → IsNestNamed s (record between { nest = record between.nest { is_listed = false; has_class = false; is_instance = false } })
class-named s old between p w =
    let new : Direct = record between { nest = record between.nest { is_listed = false; has_class = false; is_instance = false } } in
    let g : Goes old new (take (old.nest.class_to - old.nest.class_from) (drop old.nest.class_from old.text.list.items)) = record {
      text = w.text;
      candidates = w.candidates;
      waiting = ap (λ v. v.list.items) w.waiting;
      scope = w.scope;
      from = ap (λ x. x.from) w.nest;
      purpose = ap (λ x. x.purpose) w.nest;
      dependent = ap (λ x. x.is_dependent) w.nest;
    } in
    named-again s old new p
    (subst (λ l. Goes old new l) (piece-found old.text.list.items p.class old.nest.class_from old.nest.class_to p.class_placed).2 g) w.at
    (ap (λ (x : Nest). record x { is_listed = false; has_class = false; is_instance = false }) w.nest)

-- ## A piece of a name

-- a writer whose nested name ends in a class, which is written between two places
abbrev pub renamed : Direct → (from to : ℕ) → Direct
renamed w from to = record w { nest = record w.nest { class_from = from; class_to = to; is_listed = false; has_class = true; is_instance = false } }

-- A piece is written after the name so far.
piece-named : (s : Symbol) (old read : Direct) (from to : ℕ) (kept : Kept s old) (t piece : Term) (x : List ℕ) (n : IsNestSoFar s kept.scope old t)
    → Goes old (renamed read from to) (codes "::" ++ x) → NestNamed s n.outer n.around (within t piece) read.at kept.state → IsPiece (detail_of s) piece x
    → opening_text piece ≡ codes "<" → from ≡ length (old.text.list.items ++ codes "::") → to ≡ length read.text.list.items
    → IsNestNamed s (renamed read from to)
unfolding has_return_type arguments_of
piece-named s old read from to kept t piece x n g named is_piece opening from_is to_is =
    let new = renamed read from to in
    let m : List ℕ = codes "::" in
    let names = kept.scope.names in
    let is = n.is_nest in
    let bytes = n.bytes ++ m ++ x in
    let prints : PrintsAs (detail_of s) names new.nest.is_dependent (within t piece) bytes false
    = subst (λ b. PrintsAs (detail_of s) names b (within t piece) bytes false) (sym g.dependent)
    (within-as (detail_of s) names old.nest.is_dependent t n.bytes is.prints piece x is_piece opening) in
    let closed : new.nest.is_dependent ≡ false → Prints (detail_of s) t n.bytes false = λ e. closed-prints names (sym g.dependent ∙ e) is.prints in
    let written : new.text.list.items ≡ n.front ++ bytes
    = g.text ∙ ap (λ l. l ++ (m ++ x)) n.written ∙ append_assoc n.front n.bytes (m ++ x) ∙ ap (λ l. n.front ++ l) (sym (append_assoc n.bytes m x)) in
    let class_written : new.text.list.items ≡ (old.text.list.items ++ m) ++ x = g.text ∙ sym (append_assoc old.text.list.items m x) in
    record {
      kept = kept-go s old new (m ++ x) g kept;
      own = within t piece;
      so_far = nest-further s old new n (within t piece) bytes written g.waiting g.purpose g.dependent (record {
        back = [];
        written = written ∙ sym (append-nil (n.front ++ bytes));
        from_is = g.from ∙ is.from_is;
        prints = prints;
        closed = λ own. g.dependent ∙ is.closed (subst IsOwn g.purpose own);
        class = x;
        class_placed = placed-last (old.text.list.items ++ m) x from to class_written from_is to_is;
        names_class = λ e none. within-class t n.bytes (closed none) piece x is_piece;
      });
      named = named;
      names_tagged = λ e none tag plain. within-tagged t n.bytes (closed none) piece x is_piece tag plain;
      unlisted = refl;
      no_instance = refl;
      no_return = refl;
      structor = λ e. absurd (false≢true (sym e));
      no_structor = λ e. is_piece.no_structor t;
    }

-- how far the letter of internal linkage takes a reader
abbrev pub letters : (internal : Bool) → ℕ
letters true = 1
letters false = 0

-- a writer that is at another place
pub moves-to : (old new : Direct) (at by : ℕ) → new ≡ record old { at = at } → at ≡ old.at + by → Moves old new by
moves-to old new at by same e =
    subst (λ (d : Direct). Moves old d by) (sym same) (record { text = refl; candidates = refl; waiting = refl; scope = refl; nest = refl; at = e })

-- A piece is also written after the name so far by a writer that moves, writes the colons, and then reads the piece.
piece-follows : (s : Symbol) (old start marked read : Direct) (by from to : ℕ) (piece : Term) (x : List ℕ) (p : IsWriting s old Step.Component)
    → IsPiece (detail_of s) piece x → opening_text piece ≡ codes "<" → Moves old start by → Writes start marked (codes "::") → Reads marked read x
    → NestNamed s p.is_before.1.outer p.is_before.1.around (within p.is_before.0 piece) read.at p.state
    → from ≡ length marked.text.list.items → to ≡ length read.text.list.items → IsNestNamed s (renamed read from to)
piece-follows s old start marked read by from to piece x p is opening m w r named from_is to_is =
    let m1 : marked.text.list.items ≡ old.text.list.items ++ codes "::" = rw (w.text, m.text) refl in
    let g : Goes old (renamed read from to) (codes "::" ++ x) = record {
      text = r.text ∙ ap (λ l. l ++ x) m1 ∙ append_assoc old.text.list.items (codes "::") x;
      candidates = rw (r.candidates, w.candidates, m.candidates) refl;
      waiting = rw (r.waiting, w.waiting, m.waiting) refl;
      scope = r.scope ∙ w.scope ∙ m.scope;
      from = rw (r.nest, w.nest, m.nest) refl;
      purpose = rw (r.nest, w.nest, m.nest) refl;
      dependent = rw (r.nest, w.nest, m.nest) refl;
    } in
    piece-named s old read from to p.kept p.is_before.0 piece x p.is_before.1 g named is opening (from_is ∙ ap length m1) to_is

-- ## A name

-- what a name in a nested one is read as
source-read : (s : Symbol) (os : List Opened) (around : Around) (t : Term) (at : ℕ) (st : State) (a : AwaitsComponent s os around t at st)
    → (internal : Bool) (name : List ℕ) (to from end : ℕ) → (internal ≡ true → StandsAt s.bytes at (76 ∷ [])) → IsNameAt s.bytes from name to
    → from ≡ at + letters internal → end ≡ to → NestNamed s os around (within t (source internal name)) end st
source-read s os around t at st a true name to from end letter is moved same =
    component-named s os around t (within t (source true name)) at st a to end same
    (component-internal s a.inner around t a.listed at st name to a.awaits (letter refl) (subst (λ k. IsNameAt s.bytes k name to) moved is))
source-read s os around t at st a false name to from end letter is moved same =
    component-named s os around t (within t (source false name)) at st a to end same
    (component-source s a.inner around t a.listed at st name to a.awaits (subst (λ k. IsNameAt s.bytes k name to) (none moved) is))
  where
    none : from ≡ at + 0 → from ≡ at
    none e = omega (arith, e)

-- A name follows the name so far.
pub source-follows : (s : Symbol) (old start marked read : Direct) (from to : ℕ) (internal : Bool) → IsWriting s old Step.Component
    → (internal ≡ true → StandsAt s.bytes old.at (76 ∷ [])) → Moves old start (letters internal) → Writes start marked (codes "::")
    → (name : List ℕ) → IsNameAt s.bytes marked.at name read.at → name ≢ [] → Reads marked read (source_text name)
    → from ≡ length marked.text.list.items → to ≡ length read.text.list.items → IsNestNamed s (renamed read from to)
source-follows s old start marked read from to internal p letter m w name is filled r from_is to_is =
    let b = p.is_before in
    piece-follows s old start marked read (letters internal) from to (source internal name) (source_text name) p
    (source-piece internal name filled (name-unmarked s.bytes marked.at name read.at is)) (source-opening internal name) m w r
    (source-read s b.1.outer b.1.around b.0 old.at p.state b.2 internal name read.at marked.at read.at letter is (w.at ∙ m.at) refl) from_is to_is

-- ## An operator

-- what an operator in a nested name is read as
operator-read : (s : Symbol) (os : List Opened) (around : Around) (t : Term) (at : ℕ) (st : State) (a : AwaitsComponent s os around t at st)
    → (first second to end : ℕ) → IsOperatorAt s.bytes at first second to → end ≡ to → NestNamed s os around (within t (operator first second)) end st
operator-read s os around t at st a first second to end there same =
    let is : IsOperator first second = operator-listed first second there.known in
    component-named s os around t (within t (operator first second)) at st a (at + 2) end (same ∙ there.ends)
    (component-operator s a.inner around t a.listed at st first second is a.awaits there.stands)

-- An operator follows the name so far, and arguments may follow it.
pub operator-follows : (s : Symbol) (old marked read : Direct) (from to first second : ℕ) → IsWriting s old Step.Component
    → Writes old marked (codes "::") → IsOperatorAt s.bytes marked.at first second read.at → is_angle first second ≡ false
    → Reads marked read (operator_text first second) → from ≡ length marked.text.list.items → to ≡ length read.text.list.items
    → IsNestNamed s (renamed read from to)
operator-follows s old marked read from to first second p w there plain r from_is to_is =
    let b = p.is_before in
    piece-follows s old old marked read 0 from to (operator first second) (operator_text first second) p
    (operator-piece first second) (operator-opening first second plain)
    (record { text = refl; candidates = refl; waiting = refl; scope = refl; nest = refl; at = omega arith }) w r
    (operator-read s b.1.outer b.1.around b.0 old.at p.state b.2 first second read.at read.at (subst (λ k. IsOperatorAt s.bytes k first second read.at) w.at there) refl)
    from_is to_is

-- An operator follows the name so far, and ends it.
pub operator-last : (s : Symbol) (old marked read : Direct) (first second : ℕ) → IsWriting s old Step.Component
    → Writes old marked (codes "::") → IsOperatorAt s.bytes marked.at first second read.at → Reads marked read (operator_text first second)
    → old.nest.is_dependent ≡ false → IsOperatorRead s read
unfolding has_return_type arguments_of
operator-last s old marked read first second p w there r closed =
    let t = p.is_before.0 in
    let n = p.is_before.1 in
    let x = operator_text first second in
    let m : List ℕ = codes "::" in
    let g : Goes old read (m ++ x) = record {
      text = r.text ∙ ap (λ l. l ++ x) w.text ∙ append_assoc old.text.list.items m x;
      candidates = rw (r.candidates, w.candidates) refl;
      waiting = rw (r.waiting, w.waiting) refl;
      scope = r.scope ∙ w.scope;
      from = rw (r.nest, w.nest) refl;
      purpose = rw (r.nest, w.nest) refl;
      dependent = rw (r.nest, w.nest) refl;
    } in
    record {
      kept = kept-go s old read (m ++ x) g p.kept;
      around = n.around;
      outer = n.outer;
      own = within t (operator first second);
      named = operator-read s n.outer n.around t old.at p.state p.is_before.2 first second read.at read.at
          (subst (λ k. IsOperatorAt s.bytes k first second read.at) w.at there) refl;
      front = n.front;
      bytes = n.bytes ++ m ++ x;
      written = g.text ∙ ap (λ l. l ++ (m ++ x)) n.written ∙ append_assoc n.front n.bytes (m ++ x) ∙ ap (λ l. n.front ++ l) (sym (append_assoc n.bytes m x));
      from_is = g.from ∙ n.is_nest.from_is;
      prints = within-names t n.bytes (closed-prints p.scope.names closed n.is_nest.prints) (operator first second) x (operator-piece first second);
      no_return = refl;
      serves = serves-go s p.scope old read (m ++ x) n.outer n.front g n.serves;
    }
