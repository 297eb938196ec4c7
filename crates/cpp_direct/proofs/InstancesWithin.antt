-- Instances of function templates that contain a type, from name to end: types of parameters may name an instance's arguments.
use Rattle.cpp_direct.proofs.AllGround.{StandsAt, AreLeft, Arguments, AwaitsLedParameters, below, detail_of, Direct, HasArguments, IsAddressed, IsBuiltinAt, IsElementRead, IsEnclosingNamed, IsEnclosingParameterRead, IsInstanceNamed, IsInstanceParameterRead, IsNesting, IsOwn, IsScopedWithin, IsWriting, ItemsGoOn, ItemsOf, Kept, Mark, no_scope, nowhere, Scope, Serves, Symbol, TypeWithin, encoding_of, has_return_type, Kind, Term, types_of, ◌≡◌, refl, ap, sym, ◌∙◌, subst, ℕ, ◌+◌, ◌-◌, [], ◌∷◌, ◌++◌, length, reverse, take, Bool, true, false, ◌&&◌, Hiding, Open, Purpose, Step, kept-same, kept-closed, reverse-last, element-in, as-name, entry-scoped, has-member}
use Rattle.cpp_direct.proofs.AllRead.{nowhere-scoped, nest-comes, closed-prints, popped}
use Rattle.cpp_direct.proofs.FunctionsWithin.{front-awaits, items-scoped, led-read, now-scoped, returned-awaits}

-- the name of an instance ends in arguments
pub has-arguments : (is_instance has_class : Bool) → is_instance && has_class ≡ true → is_instance ≡ true
has-arguments true has_class both = refl
has-arguments false has_class both = both

-- the nested name of an instance is read
pub instance-within : (s : Symbol) (old : Direct) (kept : Kept s old) (t : Term) (mark : Mark) (encoding : ℕ)
    → IsNesting s kept.scope Kind.NestTail old t kept.state → has_return_type t ≡ true → HasArguments (detail_of s) old.text.list.items old.argument t
    → StandsAt s.bytes old.at (69 ∷ []) → old.nest.purpose ≡ Purpose.Enclosing mark encoding
    → IsInstanceNamed s (record old { at = old.at + 1 }) mark encoding old.nest.from
instance-within s old kept t mark encoding n returns names here is_name =
    let serves = subst (λ p. Serves s p (below s kept.scope (reverse old.waiting.list.items)) n.outer n.front) is_name n.serves in
    record {
      kept = kept-same s old (record old { at = old.at + 1 }) refl refl refl kept;
      has = has-member s old.text.list.items mark old.nest.from t n.front n.bytes n.written n.is_nest.from_is
          (as-name t n.bytes false (closed-prints kept.scope.names (n.is_nest.closed (subst IsOwn (sym is_name) tt)) n.is_nest.prints));
      returns = returns;
      names = names;
      items = serves t old.nest.is_listed (old.at + 1) kept.state (nest-comes s old kept.state t n here);
    }

-- the types of an instance needn't name its arguments
pub instance-named : (s : Symbol) (w : Direct) (mark : Mark) (encoding from : ℕ) → IsInstanceNamed s w mark encoding from → IsEnclosingNamed s w mark true from
instance-named s w mark encoding from p = record {
  kept = p.kept;
  has = p.has;
  returns = p.returns;
  goes = items-scoped nowhere p.v w.at p.state p.items (nowhere-scoped p.items.around);
}

-- all types of an instance may name its arguments
instance-scoped : (s : Symbol) (old : Direct) (mark : Mark) (from to : ℕ) (argument : Arguments) (p : IsInstanceNamed s old mark argument.encoding from) → old.has_scope ≡ false
    → argument ≡ record (old.argument) { encoding = argument.encoding } → to ≡ length old.text.list.items
    → (now : Kept s (record old { has_scope = true })) × IsAddressed s now.scope to argument p.own p.lead p.name
    × ItemsGoOn s argument (TypeWithin s (below s no_scope (reverse old.waiting.list.items)) p.lead) (λ l. encoding_of p.v l) [] old.at now.state
instance-scoped s old mark from to argument p first same to_is =
    now-scoped old (record old { has_scope = true }) to argument old.argument p.kept p.has
    (subst (λ (k : Scope). ItemsOf s argument.encoding (TypeWithin s (below s k (reverse old.waiting.list.items)) p.lead) p.v old.at p.state) (p.keeps.unknown first).0 p.items)
    first refl refl refl same p.names to_is

-- an instance expects its return type
pub instance-front : (s : Symbol) (old new : Direct) (mark : Mark) (from to : ℕ) (argument : Arguments) → IsInstanceNamed s old mark argument.encoding from
    → old.has_scope ≡ false → new.has_scope ≡ true → new.text ≡ old.text → new.candidates ≡ old.candidates
    → new.waiting.list.items ≡ old.waiting.list.items ++ Open.EnclosingFront mark from to argument ∷ [] → new.at ≡ old.at
    → argument ≡ record (old.argument) { encoding = argument.encoding } → to ≡ length old.text.list.items → IsWriting s new Step.Type
instance-front s old new mark from to argument p first now text candidates waiting at same to_is =
    let q = instance-scoped s old mark from to argument p first same to_is in
    let entry = Open.EnclosingFront mark from to argument in
    front-awaits (λ k. IsScopedWithin s k from to argument) (λ k waits. TypeWithin s (below s no_scope waits)) (record old { has_scope = true }) new entry q.0 p.has (p.from_is, q.1) p.returns q.2
    waiting text candidates now at (λ os h. h) (entry-scoped q.0.scope q.2.around entry argument (reverse old.waiting.list.items) refl refl q.1.named q.2.scoped)

-- after a builtin return type, an instance expects its parameters
pub instance-awaits : (s : Symbol) (old : Direct) (mark : Mark) (from to end : ℕ) (argument : Arguments) → IsInstanceNamed s old mark argument.encoding from
    → old.has_scope ≡ false → argument ≡ record (old.argument) { encoding = argument.encoding } → to ≡ length old.text.list.items → IsBuiltinAt s.bytes old.at end
    → AwaitsLedParameters s (record old { has_scope = true; at = end }) 6 mark argument (λ k. IsScopedWithin s k from to argument) (λ k waits. TypeWithin s (below s no_scope waits))
instance-awaits s old mark from to end argument p first same to_is is =
    let q = instance-scoped s old mark from to argument p first same to_is in
    returned-awaits (record old { has_scope = true }) end q.0 p.has p.returns (p.from_is, q.1) q.2 is

-- a parameter that prints on both sides of a name is read
pub element-instance : (s : Symbol) (w : Direct) (mark : Mark) (from to : ℕ) (argument : Arguments) → IsElementRead s w (Open.EnclosingInstance mark from to argument)
    → IsInstanceParameterRead s w mark from to
element-instance s w mark from to argument p =
    let read = p.read in (
      argument,
      led-read w read.os read.kept read.own read.front read.bytes p.open_is read.written read.comes read.stands
          (element-in (types_of read.stands.2.own) 6 read.own read.bytes (read.element 6)),
    )

-- the parameters of an instance are read, and its arguments can't be named any more
pub instance-closed : (s : Symbol) (w shut new : Direct) (mark : Mark) (from to : ℕ) (p : IsInstanceParameterRead s w mark from to)
    → shut.waiting.list.items ≡ take (length w.waiting.list.items - 1) w.waiting.list.items
    → new.waiting.list.items ≡ shut.waiting.list.items ++ Open.Enclosing mark from to ∷ [] → new.text ≡ w.text
    → AreLeft Hiding.Dependent w.candidates.list.items new.candidates.list.items → new.at ≡ w.at → IsEnclosingParameterRead s new mark from to
instance-closed s w shut new mark from to read waits waiting text are at =
    let p = read.1 in
    let entry = Open.Enclosing mark from to in
    record {
      kept = kept-closed s w new p.kept are text p.leads.1.typed;
      rest = p.rest;
      open_is = ap reverse waiting ∙ reverse-last shut.waiting.list.items entry
          ∙ ap (λ ws. entry ∷ ws) (popped w.waiting.list.items shut.waiting.list.items p.rest (Open.EnclosingInstance mark from to read.0) (length w.waiting.list.items) refl p.open_is waits);
      ts = p.ts;
      some = p.some;
      texts = p.texts;
      has = record { is_led = p.is_led; leads = (p.leads.0, p.leads.1.to_is) };
      written = ap (λ v. v.list.items) text ∙ p.written;
      goes = subst (λ k. ItemsGoOn s nowhere (TypeWithin s (below s no_scope p.rest) p.front) p.make p.ts k p.state) (sym at)
          (record {
            around = p.goes.around;
            inner = p.goes.inner;
            outside = p.goes.outside;
            scoped = nowhere-scoped p.goes.around;
            awaits = p.goes.awaits;
            onward = p.goes.onward;
          });
    }
