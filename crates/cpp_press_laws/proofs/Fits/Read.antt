-- What fitting means for a tree that was read: the tree can be spelled wherever the reader's candidates are among the
-- components.
use Rattle.cpp_press_laws.proofs.Basics.{◌≡◌, ℕ, ◌+◌, ◌≤◌, ◌⊎◌, length, List, [], ◌∷◌, ◌++◌, Option, false, arith, subst, length-append, ◌and◌, text, Term, is_open, Candidate, State, Around, by_all, appended, Component, Spelling, component, Standing, Fitting, Behind, as_component, MayBeReferred}
use Rattle.sym_spell.specs.Pressing as spell
use Rattle.cpp_press_laws.proofs.Components.Parts.{IsComponent, Whole}
use Rattle.cpp_press_laws.proofs.Components.Known.{KeepsTo}
use Rattle.cpp_press_laws.proofs.Components.Complete.{Complete, StandAmong, Allows, component-among}
use Rattle.cpp_press_laws.proofs.Fits.Packs.{StayNamed}
use Rattle.cpp_press_laws.proofs.Components.Again.{FunctionStands}

-- the surroundings of a part in pressed bytes: only the place of the encoding differs
abbrev pub pressed_at : (encoding : ℕ) → Around → Around
pressed_at n around = record {
  scope = around.scope;
  encoding = n;
  in_lambda = around.in_lambda;
  in_expansion = around.in_expansion;
  prefix = around.prefix;
  showing = around.showing;
}

-- each function type that may be named in an encoding may be spelled again in its scope
abbrev pub FunctionsStand : (scope : Option Term) → (read : ℕ) → List Candidate → Type 0
FunctionsStand scope read [] = Unit {0}
FunctionsStand scope read (c ∷ cs) =
    ((is_open c.tree ≡ false) ⊎ (c.encoding ≡ read) → FunctionStands scope c.tree) × FunctionsStand scope read cs

-- complete components in an encoding, and the candidates before a part are among them
pub record Front (around : Around) (n place : ℕ) (cs : List Component) (old : State) : Type 0 where
  pub later : n ≤ place
  pub complete : Complete cs
  pub among : StandAmong around.encoding n old.candidates cs
  pub functions : FunctionsStand around.scope around.encoding old.candidates

-- a part with this tree fits at the place, and after its spelling the candidates are among the components
pub record PartFits (around : Around) (F : Fitting) (spelled : ℕ → Spelling) (t : Term) (n : ℕ) (allowed : Option ℕ) (place : ℕ)
    (cs : List Component) (new : State) : Type 0 where
  pub fits : F (pressed_at n around) allowed place cs
  pub may : MayBeReferred (pressed_at n around) allowed t
  pub complete : Complete (spelled n place cs).components
  pub among : StandAmong around.encoding n new.candidates (spelled n place cs).components
  pub functions : FunctionsStand around.scope around.encoding new.candidates

-- What was read from one state to another fits wherever the packs that it has named are allowed.
pub record Fitted (around : Around) (F : Fitting) (spelled : ℕ → Spelling) (t : Term) (old new : State) : Type 0 where
  pub stay : StayNamed old new
  pub fits : (n place : ℕ) (cs : List Component) (allowed : Option ℕ) → Front around n place cs old → Allows allowed new.packs
      → PartFits around F spelled t n allowed place cs new

-- a fact that holds wherever components come before a part that was read from this state
abbrev pub Wherever : Around → State → Type 0 → Type 0
Wherever around old So = (n place : ℕ) (cs : List Component) → Front around n place cs old → So

pub fitted-wherever : (around : Around) (F : Fitting) (s : ℕ → Spelling) (t : Term) (old new : State) (So : Type 0) → StayNamed old new
    → Wherever around old So → (So → Fitted around F s t old new) → Fitted around F s t old new
fitted-wherever around F s t old new So stay so one = record {
  stay = stay;
  fits = λ n place cs allowed front allows. (one (so n place cs front)).fits n place cs allowed front allows;
}

-- ## Candidates

pub functions-append : (scope : Option Term) (read : ℕ) (cs ds : List Candidate) → FunctionsStand scope read cs → FunctionsStand scope read ds
    → FunctionsStand scope read (cs ++ ds)
functions-append scope read [] ds one other = other
functions-append scope read (c ∷ cs) ds one other = (one.0, functions-append scope read cs ds one.1 other)

-- ## Surroundings of parts

-- if `Front` holds before a part that fits, it holds after the part
pub front-behind : {around : Around} {F : Fitting} {s : ℕ → Spelling} {t : Term} {n : ℕ} {allowed : Option ℕ} {place : ℕ}
    {cs : List Component} {old new : State} → Front around n place cs old → PartFits around F s t n allowed place cs new
    → Front around n (place + length (s n place cs).bytes) (s n place cs).components new
front-behind front part = record {
  later = omega (arith, front.later);
  complete = part.complete;
  among = part.among;
  functions = part.functions;
}

-- if packs are allowed and earlier ones stay named, the earlier ones are allowed, too
pub allows-before : (allowed : Option ℕ) (old new : State) → StayNamed old new → Allows allowed new.packs → Allows allowed old.packs
allows-before allowed old new stay allows m is = allows m (stay m is)

-- ## Parts one after the other

-- what holds after one spelling and then another holds after both
pub behind-both : (first rest : Spelling) (G : Standing) (place : ℕ) (cs : List Component) → Behind first (Behind rest G) place cs
    → Behind (first and rest) G place cs
behind-both first rest G place cs fits =
    let f : spell.Pressed Component = first place cs in
    let g : spell.Pressed Component = rest (place + length f.bytes) f.components in
    let same : place + length f.bytes + length g.bytes ≡ place + length (f.bytes ++ g.bytes) = omega
    (arith, length-append f.bytes g.bytes) in
    subst (λ p. G p g.components) same fits

-- a part that fits in one way fits in each way that follows from it
pub refitted : {around : Around} {F G : Fitting} {s : ℕ → Spelling} {t : Term} {old new : State} → Fitted around F s t old new
    → ((n : ℕ) (allowed : Option ℕ) (place : ℕ) (cs : List Component) → F (pressed_at n around) allowed place cs
    → G (pressed_at n around) allowed place cs) → Fitted around G s t old new
refitted one more = record {
  stay = one.stay;
  fits = λ n place cs allowed front allows. (
      let p = one.fits n place cs allowed front allows in
      record {
        fits = more n allowed place cs p.fits;
        may = p.may;
        complete = p.complete;
        among = p.among;
        functions = p.functions;
      });
}

-- what fits with one tree fits with another tree that may be referred to wherever the first tree may be
pub fitted-as : {around : Around} {F : Fitting} {s : ℕ → Spelling} {a t : Term} {old new : State} → Fitted around F s a old new
    → ((n : ℕ) (allowed : Option ℕ) → MayBeReferred (pressed_at n around) allowed a → MayBeReferred (pressed_at n around) allowed t)
    → Fitted around F s t old new
fitted-as one may = record {
  stay = one.stay;
  fits = λ n place cs allowed front allows. (
      let p = one.fits n place cs allowed front allows in
      record { fits = p.fits; may = may n allowed p.may; complete = p.complete; among = p.among; functions = p.functions });
}

-- bytes that name nothing fit
pub text-fitted : (around : Around) (F : Fitting) (bytes : List ℕ) (t : Term) (state : State)
    → ((n : ℕ) (allowed : Option ℕ) (place : ℕ) (cs : List Component) → F (pressed_at n around) allowed place cs)
    → ((n : ℕ) (allowed : Option ℕ) → MayBeReferred (pressed_at n around) allowed t)
    → Fitted around F (λ n. text bytes) t state state
text-fitted around F bytes t state fits may = record {
  stay = λ m is. is;
  fits = λ n place cs allowed front allows. record {
    fits = fits n allowed place cs;
    may = may n allowed;
    complete = front.complete;
    among = front.among;
    functions = front.functions;
  };
}

-- one part after another
pub and-fitted : {around : Around} {F G : Fitting} {s r : ℕ → Spelling} {a b t : Term} {old mid new : State}
    → Fitted around F s a old mid → Fitted around G r b mid new
    → ((n : ℕ) (allowed : Option ℕ) → MayBeReferred (pressed_at n around) allowed a → MayBeReferred (pressed_at n around) allowed b
    → MayBeReferred (pressed_at n around) allowed t)
    → Fitted around (λ inner allowed place cs. F inner allowed place cs × Behind (s inner.encoding) (G inner allowed) place cs)
    (λ n. s n and r n) t old new
and-fitted {around} {F} {G} {s} {r} {a} {b} {t} {old} {mid} {new} one other may = record {
  stay = λ m is. other.stay m (one.stay m is);
  fits = λ n place cs allowed front allows. (
      let p = one.fits n place cs allowed front (allows-before allowed mid new other.stay allows) in
      let q = other.fits n (place + length (s n place cs).bytes) (s n place cs).components allowed
      (front-behind front p) allows in
      record {
        fits = (p.fits, q.fits);
        may = may n allowed p.may q.may;
        complete = q.complete;
        among = q.among;
        functions = q.functions;
      });
}

-- a part after bytes that name nothing
pub bytes-fitted : {around : Around} {F : Fitting} {s : ℕ → Spelling} {t : Term} {old new : State} (bytes : List ℕ)
    → Fitted around F s t old new
    → Fitted around (λ inner allowed place cs. F inner allowed (place + length bytes) cs) (λ n. text bytes and s n) t old new
bytes-fitted bytes one = record {
  stay = one.stay;
  fits = λ n place cs allowed front allows. (
      let p = one.fits n (place + length bytes) cs allowed (record {
        later = omega (arith, front.later);
        complete = front.complete;
        among = front.among;
        functions = front.functions;
      }) allows in
      record { fits = p.fits; may = p.may; complete = p.complete; among = p.among; functions = p.functions });
}

-- a part before bytes that name nothing
pub fitted-bytes : {around : Around} {F : Fitting} {s : ℕ → Spelling} {t : Term} {old new : State} (bytes : List ℕ)
    → Fitted around F s t old new → Fitted around F (λ n. s n and text bytes) t old new
fitted-bytes bytes one = record {
  stay = one.stay;
  fits = λ n place cs allowed front allows. (
      let p = one.fits n place cs allowed front allows in
      record { fits = p.fits; may = p.may; complete = p.complete; among = p.among; functions = p.functions });
}

-- ## Components

-- A tree that is spelled out of parts that fit becomes a component, and a candidate.
pub component-fitted : {around : Around} {t : Term} {F : Fitting} {s : ℕ → Spelling} {old new : State} → Fitted around F s t old new
    → IsComponent t → ((n : ℕ) → KeepsTo Unit n (Whole t) (s n))
    → ((n : ℕ) (allowed : Option ℕ) (place : ℕ) (cs : List Component) → F (pressed_at n around) allowed place cs
    → FunctionStands around.scope t)
    → ((n : ℕ) (allowed : Option ℕ) (place : ℕ) (cs : List Component) → as_component t F (pressed_at n around) allowed place cs → Complete cs
    → Complete (component n t (s n) place cs).components)
    → Fitted around (as_component t F) (λ n. component n t (s n)) t old (appended around t new)
unfolding appended
component-fitted {around} {t} {F} {s} {old} {new} one is keeps function whole = record {
  stay = one.stay;
  fits = λ n place cs allowed front allows. (
      let p = one.fits n place cs allowed front allows in
      record {
        fits = (p.may, λ first. p.fits);
        may = p.may;
        complete = whole n allowed place cs (p.may, λ first. p.fits) front.complete;
        among = component-among around.encoding n around.in_lambda t (s n) is (keeps n) place cs new.candidates front.later front.complete p.among;
        functions = functions-append around.scope around.encoding new.candidates (record { tree = t; encoding = around.encoding; in_lambda = around.in_lambda; counted = by_all } ∷ [])
            p.functions (λ may. function n allowed place cs p.fits, tt);
      });
}
