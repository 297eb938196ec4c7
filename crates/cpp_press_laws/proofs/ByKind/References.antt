-- What is read after an S: an abbreviation, or a substitution's candidate.
use Rattle.cpp_press_laws.proofs.Basics.{ℕ, ◌-◌, [], refl, sym, subst, Seq36, counted_value, found, Kind, Production, Operation, alternatives, parts_of, is_chain, number_of, State, Around, Value, text_of, part, between, close, byte_of}
use Rattle.cpp_press_laws.proofs.Fits.References.{substitution-refers}
use Rattle.cpp_press_laws.proofs.Fits.Sorts.{KindFits, Meant, Later}
use Rattle.cpp_press_laws.proofs.Fits.Typed.{abbreviation-read, substitution-read}
use Rattle.cpp_press_laws.proofs.ByKind.LeafKinds.{own-byte}
use Rattle.cpp_press_laws.proofs.ByKind.Known.{OpenedRead, comes-as, BranchRead, one-read, KindRead}
use Rattle.cpp_press_laws.proofs.ByKind.Rules.{IsAmong}

letter-arm : (around : Around) (at : ℕ) (old : State) (v : Value) (new : State)
    → OpenedRead Kind.Abbreviation around at old v new Production.Abbreviation → KindFits Kind.Abbreviation around v old new
unfolding parts_of is_chain
letter-arm around at old v new o =
    let byte = byte_of o.taken in
    comes-as (λ w s. KindFits Kind.Abbreviation around w old s) Production.Abbreviation tt byte around at old [] old v new (o.goes tt)
    (subst (λ b. KindFits Kind.Abbreviation around (Meant Production.Abbreviation b around []) old
    (Later Production.Abbreviation b around old [] old))
    (sym (own-byte Production.Abbreviation o.taken o.byte o.takes refl)) (abbreviation-read around o.byte old old o.small o.chosen))

-- a substitution that wasn't refused
reference-arm : (around : Around) (at : ℕ) (old : State) (v : Value) (new : State)
    → OpenedRead Kind.Abbreviation around at old v new Production.Substitution → KindFits Kind.Abbreviation around v old new
unfolding parts_of between close part
reference-arm around at old v new o =
    let a = o.goes tt in
    subst (λ s. KindFits Kind.Abbreviation around v s new) a.read.0
    (substitution-read around a.after (found v new)
    (substitution-refers around (at - 1) (counted_value Seq36 (text_of a.value)) a.after (found v new) a.onward))

pub abbreviation-branch : BranchRead Kind.Abbreviation
unfolding alternatives number_of
abbreviation-branch rule taken parts all around at old v new front is e =
    let one = one-read Kind.Abbreviation rule taken parts all around at old v new front is e in
    arm one.0 one.1 one.2
  where
    arm : (p : Production) → IsAmong (alternatives Kind.Abbreviation) p → OpenedRead Kind.Abbreviation around at old v new p
        → KindRead Kind.Abbreviation around v old new
    arm Production.Abbreviation here o = letter-arm around at old v new o
    arm Production.Substitution here o = reference-arm around at old v new o
    arm (Production.Operation Operation.ExpressionC) here o = absurd here
    arm p here o = absurd here
