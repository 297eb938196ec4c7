-- A refusal that is kept or isn't, and impossible answers.
use Rattle.sym_shape.proofs.Basics.{◌≡◌, sym, ◌∙◌, Bool, true, false, Option, Some, Result, Ok, Err, None, Refusal}

-- a refusal can't be kept and not kept
pub never_both : (kept : Option Refusal) (e : Refusal) → kept ≡ Some e → kept ≡ None → ⊥
never_both kept e some none =
    let same : ◌≡◌ {A = Option Refusal} None (Some e) = sym none ∙ some in
    cc

-- a refusal is no answer
pub never_ok : (A : Type 0) (e : Refusal) (a : A) → ◌≡◌ {A = Result A Refusal} (Err e) (Ok a) → ⊥
never_ok A e a is = cc

-- an answer is no refusal
pub never_err : (A : Type 0) (a : A) (e : Refusal) → ◌≡◌ {A = Result A Refusal} (Ok a) (Err e) → ⊥
never_err A a e is = cc

-- true isn't false
pub never_false : ◌≡◌ {A = Result Bool Refusal} (Ok true) (Ok false) → ⊥
never_false is =
    let same : true ≡ false = cc in
    cc

-- nothing is both done and not done
pub never_done : (done : Bool) → done ≡ true → done ≡ false → ⊥
never_done done is isnt =
    let same : true ≡ false = sym is ∙ isnt in
    cc

-- equal answers have equal values
pub same_answer : (done over : Bool) → ◌≡◌ {A = Result Bool Refusal} (Ok done) (Ok over) → done ≡ over
same_answer done over is = cc

-- false isn't true
pub never_true : ◌≡◌ {A = Result Bool Refusal} (Ok false) (Ok true) → ⊥
never_true is =
    let same : false ≡ true = cc in
    cc
