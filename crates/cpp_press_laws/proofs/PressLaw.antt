-- Pressing twice gives what pressing once gives, and pressed bytes tell trees apart, if pressed bytes are read as the tree
-- that was pressed.
use Rattle.cpp_press_laws.proofs.Basics.{◌≡◌, Ok, ap, arith, sym, ◌∙◌, Result, length, ◌≤◌, Refusal, Tree as Shape, spell, IsTree, abi, Term, unfold_cpp, pressed, AreReadAs, PressedIsRead, PressedOnce, PressedTellsApart}
use Rattle.sym_shape.specs.declared.rule.Sym.TheVariants.{Kind}
use Rattle.sym_shape.proofs.Uniqueness.{one_tree}
use Rattle.cpp_grammar.specs.TableLaws.{lawful}

one-result : (a b : Term) → ◌≡◌ {A = Result Term Refusal} (Ok a) (Ok b) → a ≡ b
one-result a b h = cc

-- It is enough that one shape is read as the tree, since no other shape of the grammar spells the same bytes.
pub read-by-one : (t : Term) (shape : Shape) → IsTree abi (Kind 0) shape → spell shape ≡ pressed t → unfold_cpp shape ≡ Ok t → AreReadAs (pressed t) t
read-by-one t shape is spelled reads = record {
  shape = shape;
  shaped = is;
  spelled = spelled;
  each = λ other other-is also. ap unfold_cpp (one_tree abi lawful other shape other-is is (also ∙ sym spelled)) ∙ reads;
}

pub once-if-read : PressedIsRead → PressedOnce
once-if-read law shape t from fits other again (other-is, reads) spelled =
    ap pressed (one-result again t (sym reads ∙ (law shape t from fits).each other other-is spelled))

pub apart-if-read : PressedIsRead → PressedTellsApart
apart-if-read law shape other t u from also fits same =
    let a = law shape t from fits in
    let small : length (pressed u) ≤ 18446744073709551615 = omega (arith, fits, ap length same) in
    let b = law other u also small in
    one-result t u (sym (a.each a.shape a.shaped a.spelled) ∙ b.each a.shape a.shaped (a.spelled ∙ same))
