-- Laws: marks don't change a text, and the bytes that spell the parts of a symbol's text are within the symbol.
use Rattle.std.proofs.Common.{◌≡◌, ◌≤◌, ◌+◌, ℕ, List, [], ◌++◌, length, sym, subst, arith, length-append}
use Rattle.std.specs.List.{All}
use Rattle.std.proofs.lemmas.List.Elements.{All-append, All-cons, All-nil}
use Rattle.sym_shape.specs.Table.{Table}
use Rattle.sym_shape.specs.Tree.{Tree, Forest, branch, empty, token, fixed, nothing, grown, AreRowsOf, row_count, rows_of, rows_of_all, spell, spell_all, tree_count}
use Rattle.sym_shape.specs.declared.rule.Row.{Row}
use Rattle.sym_print.specs.Unshared.{Unshared, text_of}
use Rattle.sym_parts.specs.Marked as marks
use Rattle.sym_parts.specs.Within.{IsWithin}
use Rattle.sym_parts.specs.declared.stretch.Stretch.{Stretch}
use Rattle.cpp_grammar.specs.Term.{Term}
use Rattle.cpp_parts.proofs.Texts as cpp_texts
use Rattle.cpp_spelled.proofs.Bounded as cpp_within
use Rattle.rust_tree.specs.Symbol.{Symbol}
use Rattle.rust_parts.proofs.Texts as v0_texts
use Rattle.rust_spelled.proofs.Within as v0_within
use Rattle.symbol_parts.specs.Parsed.{cpp_marking, returns, v0_marking}

-- the bytes of a row are within a symbol of this length
abbrev pub IsRowWithin : (n : ℕ) → Row → Type 0
IsRowWithin n row = (row.from ≤ n) × (row.to ≤ n)

-- the rows of a tree that ends within the symbol are within the symbol
mutual
  rows-within : (n : ℕ) (tree : Tree) (after at number : ℕ) → at + length (spell tree) ≤ n → All (IsRowWithin n) (rows_of tree after at number)
  rows-within n (branch rule taken parts) after at number h =
      All-cons (IsRowWithin n) _ (rows_of_all parts (at + length taken) (number + 1)) (omega (arith, h), h)
      (all-within n parts (at + length taken) (number + 1) (omega (arith, h, length-append taken (spell_all parts))))
  rows-within n empty after at number h = All-nil (IsRowWithin n)
  rows-within n (token t) after at number h =
      let whole : at + length ((t.before ++ t.own) ++ t.behind) ≤ n = h in
      let ends : at + length t.before + length t.own ≤ n = omega (arith, whole, length-append (t.before ++ t.own) t.behind, length-append t.before t.own) in
      All-cons (IsRowWithin n) _ [] (omega (arith, ends), ends) (All-nil (IsRowWithin n))
  rows-within n (fixed byte) after at number h = All-nil (IsRowWithin n)

  all-within : (n : ℕ) (parts : Forest) (at number : ℕ) → at + length (spell_all parts) ≤ n → All (IsRowWithin n) (rows_of_all parts at number)
  all-within n nothing at number h = All-nil (IsRowWithin n)
  all-within n (grown tree rest) at number h =
      let both = length-append (spell tree) (spell_all rest) in
      All-append (IsRowWithin n) (rows_of tree (tree_count rest) at number) (rows_of_all rest (at + length (spell tree)) (number + row_count tree))
      (rows-within n tree (tree_count rest) at number (omega (arith, h, both))) (all-within n rest (at + length (spell tree)) (number + row_count tree) (omega (arith, h, both)))

shape-within : (g : Table) (s : List ℕ) (rows : List Row) → AreRowsOf g s rows → All (IsRowWithin (length s)) rows
shape-within g s rows are =
    subst (λ rs. All (IsRowWithin (length s)) rs) (sym are.3) (rows-within (length s) are.0 0 0 0 (subst (λ bytes. 0 + length (spell are.0) ≤ length bytes) are.2 (omega arith)))

-- ## C++

pub cpp_marks_only : (t : Term) (printed : Unshared) → marks.text_of (cpp_marking.marked t printed) ≡ text_of printed
cpp_marks_only t printed = cpp_texts.text-symbol t printed

pub cpp_spelled_within : (g : Table) (s : List ℕ) (rows : List Row) → AreRowsOf g s rows → (stretches : List Stretch) → IsWithin (length s) (cpp_marking.spelled s rows stretches)
cpp_spelled_within g s rows are stretches = cpp_within.spelling_within (length s) rows (returns stretches) (shape-within g s rows are)

-- ## Rust

pub v0_marks_only : (s : Symbol) (printed : Unshared) → marks.text_of (v0_marking.marked s printed) ≡ text_of printed
v0_marks_only s printed = v0_texts.text-symbol s printed

pub v0_spelled_within : (g : Table) (s : List ℕ) (rows : List Row) → AreRowsOf g s rows → (stretches : List Stretch) → IsWithin (length s) (v0_marking.spelled s rows stretches)
v0_spelled_within g s rows are stretches = v0_within.spelling-within (length s) s rows (shape-within g s rows are)
