use Rattle.cpp_grammar.proofs.Basics.{◌≡◌, ℕ, List, Result, Ok, Err, refl, ap, sym, ◌∙◌, Refusal, Malformed, Detail, Kind, Tree, IsTree, IsAnswer, malformed, shaped, answer_of_shape, answer_of_symbol, unfold_wide, abi, Term, unfold_cpp}
use Rattle.sym_demangle.proofs.Answering.{is_answer}
use Rattle.cpp_grammar.specs.Mangled.{cpp_mangled, wide_mangled}
use Rattle.cpp_grammar.proofs.Growing.{abi_wide}
use Rattle.cpp_grammar.proofs.Staying.{meaning_stays}
use Rattle.cpp_grammar.proofs.laws.abi_answers_stay.Goals as goal

-- the shape denotes the same by the wide reading
stays : (shape : Tree) (t : Term) → IsTree abi (Kind 0) shape → unfold_cpp shape ≡ Ok t → unfold_wide shape ≡ Ok t
stays shape t is e = meaning_stays shape t (abi_wide (Kind 0) shape is) e

pub returns-clause-reads : goal.returns-clause-reads
returns-clause-reads c = λ s t h. (h.0, abi_wide (Kind 0) h.0 h.1, h.2, sym (stays h.0 t h.1 (sym h.3)))

-- the shape has the same answer by the wide reading
same_answer : (detail : Detail) (limit : ℕ) (shape : Tree) (t : Term) → IsTree abi (Kind 0) shape → unfold_cpp shape ≡ Ok t → answer_of_shape cpp_mangled detail limit shape ≡ answer_of_shape wide_mangled detail limit shape
same_answer detail limit shape t is e =
    ap (λ read. answer_of_symbol cpp_mangled detail limit read) e ∙ sym (ap (λ read. answer_of_symbol wide_mangled detail limit read) (stays shape t is e))

pub returns-clause-answers : goal.returns-clause-answers
returns-clause-answers c = λ detail s limit t bytes w.
    sym (is_answer wide_mangled detail s limit (answer_of_shape cpp_mangled detail limit w.0) bytes
    (shaped w.0 (abi_wide (Kind 0) w.0 w.1) w.2 (same_answer detail limit w.0 t w.1 (sym w.3))))
    ∙ is_answer cpp_mangled detail s limit (answer_of_shape cpp_mangled detail limit w.0) bytes (shaped w.0 w.1 w.2 refl)

grows : (detail : Detail) (s text : List ℕ) (limit : ℕ) → IsAnswer cpp_mangled detail s limit (Ok text) → IsAnswer wide_mangled detail s limit (Ok text)
grows detail s text limit (malformed at is same) = absurd (let clash : ◌≡◌ {A = Result (List ℕ) Refusal} (Ok text) (Err (Malformed at)) = same in cc)
grows detail s text limit (shaped shape is spelled same) = go (unfold_cpp shape) refl same
  where
    go : (read : Result Term Refusal) → unfold_cpp shape ≡ read → Ok text ≡ answer_of_symbol cpp_mangled detail limit read → IsAnswer wide_mangled detail s limit (Ok text)
    go (Ok t) e answered =
        shaped shape (abi_wide (Kind 0) shape is) spelled (answered ∙ sym (ap (λ read. answer_of_symbol wide_mangled detail limit read) (stays shape t is e)))
    go (Err refusal) e answered = absurd (let clash : ◌≡◌ {A = Result (List ℕ) Refusal} (Ok text) (Err refusal) = answered in cc)

pub returns-clause-texts : goal.returns-clause-texts
returns-clause-texts c = grows
