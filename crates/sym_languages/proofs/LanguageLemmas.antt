-- What is answered for a symbol, according to the laws of its answers.
use Rattle.sym_languages.proofs.Basics.{◌≡◌, ◌≢◌, ◌⊎◌, inl, inr, ℕ, List, ◌++◌, length, Result, Ok, Err, sym, ap, ◌∙◌, subst, OnOk, OnErr, IfErr, ◌+◌, ◌*◌, ◌≤◌, Refusal, Memory, TooLong, Detail, has_arguments, AreBytes, Mangled, IsAnswer, IsReading, answer, is_answer, reading_answered, v0_mangled, IsAppended, IsDemangled, with_front, Readings, AreCounts, language_answer_by, Rust}
use Rattle.sym_core.specs.declared.counts.Counts.{Counts}
use Rattle.sym_shape.specs.declared.rule.Row.{Row}
use Rattle.sym_shape.specs.Tree.{AreRowsOf}
use Rattle.sym_demangle.specs.Standing.{AreStepsInAll, AreNodesOf}
use Rattle.sym_filter.specs.declared.demangler.Demangled.{Demangled}
use Rattle.sym_filter.specs.declared.kinds.Lang.{Lang}
use Rattle.sym_languages.proofs.RustDetails.{rust_answers_alike}

module _ {W : Type 0} (m : Mangled W) (limit : ℕ) (detail : Detail) (symbol : List ℕ) (bytes : AreBytes symbol) where
  -- the text that was appended is the text of the answer
  text_given : (old new : List ℕ) → (text : List ℕ) × (new ≡ old ++ text) × IsAnswer m detail symbol limit (Ok text)
      → (text : List ℕ) × (answer m detail symbol limit ≡ Ok text) × (new ≡ old ++ text)
  text_given old new (text, appended, is) = (text, sym (is_answer m detail symbol limit (Ok text) bytes is), appended)

  pub text_answered : {A : Type 0} (old new : List ℕ) (result : Result A Refusal) (done : A) → result ≡ Ok done
      → OnOk result ((text : List ℕ) × (new ≡ old ++ text) × IsAnswer m detail symbol limit (Ok text))
      → (text : List ℕ) × (answer m detail symbol limit ≡ Ok text) × (new ≡ old ++ text)
  text_answered old new result done there is =
      text_given old new (subst (λ r. OnOk r ((text : List ℕ) × (new ≡ old ++ text) × IsAnswer m detail symbol limit (Ok text))) there is)

  -- a text that was written first and then appended
  pub written_given : (written shown old new : List ℕ) → IsAnswer m detail symbol limit (Ok written) → shown ≡ written → new ≡ old ++ shown
      → (text : List ℕ) × (answer m detail symbol limit ≡ Ok text) × (new ≡ old ++ text)
  written_given written shown old new is same appended =
      (written, sym (is_answer m detail symbol limit (Ok written) bytes is), appended ∙ ap (λ t. old ++ t) same)

  -- a text that was appended, or refused
  pub append_answered : {A : Type 0} (old new : List ℕ) (result : Result A Refusal)
      → OnOk result ((text : List ℕ) × (new ≡ old ++ text) × IsAnswer m detail symbol limit (Ok text))
      → IfErr result (λ e. (e ≡ Memory) ⊎ IsAnswer m detail symbol limit (Err e)) → OnErr result (new ≡ old)
      → IsAppended (answer m detail symbol limit) old new result
  append_answered old new (Ok done) given refused same = text_given old new given
  append_answered old new (Err e) given refused same =
      (λ other. elim refused [ inl memory ↦ absurd (other memory) | inr is ↦ sym (is_answer m detail symbol limit (Err e) bytes is) ], same)

  -- a text that is refused for its cost
  pub too_long_answered : {A : Type 0} (result : Result A Refusal) (refusal : Refusal) → result ≡ Err refusal → refusal ≡ TooLong
      → IfErr result (λ e. (e ≡ Memory) ⊎ IsAnswer m detail symbol limit (Err e))
      → answer m detail symbol limit ≡ Err TooLong
  too_long_answered result refusal there same is =
      let refused : Refusal → Result (List ℕ) Refusal = λ r. Err r in
      elim (subst (λ r. IfErr r (λ e. (e ≡ Memory) ⊎ IsAnswer m detail symbol limit (Err e))) there is) [
        | inl memory ↦ absurd (let other : TooLong ≡ Memory = sym same ∙ memory in cc)
        | inr answered ↦ sym (is_answer m detail symbol limit (Err refusal) bytes answered) ∙ ap refused same
      ]

  -- a symbol that isn't read
  pub unread_answered : (refusal : Refusal) → refusal ≢ TooLong → (refusal ≡ Memory) ⊎ IsReading m symbol (Err refusal)
      → refusal ≢ Memory → (answer m detail symbol limit ≡ Err refusal) × (refusal ≢ TooLong)
  unread_answered refusal short (inl memory) other = absurd (other memory)
  unread_answered refusal short (inr is) other = (reading_answered m detail symbol limit (Err refusal) bytes is, short)

-- the counts of a symbol that was read
pub read_counts : {W R : Type 0} (readings : Readings W R) (symbol : List ℕ) (read : R) (counts : Counts) (rows steps nodes : ℕ)
    → (shape : List Row) × AreRowsOf readings.mangled.table symbol shape × (rows ≡ length shape)
    → readings.bytes_of read ≡ symbol → IsReading readings.mangled symbol (Ok (readings.whole_of read)) → AreStepsInAll readings.mangled.table symbol steps
    → AreNodesOf readings.mangled.table readings.are_nodes symbol nodes → readings.IsRead read → counts.rows ≡ rows → counts.nodes ≡ nodes → counts.steps ≡ steps
    → counts.nodes ≤ readings.nodes_a_byte * length (readings.bytes_of read) + 8 → counts.steps ≤ 32 * length (readings.bytes_of read) + 48
    → counts.rows ≤ counts.steps → AreCounts readings symbol counts
read_counts readings symbol read counts rows steps nodes (shape, are_rows, same) bytes stands counted are_nodes is_read rows_are nodes_are steps_are nodes_few steps_few enough =
    record {
      shape = shape;
      are_rows = are_rows;
      rows = rows_are ∙ same;
      read = read;
      is_read = is_read;
      bytes = bytes;
      stands = stands;
      nodes = subst (λ n. AreNodesOf readings.mangled.table readings.are_nodes symbol n) (sym nodes_are) are_nodes;
      nodes_few = subst (λ (s : List ℕ). counts.nodes ≤ readings.nodes_a_byte * length s + 8) bytes nodes_few;
      steps = subst (λ n. AreStepsInAll readings.mangled.table symbol n) (sym steps_are) counted;
      steps_few = subst (λ (s : List ℕ). counts.steps ≤ 32 * length s + 48) bytes steps_few;
      steps_enough = enough;
    }

-- the result for a symbol of a language, where an equation says which language it is
pub demangled_in : (answers : Lang → Result (List ℕ) Refusal) (counting : Lang → List ℕ → Counts → Type 0) (lang known : Lang) (symbol old new : List ℕ) (demangled : Demangled) → lang ≡ known
    → IsDemangled (answers known) (counting known symbol) old new demangled → IsDemangled (answers lang) (counting lang symbol) old new demangled
demangled_in answers counting lang known symbol old new demangled same is =
    subst (λ l. IsDemangled (answers l) (counting l symbol) old new demangled) (sym same) is

-- the answer for a Rust symbol in any detail that shows arguments exactly if the requested detail does
pub rust_answered : {W : Type 0} (cpp : Mangled W) (limit : ℕ) (detail shown : Detail) (lang : Lang) (symbol : List ℕ) → AreBytes symbol → lang ≡ Rust → has_arguments shown ≡ has_arguments detail
    → answer v0_mangled shown symbol limit ≡ language_answer_by cpp limit detail lang symbol
rust_answered cpp limit detail shown lang symbol bytes is same =
    rust_answers_alike shown detail limit symbol same bytes ∙ ap (λ l. language_answer_by cpp limit detail l symbol) (sym is)

-- ## Symbols that are pressed

-- a symbol that isn't read
pub unread_pressed : {W : Type 0} (m : Mangled W) (answer : List ℕ → Result (List ℕ) Refusal) (front symbol : List ℕ) (refusal : Refusal)
    → (IsReading m symbol (Err refusal) → answer symbol ≡ Err refusal) → refusal ≢ TooLong → (refusal ≡ Memory) ⊎ IsReading m symbol (Err refusal)
    → refusal ≢ Memory → (with_front front (answer symbol) ≡ Err refusal) × (refusal ≢ TooLong)
unread_pressed m answer front symbol refusal law short (inl memory) other = absurd (other memory)
unread_pressed m answer front symbol refusal law short (inr is) other = (ap (with_front front) (law is), short)

-- a symbol that is read, whose pressed spelling was appended
pub pressed_given : (front old new bytes spelling : List ℕ) (answer : Result (List ℕ) Refusal) → answer ≡ Ok spelling → bytes ≡ spelling → new ≡ old ++ (front ++ bytes)
    → (text : List ℕ) × (with_front front answer ≡ Ok text) × (new ≡ old ++ text)
pressed_given front old new bytes spelling answer law is pushed =
    let answered : List ℕ → Result (List ℕ) Refusal = λ text. Ok text in
    (front ++ bytes, ap (with_front front) (law ∙ ap answered (sym is)), pushed)
