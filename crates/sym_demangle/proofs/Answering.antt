-- Each symbol has one answer.
use Rattle.sym_demangle.proofs.Basics.{◌≡◌, ℕ, inl, inr, ◌++◌, List, Result, Ok, Err, ap, refl, subst, sym, ◌∙◌, IfErr, IfOk, OnOk, nat_le, Bool, true, false, ◌⊎◌, ◌<◌, ◌≤◌, Refusal, Malformed, TooLong, IsMalformedOrMemory, Tree, IsTree, IsMalformed, spell, Kind, one_tree, Detail, Unshared, text_of, cost_of, Mangled, IsReading, misshapen, well_shaped, IsAnswer, malformed, shaped, answer, answer_of_shape, answer_of_symbol}
use Rattle.sym_core.specs.declared.refusal.Refusal.TheVariants as refusals
use Rattle.sym_shape.specs.Decided.{AreBytes}
use Rattle.sym_shape.proofs.Deciding.{decided, one_bad, outcome_shaped, outcome_malformed}
use Rattle.sym_print.specs.Answer.{text_within}
use Rattle.sym_print.proofs.Answering.{text_within-ok, text_within-too_long}

module _ {W : Type 0} (m : Mangled W) where
  -- a refusal of the reader of shapes is for want of memory, or is what the symbol reads as
  pub shape_refused : (s : List ℕ) (e : Refusal) → IsMalformedOrMemory m.table s e → (e ≡ refusals.Memory) ⊎ IsReading m s (Err e)
  shape_refused s (refusals.Malformed at) is = inr (misshapen at is refl)
  shape_refused s refusals.Memory is = inl refl
  shape_refused s e is = absurd is

  pub answer_refused : (detail : Detail) (s : List ℕ) (limit : ℕ) (e : Refusal) → (e ≡ refusals.Memory) ⊎ IsReading m s (Err e)
      → (e ≡ refusals.Memory) ⊎ IsAnswer m detail s limit (Err e)
  answer_refused detail s limit e (inl memory) = inl memory
  answer_refused detail s limit e (inr (misshapen at is same)) = inr (malformed at is (ap (λ (o : Result W Refusal). answer_of_symbol m detail limit o) same))
  answer_refused detail s limit e (inr (well_shaped (shape, is, spelled, same))) = inr (shaped shape is spelled (ap (λ (o : Result W Refusal). answer_of_symbol m detail limit o) same))

  -- the text of a symbol that was read, within the limit, is the symbol's answer
  pub answer_read : (detail : Detail) (s : List ℕ) (limit : ℕ) (w : W) (result : Result (List ℕ) Refusal) → IsReading m s (Ok w)
      → result ≡ text_within limit (m.shown detail w) → IsAnswer m detail s limit result
  answer_read detail s limit w result (misshapen at is same) given = absurd (let no : Ok w ≡ Err (refusals.Malformed at) = same in cc)
  answer_read detail s limit w result (well_shaped (shape, is, spelled, same)) given =
      shaped shape is spelled (given ∙ ap (λ (o : Result W Refusal). answer_of_symbol m detail limit o) same)

  pub answer_text : {A : Type 0} (bytes_of : A → List ℕ) (detail : Detail) (s : List ℕ) (limit : ℕ) (w : W) (result : Result A Refusal) → IsReading m s (Ok w) → IfOk result (λ text. bytes_of text ≡ text_of (m.shown detail w))
      → OnOk result (cost_of (m.shown detail w) ≤ limit) → IfOk result (λ text. IsAnswer m detail s limit (Ok (bytes_of text)))
  answer_text bytes_of detail s limit w (Ok text) reading is within =
      answer_read detail s limit w (Ok (bytes_of text)) reading (sym (text_within-ok limit (m.shown detail w) (bytes_of text) is within))
  answer_text bytes_of detail s limit w (Err e) reading is within = tt

  pub answer_too_long : {A : Type 0} (detail : Detail) (s : List ℕ) (limit : ℕ) (w : W) (result : Result A Refusal) → IsReading m s (Ok w)
      → IfErr result (λ r. (r ≡ refusals.TooLong) ⊎ (r ≡ refusals.Memory)) → (result ≡ Err refusals.TooLong → limit < cost_of (m.shown detail w))
      → IfErr result (λ e. (e ≡ refusals.Memory) ⊎ IsAnswer m detail s limit (Err e))
  answer_too_long detail s limit w (Ok text) reading is long = tt
  answer_too_long detail s limit w (Err e) reading (inr memory) long = inl memory
  answer_too_long {A = A} detail s limit w (Err e) reading (inl same) long =
      let errs : Refusal → Result A Refusal = λ r. Err r in
      let refused : Refusal → Result (List ℕ) Refusal = λ r. Err r in
      inr (answer_read detail s limit w (Err e) reading (ap refused same ∙ sym (text_within-too_long limit (m.shown detail w) (long (ap errs same)))))

  -- a text printed from an item that shows the symbol is the symbol's answer
  pub answer_printed : {A : Type 0} (bytes_of : A → List ℕ) (detail : Detail) (s : List ℕ) (limit : ℕ) (w : W) (found : Unshared) → found ≡ m.shown detail w → (result : Result A Refusal) → IsReading m s (Ok w)
      → IfOk result (λ text. bytes_of text ≡ text_of found) → OnOk result (cost_of found ≤ limit) → IfOk result (λ text. IsAnswer m detail s limit (Ok (bytes_of text)))
  answer_printed {A = A} bytes_of detail s limit w found same result reading is within =
      answer_text bytes_of detail s limit w result reading (subst (λ i. IfOk result (λ text. bytes_of text ≡ text_of i)) same is) (subst (λ i. OnOk result (cost_of i ≤ limit)) same within)

  pub answer_not_printed : {A : Type 0} (detail : Detail) (s : List ℕ) (limit : ℕ) (w : W) (found : Unshared) → found ≡ m.shown detail w → (result : Result A Refusal) → IsReading m s (Ok w)
      → IfErr result (λ r. (r ≡ refusals.TooLong) ⊎ (r ≡ refusals.Memory)) → (result ≡ Err refusals.TooLong → limit < cost_of found)
      → IfErr result (λ e. (e ≡ refusals.Memory) ⊎ IsAnswer m detail s limit (Err e))
  answer_not_printed {A = A} detail s limit w found same result reading is long =
      answer_too_long detail s limit w result reading is (λ refused. subst (λ i. limit < cost_of i) same (long refused))

  -- the text that is appended is the answer
  pub answer_appended : {A : Type 0} (detail : Detail) (s : List ℕ) (limit : ℕ) (w : W) (old new : List ℕ) (result : Result A Refusal) → IsReading m s (Ok w)
      → OnOk result (new ≡ old ++ text_of (m.shown detail w)) → OnOk result (cost_of (m.shown detail w) ≤ limit)
      → OnOk result ((text : List ℕ) × (new ≡ old ++ text) × IsAnswer m detail s limit (Ok text))
  answer_appended detail s limit w old new (Ok done) reading appended within =
      (text_of (m.shown detail w), appended, answer_read detail s limit w (Ok (text_of (m.shown detail w))) reading (sym (text_within-ok limit (m.shown detail w) (text_of (m.shown detail w)) refl within)))
  answer_appended detail s limit w old new (Err e) reading appended within = tt

  -- the answer to a well shaped symbol is the answer for its shape
  shape_answered : (detail : Detail) (s : List ℕ) (limit : ℕ) (shape : Tree) → AreBytes s → IsTree m.table (Kind 0) shape → spell shape ≡ s → answer m detail s limit ≡ answer_of_shape m detail limit shape
  unfolding answer
  shape_answered detail s limit shape bytes is text =
      outcome_shaped m.table m.lawful (answer_of_shape m detail limit) (λ at. Err (Malformed at)) (Err (Malformed 0)) s shape bytes is text

  -- the answer to a symbol that isn't well shaped is `Malformed` at its first bad byte
  bad_answered : (detail : Detail) (s : List ℕ) (limit at : ℕ) → AreBytes s → IsMalformed m.table s at → answer m detail s limit ≡ Err (Malformed at)
  unfolding answer
  bad_answered detail s limit at bytes bad =
      outcome_malformed m.table m.lawful (answer_of_shape m detail limit) (λ at. Err (Malformed at)) (Err (Malformed 0)) s at bytes bad

  pub has_answer : (detail : Detail) (s : List ℕ) (limit : ℕ) → AreBytes s → IsAnswer m detail s limit (answer m detail s limit)
  has_answer detail s limit bytes = elim (decided m.table m.lawful s bytes) [
    | inl whole ↦ shaped whole.0 whole.1 whole.2 (shape_answered detail s limit whole.0 bytes whole.1 whole.2)
    | inr bad ↦ malformed bad.0 bad.1 (bad_answered detail s limit bad.0 bytes bad.1)
  ]

  pub is_answer : (detail : Detail) (s : List ℕ) (limit : ℕ) (r : Result (List ℕ) Refusal) → AreBytes s → IsAnswer m detail s limit r → r ≡ answer m detail s limit
  is_answer detail s limit r bytes (malformed at bad e) = e ∙ sym (bad_answered detail s limit at bytes bad)
  is_answer detail s limit r bytes (shaped shape is text e) = e ∙ sym (shape_answered detail s limit shape bytes is text)

  -- two answers to the same bytes are the same, whatever the bytes are
  pub one_answer : (detail : Detail) (s : List ℕ) (limit : ℕ) (a b : Result (List ℕ) Refusal) → IsAnswer m detail s limit a → IsAnswer m detail s limit b → a ≡ b
  one_answer detail s limit a b (malformed at bad e) (malformed also worse f) =
      e ∙ ap (λ n. Err (Malformed n)) (one_bad m.table s at also bad.first worse.first) ∙ sym f
  one_answer detail s limit a b (malformed at bad e) (shaped shape is text f) = absurd (bad.refused (shape, is, text))
  one_answer detail s limit a b (shaped shape is text e) (malformed at bad f) = absurd (bad.refused (shape, is, text))
  one_answer detail s limit a b (shaped shape is text e) (shaped other are same f) =
      e ∙ ap (λ t. answer_of_shape m detail limit t) (one_tree m.table m.lawful shape other is are (text ∙ sym same)) ∙ sym f

  -- the answer to a symbol follows from what the symbol reads as
  pub reading_answered : (detail : Detail) (s : List ℕ) (limit : ℕ) (result : Result W Refusal) → AreBytes s → IsReading m s result
      → answer m detail s limit ≡ answer_of_symbol m detail limit result
  reading_answered detail s limit result bytes (misshapen at bad e) =
      bad_answered detail s limit at bytes bad ∙ ap (λ (r : Result W Refusal). answer_of_symbol m detail limit r) (sym e)
  reading_answered detail s limit result bytes (well_shaped (shape, is, text, e)) =
      shape_answered detail s limit shape bytes is text ∙ ap (λ (r : Result W Refusal). answer_of_symbol m detail limit r) (sym e)

  text_or_too_long : (test : Bool) (text : List ℕ) → IfErr (elim test [ true ↦ Ok text | false ↦ Err TooLong ]) (λ refusal. refusal ≡ TooLong)
  text_or_too_long true text = tt
  text_or_too_long false text = refl

  pub read_has_text : (detail : Detail) (s : List ℕ) (limit : ℕ) (symbol : W) → AreBytes s → IsReading m s (Ok symbol)
      → IfErr (answer m detail s limit) (λ refusal. refusal ≡ TooLong)
  read_has_text detail s limit symbol bytes reading =
      subst (λ (r : Result (List ℕ) Refusal). IfErr r (λ refusal. refusal ≡ TooLong)) (sym (reading_answered detail s limit (Ok symbol) bytes reading))
      (text_or_too_long (nat_le (cost_of (m.shown detail symbol)) limit) (text_of (m.shown detail symbol)))
