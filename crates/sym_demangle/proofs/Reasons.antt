-- Each refusal has its reason in the symbol.
use Rattle.sym_demangle.proofs.Basics.{◌≡◌, sym, subst, inl, inr, ◌∙◌, ℕ, List, Bool, true, false, Ok, Err, Result, ◌≢◌, IfOk, IfErr, nat_le, Refusal, Malformed, BadReference, BadValue, TooLong, Memory, IsWellShaped, text_of, cost_of, Detail, Mangled, RefusesBadTokens, IsBadToken, StandsFor, IsRefused, IsReading, misshapen, well_shaped, IsAnswer, malformed, shaped, answer_of_symbol, HasReason}

module _ {W : Type 0} (m : Mangled W) (refuses : RefusesBadTokens m) where
  token_reason : (s : List ℕ) (refusal : Refusal) → IsWellShaped m.table s → IsBadToken refusal → HasReason m.table s refusal
  token_reason s (BadReference at) whole bad = whole
  token_reason s (BadValue at) whole bad = whole
  token_reason s refusal whole bad = absurd bad

  stands_for_bad : (s : List ℕ) (refusal : Refusal) → StandsFor m s (Err refusal) → IsBadToken refusal
  stands_for_bad s refusal (shape, is, spelled, same) = subst (λ (r : Result W Refusal). IfErr r IsBadToken) (sym same) (refuses shape is)

  -- ## What is read

  pub reading_reason : (s : List ℕ) (refusal : Refusal) → IsReading m s (Err refusal) → HasReason m.table s refusal
  reading_reason s refusal (misshapen at bad same) = subst (λ (r : Result W Refusal). IfErr r (HasReason m.table s)) (sym same) bad
  reading_reason s refusal (well_shaped stands) = token_reason s refusal (stands.0, stands.1, stands.2) (stands_for_bad s refusal stands)

  malformed_not_too_long : (at : ℕ) → Malformed at ≢ TooLong
  malformed_not_too_long at same = cc

  bad_not_too_long : (refusal : Refusal) → IsBadToken refusal → refusal ≢ TooLong
  bad_not_too_long refusal bad same = subst IsBadToken same bad

  pub reading_not_too_long : (s : List ℕ) (refusal : Refusal) → IsReading m s (Err refusal) → refusal ≢ TooLong
  reading_not_too_long s refusal (misshapen at bad same) = subst (λ (r : Result W Refusal). IfErr r (λ e. e ≢ TooLong)) (sym same) (malformed_not_too_long at)
  reading_not_too_long s refusal (well_shaped stands) = bad_not_too_long refusal (stands_for_bad s refusal stands)

  -- a linker doesn't refuse with `TooLong`
  pub link_not_too_long : (s : List ℕ) (refusal : Refusal) → IsRefused m s refusal → refusal ≢ TooLong
  link_not_too_long s refusal (inl memory) = λ long. absurd (let no : Memory ≡ TooLong = sym memory ∙ long in cc)
  link_not_too_long s refusal (inr stands) = bad_not_too_long refusal (stands_for_bad s refusal stands)

  -- ## What is answered

  text_reason : (s text : List ℕ) (test : Bool) → IsWellShaped m.table s → IfErr (elim test [ true ↦ Ok text | false ↦ Err TooLong ]) (HasReason m.table s)
  text_reason s text true whole = tt
  text_reason s text false whole = whole

  symbol_reason : (detail : Detail) (s : List ℕ) (limit : ℕ) (result : Result W Refusal) → IsWellShaped m.table s → IfErr result IsBadToken
      → IfErr (answer_of_symbol m detail limit result) (HasReason m.table s)
  symbol_reason detail s limit (Ok symbol) whole is = text_reason s (text_of (m.shown detail symbol)) (nat_le (cost_of (m.shown detail symbol)) limit) whole
  symbol_reason detail s limit (Err refusal) whole bad = token_reason s refusal whole bad

  pub answer_reason : (detail : Detail) (s : List ℕ) (limit : ℕ) (refusal : Refusal) → IsAnswer m detail s limit (Err refusal) → HasReason m.table s refusal
  answer_reason detail s limit refusal (malformed at bad same) = subst (λ (r : Result (List ℕ) Refusal). IfErr r (HasReason m.table s)) (sym same) bad
  answer_reason detail s limit refusal (shaped shape is spelled same) =
      subst (λ (r : Result (List ℕ) Refusal). IfErr r (HasReason m.table s)) (sym same) (symbol_reason detail s limit (m.unfolded shape) (shape, is, spelled) (refuses shape is))

  -- a symbol is read as what it is linked to
  pub links_read : {T : Type 0} (whole : T → W) (s bytes : List ℕ) (result : Result T Refusal) → s ≡ bytes → IfOk result (λ x. StandsFor m s (Ok (whole x))) → IfOk result (λ x. IsReading m bytes (Ok (whole x)))
  links_read whole s bytes (Ok x) same stands = well_shaped (subst (λ b. StandsFor m b (Ok (whole x))) same stands)
  links_read whole s bytes (Err e) same stands = tt

  -- linking never refuses with `TooLong`
  pub links_not_too_long : {T : Type 0} (s : List ℕ) (result : Result T Refusal) → IfErr result (IsRefused m s) → IfErr result (λ e. e ≢ TooLong)
  links_not_too_long s (Ok found) is = is
  links_not_too_long s (Err refusal) is = link_not_too_long s refusal is
