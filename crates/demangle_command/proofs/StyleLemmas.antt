-- What is answered in a style, and which details of the answer are known.
use Rattle.demangle_command.proofs.Basics.{◌≡◌, ◌∙◌, ap, ℕ, Bool, List, true, false, Err, None, cond-true, cond-false, Detail, answers_by, cpp_by, details_found, styled_answer, styled_details, leaves_out, reads_paths, Style}
use Rattle.sym_core.specs.declared.refusal.Refusal.TheVariants.{Malformed}
use Rattle.sym_filter.specs.declared.kinds.Kind.{Kind}
use Rattle.symbol_parts.specs.Parsed.{cpp_marking, parsed_by}

module _ (style : Style) (limit : ℕ) (detail : Detail) (kind : Kind) (symbol : List ℕ) where
  pub left-out : leaves_out style kind.lang symbol ≡ true → styled_answer style limit detail kind symbol ≡ Err (Malformed 0)
  left-out out = cond-true (leaves_out style kind.lang symbol) _ _ out

  pub as-path : leaves_out style kind.lang symbol ≡ false → reads_paths style ≡ true → styled_answer style limit detail kind symbol ≡ answers_by (cpp_by true) true limit detail kind symbol
  as-path read paths = cond-false (leaves_out style kind.lang symbol) _ _ read ∙ ap (λ (b : Bool). answers_by (cpp_by true) b limit detail kind symbol) paths

  pub as-symbol : leaves_out style kind.lang symbol ≡ false → reads_paths style ≡ false → styled_answer style limit detail kind symbol ≡ answers_by (cpp_by true) false limit detail kind symbol
  as-symbol read symbols = cond-false (leaves_out style kind.lang symbol) _ _ read ∙ ap (λ (b : Bool). answers_by (cpp_by true) b limit detail kind symbol) symbols

  -- ## Details

  pub details-left-out : leaves_out style kind.lang symbol ≡ true → styled_details style limit detail kind symbol ≡ None
  details-left-out out = cond-true (leaves_out style kind.lang symbol) _ _ out

  pub details-as-path : leaves_out style kind.lang symbol ≡ false → reads_paths style ≡ true → styled_details style limit detail kind symbol ≡ details_found (parsed_by (cpp_by true) cpp_marking true limit detail kind symbol)
  details-as-path read paths = cond-false (leaves_out style kind.lang symbol) _ _ read ∙ ap (λ (b : Bool). details_found (parsed_by (cpp_by true) cpp_marking b limit detail kind symbol)) paths

  pub details-as-symbol : leaves_out style kind.lang symbol ≡ false → reads_paths style ≡ false → styled_details style limit detail kind symbol ≡ details_found (parsed_by (cpp_by true) cpp_marking false limit detail kind symbol)
  details-as-symbol read symbols = cond-false (leaves_out style kind.lang symbol) _ _ read ∙ ap (λ (b : Bool). details_found (parsed_by (cpp_by true) cpp_marking b limit detail kind symbol)) symbols
