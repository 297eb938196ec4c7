-- Laws of answers with parts: an answer depends only on the tree or the refusal that the symbol is read as, and is the plain answer if its parts are left out.
use Rattle.std.proofs.Common.{◌≡◌, ℕ, List, [], Result, Ok, Err, inl, inr, refl, ap, sym, ◌∙◌, Option, Some, None}
use Rattle.sym_core.specs.declared.refusal.Refusal.{Refusal}
use Rattle.sym_core.specs.declared.refusal.Refusal.TheVariants.{Malformed}
use Rattle.sym_shape.specs.Decided.{AreBytes}
use Rattle.sym_shape.specs.Tree.{AreRowsOf, rows_of, spell}
use Rattle.sym_shape.specs.declared.rule.Row.{Row}
use Rattle.sym_shape.proofs.Deciding.{decided, outcome_shaped, outcome_malformed}
use Rattle.sym_shape.proofs.Uniqueness.{one_tree}
use Rattle.sym_print.specs.declared.detail.Detail.{Detail}
use Rattle.sym_print.specs.Answer.{text_within}
use Rattle.sym_parts.specs.Marked.{Marked}
use Rattle.sym_parts.specs.declared.kind.NameKind.{NameKind}
use Rattle.sym_demangle.specs.Mangled.{Mangled, IsReading, misshapen, well_shaped, answer, answer_of_symbol}
use Rattle.sym_demangle.proofs.Answering.{reading_answered}
use Rattle.sym_filter.specs.declared.kinds.Kind.{Kind}
use Rattle.sym_filter.specs.declared.kinds.Lang.{Lang}
use Rattle.sym_filter.specs.declared.kinds.Lang.TheVariants.{Cpp, Rust}
use Rattle.rust_grammar.specs.Mangled.{v0_mangled}
use Rattle.legacy_parts.specs.Kinds as legacy_kinds
use Rattle.legacy_parts.specs.Roles as legacy_roles
use Rattle.legacy_parts.specs.Spelled as legacy_spelled
use Rattle.rust_legacy.specs.Path.{Path, legacy_of}
use Rattle.rust_legacy.specs.Text.{legacy_answer, shown_path}
use Rattle.sym_languages.specs.Languages.{language_answer_by}
use Rattle.symbol_parts.specs.Parsed.{Parsed, Marking, Spelled, parsed, parsed_behind, parsed_of_shape, parsed_of_symbol, with_parts, without_parts, v0_marking, language_parsed_by, path_parsed, legacy_parsed}

text_alone : (what : NameKind) (spelled : Spelled) (marks : Marked) (r : Result (List ℕ) Refusal) → without_parts (with_parts what spelled marks r) ≡ r
unfolding with_parts without_parts
text_alone what spelled marks (Ok text) = refl
text_alone what spelled marks (Err refusal) = refl

module _ {W : Type 0} (m : Mangled W) (marking : Marking W) (detail : Detail) (limit : ℕ) where
  -- the answer with parts is the one for the tree or the refusal that the symbol is read as; the bytes of parts are known by the symbol's rows
  pub record IsParsing (s : List ℕ) (result : Result W Refusal) : Type 0 where
    pub spelled : Spelled
    pub rows_spell : (rows : List Row) → AreRowsOf m.table s rows → marking.spelled s rows ≡ spelled
    pub answers : parsed m marking detail s limit ≡ parsed_of_symbol m marking detail limit spelled result

  pub reading_parsed : (s : List ℕ) (result : Result W Refusal) → AreBytes s → IsReading m s result → IsParsing s result
  unfolding parsed
  reading_parsed s result bytes (misshapen at bad e) = record {
    spelled = marking.spelled s [];
    rows_spell = λ rows are. absurd (bad.refused (are.0, are.1, are.2));
    answers =
        outcome_malformed m.table m.lawful (parsed_of_shape m marking detail limit) (λ at. Err (Malformed at)) (Err (Malformed 0)) s at bytes bad
        ∙ ap (λ (r : Result W Refusal). parsed_of_symbol m marking detail limit (marking.spelled s []) r) (sym e);
  }
  reading_parsed s result bytes (well_shaped (shape, is, text, e)) = record {
    spelled = marking.spelled (spell shape) (rows_of shape 0 0 0);
    rows_spell = λ rows are.
        ap (marking.spelled s) (are.3 ∙ ap (λ tree. rows_of tree 0 0 0) (one_tree m.table m.lawful are.0 shape are.1 is (are.2 ∙ sym text)))
        ∙ ap (λ bytes. marking.spelled bytes (rows_of shape 0 0 0)) (sym text);
    answers =
        outcome_shaped m.table m.lawful (parsed_of_shape m marking detail limit) (λ at. Err (Malformed at)) (Err (Malformed 0)) s shape bytes is text
        ∙ ap (λ (r : Result W Refusal). parsed_of_symbol m marking detail limit (marking.spelled (spell shape) (rows_of shape 0 0 0)) r) (sym e);
  }

  symbol_text : (spelled : Spelled) (r : Result W Refusal) → without_parts (parsed_of_symbol m marking detail limit spelled r) ≡ answer_of_symbol m detail limit r
  unfolding without_parts
  symbol_text spelled (Ok w) = text_alone (marking.kind w) spelled (marking.marked w (m.shown detail w)) (text_within limit (m.shown detail w))
  symbol_text spelled (Err refusal) = refl

  reading_text : (s : List ℕ) (result : Result W Refusal) → AreBytes s → IsReading m s result → without_parts (parsed m marking detail s limit) ≡ answer m detail s limit
  reading_text s result bytes reading =
      let is = reading_parsed s result bytes reading in
      ap without_parts is.answers ∙ symbol_text is.spelled result ∙ sym (reading_answered m detail s limit result bytes reading)

  pub parsed_text : (s : List ℕ) → AreBytes s → without_parts (parsed m marking detail s limit) ≡ answer m detail s limit
  parsed_text s bytes = elim (decided m.table m.lawful s bytes) [
    | inl whole ↦ reading_text s (m.unfolded whole.0) bytes (well_shaped (whole.0, whole.1, whole.2, refl))
    | inr bad ↦ reading_text s (Err (Malformed bad.0)) bytes (misshapen bad.0 bad.1 refl)
  ]

-- the texts of answers with parts, where a mangling over other trees answers alike
pub over_text : {W V : Type 0} (m : Mangled W) (over : Mangled V) (marking : Marking V) → ((detail : Detail) (s : List ℕ) (limit : ℕ) → answer over detail s limit ≡ answer m detail s limit)
    → (detail : Detail) (limit : ℕ) (s : List ℕ) → AreBytes s → without_parts (parsed over marking detail s limit) ≡ answer m detail s limit
over_text m over marking same detail limit s bytes = parsed_text over marking detail limit s bytes ∙ same detail s limit

-- the text of a word is that of its symbol
behind_text : (skip : ℕ) (r : Result Parsed Refusal) (plain : Result (List ℕ) Refusal) → without_parts r ≡ plain → without_parts (parsed_behind skip r) ≡ plain
unfolding parsed_behind without_parts
behind_text skip (Ok parsed) plain same = same
behind_text skip (Err refusal) plain same = same

-- the texts of answers with parts, by language
lang_text : {W V : Type 0} (cpp : Mangled W) (over : Mangled V) (marking : Marking V) → ((detail : Detail) (s : List ℕ) (limit : ℕ) → answer over detail s limit ≡ answer cpp detail s limit)
    → (limit : ℕ) (detail : Detail) (lang : Lang) (symbol : List ℕ) → AreBytes symbol
    → without_parts (language_parsed_by over marking limit detail lang symbol) ≡ language_answer_by cpp limit detail lang symbol
lang_text cpp over marking same limit detail Cpp symbol bytes = over_text cpp over marking same detail limit symbol bytes
lang_text cpp over marking same limit detail Rust symbol bytes = parsed_text v0_mangled v0_marking detail limit symbol bytes

pub language_text : {W V : Type 0} (cpp : Mangled W) (over : Mangled V) (marking : Marking V) → ((detail : Detail) (s : List ℕ) (limit : ℕ) → answer over detail s limit ≡ answer cpp detail s limit)
    → (limit : ℕ) (detail : Detail) (kind : Kind) (symbol : List ℕ) → AreBytes symbol
    → without_parts (parsed_behind kind.skip (language_parsed_by over marking limit detail kind.lang symbol)) ≡ language_answer_by cpp limit detail kind.lang symbol
language_text cpp over marking same limit detail kind symbol bytes =
    behind_text kind.skip (language_parsed_by over marking limit detail kind.lang symbol) (language_answer_by cpp limit detail kind.lang symbol)
    (lang_text cpp over marking same limit detail kind.lang symbol bytes)

-- the texts of answers with parts, where legacy names are paths
legacy_text_by : (limit : ℕ) (symbol : List ℕ) (other : Result Parsed Refusal) (plain : Result (List ℕ) Refusal) → without_parts other ≡ plain → (path : Option Path)
    → without_parts (elim path as (λ x. Result Parsed Refusal) [ Some path ↦ path_parsed limit symbol path | None ↦ other ])
    ≡ (elim (elim path as (λ x. Option (Result (List ℕ) Refusal)) [ Some path ↦ Some (text_within limit (shown_path path)) | None ↦ None ]) as (λ x. Result (List ℕ) Refusal) [ Some answer ↦ answer | None ↦ plain ])
legacy_text_by limit symbol other plain same (Some path) =
    text_alone (legacy_kinds.kind_of_path path) (λ stretches. legacy_spelled.spelling_of_path symbol path) (legacy_roles.path_marked path) (text_within limit (shown_path path))
legacy_text_by limit symbol other plain same None = same

pub legacy_name_text : {W V : Type 0} (cpp : Mangled W) (over : Mangled V) (marking : Marking V) → ((detail : Detail) (s : List ℕ) (limit : ℕ) → answer over detail s limit ≡ answer cpp detail s limit)
    → (limit : ℕ) (detail : Detail) (kind : Kind) (symbol : List ℕ) → AreBytes symbol
    → without_parts (parsed_behind kind.skip (legacy_parsed limit symbol (language_parsed_by over marking limit detail kind.lang symbol))) ≡ legacy_answer limit symbol (language_answer_by cpp limit detail kind.lang symbol)
legacy_name_text cpp over marking same limit detail kind symbol bytes =
    let other = language_parsed_by over marking limit detail kind.lang symbol in
    let plain = language_answer_by cpp limit detail kind.lang symbol in
    behind_text kind.skip (legacy_parsed limit symbol other) (legacy_answer limit symbol plain)
    (legacy_text_by limit symbol other plain (lang_text cpp over marking same limit detail kind.lang symbol bytes) (legacy_of symbol))
