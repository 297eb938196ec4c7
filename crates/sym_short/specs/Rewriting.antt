-- The answers where texts are rewritten.
use Rattle.std.specs.Prelude.{ℕ, List, Bool, true, false, not, ◌&&◌, is_some, if◌then◌else◌, Result, Ok, Err}
use Rattle.sym_core.specs.declared.refusal.Refusal.{Refusal}
use Rattle.sym_filter.specs.Runs.{Answering}
use Rattle.sym_filter.specs.declared.kinds.Kind.{Kind}
use Rattle.sym_filter.specs.declared.kinds.Lang.{Lang}
use Rattle.sym_filter.specs.declared.kinds.Lang.TheVariants as lang
use Rattle.rust_legacy.specs.Path.{legacy_of}
use Rattle.gnu_texts.specs.Spelling.{gnu_text}
use Rattle.short_names.specs.Short.{shortened}
use Rattle.sym_short.specs.declared.texts.Texts.{Texts}
use Rattle.sym_short.specs.declared.texts.Texts.TheVariants as texts

-- an answer with another text, if there is one; a symbol that is refused is refused for the same reason
abbrev pub with_text : (List ℕ → List ℕ) → Result (List ℕ) Refusal → Result (List ℕ) Refusal
with_text rewritten (Ok text) = Ok (rewritten text)
with_text rewritten (Err refusal) = Err refusal

-- the answers with rewritten texts, by the answers before, and by what the text of a word's symbol becomes
abbrev pub answers_with : (Kind → List ℕ → List ℕ → List ℕ) → Answering → Answering
answers_with rewritten answers kind symbol = with_text (rewritten kind symbol) (answers kind symbol)

-- the texts that two flags request
abbrev pub texts_by : (short keeps_inline : Bool) → Texts
texts_by true keeps_inline = texts.Short keeps_inline
texts_by false keeps_inline = texts.Whole

abbrev pub is_cpp : Lang → Bool
is_cpp lang.Cpp = true
is_cpp lang.Rust = false

-- The text of a C++ symbol is rewritten, but not that of a legacy Rust name where it is the path that the name denotes.
abbrev pub rewrites : (reads_paths : Bool) → Lang → List ℕ → Bool
rewrites reads_paths mangling symbol = is_cpp mangling && not (reads_paths && is_some (legacy_of symbol))

-- what the text of a symbol becomes where texts of C++ symbols are rewritten
abbrev pub cpp_rewritten : (rewritten : List ℕ → List ℕ) → (reads_paths : Bool) → Kind → List ℕ → List ℕ → List ℕ
cpp_rewritten rewritten reads_paths kind symbol text = if rewrites reads_paths kind.lang symbol then rewritten text else text

-- the answers with texts of C++ symbols rewritten
abbrev pub rewritten_answers : (rewritten : List ℕ → List ℕ) → (reads_paths : Bool) → Answering → Answering
rewritten_answers rewritten reads_paths answers = answers_with (cpp_rewritten rewritten reads_paths) answers

-- the answers with short texts
abbrev pub short_answers : (keeps_inline reads_paths : Bool) → Answering → Answering
short_answers keeps_inline reads_paths answers = rewritten_answers (shortened keeps_inline) reads_paths answers

-- the answers with these texts
abbrev pub answers_as : Texts → (reads_paths : Bool) → Answering → Answering
answers_as texts.Whole reads_paths answers = answers
answers_as (texts.Short keeps_inline) reads_paths answers = short_answers keeps_inline reads_paths answers

-- the answers with texts as GNU's demangler spells them, or as they are
abbrev pub spelled_answers : (gnu reads_paths : Bool) → Answering → Answering
spelled_answers false reads_paths answers = answers
spelled_answers true reads_paths answers = rewritten_answers gnu_text reads_paths answers
