-- What a name means as a symbol, given the answer for the symbol.
use Rattle.json_lines.proofs.Basics.{◌≡◌, ◌∙◌, ℕ, Bool, List, Option, None, Some, Result, Ok, Err, refl, true, false, is_some, not, sym, ap, ap₂, option_and_then, if◌then◌else◌, Refusal, kind_of, symbol_of, Answering, text_for, trimmed, Mangling, Details, Detailing, mangling_of, no_symbol, answered, meaning_by, named_by, stays, symbol_meaning}
use Rattle.std.specs.Result.{result_ok}
use Rattle.sym_filter.specs.declared.kinds.Kind.{Kind}

pub unnamed : (reads_paths : Bool) (answers : Answering) (details : Detailing) (name : List ℕ) → kind_of name ≡ None → no_symbol ≡ symbol_meaning reads_paths answers details name
unfolding symbol_meaning
unnamed reads_paths answers details name none = sym (ap (meaning_by reads_paths answers details name) none)

pub named : (reads_paths : Bool) (answers : Answering) (details : Detailing) (name symbol : List ℕ) (kind : Kind) (mangling : Mangling) (found : Option Details) (answer : Result (List ℕ) Refusal) → kind_of name ≡ Some kind → symbol ≡ symbol_of kind name
    → mangling ≡ mangling_of reads_paths kind.lang symbol → found ≡ details kind symbol → answers kind symbol ≡ answer → answered mangling found answer ≡ symbol_meaning reads_paths answers details name
unfolding symbol_meaning
named reads_paths answers details name symbol kind mangling found answer kind_is same is known given =
    ap (λ (m : Mangling). answered m found answer) (is ∙ ap (mangling_of reads_paths kind.lang) same)
    ∙ ap₂ (answered (mangling_of reads_paths kind.lang (symbol_of kind name))) (known ∙ ap (details kind) same) (sym given ∙ ap (answers kind) same)
    ∙ sym (ap (meaning_by reads_paths answers details name) kind_is)

-- ## Whether a word has a text

known : (mangling : Mangling) (details : Option Details) (answer : Result (List ℕ) Refusal) → not (stays (answered mangling details answer)) ≡ is_some (result_ok answer)
known mangling details (Ok text) = refl
known mangling details (Err refusal) = refl

known-by : (reads_paths : Bool) (answers : Answering) (details : Detailing) (word : List ℕ) (kind : Option Kind)
    → not (stays (meaning_by reads_paths answers details word kind)) ≡ is_some (option_and_then (λ kind. result_ok (answers kind (symbol_of kind word))) kind)
known-by reads_paths answers details word None = refl
known-by reads_paths answers details word (Some kind) = known (mangling_of reads_paths kind.lang (symbol_of kind word)) (details kind (symbol_of kind word)) (answers kind (symbol_of kind word))

pub text-known : (reads_paths : Bool) (answers : Answering) (details : Detailing) (word : List ℕ) → not (stays (symbol_meaning reads_paths answers details word)) ≡ is_some (text_for answers word)
unfolding symbol_meaning text_for
text-known reads_paths answers details word = known-by reads_paths answers details word (kind_of word)

-- ## The name that a word is

either-word : (word front : List ℕ) (b : Bool) → front ≡ word → word ≡ (if b then front else word)
either-word word front true same = sym same
either-word word front false same = refl

pub named-whole : (answers : Answering) (word : List ℕ) → trimmed word ≡ word → word ≡ named_by answers word
unfolding named_by
named-whole answers word same = either-word word (trimmed word) (is_some (text_for answers (trimmed word))) same

pub named-front : (answers : Answering) (word : List ℕ) → is_some (text_for answers (trimmed word)) ≡ true → trimmed word ≡ named_by answers word
unfolding named_by
named-front answers word has = sym (ap (λ (b : Bool). if b then trimmed word else word) has)

pub named-word : (answers : Answering) (word : List ℕ) → is_some (text_for answers (trimmed word)) ≡ false → word ≡ named_by answers word
unfolding named_by
named-word answers word none = sym (ap (λ (b : Bool). if b then trimmed word else word) none)
