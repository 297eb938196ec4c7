-- Laws of what is said of a text's entries, which a report takes in order.
use Rattle.std.proofs.Common.{◌≡◌, ◌∙◌, ◌+◌, ◌<◌, ℕ, Bool, true, false, cond, eqb, List, [], ◌∷◌, ◌++◌, ◌||◌, Option, refl, sym, ap, ap₂, subst, append_assoc, get_or, length, take}
use Rattle.std.specs.Prelude.{Result, Ok, Err, IfErr, OnErr}
use Rattle.std.specs.Io.KnownBytes.{Appends}
use Rattle.std.proofs.Math.Bool.{or_assoc, or-false}
use Rattle.std.proofs.lemmas.List.{append-nil, take_more}
use Rattle.sym_filter.specs.Entries.{Entry, newline, left_word, newline_of, newlines_in}
use Rattle.sym_filter.specs.Runs.{capped}
use Rattle.sym_filter.specs.Streams.{PutsFront}
use Rattle.sym_filter.proofs.StreamLemmas.{Appends-join, Appends-none, PutsFront-none, PutsFront-same}
use Rattle.sym_filter.proofs.EntryLemmas.{newlines-append, newlines-byte, newlines-cons}
use Rattle.demangle_names.specs.Saying.{Saying, Told, Untold, line_after, one_stays, said_from, said_of_words}

pub line-both : (line : ℕ) (entries more : List Entry) → line_after line (entries ++ more) ≡ line_after (line_after line entries) more
line-both line [] more = refl
line-both line (newline ∷ entries) more = line-both (capped (line + 1)) entries more
line-both line (left_word word ∷ entries) more = line-both line entries more

pub said-both : (saying : Saying) (line : ℕ) (entries more : List Entry) → said_from saying line (entries ++ more) ≡ said_from saying line entries ++ said_from saying (line_after line entries) more
said-both saying line [] more = refl
said-both saying line (newline ∷ entries) more = said-both saying (capped (line + 1)) entries more
said-both saying line (left_word word ∷ entries) more =
    let first = saying.says line word in
    ap (λ (t : List ℕ). first ++ t) (said-both saying line entries more) ∙ sym (append_assoc first (said_from saying line entries) (said_from saying (line_after line entries) more))

pub stays-both : (saying : Saying) (entries more : List Entry) → one_stays saying (entries ++ more) ≡ (one_stays saying entries || one_stays saying more)
stays-both saying [] more = refl
stays-both saying (newline ∷ entries) more = stays-both saying entries more
stays-both saying (left_word word ∷ entries) more =
    ap (λ (b : Bool). saying.stays word || b) (stays-both saying entries more) ∙ sym (or_assoc (saying.stays word) (one_stays saying entries) (one_stays saying more))

pub told-none : (saying : Saying) (line : ℕ) (left : Bool) (said : Option (List ℕ)) → Told saying saying line line left left said said []
told-none saying line left said = record { same = refl; reached = refl; stay = sym (or-false left); says = Appends-none said }

pub told-both : (saying saying' saying'' : Saying) (line line' line'' : ℕ) (left left' left'' : Bool) (said said' said'' : Option (List ℕ)) (entries more : List Entry) → Told saying saying' line line' left left' said said' entries
    → Told saying' saying'' line' line'' left' left'' said' said'' more → Told saying saying'' line line'' left left'' said said'' (entries ++ more)
told-both saying saying' saying'' line line' line'' left left' left'' said said' said'' entries more h i =
    let next : said_from saying' line' more ≡ said_from saying (line_after line entries) more = ap (λ (a : Saying). said_from a line' more) h.same ∙ ap (λ (n : ℕ). said_from saying n more) h.reached in record {
      same = i.same ∙ h.same;
      reached = i.reached ∙ ap (λ (n : ℕ). line_after n more) h.reached ∙ sym (line-both line entries more);
      stay =
          i.stay ∙ ap (λ (b : Bool). b || one_stays saying' more) h.stay ∙ ap (λ (a : Saying). (left || one_stays saying entries) || one_stays a more) h.same
          ∙ or_assoc left (one_stays saying entries) (one_stays saying more) ∙ ap (λ (b : Bool). left || b) (sym (stays-both saying entries more));
      says = subst (λ (t : List ℕ). Appends said said'' t) (ap (λ (t : List ℕ). said_from saying line entries ++ t) next ∙ sym (said-both saying line entries more))
          (Appends-join said said' said'' (said_from saying line entries) (said_from saying' line' more) h.says i.says);
    }

pub untold-before : (saying : Saying) (line : ℕ) (said said' : Option (List ℕ)) (entries more : List Entry) → Untold saying line said said' entries → Untold saying line said said' (entries ++ more)
untold-before saying line said said' entries more h =
    let rest = said_from saying (line_after line entries) more in record {
      gone = h.gone;
      writes = h.writes;
      begins = (h.begins.0 ++ rest, said-both saying line entries more ∙ ap (λ (t : List ℕ). t ++ rest) h.begins.1 ∙ append_assoc h.gone h.begins.0 rest);
    }

pub untold-within : (saying saying' : Saying) (line line' : ℕ) (left left' : Bool) (said said' : Option (List ℕ)) (entries more : List Entry) → Told saying saying' line line' left left' said said' entries → Untold saying line said said' (entries ++ more)
untold-within saying saying' line line' left left' said said' entries more h = record {
  gone = said_from saying line entries;
  writes = h.says;
  begins = (said_from saying (line_after line entries) more, said-both saying line entries more);
}

pub untold-later : (saying saying' : Saying) (line line' : ℕ) (left left' : Bool) (said said' said'' : Option (List ℕ)) (entries more : List Entry) → Told saying saying' line line' left left' said said' entries
    → Untold saying' line' said' said'' more → Untold saying line said said'' (entries ++ more)
untold-later saying saying' line line' left left' said said' said'' entries more h i =
    let first = said_from saying line entries in
    let next : said_from saying' line' more ≡ said_from saying (line_after line entries) more = ap (λ (a : Saying). said_from a line' more) h.same ∙ ap (λ (n : ℕ). said_from saying n more) h.reached in record {
      gone = first ++ i.gone;
      writes = Appends-join said said' said'' first i.gone h.says i.writes;
      begins = (i.begins.0, said-both saying line entries more ∙ ap (λ (t : List ℕ). first ++ t) (sym next ∙ i.begins.1) ∙ sym (append_assoc first i.gone i.begins.0));
    }

-- one more byte of a text
pub line-more : (line : ℕ) (bytes : List ℕ) (i : ℕ) → i < length bytes → line_after line (newlines_in (take (i + 1) bytes)) ≡ line_after (line_after line (newlines_in (take i bytes))) (newline_of (get_or bytes i 0))
line-more line bytes i h =
    let byte = get_or bytes i 0 in
    ap (λ (t : List ℕ). line_after line (newlines_in t)) (take_more bytes i 0 h)
    ∙ ap (line_after line) (newlines-append (take i bytes) (byte ∷ []) ∙ ap (λ (t : List Entry). newlines_in (take i bytes) ++ t) (newlines-byte byte))
    ∙ line-both line (newlines_in (take i bytes)) (newline_of byte)

-- nothing is said of newlines
pub silent : (saying : Saying) (bytes : List ℕ) (line : ℕ) → said_from saying line (newlines_in bytes) ≡ []
silent saying [] line = refl
silent saying (byte ∷ bytes) line = ap (said_from saying line) (newlines-cons byte bytes) ∙ step (eqb byte 10) (silent saying bytes)
  where
    step : (b : Bool) → ((n : ℕ) → said_from saying n (newlines_in bytes) ≡ []) → said_from saying line (cond {A = List Entry} b (newline ∷ []) [] ++ newlines_in bytes) ≡ []
    step true rest = rest (capped (line + 1))
    step false rest = rest line

-- no newline counts as a word that stays
pub none-stays : (saying : Saying) (bytes : List ℕ) → one_stays saying (newlines_in bytes) ≡ false
none-stays saying [] = refl
none-stays saying (byte ∷ bytes) = ap (one_stays saying) (newlines-cons byte bytes) ∙ step (eqb byte 10) (none-stays saying bytes)
  where
    step : (b : Bool) → one_stays saying (newlines_in bytes) ≡ false → one_stays saying (cond {A = List Entry} b (newline ∷ []) [] ++ newlines_in bytes) ≡ false
    step true rest = rest
    step false rest = rest

pub told-bytes : (saying : Saying) (line : ℕ) (left : Bool) (said : Option (List ℕ)) (bytes : List ℕ) → Told saying saying line (line_after line (newlines_in bytes)) left left said said (newlines_in bytes)
told-bytes saying line left said bytes = record {
  same = refl;
  reached = refl;
  stay = sym (or-false left) ∙ ap (λ (b : Bool). left || b) (sym (none-stays saying bytes));
  says = subst (λ (t : List ℕ). Appends said said t) (sym (silent saying bytes line)) (Appends-none said);
}

pub told-word : (saying : Saying) (line : ℕ) (left left' stays : Bool) (said said' : Option (List ℕ)) (word bytes : List ℕ) → bytes ≡ saying.says line word → stays ≡ saying.stays word → left' ≡ (left || stays) → Appends said said' bytes
    → Told saying saying line line left left' said said' (left_word word ∷ [])
told-word saying line left left' stays said said' word bytes is stay noted h = record {
  same = refl;
  reached = refl;
  stay = noted ∙ ap (λ (b : Bool). left || b) (stay ∙ sym (or-false (saying.stays word)));
  says = subst (λ (t : List ℕ). Appends said said' t) (is ∙ sym (append-nil (saying.says line word))) h;
}

pub untold-word : (saying : Saying) (line : ℕ) (said said' : Option (List ℕ)) (word bytes : List ℕ) → bytes ≡ saying.says line word → PutsFront said said' [] bytes → Untold saying line said said' (left_word word ∷ [])
untold-word saying line said said' word bytes is h = PutsFront-same said said' [] _ _ (is ∙ sym (append-nil (saying.says line word))) h

pub untold-none : (saying : Saying) (line : ℕ) (said : Option (List ℕ)) (entries : List Entry) → Untold saying line said said entries
untold-none saying line said entries = PutsFront-none said [] (said_from saying line entries)

-- a fact about the fault, and a consequence of what holds on failure
pub err-both : {T E : Type 0} (r : Result T E) (P : E → Type 0) (Q R : Type 0) → (Q → R) → IfErr r P → OnErr r Q → IfErr r (λ e. P e × R)
err-both (Ok x) P Q R f h i = tt
err-both (Err e) P Q R f h i = (h, f i)

-- ## A report from the first line of a text on

-- what a report said of a text from its first line on
pub text-said : (saying other last : Saying) (line next : ℕ) (left left' : Bool) (err err' before after : Option (List ℕ)) (entries : List Entry) → other ≡ saying → line ≡ 1 → before ≡ err → after ≡ err' → Told other last line next left left' before after entries
    → Appends err err' (said_of_words saying entries)
text-said saying other last line next left left' err err' before after entries same first begins ends told =
    subst (λ (b : Option (List ℕ)). Appends b err' (said_of_words saying entries)) begins
    (subst (λ (a : Option (List ℕ)). Appends before a (said_of_words saying entries)) ends
    (subst (λ (t : List ℕ). Appends before after t) (ap₂ (λ (a : Saying) (n : ℕ). said_from a n entries) same first) told.says))

-- a beginning of what a report said of a text from its first line on
pub text-begun : (saying other : Saying) (line : ℕ) (err err' before after : Option (List ℕ)) (entries : List Entry) → other ≡ saying → line ≡ 1 → before ≡ err → after ≡ err' → Untold other line before after entries
    → PutsFront err err' [] (said_of_words saying entries)
text-begun saying other line err err' before after entries same first begins ends told =
    subst (λ (b : Option (List ℕ)). PutsFront b err' [] (said_of_words saying entries)) begins
    (subst (λ (a : Option (List ℕ)). PutsFront before a [] (said_of_words saying entries)) ends
    (subst (λ (t : List ℕ). PutsFront before after [] t) (ap₂ (λ (a : Saying) (n : ℕ). said_from a n entries) same first) told))
