-- What a command line did, by what its parts did.
use Rattle.demangle_command.proofs.Basics.{◌≡◌, ◌≢◌, ◌⊎◌, ℕ, Bool, true, false, not, ◌&&◌, List, [], ◌∷◌, ◌++◌, Option, Result, Ok, Err, codes, refl, sym, ap, ap₂, subst, inl, inr, ◌∙◌, IfOk, OnErr, None, if◌then◌else◌, Appends, Row, Text, IsAmong, DisplayHelp, DisplayVersion, OutOfMemory, Detail, BeginsWith, PutsFront, Appends-none, faulty, Took-as, Took-said, OnErr-anyway, answers_of, are_whole, ByObjects, ByObjectsFront, details_as, details_of, EndsOf, FiltersInput, FiltersInputFront, IsEndedOf, IsStoppedOf, IsTold, StopsOf, Stops, is_request, shown_of, shows_colors, summary_if, unescaped_of, unspelled_details, unspelled_of, AreGiven, AreOptions, faults_in, names_of, AnswersNames, NamesFront, status_of, reads_paths, Style, styled_answer, styled_details, is_gnu, Spelling}
use Rattle.std.specs.Fmt.{decimal}
use Rattle.clap.specs.declared.error.kind.ErrorKind.{ErrorKind}
use Rattle.sym_filter.specs.Runs.{Answering}
use Rattle.sym_filter.specs.declared.words.Tally.{Tally}
use Rattle.sym_filter.specs.declared.streams.FilterFault.{FilterFault}
use Rattle.sym_command.specs.Command.{Took, Says}
use Rattle.demangle_names.specs.declared.options.Options.{Options}
use Rattle.text_details.specs.Details.{Detailing, no_details}
use Rattle.text_colours.specs.Answers.{colored_answers}
use Rattle.gnu_texts.specs.Spelling.{gnu_text}
use Rattle.demangle_names.specs.declared.spelling.Spelling.TheVariants as spelling
use Rattle.sym_short.specs.Rewriting.{answers_as, rewritten_answers, short_answers, spelled_answers}
use Rattle.sym_short.specs.declared.texts.Texts.{Texts}
use Rattle.sym_short.specs.declared.texts.Texts.TheVariants as texts

-- ## Words that the parser doesn't accept

pub no-request : (kind : ErrorKind) → kind ≢ DisplayHelp → kind ≢ DisplayVersion → false ≡ is_request kind
no-request DisplayHelp help version = absurd (help refl)
no-request DisplayVersion help version = absurd (version refl)
no-request other help version = refl

pub told-asked : {E : Type 0} (asks : Bool) (out out' err : Option (List ℕ)) (result : Result ℕ E) → asks ≡ true → IfOk result (λ status. status ≡ 0) → Says out out'
    → IfOk result (λ status. Took out out' err err (IsTold asks status))
told-asked true out out' err (Ok status) asked is says = record { lines = says.0; said = []; to_out = says.1; to_err = Appends-none err; held = (is, refl) }
told-asked true out out' err (Err fault) asked is says = tt
told-asked false out out' err result asked is says = cc

pub told-wrong : {E : Type 0} (asks : Bool) (out err err' : Option (List ℕ)) (result : Result ℕ E) → asks ≡ false → IfOk result (λ status. status ≡ 2) → Says err err'
    → IfOk result (λ status. Took out out err err' (IsTold asks status))
told-wrong false out err err' (Ok status) wrong is says = Took-said out err err' (IsTold false status) says (λ said. (is, refl))
told-wrong false out err err' (Err fault) wrong is says = tt
told-wrong true out err err' result wrong is says = cc

-- if the parser ran out of memory, no line was written and nothing was said
abbrev pub Untold : ErrorKind → List ℕ → List ℕ → Type 0
Untold kind lines said = (kind ≢ OutOfMemory) ⊎ ((lines ≡ []) × (said ≡ []))

pub untold-out : {E : Type 0} (kind : ErrorKind) (out out' err : Option (List ℕ)) (result : Result ℕ E) → kind ≢ OutOfMemory → Says out out' → OnErr result (Took out out' err err (Untold kind))
untold-out kind out out' err result known says = OnErr-anyway result _ (record { lines = says.0; said = []; to_out = says.1; to_err = Appends-none err; held = inl known })

pub untold-err : {E : Type 0} (kind : ErrorKind) (out err err' : Option (List ℕ)) (result : Result ℕ E) → kind ≢ OutOfMemory → Says err err' → OnErr result (Took out out err err' (Untold kind))
untold-err kind out err err' result known says = OnErr-anyway result _ (Took-said out err err' (Untold kind) says (λ said. inl known))

pub untold-nothing : (kind : ErrorKind) (out err : Option (List ℕ)) → Took out out err err (Untold kind)
untold-nothing kind out err = record { lines = []; said = []; to_out = Appends-none out; to_err = Appends-none err; held = inr (refl, refl) }

turned : (words : List Text) (kind : ErrorKind) (lines said : List ℕ) → (kind ≡ OutOfMemory) ⊎ IsAmong kind (faults_in words) → Untold kind lines said → (faults_in words ≢ []) ⊎ ((lines ≡ []) × (said ≡ []))
turned words kind lines said fails (inl known) = inl (faulty (faults_in words) kind known fails)
turned words kind lines said fails (inr nothing) = inr nothing

pub told-stops : (words : List Text) (terminal : Bool) (kind : ErrorKind) (coming out out' err err' : Option (List ℕ)) (result : Result ℕ FilterFault) → (kind ≡ OutOfMemory) ⊎ IsAmong kind (faults_in words)
    → OnErr result (Took out out' err err' (Untold kind)) → OnErr result (Stops words terminal coming coming out out' err err')
told-stops words terminal kind coming out out' err err' (Ok status) fails told = tt
told-stops words terminal kind coming out out' err err' (Err fault) fails told =
    inr (refl, Took-as out out' err err' (Untold kind) (λ lines said. (faults_in words ≢ []) ⊎ ((lines ≡ []) × (said ≡ []))) told (λ lines said held. turned words kind lines said fails held))

-- ## Words that the parser accepts

-- a style, spelling or colouring that doesn't exist
pub refused-ends : (rows : List Row) (terminal : Bool) (coming out err err' : Option (List ℕ)) (result : Result ℕ FilterFault) → AreOptions rows terminal None → IfOk result (λ status. status ≡ 2) → Says err err'
    → IfOk result (EndsOf rows terminal coming coming out out err err')
refused-ends rows terminal coming out err err' (Ok status) refused is says = inl (refl, Took-said out err err' (IsEndedOf rows terminal status) says (λ said. inr (is, refl, refused)))
refused-ends rows terminal coming out err err' (Err fault) refused is says = tt

pub refused-stops : (rows : List Row) (terminal : Bool) (coming out err err' : Option (List ℕ)) (result : Result ℕ FilterFault) → Says err err' → OnErr result (StopsOf rows terminal coming coming out out err err')
refused-stops rows terminal coming out err err' result says = OnErr-anyway result _ (inl (refl, Took-said out err err' (IsStoppedOf rows terminal) says (λ said. inr refl)))

-- ## What the options request

module _ (style : Style) (limit : ℕ) (detail : Detail) (options : Options) (s : style ≡ options.style) (l : limit ≡ options.limit) (d : detail ≡ options.detail) where
  pub styled-are : styled_answer style limit detail ≡ styled_answer options.style options.limit options.detail
  styled-are =
      ap (λ (x : Style). styled_answer x limit detail) s ∙ ap (λ (x : ℕ). styled_answer options.style x detail) l
      ∙ ap (λ (x : Detail). styled_answer options.style options.limit x) d

  -- whole texts
  pub whole-are : options.texts ≡ texts.Whole → styled_answer style limit detail ≡ unspelled_of options
  whole-are is = styled-are ∙ ap (λ (t : Texts). answers_as t (reads_paths options.style) (styled_answer options.style options.limit options.detail)) (sym is)

  -- short texts
  pub short-are : (keeps_inline paths : Bool) → paths ≡ reads_paths options.style → options.texts ≡ texts.Short keeps_inline
      → short_answers keeps_inline paths (styled_answer style limit detail) ≡ unspelled_of options
  short-are keeps_inline paths reads is =
      ap (λ (answers : Answering). short_answers keeps_inline paths answers) styled-are
      ∙ ap (λ (p : Bool). short_answers keeps_inline p (styled_answer options.style options.limit options.detail)) reads
      ∙ ap (λ (t : Texts). answers_as t (reads_paths options.style) (styled_answer options.style options.limit options.detail)) (sym is)

-- texts in the plain spelling
pub plain-are : (answers : Answering) (options : Options) → answers ≡ unspelled_of options → options.spelling ≡ spelling.Plain → answers ≡ unescaped_of options
plain-are answers options are is = are ∙ ap (λ (s : Spelling). spelled_answers (is_gnu s) (reads_paths options.style) (unspelled_of options)) (sym is)

-- texts as GNU's demangler spells them
pub gnu-are : (answers : Answering) (options : Options) → answers ≡ unspelled_of options → (paths : Bool) → paths ≡ reads_paths options.style → options.spelling ≡ spelling.Gnu
    → rewritten_answers gnu_text paths answers ≡ unescaped_of options
gnu-are answers options are paths reads is =
    ap (λ (a : Answering). rewritten_answers gnu_text paths a) are
    ∙ ap (λ (p : Bool). rewritten_answers gnu_text p (unspelled_of options)) reads
    ∙ ap (λ (s : Spelling). spelled_answers (is_gnu s) (reads_paths options.style) (unspelled_of options)) (sym is)

-- ## The details of texts

module _ (style : Style) (limit : ℕ) (detail : Detail) (options : Options) (s : style ≡ options.style) (l : limit ≡ options.limit) (d : detail ≡ options.detail) where
  pub styled-details : styled_details style limit detail ≡ styled_details options.style options.limit options.detail
  styled-details =
      ap (λ (x : Style). styled_details x limit detail) s ∙ ap (λ (x : ℕ). styled_details options.style x detail) l
      ∙ ap (λ (x : Detail). styled_details options.style options.limit x) d

  -- the details of whole texts
  pub whole-details : options.texts ≡ texts.Whole → styled_details style limit detail ≡ unspelled_details options
  whole-details is = styled-details ∙ ap (λ (t : Texts). details_as t spelling.Plain (styled_details options.style options.limit options.detail)) (sym is)

-- the details of short texts
pub short-details : (keeps_inline : Bool) (options : Options) → options.texts ≡ texts.Short keeps_inline → no_details ≡ unspelled_details options
short-details keeps_inline options is = ap (λ (t : Texts). details_as t spelling.Plain (styled_details options.style options.limit options.detail)) (sym is)

-- the details of texts in the plain spelling
pub plain-details : (details : Detailing) (options : Options) → details ≡ unspelled_details options → options.spelling ≡ spelling.Plain → details ≡ details_of options
plain-details details options are is = are ∙ ap (λ (s : Spelling). details_as options.texts s (styled_details options.style options.limit options.detail)) (sym is)

-- no details are known of texts as GNU's demangler spells them
no-details : (shown : Texts) (details : Detailing) → no_details ≡ details_as shown spelling.Gnu details
no-details texts.Whole details = refl
no-details (texts.Short keeps_inline) details = refl

pub gnu-details : (options : Options) → options.spelling ≡ spelling.Gnu → no_details ≡ details_of options
gnu-details options is =
    no-details options.texts (styled_details options.style options.limit options.detail)
    ∙ ap (λ (s : Spelling). details_as options.texts s (styled_details options.style options.limit options.detail)) (sym is)

-- ## Colours

-- texts that aren't coloured
pub uncolored-are : (answers : Answering) (options : Options) → shows_colors options ≡ false → answers ≡ unescaped_of options → answers ≡ shown_of options
uncolored-are answers options plain are =
    are ∙ sym (ap (λ (b : Bool). if b then colored_answers (details_of options) (unescaped_of options) else unescaped_of options) plain)

-- texts that are coloured
colored-texts : (shown : Texts) (by : Spelling) (paths : Bool) (details : Detailing) (answers : Answering) → (are_whole shown && not (is_gnu by)) ≡ true
    → colored_answers details answers ≡ colored_answers (details_as shown by details) (spelled_answers (is_gnu by) paths (answers_as shown paths answers))
colored-texts texts.Whole spelling.Plain paths details answers is = refl
colored-texts texts.Whole spelling.Gnu paths details answers is = cc
colored-texts (texts.Short keeps_inline) by paths details answers is = cc

-- only whole texts in the plain spelling are coloured
of-plain : (colors whole gnu escape json : Bool) → (colors && (whole && (not gnu && (not escape && not json)))) ≡ true → (whole && not gnu) ≡ true
of-plain true true false escape json is = refl
of-plain true true true escape json is = is
of-plain true false gnu escape json is = is
of-plain false whole gnu escape json is = cc

pub no-objects : (colors whole gnu escape json : Bool) → (colors && (whole && (not gnu && (not escape && not json)))) ≡ true → json ≡ false
no-objects true true false false false is = refl
no-objects true true false false true is = cc
no-objects true true false true json is = cc
no-objects true true true escape json is = cc
no-objects true false gnu escape json is = cc
no-objects false whole gnu escape json is = cc

pub colored-are : (details : Detailing) (answers : Answering) (options : Options) → shows_colors options ≡ true → details ≡ styled_details options.style options.limit options.detail
    → answers ≡ styled_answer options.style options.limit options.detail → colored_answers details answers ≡ shown_of options
colored-are details answers options shows known are =
    ap₂ colored_answers known are
    ∙ colored-texts options.texts options.spelling (reads_paths options.style) (styled_details options.style options.limit options.detail) (styled_answer options.style options.limit options.detail)
    (of-plain options.colors (are_whole options.texts) (is_gnu options.spelling) options.escape options.json shows)
    ∙ sym (ap (λ (b : Bool). if b then colored_answers (details_of options) (unescaped_of options) else unescaped_of options) shows)

-- nothing was read or written
pub stops-unbegun : (rows : List Row) (terminal : Bool) (coming out err : Option (List ℕ)) → StopsOf rows terminal coming coming out out err err
stops-unbegun rows terminal coming out err = inl (refl, record { lines = []; said = []; to_out = Appends-none out; to_err = Appends-none err; held = inr refl })

pub stops-unparsed : (words : List Text) (terminal : Bool) (coming out err : Option (List ℕ)) → Stops words terminal coming coming out out err err
stops-unparsed words terminal coming out err = inr (refl, record { lines = []; said = []; to_out = Appends-none out; to_err = Appends-none err; held = inr (refl, refl) })

-- a command line with names
pub names-end : (rows : List Row) (terminal : Bool) (options : Options) (answers : Answering) (names : List (List ℕ)) (one_stays : Bool) (status : ℕ) (coming out out' err err' : Option (List ℕ)) → AreGiven rows terminal options → options.json ≡ false → answers ≡ answers_of options
    → names ≡ names_of rows → names ≢ [] → Took out out' err err' (AnswersNames answers options.types options.why names one_stays) → status ≡ status_of options.strict one_stays → EndsOf rows terminal coming coming out out' err err' status
names-end rows terminal options answers names one_stays status coming out out' err err' given plain same are some took ends =
    inl (
      refl,
      Took-as out out' err err' (AnswersNames answers options.types options.why names one_stays) (IsEndedOf rows terminal status) took (λ lines said held. inl (record {
        options = options;
        given = given;
        no_objects = plain;
        some = λ none. some (are ∙ none);
        one_stays = one_stays;
        answered = subst (λ (a : Answering). AnswersNames a options.types options.why (names_of rows) one_stays lines said) same (subst (λ (ns : List (List ℕ)). AnswersNames answers options.types options.why ns one_stays lines said) are held);
        ends = ends;
      })),
    )

pub names-stop : (rows : List Row) (terminal : Bool) (options : Options) (answers : Answering) (names : List (List ℕ)) (coming out out' err err' : Option (List ℕ)) → AreGiven rows terminal options → options.json ≡ false → answers ≡ answers_of options
    → names ≡ names_of rows → Took out out' err err' (NamesFront answers options.types options.why names) → StopsOf rows terminal coming coming out out' err err'
names-stop rows terminal options answers names coming out out' err err' given plain same are took =
    inl (
      refl,
      Took-as out out' err err' (NamesFront answers options.types options.why names) (IsStoppedOf rows terminal) took (λ lines said held. inl (record {
        options = options;
        given = given;
        no_objects = plain;
        front = subst (λ (a : Answering). NamesFront a options.types options.why (names_of rows) lines said) same (subst (λ (ns : List (List ℕ)). NamesFront answers options.types options.why ns lines said) are held);
      })),
    )

-- a command line without names: the input was filtered
pub input-ends : (rows : List Row) (terminal : Bool) (options : Options) (answers : Answering) (names : List (List ℕ)) (status : ℕ) (coming coming' out out' err err' : Option (List ℕ)) → AreGiven rows terminal options → options.json ≡ false → answers ≡ answers_of options
    → names ≡ names_of rows → names ≡ [] → FiltersInput answers options.why options.strict coming coming' out out' err err' status → EndsOf rows terminal coming coming' out out' err err' status
input-ends rows terminal options answers names status coming coming' out out' err err' given plain same are none filtered = inr (inl (record {
  options = options;
  given = given;
  no_objects = plain;
  none = sym are ∙ none;
  filtered = subst (λ (a : Answering). FiltersInput a options.why options.strict coming coming' out out' err err' status) same filtered;
}))

pub input-stops : (rows : List Row) (terminal : Bool) (options : Options) (answers : Answering) (names : List (List ℕ)) (coming coming' out out' err err' : Option (List ℕ)) → AreGiven rows terminal options → options.json ≡ false → answers ≡ answers_of options
    → names ≡ names_of rows → names ≡ [] → FiltersInputFront answers options.why coming coming' out out' err err' → StopsOf rows terminal coming coming' out out' err err'
input-stops rows terminal options answers names coming coming' out out' err err' given plain same are none filtered = inr (inl (record {
  options = options;
  given = given;
  no_objects = plain;
  none = sym are ∙ none;
  filtered = subst (λ (a : Answering). FiltersInputFront a options.why coming coming' out out' err err') same filtered;
}))

-- ## Objects

pub objects-end : {E : Type 0} (rows : List Row) (terminal : Bool) (options : Options) (answers : Answering) (details : Detailing) (names : List (List ℕ)) (result : Result ℕ E) (coming coming' out out' err : Option (List ℕ)) → AreGiven rows terminal options → options.json ≡ true → answers ≡ unescaped_of options → details ≡ details_of options
    → names ≡ names_of rows → IfOk result (ByObjects answers details options names coming coming' out out') → IfOk result (EndsOf rows terminal coming coming' out out' err err)
objects-end rows terminal options answers details names (Err fault) coming coming' out out' err given asked same known are told = tt
objects-end rows terminal options answers details names (Ok status) coming coming' out out' err given asked same known are told = inr (inr (record {
  options = options;
  given = given;
  objects = asked;
  told = subst (λ (d : Detailing). ByObjects (unescaped_of options) d options (names_of rows) coming coming' out out' status) known
      (subst (λ (a : Answering). ByObjects a details options (names_of rows) coming coming' out out' status) same (subst (λ (ns : List (List ℕ)). ByObjects answers details options ns coming coming' out out' status) are told));
  silent = Appends-none err;
}))

pub objects-stop : {E : Type 0} (rows : List Row) (terminal : Bool) (options : Options) (answers : Answering) (details : Detailing) (names : List (List ℕ)) (result : Result ℕ E) (coming coming' out out' err : Option (List ℕ)) → AreGiven rows terminal options → options.json ≡ true → answers ≡ unescaped_of options → details ≡ details_of options
    → names ≡ names_of rows → OnErr result (ByObjectsFront answers details options names coming coming' out out') → OnErr result (StopsOf rows terminal coming coming' out out' err err)
objects-stop rows terminal options answers details names (Ok status) coming coming' out out' err given asked same known are told = tt
objects-stop rows terminal options answers details names (Err fault) coming coming' out out' err given asked same known are told = inr (inr (record {
  options = options;
  given = given;
  objects = asked;
  told = subst (λ (d : Detailing). ByObjectsFront (unescaped_of options) d options (names_of rows) coming coming' out out') known
      (subst (λ (a : Answering). ByObjectsFront a details options (names_of rows) coming coming' out out') same (subst (λ (ns : List (List ℕ)). ByObjectsFront answers details options ns coming coming' out out') are told));
  silent = Appends-none err;
}))

-- ## What is said of an input

pub summary-line : (asked : Bool) (tally : Tally) (bytes : List ℕ) → asked ≡ true → bytes ≡ codes "demangle: " ++ (decimal tally.refused ++ (codes " of " ++ (decimal tally.words ++ (codes " symbols stay" ++ 10 ∷ [])))) → bytes ≡ summary_if asked tally
summary-line asked tally bytes is made = made ∙ ap (λ (b : Bool). summary_if b tally) (sym is)

pub summary-front : (asked : Bool) (tally : Tally) (err : Option (List ℕ)) → PutsFront err err [] (summary_if asked tally)
summary-front asked tally err = record { gone = []; writes = Appends-none err; begins = (summary_if asked tally, refl) }

-- a beginning of the summary was written
pub summary-said : (asked : Bool) (tally : Tally) (bytes gone : List ℕ) (err err' : Option (List ℕ)) → bytes ≡ summary_if asked tally → Appends err err' gone → BeginsWith bytes gone → PutsFront err err' [] (summary_if asked tally)
summary-said asked tally bytes gone err err' is writes begins = record { gone = gone; writes = writes; begins = subst (λ (t : List ℕ). BeginsWith t gone) is begins }
