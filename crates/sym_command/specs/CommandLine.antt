-- The command line: its options, what they request, and what its parser finds in its words.
use Rattle.std.specs.Prelude.{◌≡◌, ◌<◌, ◌^◌, ℕ, pos, List, [], ◌∷◌, Bool, true, false, Option, Some, None, codes, unwrap_or, if◌then◌else◌}
use Rattle.std.specs.Str.Parse.{IsNumeral, digits_value, without_leading_plus}
use Rattle.clap.specs.Lexer.{usize_max}
use Rattle.clap.specs.Words.{Text, Rule, Row, App, Kinds, new_rule, new_app, with_rule, matches_of, fault_of, one_of, all_of}
use Rattle.clap.specs.declared.builder.action.ArgAction.TheVariants.{SetTrue, Append}
use Rattle.clap.specs.declared.builder.value_parser.ValueParser.TheVariants as parser
use Rattle.sym_print.specs.declared.detail.Detail.{Detail}
use Rattle.sym_print.specs.declared.detail.Detail.TheVariants.{Full, Brief, NoParameters, BriefNoParameters}
use Rattle.sym_filter.specs.declared.kinds.Letters.{Letters}
use Rattle.sym_filter.specs.declared.kinds.Letters.TheVariants.{Any, Ascii}
use Rattle.sym_short.specs.Rewriting.{texts_by}
use Rattle.sym_command.specs.declared.options.Asked.{Asked}
use Rattle.sym_command.specs.declared.options.Asked.TheVariants.{Text as PlainText, WideText, Pressed, WidePressed}
use Rattle.sym_command.specs.declared.options.Options.{Options}
use Rattle.sym_command.specs.declared.outcome.Filtering.{Filtering}

-- ## The settings of the parser

-- an option that takes no value
abbrev pub flag : Text → Rule
flag name = record (new_rule name) { long = Some name; action = Some SetTrue }

-- `--limit N`, a u32
abbrev pub limit : Rule
limit = record (new_rule (codes "limit")) {
  long = Some (codes "limit");
  value_names = 1;
  parser = Some (parser.Signed (pos 0) (pos 4294967295));
}

-- a command line with the options for short texts
abbrev pub with_short : App → App
with_short app = with_rule (with_rule app (flag (codes "short"))) (flag (codes "keep-inline"))

-- any number of symbols
abbrev pub symbols : Rule
symbols = record (new_rule (codes "SYMBOL")) {
  action = Some Append;
  range = Some (record { start_inclusive = 0; end_inclusive = usize_max });
}

-- The program's command line. Its parser adds help and the version.
unfoldable pub command_line : App
command_line = record {
  top = record (new_app (codes "symfilt")).top {
    has_version = true;
    rules = limit ∷ flag (codes "stats") ∷ flag (codes "press") ∷ flag (codes "wide") ∷ flag (codes "legacy") ∷ flag (codes "short")
        ∷ flag (codes "keep-inline") ∷ flag (codes "brief") ∷ flag (codes "no-params") ∷ flag (codes "ascii-words") ∷ symbols ∷ [];
  };
  subs = [];
}

-- ## What the options request

-- the detail that two flags request
abbrev pub detail_by : Bool → Bool → Detail
detail_by false false = Full
detail_by true false = Brief
detail_by false true = NoParameters
detail_by true true = BriefNoParameters

-- which letters words have, depending on whether `--ascii-words` is given
abbrev pub letters_by : Bool → Letters
letters_by true = Ascii
letters_by false = Any

-- what `--press` and `--wide` request for each symbol
abbrev pub asked_by : Bool → Bool → Asked
asked_by false false = PlainText
asked_by false true = WideText
asked_by true false = Pressed
asked_by true true = WidePressed

-- a flag's value, as its parser found it
abbrev pub IsFlagOf : Option Text → Bool → Type 0
IsFlagOf text given = (text ≡ None → given ≡ false) × (text ≡ Some (codes "true") → given ≡ true) × (text ≡ Some (codes "false") → given ≡ false)

abbrev pub IsFlag : List Row → Text → Bool → Type 0
IsFlag rows name given = IsFlagOf (one_of name rows) given

-- the greatest cost that `--limit` gives, or a million
abbrev pub IsLimitOf : Option Text → ℕ → Type 0
IsLimitOf None most = most ≡ 1000000
IsLimitOf (Some text) most =
    let digits = without_leading_plus text in
    IsNumeral 10 digits × (digits_value 10 digits < 2 ^ 32) → most ≡ digits_value 10 digits

abbrev pub IsLimit : List Row → ℕ → Type 0
IsLimit rows most = IsLimitOf (one_of (codes "limit") rows) most

-- options as the parser found them
pub record AreGiven (rows : List Row) (options : Options) : Type 0 where
  pub brief : Bool
  pub no_params : Bool
  pub short : Bool
  pub keep_inline : Bool
  pub ascii_words : Bool
  pub press : Bool
  pub wide : Bool
  pub is_brief : IsFlag rows (codes "brief") brief
  pub is_no_params : IsFlag rows (codes "no-params") no_params
  pub is_short : IsFlag rows (codes "short") short
  pub is_keep_inline : IsFlag rows (codes "keep-inline") keep_inline
  pub is_ascii_words : IsFlag rows (codes "ascii-words") ascii_words
  pub is_press : IsFlag rows (codes "press") press
  pub is_wide : IsFlag rows (codes "wide") wide
  pub limit : IsLimit rows options.limit
  pub stats : IsFlag rows (codes "stats") options.stats
  pub legacy : IsFlag rows (codes "legacy") options.legacy
  pub detail : options.detail ≡ detail_by brief no_params
  pub texts : options.texts ≡ texts_by short keep_inline
  pub letters : options.letters ≡ letters_by ascii_words
  pub asked : options.asked ≡ asked_by press wide

-- the symbols, as the parser found them
abbrev pub symbols_of : List Row → List Text
symbols_of rows = unwrap_or (all_of (codes "SYMBOL") rows) []

-- how the options request that standard input is filtered; none where they request counts, which need a symbol
abbrev pub filtering_by : Options → Option Filtering
filtering_by options =
    if options.stats then None
    else Some (record { limit = options.limit; detail = options.detail; texts = options.texts; letters = options.letters; asked = options.asked; legacy = options.legacy })

-- no symbol is given, and the options request that standard input is filtered this way
pub record AsksFilter (rows : List Row) (filtering : Filtering) : Type 0 where
  pub options : Options
  pub given : AreGiven rows options
  pub no_symbol : symbols_of rows ≡ []
  pub is : filtering_by options ≡ Some filtering

-- the options need a symbol, and no symbol is given
abbrev pub AreRefused : List Row → Type 0
AreRefused rows = (options : Options) × AreGiven rows options × (symbols_of rows ≡ []) × (filtering_by options ≡ None)

-- ## The words of a command line, the program's name first

-- what the parser finds in the words
abbrev pub found_in : List Text → List Row
found_in words = matches_of command_line words

-- the kinds of fault for which the parser refuses the words, help and the version among them; none where it accepts the
-- words
abbrev pub faults_in : List Text → Kinds
faults_in words = fault_of command_line words
