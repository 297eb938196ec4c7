-- The command line: its options, what they request, and what its parser finds in its words.
use Rattle.std.specs.Prelude.{◌≡◌, ◌⊎◌, List, [], ◌∷◌, Bool, true, Option, Some, None, ℕ, codes, map, unwrap_or}
use Rattle.clap.specs.Lexer.{usize_max}
use Rattle.clap.specs.Words.{Text, Rule, Row, App, Kinds, new_rule, new_app, with_rule, matches_of, fault_of, first_of, all_of}
use Rattle.clap.specs.declared.builder.action.ArgAction.TheVariants.{Append, Version}
use Rattle.sym_short.specs.Rewriting.{texts_by}
use Rattle.sym_command.specs.CommandLine.{flag, limit, detail_by, with_short, IsFlag, IsLimit}
use Rattle.demangle_names.specs.Coloring.{IsColoring, colors}
use Rattle.demangle_names.specs.Spelling.{IsSpelling}
use Rattle.demangle_names.specs.Style.{IsStyle}
use Rattle.demangle_command.specs.Texts.{bytes_of}
use Rattle.demangle_names.specs.declared.coloring.Coloring.{Coloring}
use Rattle.demangle_names.specs.declared.coloring.Coloring.TheVariants.{Never}
use Rattle.demangle_names.specs.declared.spelling.Spelling.{Spelling}
use Rattle.demangle_names.specs.declared.spelling.Spelling.TheVariants.{Plain}
use Rattle.demangle_names.specs.declared.style.Style.{Style}
use Rattle.demangle_names.specs.declared.style.Style.TheVariants.{Auto}
use Rattle.demangle_names.specs.declared.options.Options.{Options}

-- ## What the parser is given

-- `-p`, `--no-params`
abbrev pub no_params : Rule
no_params = record (flag (codes "no-params")) { short = Some 112 }

-- `-t`, `--types`
abbrev pub types : Rule
types = record (flag (codes "types")) { short = Some 116 }

-- `-s`, `--format`, with the name of a style
abbrev pub style_option : Rule
style_option = record (new_rule (codes "format")) { long = Some (codes "format"); short = Some 115; value_names = 1 }

-- `--spelling`, with the name of a spelling
abbrev pub spelling_option : Rule
spelling_option = record (new_rule (codes "spelling")) { long = Some (codes "spelling"); value_names = 1 }

-- `--color`, which may have the name of a colouring; without a value it is `auto`
abbrev pub color_option : Rule
color_option = record (new_rule (codes "color")) {
  long = Some (codes "color");
  range = Some (record { start_inclusive = 0; end_inclusive = 1 });
  value_names = 1;
  missing = codes "auto" ∷ [];
}

-- `-v`, `-V`, `--version`
abbrev pub version_flag : Rule
version_flag = record (new_rule (codes "version")) { long = Some (codes "version"); short = Some 118; action = Some Version }

abbrev pub version_option : Rule
version_option = record version_flag { short_aliases = 86 ∷ [] }

-- `-n`, `-_`, `-i`, `-r`, `-R` and their long names, which are accepted and change nothing
abbrev pub taken_option : Rule
taken_option = record (flag (codes "no-strip-underscore")) { short = Some 110 }

abbrev pub taken_options : Rule
taken_options = record taken_option {
  short_aliases = 95 ∷ 105 ∷ 114 ∷ 82 ∷ [];
  aliases = codes "strip-underscore" ∷ codes "no-verbose" ∷ codes "no-recurse-limit" ∷ codes "no-recursion-limit"
      ∷ codes "recurse-limit" ∷ codes "recursion-limit" ∷ [];
}

-- any number of names
abbrev pub name_arguments : Rule
name_arguments = record (new_rule (codes "NAME")) {
  action = Some Append;
  range = Some (record { start_inclusive = 0; end_inclusive = usize_max });
}

-- a command line with the options that decide which names have a text, and what is shown of the text
abbrev pub with_texts : App → App
with_texts app =
    with_rule (with_rule (with_rule (with_rule (with_short (with_rule (with_rule app no_params) (flag (codes "brief")))) types) limit) spelling_option) style_option

-- a command line with the options that decide how texts are written, and what is said of names without a text
abbrev pub with_reports : App → App
with_reports app =
    with_rule (with_rule (with_rule (with_rule (with_rule app color_option) (flag (codes "escape"))) (flag (codes "json"))) (flag (codes "why"))) (flag (codes "strict"))

-- The program's command line. Its parser adds help. An option may be given again.
unfoldable pub command_line : App
command_line = record {
  top = record (new_app (codes "demangle")).top {
    has_version = true;
    disable_version_flag = true;
    args_override_self = true;
    rules = no_params ∷ flag (codes "brief") ∷ flag (codes "short") ∷ flag (codes "keep-inline") ∷ types ∷ limit ∷ spelling_option ∷ style_option ∷ color_option ∷ flag (codes "escape")
        ∷ flag (codes "json") ∷ flag (codes "why") ∷ flag (codes "strict") ∷ version_option ∷ taken_options ∷ name_arguments ∷ [];
  };
  subs = [];
}

-- ## What the options request

-- the style that `--format` names, and `auto` where the option isn't given; none where no style has that name
abbrev pub IsAsked : Option Text → Option Style → Type 0
IsAsked None asked = asked ≡ Some Auto
IsAsked (Some name) asked = IsStyle name asked

abbrev pub IsAskedStyle : List Row → Option Style → Type 0
IsAskedStyle rows asked = IsAsked (first_of (codes "format") rows) asked

-- the spelling that `--spelling` names, and `plain` where the option isn't given; none where no spelling has that name
abbrev pub IsSpelled : Option Text → Option Spelling → Type 0
IsSpelled None asked = asked ≡ Some Plain
IsSpelled (Some name) asked = IsSpelling name asked

abbrev pub IsAskedSpelling : List Row → Option Spelling → Type 0
IsAskedSpelling rows asked = IsSpelled (first_of (codes "spelling") rows) asked

-- the colouring that `--color` names, and `never` where the option isn't given; none where no colouring has that name
abbrev pub IsColored : Option Text → Option Coloring → Type 0
IsColored None asked = asked ≡ Some Never
IsColored (Some name) asked = IsColoring name asked

abbrev pub IsAskedColoring : List Row → Option Coloring → Type 0
IsAskedColoring rows asked = IsColored (first_of (codes "color") rows) asked

-- options as the parser found them; `terminal` says whether texts are written to a terminal
pub record AreGiven (rows : List Row) (terminal : Bool) (options : Options) : Type 0 where
  pub brief : Bool
  pub no_params : Bool
  pub short : Bool
  pub keep_inline : Bool
  pub is_brief : IsFlag rows (codes "brief") brief
  pub is_no_params : IsFlag rows (codes "no-params") no_params
  pub is_short : IsFlag rows (codes "short") short
  pub is_keep_inline : IsFlag rows (codes "keep-inline") keep_inline
  pub detail : options.detail ≡ detail_by brief no_params
  pub texts : options.texts ≡ texts_by short keep_inline
  pub limit : IsLimit rows options.limit
  pub style : IsAskedStyle rows (Some options.style)
  pub spelling : IsAskedSpelling rows (Some options.spelling)
  pub coloring : Coloring
  pub is_coloring : IsAskedColoring rows (Some coloring)
  pub colors : options.colors ≡ colors coloring terminal
  pub escape : IsFlag rows (codes "escape") options.escape
  pub json : IsFlag rows (codes "json") options.json
  pub types : IsFlag rows (codes "types") options.types
  pub why : IsFlag rows (codes "why") options.why
  pub strict : IsFlag rows (codes "strict") options.strict

-- the options, or none where no style, no spelling or no colouring has the name that is given
abbrev pub AreOptions : List Row → (terminal : Bool) → Option Options → Type 0
AreOptions rows terminal (Some options) = AreGiven rows terminal options
AreOptions rows terminal None = IsAskedStyle rows None ⊎ (IsAskedSpelling rows None ⊎ IsAskedColoring rows None)

-- the texts of the names, as the parser found them
abbrev pub name_texts : List Row → List Text
name_texts rows = unwrap_or (all_of (codes "NAME") rows) []

-- the names
abbrev pub names_of : List Row → List (List ℕ)
names_of rows = map bytes_of (name_texts rows)

-- ## The texts of a command line's words, the program's name first

-- what the parser finds in these texts
abbrev pub found_in : List Text → List Row
found_in texts = matches_of command_line texts

-- the kinds of fault for which the parser refuses these texts, help and the version among them; none where it accepts them
abbrev pub faults_in : List Text → Kinds
faults_in texts = fault_of command_line texts
