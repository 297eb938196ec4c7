-- What the parser of the command line finds, given its settings.
use Rattle.sym_command.proofs.Basics.{◌≡◌, ◌∙◌, ap, ap₂, refl, subst, map, Bor, [], ℕ, List, Option, Some, None, Result, Ok, Err, option_map, unwrap_or, IsSomeAnd, IfOk, false, true, ParsesUnsigned, Text, FailsBy, HasMatchesOf, fault_of, is_simple_and_free, found_of, is_simple, matches_of, rows_of, ReadsOne, AddsArg, App, Rule, app_of, rule_of, with_rule, Arg, Command, IsLimitOf, command_line}
use Rattle.std.specs.Option.{UnwrapsOrElse}
use Rattle.clap.specs.declared.error.Error.{Error}
use Rattle.clap.specs.declared.parser.matches.ArgMatches.{ArgMatches}

-- the limit, if its text is read as a u32
pub limit_given : {E : Type 0} (gives : List ℕ → Result ℕ E → Type 0) (text : Option (List ℕ)) (read : Option ℕ) (limit : ℕ)
    → ((t : List ℕ) (r : Result ℕ E) → gives t r → ParsesUnsigned 32 10 t r)
    → (text ≡ None → read ≡ None) → ((t : List ℕ) → text ≡ Some t → ReadsOne gives t read) → limit ≡ unwrap_or read 1000000 → IsLimitOf text limit
limit_given gives None read limit parses none some is = is ∙ ap (λ (o : Option ℕ). unwrap_or o 1000000) (none refl)
limit_given gives (Some t) (Some n) limit parses none some is = λ fits. is ∙ (parses t (Ok n) (some t refl)).1
limit_given gives (Some t) None limit parses none some is = λ fits. absurd (parses t (Err (some t refl).0) (some t refl).1 fits)

pub given : {T : Type 0} (found : Option T) (value : T) → IsSomeAnd found (λ other. other ≡ value) → found ≡ Some value
given (Some other) value same = ap (λ v. Some v) same
given None value some = absurd some

-- a command with one more argument
pub with_argument : (old new : Command) (argument : Arg) (app : App) (rule : Rule) → AddsArg old argument new → argument.global ≡ false → app_of old ≡ app → rule_of argument ≡ rule → app_of new ≡ with_rule app rule
with_argument old new argument app rule adds local is is_rule = adds.shape local ∙ ap₂ with_rule is is_rule

-- what is found in words, where the parser's settings are known
pub found_rows : {E : Type 0} (app told : App) (words : List Text) (result : Result ArgMatches E) → app ≡ told → is_simple told ≡ true
    → IfOk result (HasMatchesOf app words) → IfOk result (λ matches. rows_of (found_of matches) ≡ matches_of told words)
found_rows app told words (Ok matches) same simple has = (has (ap is_simple same ∙ simple)).0 ∙ ap (λ (a : App). matches_of a words) same
found_rows app told words (Err error) same simple has = tt

pub simple : is_simple command_line ≡ true
unfolding command_line
simple = refl

pub found_faults : {T : Type 0} (app told : App) (words : List Text) (result : Result T Error) → app ≡ told → is_simple_and_free told ≡ true
    → (is_simple_and_free app ≡ true → FailsBy (fault_of app words) result) → FailsBy (fault_of told words) result
found_faults app told words result same free fails = subst (λ (a : App). FailsBy (fault_of a words) result) same (fails (ap is_simple_and_free same ∙ free))

pub simple_and_free : is_simple_and_free command_line ≡ true
unfolding command_line
simple_and_free = refl

-- the symbols, where the parser has them as references to texts
pub symbols_given : (found : Option (Bor (List (Bor Text)))) (all : Option (List Text)) (symbols : Bor (List (Bor Text))) → option_map (λ s. map (λ v. v.now) s.now) found ≡ all
    → UnwrapsOrElse found (λ s. s.now ≡ []) symbols → map (λ v. v.now) symbols.now ≡ unwrap_or all []
symbols_given None all symbols same taken = ap (map (λ (v : Bor Text). v.now)) taken ∙ ap (λ (a : Option (List Text)). unwrap_or a []) same
symbols_given (Some others) all symbols same taken = ap (λ (s : Bor (List (Bor Text))). map (λ (v : Bor Text). v.now) s.now) taken ∙ ap (λ (a : Option (List Text)). unwrap_or a []) same
