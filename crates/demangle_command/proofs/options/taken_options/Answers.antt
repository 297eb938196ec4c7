use Rattle.demangle_command.proofs.Basics.{◌++◌, ◌∷◌, [], codes, IfOk-weaker, Rule, taken_option}
use Rattle.demangle_command.proofs.OptionLemmas.{short-more, short-local, alias-more, alias-local}
use Rattle.demangle_command.proofs.options.taken_options.Goals as goal

abbrev rule-0 : Rule
rule-0 = taken_option

abbrev rule-1 : Rule
rule-1 = record rule-0 { short_aliases = rule-0.short_aliases ++ 95 ∷ [] }

abbrev rule-2 : Rule
rule-2 = record rule-1 { short_aliases = rule-1.short_aliases ++ 105 ∷ [] }

abbrev rule-3 : Rule
rule-3 = record rule-2 { short_aliases = rule-2.short_aliases ++ 114 ∷ [] }

abbrev rule-4 : Rule
rule-4 = record rule-3 { short_aliases = rule-3.short_aliases ++ 82 ∷ [] }

abbrev rule-5 : Rule
rule-5 = record rule-4 { aliases = rule-4.aliases ++ codes "strip-underscore" ∷ [] }

abbrev rule-6 : Rule
rule-6 = record rule-5 { aliases = rule-5.aliases ++ codes "no-verbose" ∷ [] }

abbrev rule-7 : Rule
rule-7 = record rule-6 { aliases = rule-6.aliases ++ codes "no-recurse-limit" ∷ [] }

abbrev rule-8 : Rule
rule-8 = record rule-7 { aliases = rule-7.aliases ++ codes "no-recursion-limit" ∷ [] }

abbrev rule-9 : Rule
rule-9 = record rule-8 { aliases = rule-8.aliases ++ codes "recurse-limit" ∷ [] }

pub returns-clause-rule : goal.returns-clause-rule
returns-clause-rule c =
    let is-1 = short-more c.taken_option.result c.in_ok-short_alias.field-0 95 rule-0 c.in_ok-short_alias.ensures c.taken_option.ensures.rule in
    let is-2 = short-more c.in_ok-short_alias.field-0 c.in_ok-short_alias-2.field-0 105 rule-1 c.in_ok-short_alias-2.ensures is-1 in
    let is-3 = short-more c.in_ok-short_alias-2.field-0 c.in_ok-short_alias-3.field-0 114 rule-2 c.in_ok-short_alias-3.ensures is-2 in
    let is-4 = short-more c.in_ok-short_alias-3.field-0 c.in_ok-short_alias-4.field-0 82 rule-3 c.in_ok-short_alias-4.ensures is-3 in
    let is-5 = alias-more c.in_ok-short_alias-4.field-0 c.in_ok-alias.field-0 _ rule-4 c.in_ok-alias.ensures is-4 in
    let is-6 = alias-more c.in_ok-alias.field-0 c.in_ok-alias-2.field-0 _ rule-5 c.in_ok-alias-2.ensures is-5 in
    let is-7 = alias-more c.in_ok-alias-2.field-0 c.in_ok-alias-3.field-0 _ rule-6 c.in_ok-alias-3.ensures is-6 in
    let is-8 = alias-more c.in_ok-alias-3.field-0 c.in_ok-alias-4.field-0 _ rule-7 c.in_ok-alias-4.ensures is-7 in
    let is-9 = alias-more c.in_ok-alias-4.field-0 c.in_ok-alias-5.field-0 _ rule-8 c.in_ok-alias-5.ensures is-8 in
    IfOk-weaker c.alias-6.result _ _ (λ option adds. alias-more c.in_ok-alias-5.field-0 option _ rule-9 adds is-9) c.alias-6.ensures

pub returns-clause-local : goal.returns-clause-local
returns-clause-local c =
    let is-1 = short-local c.taken_option.result c.in_ok-short_alias.field-0 95 c.in_ok-short_alias.ensures c.taken_option.ensures.local in
    let is-2 = short-local c.in_ok-short_alias.field-0 c.in_ok-short_alias-2.field-0 105 c.in_ok-short_alias-2.ensures is-1 in
    let is-3 = short-local c.in_ok-short_alias-2.field-0 c.in_ok-short_alias-3.field-0 114 c.in_ok-short_alias-3.ensures is-2 in
    let is-4 = short-local c.in_ok-short_alias-3.field-0 c.in_ok-short_alias-4.field-0 82 c.in_ok-short_alias-4.ensures is-3 in
    let is-5 = alias-local c.in_ok-short_alias-4.field-0 c.in_ok-alias.field-0 _ c.in_ok-alias.ensures is-4 in
    let is-6 = alias-local c.in_ok-alias.field-0 c.in_ok-alias-2.field-0 _ c.in_ok-alias-2.ensures is-5 in
    let is-7 = alias-local c.in_ok-alias-2.field-0 c.in_ok-alias-3.field-0 _ c.in_ok-alias-3.ensures is-6 in
    let is-8 = alias-local c.in_ok-alias-3.field-0 c.in_ok-alias-4.field-0 _ c.in_ok-alias-4.ensures is-7 in
    let is-9 = alias-local c.in_ok-alias-4.field-0 c.in_ok-alias-5.field-0 _ c.in_ok-alias-5.ensures is-8 in
    IfOk-weaker c.alias-6.result _ _ (λ option adds. alias-local c.in_ok-alias-5.field-0 option _ adds is-9) c.alias-6.ensures
