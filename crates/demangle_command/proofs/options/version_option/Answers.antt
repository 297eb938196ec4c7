use Rattle.demangle_command.proofs.Basics.{IfOk-weaker, version_flag}
use Rattle.demangle_command.proofs.OptionLemmas.{short-more, short-local}
use Rattle.demangle_command.proofs.options.version_option.Goals as goal

pub returns-clause-rule : goal.returns-clause-rule
returns-clause-rule c =
    IfOk-weaker c.short_alias.result _ _ (λ option adds. short-more c.version_flag.result option 86 version_flag adds c.version_flag.ensures.rule) c.short_alias.ensures

pub returns-clause-local : goal.returns-clause-local
returns-clause-local c =
    IfOk-weaker c.short_alias.result _ _ (λ option adds. short-local c.version_flag.result option 86 adds c.version_flag.ensures.local) c.short_alias.ensures
