use Rattle.cpp_direct.proofs.ForAnswers.{refl, closed-by, type-closed, nest-closed, first-closed, name-closed, level-closed, Open}
use Rattle.cpp_direct.proofs.direct.Direct.close_list.Goals as goal

pub name_ended-requires-clause-ended : goal.name_ended-requires-clause-ended
name_ended-requires-clause-ended g c =
    let w = record c.end_arguments.new.self { waiting = c.pop.new.self; argument = c.args.argument } in
    name-closed _ w c.in-NameArguments.from
    (closed-by _ c.args.self.now c.end_arguments.new.self w c.in_ok-from.field-0 (Open.NameArguments c.in-NameArguments.from)
    c.requires.ended c.in_ok-end_arguments.ensures refl refl refl refl c.in_ok-from.ensures.items c.in-NameArguments.is)

pub returns-in_ok-add_candidate-in-TypeArguments : goal.returns-in_ok-add_candidate-in-TypeArguments
returns-in_ok-add_candidate-in-TypeArguments g c =
    let w = record c.end_arguments.new.self { waiting = c.pop.new.self; argument = c.args.argument } in
    type-closed _ w c.add_candidate.new.self c.in-TypeArguments.from c.in-TypeArguments.is_dependent
    (closed-by _ c.args.self.now c.end_arguments.new.self w c.in_ok-from.field-0 (Open.TypeArguments c.in-TypeArguments.from c.in-TypeArguments.is_dependent)
    c.requires.ended c.in_ok-end_arguments.ensures refl refl refl refl c.in_ok-from.ensures.items c.in-TypeArguments.is)
    c.in_ok-add_candidate-in-TypeArguments.ensures

pub tail_at-requires-clause-writing : goal.tail_at-requires-clause-writing
tail_at-requires-clause-writing g c =
    let w = record c.end_arguments.new.self { waiting = c.pop.new.self; argument = c.args.argument } in
    nest-closed _ w c.in-NestArguments.nest
    (closed-by _ c.args.self.now c.end_arguments.new.self w c.in_ok-from.field-0 (Open.NestArguments c.in-NestArguments.nest)
    c.requires.ended c.in_ok-end_arguments.ensures refl refl refl refl c.in_ok-from.ensures.items c.in-NestArguments.is)

pub returns-in_ok-add_candidate-in-FirstArguments : goal.returns-in_ok-add_candidate-in-FirstArguments
returns-in_ok-add_candidate-in-FirstArguments g c =
    let w = record c.end_arguments.new.self { waiting = c.pop.new.self; argument = c.args.argument } in
    first-closed _ w c.add_candidate-in-FirstArguments.new.self c.in-FirstArguments.nest
    (closed-by _ c.args.self.now c.end_arguments.new.self w c.in_ok-from.field-0 (Open.FirstArguments c.in-FirstArguments.nest)
    c.requires.ended c.in_ok-end_arguments.ensures refl refl refl refl c.in_ok-from.ensures.items c.in-FirstArguments.is)
    c.in_ok-add_candidate-in-FirstArguments.ensures

pub level_ended-requires-clause-awaits : goal.level_ended-requires-clause-awaits
level_ended-requires-clause-awaits g c =
    let w = record c.end_arguments.new.self { waiting = c.pop.new.self; argument = c.args.argument } in
    level-closed _ w c.in-LevelArguments.is_dependent
    (closed-by _ c.args.self.now c.end_arguments.new.self w c.in_ok-from.field-0 (Open.LevelArguments c.in-LevelArguments.is_dependent)
    c.requires.ended c.in_ok-end_arguments.ensures refl refl refl refl c.in_ok-from.ensures.items c.in-LevelArguments.is)
