use Rattle.sym_languages.proofs.Basics.{Err, refl, rules, AreBytes, underscore_of, wide_mangled, kept, wide_readings, wide_pressed_answer}
use Rattle.cpp_layout.specs.Layout.{whole_of}
use Rattle.sym_languages.proofs.LanguageLemmas.{unread_pressed, read_counts}
use Rattle.sym_languages.proofs.WideAnswers.{kept_none, kept_some, reading_kept, unspelled_answer, spelled_answer}
use Rattle.sym_languages.proofs.pressing.press_wide_into.Goals as goal

pub returns-in-Err : goal.returns-in-Err
returns-in-Err c =
    let symbol = c.args.symbol.now in
    let bytes : AreBytes symbol = λ i. search (rules, c.type_inv.symbol i) in (
      unread_pressed wide_mangled wide_pressed_answer (underscore_of c.args.skip) symbol c.in-Err.refusal
          (λ is. reading_kept symbol (Err c.in-Err.refusal) bytes is) c.in-Err.ensures.never_too_long c.in-Err.ensures.refused,
      refl,
    )

pub returns-in-Ok-None : goal.returns-in-Ok-None
returns-in-Ok-None c =
    let symbol = c.args.symbol.now in
    let bytes : AreBytes symbol = λ i. search (rules, c.type_inv.symbol i) in
    let read = c.in-Ok.read in
    let known = c.in-Ok.ensures in
    let counted = c.counts-counts.ensures in
    let most = c.most_pressed.result in (
      read_counts wide_readings symbol read c.counts-counts.result _ _ _ known.rows known.bytes known.symbol known.steps known.nodes
          counted.is_read counted.rows counted.nodes counted.steps counted.nodes_few counted.steps_few counted.steps_enough,
      unspelled_answer (underscore_of c.args.skip) symbol (whole_of read) most bytes known.symbol c.most_pressed.ensures
          (kept_none (kept most (whole_of read)) c.in-Ok-None.field-0 c.in-Ok-None.ensures.kept c.in-Ok-None.field-0-is),
      refl,
    )

pub returns-in-Ok-push_after_underscore : goal.returns-in-Ok-push_after_underscore
returns-in-Ok-push_after_underscore c =
    let symbol = c.args.symbol.now in
    let bytes : AreBytes symbol = λ i. search (rules, c.type_inv.symbol i) in
    let read = c.in-Ok.read in
    let known = c.in-Ok.ensures in
    let counted = c.counts-counts.ensures in
    let most = c.most_pressed.result in
    let spelling = c.in-Ok-Some.pressed in (
      read_counts wide_readings symbol read c.counts-counts.result _ _ _ known.rows known.bytes known.symbol known.steps known.nodes
          counted.is_read counted.rows counted.nodes counted.steps counted.nodes_few counted.steps_few counted.steps_enough,
      spelled_answer (underscore_of c.args.skip) c.args.out.now.items c.push_after_underscore.new.out.items symbol spelling.items c.deref.result.now (whole_of read) most bytes known.symbol
          c.most_pressed.ensures (kept_some (kept most (whole_of read)) c.in-Ok-Some.field-0 spelling c.in-Ok-Some.ensures.kept c.in-Ok-Some.field-0-is)
          c.deref.ensures.value c.in-Ok-push_after_underscore.ensures.pushed,
    )
