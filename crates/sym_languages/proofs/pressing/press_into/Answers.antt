use Rattle.sym_languages.proofs.Basics.{refl, rules, ◌∙◌, AreBytes, underscore_of}
use Rattle.sym_languages.proofs.LanguageLemmas.{unread_pressed, pressed_given, read_counts}
use Rattle.sym_languages.proofs.pressing.press_into.Goals as goal

pub returns-in-Err : goal.returns-in-Err
returns-in-Err g c =
    let symbol = c.args.symbol.now in
    let bytes : AreBytes symbol = λ i. search (rules, c.type_inv.symbol i) in (
      unread_pressed g.M.Mangling.mangled g.M.Pressable.answer (underscore_of c.args.skip) symbol c.in-Err.refusal
          (g.met.M.Pressable.refused symbol c.in-Err.refusal bytes) c.in-Err.ensures.never_too_long c.in-Err.ensures.refused,
      refl,
    )

pub returns-in-Ok-push_after_underscore : goal.returns-in-Ok-push_after_underscore
returns-in-Ok-push_after_underscore g c =
    let symbol = c.args.symbol.now in
    let bytes : AreBytes symbol = λ i. search (rules, c.type_inv.symbol i) in
    let m = g.M.Mangling.mangled in
    let read = c.in-Ok.read in
    let known = c.in-Ok.ensures in
    let counted = c.counts-counts.ensures in (
      read_counts (record { mangled = m; IsRead = g.M.Counted.is_read; bytes_of = g.M.Mangling.bytes_of; whole_of = g.M.Mangling.whole_of; are_nodes = g.M.Mangling.are_nodes; nodes_a_byte = g.M.Counted.nodes_a_byte })
          symbol read c.counts-counts.result (g.M.Mangling.rows_of read) (g.M.Mangling.steps_of read) (g.M.Mangling.nodes_of read) known.rows known.bytes known.symbol known.steps known.nodes
          counted.is_read counted.rows counted.nodes counted.steps counted.nodes_few counted.steps_few counted.steps_enough,
      pressed_given (underscore_of c.args.skip) c.args.out.now.items c.push_after_underscore.new.out.items c.deref.result.now (g.M.Pressable.pressed read) (g.M.Pressable.answer symbol)
          (g.met.M.Pressable.read symbol read bytes known.symbol) (c.deref.ensures.value ∙ c.in-Ok-pressed.ensures.pressed) c.in-Ok-push_after_underscore.ensures.pushed,
    )
