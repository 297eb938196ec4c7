use Rattle.sym_languages.proofs.Basics.{refl, rules, AreBytes, answer_appended, answer_too_long}
use Rattle.sym_languages.proofs.LanguageLemmas.{text_answered, too_long_answered, unread_answered, read_counts}
use Rattle.sym_languages.proofs.languages.demangle_in.Goals as goal

pub returns-in-Err : goal.returns-in-Err
returns-in-Err g c =
    let symbol = c.args.symbol.now in
    let bytes : AreBytes symbol = λ i. search (rules, c.type_inv.symbol i) in
    (unread_answered g.M.Mangling.mangled c.args.limit c.args.detail symbol bytes c.in-Err.refusal c.in-Err.ensures.never_too_long c.in-Err.ensures.refused, refl)

pub returns-in-Ok-printed : goal.returns-in-Ok-printed
returns-in-Ok-printed g c =
    let symbol = c.args.symbol.now in
    let bytes : AreBytes symbol = λ i. search (rules, c.type_inv.symbol i) in
    let m = g.M.Mangling.mangled in
    let read = c.in-Ok.read in
    let known = c.in-Ok.ensures in
    let counted = c.counts-counts.ensures in (
      read_counts (record { mangled = m; IsRead = g.M.Counted.is_read; bytes_of = g.M.Mangling.bytes_of; whole_of = g.M.Mangling.whole_of; are_nodes = g.M.Mangling.are_nodes; nodes_a_byte = g.M.Counted.nodes_a_byte })
          symbol read c.counts-counts.result (g.M.Mangling.rows_of read) (g.M.Mangling.steps_of read) (g.M.Mangling.nodes_of read) known.rows known.bytes known.symbol known.steps known.nodes
          counted.is_read counted.rows counted.nodes counted.steps counted.nodes_few counted.steps_few counted.steps_enough,
      text_answered m c.args.limit c.args.detail symbol bytes c.args.out.now.items c.print-printed.new.out.items c.print-printed.result c.in-Ok-printed.field-0 c.in-Ok-printed.is
          (answer_appended m c.args.detail symbol c.args.limit (g.M.Mangling.whole_of read) c.args.out.now.items c.print-printed.new.out.items c.print-printed.result known.symbol c.print-printed.ensures.text c.print-printed.ensures.within),
    )

pub returns-in-TooLong : goal.returns-in-TooLong
returns-in-TooLong g c =
    let symbol = c.args.symbol.now in
    let bytes : AreBytes symbol = λ i. search (rules, c.type_inv.symbol i) in
    let m = g.M.Mangling.mangled in
    let read = c.in-Ok.read in
    let known = c.in-Ok.ensures in
    let counted = c.counts-counts.ensures in (
      read_counts (record { mangled = m; IsRead = g.M.Counted.is_read; bytes_of = g.M.Mangling.bytes_of; whole_of = g.M.Mangling.whole_of; are_nodes = g.M.Mangling.are_nodes; nodes_a_byte = g.M.Counted.nodes_a_byte })
          symbol read c.counts-counts.result (g.M.Mangling.rows_of read) (g.M.Mangling.steps_of read) (g.M.Mangling.nodes_of read) known.rows known.bytes known.symbol known.steps known.nodes
          counted.is_read counted.rows counted.nodes counted.steps counted.nodes_few counted.steps_few counted.steps_enough,
      too_long_answered m c.args.limit c.args.detail symbol bytes c.print-printed.result c.in-Err-printed.refusal c.in-Err-printed.is c.in-TooLong.is
          (answer_too_long m c.args.detail symbol c.args.limit (g.M.Mangling.whole_of read) c.print-printed.result known.symbol c.print-printed.ensures.refusals c.print-printed.ensures.too_long),
      c.in-Err-printed.ensures.same,
    )
