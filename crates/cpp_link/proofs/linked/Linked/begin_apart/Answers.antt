use Rattle.cpp_link.proofs.Basics.{refl, sym, ◌∙◌, ap, ◌-◌, Production, prefix_at, qualified_at, expecting, calling, ending, expecting_item, expected_of, counting_of, link_opening, trees_in}
use Rattle.cpp_link.specs.declared.counting.Expected.{Expected as Noted}
use Rattle.cpp_link.proofs.Beginning.{noted_begins, other_begins}
use Rattle.cpp_link.proofs.linked.Linked.begin_apart.Goals as goal

pub returns-in-NestTemplate : goal.returns-in-NestTemplate
unfolding link_opening expected_of expecting
returns-in-NestTemplate c =
    let old = c.args.self.now in
    noted_begins c.args.symbol.now c.args.rows.now old c.args.context c.args.row Production.NestTemplate (λ around n counting. expecting (prefix_at (n - 1)) counting)
    (record old.counting { expected = Noted.PrefixAt c.saturating_sub.result }) c.with_packs.result (λ o parts. refl)
    (sym c.production_of.ensures ∙ c.in-NestTemplate.is) (ap (λ n. expecting (prefix_at n) (counting_of old.counting)) c.saturating_sub.ensures) c.requires.apart c.with_packs.ensures.around c.with_packs.ensures.there c.with_packs.ensures.packs

pub returns-in-QualifiedPlain : goal.returns-in-QualifiedPlain
unfolding link_opening expected_of expecting
returns-in-QualifiedPlain c =
    let old = c.args.self.now in
    noted_begins c.args.symbol.now c.args.rows.now old c.args.context c.args.row Production.QualifiedPlain (λ around n counting. expecting (qualified_at n) counting)
    (record old.counting { expected = Noted.QualifiedAt c.args.row.from }) c.with_packs-in-QualifiedPlain.result (λ o parts. refl)
    (sym c.production_of.ensures ∙ c.in-QualifiedPlain.is) refl c.requires.apart c.with_packs-in-QualifiedPlain.ensures.around c.with_packs-in-QualifiedPlain.ensures.there c.with_packs-in-QualifiedPlain.ensures.packs

pub returns-in-Items : goal.returns-in-Items
unfolding link_opening
returns-in-Items c =
    let old = c.args.self.now in
    noted_begins c.args.symbol.now c.args.rows.now old c.args.context c.args.row Production.Items (λ around n counting. expecting_item around n counting)
    c.expecting_item-self.result c.with_packs-in-Items.result (λ o parts. refl)
    (sym c.production_of.ensures ∙ c.in-Items.is) (c.expecting_item-self.ensures (trees_in c.args.symbol.now old.nodes)) c.requires.apart c.with_packs-in-Items.ensures.around c.with_packs-in-Items.ensures.there c.with_packs-in-Items.ensures.packs

pub returns-in-NestNext : goal.returns-in-NestNext
unfolding link_opening
returns-in-NestNext c =
    let old = c.args.self.now in
    noted_begins c.args.symbol.now c.args.rows.now old c.args.context c.args.row Production.NestNext (λ around n counting. calling counting)
    c.calling-self.result c.with_packs-in-NestNext.result (λ o parts. refl)
    (sym c.production_of.ensures ∙ c.in-NestNext.is) c.calling-self.ensures c.requires.apart c.with_packs-in-NestNext.ensures.around c.with_packs-in-NestNext.ensures.there c.with_packs-in-NestNext.ensures.packs

pub returns-in-NestEnd : goal.returns-in-NestEnd
unfolding link_opening
returns-in-NestEnd c =
    let old = c.args.self.now in
    noted_begins c.args.symbol.now c.args.rows.now old c.args.context c.args.row Production.NestEnd (λ around n counting. ending counting)
    c.ending-self.result c.with_packs-in-NestEnd.result (λ o parts. refl)
    (sym c.production_of.ensures ∙ c.in-NestEnd.is) c.ending-self.ensures c.requires.apart c.with_packs-in-NestEnd.ensures.around c.with_packs-in-NestEnd.ensures.there c.with_packs-in-NestEnd.ensures.packs

pub returns-in_default : goal.returns-in_default
returns-in_default c =
    other_begins c.args.symbol.now c.args.rows.now c.args.self.now c.args.context c.args.row c.begin_rule.result (record {
      not_template = λ is. c.in_default.not-NestTemplate (c.production_of.ensures ∙ is);
      not_qualified = λ is. c.in_default.not-QualifiedPlain (c.production_of.ensures ∙ is);
      not_items = λ is. c.in_default.not-Items (c.production_of.ensures ∙ is);
      not_next = λ is. c.in_default.not-NestNext (c.production_of.ensures ∙ is);
      not_end = λ is. c.in_default.not-NestEnd (c.production_of.ensures ∙ is);
    })
    c.begin_rule.ensures.begins c.begin_rule.ensures.refused
