use Rattle.short_names.proofs.Basics.{refl, not-true, not-false}
use Rattle.short_names.proofs.ClosingLemmas.{popped, list_stops, list_closes, list_pending, list_shortens}
use Rattle.short_names.proofs.writing.Writing.close_list.Goals as goal

pub returns-then-not-list : goal.returns-then-not-list
returns-then-not-list c = λ written is.
    list_stops c.args.text.now c.args.self.now written c.pop.new.self.items c.in-Some.list is c.requires.0.2 c.requires.1 c.in-Some.ensures.items (not-true _ c.if-not-list.true)

pub close_named-requires : goal.close_named-requires
close_named-requires c =
    let p = popped c.requires.0.0 c.args.self.now.brackets.items c.args.self.now.starts.items c.pop.new.self.items c.in-Some.list c.requires.0.1.opened c.in-Some.ensures.items in
    (_, _, _, list_pending c.args.text.now c.args.self.now c.requires.0.0 _ c.pop.new.self.items c.in-Some.list c.in-Some-named.listed p c.requires.0.1 c.requires.0.2 (not-false _ c.if-not-list.false) c.in-Some-named.is refl refl refl refl)

pub returns-in-Some-named : goal.returns-in-Some-named
returns-in-Some-named c = λ written is.
    let p = popped written c.args.self.now.brackets.items c.args.self.now.starts.items c.pop.new.self.items c.in-Some.list is.opened c.in-Some.ensures.items in
    let list = not-false _ c.if-not-list.false in
    list_shortens c.args.text.now c.args.self.now written _ c.close_named.new.self _ c.pop.new.self.items c.in-Some.list c.in-Some-named.listed p is c.requires.0.2 c.requires.1 list
    refl refl refl
    (c.in_ok-close_named.ensures _ _ _ (list_pending c.args.text.now c.args.self.now written _ c.pop.new.self.items c.in-Some.list c.in-Some-named.listed p is c.requires.0.2 list c.in-Some-named.is refl refl refl refl))
    refl refl refl refl c.truncate.ensures.items

pub returns : goal.returns
returns c = λ written is.
    list_closes c.args.text.now c.args.self.now written _ c.pop.new.self.items c.in-Some.list is c.requires.0.2 c.requires.1 c.in-Some.ensures.items (not-false _ c.if-not-list.false) c.in_default-named.is
    (record { at_is = refl; copied_is = refl; out_is = refl; brackets_are = refl; starts_are = c.truncate-2.ensures.items })
