use Rattle.cpp_link.proofs.Basics.{refl, sym, ◌∙◌, ap, subst, ◌+◌, ◌-◌, false, is_by_all, is_by_newer, joined, counted_of, with_place, AreListed}
use Rattle.cpp_link.proofs.Pushed.{longer_listed, numbered_once}
use Rattle.cpp_link.proofs.candidates.Candidates.number_in_longer.Goals as goal

pub returns : goal.returns
returns c =
    let old = c.args.self.now in
    let p = c.requires.pushed in
    let i = c.args.own - old.not_longer in
    numbered_once old (record old { list = c.place_longer.new.list; not_shorter = old.not_shorter + 1; by = c.joined-self.result }) c.place_longer.ensures.room i c.args.own c.place_longer.ensures.items
    (subst (λ xs. AreListed old.not_longer (old.not_shorter + 1) c.joined-self.result (with_place false xs i c.args.own)) (sym p.items)
    (longer_listed old.not_longer old.not_shorter old.by p.before p.last p.listed c.joined-self.result i c.args.own
    (ap (λ x. is_by_all (counted_of x)) p.by ∙ c.requires.some) (ap (λ x. is_by_newer (counted_of x)) p.by ∙ c.requires.other)
    (c.joined-self.ensures ∙ ap (λ x. joined (counted_of old.by) (counted_of x)) (sym p.by)) p.own refl))
