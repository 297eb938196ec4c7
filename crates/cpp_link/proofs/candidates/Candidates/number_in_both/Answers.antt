use Rattle.cpp_link.proofs.Basics.{refl, sym, ◌∙◌, ap, subst, arith, ◌-◌, ◌∷◌, [], length, length-append, true, false, with_place, AreListed}
use Rattle.cpp_link.proofs.Listed.{with_length}
use Rattle.cpp_link.proofs.Pushed.{both_listed, numbered_twice}
use Rattle.cpp_link.proofs.candidates.Candidates.number_in_both.Goals as goal

pub place_shorter-requires : goal.place_shorter-requires
place_shorter-requires c =
    let old = c.args.self.now.list.items in
    let p = c.requires.pushed in
    record {
      number = omega (
        arith,
        ap (λ xs. length xs) c.place_longer.ensures.items,
        with_length false old (c.args.own - c.args.self.now.not_longer) c.args.own,
        ap (λ xs. length xs) p.items,
        length-append p.before (p.last ∷ []),
        p.own,
      );
    }

pub returns : goal.returns
returns c =
    let old = c.args.self.now in
    let p = c.requires.pushed in
    let i = c.args.own - old.not_longer in
    let j = c.args.own - old.not_shorter in
    numbered_twice old (record old { list = c.place_shorter.new.list }) (c.place_shorter.ensures.room ∙ c.place_longer.ensures.room) i c.args.own j c.args.own
    (c.place_shorter.ensures.items ∙ ap (λ xs. with_place true xs j c.args.own) c.place_longer.ensures.items)
    (subst (λ xs. AreListed old.not_longer old.not_shorter old.by (with_place true (with_place false xs i c.args.own) j c.args.own)) (sym p.items)
    (both_listed old.not_longer old.not_shorter old.by p.before p.last p.listed p.by i j c.args.own p.own refl refl))
