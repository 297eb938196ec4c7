use Rattle.cpp_link.proofs.Basics.{◌≡◌, refl, sym, ◌∙◌, ap, subst, arith, ℕ, ◌+◌, ◌-◌, ◌<◌, ◌∷◌, [], length, get_or, true, false, get_or_append_left, is_by_all, counted_of, with_place, AreListed}
use Rattle.cpp_link.proofs.Pushed.{holder_first, holder_listed, holder_few, numbered_once, numbered_as_it_is}
use Rattle.cpp_link.proofs.candidates.Candidates.number_holder.Goals as goal

pub returns-then-own-eq0 : goal.returns-then-own-eq0
returns-then-own-eq0 c =
    let old = c.args.self.now in
    let p = c.requires.pushed in
    let none : 0 ≡ length p.before = omega (arith, p.own, c.if-own-eq0.true) in
    numbered_as_it_is old (record old { not_shorter = 1; by = c.joined-self.result }) refl
    (subst (λ xs. AreListed old.not_longer 1 c.joined-self.result xs) (sym p.items)
    (holder_first old.not_longer old.not_shorter old.by p.before p.last p.listed p.by c.joined-self.result c.joined-self.ensures none (omega (arith, p.longer, c.if-own-eq0.true))))

pub overflow_sub-own-2 : goal.overflow_sub-own-2
overflow_sub-own-2 c =
    let p = c.requires.pushed in
    holder_few c.args.self.now.not_longer p.before c.args.own p.own (omega (arith, c.if-own-eq0.false)) p.listed.longer

pub returns : goal.returns
returns c =
    let old = c.args.self.now in
    let p = c.requires.pushed in
    let more = c.count_left_out.result in
    let i = c.args.own - (old.not_longer + 1) in
    let some : 0 < c.args.own = omega (arith, c.if-own-eq0.false) in
    let other = c.index.result.now in
    let last = c.index.ensures ∙ ap (λ xs. get_or xs (c.args.own - 1) other) p.items ∙ get_or_append_left p.before (p.last ∷ []) other (c.args.own - 1) (omega (arith, p.own, some)) in
    numbered_once old (record old { list = c.place_longer.new.list; not_longer = old.not_longer + 1; not_shorter = old.not_shorter + more; by = c.joined-self.result }) c.place_longer.ensures.room i c.args.own c.place_longer.ensures.items
    (subst (λ xs. AreListed (old.not_longer + 1) (old.not_shorter + more) c.joined-self.result (with_place false xs i c.args.own)) (sym p.items)
    (holder_listed old.not_longer old.not_shorter old.by p.before p.last p.listed p.by c.joined-self.result more i c.args.own other c.joined-self.ensures p.own some
    (c.count_left_out.ensures ∙ ap (λ x. elim (is_by_all (counted_of x.counted)) as (λ _. ℕ) [ true ↦ 2 | false ↦ 1 ]) last) refl))
