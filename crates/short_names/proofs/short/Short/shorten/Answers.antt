use Rattle.short_names.proofs.Basics.{◌∙◌, ◌++◌, ◌-◌, sym, ap, length, take, drop, if◌then◌else◌, take_rest, short, shortened, taken}
use Rattle.short_names.proofs.short.Short.shorten.Goals as goal

pub returns-then-pairs-clause-short : goal.returns-then-pairs-clause-short
unfolding shortened
returns-then-pairs-clause-short c =
    let old = c.args.out.now.items in
    let from = c.args.from in
    let text = c.deref-2.result.now in
    let written = c.write.new.self.out.items in
    let text_is =
    c.deref-2.ensures.value ∙ c.in_ok-take_text.ensures ∙ ap (λ t. taken c.args.keeps_inline (take (length t - from) (drop from t))) c.deref.ensures.value
    ∙ ap (taken c.args.keeps_inline) (take_rest old from) in
    c.in_ok-extend_from_slice.ensures.items ∙ ap (λ a. a ++ c.deref-then-pairs.result.now) c.truncate.ensures.items
    ∙ ap (λ w. take from old ++ w) (c.deref-then-pairs.ensures.value ∙ sym (c.in_ok-pairs.ensures ∙ ap (λ b. if b then written else text) c.if-pairs.true) ∙ ap short text_is)

pub returns-clause-short : goal.returns-clause-short
unfolding shortened short
returns-clause-short c =
    let old = c.args.out.now.items in
    let from = c.args.from in
    let text = c.deref-2.result.now in
    let written = c.write.new.self.out.items in
    let text_is =
    c.deref-2.ensures.value ∙ c.in_ok-take_text.ensures ∙ ap (λ t. taken c.args.keeps_inline (take (length t - from) (drop from t))) c.deref.ensures.value
    ∙ ap (taken c.args.keeps_inline) (take_rest old from) in
    c.in_ok-extend_from_slice-2.ensures.items ∙ ap (λ a. a ++ c.deref-3.result.now) c.truncate.ensures.items
    ∙ ap (λ w. take from old ++ w)
    (c.deref-3.ensures.value ∙ sym c.deref-2.ensures.value ∙ sym (c.in_ok-pairs.ensures ∙ ap (λ b. if b then written else text) c.if-pairs.false) ∙ ap short text_is)
