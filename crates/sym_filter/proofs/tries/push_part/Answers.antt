use Rattle.sym_filter.proofs.Basics.{◌<◌, ◌+◌, ◌++◌, ◌||◌, ◌∙◌, [], ◌∷◌, Bool, length, drop, take, get_or, sym, ap, arith, list_any, Ascii, has_text, replaced, runs_of}
use Rattle.sym_filter.proofs.TryLemmas.{last-part, last-part_text, more-pushed, next-part, next-part_text}
use Rattle.sym_filter.proofs.tries.push_part.Goals as goal

pub returns-then-count-rest-clause-text : goal.returns-then-count-rest-clause-text
returns-then-count-rest-clause-text g c =
    let answers = g.D.Demangler.answer c.args.demangler.now in
    let rest = c.args.rest.now in
    let count = c.run_front-count.result in
    (replaced answers (take count rest), c.in_ok-has_text.ensures.text, last-part answers rest count c.if-count-rest.true c.run_front-count.ensures.in_run)

pub returns-then-count-rest-clause-has_text : goal.returns-then-count-rest-clause-has_text
returns-then-count-rest-clause-has_text g c =
    let answers = g.D.Demangler.answer c.args.demangler.now in
    let rest = c.args.rest.now in
    let count = c.run_front-count.result in
    last-part_text answers rest count c.if-count-rest.true c.run_front-count.ensures.in_run ∙ ap (λ (b : Bool). b || list_any (has_text answers) (runs_of Ascii (drop count rest))) (sym c.in_ok-has_text.ensures.has_text)

pub returns-clause-text : goal.returns-clause-text
returns-clause-text g c =
    let answers = g.D.Demangler.answer c.args.demangler.now in
    let rest = c.args.rest.now in
    let count = c.run_front-count.result in
    let inside : count < length rest = omega (arith, c.run_front-count.ensures.within, c.if-count-rest.false) in
    (replaced answers (take count rest) ++ get_or rest count 0 ∷ [], more-pushed c.args.out.now.items c.push_replaced.new.out.items _ (replaced answers (take count rest)) (get_or rest count 0 ∷ []) c.in_ok-push.ensures.items c.in_ok-has_text.ensures.text, next-part answers rest count inside c.run_front-count.ensures.in_run (c.run_front-count.ensures.stops inside))

pub returns-clause-has_text : goal.returns-clause-has_text
returns-clause-has_text g c =
    let answers = g.D.Demangler.answer c.args.demangler.now in
    let rest = c.args.rest.now in
    let count = c.run_front-count.result in
    let inside : count < length rest = omega (arith, c.run_front-count.ensures.within, c.if-count-rest.false) in
    next-part_text answers rest count inside c.run_front-count.ensures.in_run (c.run_front-count.ensures.stops inside) ∙ ap (λ (b : Bool). b || list_any (has_text answers) (runs_of Ascii (drop (count + 1) rest))) (sym c.in_ok-has_text.ensures.has_text)
