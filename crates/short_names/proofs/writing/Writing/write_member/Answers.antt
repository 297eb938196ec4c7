use Rattle.short_names.proofs.Basics.{◌∙◌, ◌+◌, ◌++◌, ◌≤◌, ap, refl, length, drop, arith, length-drop, get_or, take_rest, behind_run, run_of, constructor, Alias, ALIASES}
use Rattle.short_names.proofs.NameSteps.{member_goes, row_member, run-within}
use Rattle.short_names.proofs.writing.Writing.write_member.Goals as goal

pub returns : goal.returns
returns c = λ written is.
    let text = c.args.text.now in
    let at = c.args.self.now.at in
    let none : Alias = record { template = record { from = 0; to = 0 }; arguments = record { from = 0; to = 0 }; name = record { from = 0; to = 0 } } in
    let alias = get_or ALIASES c.args.row none in
    let member = row_member (run_of (drop at text)) (behind_run (drop at text)) c.args.row c.args.size none c.requires.2.1 c.requires.2.2 in
    let copied = c.in_ok-copy.ensures in
    let more = c.in_ok-more.ensures in
    let rest_is = take_rest text c.copy.new.self.at ∙ ap (λ n. drop n text) c.copy.ensures.at in
    let inside : at + c.args.size ≤ length text = omega (arith, member.within, run-within (drop at text), length-drop at text, c.requires.0.2) in
    member_goes text c.args.self.now written alias c.args.size c.in_ok-more.more _ is c.requires.0.2 c.requires.1 c.requires.2.0 member
    (more.size_is ∙ ap (λ r. (constructor alias r).size) rest_is)
    (omega (arith, inside, more.within, ap length rest_is, length-drop (at + c.args.size) text))
    (ap (λ n. n + c.in_ok-more.more) c.copy.ensures.at) refl
    (more.text_is ∙ ap (λ r. c.copy.new.self.out.items ++ (constructor alias r).bytes) rest_is ∙ ap (λ o. o ++ (constructor alias (drop (at + c.args.size) text)).bytes) copied.out)
    c.copy.ensures.brackets c.copy.ensures.starts
