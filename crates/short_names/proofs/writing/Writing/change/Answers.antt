use Rattle.short_names.proofs.Basics.{◌∙◌, ◌+◌, ◌-◌, sym, ap, refl, length, subst, take, drop, slice_get, arith, length-drop, drop-drop, take_rest, STD, STRING_TEMPLATE, TEMPLATES, IsString, with_template, IsChange, is_nothing, behind_run, run_of, Alias}
use Rattle.short_names.proofs.StringLemmas.{string-room}
use Rattle.short_names.proofs.NameSteps.{operator_here, plain_run, list_opens, row_member, row_named, run-take, run-within}
use Rattle.short_names.proofs.writing.Writing.change.Goals as goal

pub returns-in-Nothing : goal.returns-in-Nothing
returns-in-Nothing c = λ written is.
    let text = c.args.text.now in
    let at = c.args.self.now.at in
    let rest = take_rest text at in
    let slice = take (length text - at) (drop at text) in
    let nothing = subst (λ x. IsChange (run_of (drop at text)) (behind_run (drop at text)) x) c.in-Nothing.is c.requires.3 in
    let run_is = ap (λ n. take n slice) (c.requires.2 ∙ ap (λ t. length (run_of t)) (sym rest)) ∙ run-take slice in
    plain_run text c.args.self.now written _ is c.requires.0.2 c.requires.1 nothing.0 nothing.1 (c.requires.5 (ap is_nothing c.in-Nothing.is))
    (ap (λ n. at + n)
    (operator_here slice (drop at text) (take c.args.size slice) _ c.args.size c.operator_size.result rest run_is
    (c.requires.2 ∙ ap (λ t. length (run_of t)) (sym rest) ∙ ap length (sym run_is)) (take_rest slice c.args.size) c.operator_size.ensures.size))

pub returns-in_ok-open_bracket-in-List : goal.returns-in_ok-open_bracket-in-List
returns-in_ok-open_bracket-in-List c = λ written is.
    let text = c.args.text.now in
    let at = c.args.self.now.at in
    let list = subst (λ x. IsChange (run_of (drop at text)) (behind_run (drop at text)) x) c.in-List.is c.requires.3 in
    let e = c.in_ok-open_bracket-in-List.ensures in
    list_opens text c.args.self.now written _ c.args.size _ c.requires.2 is c.requires.0.2 c.requires.1 list.0
    (row_named _ c.in-List.whole c.in-List.row (record { name = record { from = 0; to = 0 }; count = 0; first_default = 0; polymorphic = record { from = 0; to = 0 }; first_alias = 0; end_alias = 0 }) list.1 list.2)
    (list.1, list.2) e.at e.copied e.out e.brackets e.starts

pub write_member-requires : goal.write_member-requires
write_member-requires c =
    let text = c.args.text.now in
    let at = c.args.self.now.at in
    let none : Alias = record { template = record { from = 0; to = 0 }; arguments = record { from = 0; to = 0 }; name = record { from = 0; to = 0 } } in
    let here = subst (λ x. IsChange (run_of (drop at text)) (behind_run (drop at text)) x) c.in-Member.is c.requires.3 in
    let member = row_member (run_of (drop at text)) (behind_run (drop at text)) c.in-Member.row c.in-Member.size none here.1 here.2 in
    (c.requires.0, c.requires.1, here, omega (arith, member.within, run-within (drop at text), length-drop at text, c.requires.0.2))

pub write_string-requires : goal.write_string-requires
write_string-requires c =
    let text = c.args.text.now in
    let at = c.args.self.now.at in
    let list = subst (λ x. IsChange (run_of (drop at text)) (behind_run (drop at text)) x) c.in-List.is c.requires.3 in
    let string = c.is_string.ensures c.if-is_string.true in
    let u = drop at text in
    let rest_is = take_rest text (at + c.args.size) ∙ sym (drop-drop c.args.size at text) ∙ ap (λ n. drop n u) c.requires.2 in
    let here = subst (λ t. IsString STD STRING_TEMPLATE t) rest_is (record { whole_is = refl; row_is = refl; follows = string.follows; read_back = string.read_back }) in
    (c.requires.0, c.requires.1, c.requires.2, list.2 ∙ ap (λ w. with_template w (slice_get TEMPLATES c.in-List.row)) string.whole_is ∙ ap (λ r. with_template STD (slice_get TEMPLATES r)) string.row_is, here, string-room text at c.args.size c.requires.0.2 c.requires.2 here)
