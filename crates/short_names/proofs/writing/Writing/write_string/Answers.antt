use Rattle.short_names.proofs.Basics.{◌∙◌, ◌+◌, ◌-◌, ◌++◌, ℕ, List, ap, refl, length, take, drop, arith, length-drop, take_rest, constructor, text_of}
use Rattle.short_names.proofs.StringLemmas.{string_goes, string-name, string_row}
use Rattle.short_names.proofs.writing.Writing.write_string.Goals as goal

pub overflow_sub-self : goal.overflow_sub-self
overflow_sub-self c = omega (arith, string-name _ c.requires.3, ap length c.text_at.ensures, c.requires.2)

pub returns : goal.returns
returns c = λ written is.
    let text = c.args.text.now in
    let now = c.args.self.now in
    let size = c.args.size in
    let copied = c.in_ok-copy.ensures in
    let more = c.in_ok-more.ensures in
    let end = now.at + size + 52 in
    let rest_is = take_rest text end in
    string_goes text now written size c.in_ok-more.more _ is c.requires.0.2 c.requires.1 c.requires.2 c.requires.3 c.requires.4
    (more.size_is ∙ ap (λ r. (constructor string_row r).size) rest_is)
    (omega (arith, c.requires.5, more.within, ap length rest_is, length-drop end text))
    refl refl
    (more.text_is ∙ ap (λ r. c.extend_from_slice.new.self.items ++ (constructor string_row r).bytes) rest_is
    ∙ ap (λ o. o ++ (constructor string_row (drop end text)).bytes)
    (c.in_ok-extend_from_slice.ensures.items ∙ ap (λ t. c.copy.new.self.out.items ++ t) c.text_at-2.ensures
    ∙ ap (λ o. o ++ text_of string_row.name) (copied.out ∙ ap (λ (t : List ℕ). now.out.items ++ take (now.at + (size - length t) - now.copied) (drop now.copied text)) c.text_at.ensures)))
    c.copy.ensures.brackets c.copy.ensures.starts
