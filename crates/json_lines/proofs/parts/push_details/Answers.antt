use Rattle.json_lines.proofs.Basics.{◌∙◌, ◌++◌, List, ℕ, Option, ap, sym, codes, true, append-nil, on_ok_weaker, array, member, no_members, string, kind_name, Part, details_in, detail_members, part_items, members_text}
use Rattle.text_details.specs.declared.details.Details.{Details}
use Rattle.json_lines.proofs.LineLemmas.{no-text, put-two, text-word}
use Rattle.json_lines.proofs.parts.push_details.Goals as goal

pub returns-in-None : goal.returns-in-None
returns-in-None c =
    let old = c.args.out.now.items in
    sym (append-nil old) ∙ ap (λ t. old ++ t) (sym (no-text true)) ∙ ap (λ (found : Option Details). old ++ members_text true (detail_members (details_in found))) (sym c.in-None.is)

pub returns-in_ok-push_word-in-Some : goal.returns-in_ok-push_word-in-Some
returns-in_ok-push_word-in-Some c =
    let old = c.args.out.now.items in
    let kind : List ℕ → List ℕ = λ w. members_text true (member (codes "kind") (string w) no_members) in
    let parts : List Part → List ℕ = λ ps. members_text true (member (codes "parts") (array (part_items ps)) no_members) in
    let details = c.in-Some.details in
    on_ok_weaker c.push_parts.result (λ pushed. put-two old c.push_word.new.out.items c.push_parts.new.out.items (kind (kind_name details.kind)) (parts details.parts.items) _
    (c.in_ok-push_word-in-Some.ensures ∙ ap (λ w. old ++ kind w) c.name.ensures) (pushed ∙ ap (λ ps. c.push_word.new.out.items ++ parts ps) c.deref.ensures.value)
    (text-word true (codes "kind") (kind_name details.kind) (member (codes "parts") (array (part_items details.parts.items)) no_members))
    ∙ ap (λ (found : Option Details). old ++ members_text true (detail_members (details_in found))) (sym c.in-Some.is)) c.push_parts.ensures
