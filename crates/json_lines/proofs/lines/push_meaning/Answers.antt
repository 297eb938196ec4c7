use Rattle.json_lines.proofs.Basics.{◌∙◌, ◌++◌, List, ℕ, ap, sym, codes, true, on_ok_weaker, utf8_lossy, member, no_members, meaning_in, details_in, detail_members, mangling_members, meaning_members, text_of, members_text}
use Rattle.json_lines.specs.declared.meanings.Meaning.{Meaning}
use Rattle.json_lines.proofs.LineLemmas.{put-two, text-mangling, text-word}
use Rattle.json_lines.proofs.lines.push_meaning.Goals as goal

pub returns-in_ok-push_mangling-in-Text : goal.returns-in_ok-push_mangling-in-Text
returns-in_ok-push_mangling-in-Text c =
    let text : List ℕ → List ℕ = λ bytes. members_text true (member (codes "text") (text_of bytes) no_members) in
    let old = c.args.out.now.items in
    let named = c.push_text.new.out.items in
    let mangling = c.in-Text.mangling in
    let details = details_in c.in-Text.details in
    on_ok_weaker c.push_details.result (λ pushed. put-two old named c.push_details.new.out.items (text c.in-Text.text.items) (members_text true (mangling_members mangling (detail_members details))) _
    (c.in_ok-push_text-in-Text.ensures ∙ ap (λ bytes. old ++ text bytes) c.deref.ensures.value)
    (put-two named c.push_mangling.new.out.items c.push_details.new.out.items (members_text true (mangling_members mangling no_members)) (members_text true (detail_members details)) _ c.in_ok-push_mangling-in-Text.ensures pushed (text-mangling mangling (detail_members details)))
    (text-word true (codes "text") (utf8_lossy c.in-Text.text.items) (mangling_members mangling (detail_members details)))
    ∙ ap (λ (meaning : Meaning). old ++ members_text true (meaning_members (meaning_in meaning))) (sym c.in-Text.is)) c.push_details.ensures

pub returns-in-NoSymbol : goal.returns-in-NoSymbol
returns-in-NoSymbol c =
    on_ok_weaker c.push_word.result (λ pushed. pushed ∙ ap (λ (meaning : Meaning). c.args.out.now.items ++ members_text true (meaning_members (meaning_in meaning))) (sym c.in-NoSymbol.is)) c.push_word.ensures
