use Rattle.json_lines.proofs.Basics.{◌∙◌, ◌++◌, List, ℕ, ap, codes, true, on_ok_weaker, member, no_members, string, language_of, mangling_name, members_text}
use Rattle.json_lines.proofs.LineLemmas.{put-two, text-word}
use Rattle.json_lines.proofs.lines.push_mangling.Goals as goal

pub returns : goal.returns
returns c =
    let language : List ℕ → List ℕ = λ w. members_text true (member (codes "language") (string w) no_members) in
    let mangling : List ℕ → List ℕ = λ w. members_text true (member (codes "mangling") (string w) no_members) in
    on_ok_weaker c.push_word-2.result (λ pushed. put-two c.args.out.now.items c.push_word.new.out.items c.push_word-2.new.out.items (language (language_of c.args.mangling)) (mangling (mangling_name c.args.mangling)) _
    (c.in_ok-push_word.ensures ∙ ap (λ w. c.args.out.now.items ++ language w) c.language.ensures) (pushed ∙ ap (λ w. c.push_word.new.out.items ++ mangling w) c.name.ensures)
    (text-word true (codes "language") (language_of c.args.mangling) (member (codes "mangling") (string (mangling_name c.args.mangling)) no_members))) c.push_word-2.ensures
