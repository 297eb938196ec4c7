use Rattle.json_lines.proofs.Basics.{◌∙◌, ◌++◌, [], ◌∷◌, List, ℕ, Bool, ap, sym, codes, true, false, is_some, member, no_members, meaning_in, line_members, meaning_members, text_of, members_text}
use Rattle.json_lines.proofs.LineLemmas.{all-members, put-line}
use Rattle.json_lines.proofs.lines.line_of.Goals as goal

pub returns : goal.returns
returns c =
    let meaning = meaning_in c.args.meaning.now in
    let symbol : Bool → List ℕ = λ has_some. members_text has_some (member (codes "symbol") (text_of c.args.name.now) no_members) in
    put-line (members_text false (line_members c.args.line)) (symbol (is_some c.args.line)) (members_text true (meaning_members meaning)) c.in_ok-bytes.bytes.items c.push_line.new.out.items c.push_text.new.out.items c.push_meaning.new.out.items c.extend_from_slice.new.self.items
    c.in_ok-bytes.ensures.items c.in_ok-push_line.ensures (c.in_ok-push_text.ensures ∙ ap (λ has_some. c.push_line.new.out.items ++ symbol has_some) c.is_some.ensures) c.in_ok-push_meaning.ensures c.in_ok-extend_from_slice.ensures.items
    ∙ ap (λ (t : List ℕ). t ++ 10 ∷ []) (sym (all-members c.args.line c.args.name.now meaning))
