use Rattle.json_lines.proofs.Basics.{◌∙◌, ◌++◌, [], ◌∷◌, List, ℕ, ap, decimal, print_from, Token}
use Rattle.json_lines.proofs.LineLemmas.{number-text, put-two}
use Rattle.json_lines.proofs.lines.push_number.Goals as goal

pub returns : goal.returns
returns c =
    let mid = c.push_name.new.out.items in
    put-two c.args.out.now.items mid c.extend_from_slice.new.self.items (print_from c.args.has_some (Token.key c.args.name.now ∷ [])) (decimal c.args.value) _ c.in_ok-push_name.ensures
    (c.in_ok-extend_from_slice.ensures.items ∙ ap (λ (t : List ℕ). mid ++ t) (c.as_bytes.ensures.value ∙ c.in_ok-digits.ensures.ok)) (number-text c.args.has_some c.args.name.now (decimal c.args.value))
