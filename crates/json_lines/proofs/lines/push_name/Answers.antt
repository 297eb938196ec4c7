use Rattle.json_lines.proofs.Basics.{◌≡◌, ◌∙◌, ◌++◌, [], ◌∷◌, List, ℕ, Bool, Vec, Global, ap, sym, cond, append-nil, quoted}
use Rattle.json_lines.proofs.LineLemmas.{put-name}
use Rattle.json_lines.proofs.lines.push_name.Goals.{then-has_some+in_ok-push, else-has_some}
use Rattle.json_lines.proofs.lines.push_name.Goals as goal

begun : (c : goal.In_ok-push-2) → c.if-has_some.out.items ≡ c.args.out.now.items ++ cond c.args.has_some (44 ∷ []) []
begun c =
    let old = c.args.out.now.items in
    let items : Vec ℕ Global → List ℕ = λ list. list.items in
    let with_comma : Bool → List ℕ = λ has_some. old ++ cond has_some (44 ∷ []) [] in elim c.if-has_some.branch [
      | then-has_some+in_ok-push w ↦ ap items w.out-is ∙ w.in_ok-push.ensures.items ∙ ap with_comma (sym w.if-has_some.true)
      | else-has_some w ↦ ap items w.out-is ∙ sym (append-nil old) ∙ ap with_comma (sym w.if-has_some.false)
    ]

pub returns : goal.returns
returns c =
    let begins = c.if-has_some.out.items in
    put-name c.args.has_some c.args.name.now c.args.out.now.items begins c.push_string.new.out.items c.push-2.new.self.items (begun c) (c.in_ok-push_string.ensures ∙ ap (λ (t : List ℕ). begins ++ quoted t) c.as_bytes.ensures.value) c.in_ok-push-2.ensures.items
