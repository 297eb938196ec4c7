-- An annotated item prints what the item does.
use Rattle.cpp_term.proofs.Basics.{◌≡◌, refl, ap, sym, ◌∙◌, subst, ℕ, List, [], ◌∷◌, Result, Ok, Err, Refusal, Detail, PartOf, text, sub, printed, AreAlike, Term, Item, parts, rank, shown, root_item, answer_within, place_within, noted_item, noted_part, noted_parts, noted_scope, noted_context, noted_tree, noted_shown, noted_answer, erase, CarriesArguments}
use Rattle.sym_print.proofs.Unfolding.{alike-prints}
use Rattle.cpp_grammar.proofs.RanksFall.{ranks_fall}
use Rattle.sym_print.specs.Answer.{text_within}
use Rattle.cpp_term.specs.Items as item_
use Rattle.cpp_term.specs.Parts as part_
use Rattle.cpp_term.specs.Ranks as rank_
use Rattle.cpp_term.specs.Term as term_
use Rattle.cpp_term.proofs.PartsNoted.{parts_noted}
use Rattle.cpp_term.proofs.RanksNoted as noted_ranks

abbrev Noted : Item → item_.Item → Type 0
Noted i j = j ≡ noted_item i

alike_noted : (ps : List (PartOf Item)) → AreAlike Noted ps (noted_parts ps)
unfolding noted_parts noted_part
alike_noted [] = tt
alike_noted (text b ∷ ps) = (refl, alike_noted ps)
alike_noted (sub item ∷ ps) = (refl, alike_noted ps)

alike : (d : Detail) (i : Item) (j : item_.Item) → Noted i j → AreAlike Noted (parts d i) (part_.parts d j)
alike d i j e = subst (λ ps. AreAlike Noted (parts d i) ps) (sym (ap (part_.parts d) e ∙ parts_noted d i)) (alike_noted (parts d i))

-- An annotated item has the text and the cost of the item.
pub prints_noted : (d : Detail) (i : Item) → printed (parts d) rank i ≡ printed (part_.parts d) rank_.rank (noted_item i)
prints_noted d i = alike-prints Noted (parts d) rank (ranks_fall d) (part_.parts d) rank_.rank (noted_ranks.ranks_fall d) (alike d) i (noted_item i) refl

-- The tree of a symbol prints the same without its arguments.
pub shows_noted : (d : Detail) (t : term_.Term) → CarriesArguments t → noted_shown d t ≡ shown d (root_item (erase t))
unfolding noted_item noted_context noted_scope place_within
shows_noted d t carries = ap (noted_shown d) (sym carries) ∙ sym (prints_noted d (root_item (erase t)))

-- An annotated result gives the same answer.
pub answer_noted : (d : Detail) (limit : ℕ) (r : Result Term Refusal) → noted_answer d limit (noted_tree r) ≡ answer_within d limit r
unfolding noted_tree noted_item noted_context noted_scope place_within
answer_noted d limit (Ok t) = ap (text_within limit) (sym (prints_noted d (root_item t)))
answer_noted d limit (Err refusal) = refl
