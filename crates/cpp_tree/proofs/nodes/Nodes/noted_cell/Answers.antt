use Rattle.cpp_tree.proofs.Basics.{ap, ◌+◌, ◌∙◌, ◌&&◌, ◌||◌, not, cond, nat_eq, length, first_of, entry_at, kept, with_elements, both_free, of_cell, both}
use Rattle.cpp_tree.proofs.Compacting.{over-two-is}
use Rattle.cpp_tree.proofs.nodes.Nodes.noted_cell.Goals as goal

pub returns : goal.returns
returns c =
    let e = entry_at c.args.self.now.nodes c.args.first in
    let f = entry_at c.args.self.now.nodes c.args.rest in
    let packs = first_of e.packs f.packs in
    let free = both_free e.free f.free in
    let depends = of_cell e.by_argument f.by_argument in
    let words = c.of_elements-words.result in
    let run = cond (nat_eq (c.args.rest + 1) (length c.args.self.now.nodes)) (f.run + 1) 0 in
    over-two-is c.args.node (c.at-one.result.is_empty && c.at-other.result.is_empty) (λ l m. of_cell l m) c.of_cell.result words (c.entry-count.result.count + 1) c.run_to.result c.noted_over_two.result c.at-one.result c.at-other.result e f c.at-one.ensures c.at-other.ensures c.of_cell.ensures c.noted_over_two.ensures
    ∙ ap (λ x. kept c.args.node packs free (x.is_empty && c.at-other.result.is_empty) depends words (c.entry-count.result.count + 1) c.run_to.result) c.at-one.ensures
    ∙ ap (λ x. kept c.args.node packs free (e.is_empty && x.is_empty) depends words (c.entry-count.result.count + 1) c.run_to.result) c.at-other.ensures
    ∙ ap (λ n. kept c.args.node packs free (e.is_empty && f.is_empty) depends words (n + 1) c.run_to.result) (ap (λ x. x.count) (c.entry-count.ensures ∙ c.at-other.ensures))
    ∙ ap (λ n. kept c.args.node packs free (e.is_empty && f.is_empty) depends words (f.count + 1) n) c.run_to.ensures
    ∙ c.of_elements-words.ensures c.args.node packs free (e.is_empty && f.is_empty) depends (f.count + 1) run
    ∙ both (λ a b. with_elements c.args.node packs free (e.is_empty && f.is_empty) depends (f.count + 1) run (not a || b)) c.is_alone-is_alone.ensures (ap (λ x. x.has_pack) (c.entry-has_pack.ensures ∙ c.at-other.ensures))
