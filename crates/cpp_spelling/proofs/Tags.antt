-- A name without its tags: which node has the name's tree without tags.
use Rattle.cpp_spelling.proofs.Basics.{◌≡◌, ◌<◌, ℕ, length, Some, None, refl, ap, subst, ◌∙◌, without_tags, erase, Table, trees, tree_at, entry_at, tree_under, untagged_is, IsTable, erased_place}
use Rattle.cpp_term.specs.Term.{Term, tagged}
use Rattle.cpp_term.specs.Scope as noted
use Rattle.cpp_tree.specs.declared.node.Placed.{Placed}

untagged-erased : (t : Term) → erase (noted.without_tags t) ≡ without_tags (erase t)
unfolding noted.without_tags without_tags erase
untagged-erased (tagged of_structor name tag) = untagged-erased name
untagged-erased _ = refl

pub untagged-some : (y : Table) (name : ℕ) (p : Placed) → IsTable y → name < length y.nodes → (entry_at y.nodes name).untagged ≡ Some p
    → erase (tree_at (trees y) p.node) ≡ without_tags (erase (tree_at (trees y) name))
unfolding untagged_is
untagged-some y name p table there is =
    let t : Term = tree_at (trees y) name in
    let noted_is : tree_under (trees y) p ≡ noted.without_tags t =
    subst (λ o. untagged_is (trees y) t o ≡ noted.without_tags t) is (table.each name there).untagged in
    erased_place y p (noted.without_tags t) noted_is ∙ untagged-erased t

pub untagged-none : (y : Table) (name : ℕ) → IsTable y → name < length y.nodes → (entry_at y.nodes name).untagged ≡ None
    → erase (tree_at (trees y) name) ≡ without_tags (erase (tree_at (trees y) name))
unfolding untagged_is
untagged-none y name table there is =
    let t : Term = tree_at (trees y) name in
    let own : t ≡ noted.without_tags t = subst (λ o. untagged_is (trees y) t o ≡ noted.without_tags t) is (table.each name there).untagged in
    ap erase own ∙ untagged-erased t
