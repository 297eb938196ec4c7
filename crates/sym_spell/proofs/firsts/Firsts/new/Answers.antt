use Rattle.std.proofs.Common.{ap, rules}
use Rattle.std.specs.BTreeMap.{get, is_at}
use Rattle.std.specs.Map.{lookup}
use Rattle.sym_spell.proofs.Placed.{no-keys}
use Rattle.sym_spell.proofs.firsts.Firsts.new.Goals as goal

pub returns-clause-index : goal.returns-clause-index
returns-clause-index g c =
    no-keys g.K.Ord.cmp g.K.Marked.mark_of (record { total = g.met.K.Ord.total; alike = g.met.K.Marked.alike })
    c.in_ok-places.places.items c.in_ok-seen.seen.items (get g.K.Ord.cmp c.new.result) (c.in_ok-places.ensures.items_if_clones_equal (λ y h. search rules)) c.in_ok-seen.ensures.items
    (λ q. ap (lookup (is_at (g.K.Ord.cmp q))) c.new.ensures.empty)
