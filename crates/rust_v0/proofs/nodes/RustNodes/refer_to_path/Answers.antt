use Rattle.rust_v0.proofs.Basics.{refl, a_path}
use Rattle.rust_v0.proofs.Referring.{referred_keeps}
use Rattle.rust_v0.proofs.nodes.RustNodes.refer_to_path.Goals as goal

pub returns-clause-gives : goal.returns-clause-gives
returns-clause-gives c at known place bound there keeps is =
    let named = c.in_ok-node.ensures.names at known place bound keeps.table is in
    rw named.3 (
      _,
      _,
      refl,
      named.1,
      referred_keeps at.symbol c.args.self.now _ at.ended at.place c.args.found (a_path named.0) (rw place there) keeps named.2 refl (rw place (c.note.ensures.noted there)),
    )
