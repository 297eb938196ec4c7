-- What is printed to the text list, and what is added to the nodes.
use Rattle.rust_v0.proofs.Basics.{◌≢◌, Result, Ok, Err, IfErr, refl, arith, Refusal, Memory, grows-same, RustNodes, Prints, AddsOne}
use Rattle.rust_v0.proofs.Meanings.{goes_on_same}

-- printing nothing leaves the nodes and the text list as they are
pub prints-none : (w : RustNodes) → Prints w w
prints-none w = record {
  nodes = refl;
  ended = refl;
  grows = grows-same w.nodes w.nodes refl;
  stays = λ s is. is;
  node_room = refl;
  text_room = omega arith;
}

-- a call that adds no node, and isn't refused for want of memory, adds at most one node
pub adds-none : {X : Type 0} (w : RustNodes) (r : Result X Refusal) → IfErr r (λ e. e ≢ Memory) → AddsOne w w r
adds-none w (Ok x) never = record {
  grows = goes_on_same w w refl refl;
  one = omega arith;
  text = refl;
  full = tt;
  node_room = omega arith;
  text_room = refl;
}
adds-none w (Err e) never = record {
  grows = goes_on_same w w refl refl;
  one = omega arith;
  text = refl;
  full = λ is. absurd (never is);
  node_room = omega arith;
  text_room = refl;
}
