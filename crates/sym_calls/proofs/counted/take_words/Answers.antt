use Rattle.sym_calls.proofs.Basics.{◌≡◌, ◌-◌, ◌++◌, ◌∙◌, [], List, ℕ, take, drop, length, refl, sym, ap, subst, arith, take_all, length-drop, following, Takes, slice_from, Takes-join, take-part}
use Rattle.sym_calls.proofs.Kept.{Adds-as, Adds-join, Adds-none}
use Rattle.sym_calls.proofs.counted.take_words.Goals as goal

pub loop-at-init : goal.loop-at-init
loop-at-init g c = record {
  bytes = [];
  within = omega arith;
  takes = record {
    text = λ more. refl;
    counts = λ more. refl;
    dots = omega arith;
    letters = refl;
  };
  adds = Adds-none c.args.kept.now;
  nothing_waits = c.requires.nothing_waits;
}

pub loop-at-preserved : goal.loop-at-preserved
loop-at-preserved g c =
    let so_far = c.loop-at.invariant in
    let answers = g.D.Demangler.answer c.args.demangler.now in
    let piece = c.args.piece.now in
    let at = c.loop-at.at in
    let rest = take (length piece - at) (drop at piece) in
    let count = c.in_ok-taken.taken.count in
    let takes = c.in_ok-taken.ensures.takes in
    let follows = following c.in_ok-taken.taken (take count rest) in
    let pushed : c.deref.result.now ≡ takes.0 = c.deref.ensures.value ∙ takes.1 ∙ ap (λ (t : List ℕ). t ++ takes.0) so_far.nothing_waits in
    let added = Adds-as c.loop-at.kept c.add.new.self c.deref.result.now takes.0 pushed c.in_ok-add.ensures in record {
      bytes = so_far.bytes ++ (takes.0 ++ follows);
      within = omega (arith, so_far.within, c.in_ok-taken.ensures.within.1, ap length (slice_from piece at), length-drop at piece);
      takes = subst (λ (t : List ℕ). Takes answers c.args.words.now c.take.new.self t (so_far.bytes ++ (takes.0 ++ follows))) (sym (take-part piece at count)) (Takes-join answers _ _ _ (take at piece) (take count rest) so_far.bytes (takes.0 ++ follows) so_far.takes takes.2);
      adds = Adds-join c.args.kept.now c.loop-at.kept c.add_following.new.self so_far.bytes (takes.0 ++ follows) so_far.adds (Adds-join c.loop-at.kept c.add.new.self c.add_following.new.self takes.0 follows added c.in_ok-add_following.ensures);
      nothing_waits = c.clear.ensures.items;
    }

pub returns-clause-ok : goal.returns-clause-ok
returns-clause-ok g c =
    let so_far = c.loop-at.invariant in
    let answers = g.D.Demangler.answer c.args.demangler.now in
    let piece = c.args.piece.now in
    let whole : take c.loop-at.at piece ≡ piece = take_all c.loop-at.at piece (omega arith) in
    (so_far.bytes, subst (λ (t : List ℕ). Takes answers c.args.words.now c.loop-at.words t so_far.bytes) whole so_far.takes, so_far.adds)
