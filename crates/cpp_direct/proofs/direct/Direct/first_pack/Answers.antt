use Rattle.cpp_direct.proofs.ForAnswers.{refl, true, element-begins, first-expected}
use Rattle.cpp_direct.proofs.direct.Direct.first_pack.Goals as goal

pub begin_pack-requires-clause-awaits : goal.begin_pack-requires-clause-awaits
begin_pack-requires-clause-awaits g c = first-expected _ c.args.self.now _ true c.requires.writing refl refl

pub begin_pack-requires-then-byte_at-eq76-clause-awaits : goal.begin_pack-requires-then-byte_at-eq76-clause-awaits
begin_pack-requires-then-byte_at-eq76-clause-awaits g c = first-expected _ c.args.self.now _ true c.requires.writing refl refl

pub returns : goal.returns
returns g c =
    element-begins _ c.args.self.now _ c.end-from.result c.requires.writing (c.is_named.ensures c.if-not-is_named.false) c.requires.letter
    c.end-from.ensures (rw c.in_ok-push.ensures.items at c.in_ok-push-2.ensures.items) refl refl refl c.in_ok-behind.ensures.1
