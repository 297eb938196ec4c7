use Rattle.cpp_direct.proofs.ForAnswers.{◌∷◌, [], arith, false, refl, known-passes, pack-after, then-there}
use Rattle.cpp_direct.proofs.direct.Direct.next_pack.Goals as goal

pub returns : goal.returns
returns g c =
    pack-after _ c.args.self.now c.push_pair.new.self _ c.args.last c.end-from.result c.in_ok-number.number c.args.known c.requires.awaits c.requires.letter
    c.in_ok-push_pair.ensures c.end-from.ensures c.in_ok-number.ensures.1
    (rw c.in_ok-push.ensures.items at c.in_ok-push-2.ensures.items) refl refl refl c.in_ok-behind.ensures.1

pub returns-then-byte-eq76 : goal.returns-then-byte-eq76
returns-then-byte-eq76 g c = known-passes _ c.args.self.now false c.args.last c.args.known c.requires.awaits

pub last_pack_empty-requires-clause-letters : goal.last_pack_empty-requires-clause-letters
last_pack_empty-requires-clause-letters g c =
    then-there c.args.s.now (74 ∷ []) c.args.self.now.at c.in_ok-behind.behind c.byte_at-byte.result 69 c.requires.letter c.in_ok-behind.ensures.1
    c.if-byte-eq69.true (omega arith) c.byte_at-byte.ensures
