use Rattle.cpp_direct.proofs.ForAnswers.{true, false, arith, refl, there, some-by, reads-begun, offset-read, stands-none}
use Rattle.cpp_direct.proofs.direct.Direct.offset.Goals as goal

pub returns-then-byte_at-eq110 : goal.returns-then-byte_at-eq110
returns-then-byte_at-eq110 c =
    let s = c.args.s.now in
    let old = c.args.self.now in
    some-by c.distance.result c.distance.ensures
    (λ read. offset-read s old (record old { at = c.in_ok-self.field-0 }) c.distance.new.self true
    (there s old.at c.byte_at.result 110 c.if-byte_at-eq110.true (omega arith) c.byte_at.ensures) c.in_ok-self.ensures.1
    (reads-begun old _ refl refl refl refl refl) read)

pub returns : goal.returns
returns c =
    let s = c.args.s.now in
    let old = c.args.self.now in
    some-by c.distance-2.result c.distance-2.ensures
    (λ read. offset-read s old old c.distance-2.new.self false (stands-none s old.at) (omega arith) (reads-begun old old refl refl refl refl refl) read)
