use Rattle.cpp_direct.proofs.ForAnswers.{refl, instance-front}
use Rattle.cpp_direct.proofs.direct.Direct.instance_front.Goals as goal

pub returns : goal.returns
returns g c =
    let old = c.args.self.now in
    instance-front _ old _ c.args.mark c.args.from c.end-to.result (record (old.argument) { encoding = c.args.encoding }) c.requires.named c.requires.outside
    refl refl refl c.in_ok-push.ensures.items refl refl c.end-to.ensures
