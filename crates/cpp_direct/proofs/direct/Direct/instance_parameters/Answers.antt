use Rattle.cpp_direct.proofs.ForAnswers.{refl, instance-awaits}
use Rattle.cpp_direct.proofs.direct.Direct.instance_parameters.Goals as goal

pub instance_opened-requires : goal.instance_opened-requires
instance_opened-requires g c = record {
  awaits = instance-awaits _ c.args.self.now c.args.mark c.args.from c.end-to.result c.args.behind (record (c.args.self.now.argument) { encoding = c.args.encoding })
      c.requires.named c.requires.outside refl c.end-to.ensures c.requires.returned;
}
