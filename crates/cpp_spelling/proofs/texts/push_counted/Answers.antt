use Rattle.std.proofs.Common.{refl, length}
use Rattle.cpp_spelling.proofs.Digits.{counted-name}
use Rattle.cpp_spelling.proofs.texts.push_counted.Goals as goal

pub returns-clause-name : goal.returns-clause-name
returns-clause-name c =
    counted-name c.args.out.now.items c.extend_from_slice.new.self.items c.push_digits.new.out.items c.extend_from_slice-2.new.self.items c.args.before.now c.args.name.now (length c.args.name.now) refl c.in_ok-extend_from_slice.ensures.items c.in_ok-push_digits.ensures.digits c.in_ok-extend_from_slice-2.ensures.items
