use Rattle.cpp_direct.proofs.ForAnswers.{arith, IsName, place-found, name-placed, NameClass}
use Rattle.cpp_direct.proofs.names.long_name_at.Goals as goal

pub returns : goal.returns
returns c =
    let h = place-found (IsName NameClass.Cpp) c.args.s.now c.args.at c.find_name.result c.ok.result c.in_ok-place.place c.find_name.ensures
    c.ok.ensures.value c.in_ok-place.was in
    name-placed c.args.s.now c.args.at c.in_ok-place.place h (omega (arith, c.if-at-s.false))

pub find_name-requires-clause-fits : goal.find_name-requires-clause-fits
find_name-requires-clause-fits c = c.requires.fits
