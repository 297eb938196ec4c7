use Rattle.rust_direct.proofs.Basics.{◌-◌, take, drop, lt-leb}
use Rattle.rust_direct.proofs.SpecialsRead.{special-read}
use Rattle.rust_direct.proofs.direct.Direct.special_named.Goals as goal

pub ended-requires : goal.ended-requires
ended-requires g c =
    let s = c.args.s.now in
    let name = c.in_ok-name.name in
    let is = c.in_ok-name.ensures in
    special-read g.S.Showing.IS_BRIEF s c.args.self.now c.push_special.new.self c.args._letter c.args.place c.args.from c.args.forms c.in_ok-count.count
    c.in_ok-count.behind (take (name.to - name.from) (drop name.from s)) c.args.namespace.now name.end c.requires.arrives c.requires.path
    (lt-leb 97 c.args._letter c.requires.special) c.requires.upper c.in_ok-count.ensures is.2 c.requires.text c.in_ok-push_special.ensures
