use Rattle.cpp_direct.proofs.ForAnswers.{virtual-thunk-begins}
use Rattle.cpp_direct.proofs.direct.Direct.begin_virtual_thunk.Goals as goal

pub begin_encoding-requires-clause-awaits : goal.begin_encoding-requires-clause-awaits
begin_encoding-requires-clause-awaits g c =
    let fresh = c.requires.fresh in
    let first_ = c.in_ok-offset.ensures in
    let second = c.in_ok-offset-2.ensures in
    virtual-thunk-begins _ (record c.args.self.now { at = 4 }) c.offset.new.self c.offset-2.new.self c.push.new.self
    (record { no_text = fresh.no_text; no_candidate = fresh.no_candidate; none_open = fresh.none_open })
    c.requires.apart c.requires.other c.requires.starts c.requires.letter c.requires.kind first_.0 first_.1 second.0 second.1 c.in_ok-push.ensures
