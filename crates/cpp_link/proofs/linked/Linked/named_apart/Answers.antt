use Rattle.cpp_link.proofs.Basics.{sym, ◌∙◌, ap, subst, ◌<◌, length, IfSome, is_by_some, candidate_there, Lists}
use Rattle.cpp_link.specs.Counting.{lists_of}
use Rattle.cpp_link.proofs.Named.{named_one, named_none, named_by_one}
use Rattle.cpp_link.proofs.linked.Linked.named_apart.Goals as goal

pub returns-then-is_one_place : goal.returns-then-is_one_place
returns-then-is_one_place c = record {
  named = named_one c.args.symbol.now c.args.self.now c.args.place c.args.number c.requires.candidates.0 c.longer_place-longer_at.result c.shorter_place-shorter_at.result c.candidate_at-longer.result
      c.longer_place-longer_at.ensures c.shorter_place-shorter_at.ensures (c.candidate_at-longer.ensures _ c.longer_place-longer_at.ensures) (sym c.is_one_place.ensures ∙ c.if-is_one_place.true);
}

pub returns-then-is_by_some : goal.returns-then-is_by_some
returns-then-is_by_some c = record {
  named = named_none c.args.symbol.now c.args.self.now c.args.place c.args.number c.requires.candidates.0 c.longer_place-longer_at.result c.shorter_place-shorter_at.result
      c.longer_place-longer_at.ensures c.shorter_place-shorter_at.ensures (sym c.is_one_place.ensures ∙ c.if-is_one_place.false)
      (ap is_by_some (sym c.requires.candidates.1.by) ∙ sym c.is_by_some.ensures ∙ c.if-is_by_some.true);
}

pub can_be_named-longer_fits-requires-clause-there : goal.can_be_named-longer_fits-requires-clause-there
can_be_named-longer_fits-requires-clause-there c =
    subst (λ o. IfSome o (λ d. d.node < length c.args.self.now.nodes.nodes)) (sym (c.candidate_at-longer.ensures _ c.longer_place-longer_at.ensures)) (candidate_there _ c.args.self.now.candidates.list.items _ c.requires.candidates.0)

pub can_be_named-shorter_fits-requires-clause-there : goal.can_be_named-shorter_fits-requires-clause-there
can_be_named-shorter_fits-requires-clause-there c =
    subst (λ o. IfSome o (λ d. d.node < length c.args.self.now.nodes.nodes)) (sym (c.candidate_at-shorter.ensures _ c.shorter_place-shorter_at.ensures)) (candidate_there _ c.args.self.now.candidates.list.items _ c.requires.candidates.0)

pub has_head-longer_has-requires-clause-there : goal.has_head-longer_has-requires-clause-there
has_head-longer_has-requires-clause-there c =
    subst (λ o. IfSome o (λ d. d.node < length c.args.self.now.nodes.nodes)) (sym (c.candidate_at-longer.ensures _ c.longer_place-longer_at.ensures)) (candidate_there _ c.args.self.now.candidates.list.items _ c.requires.candidates.0)

pub has_head-shorter_has-requires-clause-there : goal.has_head-shorter_has-requires-clause-there
has_head-shorter_has-requires-clause-there c =
    subst (λ o. IfSome o (λ d. d.node < length c.args.self.now.nodes.nodes)) (sym (c.candidate_at-shorter.ensures _ c.shorter_place-shorter_at.ensures)) (candidate_there _ c.args.self.now.candidates.list.items _ c.requires.candidates.0)

pub returns-in-Longer : goal.returns-in-Longer
returns-in-Longer c = record {
  named = named_by_one c.args.symbol.now c.args.self.now c.args.place c.args.number c.requires.candidates.0 c.longer_place-longer_at.result c.shorter_place-shorter_at.result c.candidate_at-longer.result c.candidate_at-shorter.result c.can_be_named-longer_fits.result c.can_be_named-shorter_fits.result c.has_head-longer_has.result c.has_head-shorter_has.result Lists.Longer
      c.longer_place-longer_at.ensures c.shorter_place-shorter_at.ensures (sym c.is_one_place.ensures ∙ c.if-is_one_place.false)
      (ap is_by_some (sym c.requires.candidates.1.by) ∙ sym c.is_by_some.ensures ∙ c.if-is_by_some.false)
      (c.candidate_at-longer.ensures _ c.longer_place-longer_at.ensures) (c.candidate_at-shorter.ensures _ c.shorter_place-shorter_at.ensures)
      c.can_be_named-longer_fits.ensures c.can_be_named-shorter_fits.ensures c.has_head-longer_has.ensures c.has_head-shorter_has.ensures (ap lists_of (sym c.in-Longer.is) ∙ c.left_by.ensures);
}

pub returns-in-Shorter : goal.returns-in-Shorter
returns-in-Shorter c = record {
  named = named_by_one c.args.symbol.now c.args.self.now c.args.place c.args.number c.requires.candidates.0 c.longer_place-longer_at.result c.shorter_place-shorter_at.result c.candidate_at-longer.result c.candidate_at-shorter.result c.can_be_named-longer_fits.result c.can_be_named-shorter_fits.result c.has_head-longer_has.result c.has_head-shorter_has.result Lists.Shorter
      c.longer_place-longer_at.ensures c.shorter_place-shorter_at.ensures (sym c.is_one_place.ensures ∙ c.if-is_one_place.false)
      (ap is_by_some (sym c.requires.candidates.1.by) ∙ sym c.is_by_some.ensures ∙ c.if-is_by_some.false)
      (c.candidate_at-longer.ensures _ c.longer_place-longer_at.ensures) (c.candidate_at-shorter.ensures _ c.shorter_place-shorter_at.ensures)
      c.can_be_named-longer_fits.ensures c.can_be_named-shorter_fits.ensures c.has_head-longer_has.ensures c.has_head-shorter_has.ensures (ap lists_of (sym c.in-Shorter.is) ∙ c.left_by.ensures);
}

pub returns-in-Both : goal.returns-in-Both
returns-in-Both c = record {
  named = named_by_one c.args.symbol.now c.args.self.now c.args.place c.args.number c.requires.candidates.0 c.longer_place-longer_at.result c.shorter_place-shorter_at.result c.candidate_at-longer.result c.candidate_at-shorter.result c.can_be_named-longer_fits.result c.can_be_named-shorter_fits.result c.has_head-longer_has.result c.has_head-shorter_has.result Lists.Both
      c.longer_place-longer_at.ensures c.shorter_place-shorter_at.ensures (sym c.is_one_place.ensures ∙ c.if-is_one_place.false)
      (ap is_by_some (sym c.requires.candidates.1.by) ∙ sym c.is_by_some.ensures ∙ c.if-is_by_some.false)
      (c.candidate_at-longer.ensures _ c.longer_place-longer_at.ensures) (c.candidate_at-shorter.ensures _ c.shorter_place-shorter_at.ensures)
      c.can_be_named-longer_fits.ensures c.can_be_named-shorter_fits.ensures c.has_head-longer_has.ensures c.has_head-shorter_has.ensures (ap lists_of (sym c.in-Both.is) ∙ c.left_by.ensures);
}

pub returns-in-Neither : goal.returns-in-Neither
returns-in-Neither c = record {
  named = named_by_one c.args.symbol.now c.args.self.now c.args.place c.args.number c.requires.candidates.0 c.longer_place-longer_at.result c.shorter_place-shorter_at.result c.candidate_at-longer.result c.candidate_at-shorter.result c.can_be_named-longer_fits.result c.can_be_named-shorter_fits.result c.has_head-longer_has.result c.has_head-shorter_has.result Lists.Neither
      c.longer_place-longer_at.ensures c.shorter_place-shorter_at.ensures (sym c.is_one_place.ensures ∙ c.if-is_one_place.false)
      (ap is_by_some (sym c.requires.candidates.1.by) ∙ sym c.is_by_some.ensures ∙ c.if-is_by_some.false)
      (c.candidate_at-longer.ensures _ c.longer_place-longer_at.ensures) (c.candidate_at-shorter.ensures _ c.shorter_place-shorter_at.ensures)
      c.can_be_named-longer_fits.ensures c.can_be_named-shorter_fits.ensures c.has_head-longer_has.ensures c.has_head-shorter_has.ensures (ap lists_of (sym c.in-Neither.is) ∙ c.left_by.ensures);
}
