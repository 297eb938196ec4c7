use Rattle.cpp_term.proofs.Reargued.{reargued_none, reargued_twice, reargued_closed, open_reargued, free_reargued, erase_reargued, pack_reargued, class_reargued, empty_reargued}
use Rattle.cpp_term.proofs.arguments_are_replaced.Goals as goal

pub returns-clause-none : goal.returns-clause-none
returns-clause-none c = reargued_none

pub returns-clause-twice : goal.returns-clause-twice
returns-clause-twice c = reargued_twice

pub returns-clause-closed : goal.returns-clause-closed
returns-clause-closed c = reargued_closed

pub returns-clause-open : goal.returns-clause-open
returns-clause-open c = open_reargued

pub returns-clause-free : goal.returns-clause-free
returns-clause-free c = free_reargued

pub returns-clause-erased : goal.returns-clause-erased
returns-clause-erased c = erase_reargued

pub returns-clause-packs : goal.returns-clause-packs
returns-clause-packs c = pack_reargued

pub returns-clause-head : goal.returns-clause-head
returns-clause-head c = class_reargued

pub returns-clause-empty : goal.returns-clause-empty
returns-clause-empty c = empty_reargued
