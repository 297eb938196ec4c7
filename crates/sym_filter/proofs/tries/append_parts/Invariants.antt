use Rattle.sym_filter.proofs.Basics.{◌≡◌, ◌≤◌, ◌-◌, ◌++◌, ◌||◌, List, ℕ, length, drop, list_any, Ascii, has_text, replaced, runs_of, with_runs}
use Rattle.sym_filter.proofs.tries.append_parts.Given as goal

abbrev pub invariant-parts : goal.invariant-parts
invariant-parts g l = let answers = g.D.Demangler.answer l.demangler in record {
  bytes : List ℕ;
  within : l.at ≤ length l.word;
  pushed : l.out.items ≡ l.fn.out.items ++ bytes;
  text : with_runs Ascii (replaced answers) l.word ≡ bytes ++ with_runs Ascii (replaced answers) (drop l.at l.word);
  texts : list_any (has_text answers) (runs_of Ascii l.word) ≡ (l.some || list_any (has_text answers) (runs_of Ascii (drop l.at l.word)));
}

abbrev pub decreases-parts : goal.decreases-parts
decreases-parts g l = length l.word - l.at
