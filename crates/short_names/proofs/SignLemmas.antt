-- Steps of what is written: what is kept, and brackets that are opened.
use Rattle.short_names.proofs.Basics.{◌≡◌, ◌<◌, ◌≤◌, ◌+◌, ◌-◌, ◌==◌, refl, sym, ap, ◌∙◌, ℕ, arith, true, false, List, [], ◌∷◌, ◌++◌, length, take, drop, Option, append_assoc, append-nil, length-append, nat_eq, starts_with, Bracket, Listed, Writing, short_rules, starts_of, Opened, Written, stepped, written_for, keeps, opens, IsAt, Goes, IsListed, IsInnermost, AreOpen, before_last, all_of, ended}
use lib.Pointwise.{bytes_decides}
use Rattle.short_names.proofs.WalkLemmas.{goes, pending-more, length-pending}

-- the bytes that were written, after some more bytes of the text
pub more-bytes : (text : List ℕ) (out : List ℕ) (copied at size : ℕ) (bytes all : List ℕ) → copied ≤ at
    → out ++ take (at - copied) (drop copied text) ≡ all → take size (drop at text) ≡ bytes
    → out ++ take (at + size - copied) (drop copied text) ≡ all ++ bytes
more-bytes text out copied at size bytes all h was more =
    ap (λ t. out ++ t) (pending-more text copied at size h ∙ ap (λ t. take (at - copied) (drop copied text) ++ t) more)
    ∙ sym (append_assoc out (take (at - copied) (drop copied text)) bytes) ∙ ap (λ t. t ++ bytes) was

-- what is written as it is
pub kept : (text : List ℕ) (now : Writing) (written : Written) (byte : ℕ) (rest bytes : List ℕ) (to : ℕ) → IsAt text now written
    → drop now.at text ≡ byte ∷ rest → stepped short_rules byte rest written ≡ keeps bytes written
    → take (length bytes) (drop now.at text) ≡ bytes → 0 < length bytes → now.at + length bytes ≤ length text → to ≡ now.at + length bytes
    → Goes text now.at (record now { at = to })
kept text now written byte rest bytes to is here step take_is some within to_is = record {
  written = record written { last = written.last ++ bytes };
  is = record {
    goes_on =
        ap (λ k. written_for short_rules 0 (drop k text) (record written { last = written.last ++ bytes })) to_is
        ∙ sym (goes short_rules text now.at byte rest written (record written { last = written.last ++ bytes }) (length bytes) here step some) ∙ is.goes_on;
    copied = omega (arith, is.copied, to_is);
    within = omega (arith, within, to_is);
    bytes =
        ap (λ k. now.out.items ++ take (k - now.copied) (drop now.copied text)) to_is
        ∙ more-bytes text now.out.items now.copied now.at (length bytes) bytes (all_of written) is.copied is.bytes take_is
        ∙ append_assoc (before_last written.opened) written.last bytes;
    opened = is.opened;
  };
  further = omega (arith, to_is, some);
}

-- a bracket that is opened, after its name
pub opened : (text : List ℕ) (now : Writing) (written : Written) (byte : ℕ) (rest : List ℕ) (mark : ℕ) (name : List ℕ) (listed : Option Listed) (after : Writing)
    → IsAt text now written → drop now.at text ≡ byte ∷ rest → stepped short_rules byte rest written ≡ opens mark name written
    → take (length name + 1) (drop now.at text) ≡ name ++ mark ∷ [] → now.at + (length name + 1) ≤ length text → IsListed name listed → ((mark == 60) ≡ false → name ≡ [])
    → after.at ≡ now.at + (length name + 1) → after.copied ≡ now.copied → after.out.items ≡ now.out.items
    → after.brackets.items ≡ now.brackets.items ++ record { is_list = mark == 60; named = listed; place = length now.out.items + (now.at + length name - now.copied); first = length now.starts.items } ∷ []
    → after.starts.items ≡ now.starts.items ++ (length now.out.items + (now.at + length name - now.copied) + 1) ∷ []
    → Goes text now.at after
unfolding before_last starts_of ended
opened text now written byte rest mark name listed after is here step take_is within is_listed no_name at_is copied_is out_is brackets_are starts_are =
    let top : Opened = record { bracket = mark; name = name; before = written.last; elements = [] } in
    let next : Written = record { opened = top ∷ written.opened; last = [] } in
    let place : ℕ = length now.out.items + (now.at + length name - now.copied) in
    let all : now.out.items ++ take (now.at - now.copied) (drop now.copied text) ≡ all_of written = is.bytes in
    record {
      written = next;
      is = record {
        goes_on =
            ap (λ k. written_for short_rules 0 (drop k text) next) at_is
            ∙ sym (goes short_rules text now.at byte rest written next (length name + 1) here step (omega arith)) ∙ is.goes_on;
        copied = omega (arith, is.copied, at_is, copied_is);
        within = omega (arith, within, at_is);
        bytes =
            ap (λ l. l ++ take (after.at - after.copied) (drop after.copied text)) out_is
            ∙ ap (λ k. now.out.items ++ take (after.at - k) (drop k text)) copied_is
            ∙ ap (λ k. now.out.items ++ take (k - now.copied) (drop now.copied text)) at_is
            ∙ more-bytes text now.out.items now.copied now.at (length name + 1) (name ++ mark ∷ []) (all_of written) is.copied is.bytes take_is
            ∙ sym (append_assoc (all_of written) name (mark ∷ [])) ∙ sym (append-nil _);
        opened = record {
          bracket = record { is_list = mark == 60; named = listed; place = place; first = length now.starts.items };
          around = now.brackets.items;
          earlier = now.starts.items;
          own = (place + 1) ∷ [];
          brackets_are = brackets_are;
          starts_are = starts_are;
          is = record {
            kind = refl;
            named = is_listed;
            place_is = omega (arith, is.copied, is.within, ap length all, length-append now.out.items (take (now.at - now.copied) (drop now.copied text)), length-pending text now.copied now.at is.copied is.within, length-append (all_of written) name);
            first_is = refl;
            starts_are = refl;
            no_list = λ e. (no_name e, refl);
          };
          outer = is.opened;
        };
      };
      further = omega (arith, at_is);
    }

-- ## Signs

pub begun : (text needle : List ℕ) → starts_with nat_eq text needle ≡ true → take (length needle) text ≡ needle
begun text needle h = sym ((bytes_decides needle (take (length needle) text)).0 h)

-- ## Within brackets

-- the innermost bracket, where there is one
pub record Top (written : Written) (brackets : List Bracket) (starts : List ℕ) : Type 0 where
  pub top : Opened
  pub around : List Opened
  pub opened_is : written.opened ≡ top ∷ around
  pub is : IsInnermost (AreOpen around) top (before_last around) brackets starts

pub top_of : (written : Written) (brackets : List Bracket) (starts : List ℕ) → AreOpen written.opened brackets starts → 0 < length brackets → Top written brackets starts
top_of written brackets starts are some = by written.opened refl are
  where
    by : (opened : List Opened) → written.opened ≡ opened → AreOpen opened brackets starts → Top written brackets starts
    by [] e are = absurd (omega (arith, some, ap length are.0))
    by (top ∷ around) e are = record { top = top; around = around; opened_is = e; is = are }
