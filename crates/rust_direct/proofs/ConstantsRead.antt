-- Constants and arrays that were read and written.
use Rattle.rust_direct.proofs.Basics.{◌≡◌, ℕ, ◌+◌, List, [], ◌∷◌, ◌++◌, length, reverse, Bool, true, false, refl, ap, sym, subst, ◌∙◌, append_assoc, codes, ◌&&◌, decimal, nat_lt, StandsAt, TYPE, a_type, a_constant, Forms, Direct, Opened, type, within, with_ended, Ends, ArgumentsGoOn, opening, Holds, is_type, Writes, Notes, Pushes, sign_text, IsHexAt, IsConstantAt, BeginsInteger, WritesConstant, Stands, IsWriting, parked_of, separator_of, Awaits, AwaitsArgument, Receives, IsEnded}
use Rattle.rust_tree.specs.Symbol as tree
use Rattle.rust_direct.specs.declared.open.Forms.TheVariants as forms
use Rattle.rust_direct.specs.declared.open.Open.TheVariants as opens
use Rattle.rust_direct.specs.declared.open.Step.TheVariants as steps
use Rattle.rust_direct.proofs.Kept.{keeps-written, keeps-noted}
use Rattle.rust_direct.proofs.Moves.{expects-moved}
use Rattle.rust_direct.proofs.MovesOfConstants.{false-comes, true-comes, placeholder-comes, constant-goes-on, array-opens}
use Rattle.rust_direct.proofs.PrintedSpecials.{integer-prints, false-prints, true-prints, placeholder-prints, constant-begins}
use Rattle.rust_direct.proofs.PrintedTypes.{array-prints}
use Rattle.rust_direct.proofs.PathsRead.{stands-written}
use Rattle.rust_direct.proofs.ArgumentsRead.{keeps-pushed, parked-pushed, parked-written, turned, type-held, joined}
use Rattle.rust_direct.proofs.TypesRead.{type-expected}
use Rattle.rust_direct.proofs.SpecialsRead.{writes-both}

-- an integer is written
pub integer-written : (s : List ℕ) (old middle new : Direct) (at digits : ℕ) (minus : Bool) (n end : ℕ) (sign : List ℕ) → BeginsInteger s at digits minus
    → IsHexAt s digits n end → sign ≡ sign_text (minus && nat_lt 0 n) → Writes old middle sign → Writes middle new (decimal n)
    → WritesConstant s old new at end
integer-written s old middle new at digits minus n end sign begins hex is first second =
    let negative = minus && nat_lt 0 n in
    record {
      c = tree.integer begins.0 negative n;
      own = sign_text negative ++ decimal n;
      shows = integer-prints begins.0 negative n hex.small;
      writes = writes-both old middle new (sign_text negative) (decimal n) (subst (λ l. Writes old middle l) is first) second;
      comes = begins.1 n end hex;
    }

-- ## What a note changes

parked-noted : (old new : Direct) (place from : ℕ) (f : Forms) → Notes old new place from f → parked_of new ≡ parked_of old
parked-noted old new place from f n = rw (n.aside, n.is_aside) refl

stands-noted : (brief : Bool) (s : List ℕ) (old new : Direct) (place from : ℕ) (f : Forms) (os : List Opened) (text : List ℕ) → Notes old new place from f
    → Stands brief s (reverse old.waiting.list.items) os text (parked_of old) → Stands brief s (reverse new.waiting.list.items) os text (parked_of new)
stands-noted brief s old new place from f os text n h = rw (n.waiting, n.aside, n.is_aside) h

-- ## Constants among arguments

pub constant-read : (brief : Bool) (s : List ℕ) (old two three : Direct) (is_first : Bool) (place from end : ℕ) → AwaitsArgument brief s old is_first
    → StandsAt s old.at (75 ∷ []) → place ≡ old.at + 1 → from ≡ length old.text.list.items → WritesConstant s old two place end
    → Notes two three place from forms.Unnamed → IsWriting brief s (record three { at = end }) (steps.Arguments false)
constant-read brief s old two three is_first place from end awaits stands place_is from_is wrote notes =
    let l = awaits.listing in
    let st = awaits.state in
    let c = wrote.c in
    let own = wrote.own in
    let writes = wrote.writes in
    let separator = separator_of is_first in
    record {
      state = with_ended place (a_constant c) st;
      keeps = keeps-noted brief s two three place from forms.Unnamed st (a_constant c) old.text.list.items own notes
          (keeps-written brief s old two own st writes awaits.keeps) writes.text from_is tt;
      is_before = record {
        place = l.place;
        from = l.from;
        is_value = l.is_value;
        rest = l.rest;
        open_is = ap (λ w. reverse w.list.items) (notes.waiting ∙ writes.waiting) ∙ l.open_is;
        outer = l.outer;
        front = l.front;
        p = l.p;
        own = l.own;
        made = λ r. l.made (tree.constant_argument c r);
        bytes = l.bytes ++ separator ++ own;
        from_is = l.from_is;
        prints = l.prints;
        begin = constant-begins brief l.made separator l.bytes c own l.begin wrote.shows;
        written = ap (λ t. t.list.items) notes.text ∙ writes.text
            ∙ ap (λ b. b ++ own) (awaits.written ∙ ap (λ b. b ++ separator) l.written
            ∙ append_assoc l.front (l.own ++ opening brief l.is_value ++ l.bytes) separator)
            ∙ joined l.front l.own (opening brief l.is_value) l.bytes separator own;
        goes = subst (λ k. ArgumentsGoOn s l.outer l.place l.p (λ r. l.made (tree.constant_argument c r)) end (with_ended k (a_constant c) st)) (sym place_is)
            (constant-goes-on s l.outer l.place l.p l.made old.at st c end l.goes stands (subst (λ k. IsConstantAt s k c end) place_is wrote.comes));
        stands = subst (λ k. Stands brief s l.rest l.outer l.front k)
            (sym (parked-noted two three place from forms.Unnamed notes ∙ parked-written old two own writes)) l.stands;
      };
    }

-- ## Arrays

pub array-begun : (brief : Bool) (s : List ℕ) (old middle new : Direct) (from end : ℕ) → Awaits brief s old true → StandsAt s old.at (65 ∷ [])
    → from ≡ length old.text.list.items → end ≡ old.at + 1 → Writes (record old { at = end }) middle (codes "[")
    → Pushes middle new (opens.Array old.at from) → IsWriting brief s new steps.Type
array-begun brief s old middle new from end awaits stands from_is end_is writes pushes =
    let st = awaits.state in
    let r = awaits.awaited in
    let goes = array-opens s r.os old.at st (type-expected brief s old awaits) stands in
    let entry = opens.Array old.at from in
    record {
      state = within goes.production st;
      keeps = keeps-pushed brief s middle new entry st pushes (keeps-written brief s (record old { at = end }) middle (codes "[") st writes awaits.keeps);
      is_before = record {
        wanted = type;
        is_for = refl;
        os = goes.inner;
        awaits = expects-moved s TYPE goes.inner (old.at + 1) new.at (within goes.production st) (sym (pushes.at ∙ writes.at ∙ end_is)) goes.awaits;
        stands = subst (λ ws. Stands brief s ws goes.inner new.text.list.items (parked_of new)) (sym (turned middle new entry pushes)) (
          r.os,
          old.text.list.items,
          from_is,
          ap (λ t. t.list.items) pushes.text ∙ writes.text,
          goes.onward,
          rw (parked-pushed middle new entry pushes)
              (stands-written brief s (record old { at = end }) middle (codes "[") r.os old.text.list.items writes r.stands),
        );
      };
    }

arrayed : (front mark bytes middle own closing : List ℕ)
    → front ++ mark ++ bytes ++ middle ++ own ++ closing ≡ front ++ (mark ++ bytes ++ middle ++ own ++ closing)
arrayed front mark bytes middle own closing =
    ap (λ l. l ++ closing) (ap (λ l. l ++ own) (ap (λ l. l ++ middle) (append_assoc front mark bytes) ∙ append_assoc front (mark ++ bytes) middle)
    ∙ append_assoc front (mark ++ bytes ++ middle) own) ∙ append_assoc front (mark ++ bytes ++ middle ++ own) closing

-- the size of an array is read
pub array-read : (brief : Bool) (s : List ℕ) (old one two three four : Direct) (place from here begins end : ℕ) (f : Forms) → Receives brief s old (opens.Array place from) here f
    → is_type f ≡ true → Writes old one (codes "; ") → begins ≡ length one.text.list.items → WritesConstant s one two old.at end
    → Notes two three old.at begins forms.Unnamed → Writes (record three { at = end }) four (codes "]")
    → IsEnded brief s four place from forms.Typed forms.Typed
array-read brief s old one two three four place from here begins end f arrives is first begins_is wrote notes last =
    let r = arrives.read in
    let st = arrives.state in
    let held = type-held brief f r.v r.bytes is r.holds in
    let t = held.0 in
    let c = wrote.c in
    let own = wrote.own in
    let waits = r.stands in
    let goes = waits.4 r.v t old.at st held.1 r.comes in
    let after = with_ended old.at (a_constant c) st in
    let made = tree.array t c in
    let bytes = codes "[" ++ r.bytes ++ codes "; " ++ own ++ codes "]" in
    let told : Holds brief forms.Typed (a_type made) bytes = (made, refl, array-prints brief t r.bytes c own held.2 wrote.shows) in
    record {
      before = after;
      keeps = keeps-written brief s (record three { at = end }) four (codes "]") after last
          (keeps-noted brief s two three old.at begins forms.Unnamed st (a_constant c) one.text.list.items own notes
          (keeps-written brief s one two own st wrote.writes (keeps-written brief s old one (codes "; ") st first arrives.keeps)) wrote.writes.text begins_is tt);
      os = waits.0;
      v = a_type made;
      front = waits.1;
      bytes = bytes;
      written = last.text ∙ ap (λ l. l ++ codes "]") (ap (λ t. t.list.items) notes.text ∙ wrote.writes.text ∙ ap (λ l. l ++ own) (first.text
          ∙ ap (λ l. l ++ codes "; ") (r.written ∙ ap (λ l. l ++ r.bytes) waits.3)))
          ∙ arrayed waits.1 (codes "[") r.bytes (codes "; ") own (codes "]");
      from_is = waits.2;
      says = told;
      holds = told;
      comes = subst (λ k. Ends s waits.0 place (a_type made) k after) (sym last.at)
          (goes.passes c end after (wrote.comes goes.inner (within goes.production st) goes.awaits));
      stands = stands-written brief s (record three { at = end }) four (codes "]") waits.0 waits.1 last
          (stands-noted brief s two three old.at begins forms.Unnamed waits.0 waits.1 notes
          (stands-written brief s one two own waits.0 waits.1 wrote.writes (stands-written brief s old one (codes "; ") waits.0 waits.1 first waits.5)));
    }

-- ## Truth values and unknown constants

pub false-written : (s : List ℕ) (old new : Direct) (at digit mark end : ℕ) → StandsAt s at (98 ∷ []) → StandsAt s digit (48 ∷ [])
    → StandsAt s mark (95 ∷ []) → digit ≡ at + 1 → mark ≡ digit + 1 → end ≡ mark + 1 → Writes old new (codes "false") → WritesConstant s old new at end
false-written s old new at digit mark end letter truth ends digit_is mark_is end_is writes =
    let behind = mark_is ∙ ap (λ k. k + 1) digit_is in
    record {
      c = tree.boolean false;
      own = codes "false";
      shows = false-prints;
      writes = writes;
      comes = subst (λ k. IsConstantAt s at (tree.boolean false) k) (sym (end_is ∙ ap (λ k. k + 1) behind))
          (false-comes s at letter (subst (λ k. StandsAt s k (48 ∷ [])) digit_is truth) (subst (λ k. StandsAt s k (95 ∷ [])) behind ends));
    }

pub true-written : (s : List ℕ) (old new : Direct) (at digit mark end : ℕ) → StandsAt s at (98 ∷ []) → StandsAt s digit (49 ∷ [])
    → StandsAt s mark (95 ∷ []) → digit ≡ at + 1 → mark ≡ digit + 1 → end ≡ mark + 1 → Writes old new (codes "true") → WritesConstant s old new at end
true-written s old new at digit mark end letter truth ends digit_is mark_is end_is writes =
    let behind = mark_is ∙ ap (λ k. k + 1) digit_is in
    record {
      c = tree.boolean true;
      own = codes "true";
      shows = true-prints;
      writes = writes;
      comes = subst (λ k. IsConstantAt s at (tree.boolean true) k) (sym (end_is ∙ ap (λ k. k + 1) behind))
          (true-comes s at letter (subst (λ k. StandsAt s k (49 ∷ [])) digit_is truth) (subst (λ k. StandsAt s k (95 ∷ [])) behind ends));
    }

pub placeholder-written : (s : List ℕ) (old new : Direct) (at end : ℕ) → StandsAt s at (112 ∷ []) → end ≡ at + 1 → Writes old new (codes "_")
    → WritesConstant s old new at end
placeholder-written s old new at end letter end_is writes = record {
  c = tree.placeholder;
  own = codes "_";
  shows = placeholder-prints;
  writes = writes;
  comes = subst (λ k. IsConstantAt s at tree.placeholder k) (sym end_is) (placeholder-comes s at letter);
}
