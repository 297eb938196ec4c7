-- Numbers that are found, and where numbers break off, as tokens.
use Rattle.sym_core.proofs.Basics.{◌≡◌, ℕ, ◌+◌, ◌-◌, List, [], length, drop, refl, sym, ◌∙◌, arith, length-append, NumberKind, Span, ending_of, IsNumber, IsNumberSpan, IsNumberBreak, Token, bytes_of, IsNumberToken, HasToken, HasNoToken}
use Rattle.sym_core.proofs.TokenFacts.{number_bytes}
use Rattle.sym_core.proofs.Fronts.{reads_number, breaks_number}

-- the bytes of a number token spell a number
spells : (kind : NumberKind) (t : Token) → IsNumberToken kind t → (bytes : List ℕ) → bytes_of t ≡ bytes → IsNumber kind bytes
spells kind t h bytes e = (t.own, h.digits, sym e ∙ number_bytes kind t h)

pub number_read : (kind : NumberKind) (s : List ℕ) (at : ℕ) (span : Span) (end : ℕ) → IsNumberSpan kind s at span → end ≡ span.to + length (ending_of kind) → HasToken (IsNumberToken kind) (drop at s) at (record { from = span.from; to = span.to; end = end })
number_read kind s at span end h last =
    let r = reads_number kind (drop at s) (span.to - at) h.2 in
    record {
      token = record { before = []; own = r.digits; behind = ending_of kind };
      rest = r.rest;
      is = record { bare = refl; digits = r.are; ends = refl };
      split = r.split;
      from = omega (arith, h.0);
      to = omega (arith, r.size_is, h.1);
      end = omega (arith, last, r.size_is, h.1, length-append r.digits (ending_of kind));
      longest = λ other behind is e. r.longest (bytes_of other) behind (spells kind other is (bytes_of other) refl) e;
    }

pub number_breaks : (kind : NumberKind) (s : List ℕ) (at bad : ℕ) → IsNumberBreak kind s at bad → HasNoToken (IsNumberToken kind) (drop at s) (bad - at)
number_breaks kind s at bad h =
    let k = breaks_number kind (drop at s) (bad - at) h.1 in
    record {
      front = k.front;
      rest = k.rest;
      split = k.split;
      size_is = k.size_is;
      begun = record { before = []; own = k.begins.1.0; behind = ending_of kind };
      more = k.begins.0;
      begins = record { bare = refl; digits = k.begins.1.1; ends = refl };
      begins_so = sym k.begins.1.2;
      next = λ b r token behind e is f. k.next b r behind e (spells kind token is _ f);
      none = λ token behind is e. k.none (bytes_of token) behind (spells kind token is _ refl) e;
    }
