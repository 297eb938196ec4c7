-- Closures and shims that were read and written.
use Rattle.rust_direct.proofs.Basics.{◌<◌, ◌≤◌, ◌^◌, inl, inr, arith, ◌≡◌, ℕ, List, ◌++◌, true, false, ap, subst, ◌∙◌, append_assoc, codes, nat_le, Bool, decimal, false≢true, namespace_text, Production, a_path, Forms, Direct, Comes, within, behind, IsNameAt, IsDisambiguatorAt, identifier, PathHas, is_path, Writes, behind_colon, special_text, Receives, IsEnded, IsUnmarked}
use Rattle.rust_tree.specs.Symbol as tree
use Rattle.rust_direct.specs.declared.open.Forms.TheVariants as forms
use Rattle.rust_direct.specs.declared.open.Open.TheVariants as opens
use Rattle.rust_direct.proofs.Kept.{keeps-written}
use Rattle.rust_direct.proofs.Moves.{identifier-comes}
use Rattle.rust_direct.proofs.PathsRead.{path-held, path-says, stands-written}
use Rattle.rust_direct.proofs.WrittenTexts.{name-unmarked, namespace-unmarked, special-unmarked}
use Rattle.rust_direct.proofs.PrintedSpecials.{special-prints}

-- ## Texts one after another

pub writes-both : (old middle new : Direct) (a b : List ℕ) → Writes old middle a → Writes middle new b → Writes old new (a ++ b)
writes-both old middle new a b first second = record {
  text = second.text ∙ ap (λ l. l ++ b) first.text ∙ append_assoc old.text.list.items a b;
  room = second.room ∙ first.room;
  aside = second.aside ∙ first.aside;
  is_aside = second.is_aside ∙ first.is_aside;
  notes = second.notes ∙ first.notes;
  numbers = second.numbers ∙ first.numbers;
  waiting = second.waiting ∙ first.waiting;
  at = second.at ∙ first.at;
}

-- the whole text after the parent
pub special-written : (a b c d e f g : Direct) (namespace name : List ℕ) (count : ℕ) → Writes a b (codes "::{") → Writes b c namespace
    → Writes c d (behind_colon name) → Writes d e (codes "#") → Writes e f (decimal count) → Writes f g (codes "}") → Writes a g (special_text namespace name count)
special-written a b c d e f g namespace name count one two three four five six =
    writes-both a f g (codes "::{" ++ namespace ++ behind_colon name ++ codes "#" ++ decimal count) (codes "}")
    (writes-both a e f (codes "::{" ++ namespace ++ behind_colon name ++ codes "#") (decimal count)
    (writes-both a d e (codes "::{" ++ namespace ++ behind_colon name) (codes "#")
    (writes-both a c d (codes "::{" ++ namespace) (behind_colon name) (writes-both a b c (codes "::{") namespace one two) three) four) five) six

-- ## Closures and shims

few-count : (s : List ℕ) (at count end : ℕ) → IsDisambiguatorAt s at count end → count < 2 ^ 64
few-count s at count end (inl none) = omega (arith, none.0)
few-count s at count end (inr some) = omega (arith, some.4)

special-has : (brief : Bool) (f : Forms) (letter : ℕ) (p : tree.Path) (bytes : List ℕ) (count : ℕ) (name : List ℕ) → is_path f ≡ true → nat_le 97 letter ≡ false
    → IsUnmarked (special_text (namespace_text letter) name count) → PathHas brief f p bytes → PathHas brief f (tree.nested letter p (identifier count name)) (bytes ++ special_text (namespace_text letter) name count)
special-has brief forms.Alike letter p bytes count name is upper plain h =
    (special-prints brief true letter p bytes count name upper plain h.0, special-prints brief false letter p bytes count name upper plain h.1)
special-has brief forms.Valued letter p bytes count name is upper plain h = special-prints brief true letter p bytes count name upper plain h
special-has brief forms.Plain letter p bytes count name is upper plain h = special-prints brief false letter p bytes count name upper plain h
special-has brief forms.Typed letter p bytes count name is upper plain h = absurd (false≢true is)
special-has brief forms.Unnamed letter p bytes count name is upper plain h = absurd (false≢true is)

-- the name and the number of a closure or a shim are read
pub special-read : (brief : Bool) (s : List ℕ) (old middle : Direct) (letter place from : ℕ) (f : Forms) (count behind_ : ℕ) (name namespace : List ℕ) (end : ℕ)
    → Receives brief s old (opens.Nest letter place) from f → is_path f ≡ true → nat_le 97 letter ≡ false → 65 ≤ letter → IsDisambiguatorAt s old.at count behind_
    → IsNameAt s behind_ name end → namespace ≡ namespace_text letter → Writes old middle (special_text namespace name count)
    → IsEnded brief s (record middle { at = end }) place from f f
special-read brief s old middle letter place from f count behind_ name namespace end arrives is upper above counted named named_so wrote =
    let r = arrives.read in
    let held = path-held brief f r.v r.bytes is r.holds in
    let p = held.0 in
    let made = tree.nested letter p (identifier count name) in
    let waits = r.stands in
    let own = special_text (namespace_text letter) name count in
    let writes : Writes old middle own = subst (λ l. Writes old middle (special_text l name count)) named_so wrote in
    let goes = waits.1 p old.at arrives.state (subst (λ v. Comes s r.os v old.at arrives.state) held.1 r.comes) in
    let one = identifier-comes s goes.inner old.at (within Production.Nested arrives.state) count behind_ name end counted named goes.awaits in
    let plain = special-unmarked (namespace_text letter) name count (namespace-unmarked letter above) (name-unmarked s behind_ name end named)
    (few-count s old.at count behind_ counted) in
    let told = path-says brief f made (r.bytes ++ own) is (special-has brief f letter p r.bytes count name is upper plain held.2) in
    record {
      before = arrives.state;
      keeps = keeps-written brief s old middle own arrives.state writes arrives.keeps;
      os = waits.0;
      v = a_path made;
      front = r.front;
      bytes = r.bytes ++ own;
      written = writes.text ∙ ap (λ l. l ++ own) r.written ∙ append_assoc r.front r.bytes own;
      from_is = r.from_is;
      says = told.0;
      holds = told.1;
      comes = goes.onward one.0 (identifier count name) end (behind (within Production.Nested arrives.state)) one.1 one.2;
      stands = stands-written brief s old middle own waits.0 r.front writes waits.2;
    }
