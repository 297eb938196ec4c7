-- Construction tables: their derived classes and their base classes are read.
use Rattle.cpp_direct.proofs.AllGround.{◌≡◌, refl, ap, sym, ◌∙◌, subst, ℕ, ◌+◌, ◌-◌, List, [], ◌∷◌, ◌++◌, length, take, drop, ◌≤◌, reverse, inl, arith, codes, append-nil, append_assoc, take-append_seam, construction, in_name, Kind, normal, Cuts, detail_of, Direct, Encoded, IsElementRead, IsSymbolEnded, IsWriting, Reads, Shows, Symbol, Writes, Expects, IsDigitsAt, StandsAt, Open, Step, kept-read, kept-same, kept-written, reverse-last, type-comes, table-shows, none-scoped}
use Rattle.cpp_direct.proofs.AllRead.{cut-kept, cut-text, popped}
use Rattle.cpp_direct.proofs.FunctionsWithin.{name-inside}

-- the base class is expected after the derived class and its offset
pub base-expected : (s : Symbol) (w read shut told new : Direct) (to : ℕ) (p : IsElementRead s w Open.Derived) (digits : List ℕ) (end : ℕ)
    → IsDigitsAt s.bytes w.at digits end → StandsAt s.bytes end (95 ∷ []) → read.at ≡ end + 1 → Reads w read [] → to ≡ length w.text.list.items
    → shut.text ≡ read.text → shut.candidates ≡ read.candidates → shut.has_scope ≡ read.has_scope → shut.at ≡ read.at
    → shut.waiting.list.items ≡ take (length read.waiting.list.items - 1) read.waiting.list.items → Writes shut told (codes "construction vtable for ")
    → new.text ≡ told.text → new.candidates ≡ told.candidates → new.has_scope ≡ told.has_scope → new.at ≡ told.at
    → new.waiting.list.items ≡ told.waiting.list.items ++ Open.Base to ∷ [] → IsWriting s new Step.Type
unfolding in_name
base-expected s w read shut told new to p digits end is line at reads to_is same_text same_candidates same_scope same_at waits one text candidates scope_same at_same waiting =
    let e = p.read in
    let k : List ℕ = codes "construction vtable for " in
    let base = e.stands.1 e.own w.at e.state e.comes digits end is line in
    let whole : w.text.list.items ≡ e.bytes = e.written ∙ ap (λ l. l ++ e.bytes) e.stands.0 in
    let grown : told.text.list.items ≡ e.bytes ++ k =
    one.text ∙ ap (λ l. l ++ k) (ap (λ v. v.list.items) same_text ∙ reads.text ∙ append-nil w.text.list.items ∙ whole) in
    let kept = kept-written s shut told k one (kept-same s read shut same_text same_candidates same_scope (kept-read s w read [] reads e.kept)) in
    let left_over : reverse told.waiting.list.items ≡ p.rest =
    ap (λ v. reverse v.list.items) one.waiting
    ∙ popped read.waiting.list.items shut.waiting.list.items p.rest Open.Derived (length read.waiting.list.items) refl
    (ap (λ v. reverse v.list.items) reads.waiting ∙ p.open_is) waits in
    let here : new.at ≡ end + 1 = at_same ∙ one.at ∙ same_at ∙ at in
    type-comes s told new kept (in_name 2) base.inner text candidates scope_same
    (ap reverse waiting ∙ reverse-last told.waiting.list.items (Open.Base to) ∙ ap (λ ws. Open.Base to ∷ ws) left_over) refl
    (inl (subst (λ n. Expects s Kind.Type (in_name 2) base.inner n e.state) (sym here) base.awaits))
    (record { derived = e.own; bytes = e.bytes; prints = e.element 0; to_is = to_is ∙ ap length whole; written = grown }, normal digits, base.onward)
    (none-scoped e.scope (in_name 2) (Open.Base to ∷ p.rest) refl)

-- the text of a base class follows that of the derived class
pub base-written : (s : Symbol) (w : Direct) (to : ℕ) (p : IsElementRead s w (Open.Base to)) → w.text.list.items ≡ p.read.stands.0.bytes ++ codes "construction vtable for " ++ p.read.bytes
base-written s w to p = p.read.written ∙ ap (λ l. l ++ p.read.bytes) p.read.stands.0.written

-- the derived class is written after the base class, and no longer before it
pub table-ended : (s : Symbol) (w pushed again new : Direct) (to : ℕ) → IsElementRead s w (Open.Base to) → Writes w pushed (codes "-in-")
    → Writes pushed again (take (to - 0) (drop 0 pushed.text.list.items)) → Cuts s.bytes again new to → IsSymbolEnded s new
table-ended s w pushed again new to p one two cuts =
    let e = p.read in
    let h = e.stands.0 in
    let k : List ℕ = codes "construction vtable for " in
    let shown = k ++ e.bytes ++ codes "-in-" in
    let front : pushed.text.list.items ≡ h.bytes ++ shown = one.text ∙ ap (λ l. l ++ codes "-in-") (base-written s w to p) ∙ simp append_assoc in
    let derived : take (to - 0) (drop 0 pushed.text.list.items) ≡ h.bytes =
    ap (λ n. take n pushed.text.list.items) (omega (arith, h.to_is)) ∙ ap (λ l. take (length h.bytes) l) front ∙ take-append_seam h.bytes shown in
    let text : new.text.list.items ≡ shown ++ h.bytes =
    cut-text again new to h.bytes (shown ++ h.bytes) cuts h.to_is
    (two.text ∙ ap (λ l. pushed.text.list.items ++ l) derived ∙ ap (λ l. l ++ h.bytes) front ∙ append_assoc h.bytes shown h.bytes) in
    let made = construction h.derived e.stands.1 e.own in
    record {
      kept = (cut-kept s again new to cuts (kept-written s pushed again (take (to - 0) (drop 0 pushed.text.list.items)) two (kept-written s w pushed (codes "-in-") one e.kept))).0;
      e = made;
      encoded = subst (λ n. Encoded s made n) (sym (cuts.at ∙ two.at ∙ one.at)) (e.stands.2 e.own w.at e.state e.comes);
      shows = subst (λ l. Shows (detail_of s) made l) (sym text) (table-shows h.derived e.own e.stands.1 e.bytes h.bytes (e.element 0) h.prints);
    }

-- the derived class is within what is written
pub derived-inside : (s : Symbol) (w pushed : Direct) (to : ℕ) → IsElementRead s w (Open.Base to) → Writes w pushed (codes "-in-") → to ≤ length pushed.text.list.items
derived-inside s w pushed to p one =
    let h = p.read.stands.0 in
    name-inside pushed.text.list.items [] h.bytes (codes "construction vtable for " ++ p.read.bytes ++ codes "-in-") to
    (one.text ∙ ap (λ l. l ++ codes "-in-") (base-written s w to p) ∙ simp append_assoc) h.to_is
