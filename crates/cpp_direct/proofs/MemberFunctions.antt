-- Functions that are members of local entities: from the entity to the end of the symbol.
use Rattle.cpp_direct.proofs.AllGround.{◌≡◌, ◌≢◌, refl, ap, sym, ◌∙◌, subst, ℕ, ◌+◌, List, [], ◌∷◌, ◌++◌, false, true, arith, codes, append-nil, append_assoc, false≢true, discriminator_of, after, arguments_of, has_return_type, Kind, local, look_up, may_be_empty, nothing_there, opening_text, operator, operator_texts, same_bytes, source, source_text, Term, tree, types_of, within, added, AreLeft, AwaitsEntity, AwaitsFirst, AwaitsMemberFunction, AwaitsMemberParameters, called_on, detail_of, Direct, Encloses, Encoded, has_const, IsElementRead, IsMarkPlace, IsMemberParameterRead, IsMemberRead, ItemsOf, Lists, Mark, MarkPlace, nowhere, PrintsPiece, Prints, qualifiers, Reads, Shows, Symbol, Writes, IsSymbolEnded, Expects, IsComponentAt, IsNameAt, IsPieceAt, Named, StandsAt, mark_letters, member_in, unnumbered, with_candidate, Hiding, Open, kept-closed, kept-read, kept-same, kept-with, operator-listed, expects-empty, stands-join, component-awaits, component-operator, component-outside, component-source, nest-end, reads-of, reads-then, element-in, never-explicit, has-member, name-unmarked}
use Rattle.cpp_direct.proofs.AllRead.{nowhere-scoped, enclosed-prints, member-prints, piece-prints, operator-piece, source-opening, source-piece}
use Rattle.cpp_direct.proofs.FunctionsWithin.{items-scoped, led-read, plain-awaits}

-- ## The entity

-- expects the entity after the qualifiers
pub member-begins : (s : Symbol) (old shut : Direct) (first : ℕ) (place : MarkPlace) → AwaitsEntity s old false → StandsAt s.bytes old.at (78 ∷ [])
    → StandsAt s.bytes 2 (90 ∷ []) → first ≡ old.at + 1 → IsMarkPlace s.bytes first place
    → shut.text ≡ old.text → AreLeft Hiding.Dependent old.candidates.list.items shut.candidates.list.items
    → AwaitsFirst s (record shut { at = place.end }) place.mark
member-begins s old shut first place p letter two next is text are =
    let e = p.ended in
    let letters = mark_letters (has_const place.mark) (called_on place.mark) in
    let m = e.behind.member p.is_entity two in
    let here : old.at ≡ p.before + 1 = omega (arith, p.at_is) in
    let f = m.opens (has_const place.mark) (called_on place.mark) (never-explicit place.mark) p.first
    (stands-join s.bytes (p.before + 1) (78 ∷ []) letters (subst (λ k. StandsAt s.bytes k (78 ∷ [])) here letter)
    (subst (λ k. StandsAt s.bytes k letters) (omega (arith, next, here)) is.stands)) in
    let whole : shut.text.list.items ≡ e.bytes =
    ap (λ v. v.list.items) text ∙ sym (append-nil old.text.list.items) ∙ e.written ∙ ap (λ l. l ++ e.bytes) m.none in
    record {
      kept = kept-closed s (record old { at = p.before }) (record shut { at = place.end }) e.kept are text (rw p.is_entity refl);
      e = m.made;
      encloses = subst (λ l. Encloses (detail_of s) m.made l) (sym whole) (m.encloses e.bytes e.encloses);
      first = record {
        around = f.around;
        inner = f.inner;
        awaits = subst (λ st. Expects s Kind.Nest (after m.made true f.around) f.inner place.end st) (e.same p.is_entity)
            (subst (λ k. Expects s Kind.Nest (after m.made true f.around) f.inner k e.now) (omega (arith, next, here, is.ends)) f.awaits);
        onward = f.onward;
      };
    }

-- a name or a lambda without parameters was read as the entity
pub entity-read : (s : Symbol) (old pushed new : Direct) (mark : Mark) → AwaitsFirst s old mark → Writes old pushed (codes "::")
    → (p : Term) (n : List ℕ) → IsPieceAt s pushed.at p new.at → PrintsPiece (detail_of s) p n → Reads pushed new n → AwaitsMemberFunction s new mark
entity-read s old pushed new mark a one p n is prints two =
    let whole = reads-then old pushed new (codes "::") n (reads-of old pushed (codes "::") one) two in
    let f = a.first in
    record {
      kept = kept-read s old new (codes "::" ++ n) whole a.kept;
      e = a.e;
      own = within a.e p;
      prints = subst (λ l. Prints (detail_of s) (within a.e p) l false) (sym (whole.text ∙ sym (append_assoc old.text.list.items (codes "::") n)))
          (enclosed-prints a.e old.text.list.items a.encloses p n prints);
      goes = record {
        outer = f.inner;
        around = f.around;
        goes = (subst (λ k. IsPieceAt s k p new.at) one.at is).as_first f.inner f.around a.e a.state f.awaits;
        ends = f.onward;
      };
    }

-- ## Its member function

-- a source name is the name of a member function
pub source-component : (s : Symbol) (old new : Direct) (name : List ℕ) → IsNameAt s.bytes old.at name new.at → name ≢ [] → Reads old new (source_text name)
    → (p : Term) × (n : List ℕ) × IsComponentAt s old.at p new.at × PrintsPiece (detail_of s) p n × Reads old new n
source-component s old new name is filled reads = (
  source false name,
  source_text name,
  (λ os around t listed st expects. component-source s os around t listed old.at st name new.at expects is),
  piece-prints (source false name) (source_text name) (source-piece false name filled (name-unmarked s.bytes old.at name new.at is)) (source-opening false name),
  reads,
)

-- the operator of a call is the name of a member function
pub call-component : (s : Symbol) (old new : Direct) → StandsAt s.bytes old.at (99 ∷ 108 ∷ []) → new.at ≡ old.at + 2 → Reads old new (codes "operator()")
    → (p : Term) × (n : List ℕ) × IsComponentAt s old.at p new.at × PrintsPiece (detail_of s) p n × Reads old new n
unfolding look_up operator_texts same_bytes opening_text
call-component s old new stands at reads = (
  operator 99 108,
  codes "operator()",
  (λ os around t listed st expects. subst (λ n. Named s os around (within t (operator 99 108)) n st) (sym at)
      (component-operator s os around t listed old.at st 99 108 (operator-listed 99 108 (λ e. cc e)) expects stands)),
  piece-prints (operator 99 108) (codes "operator()") (operator-piece 99 108) refl,
  reads,
)

-- expects the parameters once the name of a member function is read
pub function-named : (s : Symbol) (old kept_ pushed read : Direct) (end : ℕ) (mark : Mark) (a : AwaitsMemberFunction s old mark) → Lists old kept_ (added old 0 false false)
    → Writes kept_ pushed (codes "::") → (p : Term) (n : List ℕ) → IsComponentAt s pushed.at p read.at → PrintsPiece (detail_of s) p n → Reads pushed read n
    → StandsAt s.bytes read.at (69 ∷ []) → end ≡ read.at + 1 → AwaitsMemberParameters s (record read { at = end }) mark
unfolding has_return_type arguments_of may_be_empty
function-named s old kept_ pushed read end mark a lists one p n is prints two ends next =
    let g = a.goes in
    let b = old.text.list.items in
    let st = with_candidate g.around a.own a.state in
    let c = component-outside s g.goes.inner g.outer g.around a.own old.at st g.goes.passes
    (component-awaits s Kind.NestRestAlone g.goes.inner g.around a.own false old.at a.state tt g.goes.awaits) in
    let there : pushed.at ≡ old.at = one.at ∙ lists.at in
    let named_ = is c.inner g.around a.own c.listed st (subst (λ k. Expects s Kind.Component (after a.own c.listed g.around) c.inner k st) (sym there) c.awaits) in
    let name = within a.own p in
    let tail = c.onward name read.at st (named_.bare read.at st
    (expects-empty s Kind.MaybeArguments (after name false g.around) named_.inner read.at st named_.awaits refl)) in
    let comes = tail.passes (tree name false) (read.at + 1) st (nest-end s tail.inner g.around name false read.at st tail.awaits ends) in
    let items = subst (λ k. ItemsOf s 2 (λ f to last. Encoded s f to) (member_in a.e name (qualifiers (has_const mark)) (called_on mark)) k st) (sym next)
    (g.ends name false (read.at + 1) st comes) in
    let whole = reads-then kept_ pushed read (codes "::") n (reads-of kept_ pushed (codes "::") one) two in
    let own = local a.e name (discriminator_of nothing_there) in
    let text : read.text.list.items ≡ b ++ codes "::" ++ n =
    whole.text ∙ ap (λ v. v.list.items ++ (codes "::" ++ n)) lists.text ∙ sym (append_assoc b (codes "::") n) in
    let kept = kept-same s read (record read { at = end }) refl refl refl (kept-read s kept_ read (codes "::" ++ n) whole
    (kept-with s old kept_ a.kept [] b 0 a.own g.around false false refl refl a.prints (λ e. absurd (false≢true e)) lists.text lists.candidates lists.scope)) in
    plain-awaits (record read { at = end }) kept
    (has-member s read.text.list.items mark 0 own [] (b ++ codes "::" ++ n) text refl (member-prints a.e a.own b a.prints p n prints unnumbered))
    refl (refl, refl) (items-scoped nowhere (member_in a.e name (qualifiers (has_const mark)) (called_on mark)) end st items (nowhere-scoped items.around))

-- ## Its parameters, and its end

-- a parameter of a member function is read
pub member-parameter-read : (s : Symbol) (w : Direct) (mark : Mark) (to : ℕ) → IsElementRead s w (Open.Member mark to) → IsMemberParameterRead s w mark to
member-parameter-read s w mark to p =
    let read = p.read in
    led-read w read.os read.kept read.own read.front read.bytes p.open_is read.written read.comes read.stands
    (element-in (types_of read.stands.2.own) 6 read.own read.bytes (read.element 6))

-- the function ends the symbol
pub member-ends : (s : Symbol) (w : Direct) → IsMemberRead s w Mark.Plain → IsSymbolEnded s w
member-ends s w p = record {
  kept = p.kept;
  e = p.e;
  encoded = p.within;
  shows = subst (λ l. Shows (detail_of s) p.e l) (sym (sym (append-nil w.text.list.items) ∙ p.written ∙ ap (λ l. l ++ p.bytes) p.leads.0)) (p.shows p.leads.1);
}
