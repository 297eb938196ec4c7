-- A writer in an argument that is a member of an instance of a template.
use Rattle.cpp_direct.proofs.AllGround.{◌≡◌, ◌≢◌, ℕ, ◌+◌, List, [], ◌∷◌, ◌++◌, reverse, Bool, true, false, refl, ap, sym, ◌∙◌, subst, codes, append_assoc, arith, false≢true, inside, instance, source_text, tree, AwaitsMember, AwaitsNextArgument, closing_bracket, detail_of, Direct, element_kind, IsScoped, IsWriting, list_with, opening_bracket, OpensArguments, Reads, Stands, Symbol, Writes, Comes, IsNameAt, StandsAt, member_of, template_named, Open, Step, kept-grown, kept-read, list-begins, value-comes, stands-moved, level-opens, listed-awaits, source-prints, prints-as, scoped-inside, name-unmarked}
use Rattle.cpp_direct.proofs.AllRead.{IsClosed, element-kind, element-scoped, element-stands, instance-as}
use Rattle.cpp_direct.proofs.PrintedLevels.{member-as}

-- a member begins: the name of the template is read, and its arguments are expected
pub level-begins : (s : Symbol) (old named new : Direct) (first second at : ℕ) → AwaitsNextArgument s old → s.is_wide ≡ true → StandsAt s.bytes old.at (88 ∷ [])
    → first ≡ old.at + 1 → StandsAt s.bytes first (115 ∷ []) → second ≡ first + 1 → StandsAt s.bytes second (114 ∷ []) → at ≡ second + 1
    → (name : List ℕ) × IsNameAt s.bytes at name named.at × (name ≢ []) × Reads (record old { at = at }) named (source_text name)
    → StandsAt s.bytes named.at (73 ∷ []) → OpensArguments (detail_of s) named new (Open.LevelArguments false) → IsWriting s new (Step.List true)
unfolding inside
level-begins s old named new first second at a wide letter first_is first_letter second_is second_letter at_is read opening begins =
    let front = old.text.list.items in
    let name = read.0 in
    let bytes = source_text name in
    let reads : Reads old named bytes = record {
      text = read.3.text;
      candidates = read.3.candidates;
      waiting = read.3.waiting;
      nest = read.3.nest;
      scope = read.3.scope;
    } in
    let waiting : reverse named.waiting.list.items ≡ reverse old.waiting.list.items = ap (λ v. reverse v.list.items) reads.waiting in
    let behind : second ≡ old.at + 1 + 1 = omega (arith, first_is, second_is) in
    let here : at ≡ old.at + 1 + 1 + 1 = omega (arith, first_is, second_is, at_is) in
    let element = listed-awaits s (element_kind a.place.listing) a.goes.1 a.goes.0 old.at a.state (element-kind a.place.listing) a.goes.4 in
    let o = level-opens s element.inner a.goes.0 old.at a.state name named.at wide a.goes.2 element.awaits letter
    (stands-moved s.bytes first (old.at + 1) (115 ∷ []) first_is first_letter)
    (stands-moved s.bytes second (old.at + 1 + 1) (114 ∷ []) behind second_letter) (subst (λ n. IsNameAt s.bytes n name named.at) here read.1) opening in
    list-begins s named named new named.candidates.list.items (kept-read s old named bytes reads a.kept) (Open.LevelArguments false) front bytes
    (template_named name) (record { candidates = refl; text = refl; waiting = refl; nest = refl; scope = refl; at = refl }) begins
    (source-prints false name read.2 (name-unmarked s.bytes at name named.at read.1)) reads.text (
      inside a.goes.0,
      o.inner,
      refl,
      (λ within. subst (λ ws. IsScoped a.scope (inside a.goes.0) ws) (sym waiting)
          (scoped-inside a.scope a.goes.0 (reverse old.waiting.list.items) (element-scoped s old a))),
      o.awaits,
      λ l there now comes ended. (
        element.inner,
        o.onward l there now comes ended,
        (λ e. absurd (false≢true e)),
        subst (λ ws. Stands s a.scope ws element.inner front) (sym waiting) (element-stands s old a element.inner element.onward),
      ),
    )

-- the arguments of the template are read
pub level-closed : (s : Symbol) (w : Direct) (is_dependent : Bool) → IsClosed s w (Open.LevelArguments is_dependent) → AwaitsMember s w is_dependent
level-closed s w is_dependent p = record {
  kept = p.kept;
  outer = p.owns.0;
  own = instance p.template (list_with p.ts p.tail);
  front = p.front;
  bytes = p.name ++ opening_bracket (detail_of s) ++ p.arguments ++ closing_bracket (detail_of s);
  written = p.written;
  prints = instance-as (detail_of s) p.scope.names is_dependent p.template p.name
      (prints-as (detail_of s) p.scope.names is_dependent p.template p.name false p.is_template) p.ts p.tail p.arguments p.is_tail p.elements;
  naming = p.owns.2;
  follows = p.owns.1;
  stands = p.owns.3;
}

-- the name of the member is read
pub member-read : (s : Symbol) (old mid named : Direct) (is_dependent : Bool) (at end : ℕ) → AwaitsMember s old is_dependent → StandsAt s.bytes old.at (69 ∷ [])
    → at ≡ old.at + 1 → Writes (record old { at = at }) mid (codes "::")
    → (name : List ℕ) × IsNameAt s.bytes mid.at name named.at × (name ≢ []) × Reads mid named (source_text name) → StandsAt s.bytes named.at (69 ∷ [])
    → end ≡ named.at + 1 → IsWriting s (record named { at = end }) (Step.Value false is_dependent)
member-read s old mid named is_dependent at end a begins at_is writes read ends end_is =
    let name = read.0 in
    let reads = read.3 in
    let bytes = source_text name in
    let t = member_of a.own name in
    let new : Direct = record named { at = end } in
    let is : IsNameAt s.bytes (old.at + 1) name named.at = subst (λ n. IsNameAt s.bytes n name named.at) (writes.at ∙ at_is) read.1 in
    let text : named.text.list.items ≡ old.text.list.items ++ codes "::" ++ bytes = reads.text ∙ ap (λ l. l ++ bytes) writes.text in
    value-comes s new (kept-grown s old new (codes "::" ++ bytes) (text ∙ append_assoc old.text.list.items (codes "::") bytes) (reads.candidates ∙ writes.candidates)
    (reads.scope ∙ writes.scope) a.kept) a.outer t a.front (a.bytes ++ codes "::" ++ bytes) false is_dependent
    (text ∙ ap (λ l. l ++ codes "::" ++ bytes) a.written ∙ ap (λ l. l ++ bytes) (append_assoc a.front a.bytes (codes "::"))
    ∙ append_assoc a.front (a.bytes ++ codes "::") bytes)
    (member-as (detail_of s) a.scope.names is_dependent a.own a.bytes a.prints name read.2 (name-unmarked s.bytes (old.at + 1) name named.at is))
    (ap (λ v. reverse v.list.items) (reads.waiting ∙ writes.waiting)) a.naming
    (subst (λ n. Comes s a.outer (tree t true) n a.state) (sym end_is) (a.follows name named.at begins is ends)) a.stands
