-- In a run without arguments, the parts of a production that are encodings have no free parameters, and neither has the subject
-- of a special name.
use Rattle.cpp_term.proofs.Basics.{◌≡◌, refl, ap, sym, ◌∙◌, subst, ℕ, zero, suc, ◌+◌, ◌<◌, ◌≤◌, List, [], ◌∷◌, ◌++◌, length, Bool, true, false, not, ◌||◌, ◌&&◌, nat_eq, inl, inr, Result, Ok, lit≤, arith, true≢false, false≢true, eqb-true, append-nil, append_assoc, Refusal, Rule, Sym, Kind as OfKind, symbols_of, AreSymbols, Tree, Forest, branch, empty, nothing, grown, spell, TakesRule, IsTree, AreTrees, Found, Open, Next, ◌>>=◌, Production, Operation, ENCODING, SPECIAL, SPECIAL_MARK, SPECIAL_AFTER_G, number_of_kind, parts_of, wide, rule_of, wide_sound, is_open, State, Around, Value, nothing_there, tree_of, part, in_name, no_items, between, meaning, close, production_at, byte_of, is_unseen, name_if, chosen_rule, taken_passes, implied, AllGood, GoodPrefix, good_tree, good_part, Bare, Within, AllOld, old_later, old_grows, ok_same, behind_bind, StaysInside, is_declaration, is_first, declares, parts_apart, is_nothing, read_of, read_none, has_signature, Way, reading_by, abi_way, differs, is_encoding, has_encoding, opens, or_true, at_number, its_symbols, stays, takes_byte, Whole, old_fits, grows_fits, old_inner, known, name_comes, same_found, stepped, inner_closes, KeepsClosed, forest_good, tree_good_by, trees_good_by, left_apart, rule_apart, one_read}
use Rattle.sym_link.specs.Unfold.{found, alone, unfold_tree, unfold_forest}
use Rattle.cpp_grammar.specs.Unfolding as unfolding_
use Rattle.cpp_grammar.proofs.NoneFree.{none_encoding}
use Rattle.cpp_term.proofs.KindsNoted.{is_special_kind, in_special, encodings_open, special_types}
use Rattle.cpp_term.proofs.MeaningNoted.{Inside, Shut}
use Rattle.cpp_term.proofs.Passing.{IsSeen, is_literal, Sees}

pub one_production : (p q : Production) (rule : Rule) → rule ≡ rule_of p → rule ≡ rule_of q → q ≡ p
one_production p q rule is so = sym (at_number q) ∙ ap (λ x. production_at x.number) (sym so ∙ is) ∙ at_number p

special_kind : (p : Production) (k : ℕ) (rule : Rule) (taken : List ℕ) → rule ≡ rule_of p → k < wide.kinds → TakesRule wide k rule taken → in_special p ≡ true → is_special_kind k ≡ true
special_kind p k rule taken is lt takes h =
    let c = chosen_rule k rule taken lt takes in
    implied (in_special c.production) (is_special_kind k) (taken_passes (λ n q. not (in_special q) || is_special_kind n) special_types k rule c)
    (ap in_special (one_production p c.production rule is c.is) ∙ h)

-- ## Encodings

-- the inputs of a part in which nothing is named
nameless_ : (at : ℕ) → List Value → State → Next Value State Around
nameless_ at vs state = record { context = in_name at; values = vs; state = state }

-- ## Encodings among the parts of a production

-- what is done before a part keeps the values of the parts so far
abbrev Keeps : Way → Production → Type 0
Keeps way p = (around : Around) (place : ℕ) (vs : List Value) (state : State) (n : Next Value State Around) → way.between p around place vs state ≡ Ok n → n.values ≡ vs

goes_on : (vs : List Value) (around : Around) (state : State) (n : Next Value State Around) →
    ◌≡◌ {A = Result (Next Value State Around) Refusal} (Ok (record { context = around; values = vs; state = state })) (Ok n) → n.values ≡ vs
goes_on vs around state n e = let next : Next Value State Around = record { context = around; values = vs; state = state } in ap (λ x. x.values) (sym (ok_same next n e))

plain_keeps : (p : Production) → has_encoding (parts_of p) ≡ true → Keeps abi_way p
unfolding has_encoding is_encoding parts_of number_of_kind between abi_way
plain_keeps Production.Symbol h around place vs state n e = goes_on vs around state n e
plain_keeps Production.NonVirtualThunk h around place vs state n e = goes_on vs around state n e
plain_keeps Production.VirtualThunk h around place vs state n e = goes_on vs around state n e
plain_keeps Production.CovariantThunk h around place vs state n e = goes_on vs around state n e
plain_keeps Production.Clone h around place vs state n e = goes_on vs around state n e
plain_keeps Production.EncodingLiteral h around place [] state n e = goes_on [] around state n e
plain_keeps Production.EncodingLiteral h around place (v ∷ []) state n e = goes_on (v ∷ []) around state n e
plain_keeps Production.EncodingLiteral h around place (v ∷ u ∷ vs) state n e = goes_on (v ∷ u ∷ vs) around state n e
plain_keeps Production.LocalName h around place [] state n e = goes_on [] around state n e
plain_keeps Production.LocalName h around place (v ∷ vs) state n e = goes_on (v ∷ vs) _ state n e
plain_keeps Production.LocalTemporary h around place [] state n e = goes_on [] around state n e
plain_keeps Production.LocalTemporary h around place (v ∷ vs) state n e = goes_on (v ∷ vs) _ state n e
plain_keeps Production.LocalType h around place [] state n e = goes_on [] around state n e
plain_keeps Production.LocalType h around place (v ∷ vs) state n e = goes_on (v ∷ vs) _ state n e
plain_keeps (Production.Operation Operation.ExpressionC) h around place vs state n e = absurd (false≢true h)
plain_keeps _ h around place vs state n e = absurd (false≢true h)

encodings_apart : (p : Production) → has_encoding (parts_of p) ≡ true → is_literal p ≡ false → differs p ≡ false
unfolding has_encoding is_encoding parts_of number_of_kind differs is_literal
encodings_apart Production.Parameter h other = absurd (false≢true h)
encodings_apart Production.EncodingLiteral h other = absurd (true≢false other)
encodings_apart (Production.Operation Operation.ExpressionC) h other = cc
encodings_apart _ h other = cc

literal_alone : (p : Production) → is_literal p ≡ true → p ≡ Production.EncodingLiteral
unfolding is_literal
literal_alone Production.EncodingLiteral h = refl
literal_alone _ h = absurd (false≢true h)

-- the parts of this production are read where encodings aren't passed over
abbrev IsPlainHere : (own : Bool) → Production → Around → Type 0
IsPlainHere own p around = own ≡ true → is_literal p ≡ true → is_unseen around ≡ false

shut_where : (own : Bool) (p : Production) (around : Around) (vs : List Value) → (IsPlainHere own p around → Inside p vs) → Shut own p around vs
unfolding is_literal
shut_where true Production.EncodingLiteral around vs inside = λ seen. inside (λ own literal. seen)
shut_where true p around vs inside = inside (λ own literal. absurd (false≢true literal))
shut_where false p around vs inside = inside (λ own. absurd (false≢true own))

special_apart : (p : Production) → in_special p ≡ true → has_signature p ≡ false
unfolding in_special has_signature
special_apart Production.Lambda h = absurd (false≢true h)
special_apart _ h = cc

special_read : (p : Production) → in_special p ≡ true → (own : Bool) (vs : List Value) → read_of p own vs ≡ vs
unfolding in_special read_of
special_read Production.DeclaredArgument h own vs = absurd (false≢true h)
special_read _ h own vs = refl

abbrev Encodings : List Sym → List Value → Type 0
Encodings [] vs = Unit {0}
Encodings (x ∷ xs) [] = Unit {0}
Encodings (x ∷ xs) (v ∷ vs) = (is_encoding x ≡ true → is_open (tree_of v) ≡ false) × Encodings xs vs

record Reads (xs : List Sym) (vs : List Value) (r : Found (List Value) State) : Type 0 where
  more : List Value
  is : r.value ≡ vs ++ more
  closed : Encodings xs more

as_encoding : (x : Sym) (t : Tree) → is_encoding x ≡ true → IsTree wide x t → IsTree wide (OfKind ENCODING) t
unfolding is_encoding
as_encoding (OfKind k) t h is = subst (λ n. IsTree wide (OfKind n) t) (eqb-true k 4 h) is
as_encoding _ t h is = absurd (false≢true h)

is_encoding_at : List Sym → ℕ → Bool
is_encoding_at [] k = false
is_encoding_at (x ∷ xs) zero = is_encoding x
is_encoding_at (x ∷ xs) (suc k) = is_encoding_at xs k

encoding_at : (xs : List Sym) (vs : List Value) (k : ℕ) → is_encoding_at xs k ≡ true → Encodings xs vs → is_open (tree_of (part vs k)) ≡ false
unfolding is_encoding_at part tree_of is_open
encoding_at [] vs k h all = absurd (false≢true h)
encoding_at (x ∷ xs) [] k h all = refl
encoding_at (x ∷ xs) (v ∷ vs) zero h all = all.0 h
encoding_at (x ∷ xs) (v ∷ vs) (suc k) h all = encoding_at xs vs k h all.1

inside_values : (p : Production) (vs : List Value) → opens p ≡ false → (has_encoding (parts_of p) ≡ true → Encodings (parts_of p) vs) → (in_special p ≡ true → (k : ℕ) → is_open (tree_of (part vs k)) ≡ false) → Inside p vs
unfolding opens has_encoding is_encoding is_encoding_at parts_of number_of_kind in_special
inside_values Production.Symbol vs plain all special = encoding_at (parts_of Production.Symbol) vs 1 refl (all refl)
inside_values Production.NonVirtualThunk vs plain all special = encoding_at (parts_of Production.NonVirtualThunk) vs 2 refl (all refl)
inside_values Production.VirtualThunk vs plain all special = encoding_at (parts_of Production.VirtualThunk) vs 4 refl (all refl)
inside_values Production.CovariantThunk vs plain all special = encoding_at (parts_of Production.CovariantThunk) vs 2 refl (all refl)
inside_values Production.LocalName vs plain all special = encoding_at (parts_of Production.LocalName) vs 0 refl (all refl)
inside_values Production.LocalTemporary vs plain all special = encoding_at (parts_of Production.LocalTemporary) vs 0 refl (all refl)
inside_values Production.LocalType vs plain all special = encoding_at (parts_of Production.LocalType) vs 0 refl (all refl)
inside_values Production.EncodingLiteral vs plain all special = encoding_at (parts_of Production.EncodingLiteral) vs 1 refl (all refl)
inside_values Production.Clone vs plain all special = encoding_at (parts_of Production.Clone) vs 1 refl (all refl)
inside_values Production.SpecialType vs plain all special = special refl 0
inside_values Production.ParameterObject vs plain all special = special refl 0
inside_values Production.SpecialName vs plain all special = special refl 0
inside_values Production.Temporary vs plain all special = special refl 0
inside_values Production.ModuleInitializer vs plain all special = special refl 1
inside_values Production.ConstructionVtable vs plain all special = (special refl 0, special refl 3)
inside_values (Production.Operation Operation.ExpressionC) vs plain all special = first_of (cc, search tt)
inside_values _ vs plain all special = first_of (cc, search tt)

-- ## Either reading

module _ (way : Way) (keeps : KeepsClosed way) (sees : Sees way) where
  special_closed : (f : Forest) (rule : Open State Around) (from : ℕ) (state : State) (r : Found (List Value) State) → production_at rule.rule.number ≡ Production.Special →
      AreTrees wide (parts_of Production.Special) f → rule.context.encoding < rule.place → rule.place ≤ from → AllOld way.own rule.context rule.place state.candidates →
      unfold_forest (reading_by way) rule [] from f state ≡ Ok r → is_open (tree_of (part r.value 0)) ≡ false
  unfolding differs reading_by parts_of number_of_kind between is_encoding declares is_declaration is_first nameless_ part in_name
  special_closed (grown t nothing) rule from state r is trees lt le old e =
      let around = rule.context in
      let at = rule.place in
      let s = stepped way keeps rule [] from state t nothing r (nameless_ at [] state) (ap (λ p. way.between p around at [] state) is ∙ keeps.plain.between Production.Special refl around at [] state) e in
      let c = name_comes way keeps t (tree_good_by way keeps t) (OfKind SPECIAL) at from state s.part (known 5 (lit≤ tt)) trees.0 refl refl le (old_later way.own (in_name at) at from state.candidates le (old_inner way.own around at state.candidates lt old)) s.is in
      let same : found (c.value ∷ []) s.part.state ≡ r = same_found [] s.part.value (c.value ∷ []) s.part.state r c.is s.rest in
      subst (λ x. is_open (tree_of (part x.value 0)) ≡ false) same ((good_tree (Bare way.own (in_name at)) c.value c.good).closed (refl, λ o. refl))
  special_closed nothing rule from state r is trees lt le old e = absurd trees
  special_closed (grown t (grown u f)) rule from state r is trees lt le old e = absurd trees.1

  other_special_closed : (f : Forest) (rule : Open State Around) (from : ℕ) (state : State) (r : Found (List Value) State) → production_at rule.rule.number ≡ Production.OtherSpecial →
      AreTrees wide (parts_of Production.OtherSpecial) f → rule.context.encoding < rule.place → rule.place ≤ from → AllOld way.own rule.context rule.place state.candidates →
      unfold_forest (reading_by way) rule [] from f state ≡ Ok r → is_open (tree_of (part r.value 1)) ≡ false
  unfolding differs reading_by parts_of number_of_kind between is_encoding declares is_declaration is_first nameless_ part in_name
  other_special_closed (grown t (grown u nothing)) rule from state r is trees lt le old e =
      let around = rule.context in
      let at = rule.place in
      let first = stepped way keeps rule [] from state t (grown u nothing) r (nameless_ at [] state) (ap (λ p. way.between p around at [] state) is ∙ keeps.plain.between Production.OtherSpecial refl around at [] state) e in
      let old0 = old_later way.own (in_name at) at from state.candidates le (old_inner way.own around at state.candidates lt old) in
      let c = name_comes way keeps t (tree_good_by way keeps t) (OfKind SPECIAL_MARK) at from state first.part (known SPECIAL_MARK (lit≤ tt)) trees.0 refl refl le old0 first.is in
      let next = from + length (spell t) in
      let vs = c.value ∷ [] in
      let onward = subst (λ ws. unfold_forest (reading_by way) rule ws next (grown u nothing) first.part.state ≡ Ok r) c.is first.rest in
      let second = stepped way keeps rule vs next first.part.state u nothing r (nameless_ at vs first.part.state) (ap (λ p. way.between p around at vs first.part.state) is ∙ keeps.plain.between Production.OtherSpecial refl around at vs first.part.state) onward in
      let old1 = old_grows way.own (in_name at) from next state first.part.state (omega arith) old0 c.grows in
      let d = name_comes way keeps u (tree_good_by way keeps u) (OfKind SPECIAL_AFTER_G) at next first.part.state second.part (known SPECIAL_AFTER_G (lit≤ tt)) trees.1.0 refl refl (omega (arith, le)) old1 second.is in
      let same : found (c.value ∷ d.value ∷ []) second.part.state ≡ r = same_found vs second.part.value (d.value ∷ []) second.part.state r d.is second.rest in
      subst (λ x. is_open (tree_of (part x.value 1)) ≡ false) same ((good_tree (Bare way.own (in_name at)) d.value d.good).closed (refl, λ o. refl))
  other_special_closed nothing rule from state r is trees lt le old e = absurd trees
  other_special_closed (grown t nothing) rule from state r is trees lt le old e = absurd trees.1
  other_special_closed (grown t (grown u (grown v f))) rule from state r is trees lt le old e = absurd trees.1.1

  inner_closed : (p : Production) → opens p ≡ true → (f : Forest) (rule : Open State Around) (from : ℕ) (state : State) (r : Found (List Value) State) → production_at rule.rule.number ≡ p → AreTrees wide (parts_of p) f →
      rule.context.encoding < rule.place → rule.place ≤ from → AllOld way.own rule.context rule.place state.candidates → unfold_forest (reading_by way) rule [] from f state ≡ Ok r →
      (byte : ℕ) (around : Around) → is_open (tree_of (meaning p byte around r.value)) ≡ false
  unfolding opens meaning tree_of is_open
  inner_closed Production.Encoding o f rule from state r is trees lt le old e byte around = none_encoding (part r.value 0) (no_items (part r.value 1))
  inner_closed Production.Special o f rule from state r is trees lt le old e byte around = special_closed f rule from state r is trees lt le old e
  inner_closed Production.OtherSpecial o f rule from state r is trees lt le old e byte around = other_special_closed f rule from state r is trees lt le old e
  inner_closed Production.Mark o f rule from state r is trees lt le old e byte around = absurd (false≢true o)
  inner_closed _ o f rule from state r is trees lt le old e byte around = absurd (false≢true o)

  -- an encoding that isn't passed over is read as in the ABI's reading
  opens_close : (p : Production) → opens p ≡ true → (byte : ℕ) (around : Around) (place : ℕ) (began : State) (vs : List Value) (state : State) → IsSeen around → way.close p byte around place began vs state ≡ close p byte around place began vs state
  unfolding opens differs name_if close unfolding_.behind
  opens_close Production.Encoding o byte around place began vs state seen =
      let said : Bool → Result (Found Value State) Refusal = λ b. Ok (found (name_if (b && is_open (tree_of (part vs 0))) (part vs 0) (meaning Production.Encoding byte around vs)) state) in
      keeps.plain.encoding byte around place began vs state ∙ ap said (sees.unpassed around seen)
  opens_close Production.Special o byte around place began vs state seen = keeps.plain.close Production.Special refl byte around place began vs state
  opens_close Production.OtherSpecial o byte around place began vs state seen = keeps.plain.close Production.OtherSpecial refl byte around place began vs state
  opens_close Production.Mark o byte around place began vs state seen = absurd (false≢true o)
  opens_close _ o byte around place began vs state seen = absurd (false≢true o)

  encoded_closed : (t : Tree) (around : Around) (at : ℕ) (state : State) (r : Found (List Value) State) → IsTree wide (OfKind ENCODING) t → IsSeen around → around.encoding < at → AllOld way.own around at state.candidates →
      unfold_tree (reading_by way) around at t state ≡ Ok r → is_open (tree_of (part r.value 0)) ≡ false
  unfolding reading_by part tree_of is_open
  encoded_closed (branch rule taken parts) around at state r tree seen less old e =
      let whole = Whole rule taken at around state in
      let c = chosen_rule ENCODING rule taken (known 4 (lit≤ tt)) tree.0 in
      let p = c.production in
      let opening_ = implied (nat_eq ENCODING 4) (opens p) (taken_passes (λ n q. not (nat_eq n 4) || opens q) encodings_open ENCODING rule c) refl in
      let byte = byte_of taken in
      let from = at + length taken in
      let begun = behind_bind (way.opening (production_at rule.number) around parts at state)
      (λ begun. unfold_forest (reading_by way) whole [] from parts begun >>= λ inner. way.close (production_at rule.number) byte around at state inner.value inner.state >>= alone) r e in
      let kept = keeps.begins (production_at rule.number) around parts at state begun.value begun.is in
      let inner = behind_bind (unfold_forest (reading_by way) whole [] from parts begun.value) (λ inner. way.close (production_at rule.number) byte around at state inner.value inner.state >>= alone) r begun.next in
      let ended = behind_bind (way.close (production_at rule.number) byte around at state inner.value.value inner.value.state) alone r inner.next in
      let one = ended.value in
      let same : found (one.value ∷ []) one.state ≡ r = ok_same (found (one.value ∷ []) one.state) r ended.next in
      let number : production_at rule.number ≡ p = ap (λ x. production_at x.number) c.is ∙ at_number p in
      let trees = subst (λ xs. AreTrees wide xs parts) (ap symbols_of c.is ∙ its_symbols p) tree.1 in
      let closed = inner_closed p opening_ parts whole from begun.value inner.value number trees less (omega arith) (subst (λ cs. AllOld way.own around at cs) (sym kept) old) inner.is byte around in
      let ends : close p byte around at state inner.value.value inner.value.state ≡ Ok one = sym (ap (λ q. way.close q byte around at state inner.value.value inner.value.state) number ∙ opens_close p opening_ byte around at state inner.value.value inner.value.state seen) ∙ ended.is in
      let means = inner_closes p opening_ byte around at state inner.value.value inner.value.state one ends in
      subst (λ x. is_open (tree_of (part x.value 0)) ≡ false) same (subst (λ x. is_open (tree_of x.value) ≡ false) means closed)
  encoded_closed empty around at state r tree seen less old e = subst (λ x. is_open (tree_of (part x.value 0)) ≡ false) (ok_same (found (nothing_there ∷ []) state) r e) refl
  encoded_closed _ around at state r tree seen less old e = absurd tree

  keeps_values : (p : Production) → has_encoding (parts_of p) ≡ true → Keeps way p
  unfolding abi_way
  keeps_values p has = go (is_literal p) refl
    where
      go : (b : Bool) → is_literal p ≡ b → Keeps way p
      go true literal = subst (λ q. Keeps way q) (sym (literal_alone p literal)) (λ around place vs state n e. sees.keeps around place vs state n e)
      go false other = λ around place vs state n e. plain_keeps p has around place vs state n (sym (keeps.plain.between p (encodings_apart p has other) around place vs state) ∙ e)

  forest_closed : (f : Forest) (rule : Open State Around) (xs : List Sym) (vs : List Value) (at : ℕ) (state : State) (r : Found (List Value) State) →
      StaysInside (production_at rule.rule.number) → parts_apart (production_at rule.rule.number) (is_nothing vs) xs ≡ true → Keeps way (production_at rule.rule.number) → AreSymbols wide xs → AreTrees wide xs f → IsSeen rule.context → IsPlainHere way.own (production_at rule.rule.number) rule.context → rule.context.encoding ≤ at → (has_encoding xs ≡ true → rule.context.encoding < at) →
      GoodPrefix (Bare way.own rule.context) rule.context.prefix → AllGood (Within way.own (production_at rule.rule.number) rule.context) (read_of (production_at rule.rule.number) way.own vs) → AllOld way.own rule.context at state.candidates → unfold_forest (reading_by way) rule vs at f state ≡ Ok r → Reads xs vs r
  unfolding reading_by has_encoding part
  forest_closed nothing rule [] vs at state r stays apart keep known trees seen plain le inside pre good old e =
      record { more = []; is = ap (λ x. x.value) (sym (ok_same (found vs state) r e)) ∙ sym (append-nil vs); closed = tt }
  forest_closed nothing rule (x ∷ xs) vs at state r stays apart keep known trees seen plain le inside pre good old e = absurd trees
  forest_closed (grown t f) rule [] vs at state r stays apart keep known trees seen plain le inside pre good old e = absurd trees
  forest_closed (grown t f) rule (x ∷ xs) vs at state r stays apart keep known trees seen plain le inside pre good old e =
      let around = rule.context in
      let later = at + length (spell t) in
      let b = behind_bind (way.between (production_at rule.rule.number) around rule.place vs state)
      (λ next. unfold_tree (reading_by way) next.context at t next.state >>= λ part. unfold_forest (reading_by way) rule (next.values ++ part.value) (at + length (spell t)) f part.state) r e in
      let n = b.value in
      let g = keeps.goes (production_at rule.rule.number) around rule.place vs state n at stays pre old good b.is in
      let c = behind_bind (unfold_tree (reading_by way) n.context at t n.state) (λ part. unfold_forest (reading_by way) rule (n.values ++ part.value) (at + length (spell t)) f part.state) r b.next in
      let this = c.value in
      let old1 = old_grows way.own around at at state n.state (omega arith) old g.grows in
      let old3 = old_fits way.own around n.context at n.state.candidates g.fits old1 in
      let tree = tree_good_by way keeps t x n.context at n.state this known.0 trees.0 (omega (arith, g.fits.encoding, le)) (λ opening. omega (arith, g.fits.encoding, inside (or_first (is_encoding x) (has_encoding xs) opening)))
      g.fits.prefix old3 c.is in
      let grown1 = grows_fits way.own around n.context later n.state this.state g.fits tree.grows in
      let old2 = old_grows way.own around at later n.state this.state (omega arith) old1 grown1 in
      let good1 = one_read way keeps (production_at rule.rule.number) around rule.place vs this.value state n x xs tree.value tree.is apart b.is g.values g.bare tree.good in
      let seen1 : IsSeen n.context =
      elim (sees.onward (production_at rule.rule.number) around rule.place vs state n seen b.is) [ inl seen_ ↦ seen_ | inr literal ↦ absurd (true≢false (sym literal.2 ∙ plain literal.0 literal.1)) ] in
      let rest = forest_closed f rule xs (n.values ++ this.value) later this.state r stays (left_apart (production_at rule.rule.number) (is_nothing vs) n.values this.value x xs tree.value tree.is apart) keep known.1 trees.1 seen plain (omega (arith, le))
      (λ opening. omega (arith, inside (or_true (is_encoding x) (has_encoding xs) opening))) pre good1 old2 c.next in
      record {
        more = tree.value ∷ rest.more;
        is = rest.is ∙ ap (λ us. (us ++ this.value) ++ rest.more) (keep around rule.place vs state n b.is) ∙ ap (λ us. (vs ++ us) ++ rest.more) tree.is ∙ append_assoc vs (tree.value ∷ []) rest.more;
        closed = (
          λ opening. subst (λ us. is_open (tree_of (part us 0)) ≡ false) tree.is
              (encoded_closed t n.context at n.state this (as_encoding x t opening trees.0) seen1 (omega (arith, g.fits.encoding, inside (or_first (is_encoding x) (has_encoding xs) opening))) old3 c.is),
          rest.closed,
        );
      }
    where
      or_first : (a b : Bool) → a ≡ true → a || b ≡ true
      or_first a b h = ap (λ c. c || b) h

  -- Encodings among the parts of a production have no free parameters.
  pub insides : (p : Production) (rule : Rule) (taken : List ℕ) (parts : Forest) (k : ℕ) (around : Around) (at : ℕ) (state begun : State) (inner : Found (List Value) State) → rule ≡ rule_of p → opens p ≡ false → k < wide.kinds →
      IsTree wide (OfKind k) (branch rule taken parts) → around.encoding ≤ at → (is_special_kind k ≡ true → Bare way.own around) → IsSeen around → GoodPrefix (Bare way.own around) around.prefix → AllOld way.own around at begun.candidates →
      unfold_forest (reading_by way) (Whole rule taken at around state) [] (at + length taken) parts begun ≡ Ok inner → Shut way.own p around inner.value
  unfolding is_nothing
  insides p rule taken parts k around at state begun inner is plain lt tree le special seen pre old e =
      let whole = Whole rule taken at around state in
      let number : production_at rule.number ≡ p = ap (λ x. production_at x.number) is ∙ at_number p in
      let inside_ : StaysInside (production_at rule.number) = subst (λ q. StaysInside q) (sym number) (stays p plain) in
      let from = at + length taken in
      let symbols = wide_sound.symbols k tree.0.byte rule lt tree.0.is_byte tree.0.found in
      let same : symbols_of rule ≡ parts_of p = ap symbols_of is ∙ its_symbols p in
      let old0 = old_later way.own around at from begun.candidates (omega arith) old in
      shut_where way.own p around inner.value (λ here.
      inside_values p inner.value plain
      (λ has.
      let reads = forest_closed parts whole (symbols_of rule) [] from begun inner inside_ (rule_apart p rule is) (subst (λ q. Keeps way q) (sym number) (keeps_values p has)) symbols tree.1 seen (subst (λ q. IsPlainHere way.own q around) (sym number) here) (omega (arith, le))
      (λ any. omega (arith, le, takes_byte p rule k taken is tree.0 any)) pre (read_none (Within way.own (production_at rule.number) around) (production_at rule.number) way.own) old0 e in
      subst (λ us. Encodings (parts_of p) us) (sym reads.is) (subst (λ xs. Encodings xs reads.more) same reads.closed))
      (λ is_special part_number.
      let all = forest_good way keeps parts (trees_good_by way keeps parts) whole (symbols_of rule) [] from begun inner inside_ (rule_apart p rule is) symbols tree.1 (omega (arith, le))
      (λ any. omega (arith, le, takes_byte p rule k taken is tree.0 any)) pre (read_none (Within way.own (production_at rule.number) around) (production_at rule.number) way.own) old0 e in
      let read : read_of (production_at rule.number) way.own inner.value ≡ inner.value = ap (λ q. read_of q way.own inner.value) number ∙ special_read p is_special way.own inner.value in
      (good_part (Within way.own (production_at rule.number) around) inner.value part_number (subst (λ us. AllGood (Within way.own (production_at rule.number) around) us) read all.good)).closed
      (special (special_kind p k rule taken is lt tree.0 is_special), λ own. ap has_signature number ∙ special_apart p is_special)))
