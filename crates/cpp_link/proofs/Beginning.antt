-- A rule begins as the wide reading says.
use Rattle.cpp_link.proofs.Basics.{◌≡◌, refl, sym, ◌∙◌, ap, subst, arith, ℕ, ◌-◌, ◌≤◌, List, [], length, Bool, true, false, Result, Ok, Err, OnOk, OnErr, IfErr, nat_eq, vec_capacity, if◌then◌else◌, Refusal, Memory, Row, Forest, Open, standing, Adds, Pays, BeginsAs, BeginsIn, KeepRoom, Production, production_at, by_all, is_by_all, Term, State, Around, opening, cpp, counted_so_far, noting, tree_at, Surroundings, counted_of, Linked, Rescoping, counting_of, link_begin, link_opening, wide_view, wide_counted, is_numbered, trees_in, packs_of, around_of, IsKeptThere, Begins, lists_of as lists_in, IsKept, Surrounds, Holds, cpp_view}
use Rattle.cpp_grammar.specs.Values as plain
use Rattle.cpp_link.specs.declared.counting.Counting.{Counting}
use Rattle.cpp_link.proofs.Endings.{first_begins, opens_plain, begins_kept}
use Rattle.cpp_link.proofs.Listed.{so_far_same}

-- ## What stays

module _ (old : Rescoping) (new : Linked) (result : Result Surroundings Refusal) (same : new.nodes ≡ old.linked.nodes) where
  pub none_more : OnOk result (length new.nodes.nodes - 4 ≡ length old.linked.nodes.nodes - 4)
  none_more = go result
    where
      go : (r : Result Surroundings Refusal) → OnOk r (length new.nodes.nodes - 4 ≡ length old.linked.nodes.nodes - 4)
      go (Ok kept) = ap (λ y. length y.nodes - 4) same
      go (Err e) = tt

  pub begun_adds : (s : List ℕ) → OnOk result (Adds (wide_counted s) old (record { linked = new }) 0 0)
  begun_adds s = go result
    where
      go : (r : Result Surroundings Refusal) → OnOk r (Adds (wide_counted s) old (record { linked = new }) 0 0)
      go (Ok kept) = (
        record { least = omega (arith, ap (λ y. length y.nodes) same); stays = λ i less. ap (λ y. tree_at (trees_in s y) i) same },
        omega (arith, ap (λ y. length y.nodes) same),
      )
      go (Err e) = tt

  pub begun_few : OnErr result (length new.nodes.nodes - 4 ≤ length old.linked.nodes.nodes - 4)
  begun_few = go result
    where
      go : (r : Result Surroundings Refusal) → OnErr r (length new.nodes.nodes - 4 ≤ length old.linked.nodes.nodes - 4)
      go (Ok kept) = tt
      go (Err e) = omega (arith, ap (λ y. length y.nodes) same)

  pub begun_pays : (s : List ℕ) → OnOk result ((at : ℕ) → Pays (wide_counted s) old (record { linked = new }) at at)
  begun_pays s = go result
    where
      go : (r : Result Surroundings Refusal) → OnOk r ((at : ℕ) → Pays (wide_counted s) old (record { linked = new }) at at)
      go (Ok kept) = λ at was. record { begun = omega (arith, was.begun, ap (λ y. length y.nodes) same); thunks = omega (arith, was.thunks, ap (λ y. length y.nodes) same, ap (λ y. length y.thunks) same) }
      go (Err e) = tt

  pub begun_keeps : new.candidates ≡ old.linked.candidates → KeepRoom (lists_in old.linked) (lists_in new)
  begun_keeps candidates =
      (omega (arith, ap (λ y. y.node_room) same), (omega (arith, ap (λ y. y.thunk_room) same), (omega (arith, ap (λ v. vec_capacity v.list) candidates), tt)))

-- ## Where all compilers count alike

plain_begins : (o : Open State Around) (parts : Forest) → is_numbered (production_at o.rule.number) ≡ false → link_begin o parts ≡ Ok o.before
unfolding link_begin cpp
plain_begins o parts plain = go (nat_eq o.place 0)
  where
    go : (b : Bool) → (if b then Ok o.before else opening (production_at o.rule.number) parts o.place o.before) ≡ Ok o.before
    go true = refl
    go false = opens_plain (production_at o.rule.number) parts o.place o.before plain

pub noted_as : (c : plain.Counting) (state : State) → is_by_all (counted_so_far by_all state.candidates) ≡ false → noting c state ≡ record state { counting = c }
unfolding noting
noted_as c state other = ap (λ b. elim b as (λ _. State) [ true ↦ state | false ↦ record state { counting = c } ]) other

pub nothing_noted : (c : plain.Counting) (state : State) → is_by_all (counted_so_far by_all state.candidates) ≡ true → noting c state ≡ state
unfolding noting
nothing_noted c state alike = ap (λ b. elim b as (λ _. State) [ true ↦ state | false ↦ record state { counting = c } ]) alike

opening_alike : (p : Production) (o : Open State Around) (parts : Forest) → production_at o.rule.number ≡ p → is_by_all (counted_so_far by_all o.before.candidates) ≡ true → link_opening p o parts ≡ link_begin o parts
unfolding link_opening is_numbered
opening_alike Production.NestTemplate o parts is alike = ap (λ s. Ok s) (nothing_noted _ o.before alike) ∙ sym (plain_begins o parts (ap is_numbered is))
opening_alike Production.QualifiedPlain o parts is alike = ap (λ s. Ok s) (nothing_noted _ o.before alike) ∙ sym (plain_begins o parts (ap is_numbered is))
opening_alike Production.Items o parts is alike = ap (λ s. Ok s) (nothing_noted _ o.before alike) ∙ sym (plain_begins o parts (ap is_numbered is))
opening_alike Production.NestNext o parts is alike = ap (λ s. Ok s) (nothing_noted _ o.before alike) ∙ sym (plain_begins o parts (ap is_numbered is))
opening_alike Production.NestEnd o parts is alike = ap (λ s. Ok s) (nothing_noted _ o.before alike) ∙ sym (plain_begins o parts (ap is_numbered is))
opening_alike _ o parts is alike = refl

-- a rule that begins at place 0 leaves the state as it is, where all compilers count alike
pub first_opens : (p : Production) (o : Open State Around) (parts : Forest) → o.place ≡ 0 → is_by_all (counted_so_far by_all o.before.candidates) ≡ true → link_opening p o parts ≡ Ok o.before
unfolding link_opening
first_opens Production.NestTemplate o parts first alike = ap (λ s. Ok s) (nothing_noted _ o.before alike)
first_opens Production.QualifiedPlain o parts first alike = ap (λ s. Ok s) (nothing_noted _ o.before alike)
first_opens Production.Items o parts first alike = ap (λ s. Ok s) (nothing_noted _ o.before alike)
first_opens Production.NestNext o parts first alike = ap (λ s. Ok s) (nothing_noted _ o.before alike)
first_opens Production.NestEnd o parts first alike = ap (λ s. Ok s) (nothing_noted _ o.before alike)
first_opens _ o parts first alike = first_begins o parts first

-- this production notes nothing where its rule begins
pub record NotesNothing (p : Production) : Type 0 where
  pub not_template : p ≡ Production.NestTemplate → ⊥
  pub not_qualified : p ≡ Production.QualifiedPlain → ⊥
  pub not_items : p ≡ Production.Items → ⊥
  pub not_next : p ≡ Production.NestNext → ⊥
  pub not_end : p ≡ Production.NestEnd → ⊥

opening_other : (p : Production) (o : Open State Around) (parts : Forest) → NotesNothing p → link_opening p o parts ≡ link_begin o parts
unfolding link_opening
opening_other Production.NestTemplate o parts other = absurd (other.not_template refl)
opening_other Production.QualifiedPlain o parts other = absurd (other.not_qualified refl)
opening_other Production.Items o parts other = absurd (other.not_items refl)
opening_other Production.NestNext o parts other = absurd (other.not_next refl)
opening_other Production.NestEnd o parts other = absurd (other.not_end refl)
opening_other _ o parts other = refl

module _ (s : List ℕ) (rows : List Row) (old : Linked) (context : Surroundings) (row : Row) where
  -- the compilers that count the state's candidates are those that `candidates.by` gives
  counted_is : (state : State) → Holds s old state → counted_so_far by_all state.candidates ≡ counted_of old.candidates.by
  counted_is state holds = ap (λ cs. counted_so_far by_all cs) (sym holds.candidates) ∙ so_far_same (trees_in s old.nodes) [] by_all old.candidates.list.items ∙ sym holds.there.1.by

  pub alike_begins : (result : Result Surroundings Refusal) → is_by_all (counted_of old.candidates.by) ≡ true → BeginsIn (cpp_view s) s (Surrounds s) rows old old context row result
      → IfErr result (λ e. e ≡ Memory → ⊥) → Begins (wide_view s) s rows old old context row result
  alike_begins result alike begins refused = record {
    begins = λ around state rule taken inner place row_is kind known tree behind at surrounds holds.
        subst (λ read. BeginsAs (cpp_view s) old (standing rule taken place around state) result read)
        (sym (opening_alike (production_at rule.number) (standing rule taken place around state) inner refl (ap is_by_all (counted_is state holds) ∙ alike)))
        (begins around state rule taken inner place row_is kind known tree behind at surrounds holds);
    nodes = refl;
    candidates = refl;
    refused = refused;
  }

  pub other_begins : (result : Result Surroundings Refusal) → NotesNothing (production_at row.rule)
      → BeginsIn (cpp_view s) s (Surrounds s) rows old old context row result → IfErr result (λ e. e ≡ Memory → ⊥) → Begins (wide_view s) s rows old old context row result
  other_begins result other begins refused = record {
    begins = λ around state rule taken inner place row_is kind known tree behind at surrounds holds.
        subst (λ read. BeginsAs (cpp_view s) old (standing rule taken place around state) result read)
        (sym (opening_other (production_at rule.number) (standing rule taken place around state) inner (subst (λ p. NotesNothing p) (ap production_at row_is.rule_is) other)))
        (begins around state rule taken inner place row_is kind known tree behind at surrounds holds);
    nodes = refl;
    candidates = refl;
    refused = refused;
  }

  -- `noting` changes only the counting: what may be named, and which types are awaited
  pub noted_begins : (p : Production) (e : Around → ℕ → plain.Counting → plain.Counting) (noted : Counting) (kept : Surroundings)
      → ((o : Open State Around) (parts : Forest) → link_opening p o parts ≡ Ok (noting (e o.context o.place o.before.counting) o.before))
      → production_at row.rule ≡ p → counting_of noted ≡ e (around_of (trees_in s old.nodes) context) row.from (counting_of old.counting) → is_by_all (counted_of old.candidates.by) ≡ false
      → ((ts : List Term) → around_of ts kept ≡ around_of ts context) → ((n : ℕ) → IsKeptThere n context → IsKeptThere n kept) → packs_of kept ≡ old.packs
      → Begins (wide_view s) s rows old (record old { counting = noted }) context row (Ok kept)
  noted_begins p e noted kept opens is noted_is apart around_same there packs = record {
    begins = λ around state rule taken inner place row_is kind known tree behind at surrounds holds. (
      noting (e around place state.counting) state,
      ap (λ q. link_opening q (standing rule taken place around state) inner) (ap production_at (sym row_is.rule_is) ∙ is) ∙ opens (standing rule taken place around state) inner,
      kept_now (standing rule taken place around state) (begins_kept s old context kept around state rule taken place around_same there packs surrounds holds),
      subst (λ x. Holds s new x) (sym (noted_as (e around place state.counting) state (ap is_by_all (counted_is state holds) ∙ apart))) (record {
        table = holds.table;
        there = holds.there;
        candidates = holds.candidates;
        packs = holds.packs;
        counting = noted_is ∙ same_noted _ _ _ _ _ _ surrounds.is row_is.from holds.counting;
      }),
    );
    nodes = refl;
    candidates = refl;
    refused = tt;
  }
    where
      new : Linked
      new = record old { counting = noted }

      kept_now : (rule : Open State Around) → IsKept s old kept rule → IsKept s new kept rule
      kept_now rule is = record { surrounds = record { there = is.surrounds.there; is = is.surrounds.is; closed = is.surrounds.closed }; packs = is.packs }

      same_noted : (a b : Around) (m n : ℕ) (c d : plain.Counting) → a ≡ b → m ≡ n → c ≡ d → e a m c ≡ e b n d
      same_noted a b m n c d around place counting = rw (around, place, counting) refl
