-- The parts of a production that stays in its encoding, annotated.
use Rattle.cpp_term.proofs.Basics.{◌≡◌, refl, ap, sym, ◌∙◌, subst, ℕ, ◌+◌, ◌<◌, ◌≤◌, List, [], ◌∷◌, ◌++◌, length, Bool, true, false, ◌||◌, ◌&&◌, None, Ok, inl, inr, arith, true≢false, Sym, Kind as OfKind, IsSymbol, AreSymbols, Tree, Forest, nothing, grown, spell, IsTree, AreTrees, Found, Open, ◌>>=◌, unfold_tree, unfold_forest, Production, wide, is_open, Candidate, State, Around, Value, production_at, AllGood, GoodPrefix, held, Bare, Within, AllOld, AllNew, Grows, old_grows, StaysInside, Way, reading_by, is_first, skips, parts_apart, is_nothing, read_of, hides, is_encoding, has_encoding, TreeYields, KeepsClosed, tree_good_by, old_fits, grows_fits, or_true, left_apart, one_read, skipped_stays, Place, nowhere, in_own, around_place, place_in, annotate, noted_value, noted_values, noted_around}
use Rattle.cpp_grammar.specs.Values as leaf_
use Rattle.cpp_term.specs.Values as value_
use Rattle.cpp_term.proofs.KindsNoted.{is_special_kind}
use Rattle.cpp_term.proofs.Notes.{both, or_left, or_right, closed_noted}
use Rattle.cpp_term.proofs.StatesNoted.{Settled, Alike, alike_bind, Same, Moves, moves_none, moves_then, same_moves, IsNoted, AllNoted}
use Rattle.cpp_term.proofs.Passing.{IsSeen}
use Rattle.cpp_term.proofs.BetweenNoted.{InScope, parts_place}
use Rattle.cpp_term.proofs.DeclaredNoted.{in_first, parts_placed, left_placed, next_placed, next_later, may_go, literal_next, place_at, noted_parts, parts_then, alike_map, Onward, Placed, there, alone, no_tree, hidden_placed, used_placed, first_inside, byte_values}
use Rattle.cpp_term.proofs.NotedWays.{NotedWay, reading_noted_by, IsNotedBy}

-- ## From a part to what contains it, and back

pub cancel : (xs as_ bs : List Candidate) → xs ++ as_ ≡ xs ++ bs → as_ ≡ bs
cancel [] as_ bs e = e
cancel (x ∷ xs) as_ bs e = cancel xs as_ bs cc

all_inner : (own : Bool) (around inner : Around) (cs : List Candidate) (ds : List value_.Candidate) → inner.encoding ≡ around.encoding → InScope around inner → AllNoted own around cs ds → AllNoted own inner cs ds
all_inner own around inner [] [] e i all = tt
all_inner own around inner (c ∷ cs) (d ∷ ds) e i all = (one i, all_inner own around inner cs ds e i all.1)
  where
    one : InScope around inner → IsNoted own inner c d
    one (inl same) = record {
      encoding = all.0.encoding;
      in_lambda = all.0.in_lambda;
      counted = all.0.counted;
      by = all.0.by;
      like = all.0.like;
      closed = all.0.closed;
      here = λ h f g. all.0.here (h ∙ e) (sym same.1 ∙ f) g ∙ both (λ o l. annotate (place_in o (own && l)) c.tree) (sym same.0) (sym same.1);
    }
    one (inr bare) = record { encoding = all.0.encoding; in_lambda = all.0.in_lambda; counted = all.0.counted; by = all.0.by; like = all.0.like; closed = all.0.closed; here = λ h f g. absurd (true≢false (sym bare.1 ∙ f)) }
all_inner own around inner [] (d ∷ ds) e i all = absurd all
all_inner own around inner (c ∷ cs) [] e i all = absurd all

all_outer : (own : Bool) (around inner : Around) (end : ℕ) (cs : List Candidate) (ds : List value_.Candidate) → inner.encoding ≡ around.encoding → InScope around inner → AllNew own inner end cs → AllNoted own inner cs ds → AllNoted own around cs ds
all_outer own around inner end [] [] e i new all = tt
all_outer own around inner end (c ∷ cs) (d ∷ ds) e i new all = (one i, all_outer own around inner end cs ds e i new.1 all.1)
  where
    closed_here : (inner.scope ≡ None) → (own ≡ true → c.in_lambda ≡ false) → c.encoding ≡ around.encoding → is_open c.tree ≡ false
    closed_here bare outside h = elim new.0.place [
      | inl here ↦ here.1 bare outside
      | inr deep ↦ absurd (omega (arith, deep.0, h, e))
    ]

    one : InScope around inner → IsNoted own around c d
    one (inl same) = record {
      encoding = all.0.encoding;
      in_lambda = all.0.in_lambda;
      counted = all.0.counted;
      by = all.0.by;
      like = all.0.like;
      closed = all.0.closed;
      here = λ h f g. all.0.here (h ∙ sym e) (same.1 ∙ f) g ∙ both (λ o l. annotate (place_in o (own && l)) c.tree) same.0 same.1;
    }
    one (inr bare) = record {
      encoding = all.0.encoding;
      in_lambda = all.0.in_lambda;
      counted = all.0.counted;
      by = all.0.by;
      like = all.0.like;
      closed = all.0.closed;
      here = λ h f g. all.0.closed (closed_here bare.0 g h) ∙ closed_noted nowhere (around_place own around) c.tree (closed_here bare.0 g h);
    }
all_outer own around inner end [] (d ∷ ds) e i new all = absurd all
all_outer own around inner end (c ∷ cs) [] e i new all = absurd all

pub same_inner : (own : Bool) (around inner : Around) (x : State) (y : value_.State) → inner.encoding ≡ around.encoding → InScope around inner → Same own around x y → Same own inner x y
same_inner own around inner x y e i same = record { packs = same.packs; all = all_inner own around inner x.candidates y.candidates e i same.all }

pub moves_outer : (own : Bool) (around inner : Around) (end : ℕ) (x later : State) (y noted : value_.State) → inner.encoding ≡ around.encoding → InScope around inner → Grows own inner end x later → Moves own inner x y later noted → Moves own around x y later noted
moves_outer own around inner end x later y noted e i grows m = record {
  more = m.more;
  others = m.others;
  is = m.is;
  so = m.so;
  packs = m.packs;
  each = all_outer own around inner end m.more m.others e i (subst (λ cs. AllNew own inner end cs) (cancel x.candidates grows.more m.more (sym grows.is ∙ m.is)) grows.each) m.each;
}

-- ## Values

pub value_closed : (s r : Place) (v : Value) → is_open (held v) ≡ false → noted_value s v ≡ noted_value r v
unfolding noted_value held is_open
value_closed s r (leaf_.piece p) h = ap value_.piece (closed_noted s r p h)
value_closed s r (leaf_.tree t listed) h = ap (λ u. value_.tree u listed) (closed_noted s r t h)
value_closed s r (leaf_.named t qualifiers ref) h = ap (λ u. value_.named u qualifiers ref) (closed_noted s r t h)
value_closed s r (leaf_.signature t ref) h = ap (λ u. value_.signature u ref) (closed_noted s r t h)
value_closed s r (leaf_.pair second x y) h = both (value_.pair second) (closed_noted s r x (or_left (is_open x) (is_open y) h)) (closed_noted s r y (or_right (is_open x) (is_open y) h))
value_closed s r _ h = refl

one_noted : (s : Place) (vs : List Value) (v : Value) → vs ≡ v ∷ [] → noted_values s vs ≡ noted_value s v ∷ []
unfolding noted_values
one_noted s vs v is = ap (noted_values s) is

-- ## Trees and forests

-- the kinds of special names: nothing is named in them
unfoldable pub is_special : Sym → Bool
is_special (OfKind k) = is_special_kind k
is_special _ = false

unfoldable pub has_special : List Sym → Bool
has_special [] = false
has_special (x ∷ xs) = is_special x || has_special xs

-- the values of parts, with arguments and without, at this place
pub record Many (own : Bool) (s : Place) (around : Around) (x : State) (y : value_.State) (a : Found (List Value) State) (b : Found (List value_.Value) value_.State) : Type 0 where
  pub values : b.value ≡ noted_values s a.value
  pub moves : Moves own around x y a.state b.state

abbrev pub TreeNoted : Way → NotedWay → Tree → Type 0
TreeNoted way noted_way t = (x : Sym) (around : Around) (at : ℕ) (state : State) (other : value_.State) → IsSymbol wide x → IsTree wide x t → around.encoding ≤ at → (is_encoding x ≡ true → around.encoding < at) →
    (is_special x ≡ true → Bare way.own around) → (way.own ≡ true → is_first x ≡ true → around.in_lambda ≡ true) → Settled around → (is_encoding x ≡ false → IsSeen around) → GoodPrefix (Bare way.own around) around.prefix → AllOld way.own around at state.candidates → Same way.own around state other →
    Alike (Many way.own (place_at way.own x around) around state other) (unfold_tree (reading_by way) around at t state) (unfold_tree (reading_noted_by noted_way) (noted_around way.own around) at t other)

abbrev pub AllTreesNoted : Way → NotedWay → Forest → Type 0
AllTreesNoted way noted_way nothing = Unit {0}
AllTreesNoted way noted_way (grown t f) = TreeNoted way noted_way t × AllTreesNoted way noted_way f

-- the values of a production's parts, with arguments and without
pub record Parts (own : Bool) (p : Production) (around : Around) (x : State) (y : value_.State) (a : Found (List Value) State) (b : Found (List value_.Value) value_.State) : Type 0 where
  pub values : b.value ≡ noted_parts p own (parts_place own p around) a.value
  pub moves : Moves own around x y a.state b.state

-- an open rule, annotated
abbrev pub noted_open : (own : Bool) → Open State Around → value_.State → Open value_.State value_.Around
noted_open own rule first = record { rule = rule.rule; taken = rule.taken; place = rule.place; context = noted_around own rule.context; before = first }

-- a part's value is annotated in the same way by itself and with the other values
outer_value : (way : Way) (s : Place) (x : Sym) (inner : Around) (t : Tree) (r : Found (List Value) State) (at end : ℕ) (old : State) → Placed way.own s x inner → (c : TreeYields way.own x inner end old r) → IsTree wide x t → unfold_tree (reading_by way) inner at t old ≡ Ok r →
    noted_value (place_at way.own x inner) c.value ≡ noted_value s c.value
unfolding noted_values value_.part
outer_value way s x inner t r at end old (there same) c is e = ap (λ o. noted_value o c.value) same
outer_value way s x inner t r at end old (alone none abi) c is e =
    value_closed (place_at way.own x inner) s c.value (c.good.closed ((none, λ o. absurd (true≢false (sym o ∙ abi))), λ o. absurd (true≢false (sym o ∙ abi))))
outer_value way s x inner t r at end old (no_tree byte) c is e =
    let p = place_at way.own x inner in
    ap (λ us. value_.part us 0) (sym (ap (noted_values p) c.is) ∙ byte_values way x t p s inner at old r byte is e ∙ ap (noted_values s) c.is)

pub settled_inner : (around inner : Around) → InScope around inner → Settled around → Settled inner
settled_inner around inner (inl same) settled = λ l. same.0 ∙ settled (sym same.1 ∙ l)
settled_inner around inner (inr bare) settled = λ l. bare.0

module _ (way : Way) (keeps : KeepsClosed way) (noted_way : NotedWay) (ways : IsNotedBy way noted_way) where
  pub forest_noted : (f : Forest) → AllTreesNoted way noted_way f → (rule : Open State Around) (first : value_.State) (xs : List Sym) (vs : List Value) (at : ℕ) (x : State) (y : value_.State) →
      StaysInside (production_at rule.rule.number) → parts_apart (production_at rule.rule.number) (is_nothing vs) xs ≡ true → parts_placed (production_at rule.rule.number) (is_nothing vs) xs ≡ true →
      (way.own ≡ true → in_first (production_at rule.rule.number) ≡ true → rule.context.in_lambda ≡ true) →
      AreSymbols wide xs → AreTrees wide xs f → rule.context.encoding ≤ at → (has_encoding xs ≡ true → rule.context.encoding < at) → has_special xs ≡ false → Settled rule.context → IsSeen rule.context →
      GoodPrefix (Bare way.own rule.context) rule.context.prefix → AllGood (Within way.own (production_at rule.rule.number) rule.context) (read_of (production_at rule.rule.number) way.own vs) →
      AllOld way.own rule.context at x.candidates → Same way.own rule.context x y →
      Alike (Parts way.own (production_at rule.rule.number) rule.context x y) (unfold_forest (reading_by way) rule vs at f x)
      (unfold_forest (reading_noted_by noted_way) (noted_open way.own rule first) (noted_parts (production_at rule.rule.number) way.own (parts_place way.own (production_at rule.rule.number) rule.context) vs) at f y)
  unfolding reading_by reading_noted_by has_encoding has_special
  forest_noted nothing all rule first xs vs at x y stays apart placed inner known trees le inside none settled seen pre good old same =
      record { values = refl; moves = moves_none way.own rule.context x x y y refl refl same.packs }
  forest_noted (grown t f) all rule first [] vs at x y stays apart placed inner known trees le inside none settled seen pre good old same = absurd trees
  forest_noted (grown t f) all rule first (k ∷ ks) vs at x y stays apart placed inner known trees le inside none settled seen pre good old same =
      let around = rule.context in
      let p = production_at rule.rule.number in
      let s = parts_place way.own p around in
      let later = at + length (spell t) in
      let later_ = next_later p (is_nothing vs) k ks placed in
      alike_bind (Onward way.own p around x y) (Parts way.own p around x y) (way.between p around rule.place vs x) (noted_way.between p (noted_around way.own around) rule.place (noted_parts p way.own s vs) y)
      (λ next. unfold_tree (reading_by way) next.context at t next.state >>= λ part. unfold_forest (reading_by way) rule (next.values ++ part.value) later f part.state)
      (λ next. unfold_tree (reading_noted_by noted_way) next.context at t next.state >>= λ part. unfold_forest (reading_noted_by noted_way) (noted_open way.own rule first) (next.values ++ part.value) later f part.state)
      (ways.goes p around rule.place vs x y stays (may_go p vs k later_) settled same)
      (λ n m goes-is goes.
      let g = keeps.goes p around rule.place vs x n at stays pre old good goes-is in
      let old1 = old_grows way.own around at at x n.state (omega arith) old g.grows in
      let same1 = same_moves way.own around x n.state y m.state same goes.moves in
      let inside1 : is_encoding k ≡ true → n.context.encoding < at = λ opening. omega (arith, g.fits.encoding, inside (or_first (is_encoding k) (has_encoding ks) opening)) in
      let le1 : n.context.encoding ≤ at = omega (arith, g.fits.encoding, le) in
      let old2 = old_fits way.own around n.context at n.state.candidates g.fits old1 in
      let here_ = next_placed p (is_nothing vs) k ks placed in
      let first1 = first_inside p way.own (is_nothing vs && skips p) around n.context k here_ goes.scope inner goes.lambda in
      let settled1 = settled_inner around n.context goes.scope settled in
      let seen1 : is_encoding k ≡ false → IsSeen n.context =
      λ other. elim (ways.sees.onward p around rule.place vs x n seen goes-is) [ inl seen_ ↦ seen_ | inr literal ↦ absurd (true≢false (sym (literal_next p (is_nothing vs) k later_ literal.3 literal.1) ∙ other)) ] in
      let still : skips p ≡ true → n.values ≡ vs = λ h. skipped_stays way keeps p around rule.place vs x n h goes-is in
      let tree = all.0 k n.context at n.state m.state known.0 trees.0 le1 inside1
      (λ special. absurd (true≢false (sym (or_first (is_special k) (has_special ks) special) ∙ none))) first1 settled1 seen1 g.fits.prefix old2 (same_inner way.own around n.context n.state m.state g.fits.encoding goes.scope same1) in
      alike_bind (Many way.own (place_at way.own k n.context) n.context n.state m.state) (Parts way.own p around x y) (unfold_tree (reading_by way) n.context at t n.state) (unfold_tree (reading_noted_by noted_way) m.context at t m.state)
      (λ part. unfold_forest (reading_by way) rule (n.values ++ part.value) later f part.state) (λ part. unfold_forest (reading_noted_by noted_way) (noted_open way.own rule first) (m.values ++ part.value) later f part.state)
      (subst (λ c. Alike (Many way.own (place_at way.own k n.context) n.context n.state m.state) (unfold_tree (reading_by way) n.context at t n.state) (unfold_tree (reading_noted_by noted_way) c at t m.state)) (sym goes.context) tree)
      (λ a b part-is part.
      let comes = tree_good_by way keeps t k n.context at n.state a known.0 trees.0 le1 inside1 g.fits.prefix old2 part-is in
      let moves1 = moves_outer way.own around n.context later n.state a.state m.state b.state g.fits.encoding goes.scope comes.grows part.moves in
      let grown1 = grows_fits way.own around n.context later n.state a.state g.fits comes.grows in
      let good1 = one_read way keeps p around rule.place vs a.value x n k ks comes.value comes.is apart goes-is g.values g.bare comes.good in
      let v = noted_value (place_at way.own k n.context) comes.value in
      let one : b.value ≡ v ∷ [] = part.values ∙ one_noted (place_at way.own k n.context) a.value comes.value comes.is in
      let hidden : hides p way.own n.values ≡ true → v ≡ noted_value in_own comes.value =
      λ h. ap (λ o. noted_value o comes.value) (hidden_placed p way.own vs n.values k n.context here_ still h) in
      let used : hides p way.own n.values ≡ false → v ≡ noted_value s comes.value =
      λ h. outer_value way s k n.context t a at later n.state (used_placed p way.own around n.context vs n.values k here_ still h goes.place settled1 first1) comes trees.0 part-is in
      let values1 : m.values ++ b.value ≡ noted_parts p way.own s (n.values ++ a.value) =
      both (λ us ws. us ++ ws) goes.values one ∙ parts_then p way.own s n.values comes.value v hidden used ∙ sym (ap (λ ws. noted_parts p way.own s (n.values ++ ws)) comes.is) in
      let moves2 = moves_then way.own around x n.state a.state y m.state b.state goes.moves moves1 in
      let rest = forest_noted f all.1 rule first ks (n.values ++ a.value) later a.state b.state stays (left_apart p (is_nothing vs) n.values a.value k ks comes.value comes.is apart) (left_placed p (is_nothing vs) n.values a.value k ks comes.value comes.is placed) inner
      known.1 trees.1 (omega (arith, le)) (λ opening. omega (arith, inside (or_true (is_encoding k) (has_encoding ks) opening))) (or_rest (is_special k) (has_special ks) none) settled seen pre good1
      (old_grows way.own around at later n.state a.state (omega arith) old1 grown1) (same_moves way.own around n.state a.state m.state b.state same1 moves1) in
      alike_map (Parts way.own p around a.state b.state) (Parts way.own p around x y) (unfold_forest (reading_by way) rule (n.values ++ a.value) later f a.state) (unfold_forest (reading_noted_by noted_way) (noted_open way.own rule first) (m.values ++ b.value) later f b.state)
      (λ u v end-is end. record { values = end.values; moves = moves_then way.own around x a.state u.state y b.state v.state moves2 end.moves })
      (subst (λ us. Alike (Parts way.own p around a.state b.state) (unfold_forest (reading_by way) rule (n.values ++ a.value) later f a.state) (unfold_forest (reading_noted_by noted_way) (noted_open way.own rule first) us later f b.state)) (sym values1) rest)))
    where
      or_first : (a b : Bool) → a ≡ true → a || b ≡ true
      or_first a b h = ap (λ c. c || b) h

      or_rest : (a b : Bool) → a || b ≡ false → b ≡ false
      or_rest false b h = h
      or_rest true b h = absurd (true≢false h)
