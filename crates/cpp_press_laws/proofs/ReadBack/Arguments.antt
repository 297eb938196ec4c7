-- Arguments, literals and expansions are read as what was pressed, from their parts.
use Rattle.cpp_press_laws.proofs.Basics.{◌≡◌, ℕ, ◌+◌, inl, length, List, [], ◌∷◌, ◌++◌, Option, None, Bool, true, false, Ok, refl, ap, arith, ◌∙◌, append-nil, cond, codes, Digits, TakesRule, found, Kind, Production, INTEGER, TYPE, ITEM, ITEM_AFTER_D, ITEMS, ARGUMENT, ARGUMENT_LIST, PACK_LIST, MAYBE_ARGUMENTS, FIRST_OF_LAMBDA, abi, rule_of, Signed, Term, expansion, nil, list, Around, Value, nothing_there, signed, tree, normal, is_zero, signed_digits, prefix_listed, prefix_tree, inside, under_expansion, no_items, after, Component, signed_text, AreSpellableDigits, IsSpellableNumber, Written, written, ReadsAt, Is, cpp, opening, at_number, with_prefix, appended}
use Rattle.sym_shape.specs.declared.rule.Sym.TheVariants.{Kind as OfKind}
use Rattle.cpp_grammar.specs.Values as value
use Rattle.cpp_grammar.proofs.Arguments.{abi_argument, abi_first}
use Rattle.cpp_press_laws.proofs.ReadBack.Reading.{takes-byte, takes-none, fixed-reads, first-reads, appended-same, digits-read, grammar, more, production-opened, read-by-parts, reshaped, ◌before◌}
use Rattle.sym_shape.specs.Tree.{grown, nothing, spell}

-- ## Lists

-- what a list of items is read as; an empty list is read as an absent value
abbrev pub items_value : Term → Value
items_value nil = nothing_there
items_value t = tree t true

-- a type that is read is read as an argument
pub item-as-argument : {around : Around} {allowed : Option ℕ} {Q : Value → Type 0} {place : ℕ} {cs : List Component} {w : Written}
    → ReadsAt around allowed (OfKind ITEM) Q place cs w → ReadsAt around allowed (OfKind ARGUMENT) Q place cs w
item-as-argument {around} {place} one = reshaped (λ t is. let a = abi_argument t is in (a.tree, a.spells, a.is, a.says around place)) one

-- a type that is read is read as the first type of a lambda
pub item-as-first : {around : Around} {allowed : Option ℕ} {Q : Value → Type 0} {place : ℕ} {cs : List Component} {w : Written}
    → ReadsAt around allowed (OfKind ITEM) Q place cs w → ReadsAt around allowed (OfKind FIRST_OF_LAMBDA) Q place cs w
item-as-first {around} {place} one = reshaped (λ t is. let a = abi_first t is in (a.tree, a.spells, a.is, a.says around place)) one

-- one more item before others: a type here, and further below an argument or an element of a pack
pub items-more : (around : Around) (allowed : Option ℕ) (t items : Term) (last : Value) (place : ℕ) (cs : List Component) (first rest : Written)
    → no_items last ≡ items
    → ReadsAt around allowed (OfKind ITEM) (Is (tree t true)) (place + 0) cs first
    → ReadsAt around allowed (OfKind ITEMS) (Is last) (place + 0 + length first.bytes) first.components rest
    → ReadsAt around allowed (OfKind ITEMS) (Is (tree (list t items) true)) place cs (written (first.bytes ++ rest.bytes) rest.components)
unfolding grammar
items-more around allowed t items last place cs first rest are one two =
    read-by-parts Production.Items ITEMS [] (tree t true ∷ last ∷ []) (first ∷ rest ∷ [])
    (takes-none ITEMS Kind.Items Production.Items 80 refl refl (omega arith) refl) tt refl
    (λ s c q. one s c q before λ s c q. two s c q before λ began s. ap (λ l. Ok (found (tree (list t l) true) s)) are)

-- elements of a pack, or arguments
abbrev pub list_kind : (in_pack : Bool) → ℕ
list_kind true = PACK_LIST
list_kind false = ARGUMENT_LIST

pub any-argument : (in_pack : Bool) (around : Around) (allowed : Option ℕ) (t items : Term) (last : Value) (place : ℕ) (cs : List Component)
    (first rest : Written) → no_items last ≡ items
    → ReadsAt around allowed (OfKind ARGUMENT) (Is (tree t true)) (place + 0) cs first
    → ReadsAt around allowed (OfKind (list_kind in_pack)) (Is last) (place + 0 + length first.bytes) first.components rest
    → ReadsAt around allowed (OfKind (list_kind in_pack)) (Is (tree (list t items) true)) place cs (written (first.bytes ++ rest.bytes) rest.components)
unfolding grammar
any-argument false around allowed t items last place cs first rest are one two =
    read-by-parts Production.AnyArgument ARGUMENT_LIST [] (tree t true ∷ last ∷ []) (first ∷ rest ∷ [])
    (takes-none ARGUMENT_LIST Kind.ArgumentList Production.AnyArgument 80 refl refl (omega arith) refl) tt refl
    (λ s c q. one s c q before λ s c q. two s c q before λ began s. ap (λ l. Ok (found (tree (list t l) true) s)) are)
any-argument true around allowed t items last place cs first rest are one two =
    read-by-parts Production.AnyElement PACK_LIST [] (tree t true ∷ last ∷ []) (first ∷ rest ∷ [])
    (takes-none PACK_LIST Kind.PackList Production.AnyElement 80 refl refl (omega arith) refl) tt refl
    (λ s c q. one s c q before λ s c q. two s c q before λ began s. ap (λ l. Ok (found (tree (list t l) true) s)) are)

-- ## Arguments in I and E

-- the components before a name's arguments: the name is added, if it isn't a component yet
abbrev pub listed_now : Around → Bool → List Component → Term → List Component
listed_now around true cs t = cs
listed_now around false cs t = more around cs t

-- arguments after a name; the name becomes a component before them, if it isn't one yet
pub arguments-read : (listed : Bool) (around : Around) (allowed : Option ℕ) (k : ℕ) (t items : Term) (last : Value) (place : ℕ)
    (cs : List Component) (w : Written) → TakesRule abi k (rule_of Production.Arguments) (73 ∷ []) → no_items last ≡ items
    → ReadsAt (inside around) allowed (OfKind ARGUMENT_LIST) (Is last) (place + 1) (listed_now around listed cs t) w
    → ReadsAt (after t listed around) allowed (OfKind k) (Is (tree items true)) place cs (written (73 ∷ (w.bytes ++ (69 ∷ []))) w.components)
unfolding grammar with_prefix appended after inside prefix_listed prefix_tree
arguments-read true around allowed k t items last place cs w takes are one =
    read-by-parts Production.Arguments k (73 ∷ []) (last ∷ nothing_there ∷ []) (w ∷ written (69 ∷ []) w.components ∷ []) takes tt refl
    (λ s c q. first-reads one s c q before λ s c q. fixed-reads s c q before λ began s. ap
    (λ l. Ok (found (tree l true) s)) are)
arguments-read false around allowed k t items last place cs w takes are one =
    read-by-parts Production.Arguments k (73 ∷ []) (last ∷ nothing_there ∷ []) (w ∷ written (69 ∷ []) w.components ∷ []) takes tt refl
    (λ s c q. first-reads one (appended around t s) (appended-same around t s c) q before λ s c q. fixed-reads s c q
    before λ began s. ap (λ l. Ok (found (tree l true) s)) are)

pub takes-maybe-arguments : TakesRule abi MAYBE_ARGUMENTS (rule_of Production.Arguments) (73 ∷ [])
unfolding grammar
takes-maybe-arguments = takes-byte MAYBE_ARGUMENTS Kind.MaybeArguments Production.Arguments 73 refl refl (omega arith) refl

-- ## Expansions

-- The pattern of an expansion names packs of one length, whatever packs are named around the expansion.
pub expansion-reads : (around : Around) (allowed inner : Option ℕ) (t : Term) (place : ℕ) (cs : List Component) (w : Written)
    → ReadsAt (under_expansion around) inner (OfKind TYPE) (Is (tree t true)) (place + 1) cs w
    → ReadsAt around allowed (OfKind ITEM_AFTER_D) (Is (tree (expansion t) false)) place cs (written (112 ∷ w.bytes) w.components)
unfolding grammar cpp opening
expansion-reads around allowed inner t place cs w one =
    production-opened Production.Expansion ITEM_AFTER_D (112 ∷ []) around allowed inner place (λ values. values ≡ tree t true ∷ [])
    (Is (tree (expansion t) false)) cs w.components (OfKind TYPE ∷ []) w
    (takes-byte ITEM_AFTER_D Kind.ItemAfterD Production.Expansion 112 refl refl (omega arith) refl) refl
    (λ began s same packs.
    let a = one (record s { packs = None }) same (inl refl) in
    record {
      forest = grown a.shape nothing;
      spelled = append-nil (spell a.shape) ∙ a.spelled;
      shaped = (a.shaped, tt);
      values = a.value ∷ [];
      good = ap (λ v. v ∷ []) a.good;
      state = a.state;
      unfolds = rw (at_number Production.Expansion, a.unfolds) refl;
      candidates = a.candidates;
      packs = a.packs;
    })
    (λ s same packs. refl)
    (λ values good began s first same packs. record {
      value = tree (expansion t) false;
      good = refl;
      state = record s { packs = began.packs };
      closes = rw good refl;
      candidates = same;
      packs = first;
    })

-- ## Numbers

signed-kept : (negative : Bool) (digits : List ℕ) → normal digits ≡ digits → (negative ≡ true → is_zero digits ≡ false)
    → signed_digits negative digits ≡ record { negative = negative; digits = digits }
unfolding signed_digits
signed-kept true digits same none = rw (same, none refl) refl
signed-kept false digits same none = rw same refl

pub integer-reads : (around : Around) (allowed : Option ℕ) (n : Signed) (place : ℕ) (cs : List Component) → IsSpellableNumber n
    → ReadsAt around allowed (OfKind INTEGER) (Is (signed n)) place cs (written (signed_text n) cs)
unfolding grammar signed_text
integer-reads around allowed n place cs good = go n.negative n.digits good.digits good.minus
  where
    go : (negative : Bool) (digits : List ℕ) → AreSpellableDigits Digits digits → (negative ≡ true → is_zero digits ≡ false)
        → ReadsAt around allowed (OfKind INTEGER) (Is (signed (record { negative = negative; digits = digits }))) place cs
        (written (cond negative (codes "n") [] ++ digits) cs)
    go true digits are minus =
        read-by-parts Production.Negative INTEGER (110 ∷ []) (value.text digits ∷ []) (written digits cs ∷ [])
        (takes-byte INTEGER Kind.Integer Production.Negative 110 refl refl (omega arith) refl) tt refl
        (λ s c q. digits-read digits are.are s c q before λ began s. ap (λ v. Ok (found (signed v) s))
        (signed-kept true digits are.normal_are minus))
    go false digits are minus =
        read-by-parts Production.Positive INTEGER [] (value.text digits ∷ []) (written digits cs ∷ [])
        (takes-none INTEGER Kind.Integer Production.Positive 48 refl refl (omega arith) refl) tt refl
        (λ s c q. digits-read digits are.are s c q before λ began s. ap (λ v. Ok (found (signed v) s))
        (signed-kept false digits are.normal_are minus))
