-- Names in other names, constructors and destructors, names with arguments, and names with tags.
use Rattle.cpp_direct.proofs.AllGround.{as_item, base_parts, base_tagged, base_within, component_parts, constructor, destructor, Detail, first_of, has_arguments, in_std, instance, instance_parts, is_function_type, is_open, is_plain_integer, is_structor, last_piece, left_parts, length_if_pack, list_part, look_up, not_empty, opening_text, operator, operator_texts, own_piece, pack_length, parts_in, piece_parts, prefix_item, right_parts, says, source, source_text, tagged, Term, with_tag, within, within_parts, without_tags, ◌≡◌, ◌≢◌, refl, ap, sym, ◌∙◌, ℕ, ◌+◌, ◌*◌, ◌≤◌, List, [], ◌∷◌, ◌++◌, length, Bool, true, false, None, arith, codes, length-append, append-nil, append_assoc, text, text_of, cost_of, Form, left, right, base, first, Context, closing_bracket, closing_byte, is_angle, IsTail, IsUnmarked, joined_to, list_with, Names, NamesClass, opening_bracket, opening_byte, operator_text, PrintAll, PrintAllAs, PrintAllIn, Prints, PrintsAs, PrintsIn, PrintsName, tag_text, written_instance, written_of, printed_by, shown_by, text_shown, cost_shown, first_cost_shown, writes_parts, text-append, cost-append, list-unmarked, first_shown, source-unmarked, operator-unmarked, list-text-before, list-cost-before, list-closed, list-packless, list-packless-as, all-in, all-as-in, prints-in, made-prints, made-given}
use Rattle.cpp_grammar.specs.Items.{piece}
use Rattle.cpp_direct.proofs.PrintedNames.{besides, own-in, own-prints, source-filled, piece-text, piece-cost, operator-text, operator-cost, std-prints, as-name, base-names}

-- a text, a mark and another text are joined
pub joins : (x m y b n : List ℕ) → x ≡ b → y ≡ n → x ++ (m ++ (y ++ [])) ≡ b ++ m ++ n
joins x m y b n e f = rw (e, f, append-nil n) (sym (append_assoc b m n))

-- ## A piece in a name

-- a piece of a name that is printed after colons, with its text
pub record IsPiece (detail : Detail) (p : Term) (x : List ℕ) : Type 0 where
  pub piece_text : (context : Context) → text_of (written_of detail piece context p) ≡ x
  pub piece_cost : (context : Context) → cost_of (written_of detail piece context p) ≡ 1 + length x
  pub within_is : (context : Context) (t : Term) → within_parts context t p ≡ component_parts context t p
  pub base_is : (context : Context) (t : Term) → base_within context t p ≡ text x ∷ []
  pub tagged_is : (context : Context) (t : Term) → base_tagged context (is_structor (within t p)) (within t p) ≡ text x ∷ []
  pub filled : 1 ≤ length x
  pub plain : IsUnmarked x
  pub is_closed : is_open p ≡ false
  pub packless : (scope : Term) → pack_length scope p ≡ None
  pub no_structor : (t : Term) → is_structor (within t p) ≡ false

-- a source name is a piece
pub source-piece : {detail : Detail} (internal : Bool) (name : List ℕ) → name ≢ [] → IsUnmarked name → IsPiece detail (source internal name) (source_text name)
unfolding within_parts base_within base_tagged own_piece without_tags piece_parts is_open pack_length is_structor
source-piece {detail} internal name filled plain = record {
  piece_text = λ c. piece-text detail c internal name plain;
  piece_cost = λ c. piece-cost detail c internal name;
  within_is = λ c t. refl;
  base_is = λ c t. refl;
  tagged_is = λ c t. refl;
  filled = source-filled name filled;
  plain = source-unmarked name plain;
  is_closed = refl;
  packless = λ scope. refl;
  no_structor = λ t. refl;
}

-- arguments after a source name are in brackets
pub source-opening : (internal : Bool) (name : List ℕ) → opening_text (source internal name) ≡ codes "<"
unfolding opening_text
source-opening internal name = refl

-- an operator is a piece
pub operator-piece : {detail : Detail} (a b : ℕ) → IsPiece detail (operator a b) (operator_text a b)
unfolding within_parts base_within base_tagged own_piece without_tags piece_parts is_open pack_length is_structor
operator-piece {detail} a b = record {
  piece_text = λ c. operator-text detail c a b;
  piece_cost = λ c. operator-cost detail c a b;
  within_is = λ c t. refl;
  base_is = λ c t. refl;
  tagged_is = λ c t. refl;
  filled = omega (arith, length-append (codes "operator") (look_up (a ∷ b ∷ []) operator_texts));
  plain = operator-unmarked a b;
  is_closed = refl;
  packless = λ scope. refl;
  no_structor = λ t. refl;
}

-- arguments after an operator other than << and < are in brackets, with no blank before the brackets
pub operator-opening : (a b : ℕ) → is_angle a b ≡ false → opening_text (operator a b) ≡ codes "<"
unfolding opening_text
operator-opening a b plain = rw plain refl

-- what is written of a piece within a scope: the scope's text in some form, colons and the piece
pub within-text : (detail : Detail) (c : Context) (form : Form) (context : Context) (t : Term) (b : List ℕ) → text_of (written_of detail form context t) ≡ b
    → (p : Term) (x : List ℕ) → within_parts c t p ≡ joined_to form context c t p
    → text_of (written_of detail piece c p) ≡ x → text_of (written_of detail left c (within t p)) ≡ b ++ codes "::" ++ x
unfolding parts_in left_parts not_empty
within-text detail c form context t b text_is p x component piece_is =
    text_shown detail left c (within t p) (joined_to form context c t p) component refl
    ∙ joins (text_of (written_of detail form context t)) (codes "::") (text_of (written_of detail piece c p)) b x text_is piece_is

pub within-cost : (detail : Detail) (c : Context) (form : Form) (context : Context) (t p : Term) → within_parts c t p ≡ joined_to form context c t p
    → cost_of (written_of detail left c (within t p)) ≡ cost_of (written_of detail form context t) + 3 + cost_of (written_of detail piece c p)
unfolding parts_in left_parts not_empty
within-cost detail c form context t p component = omega (arith, cost_shown detail left c (within t p) (joined_to form context c t p) component refl)

-- A piece in a class or a namespace prints its scope and itself in a context.
within-in : {detail : Detail} (c : Context) (extra : ℕ) (t : Term) (b : List ℕ) → PrintsIn detail c extra t b false
    → (p : Term) (x : List ℕ) → component_parts c t p ≡ joined_to left c c t p → IsPiece detail p x → PrintsIn detail c extra (within t p) (b ++ codes "::" ++ x) false
unfolding parts_in right_parts not_empty besides
within-in {detail} c extra t b prints p x prefix is =
    let w = within t p in
    own-in c extra w (b ++ codes "::" ++ x) (within-text detail c left c t b prints.left_text p x (is.within_is c t ∙ prefix) (is.piece_text c))
    (omega (
      arith,
      prints.cost,
      within-cost detail c left c t p (is.within_is c t ∙ prefix),
      is.piece_cost c,
      cost_shown detail right c w [] refl refl,
      is.filled,
      length-append {A = ℕ},
    )) (omega (arith, length-append (b ++ codes "::") x, length-append b (codes "::"))) refl

-- A piece in a class or a namespace names something by the texts of its scope and itself.
pub within-names : {detail : Detail} (t : Term) (b : List ℕ) → Prints detail t b false → (p : Term) (x : List ℕ) → IsPiece detail p x
    → PrintsName detail (within t p) (b ++ codes "::" ++ x)
within-names t b prints p x is = record {
  left_text = λ c. (within-in c 0 t b (prints-in c 0 t b false prints) p x (prints.as_prefix c p) is).left_text;
  cost = λ c. omega (arith, (within-in c 0 t b (prints-in c 0 t b false prints) p x (prints.as_prefix c p) is).cost);
}

-- A piece in a class or a namespace prints its scope and itself anywhere.
pub within-prints : {detail : Detail} (t : Term) (b : List ℕ) → Prints detail t b false → (p : Term) (x : List ℕ) → IsPiece detail p x → opening_text p ≡ codes "<"
    → Prints detail (within t p) (b ++ codes "::" ++ x) false
unfolding is_open pack_length last_piece besides first_of
within-prints t b prints p x is opening =
    own-prints (within t p) (b ++ codes "::" ++ x) (within-names t b prints p x is) (rw (prints.is_closed, is.is_closed) refl)
    (λ scope. rw (prints.packless scope, is.packless scope) refl) opening (λ c. refl)

-- A piece in a class or a namespace prints its scope and itself where parameters name arguments with these texts.
pub within-as : (detail : Detail) (names : Names) (is_dependent : Bool) (t : Term) (b : List ℕ) → PrintsAs detail names is_dependent t b false
    → (p : Term) (x : List ℕ) → IsPiece detail p x → opening_text p ≡ codes "<" → PrintsAs detail names is_dependent (within t p) (b ++ codes "::" ++ x) false
unfolding pack_length last_piece first_of is_function_type length_if_pack prefix_item component_parts
within-as detail names false t b prints p x is opening = within-prints t b prints p x is opening
within-as detail names true t b prints p x is opening =
    made-given names (within t p) (b ++ codes "::" ++ x) false (λ c given. within-in c 3 t b (prints.prints c given) p x (prints.as_prefix c p) is)
    (λ arguments single. rw (prints.packless arguments single, is.packless arguments) refl) refl refl (λ c p. refl) opening

-- A piece in a scope names its class without the scope.
pub within-class : {detail : Detail} (t : Term) (b : List ℕ) → Prints detail t b false → (p : Term) (x : List ℕ) → IsPiece detail p x
    → NamesClass detail (within t p) x
unfolding parts_in base_parts
within-class t b prints p x is = base-names (within t p) (b ++ codes "::" ++ x) x (within-names t b prints p x is) (λ c. is.base_is c t) (λ c. refl) is.plain

-- ## Constructors and destructors

-- A constructor prints the name of its class.
pub constructor-prints : {detail : Detail} (t : Term) (b class : List ℕ) → Prints detail t b false → NamesClass detail t class → (digit : ℕ)
    → Prints detail (within t (constructor digit)) (b ++ codes "::" ++ class) false
unfolding parts_in left_parts right_parts piece_parts not_empty is_open pack_length last_piece opening_text besides within_parts first_of
constructor-prints {detail} t b class p n digit =
    let w = within t (constructor digit) in
    own-prints w (b ++ codes "::" ++ class) (record {
      left_text = λ c. text_shown detail left c w (as_item left c t ∷ says "::" ∷ as_item base c t ∷ []) refl refl
          ∙ joins (text_of (written_of detail left c t)) (codes "::") (text_of (written_of detail base c t)) b class (p.left_text c) (n.base_text c);
      cost = λ c. omega (
        arith,
        n.base_cost c,
        ap length (p.left_text c),
        cost_shown detail right c w [] refl refl,
        cost_shown detail left c w (as_item left c t ∷ says "::" ∷ as_item base c t ∷ []) refl refl,
        length-append {A = ℕ},
      );
    }) (rw p.is_closed refl) (λ scope. rw (p.packless scope) refl) refl (λ c. refl)

-- A destructor prints the name of its class after a tilde.
pub destructor-prints : {detail : Detail} (t : Term) (b class : List ℕ) → Prints detail t b false → NamesClass detail t class → (digit : ℕ)
    → Prints detail (within t (destructor digit)) (b ++ codes "::~" ++ class) false
unfolding parts_in left_parts right_parts piece_parts not_empty is_open pack_length last_piece opening_text besides within_parts first_of
destructor-prints {detail} t b class p n digit =
    let w = within t (destructor digit) in
    own-prints w (b ++ codes "::~" ++ class) (record {
      left_text = λ c. text_shown detail left c w (as_item left c t ∷ says "::~" ∷ as_item base c t ∷ []) refl refl
          ∙ joins (text_of (written_of detail left c t)) (codes "::~") (text_of (written_of detail base c t)) b class (p.left_text c) (n.base_text c);
      cost = λ c. omega (
        arith,
        n.base_cost c,
        ap length (p.left_text c),
        cost_shown detail right c w [] refl refl,
        cost_shown detail left c w (as_item left c t ∷ says "::~" ∷ as_item base c t ∷ []) refl refl,
        length-append {A = ℕ},
      );
    }) (rw p.is_closed refl) (λ scope. rw (p.packless scope) refl) refl (λ c. refl)

-- ## Names with arguments

-- what is written of an instance
written-is : (shown : Bool) (c : Context) (t arguments : Term) → opening_text (last_piece t) ≡ codes "<" → written_instance shown c t arguments
    ≡ (as_item left c t ∷ text (opening_byte shown ∷ []) ∷ list_part first c arguments) ++ (text (closing_byte shown ∷ []) ∷ [])
unfolding instance_parts
written-is true c t arguments e = ap (λ o. (as_item left c t ∷ text o ∷ list_part first c arguments) ++ (says ">" ∷ [])) e
written-is false c t arguments e = refl

instance-is : (detail : Detail) (c : Context) (t arguments : Term) → opening_text (last_piece t) ≡ codes "<" → written_of detail left c (instance t arguments)
    ≡ printed_by detail ((as_item left c t ∷ text (opening_bracket detail) ∷ list_part first c arguments) ++ (text (closing_bracket detail) ∷ []))
instance-is detail c t arguments e =
    writes_parts detail left c (instance t arguments) ∙ ap (λ ps. printed_by detail ps) (written-is (has_arguments detail) c t arguments e)

bracketed : (o e b k x y : List ℕ) → x ≡ b → y ≡ k → (x ++ (o ++ y)) ++ e ≡ b ++ o ++ k ++ e
bracketed o e b k x y f g = rw (f, g) (ap (λ s. s ++ e) (sym (append_assoc b o k)))

-- the elements of a list are one item or none
list-printed : (detail : Detail) (c : Context) (arguments : Term)
    → shown_by detail (list_part first c arguments) ≡ printed_by detail (list_part first c arguments)
list-printed detail c arguments = ap (λ ps. printed_by detail ps) (list-unmarked (has_arguments detail) first c arguments)

instance-text : (detail : Detail) (c : Context) (t : Term) (b : List ℕ) → text_of (written_of detail left c t) ≡ b → opening_text (last_piece t) ≡ codes "<"
    → (ts : List Term) (tail : Term) (l : List ℕ) → IsTail tail → PrintAllIn detail c 3 ts l
    → text_of (written_of detail left c (instance t (list_with ts tail))) ≡ b ++ opening_bracket detail ++ l ++ closing_bracket detail
unfolding not_empty
instance-text detail c t b text_is opening ts tail l is all =
    let arguments = list_part first c (list_with ts tail) in
    ap text_of (instance-is detail c t (list_with ts tail) opening)
    ∙ text-append detail (as_item left c t ∷ text (opening_bracket detail) ∷ arguments) (text (closing_bracket detail) ∷ [])
    ∙ bracketed (opening_bracket detail) (closing_bracket detail) b l (text_of (written_of detail left c t)) (text_of (printed_by detail arguments)) text_is
    (sym (ap text_of (list-printed detail c (list_with ts tail))) ∙ list-text-before detail c 3 ts tail l is all)

instance-cost : (detail : Detail) (c : Context) (t : Term) → opening_text (last_piece t) ≡ codes "<"
    → (ts : List Term) (tail : Term) (l : List ℕ) → IsTail tail → PrintAllIn detail c 3 ts l
    → cost_of (written_of detail left c (instance t (list_with ts tail))) ≤ cost_of (written_of detail left c t) + 7 + 4 * length l
unfolding not_empty
instance-cost detail c t opening ts tail l is all =
    let ps = as_item left c t ∷ text (opening_bracket detail) ∷ list_part first c (list_with ts tail) in
    omega (
      arith,
      ap cost_of (instance-is detail c t (list_with ts tail) opening),
      cost-append detail ps (text (closing_bracket detail) ∷ []),
      ap cost_of (list-printed detail c (list_with ts tail)),
      list-cost-before detail c 3 ts tail l (omega arith) is all,
    )

-- A name with arguments prints them in brackets in a context.
instance-in : {detail : Detail} (c : Context) (extra : ℕ) (t : Term) (b : List ℕ) → PrintsIn detail c extra t b false → opening_text (last_piece t) ≡ codes "<"
    → (ts : List Term) (tail : Term) (l : List ℕ) → IsTail tail → PrintAllIn detail c 3 ts l
    → PrintsIn detail c extra (instance t (list_with ts tail)) (b ++ opening_bracket detail ++ l ++ closing_bracket detail) false
unfolding parts_in right_parts not_empty besides
instance-in {detail} c extra t b p opening ts tail l is all =
    let i = instance t (list_with ts tail) in
    own-in c extra i (b ++ opening_bracket detail ++ l ++ closing_bracket detail) (instance-text detail c t b p.left_text opening ts tail l is all)
    (omega (
      arith,
      p.cost,
      instance-cost detail c t opening ts tail l is all,
      cost_shown detail right c i [] refl refl,
      length-append {A = ℕ},
    )) (omega (arith, p.some, length-append {A = ℕ})) refl

-- A name with arguments prints them in brackets anywhere.
pub instance-prints : {detail : Detail} (t : Term) (b : List ℕ) → Prints detail t b false
    → (ts : List Term) (tail : Term) (l : List ℕ) → IsTail tail → PrintAll detail 3 ts l
    → Prints detail (instance t (list_with ts tail)) (b ++ opening_bracket detail ++ l ++ closing_bracket detail) false
unfolding is_open pack_length length_if_pack prefix_item component_parts last_piece opening_text is_plain_integer first_of
instance-prints {detail} t b p ts tail l is all =
    made-prints (instance t (list_with ts tail)) (b ++ opening_bracket detail ++ l ++ closing_bracket detail) false
    (λ c. instance-in c 0 t b (prints-in c 0 t b false p) p.opening ts tail l is (all-in detail c 3 ts l all))
    (rw (p.is_closed, list-closed detail 3 ts tail l is all) refl) (λ scope. rw (p.packless scope, list-packless detail scope 3 ts tail l is all) refl)
    refl (λ c p. refl) refl (λ e. cc e) (λ e. cc e)

-- A name with arguments prints them in brackets where parameters name arguments with these texts.
pub instance-as : (detail : Detail) (names : Names) (is_dependent : Bool) (t : Term) (b : List ℕ) → PrintsAs detail names is_dependent t b false
    → (ts : List Term) (tail : Term) (l : List ℕ) → IsTail tail → PrintAllAs detail names is_dependent 3 ts l
    → PrintsAs detail names is_dependent (instance t (list_with ts tail)) (b ++ opening_bracket detail ++ l ++ closing_bracket detail) false
unfolding pack_length is_function_type length_if_pack prefix_item component_parts last_piece opening_text first_of
instance-as detail names false t b p ts tail l is all = instance-prints t b p ts tail l is all
instance-as detail names true t b p ts tail l is all =
    made-given names (instance t (list_with ts tail)) (b ++ opening_bracket detail ++ l ++ closing_bracket detail) false
    (λ c given. instance-in c 3 t b (p.prints c given) p.opening ts tail l is (all-as-in detail names true c 3 ts l given all))
    (λ arguments single. rw (p.packless arguments single, list-packless-as detail names true arguments 3 ts tail l single is all) refl)
    refl refl (λ c p. refl) refl

-- A name with arguments names its class as it does without them.
pub instance-class : {detail : Detail} (t : Term) (b class : List ℕ) → Prints detail t b false → NamesClass detail t class
    → (ts : List Term) (tail : Term) (l : List ℕ) → IsTail tail → PrintAll detail 3 ts l → NamesClass detail (instance t (list_with ts tail)) class
unfolding parts_in right_parts base_parts not_empty
instance-class {detail} t b class p n ts tail l is all = let i = instance t (list_with ts tail) in record {
  base_text = λ c. text_shown detail base c i (as_item base c t ∷ []) refl refl ∙ append-nil (text_of (written_of detail base c t)) ∙ n.base_text c;
  base_cost = λ c. omega (
    arith,
    n.base_cost c,
    ap length (p.left_text c),
    instance-cost detail c t p.opening ts tail l is (all-in detail c 3 ts l all),
    cost_shown detail right c i [] refl refl,
    cost_shown detail base c i (as_item base c t ∷ []) refl refl,
    ap length (instance-text detail c t b (p.left_text c) p.opening ts tail l is (all-in detail c 3 ts l all)),
    length-append {A = ℕ},
  );
}

-- ## Tags

-- the text after a name that has a tag
behind-text : (detail : Detail) (tag : List ℕ) → IsUnmarked tag → text_of (shown_by detail (says "[abi:" ∷ text tag ∷ says "]" ∷ [])) ≡ tag_text tag
unfolding not_empty
behind-text detail tag plain = ap (λ l. codes "[abi:" ++ l) (first_shown detail tag (says "]" ∷ []) plain)

behind-cost : (detail : Detail) (tag : List ℕ) → cost_of (shown_by detail (says "[abi:" ∷ text tag ∷ says "]" ∷ [])) ≡ 7 + length tag
unfolding not_empty
behind-cost detail tag = omega (arith, first_cost_shown detail tag (says "]" ∷ []))

tag-length : (b tag : List ℕ) → length (b ++ tag_text tag) ≡ length b + 6 + length tag
tag-length b tag = omega (arith, length-append b (tag_text tag), length-append (codes "[abi:" ++ tag) (codes "]"), length-append (codes "[abi:") tag)

tagged-left : (detail : Detail) (of_structor : Bool) (t : Term) (b tag : List ℕ) → IsUnmarked tag → (c : Context) → text_of (written_of detail left c t) ≡ b
    → text_of (written_of detail left c (tagged of_structor t tag)) ≡ b ++ tag_text tag
unfolding parts_in left_parts not_empty
tagged-left detail of_structor t b tag plain c text_is =
    text_shown detail left c (tagged of_structor t tag) (as_item left c t ∷ says "[abi:" ∷ text tag ∷ says "]" ∷ []) refl refl
    ∙ ap (λ l. text_of (written_of detail left c t) ++ l) (behind-text detail tag plain) ∙ ap (λ l. l ++ tag_text tag) text_is

tagged-cost : (detail : Detail) (of_structor : Bool) (t : Term) (tag : List ℕ) (c : Context)
    → cost_of (written_of detail left c (tagged of_structor t tag)) ≡ cost_of (written_of detail left c t) + 7 + length tag
unfolding parts_in left_parts not_empty
tagged-cost detail of_structor t tag c = omega (
  arith,
  cost_shown detail left c (tagged of_structor t tag) (as_item left c t ∷ says "[abi:" ∷ text tag ∷ says "]" ∷ []) refl refl,
  behind-cost detail tag,
)

tagged-costs : (detail : Detail) (extra : ℕ) (of_structor : Bool) (t : Term) (b tag : List ℕ) (c : Context)
    → 1 + cost_of (written_of detail left c t) + cost_of (written_of detail right c t) ≤ extra + 4 * length b
    → 1 + cost_of (written_of detail left c (tagged of_structor t tag)) + cost_of (written_of detail right c (tagged of_structor t tag))
    ≤ extra + 4 * length (b ++ tag_text tag)
unfolding parts_in right_parts not_empty
tagged-costs detail extra of_structor t b tag c cost =
    omega (arith, cost, tagged-cost detail of_structor t tag c, cost_shown detail right c (tagged of_structor t tag) [] refl refl, tag-length b tag)

-- A name with a tag prints the tag after itself.
pub tagged-names : {detail : Detail} (of_structor : Bool) (t : Term) (b : List ℕ) → PrintsName detail t b → (tag : List ℕ) → IsUnmarked tag
    → PrintsName detail (tagged of_structor t tag) (b ++ tag_text tag)
tagged-names {detail} of_structor t b p tag plain = record {
  left_text = λ c. tagged-left detail of_structor t b tag plain c (p.left_text c);
  cost = λ c. omega (arith, tagged-costs detail 0 of_structor t b tag c (omega (arith, p.cost c)));
}

-- A type with a tag prints the tag after itself.
pub tagged-prints : {detail : Detail} (of_structor : Bool) (t : Term) (b : List ℕ) → Prints detail t b false → (tag : List ℕ) → IsUnmarked tag
    → Prints detail (tagged of_structor t tag) (b ++ tag_text tag) false
unfolding parts_in left_parts right_parts piece_parts not_empty is_open pack_length last_piece opening_text besides
tagged-prints {detail} of_structor t b p tag plain =
    let n = tagged-names of_structor t b (record { left_text = p.left_text; cost = p.cost }) tag plain in
    own-prints (tagged of_structor t tag) (b ++ tag_text tag) n p.is_closed p.packless refl (λ c. refl)

-- A type with a tag prints the tag after itself where parameters name arguments with these texts.
pub tagged-as : (detail : Detail) (names : Names) (is_dependent of_structor : Bool) (t : Term) (b : List ℕ) → PrintsAs detail names is_dependent t b false
    → (tag : List ℕ) → IsUnmarked tag → PrintsAs detail names is_dependent (tagged of_structor t tag) (b ++ tag_text tag) false
unfolding besides pack_length last_piece opening_text is_function_type length_if_pack prefix_item component_parts
tagged-as detail names false of_structor t b p tag plain = tagged-prints of_structor t b p tag plain
tagged-as detail names true of_structor t b p tag plain =
    let w = tagged of_structor t tag in
    made-given names w (b ++ tag_text tag) false
    (λ c given. own-in c 3 w (b ++ tag_text tag) (tagged-left detail of_structor t b tag plain c (p.prints c given).left_text)
    (tagged-costs detail 3 of_structor t b tag c (p.prints c given).cost) (omega (arith, (p.prints c given).some, length-append b (tag_text tag))) refl)
    p.packless refl refl (λ c p. refl) refl

-- a tagged name in another name
pub within-tagged : {detail : Detail} (t : Term) (b : List ℕ) → Prints detail t b false → (p : Term) (x : List ℕ) → IsPiece detail p x
    → (tag : List ℕ) → IsUnmarked tag → NamesClass detail (with_tag (within t p) tag) x
unfolding with_tag parts_in base_parts base_tagged not_empty
within-tagged t b prints p x is tag plain =
    let own : Term = within t p in
    let bytes = b ++ codes "::" ++ x in
    base-names (with_tag own tag) (bytes ++ tag_text tag) x (tagged-names (is_structor own) own bytes (within-names t b prints p x is) tag plain)
    (λ c. is.tagged_is c t) (λ c. refl) is.plain

-- a tagged name in std
pub std-tagged : {detail : Detail} (internal : Bool) (name : List ℕ) → name ≢ [] → IsUnmarked name → (tag : List ℕ) → IsUnmarked tag
    → NamesClass detail (with_tag (in_std (source internal name)) tag) (source_text name)
unfolding with_tag parts_in base_parts base_tagged own_piece without_tags is_structor piece_parts not_empty
std-tagged internal name filled plain tag tag_plain =
    let own : Term = in_std (source internal name) in
    let b = codes "std::" ++ source_text name in
    base-names (with_tag own tag) (b ++ tag_text tag) (source_text name)
    (tagged-names (is_structor own) own b (as-name own b false (std-prints internal name filled plain)) tag tag_plain) (λ c. refl) (λ c. refl) (source-unmarked name plain)

-- a name with one more tag names its class as before, if the name has the same text at the base and costs at most one
-- more
again-by : {detail : Detail} (of_structor : Bool) (t : Term) (b : List ℕ) → Prints detail t b false → (before tag class : List ℕ) → IsUnmarked before → IsUnmarked tag
    → NamesClass detail (tagged of_structor t before) class
    → ((c : Context) → text_of (written_of detail base c (tagged of_structor (tagged of_structor t before) tag)) ≡ text_of (written_of detail base c (tagged of_structor t before)))
    → ((c : Context) → cost_of (written_of detail base c (tagged of_structor (tagged of_structor t before) tag)) ≤ 1 + cost_of (written_of detail base c (tagged of_structor t before)))
    → NamesClass detail (tagged of_structor (tagged of_structor t before) tag) class
unfolding parts_in right_parts not_empty
again-by {detail} of_structor t b p before tag class first_plain plain n text_is cost_is =
    let own : Term = tagged of_structor t before in
    let prints = tagged-prints of_structor t b p before first_plain in
    record {
      base_text = λ c. text_is c ∙ n.base_text c;
      base_cost = λ c. omega (
        arith,
        n.base_cost c,
        cost_is c,
        tagged-cost detail of_structor own tag c,
        cost_shown detail right c (tagged of_structor own tag) [] refl refl,
        cost_shown detail right c own [] refl refl,
        ap length (tagged-left detail of_structor own (b ++ tag_text before) tag plain c (prints.left_text c)),
        ap length (prints.left_text c),
        tag-length (b ++ tag_text before) tag,
      );
    }

pub again-tagged : {detail : Detail} (of_structor : Bool) (t : Term) (b : List ℕ) → Prints detail t b false → (before tag class : List ℕ) → IsUnmarked before → IsUnmarked tag
    → NamesClass detail (tagged of_structor t before) class → NamesClass detail (with_tag (tagged of_structor t before) tag) class
unfolding with_tag parts_in base_parts base_tagged without_tags is_structor not_empty
again-tagged {detail} true t b p before tag class first_plain plain n =
    let own : Term = tagged true t before in
    again-by true t b p before tag class first_plain plain n
    (λ c. text_shown detail base c (tagged true own tag) (as_item base c own ∷ []) refl refl ∙ append-nil (text_of (written_of detail base c own)))
    (λ c. omega (arith, cost_shown detail base c (tagged true own tag) (as_item base c own ∷ []) refl refl))
again-tagged {detail} false t b p before tag class first_plain plain n =
    let own : Term = tagged false t before in
    again-by false t b p before tag class first_plain plain n
    (λ c. text_shown detail base c (tagged false own tag) (piece_parts c (own_piece (without_tags t))) refl refl
    ∙ sym (text_shown detail base c own (piece_parts c (own_piece (without_tags t))) refl refl))
    (λ c. omega (
      arith,
      cost_shown detail base c (tagged false own tag) (piece_parts c (own_piece (without_tags t))) refl refl,
      cost_shown detail base c own (piece_parts c (own_piece (without_tags t))) refl refl,
    ))
