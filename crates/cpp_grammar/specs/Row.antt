-- What a row says of a production: what is done before its parts, what it denotes, and what becomes a candidate once they are
-- read. A part is named by its number. A row holds no tree and no function, so rows are the same for each sort of trees.
use Rattle.std.specs.Prelude.{ℕ, ◌+◌, List, [], ◌∷◌, get_or, Bool}
use Rattle.cpp_grammar.specs.Makers.{Maker}

-- where an argument of a tree comes from: a part, the name so far, the byte that the production takes, or the row itself
pub data Source : Type 0 where
  tree_at : ℕ → Source
  -- a list, which is absent where it has no items; and the list of a function's parameters, where a lone void is no parameter
  list_at : ℕ → Source
  parameters_at : ℕ → Source
  piece_at : ℕ → Source
  the_name : Source
  no_tree : Source
  text_at : ℕ → Source
  -- a text of digits without zeros in front
  digits_at : ℕ → Source
  -- the code of a builtin type: these bytes, and the byte that the production takes
  code : (front : List ℕ) → Source
  taken : Source
  fixed : ℕ → Source
  letter_at : ℕ → Source
  -- the letter of a part, or the byte that the production takes if the part has no letter
  letter_or_taken : ℕ → Source
  -- the letter of a part, or this letter if the part has none
  letter_or : ℕ → (other : ℕ) → Source
  -- the letters of the operator in a part
  operator_first_at : ℕ → Source
  operator_second_at : ℕ → Source
  -- the number of a lambda or an unnamed type
  number_at : ℕ → Source
  yes : Source
  no : Source
  -- whether a part is present, and whether its letter is this one
  there_at : ℕ → Source
  letter_is : ℕ → (letter : ℕ) → Source
  qualifiers_at : ℕ → Source
  qualified_by : (restrict volatile const : Source) → Source
  ref_at : ℕ → Source
  signed_at : ℕ → Source
  discriminator_at : ℕ → Source

-- a tree that a row makes
pub data Made : Type 0 where
  of : Maker → List Source → Made
  -- an existing tree
  only : Source → Made
  -- the name so far with one more piece, or with one more tag
  extending : Made → Made
  tagging : (text : ℕ) → Made
  -- a name with the arguments in a part, if that is present
  applying : Made → (arguments : ℕ) → Made
  -- a pack of the elements in a part
  packing : ℕ → Made

-- Whether a tree is marked as listed: as one that is a candidate already, or never becomes one. A name that something is added to
-- becomes a candidate unless it is listed.
pub data Listing : Type 0 where
  listed : Listing
  unlisted : Listing
  as_part : ℕ → Listing
  -- listed unless this part is present
  unless_there : ℕ → Listing
  as_part_alone : ℕ → (arguments : ℕ) → Listing

-- what productions with code of their own denote: specs/Own
pub data Own : Type 0 where
  nested_name : Own
  encoding : Own
  non_virtual_thunk : Own
  virtual_thunk : Own
  covariant_thunk : Own
  local_name : Own
  in_default : Own
  nest_end : Own
  closure : Own
  declared_before : Own
  inheriting : Own
  by_letters : Own
  enclosed : Own
  elements : Own
  substitution : Own
  first_of_operator : Own
  reference : Own
  lvalue_signature : Own
  rvalue_signature : Own
  no_parameters : Own
  no_value : Own
  character : Own
  suffix : Own
  non_virtual_offset : Own
  virtual_offset : Own
  negative : Own
  positive : Own
  one_digit : Own
  many_digits : Own

-- what a production denotes
pub data Form : Type 0 where
  -- what a part denotes; and the same tree, which is a candidate by now
  handed : ℕ → Form
  finished : ℕ → Form
  -- what a part denotes, or what another part denotes if the first is absent
  either : (part other : ℕ) → Form
  -- the byte that the production takes
  the_byte : Form
  -- a tree, a piece of a name, a cell of a list, one more item of a signature
  makes : Made → Listing → Form
  a_piece : Made → Form
  -- a letter and two trees
  a_pair : (letter : Source) → (left right : Made) → Form
  cell : (first rest : ℕ) → Form
  item : (first rest : ℕ) → Form
  -- the first part with the arguments in the second, if that is present; likewise a tagged name, which takes the place
  -- of another name
  a_name : Listing → Form
  in_place : Form
  -- what the production's own code denotes; that code makes at most this many nodes
  own : Own → (most : ℕ) → Form

-- what surrounds a part
pub data Where : Type 0 where
  as_before : Where
  in_its_name : Where
  in_its_types : Where
  in_a_signature : Where
  -- under an expansion
  under_it : Where
  -- where no name begins yet
  nameless : Where
  -- in a name: the name so far is the tree in this part, or stays what it was before
  after_part : ℕ → Listing → Where
  after_the_name : Where

-- what becomes a candidate
pub data Gain : Type 0 where
  nothing : Gain
  -- the name so far
  the_prefix : Gain
  -- the type in a part, unless it is listed; and likewise unless it is a function type, which is no candidate under qualifiers
  -- written before it
  type_of : ℕ → Gain
  unqualified_of : ℕ → Gain
  -- what the production denotes
  itself : Gain

-- what is done before a part
pub data Action : Type 0 where
  quiet : Action
  goes : Gain → Where → Action
  -- the first part becomes this tree, which may be the name so far, and may become a candidate
  becomes : Made → (is_in is_name is_candidate : Bool) → Action
  -- the first part is the number of a parameter, which is tested at the place, or at the T before it; the parameter may be the
  -- name so far
  tests : (after_t is_name : Bool) → Action
  -- the first part is an M after the name so far
  holds : Action
  -- what the reading of the ABI's grammar refuses
  unread : Action

pub record Row : Type 0 where
  -- what is done before each of the first parts, and before each of the others
  pub before : List Action
  pub onward : Action
  pub form : Form
  pub gain : Gain
  -- the packs of the surroundings are restored at the end
  pub restores_packs : Bool
  -- the number in the production's last token has 64 bits: this is tested first
  pub tests_number : Bool

-- ## Counts

-- The number of parts before which nothing is done: none, the first ones, or all, at most five
unfoldable pub quiet_from : List Action → Action → (n : ℕ) → ℕ
quiet_from [] quiet n = 5
quiet_from [] onward n = n
quiet_from (quiet ∷ rest) onward n = quiet_from rest onward (n + 1)
quiet_from (b ∷ rest) onward n = n

unfoldable pub quiet_before : Row → ℕ
quiet_before row = quiet_from row.before row.onward 0

unfoldable pub before_part : Row → ℕ → Action
before_part row n = get_or row.before n row.onward

-- how many nodes are made at most for a tree, before a part, and at the end
unfoldable pub most_made : Made → ℕ
most_made (only source) = 0
most_made m = 1

unfoldable pub most_before : Action → ℕ
most_before (becomes m is_in is_name is_candidate) = most_made m
most_before (tests after_t is_name) = 1
most_before holds = 1
most_before _ = 0

unfoldable pub most_at_end : Form → ℕ
most_at_end (makes m listing) = most_made m
most_at_end (a_pair letter left right) = most_made left + most_made right
most_at_end (cell first rest) = 1
most_at_end (item first rest) = 1
most_at_end (a_name listing) = 1
most_at_end in_place = 1
most_at_end (own o most) = most
most_at_end _ = 0
