-- How many nodes are made of a symbol: a reading that counts them besides what it reads.
use Rattle.std.specs.Prelude.{◌≡◌, ℕ, ◌+◌, List, Ok}
use Rattle.sym_shape.specs.Tree.{Tree, Forest, branch, empty, token, fixed, nothing, grown}
use Rattle.sym_link.specs.Reading.{Open, Reading, ◌>>=◌}
use Rattle.sym_link.specs.Unfold.{found}
use Rattle.sym_link.specs.Linking.{View}

-- a state, and how many nodes have been made so far
pub record Tally (S : Type 0) : Type 0 where
  pub state : S
  pub nodes : ℕ

abbrev pub tally : {S : Type 0} → S → ℕ → Tally S
tally state nodes = record { state = state; nodes = nodes }

-- How many nodes a rule makes before its next part, and where it closes, if its parts so far have these values.
pub record Makes (V S C : Type 0) : Type 0 where
  pub before : Open S C → (known : List V) → S → ℕ
  pub at_end : Open S C → (known : List V) → S → ℕ

-- the rule without the count in its state
abbrev pub untallied : {S C : Type 0} → Open (Tally S) C → Open S C
untallied rule = record { rule = rule.rule; taken = rule.taken; place = rule.place; context = rule.context; before = rule.before.state }

-- The same reading, which counts the nodes that are made.
abbrev pub tallied : {V S C : Type 0} → Reading V S C → Makes V S C → Reading V (Tally S) C
tallied reading makes = record {
  rowless = reading.rowless;
  token = λ place t now. reading.token place t now.state >>= λ one. Ok (found one.value (tally one.state now.nodes));
  begin = λ rule parts. reading.begin (untallied rule) parts >>= λ state. Ok (tally state rule.before.nodes);
  between = λ rule known now.
      reading.between (untallied rule) known now.state
      >>= λ next. Ok (record { context = next.context; values = next.values; state = tally next.state (now.nodes + makes.before (untallied rule) known now.state) });
  close = λ rule known now.
      reading.close (untallied rule) known now.state
      >>= λ one. Ok (found one.value (tally one.state (now.nodes + makes.at_end (untallied rule) known now.state)));
}

-- The same language, with as many nodes as its reading makes.
abbrev pub tallied_view : {N P K V S C : Type 0} → View N P K V S C → Makes V S C → View N P K V (Tally S) C
tallied_view view makes = record {
  table = view.table;
  reading = tallied view.reading makes;
  around = view.around;
  first = tally view.first 0;
  IsPart = view.IsPart;
  IsKept = λ nodes kept rule. view.IsKept nodes kept (untallied rule);
  Holds = λ nodes now. view.Holds nodes now.state × (view.size nodes ≡ now.nodes);
  Grows = view.Grows;
  size = view.size;
  owes = view.owes;
  closes = view.closes;
  most = view.most;
  IsPaid = view.IsPaid;
  lists = view.lists;
  TakesMemory = view.TakesMemory;
}

-- ## A language that makes nodes only where rules close, as many as the rule's number says

abbrev pub closing_makes : {V S C : Type 0} → (number : ℕ → ℕ) → Makes V S C
closing_makes number = record { before = λ rule known state. 0; at_end = λ rule known state. number rule.rule.number }

-- what the rules of a tree make
abbrev mutual
  pub nodes_in : (number : ℕ → ℕ) → Tree → ℕ
  nodes_in number (branch rule taken parts) = nodes_in_all number parts + number rule.number
  nodes_in number empty = 0
  nodes_in number (token t) = 0
  nodes_in number (fixed byte) = 0

  pub nodes_in_all : (number : ℕ → ℕ) → Forest → ℕ
  nodes_in_all number nothing = 0
  nodes_in_all number (grown first rest) = nodes_in number first + nodes_in_all number rest
