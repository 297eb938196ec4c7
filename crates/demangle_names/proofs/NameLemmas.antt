-- The lines of names, one by one.
use Rattle.std.proofs.Common.{◌≡◌, ◌≢◌, ◌∙◌, ℕ, Bool, ◌||◌, List, [], ◌∷◌, ◌++◌, Option, None, Some, Result, Ok, Err, refl, sym, ap, ap₂, subst, false, true}
use Rattle.std.specs.Prelude.{◌&&◌, IfOk, OnErr, OnOk}
use Rattle.std.specs.List.{flat_map, list_any}
use Rattle.std.specs.Io.KnownBytes.{Appends}
use Rattle.std.proofs.lemmas.Grind.{flat_map-append}
use Rattle.std.proofs.lemmas.List.{append-nil}
use Rattle.std.proofs.lemmas.List.Folds.{list_any-append}
use Rattle.sym_filter.specs.declared.kinds.Letters.TheVariants.{Within}
use Rattle.sym_filter.specs.declared.words.Tally.{Tally}
use Rattle.sym_filter.specs.Runs.{Answering, tally_at}
use Rattle.sym_filter.specs.Streams.{BeginsWith, PutsFront}
use Rattle.sym_filter.proofs.StreamLemmas.{Appends-none, Appends-join}
use Rattle.sym_command.specs.Command.{Took}
use Rattle.sym_core.specs.declared.refusal.Refusal.{Refusal}
use Rattle.sym_core.specs.declared.refusal.Refusal.TheVariants.{Memory}
use Rattle.sym_command.specs.Lines.{reason_of}
use Rattle.demangle_names.specs.Names.{FiltersSome, filtered, LineFront, NameFront, NameFrontBy, NamesFront, line_of, name_stays, reason_by, said_for, said_if, said_of, stays_by, stays_for, written_for}

-- what a function gives for some names and one more name, joined in order
pub flat-more : (f : List ℕ → List ℕ) (names all : List (List ℕ)) (name : List ℕ) → all ≡ names ++ name ∷ [] → flat_map f all ≡ flat_map f names ++ f name
flat-more f names all name e = ap (flat_map f) e ∙ flat_map-append f names (name ∷ []) ∙ ap (λ (t : List ℕ). flat_map f names ++ t) (append-nil (f name))

-- ## A name

-- whether a name stays, by the tally of its line
pub stays-line : (answers : Answering) (name line : List ℕ) (tally : Tally) (left : Bool) → line ≡ line_of name → tally ≡ tally_at Within answers line → left ≡ stays_by tally → left ≡ name_stays answers name
stays-line answers name line tally left e counted is = is ∙ ap stays_by (counted ∙ ap (tally_at Within answers) e)

-- the line was filtered in part, and nothing was said of the name
pub name-filtered-front : (answers : Answering) (why : Bool) (name line : List ℕ) (out out' err : Option (List ℕ)) → line ≡ line_of name → FiltersSome answers line out out' → Took out out' err err (LineFront answers why name)
name-filtered-front answers why name line out out' err e some = record {
  lines = some.puts.gone;
  said = [];
  to_out = some.puts.writes;
  to_err = Appends-none err;
  held = record {
    text = some.text;
    text_begins = subst (λ (t : List ℕ). BeginsWith t some.text) e some.begins;
    lines_begin = some.puts.begins;
    said_begins = (said_of why answers name, refl);
  };
}

-- the line was filtered whole, and a beginning of what is said was written
pub name-said-front : (answers : Answering) (why left : Bool) (name line : List ℕ) (out out' err err' : Option (List ℕ)) → line ≡ line_of name → Appends out out' (filtered answers line) → left ≡ name_stays answers name
    → PutsFront err err' [] (said_if (why && left) answers name) → Took out out' err err' (LineFront answers why name)
name-said-front answers why left name line out out' err err' e wrote is says = record {
  lines = filtered answers line;
  said = says.gone;
  to_out = wrote;
  to_err = says.writes;
  held = record {
    text = line;
    text_begins = ([], sym e ∙ sym (append-nil line));
    lines_begin = ([], sym (append-nil (filtered answers line)));
    said_begins = subst (λ (b : Bool). BeginsWith (said_if (why && b) answers name) says.gone) is says.begins;
  };
}

-- no byte was written
pub name-nothing : (answers : Answering) (why : Bool) (name : List ℕ) (out err : Option (List ℕ)) → Took out out err err (LineFront answers why name)
name-nothing answers why name out err = record {
  lines = [];
  said = [];
  to_out = Appends-none out;
  to_err = Appends-none err;
  held = record {
    text = [];
    text_begins = (line_of name, refl);
    lines_begin = (filtered answers [], refl);
    said_begins = (said_of why answers name, refl);
  };
}

-- why a name stays, where its symbol is refused
pub why-refused : {A E : Type 0} (bytes : A → List ℕ) (result : Result A E) (refusal : Refusal) (answer : Option (Result (List ℕ) Refusal)) → (refusal ≢ Memory → answer ≡ Some (Err refusal))
    → IfOk result (λ text. bytes text ≡ reason_of refusal) → OnOk result (refusal ≢ Memory) → IfOk result (λ text. bytes text ≡ reason_by answer)
why-refused bytes (Ok text) refusal answer is said known = said ∙ ap reason_by (sym (is known))
why-refused bytes (Err e) refusal answer is said known = tt

-- ## A name that may be a type

module _ (answers : Answering) (why : Bool) (name : List ℕ) where
  -- the name is no type
  pub line-front : {A E : Type 0} (type : Option (List ℕ)) (out out' err err' : Option (List ℕ)) (result : Result A E) → type ≡ None → OnErr result (Took out out' err err' (LineFront answers why name))
      → OnErr result (Took out out' err err' (NameFrontBy type answers why name))
  line-front type out out' err err' result none took = subst (λ (t : Option (List ℕ)). OnErr result (Took out out' err err' (NameFrontBy t answers why name))) (sym none) took

  -- no byte was written
  pub nothing-front : (type : Option (List ℕ)) (out err : Option (List ℕ)) → Took out out err err (NameFrontBy type answers why name)
  nothing-front None out err = name-nothing answers why name out err
  nothing-front (Some text) out err = record { lines = []; said = []; to_out = Appends-none out; to_err = Appends-none err; held = ((line_of text, refl), refl) }

-- ## Names so far

pub record SoFar (answers : Answering) (types why : Bool) (names : List (List ℕ)) (one_stays : Bool) (out out' err err' : Option (List ℕ)) : Type 0 where
  pub to_out : Appends out out' (flat_map (written_for types answers) names)
  pub to_err : Appends err err' (flat_map (said_for types why answers) names)
  pub stay : one_stays ≡ list_any (stays_for types answers) names

one-more : (some last : Bool) → (some || last) ≡ (some || (last || false))
one-more true last = refl
one-more false true = refl
one-more false false = refl

module _ (answers : Answering) (types why : Bool) where
  pub SoFar-begin : (out err : Option (List ℕ)) → SoFar answers types why [] false out out err err
  SoFar-begin out err = record { to_out = Appends-none out; to_err = Appends-none err; stay = refl }

  -- one more name
  pub SoFar-more : (names all : List (List ℕ)) (name : List ℕ) (old new left : Bool) (out mid out' err mid' err' : Option (List ℕ)) → SoFar answers types why names old out mid err mid' → all ≡ names ++ name ∷ []
      → Appends mid out' (written_for types answers name) → Appends mid' err' (said_for types why answers name) → left ≡ stays_for types answers name → new ≡ (old || left) → SoFar answers types why all new out out' err err'
  SoFar-more names all name old new left out mid out' err mid' err' so_far e wrote says is chosen =
      let written = written_for types answers in
      let said = said_for types why answers in
      let stays = stays_for types answers in record {
        to_out = subst (λ (t : List ℕ). Appends out out' t) (sym (flat-more written names all name e)) (Appends-join out mid out' (flat_map written names) (written name) so_far.to_out wrote);
        to_err = subst (λ (t : List ℕ). Appends err err' t) (sym (flat-more said names all name e)) (Appends-join err mid' err' (flat_map said names) (said name) so_far.to_err says);
        stay = chosen ∙ ap₂ (λ (a b : Bool). a || b) so_far.stay is ∙ one-more (list_any stays names) (stays name) ∙ sym (ap (list_any stays) e ∙ list_any-append stays names (name ∷ []));
      }

  -- the lines of some names were written, and after them a part of the line of one more name
  pub SoFar-stopped : (names rest all : List (List ℕ)) (name : List ℕ) (one_stays : Bool) (out mid out' err mid' err' : Option (List ℕ)) → SoFar answers types why names one_stays out mid err mid' → all ≡ names ++ name ∷ rest
      → Took mid out' mid' err' (NameFront answers types why name) → Took out out' err err' (NamesFront answers types why all)
  SoFar-stopped names rest all name one_stays out mid out' err mid' err' so_far e front =
      let written = flat_map (written_for types answers) names in
      let said = flat_map (said_for types why answers) names in record {
        lines = written ++ front.lines;
        said = said ++ front.said;
        to_out = Appends-join out mid out' written front.lines so_far.to_out front.to_out;
        to_err = Appends-join err mid' err' said front.said so_far.to_err front.to_err;
        held = record {
          whole = names;
          next = name;
          others = rest;
          are_names = e;
          next_lines = front.lines;
          next_said = front.said;
          are_lines = refl;
          is_said = refl;
          front = front.held;
        };
      }
