-- The lines of names, one by one.
use Rattle.json_lines.proofs.Basics.{◌≡◌, ◌∙◌, ℕ, Bool, ◌||◌, List, [], ◌∷◌, ◌++◌, Option, refl, sym, ap, ap₂, subst, false, append_assoc, flat_map, list_any, Answering, Detailing, name_line, name_lines, name_stays, names_stay}
use Rattle.std.specs.Io.KnownBytes.{Appends}
use Rattle.std.proofs.Math.Bool.{or-false}
use Rattle.std.proofs.lemmas.Grind.{flat_map-append}
use Rattle.std.proofs.lemmas.List.Folds.{list_any-append}
use Rattle.sym_filter.specs.Streams.{PutsFront}
use Rattle.sym_filter.proofs.StreamLemmas.{Appends-none, Appends-join}
use Rattle.demangle_names.proofs.NameLemmas.{flat-more}

-- the lines of the names so far
pub record SoFar (types reads_paths : Bool) (answers : Answering) (details : Detailing) (names : List (List ℕ)) (one_stays : Bool) (out out' : Option (List ℕ)) : Type 0 where
  pub to_out : Appends out out' (name_lines types reads_paths answers details names)
  pub stay : one_stays ≡ names_stay types reads_paths answers details names

module _ (types reads_paths : Bool) (answers : Answering) (details : Detailing) where
  pub SoFar-begin : (out : Option (List ℕ)) → SoFar types reads_paths answers details [] false out out
  SoFar-begin out = record { to_out = Appends-none out; stay = refl }

  -- one more name
  pub SoFar-more : (names all : List (List ℕ)) (name : List ℕ) (old new left : Bool) (out mid out' : Option (List ℕ)) → SoFar types reads_paths answers details names old out mid → all ≡ names ++ name ∷ []
      → Appends mid out' (name_line types reads_paths answers details name) → left ≡ name_stays types reads_paths answers details name → new ≡ (old || left) → SoFar types reads_paths answers details all new out out'
  SoFar-more names all name old new left out mid out' so_far e wrote is chosen =
      let line = name_line types reads_paths answers details in
      let stay = name_stays types reads_paths answers details in record {
        to_out = subst (λ (t : List ℕ). Appends out out' t) (sym (flat-more line names all name e)) (Appends-join out mid out' (flat_map line names) (line name) so_far.to_out wrote);
        stay =
            chosen ∙ ap₂ (λ (a b : Bool). a || b) so_far.stay (is ∙ sym (or-false (stay name))) ∙ sym (ap (list_any stay) e ∙ list_any-append stay names (name ∷ []));
      }

  -- a part of one more name
  pub SoFar-stopped : (names rest all : List (List ℕ)) (name : List ℕ) (one_stays : Bool) (out mid out' : Option (List ℕ)) → SoFar types reads_paths answers details names one_stays out mid → all ≡ names ++ name ∷ rest
      → PutsFront mid out' [] (name_line types reads_paths answers details name) → PutsFront out out' [] (name_lines types reads_paths answers details all)
  SoFar-stopped names rest all name one_stays out mid out' so_far e front =
      let line = name_line types reads_paths answers details in
      let first = flat_map line names in
      let later = flat_map line rest in record {
        gone = first ++ front.gone;
        writes = Appends-join out mid out' first front.gone so_far.to_out front.writes;
        begins = (
          front.begins.0 ++ later,
          ap (flat_map line) e ∙ flat_map-append line names (name ∷ rest)
              ∙ ap (λ (t : List ℕ). first ++ t) (ap (λ (t : List ℕ). t ++ later) front.begins.1 ∙ append_assoc front.gone front.begins.0 later)
              ∙ sym (append_assoc first front.gone (front.begins.0 ++ later)),
        );
      }
