-- What a member of a template's instance prints, where its name isn't looked up.
use Rattle.cpp_direct.proofs.AllGround.{alone, Context, Detail, first_of, is_function_type, is_open, left, length_if_pack, operation_of_code, operations, pack_length, right, same_bytes, source, Term, ◌≡◌, ◌≢◌, refl, ◌∙◌, ℕ, List, [], ◌∷◌, ◌++◌, Bool, true, false, arith, codes, length-append, text_of, as_item, says, source_text, prefix_item, component_parts, last_piece, opening_text, left_parts, right_parts, parts_in, not_empty, operation_parts, operand_parts, printed, text_part, member_of, written_of, Prints, PrintsIn, PrintsAs, Names, IsUnmarked, text_shown, cost_shown, prints-in, made-given}
use Rattle.cpp_direct.proofs.AllRead.{joins}
use Rattle.cpp_direct.proofs.PrintedNames.{besides, own-in, own-prints, source-prints}

-- the parts of a member: the instance, colons and the name
member-parts : (detail : Detail) (c : Context) (u : Term) (name : List ℕ)
    → parts_in detail c left (member_of u name) ≡ as_item left c u ∷ says "::" ∷ as_item left c (alone (source false name)) ∷ []
unfolding parts_in left_parts operation_parts operand_parts text_part printed operation_of_code operations same_bytes
member-parts detail c u name = refl

-- a member of an instance, in a context
member-in : {detail : Detail} (c : Context) (extra : ℕ) (u : Term) (b : List ℕ) → PrintsIn detail c extra u b false → (name : List ℕ) → name ≢ [] → IsUnmarked name
    → PrintsIn detail c extra (member_of u name) (b ++ codes "::" ++ source_text name) false
unfolding parts_in right_parts not_empty besides
member-in {detail} c extra u b p name filled plain =
    let x = source_text name in
    let y : Term = alone (source false name) in
    let m = member_of u name in
    let own : Prints detail y x false = source-prints false name filled plain in
    let ps = as_item left c u ∷ says "::" ∷ as_item left c y ∷ [] in
    own-in c extra m (b ++ codes "::" ++ x)
    (text_shown detail left c m ps (member-parts detail c u name) refl
    ∙ joins (text_of (written_of detail left c u)) (codes "::") (text_of (written_of detail left c y)) b x p.left_text (own.left_text c))
    (omega (
      arith,
      p.cost,
      own.cost c,
      cost_shown detail left c m ps (member-parts detail c u name) refl,
      cost_shown detail right c m [] refl refl,
      length-append {A = ℕ},
    )) (omega (arith, length-append (b ++ codes "::") x, length-append b (codes "::"))) refl

-- A member prints its instance, colons and its name anywhere, or where parameters name arguments with these texts.
pub member-as : (detail : Detail) (names : Names) (is_dependent : Bool) (u : Term) (b : List ℕ) → PrintsAs detail names is_dependent u b false
    → (name : List ℕ) → name ≢ [] → IsUnmarked name → PrintsAs detail names is_dependent (member_of u name) (b ++ codes "::" ++ source_text name) false
unfolding is_open pack_length first_of length_if_pack is_function_type prefix_item component_parts last_piece opening_text besides
member-as detail names false u b p name filled plain =
    let m = member_of u name in
    own-prints m (b ++ codes "::" ++ source_text name) (record {
      left_text = λ c. (member-in c 0 u b (prints-in c 0 u b false p) name filled plain).left_text;
      cost = λ c. omega (arith, (member-in c 0 u b (prints-in c 0 u b false p) name filled plain).cost);
    }) (rw p.is_closed refl) (λ scope. rw (p.packless scope) refl) refl (λ c. refl)
member-as detail names true u b p name filled plain =
    made-given names (member_of u name) (b ++ codes "::" ++ source_text name) false (λ c given. member-in c 3 u b (p.prints c given) name filled plain)
    (λ arguments single. rw (p.packless arguments single) refl) refl refl (λ c p. refl) refl
