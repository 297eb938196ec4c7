-- Bytes that are escapes, bytes that aren't, and texts cut after their escapes, by computing.
use Rattle.sym_filter.proofs.Basics.{◌≡◌, List, [], ◌∷◌, ◌++◌, ℕ, true, false, codes, refl, is_escape, segments_of}

abbrev string : List ℕ → List ℕ
string bytes = 92 ∷ bytes

abbrev esc : List ℕ → List ℕ
esc bytes = 27 ∷ bytes

newline : is_escape (string (codes "n")) ≡ true
newline = refl

code_point : is_escape (string (codes "u003c")) ≡ true
code_point = refl

byte : is_escape (string (codes "x7F")) ≡ true
byte = refl

colour : is_escape (esc (codes "[38;5;196m")) ≡ true
colour = refl

short_colour : is_escape (esc (codes "[K")) ≡ true
short_colour = refl

spelled : is_escape (string (codes "u001B[1;31m")) ≡ true
spelled = refl

spelled_short : is_escape (string (codes "x1b")) ≡ true
spelled_short = refl

octal : is_escape (string (codes "033[0m")) ≡ true
octal = refl

few_digits : is_escape (string (codes "u12")) ≡ false
few_digits = refl

more_digits : is_escape (string (codes "x000")) ≡ false
more_digits = refl

bell : is_escape (string (codes "a")) ≡ false
bell = refl

no_letter : is_escape (esc (codes "[31")) ≡ false
no_letter = refl

cursor : is_escape (esc (codes "[?25h")) ≡ false
cursor = refl

octal_alone : is_escape (string (codes "033")) ≡ false
octal_alone = refl

json : segments_of (codes "a" ++ string (codes "n_Z1fv") ++ string (codes "tb")) ≡ (codes "a" ++ string (codes "n")) ∷ (codes "_Z1fv" ++ string (codes "t")) ∷ codes "b" ∷ []
json = refl

two_backslashes : segments_of (string (string (codes "nx"))) ≡ string (string (codes "n")) ∷ codes "x" ∷ []
two_backslashes = refl

spelled_colour : segments_of (string (codes "x1b[31mx")) ≡ string (codes "x1b") ∷ codes "[31m" ∷ codes "x" ∷ []
spelled_colour = refl

none : segments_of (codes "C:" ++ string (codes "zip")) ≡ (codes "C:" ++ string (codes "zip")) ∷ []
none = refl
