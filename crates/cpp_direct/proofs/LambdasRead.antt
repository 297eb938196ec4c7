-- Lambdas: types in functions, and components of nested names.
use Rattle.cpp_direct.proofs.AllGround.{is_declaring, lambda_by, closed-lambda, ◌≡◌, ◌≢◌, refl, ap, sym, ◌∙◌, subst, inl, inr, ℕ, ◌+◌, List, [], ◌∷◌, ◌++◌, length, reverse, true, false, Option, None, Some, arith, codes, append-nil, append_assoc, decimal, false≢true, after, arguments_of, closed, has_return_type, Kind, lambda, list, local_number, may_be_empty, nil, no_items, nothing_there, State, Term, tree, within, added, AwaitsFirst, AwaitsMemberFunction, AwaitsTypeName, below, detail_of, Direct, Holder, in_front_of_next, IsElementRead, IsLambdaOpened, IsLambdaParameterRead, IsLambdaRead, IsLed, IsNest, IsUnmarked, IsWriting, Kept, LambdaComes, LambdaWithin, list_of, Mark, nowhere, Prints, PrintsPiece, Purpose, Reads, Stands, Symbol, Writes, Comes, Discriminator, Expects, IsDiscriminatorAt, IsLambdaDigit, IsPieceAt, NestGoesOn, StandsAt, lambda_digits, lambda_ending, lambda_number, lambda_with, local_in, with_candidate, Open, Step, kept-grown, kept-read, kept-same, kept-written, reverse-last, type-comes, value-added, expects-empty, stands-join, list-with-none, all-in, next-prints, none-print, parameters-kept, none-scoped, is-no-mark, more-unmarked}
use Rattle.cpp_direct.proofs.AllRead.{item-comes, next-written, some-elements, LambdaOpened, first-lambda-opens, lambda-opens, lambda-piece, lambda_bytes, number-is, classless-nest, closed-prints, enclosed-prints, lambda-list-prints, local-prints, component-prints}
use Rattle.cpp_direct.proofs.PrintedFunctions.{closed-list}
use Rattle.std.proofs.lemmas.Fmt.{decimal_digit}

-- ## Their bytes

number-text : (digit : Option ℕ) → IsLambdaDigit digit → decimal (local_number (lambda_digits digit)) ≡ lambda_number digit
unfolding local_number
number-text None is = decimal_digit 1 (omega arith)
number-text (Some d) is = decimal_digit (local_number (d ∷ [])) (number-is (Some d) is) ∙ ap (λ k. k ∷ []) (omega (arith, is.0))

lambda-unmarked : (digit : Option ℕ) → IsLambdaDigit digit → IsUnmarked (lambda_number digit)
lambda-unmarked None is = refl
lambda-unmarked (Some d) is = more-unmarked (d + 2) [] (is-no-mark (d + 2) (λ e. omega (arith, is.0, e)) (λ e. omega (arith, is.0, e))) refl

-- a lambda without parameters is read and written
pub lambda-told : (s : Symbol) (old new : Direct) (digit : Option ℕ) → IsLambdaDigit digit → StandsAt s.bytes old.at (85 ∷ lambda_bytes (lambda_digits digit))
    → new.at ≡ old.at + length (85 ∷ lambda_bytes (lambda_digits digit)) → Reads old new (codes "{lambda()#" ++ lambda_number digit ++ codes "}")
    → (p : Term) × (n : List ℕ) × IsPieceAt s old.at p new.at × PrintsPiece (detail_of s) p n × Reads old new n
lambda-told s old new digit is stands ends reads = (
  lambda nil (local_number (lambda_digits digit)),
  codes "{lambda()#" ++ lambda_number digit ++ codes "}",
  lambda-piece s old.at digit new.at is stands ends,
  lambda-list-prints [] [] (none-print (detail_of s) 0) (local_number (lambda_digits digit)) (lambda_number digit) (number-text digit is) (lambda-unmarked digit is),
  reads,
)

-- the first bytes of a lambda that has parameters
abbrev lambda_front : List ℕ
lambda_front = codes "::{lambda("

-- the bracket before a lambda's parameters, as a text of its own
pub lambda-bracket : (f b l : List ℕ) → (f ++ (b ++ codes "::{lambda(")) ++ l ≡ (f ++ (b ++ codes "::{lambda")) ++ codes "(" ++ l
lambda-bracket f b l = simp append_assoc

-- ## Their parameters

-- the first parameter of a lambda comes next
begun : (s : Symbol) (old new : Direct) (from : ℕ) (holder : Holder) (kept : Kept s old) (h : IsLed (detail_of s) holder from)
    → old.text.list.items ≡ h.front ++ h.bytes → (made : Term → (at : ℕ) → State → Type 0) → LambdaOpened s made (old.at + 1 + 1) kept.state
    → ((p : Term) (at : ℕ) (st : State) → made p at st → LambdaComes s holder (below s kept.scope (reverse old.waiting.list.items)) h.front h.e p at st)
    → IsLambdaOpened s.bytes old new from holder → IsWriting s new Step.Type
begun s old new from holder kept h written made first becomes entry =
    let rest = reverse old.waiting.list.items in
    let waits = ap reverse entry.waiting ∙ reverse-last old.waiting.list.items (Open.Lambda from holder) in
    let told : new.text.list.items ≡ h.front ++ (h.bytes ++ lambda_front) ++ [] =
    entry.text ∙ ap (λ l. l ++ lambda_front) written ∙ append_assoc h.front h.bytes lambda_front ∙ sym (append-nil (h.front ++ (h.bytes ++ lambda_front))) in
    let stands_ : Stands s kept.scope (Open.Lambda from holder ∷ rest) first.inner new.text.list.items = (
      h,
      [],
      [],
      none-print (detail_of s) 0,
      told,
      λ t here now comes.
          let g = first.onward t here now comes in
          record {
            around = g.around;
            inner = g.inner;
            outside = g.outside;
            scoped = g.scoped;
            awaits = g.awaits;
            onward = λ l there then_ last number end is ending ends_.
                becomes (lambda_with s.is_wide (list t (no_items l)) number) end then_ (g.onward l there then_ last number end is ending ends_);
          },
    ) in
    type-comes s new new (kept-grown s old new lambda_front entry.text entry.candidates entry.scope kept) first.around first.inner refl refl refl waits
    first.outside (inr (inl (subst (λ k. Expects s Kind.Item first.around first.inner k kept.state) (omega (arith, entry.at)) first.awaits))) stands_
    (none-scoped kept.scope first.around (Open.Lambda from holder ∷ rest) refl)

-- the first parameter of a lambda in a function comes next
pub begun-in-function : (s : Symbol) (old new : Direct) (from : ℕ) → AwaitsTypeName s old from → IsLambdaOpened s.bytes old new from Holder.Function
    → IsWriting s new Step.Type
begun-in-function s old new from a entry =
    let r = a.read in
    let w = r.within in
    let entity = w.2 a.letter in
    begun s old new from Holder.Function (kept-same s (record old { at = a.before }) old refl refl refl r.kept)
    (record { e = r.e; front = r.front; from_is = r.leads; bytes = r.bytes; leads = r.encloses })
    (sym (append-nil old.text.list.items) ∙ r.written) (λ p end now. Comes s entity.inner (tree (within r.e p) false) end now)
    (lambda-opens s Kind.TypeEntity entity.inner entity.around r.e true old.at r.state tt entry.short
    (subst (λ k. Expects s Kind.TypeEntity (after r.e true entity.around) entity.inner k r.state) (sym a.at_is) entity.awaits) entry.stands)
    (λ p at st comes. (w.0, w.1, λ digit last told. entity.onward p at st comes digit last told, w.3)) entry

-- the first parameter of a lambda in a nested name comes next
pub begun-in-name : (s : Symbol) (old new : Direct) → IsWriting s old Step.Component → old.nest.is_dependent ≡ false
    → IsLambdaOpened s.bytes old new old.nest.from (Holder.Name old.nest.purpose) → IsWriting s new Step.Type
begun-in-name s old new p closed_ entry =
    let t = p.is_before.0 in
    let n = p.is_before.1 in
    let a = p.is_before.2 in
    begun s old new old.nest.from (Holder.Name old.nest.purpose) p.kept
    (record { e = t; front = n.front; from_is = n.is_nest.from_is; bytes = n.bytes; leads = closed-prints p.scope.names closed_ n.is_nest.prints })
    n.written (λ u end now. Comes s a.inner (tree (within t u) false) end now)
    (lambda-opens s Kind.Component a.inner n.around t a.listed old.at p.state tt entry.short a.awaits entry.stands)
    (λ u at st comes. (n.outer, n.around, a.onward (within t u) at st comes, n.scoped.scoped, n.serves)) entry

-- the first parameter of a lambda that has a member function comes next
pub begun-in-member : (s : Symbol) (old new : Direct) (mark : Mark) → AwaitsFirst s old mark → IsLambdaOpened s.bytes old new 0 (Holder.Member mark)
    → IsWriting s new Step.Type
begun-in-member s old new mark a entry =
    let f = a.first in
    begun s old new 0 (Holder.Member mark) a.kept (record { e = a.e; front = []; from_is = refl; bytes = old.text.list.items; leads = a.encloses }) refl
    (λ p end now. NestGoesOn s Kind.NestRestAlone f.inner f.around (within a.e p) false end now)
    (first-lambda-opens s f.inner f.around a.e old.at a.state entry.short f.awaits entry.stands)
    (λ p at st goes. (refl, record { outer = f.inner; around = f.around; goes = goes; ends = f.onward })) entry

-- a parameter is read
pub lambda-parameter-read : (s : Symbol) (w : Direct) (from : ℕ) (holder : Holder) → IsElementRead s w (Open.Lambda from holder)
    → IsLambdaParameterRead s w from holder
lambda-parameter-read s w from holder p =
    let waits = p.read.stands in
    let h = waits.0 in
    let ts = waits.1 in
    let texts = waits.2 in
    record {
      kept = p.read.kept;
      rest = p.rest;
      open_is = p.open_is;
      has = h;
      ts = ts ++ p.read.own ∷ [];
      some = some-elements ts p.read.own;
      texts = in_front_of_next ts texts ++ p.read.bytes;
      elements = next-prints 0 ts texts p.read.own p.read.bytes waits.3 (p.read.element 0);
      written = p.read.written ∙ ap (λ l. l ++ p.read.bytes) waits.4 ∙ append_assoc (h.front ++ (h.bytes ++ lambda_front)) (in_front_of_next ts texts) p.read.bytes;
      goes = waits.5 p.read.own w.at p.read.state p.read.comes;
    }

-- another parameter comes next
pub lambda-next : (s : Symbol) (w last : Direct) (from : ℕ) (holder : Holder) → IsLambdaParameterRead s w from holder → Writes w last (codes ", ")
    → IsWriting s last Step.Type
lambda-next s w last from holder p one =
    let led = p.front ++ (p.bytes ++ lambda_front) in
    let becomes = LambdaWithin s holder (below s p.scope p.rest) p.front p.e in
    let entry = Open.Lambda from holder in
    item-comes s last last (kept-written s w last (codes ", ") one p.kept) nowhere becomes (λ l. l) p.ts w.at p.goes (entry ∷ p.rest) refl refl refl one.at
    (ap (λ l. reverse l.list.items) one.waiting ∙ p.open_is) (λ os onward. (
      p.has,
      p.ts,
      p.texts,
      p.elements,
      one.text ∙ ap (λ l. l ++ codes ", ") p.written ∙ append_assoc led p.texts (codes ", ") ∙ ap (λ l. led ++ l) (sym (next-written p.ts p.texts p.some)),
      onward,
    )) (none-scoped p.scope p.goes.around (entry ∷ p.rest) refl)

-- ## Their end

-- types declare nothing
list-undeclared : (ts : List Term) → is_declaring (list_of ts) ≡ false
unfolding is_declaring
list-undeclared [] = refl
list-undeclared (t ∷ ts) = refl

-- a lambda is read
pub lambda-ended : (s : Symbol) (w : Direct) (next : ℕ) (pushed numbered new : Direct) (from : ℕ) (holder : Holder)
    (p : IsLambdaParameterRead s w from holder) → p.texts ≢ codes "void" → StandsAt s.bytes w.at (69 ∷ []) → next ≡ w.at + 1
    → Writes (record w { at = next }) pushed (codes ")#") → (number : Option ℕ) → IsLambdaDigit number → StandsAt s.bytes pushed.at (lambda_digits number ++ 95 ∷ [])
    → numbered.at ≡ pushed.at + length (lambda_digits number ++ 95 ∷ []) → Reads pushed numbered (lambda_number number ++ codes "}")
    → new.text ≡ numbered.text → new.candidates ≡ numbered.candidates → new.has_scope ≡ numbered.has_scope → new.at ≡ numbered.at
    → reverse new.waiting.list.items ≡ p.rest → IsLambdaRead s new from holder
unfolding no_items may_be_empty has_return_type arguments_of
lambda-ended s w next pushed numbered new from holder p apart ends at one number is digits_ numbered_at two text candidates scope here waits =
    let becomes = LambdaWithin s holder (below s p.scope p.rest) p.front p.e in
    let items = list_of p.ts in
    let num = lambda_number number in
    let n = local_number (lambda_digits number) in
    let ended_ : becomes items w.at p.state = subst (λ u. becomes u w.at p.state) (list-with-none p.ts)
    (p.goes.onward nothing_there w.at p.state (expects-empty s Kind.Items p.goes.around p.goes.inner w.at p.state p.goes.awaits refl)) in
    let same : lambda items n ≡ lambda_with s.is_wide items number =
    sym (closed-lambda s.is_wide items n (list-undeclared p.ts) (closed-list (detail_of s) p.ts p.texts p.elements)) ∙ ap (λ k. lambda_by s.is_wide k n) (sym (parameters-kept (detail_of s) closed 0 p.ts p.texts (all-in (detail_of s) closed 0 p.ts p.texts p.elements) apart)) in
    let name : List ℕ = codes "{lambda(" ++ p.texts ++ codes ")#" ++ num ++ codes "}" in
    let place : pushed.at ≡ w.at + 1 = one.at ∙ at in
    let ending : StandsAt s.bytes w.at (lambda_ending number) =
    stands-join s.bytes w.at (69 ∷ []) (lambda_digits number ++ 95 ∷ []) ends (subst (λ k. StandsAt s.bytes k (lambda_digits number ++ 95 ∷ [])) place digits_) in
    record {
      kept = kept-same s numbered new text candidates scope (kept-read s pushed numbered (num ++ codes "}") two
          (kept-written s (record w { at = next }) pushed (codes ")#") one (kept-same s w (record w { at = next }) refl refl refl p.kept)));
      has = p.has;
      own = lambda_with s.is_wide items number;
      name = name;
      prints = subst (λ u. PrintsPiece (detail_of s) u name) same
          (lambda-list-prints p.ts p.texts p.elements n num (number-text number is) (lambda-unmarked number is));
      returns = refl;
      written = ap (λ v. v.list.items) text ∙ two.text ∙ ap (λ l. l ++ (num ++ codes "}")) (one.text ∙ ap (λ l. l ++ codes ")#") p.written) ∙ simp append_assoc;
      comes = subst (λ o. LambdaComes s holder (below s p.scope o) p.front p.e (lambda_with s.is_wide items number) new.at p.state) (sym waits)
          (ended_ number new.at is ending (omega (arith, here, numbered_at, place)));
    }

-- a lambda in a function is accepted as a type, after its discriminator
pub ended-in-function : (s : Symbol) (old last new : Direct) (from : ℕ) → IsLambdaRead s old from Holder.Function
    → (digit : Discriminator) → IsDiscriminatorAt s.bytes old.at digit last.at → Reads old last []
    → new.candidates.list.items ≡ added last from false false → new.text ≡ last.text → new.waiting ≡ last.waiting
    → new.has_scope ≡ last.has_scope → new.at ≡ last.at → IsWriting s new (Step.Value false false)
ended-in-function s old last new from p digit is read candidates text waiting scope here =
    let t = local_in p.e p.own digit in
    let w = p.comes in
    value-added s last new (kept-read s old last [] read p.kept) w.0 w.1 t p.front (p.bytes ++ codes "::" ++ p.name) from false false
    (read.text ∙ append-nil old.text.list.items ∙ p.written) p.from_is (local-prints p.e p.bytes p.leads p.own p.name p.prints digit)
    (λ e. absurd (false≢true e)) text candidates scope (ap (λ v. reverse v.list.items) (waiting ∙ read.waiting)) (λ e. absurd (false≢true e))
    (subst (λ k. Comes s w.0 (tree t true) k (with_candidate w.1 t p.state)) (sym here) (w.2 digit last.at is)) w.3

-- a nested name continues after a lambda in it
pub ended-in-name : (s : Symbol) (w : Direct) (from : ℕ) (purpose : Purpose) → IsLambdaRead s w from (Holder.Name purpose)
    → IsWriting s (record w { nest = record { from = from; class_from = from; class_to = from; purpose = purpose; is_listed = false; has_class = false; is_instance = false; is_dependent = false } }) Step.Tail
ended-in-name s w from purpose p =
    let bytes = p.bytes ++ codes "::" ++ p.name in
    let new : Direct = record w { nest = record { from = from; class_from = from; class_to = from; purpose = purpose; is_listed = false; has_class = false; is_instance = false; is_dependent = false } } in
    record {
      kept = kept-same s w new refl refl refl p.kept;
      is_before = (
        within p.e p.own,
        record {
          so_far = record {
            around = p.comes.1;
            outer = p.comes.0;
            front = p.front;
            bytes = bytes;
            written = p.written;
            is_nest = subst (λ l. IsNest (detail_of s) p.scope.names p.front bytes l new.nest (within p.e p.own)) (sym p.written)
                (classless-nest p.scope.names p.front bytes new.nest (within p.e p.own) p.from_is p.from_is p.from_is refl (λ own. refl)
                (component-prints p.e p.bytes p.leads p.own p.name p.prints));
            scoped = record { scoped = p.comes.3; naming = λ e. absurd (false≢true e) };
            serves = p.comes.4;
          };
          goes = p.comes.2;
        },
        (λ own e. p.returns),
        (λ e. absurd (false≢true e)),
        (λ e. absurd (false≢true e)),
      );
    }

-- after a lambda that has a member function, expects the function
pub ended-in-member : (s : Symbol) (w : Direct) (from : ℕ) (mark : Mark) → IsLambdaRead s w from (Holder.Member mark) → AwaitsMemberFunction s w mark
ended-in-member s w from mark p = record {
  kept = p.kept;
  e = p.e;
  own = within p.e p.own;
  prints = subst (λ l. Prints (detail_of s) (within p.e p.own) l false) (sym (p.written ∙ ap (λ l. l ++ (p.bytes ++ codes "::" ++ p.name)) p.comes.0))
      (enclosed-prints p.e p.bytes p.leads p.own p.name p.prints);
  goes = p.comes.1;
}
