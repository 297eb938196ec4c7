-- Lists of parts that grow.
use Rattle.rust_tree.proofs.Basics.{◌≡◌, ℕ, ◌-◌, ◌<◌, ◌≤◌, List, [], length, take, drop, Some, None, slice_get, refl, sym, ap, subst, ◌∙◌, arith, length-take, length-drop, Span, Unshared, done, ◌then◌, ◌also◌, Held, with_part, Context, Name, name_text, fixed_text, bytes_at, IsWithin, IsDecoded, HasName, name_of, ReadSymbol, trees_of, shown, unshared_of, bytes_of_part, MayCome, HasForm, HasDepth, Shows, IsOwn}
use Rattle.sym_print.specs.declared.layout.Part.{Part}
use Rattle.sym_print.specs.declared.layout.Part.TheVariants as part
use Rattle.sym_print.specs.declared.layout.Item.{Item}
use Rattle.sym_print.specs.Joined.{IsText}
use Rattle.sym_print.specs.Stacked.{Stacked}
use Rattle.sym_print.proofs.Stacking.{stacked-nothing, stacked-text, stacked-item}
use Rattle.rust_tree.specs.declared.form.Form.{Form}
use Rattle.rust_tree.specs.Forms.{form_of}

pub starts : (y : ReadSymbol) (held : Held Context) → Shows y held held done
starts y held = record { stacked = stacked-nothing (unshared_of y) (bytes_of_part y) (MayCome y) held.items; capacity = refl }

pub fills : {below : Held Context} (y : ReadSymbol) (held : Held Context) (so_far whole : Unshared) → Shows y below held so_far → whole ≡ so_far → Shows y below held whole
fills {below} y held so_far whole shows e = subst (Shows y below held) (sym e) shows

-- a text that is added is shown before what was shown so far
pub text-pushed : {below : Held Context} (y : ReadSymbol) (old new : Held Context) (p : Part Context) (b : List ℕ) (so_far : Unshared) → new ≡ with_part old p → Shows y below old so_far
    → IsText p → bytes_of_part y p ≡ b → 0 < length b → MayCome y p → Shows y below new (b then so_far)
text-pushed {below} y old new p b so_far e shows is says some may = record {
  stacked = stacked-text (unshared_of y) (bytes_of_part y) (MayCome y) below.items old.items new.items p b so_far (ap (λ (h : Held Context). h.items) e) shows.stacked is says some may;
  capacity = ap (λ (h : Held Context). h.capacity) e ∙ shows.capacity;
}

pub fixed-pushed : {below : Held Context} (y : ReadSymbol) (old new : Held Context) (number : ℕ) (so_far : Unshared) → new ≡ with_part old (part.Fixed number) → 0 < length (fixed_text number)
    → Shows y below old so_far → Shows y below new (fixed_text number then so_far)
fixed-pushed y old new number so_far e some shows = text-pushed y old new (part.Fixed number) (fixed_text number) so_far e shows tt refl some some

pub item-pushed : {below : Held Context} (y : ReadSymbol) (old new : Held Context) (node number at : ℕ) (form : Form) (c : Context) (so_far : Unshared)
    → new ≡ with_part old (part.Sub (record { node = node; form = number; at = at; ctx = c })) → form_of number ≡ form
    → Shows y below old so_far → HasForm (trees_of y) node form → HasDepth form node c.bound
    → Shows y below new (shown form (slice_get (trees_of y) node) at c also so_far)
item-pushed {below} y old new node number at form c so_far e same shows has deep =
    let i : Item Context = record { node = node; form = number; at = at; ctx = c } in
    record {
      stacked = subst (λ f. Stacked (unshared_of y) (bytes_of_part y) (MayCome y) below.items new.items (shown f (slice_get (trees_of y) node) at c also so_far)) same
          (stacked-item (unshared_of y) (bytes_of_part y) (MayCome y) below.items old.items new.items i so_far (ap (λ (h : Held Context). h.items) e) shows.stacked
          (subst (λ f. HasForm (trees_of y) node f × HasDepth f node c.bound) (sym same) (has, deep)));
      capacity = ap (λ (h : Held Context). h.capacity) e ∙ shows.capacity;
    }

-- a span has as many bytes as there are between its places
pub length-bytes_at : (s : List ℕ) (span : Span) → IsWithin span s → length (bytes_at s span) ≡ span.to - span.from
length-bytes_at s span h = omega (arith, length-take (span.to - span.from) (drop span.from s), length-drop span.from s, h.0, h.1)

bytes-some : (s : List ℕ) (span : Span) → IsWithin span s → span.from < span.to → 0 < length (bytes_at s span)
bytes-some s span h some = omega (arith, length-bytes_at s span h)

bytes-none : (s : List ℕ) (span : Span) → span.to ≤ span.from → bytes_at s span ≡ []
bytes-none s span h = let none : span.to - span.from ≡ 0 = omega arith in ap (λ n. take n (drop span.from s)) none

pub symbol-pushed : {below : Held Context} (y : ReadSymbol) (old new : Held Context) (span : Span) (so_far : Unshared) → new ≡ with_part old (part.Symbol span) → span.from < span.to
    → Shows y below old so_far → IsWithin span y.bytes → Shows y below new (bytes_at y.bytes span then so_far)
symbol-pushed y old new span so_far e some shows within =
    text-pushed y old new (part.Symbol span) (bytes_at y.bytes span) so_far e shows tt refl (bytes-some y.bytes span within some) (within, some)

pub list-pushed : {below : Held Context} (y : ReadSymbol) (old new : Held Context) (span : Span) (so_far : Unshared) → new ≡ with_part old (part.List span) → span.from < span.to
    → Shows y below old so_far → IsWithin span y.table.text → Shows y below new (bytes_at y.table.text span then so_far)
list-pushed y old new span so_far e some shows within =
    text-pushed y old new (part.List span) (bytes_at y.table.text span) so_far e shows tt refl (bytes-some y.table.text span within some) (within, some)

-- an empty span adds no text
pub bytes-skipped : {below : Held Context} (y : ReadSymbol) (held : Held Context) (s : List ℕ) (span : Span) (so_far : Unshared) → span.to ≤ span.from
    → Shows y below held so_far → Shows y below held (bytes_at s span then so_far)
bytes-skipped {below} y held s span so_far none shows = subst (λ b. Shows y below held (b then so_far)) (sym (bytes-none s span none)) shows

-- a part's own text may be asked for
own-may : (y : ReadSymbol) (p : Part Context) (b : List ℕ) → IsOwn p b → 0 < length b → length b ≤ 24 → MayCome y p
own-may y (part.Own bytes count) b is some few = (omega (arith, is.1, some), omega (arith, is.1, few), is.2)
own-may y (part.Sub i) b is some few = absurd is
own-may y (part.Symbol i) b is some few = absurd is
own-may y (part.List i) b is some few = absurd is
own-may y (part.Fixed i) b is some few = absurd is

own-text : (p : Part Context) (b : List ℕ) → IsOwn p b → IsText p
own-text (part.Own bytes count) b is = tt
own-text (part.Sub i) b is = absurd is
own-text (part.Symbol i) b is = absurd is
own-text (part.List i) b is = absurd is
own-text (part.Fixed i) b is = absurd is

own-says : (y : ReadSymbol) (p : Part Context) (b : List ℕ) → IsOwn p b → bytes_of_part y p ≡ b
own-says y (part.Own bytes count) b is = is.0
own-says y (part.Sub i) b is = absurd is
own-says y (part.Symbol i) b is = absurd is
own-says y (part.List i) b is = absurd is
own-says y (part.Fixed i) b is = absurd is

pub own-pushed : {below : Held Context} (y : ReadSymbol) (old new : Held Context) (p : Part Context) (b : List ℕ) (so_far : Unshared) → new ≡ with_part old p → IsOwn p b → 0 < length b → length b ≤ 24
    → Shows y below old so_far → Shows y below new (b then so_far)
own-pushed y old new p b so_far e is some few shows =
    text-pushed y old new p b so_far e shows (own-text p b is) (own-says y p b is) some (own-may y p b is some few)

-- a name that isn't in Punycode prints its bytes
pub name-plain : (s text : List ℕ) (name : Name) → name.decoded ≡ None → name_text (name_of s name) ≡ bytes_at s name.bytes
name-plain s text name e = rw e refl

pub name-decoded : (s text : List ℕ) (name : Name) (decoded : Span) → name.decoded ≡ Some decoded → HasName s text name
    → IsWithin decoded text × (bytes_at text decoded ≡ name_text (name_of s name))
name-decoded s text name decoded e h = let d : IsDecoded s text name.bytes (Some decoded) = subst (IsDecoded s text name.bytes) e h.1 in rw e d
