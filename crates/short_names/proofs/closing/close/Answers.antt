use Rattle.short_names.proofs.Basics.{◌∙◌, ◌-◌, ◌++◌, ◌∷◌, [], ℕ, List, sym, ap, arith, length, take, drop, codes, alias_in, aliases_of, left_of, constructor, if_read_back, text_of}
use Rattle.short_names.proofs.ElementLemmas.{starts-length}
use Rattle.short_names.proofs.CloseLemmas.{slice-elements, name-place, name-within, usual-answer, polymorphic-answer, plain-answer}
use Rattle.short_names.proofs.closing.close.Goals as goal

pub holes-holes-requires : goal.holes-holes-requires
holes-holes-requires c = (c.requires.2, slice-elements c.requires.3 c.deref.result.now c.deref.ensures.value)

pub left-left-requires : goal.left-left-requires
left-left-requires c =
    let are = slice-elements c.requires.3 c.deref.result.now c.deref.ensures.value in
    (c.requires.2, are, c.holes-holes.ensures c.requires.2 are)

pub overflow_sub-name : goal.overflow_sub-name
overflow_sub-name c = omega (arith, name-place c.requires.3, ap length c.text_at.ensures)

pub alias-requires : goal.alias-requires
alias-requires c =
    let are = slice-elements c.requires.3 c.deref.result.now c.deref.ensures.value in
    (c.requires.2, are, c.holes-holes.ensures c.requires.2 are)

pub returns-in-Some : goal.returns-in-Some
returns-in-Some c = λ before name elements is.
    let named = c.args.named in
    let rest = c.args.rest.now in
    let items = c.args.text.now.items in
    let alias = c.in-Some.alias in
    let are = slice-elements is c.deref.result.now c.deref.ensures.value in
    let holes = c.holes-holes.ensures elements are in
    let written = c.in_ok-size.ensures in
    usual-answer is rest alias _ _
    (sym (c.read_back.ensures
    ∙ ap (if_read_back rest) (c.alias.ensures elements are holes ∙ ap (alias_in (aliases_of named) named elements) (c.left-left.ensures elements are holes)))
    ∙ c.in-Some.is)
    (written.text_is
    ∙ ap (λ u. u ++ (constructor alias rest).bytes)
    (c.in_ok-extend_from_slice.ensures.items ∙ ap (λ u. u ++ c.text_at-in-Some.result.now) c.truncate.ensures.items
    ∙ ap (λ (t : List ℕ). take (c.args.bracket - length t) items ++ c.text_at-in-Some.result.now) c.text_at.ensures
    ∙ ap (λ u. take (c.args.bracket - length (text_of named.template.name)) items ++ u) c.text_at-in-Some.ensures))
    written.size_is written.within

pub is_polymorphic-requires : goal.is_polymorphic-requires
is_polymorphic-requires c =
    let are = slice-elements c.requires.3 c.deref.result.now c.deref.ensures.value in
    (c.requires.2, are, c.holes-holes.ensures c.requires.2 are)

pub overflow_sub-starts : goal.overflow_sub-starts
overflow_sub-starts c =
    omega (arith, c.requires.3.some, starts-length _ _ c.requires.2 (slice-elements c.requires.3 c.deref.result.now c.deref.ensures.value))

pub without_defaults-requires : goal.without_defaults-requires
without_defaults-requires c =
    let are = slice-elements c.requires.3 c.deref.result.now c.deref.ensures.value in
    (c.requires.2, are, c.holes-holes.ensures c.requires.2 are)

pub end-end-requires : goal.end-end-requires
end-end-requires c = (c.requires.2, slice-elements c.requires.3 c.deref.result.now c.deref.ensures.value)

pub insert_polymorphic-requires : goal.insert_polymorphic-requires
insert_polymorphic-requires c =
    omega (
      arith,
      name-within c.requires.3 c.without_defaults.result c.end-end.result (c.end-end.ensures c.requires.2 (slice-elements c.requires.3 c.deref.result.now c.deref.ensures.value)),
      ap length c.truncate-then-is_polymorphic.ensures.items,
      ap length c.text_at.ensures,
    )

pub returns-then-is_polymorphic : goal.returns-then-is_polymorphic
returns-then-is_polymorphic c = λ before name elements is.
    let named = c.args.named in
    let rest = c.args.rest.now in
    let items = c.args.text.now.items in
    let are = slice-elements is c.deref.result.now c.deref.ensures.value in
    let holes = c.holes-holes.ensures elements are in
    let end = c.end-end.result in
    let place = c.args.bracket - length c.text_at.result.now in
    polymorphic-answer is rest _ c.without_defaults.result end
    (sym (c.read_back.ensures
    ∙ ap (if_read_back rest) (c.alias.ensures elements are holes ∙ ap (alias_in (aliases_of named) named elements) (c.left-left.ensures elements are holes)))
    ∙ c.in_default.is)
    (sym (c.is_polymorphic.ensures elements are holes) ∙ c.if-is_polymorphic.true)
    (c.without_defaults.ensures elements are holes ∙ ap (λ n. left_of named elements (n - 1)) (starts-length _ _ elements are))
    (c.end-end.ensures elements are)
    (c.in_ok-push.ensures.items
    ∙ ap (λ u. u ++ 62 ∷ [])
    (c.in_ok-insert_polymorphic.ensures ∙ ap (λ u. take place u ++ codes "pmr::" ++ drop place u) c.truncate-then-is_polymorphic.ensures.items
    ∙ ap (λ (t : List ℕ). take (c.args.bracket - length t) (take end items) ++ codes "pmr::" ++ drop (c.args.bracket - length t) (take end items)) c.text_at.ensures))

pub end-end-requires-2 : goal.end-end-requires-2
end-end-requires-2 c = (c.requires.2, slice-elements c.requires.3 c.deref.result.now c.deref.ensures.value)

pub returns : goal.returns
returns c = λ before name elements is.
    let named = c.args.named in
    let rest = c.args.rest.now in
    let are = slice-elements is c.deref.result.now c.deref.ensures.value in
    let holes = c.holes-holes.ensures elements are in
    plain-answer is rest _ c.left-left.result c.end-end-2.result
    (sym (c.read_back.ensures
    ∙ ap (if_read_back rest) (c.alias.ensures elements are holes ∙ ap (alias_in (aliases_of named) named elements) (c.left-left.ensures elements are holes)))
    ∙ c.in_default.is)
    (sym (c.is_polymorphic.ensures elements are holes) ∙ c.if-is_polymorphic.false)
    (c.left-left.ensures elements are holes) (c.end-end-2.ensures elements are)
    (c.in_ok-push-2.ensures.items ∙ ap (λ u. u ++ 62 ∷ []) c.truncate-2.ensures.items)
