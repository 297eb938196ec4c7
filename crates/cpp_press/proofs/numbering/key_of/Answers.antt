use Rattle.cpp_press.proofs.Basics.{◌≡◌, length, take, rules, arith, ap, bytes_at, Fields, fields_of, Told, tree_told, plain_at}
use Rattle.cpp_press.proofs.Numbered.{four-texts, slot_is, part_low, part_numbered, few_parts}
use Rattle.cpp_press.proofs.numbering.key_of.Goals as goal

pub part_number-requires-clause-part : goal.part_number-requires-clause-part
part_number-requires-clause-part c =
    let seen = c.view_at-seen.result in
    let long : length seen.parts ≡ 3 = search rules in
    part_low (length c.args.firsts.now) c.args.node (take seen.node.parts seen.parts) 0 c.part_at.result c.requires.before c.view_at-seen.ensures.parts
    (slot_is seen.node.parts seen.parts 0 0 c.part_at.result (omega (arith, long)) c.part_at.ensures.some c.part_at.ensures.none)

pub part_number-requires-2-clause-part : goal.part_number-requires-2-clause-part
part_number-requires-2-clause-part c =
    let seen = c.view_at-seen.result in
    let long : length seen.parts ≡ 3 = search rules in
    part_low (length c.args.firsts.now) c.args.node (take seen.node.parts seen.parts) 1 c.part_at-2.result c.requires.before c.view_at-seen.ensures.parts
    (slot_is seen.node.parts seen.parts 1 0 c.part_at-2.result (omega (arith, long)) c.part_at-2.ensures.some c.part_at-2.ensures.none)

pub part_number-requires-3-clause-part : goal.part_number-requires-3-clause-part
part_number-requires-3-clause-part c =
    let seen = c.view_at-seen.result in
    let long : length seen.parts ≡ 3 = search rules in
    part_low (length c.args.firsts.now) c.args.node (take seen.node.parts seen.parts) 2 c.part_at-3.result c.requires.before c.view_at-seen.ensures.parts
    (slot_is seen.node.parts seen.parts 2 0 c.part_at-3.result (omega (arith, long)) c.part_at-3.ensures.some c.part_at-3.ensures.none)

pub returns : goal.returns
returns c =
    let y = c.args.symbol.now in
    let ns = c.args.firsts.now in
    let t = plain_at y c.args.node in
    let seen = c.view_at-seen.result in
    let details = c.details_of-details.result in
    let long : length seen.parts ≡ 3 = search rules in
    let four : length details.texts ≡ 4 = search rules in
    let told = c.details_of-details.ensures.told in
    let parts = ap (λ (f : Fields). f.parts) c.view_at-seen.ensures.fields in
    record {
      production = ap (λ (f : Fields). f.production) c.view_at-seen.ensures.fields;
      own_numbers = ap (λ (f : Told). f.numbers) told;
      texts = four-texts (bytes_at y.bytes) (record { from = 0; to = 0 }) details.texts (tree_told t).texts c.bytes_of.result.now c.bytes_of-2.result.now
          c.bytes_of-3.result.now c.bytes_of-4.result.now four (ap (λ (f : Told). f.texts) told) c.bytes_of.ensures c.bytes_of-2.ensures c.bytes_of-3.ensures
          c.bytes_of-4.ensures;
      few = few_parts (plain_at y) seen.node.parts seen.parts (fields_of t).parts parts c.view_at-seen.ensures.few;
      first = part_numbered (plain_at y) ns (take seen.node.parts seen.parts) c.args.node 0 c.part_number.result c.part_at.result (fields_of t).parts c.requires.before
          c.view_at-seen.ensures.parts parts
          (slot_is seen.node.parts seen.parts 0 0 c.part_at.result (omega (arith, long)) c.part_at.ensures.some c.part_at.ensures.none) c.part_number.ensures;
      second = part_numbered (plain_at y) ns (take seen.node.parts seen.parts) c.args.node 1 c.part_number-2.result c.part_at-2.result (fields_of t).parts
          c.requires.before c.view_at-seen.ensures.parts parts
          (slot_is seen.node.parts seen.parts 1 0 c.part_at-2.result (omega (arith, long)) c.part_at-2.ensures.some c.part_at-2.ensures.none)
          c.part_number-2.ensures;
      third = part_numbered (plain_at y) ns (take seen.node.parts seen.parts) c.args.node 2 c.part_number-3.result c.part_at-3.result (fields_of t).parts
          c.requires.before c.view_at-seen.ensures.parts parts
          (slot_is seen.node.parts seen.parts 2 0 c.part_at-3.result (omega (arith, long)) c.part_at-3.ensures.some c.part_at-3.ensures.none)
          c.part_number-3.ensures;
    }
