use Rattle.rust_press.proofs.Basics.{arith, rules, trees_of, bytes_at, fields_at}
use Rattle.rust_press.proofs.KeyLemmas.{parts-of-three, rest-of-three, both-of-two}
use Rattle.rust_press.proofs.numbering.key_of.Goals as goal

pub returns : goal.returns
returns c =
    let y = c.args.symbol.now in
    let given = fields_at y c.args.node in
    let view = c.node-view.ensures.fields in
    record {
      production = view.production;
      own_numbers = view.numbers;
      texts = both-of-two (bytes_at y.bytes) (record { from = 0; to = 0 }) c.node-view.result.texts given.texts c.bytes_of.result.now c.bytes_of-2.result.now
          (search rules) view.texts c.bytes_of.ensures c.bytes_of-2.ensures;
      count = view.parts;
      parts = parts-of-three (trees_of y) c.args.firsts.now given.parts c.part_number.result c.part_number-2.result c.part_number-3.result
          c.node-view.result.parts c.node-view.ensures.few view.parts c.part_number.ensures.part c.part_number-2.ensures.part c.part_number-3.ensures.part;
      rest = rest-of-three given.parts c.part_number.result c.part_number-2.result c.part_number-3.result c.node-view.result.parts view.parts
          c.part_number.ensures.rest c.part_number-2.ensures.rest c.part_number-3.ensures.rest;
      long = omega arith;
    }
