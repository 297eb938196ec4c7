use Rattle.sym_recent.proofs.KeptLemmas.{all-longer-if, all-added, both}
use Rattle.std.proofs.Common.{◌∙◌, ap, length}
use Rattle.std.specs.Result.{is_ok}
use Rattle.sym_recent.proofs.table.Table.keep.Goals as goal

pub returns-then-is_err-clause-keeps : goal.returns-then-is_err-clause-keeps
returns-then-is_err-clause-keeps c answer kept is =
    all-longer-if answer (is_ok c.extend_from_slice.result) c.make_room.new.self.bytes.items c.args.symbol.now c.extend_from_slice.new.self.items c.make_room.new.self.entries.items
    c.extend_from_slice.ensures.items (c.make_room.ensures.keeps answer kept)

pub returns-then-is_err-2-clause-keeps : goal.returns-then-is_err-2-clause-keeps
returns-then-is_err-2-clause-keeps c answer kept is =
    all-longer-if answer (is_ok c.extend_from_slice-2.result) c.extend_from_slice.new.self.items c.args.text.now c.extend_from_slice-2.new.self.items c.make_room.new.self.entries.items
    c.extend_from_slice-2.ensures.items
    (all-longer-if answer (is_ok c.extend_from_slice.result) c.make_room.new.self.bytes.items c.args.symbol.now c.extend_from_slice.new.self.items c.make_room.new.self.entries.items
    c.extend_from_slice.ensures.items (c.make_room.ensures.keeps answer kept))

pub returns-then-is_err-3-clause-keeps : goal.returns-then-is_err-3-clause-keeps
returns-then-is_err-3-clause-keeps c answer kept is =
    all-added answer c.make_room.new.self.bytes.items c.args.symbol.now c.args.text.now c.extend_from_slice-2.new.self.items c.args.kind c.make_room.new.self.entries.items c.push.new.self.items
    (record { kind = c.args.kind; at = c.len.result; symbol = length c.args.symbol.now; text = length c.args.text.now }) (is_ok c.push.result)
    is (c.make_room.ensures.keeps answer kept)
    (both (is_ok c.extend_from_slice.result) (is_ok c.extend_from_slice-2.result) c.is_err.result c.is_err-2.result
    c.make_room.new.self.bytes.items c.args.symbol.now c.args.text.now c.extend_from_slice.new.self.items c.extend_from_slice-2.new.self.items
    c.is_err.ensures.negation c.if-is_err.false c.extend_from_slice.ensures.items
    c.is_err-2.ensures.negation c.if-is_err-2.false c.extend_from_slice-2.ensures.items)
    (ap (λ n. record { kind = c.args.kind; at = n; symbol = length c.args.symbol.now; text = length c.args.text.now }) (c.len.ensures ∙ c.make_room.new.self.bytes.ok.0))
    c.push.ensures.items

pub returns-then-place-len-clause-keeps : goal.returns-then-place-len-clause-keeps
returns-then-place-len-clause-keeps c answer kept is =
    all-added answer c.make_room.new.self.bytes.items c.args.symbol.now c.args.text.now c.extend_from_slice-2.new.self.items c.args.kind c.make_room.new.self.entries.items c.push.new.self.items
    (record { kind = c.args.kind; at = c.len.result; symbol = length c.args.symbol.now; text = length c.args.text.now }) (is_ok c.push.result)
    is (c.make_room.ensures.keeps answer kept)
    (both (is_ok c.extend_from_slice.result) (is_ok c.extend_from_slice-2.result) c.is_err.result c.is_err-2.result
    c.make_room.new.self.bytes.items c.args.symbol.now c.args.text.now c.extend_from_slice.new.self.items c.extend_from_slice-2.new.self.items
    c.is_err.ensures.negation c.if-is_err.false c.extend_from_slice.ensures.items
    c.is_err-2.ensures.negation c.if-is_err-2.false c.extend_from_slice-2.ensures.items)
    (ap (λ n. record { kind = c.args.kind; at = n; symbol = length c.args.symbol.now; text = length c.args.text.now }) (c.len.ensures ∙ c.make_room.new.self.bytes.ok.0))
    c.push.ensures.items

pub returns-else-place-len-clause-keeps : goal.returns-else-place-len-clause-keeps
returns-else-place-len-clause-keeps c answer kept is =
    all-added answer c.make_room.new.self.bytes.items c.args.symbol.now c.args.text.now c.extend_from_slice-2.new.self.items c.args.kind c.make_room.new.self.entries.items c.push.new.self.items
    (record { kind = c.args.kind; at = c.len.result; symbol = length c.args.symbol.now; text = length c.args.text.now }) (is_ok c.push.result)
    is (c.make_room.ensures.keeps answer kept)
    (both (is_ok c.extend_from_slice.result) (is_ok c.extend_from_slice-2.result) c.is_err.result c.is_err-2.result
    c.make_room.new.self.bytes.items c.args.symbol.now c.args.text.now c.extend_from_slice.new.self.items c.extend_from_slice-2.new.self.items
    c.is_err.ensures.negation c.if-is_err.false c.extend_from_slice.ensures.items
    c.is_err-2.ensures.negation c.if-is_err-2.false c.extend_from_slice-2.ensures.items)
    (ap (λ n. record { kind = c.args.kind; at = n; symbol = length c.args.symbol.now; text = length c.args.text.now }) (c.len.ensures ∙ c.make_room.new.self.bytes.ok.0))
    c.push.ensures.items
