use Rattle.cpp_layout.proofs.Basics.{arith, printed}
use Rattle.cpp_layout.proofs.Operating.{operation_placed, row_there, row_coded, row_texts, row_few}
use Rattle.cpp_layout.proofs.operation_rows.operation_of.Goals as goal

pub bounds-place_of : goal.bounds-place_of
bounds-place_of c = row_there c.place_of.result (printed c.args.first c.args.second) (operation_placed c.args.first c.args.second c.place_of.result c.ranges.second.fits c.place_of.ensures)

pub offset_bounds-place_of : goal.offset_bounds-place_of
offset_bounds-place_of c = omega (arith, row_there c.place_of.result (printed c.args.first c.args.second) (operation_placed c.args.first c.args.second c.place_of.result c.ranges.second.fits c.place_of.ensures))

pub returns : goal.returns
returns c =
    let placed = operation_placed c.args.first c.args.second c.place_of.result c.ranges.second.fits c.place_of.ensures in
    let there = row_there c.place_of.result (printed c.args.first c.args.second) placed in
    record {
      is = row_coded c.place_of.result (printed c.args.first c.args.second) _ placed;
      texts = row_texts c.place_of.result _ there;
      few = row_few c.place_of.result _ there;
    }
