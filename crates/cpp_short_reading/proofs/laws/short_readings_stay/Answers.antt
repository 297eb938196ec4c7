use Rattle.cpp_short_reading.proofs.Staying.{meaning-stays}
use Rattle.cpp_short_reading.proofs.laws.short_readings_stay.Goals as goal

pub returns : goal.returns
returns c = meaning-stays
