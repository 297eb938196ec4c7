-- What holds of each slot in which a type may be.
use Rattle.cpp_press_laws.specs.Fits.{Slot, any_type, bare_type, item_type, parameter_type, literal_type}

pub each-slot : (F : Slot → Type 0) → F any_type → F bare_type → F item_type → F parameter_type → F literal_type → (slot : Slot) → F slot
each-slot F any bare item parameter literal any_type = any
each-slot F any bare item parameter literal bare_type = bare
each-slot F any bare item parameter literal item_type = item
each-slot F any bare item parameter literal parameter_type = parameter
each-slot F any bare item parameter literal literal_type = literal
