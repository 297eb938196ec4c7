use Rattle.cpp_layout.proofs.Naming.{angle-is, no-angle}
use Rattle.cpp_layout.proofs.names.is_angle.Goals as goal

pub returns-in-Operator : goal.returns-in-Operator
returns-in-Operator c s ts = angle-is s ts c.args.piece c.in-Operator.first c.in-Operator.second c.is_angle_code.result c.in-Operator.is c.is_angle_code.ensures

pub returns-in_default : goal.returns-in_default
returns-in_default c s ts = no-angle s ts c.args.piece c.in_default.not-Operator
