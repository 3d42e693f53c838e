-- The answers to the goals of `checking::packages_are_unique`.
use Rattle.types_check.proofs.OneLaid.{one_package}
use Rattle.types_check.proofs.checking.packages_are_unique.Goals as goal

pub returns : goal.returns
returns c = λ path files name_of export_data_of p q h k. one_package path files name_of export_data_of p q h k
