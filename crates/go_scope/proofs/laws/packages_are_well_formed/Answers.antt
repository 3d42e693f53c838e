-- The answers to the goals of `laws::packages_are_well_formed`.
use Rattle.go_scope.proofs.PackageRegions.{package_well_formed}
use Rattle.go_scope.proofs.laws.packages_are_well_formed.Goals as goal

pub returns : goal.returns
returns c = λ files w. package_well_formed files w
