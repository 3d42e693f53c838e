-- The answers to the goals of `laws::numbers_have_packages`.
use Rattle.refs_binding.proofs.PackageNumbers.{package_there}
use Rattle.refs_binding.proofs.laws.numbers_have_packages.Goals as goal

pub returns : goal.returns
returns c = package_there
