-- What a reader reads is the package of the number that it was made for.
use Rattle.std.proofs.Common.{◌≡◌, subst}
use Rattle.types_declared.specs.Package.{Package}
use Rattle.refs_binding.specs.declared.indexed.Numbered.{Numbered}
use Rattle.refs_binding.specs.declared.package_reader.PackageReader.{PackageReader}
use Rattle.refs_binding.specs.Indexed.{IsPackageNumbered}

pub package_read : (at : Numbered) (reader : PackageReader) (p : Package) → reader.at ≡ at → IsPackageNumbered reader.at p → IsPackageNumbered at p
package_read at reader p same is = subst (λ (here : Numbered). IsPackageNumbered here p) same is
