-- A package by its number, and a package with its index.
use Rattle.std.specs.Prelude.{◌<◌, length, map}
use Rattle.base_files.specs.Packages.{package_paths}
use Rattle.types_declared.specs.Package.{Package}
use Rattle.types_declared.specs.PackageView.{package_of, IsIndexOf}
use Rattle.types_info.specs.MemberUses.{AreMemberUses, uses_in}
use Rattle.refs_binding.specs.declared.indexed.Numbered.{Numbered}
use Rattle.refs_binding.specs.declared.indexed.Indexed.{Indexed}
use Rattle.refs_binding.specs.Members.{AreOwnDefinitions}
use Rattle.refs_binding.specs.Workspaces.{known_in, IsPackageAt}

-- The number is that of a package of a workspace without faults.
pub record IsPackageNumber (at : Numbered) : Type 0 where
  pub in_range : at.number < length (package_paths at.workspace.now.graph)

-- `p` is the package of the number.
abbrev pub IsPackageNumbered : Numbered → Package → Type 0
IsPackageNumbered at p = IsPackageAt at.workspace.now.graph (known_in at.workspace.now.findings) at.number p

-- The index, the type definitions and the uses of members are those of the package.
pub record IsIndexed (of : Indexed) : Type 0 where
  pub index : IsIndexOf (package_of of.unit) of.index.now
  pub own : AreOwnDefinitions (package_of of.unit) of.own.now
  pub members : AreMemberUses (package_of of.unit) (map uses_in of.members.now)
