-- The uses of another package's field or method, by what is known of a package.
use Rattle.std.specs.Prelude.{ℕ, ◌≡◌, map}
use Rattle.base_files.specs.Workspace.{Workspace}
use Rattle.go_ast.specs.SourceFile.{source_of}
use Rattle.types_declared.specs.Package.{Package}
use Rattle.types_declared.specs.Definitions.{AreDefinitions}
use Rattle.types_info.specs.MemberUses.{AreMemberUses, uses_in}
use Rattle.workspace_check.specs.Verdicts.{Verdicts}
use Rattle.refs_binding.specs.declared.declaration.Declaration.{Declaration}
use Rattle.refs_binding.specs.declared.declaration.Declaration.TheVariants.{Predeclared, Declared, Field, Method}
use Rattle.refs_binding.specs.Members.{definitions_known}
use Rattle.refs_binding.specs.Uses.{IsCheckedPackage}
use Rattle.refs_uses.specs.declared.members_abroad.KnownUses.{KnownUses}
use Rattle.refs_uses.specs.Abroad.{IsAbroad}

-- `of` has the trees of the package `p`, the type definitions that it knows, and its uses of members.
pub record IsKnownOf (w : Workspace) (known : Verdicts) (p : Package) (of : KnownUses) : Type 0 where
  pub is_package : IsCheckedPackage w known p
  pub files : map source_of of.files.now ≡ p.files
  pub path : of.types.path.now ≡ p.path
  pub definitions : AreDefinitions p (definitions_known of.types)
  pub members : AreMemberUses p (map uses_in of.members.now)

-- The declaration is a field or method of another package than `number`.
abbrev pub IsMemberAbroad : Workspace → Verdicts → (number : ℕ) → Declaration → Type 0
IsMemberAbroad w known number (Predeclared d) = ⊥
IsMemberAbroad w known number (Declared path d) = ⊥
IsMemberAbroad w known number (Field s) = IsAbroad w known number s.package
IsMemberAbroad w known number (Method s) = IsAbroad w known number s.package
