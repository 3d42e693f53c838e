-- The packages that can use a member: the one that declares it, and those that build on that one.
use Rattle.std.specs.Prelude.{ℕ, ◌≡◌, ◌⊎◌, List, []}
use Rattle.base_files.specs.Workspace.{Workspace}
use Rattle.types_declared.specs.Package.{Package}
use Rattle.workspace_check.specs.FaultLists.{ListsFaults}
use Rattle.workspace_check.specs.Verdicts.{Verdicts, AreVerdicts, BuildsOn}
use Rattle.refs_binding.specs.declared.declaration.Declaration.{Declaration}
use Rattle.refs_binding.specs.declared.declaration.Declaration.TheVariants.{Predeclared, Declared, Field, Method}
use Rattle.refs_binding.specs.Binding.{BindsByMember}
use Rattle.refs_binding.specs.Uses.{IsCheckedPackage}

-- `q` is the path itself, or that of a package on which the package at the path builds.
abbrev pub ReachesPath : Workspace → List ℕ → List ℕ → Type 0
ReachesPath w path q = (q ≡ path) ⊎ BuildsOn w path q

-- The path of the package that declares the declaration. A predeclared one has none.
abbrev pub home_of : Declaration → List ℕ
home_of (Predeclared n) = []
home_of (Declared path n) = path
home_of (Field s) = s.package
home_of (Method s) = s.package

-- A package that uses a member is the one that declares it, or builds on that one.
abbrev pub UsersReachMembers : Type 0
UsersReachMembers = (w : Workspace) (known : Verdicts) → ListsFaults w [] → AreVerdicts w known → (x : Package) → IsCheckedPackage w known x →
    (u : ℕ) (e : Declaration) → BindsByMember x u e → ReachesPath w x.path (home_of e)
