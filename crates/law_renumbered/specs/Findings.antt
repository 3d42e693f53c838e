-- What the check of a package finds where its tokens and identifiers get other numbers: the export data stay, and no fault of members or of
-- types comes.
use Rattle.std.specs.Prelude.{ℕ, ◌≡◌, Some, slice_get, Contains}
use Rattle.go_ast.specs.SourceFile.{SourceFile, spelling_of}
use Rattle.go_scope.specs.Bindings.{Counts}
use Rattle.types_expr.specs.Judge.{MemberUse, members_of}
use Rattle.types_expr.specs.World.{World}
use Rattle.types_stmt.specs.Declarations.{check_file}
use Rattle.types_declared.specs.declared.fault.Fault.{Fault}
use Rattle.types_declared.specs.Files.{package_name}
use Rattle.types_declared.specs.Package.{Package, ExportData}
use Rattle.types_members.specs.MemberFaults.{IsMemberFault}
use Rattle.types_info.specs.Worlds.{IsWorldOf, is_init}
use Rattle.types_check.specs.Exports.{IsExportData}
use Rattle.types_check.specs.TypeFaults.{IsTypeFault}
use Rattle.law_changed_types.specs.RenumberedPackage.{NewNumbers, IsRenumberedPackage}

-- Each identifier keeps its name, and what counts in q is a declaration of p. The package keeps its name.
pub record KeepsNames (n : NewNumbers) (p q : Package) : Type 0 where
  pub names : (d : ℕ) → q.names (n.identifier d) ≡ p.names d
  pub declared : (e : ℕ) → Counts q.layout q.names e → (d : ℕ) × (e ≡ n.identifier d)
  pub name : package_name q.files ≡ package_name p.files

-- The export data of p are those of q.
abbrev pub ExportsRenumber : Type 0
ExportsRenumber = (n : NewNumbers) (p q : Package) → IsRenumberedPackage n p q → KeepsNames n p q → (i : ExportData) → IsExportData p i → IsExportData q i

-- Where p has no fault of members, q has none.
abbrev pub NoMemberFaultComes : Type 0
NoMemberFaultComes = (n : NewNumbers) (p q : Package) → IsRenumberedPackage n p q → ((f : Fault) → IsMemberFault p f → ⊥) → (f : Fault) → IsMemberFault q f → ⊥

-- Each file of p is judged in a world, and names at uses of members are spelled in q as in p.
pub record IsJudgedAnew (n : NewNumbers) (p q : Package) (file : ℕ) (g : SourceFile) : Type 0 where
  pub source : SourceFile
  pub in_file : slice_get p.files file ≡ Some source
  pub world : World
  pub judged_by : IsWorldOf p file source world
  pub spelled : (u : MemberUse) → Contains (members_of (check_file world (is_init source) source.tree).uses) u →
      spelling_of g (n.token file u.place) ≡ spelling_of source u.place

-- Where p has no fault of types, q has none.
abbrev pub NoTypeFaultComes : Type 0
NoTypeFaultComes = (n : NewNumbers) (p q : Package) → IsRenumberedPackage n p q →
    ((file : ℕ) (g : SourceFile) → slice_get q.files file ≡ Some g → IsJudgedAnew n p q file g) → ((f : Fault) → IsTypeFault p f → ⊥) →
    (f : Fault) → IsTypeFault q f → ⊥
