-- The files of a package lie in its folder, and so does what begins in them.
use Rattle.std.proofs.Common.{ℕ, ◌≡◌, List, Option, Some, None, refl, sym, ap, ◌∙◌}
use Rattle.std.specs.Prelude.{slice_get}
use Rattle.base_files.specs.Path.{folder}
use Rattle.base_files.specs.Workspace.{Workspace}
use Rattle.go_ast.specs.SourceFile.{SourceFile}
use Rattle.types_declared.specs.Package.{Package}
use Rattle.workspace_check.specs.Verdicts.{Verdicts}
use Rattle.workspace_check.proofs.PackageFiles as checked
use Rattle.refs_binding.specs.Identifiers.{BeginsAt, NameBegins, file_of}
use Rattle.refs_binding.specs.Uses.{IsCheckedPackage}

pub file_in_folder : (w : Workspace) (known : Verdicts) (p : Package) → IsCheckedPackage w known p → (rank : ℕ) (f : SourceFile) →
    slice_get p.files rank ≡ Some f →
    folder f.path ≡ p.path
file_in_folder w known p is rank f at = checked.file_in_folder w known p.path p is.is_checked rank f at

pub some_file : (o : Option SourceFile) (token : ℕ) (path : List ℕ) (offset : ℕ) → NameBegins o token path offset →
    (f : SourceFile) × ((o ≡ Some f) × (f.path ≡ path))
some_file None token path offset h = absurd h
some_file (Some f) token path offset h = (f, (refl, h.1))

pub begins_in_folder : (w : Workspace) (known : Verdicts) (p : Package) → IsCheckedPackage w known p → (path : List ℕ) (offset u : ℕ) →
    BeginsAt p path offset u →
    p.path ≡ folder path
begins_in_folder w known p is path offset u b =
    let f = some_file (file_of p u) (p.layout.place u).index path offset b.1 in
    sym (file_in_folder w known p is (p.layout.place u).file f.0 f.1.0) ∙ ap folder f.1.1
