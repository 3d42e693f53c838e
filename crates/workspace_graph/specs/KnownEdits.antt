-- Changes of single files by edits that are known.
use Rattle.std.specs.Prelude.{◌≡◌, ℕ, IsTrue, List, Some}
use Rattle.std.specs.FinMap as files
use Rattle.std.specs.List.{Contains}
use Rattle.base_files.specs.Workspace.{Workspace}
use Rattle.base_edits.specs.Edits.{edited_text}
use Rattle.base_edits.specs.Fits.{is_staying}
use Rattle.base_edits.specs.declared.change.FileChange.{FileChange}
use Rattle.go_ast.specs.SourceFile.{FileParts}
use Rattle.workspace_graph.specs.declared.package.ParsedPackage.{ParsedPackage}

-- Where the change leaves its file at its path, its edits make of the text that `before` has there the text that `after` has there.
abbrev pub EditsMake : Workspace → Workspace → FileChange → Type 0
EditsMake before after c = IsTrue (is_staying c.fate) → (text : List ℕ) → files.get before c.path ≡ Some text →
    files.get after c.path ≡ Some (edited_text c.edits text)

-- Of each tree in the packages at the change's path, the edits make the text that `after` has there. A change that moves or drops its file
-- says nothing.
abbrev pub EditsMakeOf : List ParsedPackage → Workspace → FileChange → Type 0
EditsMakeOf packages after c = IsTrue (is_staying c.fate) → (p : ParsedPackage) (t : FileParts) → Contains packages p → Contains p.trees.items t →
    t.path ≡ c.path → files.get after c.path ≡ Some (edited_text c.edits t.cut.text)

-- The tree has the path, and the text that the workspace has there.
abbrev pub IsTreeOfPath : Workspace → List ℕ → FileParts → Type 0
IsTreeOfPath w path t = (t.path ≡ path) × (files.get w path ≡ Some t.cut.text)

-- The tree is one of the trees of the packages, and has the path.
abbrev pub IsTreeAmong : List ParsedPackage → List ℕ → FileParts → Type 0
IsTreeAmong packages path t = (p : ParsedPackage) × Contains packages p × Contains p.trees.items t × (t.path ≡ path)
