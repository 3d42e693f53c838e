-- Trees of files whose edits are known.
use Rattle.std.proofs.Common.{◌≡◌, ℕ, true, List, Some, sym, ap, subst, ◌∙◌}
use Rattle.std.specs.Prelude.{IsTrue}
use Rattle.std.specs.FinMap.{get}
use Rattle.std.specs.List.{All, Contains}
use Rattle.std.proofs.lemmas.List.Elements.{All-contains, All-weaker}
use Rattle.std.proofs.lemmas.Option.{same_Some}
use Rattle.base_files.specs.Packages.{is_of_package}
use Rattle.base_files.specs.Workspace.{Workspace}
use Rattle.base_edits.specs.Edits.{edited_text}
use Rattle.base_edits.specs.Fits.{is_staying}
use Rattle.base_edits.specs.declared.change.FileChange.{FileChange}
use Rattle.go_ast.specs.SourceFile.{FileParts}
use Rattle.workspace_graph.specs.Drafts.{SetsFile, SetsText, draft_path}
use Rattle.workspace_graph.specs.KnownEdits.{EditsMake, EditsMakeOf, IsTreeAmong, IsTreeOfPath}
use Rattle.workspace_graph.specs.SameGoFiles.{HasFiles}
use Rattle.workspace_graph.specs.declared.drafts.Draft.{Draft}
use Rattle.workspace_graph.specs.declared.package.ParsedPackage.{ParsedPackage}
use Rattle.workspace_graph.proofs.InFolder.{held}

-- the packages have the files of the workspace
make_of : (v w : Workspace) (ps : List ParsedPackage) (c : FileChange) → All (HasFiles v) ps → EditsMake v w c → EditsMakeOf ps w c
make_of v w ps c have make stays p t has among same =
    let at = (held v p (All-contains (HasFiles v) ps p have has)).tree t among in
    make stays t.cut.text (ap (get v) (sym same) ∙ at.there)

pub edits_make_of : (v w : Workspace) (ps : List ParsedPackage) (cs : List FileChange) → All (HasFiles v) ps → All (EditsMake v w) cs →
    All (EditsMakeOf ps w) cs
edits_make_of v w ps cs have make = All-weaker (EditsMake v w) (EditsMakeOf ps w) (λ c. make_of v w ps c have) cs make

-- the text at the path of a change
pub text_made : (ps : List ParsedPackage) (w : Workspace) (path text : List ℕ) (t : FileParts) (c : FileChange) → EditsMakeOf ps w c →
    IsTrue (is_staying c.fate) → c.path ≡ path → IsTreeAmong ps path t → get w path ≡ Some text → text ≡ edited_text c.edits t.cut.text
text_made ps w path text t c make stays at among has =
    same_Some text (edited_text c.edits t.cut.text)
    (sym has ∙ ap (get w) (sym at) ∙ make stays among.0 t among.1 among.2 (among.3 ∙ sym at))

-- the text of a tree is set at a path
pub set_at_path : (w : Workspace) (path : List ℕ) (t : FileParts) (old new : Draft) → IsTreeOfPath w path t → is_of_package (draft_path old) path ≡ true →
    SetsText t.path t.cut.text old new → SetsFile w path old new
set_at_path w path t old new is of sets =
    subst (λ (p : List ℕ). is_of_package (draft_path old) p ≡ true → SetsFile w p old new) is.0 (sets w (ap (get w) is.0 ∙ is.1)) of
