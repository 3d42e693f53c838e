-- What is told of documents.
use Rattle.std.proofs.Common.{ℕ, ◌≡◌, ◌∙◌, ◌==◌, ◌||◌, Bool, true, false, List, [], ◌∷◌, ◌++◌, bytes_eq, if◌then◌else◌, refl, sym, ap}
use Rattle.std.specs.Cmp.Lexicographic.{pointwise}
use Rattle.std.specs.List.{flat_map}
use Rattle.serde_json.specs.Data.{Data}
use Rattle.serde_json.specs.View.{items_of}
use Rattle.serde_json.specs.Written.{has_float, items_have_float}
use Rattle.lsp_edits.specs.declared.telling.Telling.{Telling}
use Rattle.lsp_editor.specs.Publications.{PublicationView, kept_at, lines_told}
use Rattle.lsp_editor.specs.declared.editor.Editor.{Editor}
use Rattle.lsp_told.specs.Diagnostics.{fault_data, faults_at, faults_data}
use Rattle.workspace_check.specs.declared.fault.FileFault.{FileFault}
use Rattle.lsp_service.specs.Publishing.{if_not_told, told_unless}

free_more : (is_here : Bool) (fault : Data) (others : List Data) → has_float fault ≡ false → items_have_float (items_of others) ≡ false
    → items_have_float (items_of ((if is_here then fault ∷ [] else []) ++ others)) ≡ false
free_more true fault others is free = ap (λ h. h || items_have_float (items_of others)) is ∙ free
free_more false fault others is free = free

-- no fault that is told has a float
pub float_free : (telling : Telling) (name text : List ℕ) (found : List FileFault) → items_have_float (faults_data telling name text found) ≡ false
float_free telling name text [] = refl
float_free telling name text (fault ∷ others) =
    free_more (pointwise ◌==◌ fault.place.path name) (fault_data telling text fault) (flat_map (faults_at telling name text) others) refl
    (float_free telling name text others)

-- whether it is published, by whether its lines were told last
pub by_lines : (editor : Editor) (publication : PublicationView) (lines : List ℕ) (is_told b : Bool)
    → is_told ≡ bytes_eq lines (lines_told (kept_at editor publication.name)) → lines ≡ publication.kept.lines → is_told ≡ b
    → if_not_told b publication ≡ told_unless editor publication
by_lines editor publication lines is_told b told same is =
    ap (λ t. if_not_told t publication) (sym is ∙ told)
    ∙ ap (λ l. if_not_told (bytes_eq l (lines_told (kept_at editor publication.name))) publication) same
