-- A package has one unit at most.
use Rattle.std.proofs.Common.{ℕ, ◌≡◌, List, [], ◌∷◌, map, refl, sym, ap, subst, ◌∙◌}
use Rattle.std.proofs.Math.Path.{ap₂, fun_ext}
use Rattle.base_files.specs.Workspace.{Workspace}
use Rattle.go_ast.specs.SourceFile.{SourceFile, FileParts, source_of}
use Rattle.workspace_graph.specs.FaultyFiles.{FaultyParts}
use Rattle.workspace_graph.specs.Parsed.{AreParsed, none, tree, fault}
use Rattle.workspace_graph.proofs.OneFile.{one_file, file_or_fault}
use Rattle.types_check.specs.Exports.{IsExportData}
use Rattle.types_declared.specs.Package.{ExportData}
use Rattle.workspace_check.proofs.OneList.{one_list}
use Rattle.workspace_check.proofs.OnePackage.{layout_formed, files_in_order, one_export_data}
use Rattle.workspace_check.proofs.OneVerdict.{checked_as_one}
use Rattle.build_object.specs.Sources.{IsObjectText}
use Rattle.build_object.proofs.OneObject.{one_text}
use Rattle.build_unit.specs.Laws.{HaveOneUnit}
use Rattle.build_unit.specs.Units.{AreFilesSeen, within, beyond, IsCompiled, Faults, Done}

-- the files that have trees are found once
one_sources : {es : List (List ℕ × List ℕ)} {ts us : List FileParts} {fs gs : List FaultyParts} → AreParsed es ts fs → AreParsed es us gs →
    map source_of ts ≡ map source_of us
one_sources none none = refl
one_sources (tree {e = e} {t = t} is rest) (tree {t = u} so others) =
    ap₂ (λ s ss. s ∷ ss) (one_file e.0 e.1 (source_of t) (source_of u) is so) (one_sources rest others)
one_sources (tree {e = e} {t = t} is rest) (fault {f = f} so others) = absurd (file_or_fault e.0 e.1 (source_of t) f.fault is so.is_fault)
one_sources (fault {e = e} {f = f} is rest) (tree {t = t} so others) = absurd (file_or_fault e.0 e.1 (source_of t) f.fault so is.is_fault)
one_sources (fault is rest) (fault so others) = one_sources rest others

one_read : (w : Workspace) (p q : List ℕ) (a b : List SourceFile) → AreFilesSeen w p q a → AreFilesSeen w p q b → a ≡ b
one_read w p q a b (within closed f) (within also g) = f.are_files ∙ one_sources f.parsed g.parsed ∙ sym g.are_files
one_read w p q a _ (within closed f) (beyond outside) = absurd (outside closed)
one_read w p q _ b (beyond outside) (within closed g) = absurd (outside closed)
one_read w p q _ _ (beyond outside) (beyond also) = refl

one_compiled : (w : Workspace) (p : List ℕ) (i j : ExportData) (a b : List ℕ) → IsCompiled w p i a → IsCompiled w p j b → Done i a ≡ Done j b
one_compiled w p i j a b u v =
    let same : v.checked ≡ u.checked = checked_as_one w p v.known u.known v.right u.right v.checked u.checked v.is_package u.is_package in
    let files : v.files_of ≡ u.files_of = fun_ext (λ q. one_read w p q (v.files_of q) (u.files_of q) (v.are_files q) (u.are_files q)) in
    let formed = layout_formed w u.known p u.checked u.is_package in
    let in_order = files_in_order w u.known p u.checked u.is_package in
    let export_table : i ≡ j = one_export_data u.checked formed in_order i j u.export_data (subst (λ c. IsExportData c j) same v.export_data) in
    let objects : a ≡ b = one_text u.checked formed in_order u.files_of a b u.is_object
    (subst (λ f. IsObjectText u.checked f b) files (subst (λ c. IsObjectText c v.files_of b) same v.is_object)) in
    ap₂ (λ x y. Done x y) export_table objects

pub one_unit : HaveOneUnit
one_unit w p (Faults a) (Faults b) h k = ap (λ l. Faults l) (one_list w p a b h.0 k.0)
one_unit w p (Faults a) (Done j b) h k = absurd (h.1 (one_list w p a [] h.0 k.faultless))
one_unit w p (Done i a) (Faults b) h k = absurd (k.1 (one_list w p b [] k.0 h.faultless))
one_unit w p (Done i a) (Done j b) h k = one_compiled w p i j a b h k
