-- What is found of the files of a package stays, so the package gets no fault of types.
use Rattle.std.proofs.Common.{ℕ, ◌≡◌, List, ap, subst, ◌∙◌}
use Rattle.std.specs.Prelude.{Contains}
use Rattle.base_edits.specs.EditSet.{FileChanges, edited}
use Rattle.base_edits.specs.RevisionsOfEdits.{revision_of}
use Rattle.base_files.specs.Workspace.{Workspace}
use Rattle.types_stmt.specs.Checked.{FoundSoFar}
use Rattle.types_stmt.specs.Declarations.{check_file}
use Rattle.types_declared.specs.declared.fault.Fault.{Fault}
use Rattle.types_declared.specs.Package.{Package}
use Rattle.types_info.specs.Worlds.{is_init}
use Rattle.types_check.specs.TypeFaults.{IsTypeFault}
use Rattle.refs_binding.specs.declared.declaration.Declaration.{Declaration}
use Rattle.workspace_check.specs.Verdicts.{Verdicts}
use Rattle.law_faultless.specs.Worlds.{HaveWorlds}
use Rattle.law_changed_types.specs.MemberUses.{FilesAskForTheirUses}
use Rattle.law_renamed_workspaces.specs.Harmless.{IsHarmless}
use Rattle.law_renamed_workspaces.specs.SameWorlds.{WorldsStay}
use Rattle.law_renamed_workspaces.specs.Renames.{IsPlainRename}
use Rattle.law_renamed_workspaces.specs.VerdictsStay.{IsPackageAfter, FoundStays}
use Rattle.law_renamed_workspaces.proofs.Inits.{file_of_tree, same_tree, keep_inits}

pub found_stays : WorldsStay → FilesAskForTheirUses → FoundStays
found_stays worlds ask w before after d name s plain none p q here file f g v x at there judged now =
    let trees : g.tree ≡ f.tree = same_tree p.files q.files here.relaid.trees file f g at there in
    let inits = keep_inits w (edited s w) before after p q here.was.is_checked here.is.is_checked here.relaid.layout here.relaid.size file f g at there trees in
    let alike = worlds w before after d name s plain none p q here file f g v x at there judged now in
    ap (λ t. check_file x (is_init g) t) trees ∙ ask v x (is_init f) (is_init g) f.tree inits alike

pub no_type_fault : FoundStays → (w : Workspace) (before after : Verdicts) (d : Declaration) (name : List ℕ) (s : FileChanges) →
    IsPlainRename w before d name s → IsHarmless w before (revision_of w s) → (p q : Package) → IsPackageAfter w before after s p q → HaveWorlds p →
    ((f : Fault) → IsTypeFault p f → ⊥) → (f : Fault) → IsTypeFault q f → ⊥
no_type_fault stays w before after d name s plain none p q here worlds fine fault h =
    let f = file_of_tree p.files q.files here.relaid.trees fault.file h.source h.in_file in
    let v = worlds fault.file f.0 f.1 in
    let same = stays w before after d name s plain none p q here fault.file f.0 h.source v.0 h.world f.1 h.in_file v.1 h.judged_by in
    fine fault (record {
      source = f.0;
      in_file = f.1;
      world = v.0;
      judged_by = v.1;
      found = subst (λ (c : FoundSoFar). Contains c.faults fault.token) same h.found;
      kind = h.kind;
    })
