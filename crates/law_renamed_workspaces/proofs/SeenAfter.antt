-- What a package sees of the definitions of others after a rename.
use Rattle.std.proofs.Common.{ℕ, ◌≡◌, false, List, ap, sym, subst, ◌∙◌, refl}
use Rattle.std.specs.Prelude.{Option}
use Rattle.std.proofs.lemmas.Bool.{true≢false}
use Rattle.base_files.specs.Workspace.{Workspace}
use Rattle.base_edits.specs.Revisions.{Revision}
use Rattle.types_declared.specs.Package.{Package, ExportData}
use Rattle.workspace_check.specs.Verdicts.{Verdicts, BuildsOn, IsSeenAs, seen, unseen}
use Rattle.refs_binding.specs.Uses.{IsCheckedPackage}
use Rattle.law_renamed_workspaces.specs.MembersMoved.{IsDefinitionAfter, AreDefinitionsAfterBelow, BuildsOnTheSame, SeenDefinitionsFollow}
use Rattle.law_renamed_workspaces.proofs.DefinitionsAfter.{nothing_after}

-- what a package sees of a path
pub see : (w : Workspace) (known : Verdicts) (p : Package) → IsCheckedPackage w known p → (path : List ℕ) →
    (n : Option (List ℕ)) × IsSeenAs w known p.path path n (p.export_data_of path)
see w known p is path =
    let h = is.is_checked in
    let table : h.export_data_of path ≡ p.export_data_of path = ap (λ (x : Package). x.export_data_of path) (sym h.is_package.is_package) in
    (h.name_of path, subst (IsSeenAs w known p.path path (h.name_of path)) table (h.are_seen path))

module _ (w x : Workspace) (before after : Verdicts) (r : Revision) (path : List ℕ) (sound : (o : List ℕ) → BuildsOn w path o → (before o).faulty ≡ false)
    (same : BuildsOnTheSame w x after path) (below : AreDefinitionsAfterBelow w before after r path) (o : List ℕ) (rank : ℕ) where
  by_sight : (n m : Option (List ℕ)) (i j : ExportData) → IsSeenAs w before path o n i → IsSeenAs x after path o m j →
      IsDefinitionAfter (IsCheckedPackage w before) r o rank (i.definition rank) (j.definition rank)
  by_sight _ _ _ _ (seen on fine) (seen also well) = below o on rank
  by_sight _ _ _ _ (seen on fine) (unseen away) = absurd (true≢false (sym (away ((same.same o).0 on)) ∙ same.sound o on))
  by_sight _ _ _ _ (unseen away) (seen also well) =
      let on = (same.same o).1 also in absurd (true≢false (sym (away on) ∙ sound o on))
  by_sight _ _ _ _ (unseen away) (unseen too) =
      nothing_after (IsCheckedPackage w before) r o rank (record { «package» = o; rank = rank }) (record { «package» = o; rank = rank }) refl

pub seen_follow : SeenDefinitionsFollow
seen_follow w x before after r p q is also path sound same below o rank other =
    let a = see w before p is o in
    let b = see x after q also o in
    by_sight w x before after r p.path sound same below o rank a.0 b.0 (p.export_data_of o) (q.export_data_of o) a.1
    (subst (λ k. IsSeenAs x after k o b.0 (q.export_data_of o)) path b.1)
