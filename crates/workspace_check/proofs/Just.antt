-- If the verdicts of just the packages that `p` builds on are known, these are just the packages that `p` sees.
use Rattle.std.proofs.Common.{ℕ, ◌≡◌, ◌⊎◌, inl, inr, List, refl, sym, ap, subst, ◌∙◌}
use Rattle.std.specs.Prelude.{Contains, Option, Some, None, slice_get}
use Rattle.std.proofs.lemmas.Option.{none-some, same_Some}
use Rattle.base_files.specs.Workspace.{Workspace}
use Rattle.base_files.specs.Packages.{package_paths}
use Rattle.workspace_graph.specs.Graphs.{ListsPackages}
use Rattle.workspace_graph.proofs.ByPath.{number}
use Rattle.types_declared.specs.ExportTablesView.{name_in, export_data_in, no_export_data}
use Rattle.types_declared.specs.declared.export_tables.ExportTable.{ExportTable}
use Rattle.workspace_check.specs.declared.finding.Finding.{Finding}
use Rattle.workspace_check.specs.Verdicts.{BuildsOn, IsSeenAs, unseen}
use Rattle.workspace_check.specs.KnownFindings.{is_unknown, verdicts_by}
use Rattle.workspace_check.specs.Steps.{AreKnown, IsGathered, SeesExactly}
use Rattle.workspace_check.proofs.Members.{cases_contains}
use Rattle.workspace_check.proofs.Sharing.{seen_by}

-- whether it is known what is found in a package

gathered_at : (fs : List (Option Finding)) (n : ℕ) (o : Option (Option Finding)) → slice_get fs n ≡ o → IsGathered fs n ⊎ (IsGathered fs n → ⊥)
gathered_at fs n None e = inr (λ g. none-some (Some g.0) (sym e ∙ g.1))
gathered_at fs n (Some None) e =
    let nothing : Option Finding = None in
    inr (λ g. none-some g.0 (same_Some nothing (Some g.0) (sym e ∙ g.1)))
gathered_at fs n (Some (Some f)) e = inl (f, e)

module _ (w : Workspace) (p : List ℕ) (below : List ℕ) (fs : List (Option Finding)) (all : ExportTable) (holds : ListsPackages w (BuildsOn w p) below)
    (known : AreKnown w (IsGathered fs) all) (just : (n : ℕ) → IsGathered fs n → Contains below n) where
  -- a package with a name is one on which p builds

  at_number : (q name : List ℕ) → name_in all q ≡ Some name → (n : ℕ) → slice_get (package_paths w) n ≡ Some q → IsGathered fs n ⊎ (IsGathered fs n → ⊥) →
      BuildsOn w p q
  at_number q name e n at (inl g) = let s = (holds n).0 (just n g) in subst (BuildsOn w p) (same_Some s.0 q (sym s.1 ∙ at)) s.2
  at_number q name e n at (inr none) = absurd (none-some name (sym (known.fresh n q none at) ∙ e))

  named_below : (q name : List ℕ) → name_in all q ≡ Some name → BuildsOn w p q
  named_below q name e = elim (cases_contains (package_paths w) q) [
    | inl has ↦ (let n = number w q has in at_number q name e n.0 n.1 (gathered_at fs n.0 (slice_get fs n.0) refl))
    | inr none ↦ absurd (none-some name (sym (known.outside q none) ∙ e))
  ]

  seen_at : (q : List ℕ) (o : Option (List ℕ)) → name_in all q ≡ o → IsSeenAs w (verdicts_by all) p q (name_in all q) (export_data_in all q)
  seen_at q (Some name) e = seen_by w p all all q known.whole (named_below q name e) (record { name = refl; export_data = refl }) (Some name) e
  seen_at q None e =
      subst (λ x. IsSeenAs w (verdicts_by all) p q (name_in all q) x) (sym (known.whole q e))
      (subst (λ m. IsSeenAs w (verdicts_by all) p q m (no_export_data q)) (sym e) (unseen (λ on. ap is_unknown e)))

  pub just_seen : SeesExactly w p all
  just_seen q = seen_at q (name_in all q) refl
