-- Known verdicts on the declaring package with its export data after a plain rename.
use Rattle.std.proofs.Common.{◌≡◌, false, inl, inr, ap, sym, subst, ◌∙◌}
use Rattle.std.specs.Prelude.{Some, slice_get}
use Rattle.std.proofs.lemmas.Option.{same_Some}
use Rattle.base_edits.specs.EditSet.{edited}
use Rattle.base_files.specs.Packages.{package_paths}
use Rattle.workspace_graph.proofs.PackagePaths.{paths_sorted, one_number}
use Rattle.workspace_check.specs.KnownFindings.{verdict_from, IsFindingOf, IsKnownVerdict}
use Rattle.workspace_check.specs.Verdicts.{IsVerdict}
use Rattle.workspace_check.proofs.OneVerdict.{one_verdict}
use Rattle.workspace_check.proofs.PackageFiles.{at_rank}
use Rattle.refs_places.specs.Outside.{declaring_path}
use Rattle.law_renamed_workspaces.specs.RenamedData.{RenamedVerdictsAreRight, RenamedKnownVerdictsStay}
use Rattle.law_renamed_workspaces.proofs.Findings.{finding_stays, same_verdict}
use Rattle.law_renamed_workspaces.proofs.KnownVerdictsLaws.{number_before, others}
use Rattle.law_renamed_workspaces.proofs.PackagesAfter as moved
use Rattle.refs_places.specs.Homes.{IsHomeOfSome}

pub renamed_right : RenamedVerdictsAreRight
renamed_right w before after d name s h right o has was now known r =
    let x = edited s w in
    let there = moved.has_now w before after d name s h right o has in
    let well : (after o).faulty ≡ false = moved.known_faultless x (moved.sound w before after d name s h right) after right o there in
    let fine : (before o).faulty ≡ false = moved.known_faultless w h.plain.rename.sound before h.plain.rename.right o has in
    let one = one_verdict w o (verdict_from o was.known) (before o) known.right (h.plain.rename.right o has) in
    let same_data : (after o).export_data ≡ r.change (verdict_from o was.known).export_data =
    r.changed ∙ ap r.change (sym (one.export_data (one.faulty ∙ fine))) in
    let is : verdict_from o now.known ≡ after o =
    r.known ∙ sym (same_verdict (after o) (record { faulty = false; export_data = r.change (verdict_from o was.known).export_data }) well same_data) in
    record {
      right = subst (IsVerdict x o) (sym is) (right o there);
      finding = subst (IsFindingOf x o) (sym r.finding) (finding_stays w before after d name s h right o has was.finding known.finding);
    }

pub all_renamed : RenamedKnownVerdictsStay
all_renamed w before after d name s h alone right number path of_number declared known rest knows was now there r with_now n o one at listed =
    let had = number_before w before d name s h n o at in
    let has = at_rank (package_paths w) n o had in
    elim (with_now n one listed) [
      | inl other ↦
          let away : IsHomeOfSome h.plain.rename.set o → ⊥ = λ home.
          let e : declaring_path d ≡ Some o = ap declaring_path (sym (alone home.declaration home.among)) ∙ home.declares in
          other.0 (one_number (package_paths w) (paths_sorted w) n number path (had ∙ sym e ∙ declared) of_number) in
          (others w before after d name s h right o has away).1 one (knows n o one had other.1)
      | inr here ↦
          let same : o ≡ path = same_Some o path (sym had ∙ ap (slice_get (package_paths w)) here.0 ∙ of_number) in
          let old = knows number path was of_number there in
          let own = at_rank (package_paths w) number path of_number in
          subst (λ k. IsKnownVerdict (edited s w) k one) (sym same)
          (subst (IsKnownVerdict (edited s w) path) (sym here.1) (renamed_right w before after d name s h right path own was now old r))
    ]
