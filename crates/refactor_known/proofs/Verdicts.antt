-- A known verdict with a moved finding and moved export data is moved, and so are all in a list.
use Rattle.std.proofs.Common.{ℕ, ◌≡◌, inl, inr, List, [], ◌∷◌, ◌++◌, length, ap, sym, subst, ◌∙◌}
use Rattle.std.specs.Prelude.{Option, Some, slice_get}
use Rattle.std.proofs.lemmas.Option.{same_Some}
use Rattle.types_expr.specs.declared.exports.ExportData.{ExportData as OwnData}
use Rattle.types_expr.specs.WorldView.{known_at}
use Rattle.types_declared.specs.declared.export_tables.ExportTable.{ExportTable}
use Rattle.types_declared.specs.ExportTablesView.{export_data_in, export_data_known, export_data_of, name_in}
use Rattle.workspace_check.specs.declared.finding.Finding.{Finding}
use Rattle.workspace_check.specs.declared.known.KnownVerdict.{KnownVerdict}
use Rattle.workspace_check.specs.KnownFindings.{is_unknown, verdict_from}
use Rattle.workspace_check.proofs.Taking.{before_or_last}
use Rattle.law_changed_types.specs.Moved.{PathMap}
use Rattle.refactor_known.specs.MovedData.{moved_data}
use Rattle.refactor_known.specs.MovedKnown.{IsMovedFinding, IsMovedKnown}

pub verdict_is : (from : List ℕ) (name : Option (List ℕ)) (g : PathMap) (was : KnownVerdict) (own moved : OwnData) (finding : Finding) (table : ExportTable)
    (now : KnownVerdict) → was.known ≡ Some own → IsMovedFinding g was.finding finding →
    export_data_of (g was.finding.path) moved ≡ moved_data from name g was.finding.path (export_data_of was.finding.path own) →
    export_data_in table finding.path ≡ export_data_of finding.path moved → name_in table finding.path ≡ Some moved.scope.name.items →
    now.finding ≡ finding → now.known ≡ known_at table.definitions finding.path → IsMovedKnown from name g was now
verdict_is from name g was own moved finding table now some found data_moved has_data has_name same_finding same_known =
    let p = was.finding.path in
    let q = g p in
    let at : finding.path ≡ q = found.path in
    let named : name_in table q ≡ Some moved.scope.name.items = subst (λ r. name_in table r ≡ Some moved.scope.name.items) at has_name in
    let here : export_data_in table q ≡ export_data_of q moved = subst (λ r. export_data_in table r ≡ export_data_of r moved) at has_data in
    let whole : export_data_in table q ≡ moved_data from name g p (export_data_known p was.known) =
    here ∙ data_moved ∙ ap (λ k. moved_data from name g p (export_data_known p k)) (sym some) in
    record {
      finding = subst (IsMovedFinding g was.finding) (sym same_finding) found;
      verdict =
          ap (verdict_from q) (same_known ∙ ap (known_at table.definitions) at)
          ∙ (λ i. record { faulty = is_unknown (named i); export_data = whole i });
    }

-- the list so far, and one more
pub next_known : {X : Type 0} (P : List ℕ → X → Type 0) (paths : List (List ℕ)) (old new : List (Option X)) (last : Option X) (number : ℕ) (path : List ℕ) →
    length old ≡ number → slice_get paths number ≡ Some path → new ≡ old ++ last ∷ [] → ((x : X) → last ≡ Some x → P path x) →
    ((n : ℕ) (q : List ℕ) (x : X) → slice_get paths n ≡ Some q → slice_get old n ≡ Some (Some x) → P q x) →
    (n : ℕ) (q : List ℕ) (x : X) → slice_get paths n ≡ Some q → slice_get new n ≡ Some (Some x) → P q x
next_known P paths old new last number path size here added this before n q x at got =
    elim (before_or_last old last n (Some x) (ap (λ xs. slice_get xs n) (sym added) ∙ got)) [
      | inl was ↦ before n q x at was
      | inr end ↦
          let place : path ≡ q = same_Some path q (sym here ∙ ap (slice_get paths) (sym (end.0 ∙ size)) ∙ at) in
          subst (λ r. P r x) place (this x end.1)
    ]
