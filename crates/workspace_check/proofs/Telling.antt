-- Known verdicts with one package more.
use Rattle.std.proofs.Common.{ℕ, ◌≡◌, ◌+◌, ◌<◌, inl, inr, List, [], ◌∷◌, ◌++◌, length, sym, ap, subst, ◌∙◌, arith, length-append}
use Rattle.std.specs.Prelude.{Option, Some, slice_get}
use Rattle.std.specs.Global.{Vec}
use Rattle.std.proofs.Math.ListN.{set}
use Rattle.std.proofs.lemmas.Bool.{cases_eq, cases_lt}
use Rattle.std.proofs.lemmas.List.{length-set}
use Rattle.std.proofs.lemmas.Option.{none-some, same_Some, slice_get_within}
use Rattle.base_files.specs.Workspace.{Workspace}
use Rattle.base_files.specs.Packages.{package_paths}
use Rattle.workspace_graph.specs.Graphs.{OfPackage}
use Rattle.types_expr.specs.declared.exports.ExportData.{ExportData}
use Rattle.types_expr.specs.WorldView.{known_at}
use Rattle.types_declared.specs.declared.export_tables.ExportTable.{ExportTable}
use Rattle.types_declared.proofs.Mentioning.{get_set_same, get_set_other}
use Rattle.types_declared.proofs.DeclaredPaths.{get_before, get_last}
use Rattle.workspace_check.specs.declared.known.Known.{Known}
use Rattle.workspace_check.specs.declared.known.KnownVerdict.{KnownVerdict}
use Rattle.workspace_check.specs.Found.{HoldSameVerdicts, KnowsVerdicts, AreFirstVerdicts}
use Rattle.workspace_check.specs.KnownFindings.{verdicts_by, verdict_from, IsFindingOf, IsKnownVerdict, IsVerdictIfKnown}
use Rattle.workspace_check.specs.Verdicts.{IsVerdict}

-- nothing yet: it is right of every workspace

pub nothing_known : (known : Known) → known.verdicts.items ≡ [] → (w : Workspace) → KnowsVerdicts w known
nothing_known known e w n p one at is = absurd (none-some (Some one) (subst (λ l. slice_get l n ≡ Some (Some one)) e is))

pub nothing_told : (known : Known) → known.verdicts.items ≡ [] → (w : Workspace) → AreFirstVerdicts w 0 known
nothing_told known e w = record { size = ap length e; verdicts = nothing_known known e w }

-- Known verdicts stay right if the list of verdicts stays.
pub known_still : (w : Workspace) (old new : Known) → new.verdicts ≡ old.verdicts → KnowsVerdicts w old → KnowsVerdicts w new
known_still w old new e h n p one at is = h n p one at (subst (λ (v : Vec (Option KnownVerdict)). slice_get v.items n ≡ Some (Some one)) e is)

-- Known verdicts stay right if both tables hold the same verdicts.
pub known_same : (w : Workspace) (old new : Known) → HoldSameVerdicts old.verdicts.items new.verdicts.items → KnowsVerdicts w old → KnowsVerdicts w new
known_same w old new same h n p one at is = h n p one at ((same n one).0 is)

-- the verdict on one package is set
pub known_set : (w : Workspace) (old new : Known) (number : ℕ) (p : List ℕ) (told : KnownVerdict) → slice_get (package_paths w) number ≡ Some p →
    new.verdicts.items ≡ set old.verdicts.items number (Some told) → IsKnownVerdict w p told → KnowsVerdicts w old →
    KnowsVerdicts w new
known_set w old new number p told at is_set tells h n q one at_n is =
    let items = old.verdicts.items in
    let there : slice_get (set items number (Some told)) n ≡ Some (Some one) = subst (λ l. slice_get l n ≡ Some (Some one)) is_set is in
    elim (cases_eq n number) [
      | inl e ↦ (
          let here : slice_get (set items number (Some told)) number ≡ Some (Some one) =
          subst (λ k. slice_get (set items number (Some told)) k ≡ Some (Some one)) e there in
          let within = subst (λ k. number < k) (length-set items number (Some told)) (slice_get_within (set items number (Some told)) number (Some one) here) in
          let same : told ≡ one =
          same_Some told one (same_Some (Some told) (Some one) (sym (get_set_same items number (Some told) within) ∙ here)) in
          let path : p ≡ q = same_Some p q (sym at ∙ subst (λ k. slice_get (package_paths w) k ≡ Some q) e at_n) in
          subst (λ r. IsKnownVerdict w r one) path (subst (IsKnownVerdict w p) same tells))
      | inr ne ↦ h n q one at_n (sym (get_set_other items number n (Some told) ne) ∙ there)
    ]

-- one package further

module _ (w : Workspace) (n : ℕ) (old new : Known) (found : Option KnownVerdict) (e : new.verdicts.items ≡ old.verdicts.items ++ found ∷ [])
    (h : AreFirstVerdicts w n old) where
  told_then : OfPackage w n (λ p. IsVerdictIfKnown w p found) → KnowsVerdicts w new
  told_then tells m p one at is =
      let items = old.verdicts.items in
      let told : slice_get (items ++ found ∷ []) m ≡ Some (Some one) = subst (λ l. slice_get l m ≡ Some (Some one)) e is in
      elim (cases_lt m (length items)) [
        | inl before ↦ h.verdicts m p one at (sym (get_before items found m before) ∙ told)
        | inr past ↦ (
            let within : m < length (items ++ found ∷ []) = slice_get_within (items ++ found ∷ []) m (Some one) told in
            let here : m ≡ length items = omega (arith, length-append items (found ∷ [])) in
            let last : found ≡ Some one = same_Some found (Some one)
            (sym (get_last items found) ∙ subst (λ k. slice_get (items ++ found ∷ []) k ≡ Some (Some one)) here told) in
            tells p (subst (λ k. slice_get (package_paths w) k ≡ Some p) (here ∙ h.size) at) one last)
      ]

  pub told_next : OfPackage w n (λ p. IsVerdictIfKnown w p found) → AreFirstVerdicts w (n + 1) new
  told_next tells = record { size = ap length e ∙ length-append old.verdicts.items (found ∷ []) ∙ ap (λ k. k + 1) h.size; verdicts = told_then tells }

-- The verdict on one package, taken from the table of all.

pub told_alone : (w : Workspace) (p : List ℕ) (all : ExportTable) (one : KnownVerdict) → one.known ≡ known_at all.definitions p →
    IsVerdict w p (verdicts_by all p) → IsFindingOf w p one.finding → IsKnownVerdict w p one
told_alone w p all one same right finding = record {
  right = subst (λ (k : Option ExportData). IsVerdict w p (verdict_from p k)) (sym same) right;
  finding = finding;
}
