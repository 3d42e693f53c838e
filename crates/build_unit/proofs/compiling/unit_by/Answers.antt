-- The answers to the goals of `compiling::unit_by`.
use Rattle.std.proofs.Common.{◌≡◌, ℕ, List, [], sym, subst, ◌∙◌}
use Rattle.std.proofs.lemmas.Result.{IfOk-weaker}
use Rattle.base_files.specs.Workspace.{Workspace}
use Rattle.types_expr.specs.WorldView.{known_at}
use Rattle.workspace_check.specs.declared.finding.Finding.{Finding}
use Rattle.types_declared.specs.declared.export_tables.ExportTable.{ExportTable}
use Rattle.workspace_check.specs.FaultLists.{AreListedFaults}
use Rattle.workspace_check.specs.Found.{IsFindingWith}
use Rattle.workspace_check.specs.KnownFindings.{verdicts_by}
use Rattle.workspace_check.specs.Verdicts.{IsFaultBy}
use Rattle.workspace_check.proofs.Members.{vec_empty, vec_holds}
use Rattle.build_unit.specs.Compiling.{HoldsFaults, IsFaultlessPackage}
use Rattle.workspace_check.specs.declared.fault.FileFault.{FileFault}
use Rattle.build_unit.specs.declared.unit.Unit.{Unit as PackageUnit}
use Rattle.build_unit.specs.declared.unit.Compiled.TheVariants as compiled
use Rattle.build_unit.specs.Units.{Faults, IsUnitOf, IsUnitValue, ExportsOnly, unit_value}
use Rattle.build_unit.proofs.Faultless.{compiled_as}
use Rattle.build_unit.proofs.compiling.unit_by.Goals as goal

-- A unit that stands for faults has no export data.
faults_alone : (p : List ℕ) (list : List FileFault) (unit : PackageUnit) → unit_value p unit ≡ Faults list → ExportsOnly p unit
faults_alone p list (compiled.Faults first others) e = tt
faults_alone p list (compiled.Done export_data object) e = absurd (cc)

-- of one that has no faults
without_faults : (w : Workspace) (p : List ℕ) (all : ExportTable) (f : Finding) → IsFindingWith w p all f → f.faults.items ≡ [] →
    IsFaultlessPackage w (verdicts_by all) (known_at all.definitions p) p f
without_faults w p all f is empty = record {
  below = is.below;
  verdict = is.own;
  listed = subst (λ l. AreListedFaults (IsFaultBy w (verdicts_by all) p) l) empty is.finding.listed;
  uses = is.finding.members empty;
  enterings = is.finding.enterings empty;
}

pub copied_unit-requires : goal.copied_unit-requires
copied_unit-requires c = λ e.
    vec_holds c.args.finding.now.faults c.is_empty.result c.is_empty.ensures c.if-not-is_empty.true (sym c.deref.ensures.value ∙ e)

pub returns-then-not-is_empty : goal.returns-then-not-is_empty
returns-then-not-is_empty c =
    let w = c.args.at.graph.now in
    let p = c.args.path.now in
    let all = c.args.all.now in
    let f = c.args.finding.now in
    let list = c.deref.result.now in
    let is = c.requires.found in
    let some = λ (e : list ≡ []). vec_holds f.faults c.is_empty.result c.is_empty.ensures c.if-not-is_empty.true (sym c.deref.ensures.value ∙ e) in
    let listed = subst (λ l. AreListedFaults (IsFaultBy w (verdicts_by all) p) l) (sym c.deref.ensures.value) is.finding.listed in
    IfOk-weaker c.copied_unit.result (HoldsFaults list) (IsUnitOf w p)
    (λ unit holds. record {
      value = subst (IsUnitValue w p) (sym (holds p)) (record { known = verdicts_by all; right = is.below; listed = listed }, some);
      alone = faults_alone p list unit (holds p);
    })
    c.copied_unit.ensures

pub faultless_unit-requires : goal.faultless_unit-requires
faultless_unit-requires c =
    let w = c.args.at.graph.now in
    let p = c.args.path.now in
    let all = c.args.all.now in
    let f = c.args.finding.now in
    let empty = vec_empty f.faults c.is_empty.result c.is_empty.ensures c.if-not-is_empty.false in
    record {
      at = c.requires.at;
      whole = c.requires.found.whole;
      found = without_faults w p all f c.requires.found empty;
    }

pub returns-in-Some : goal.returns-in-Some
returns-in-Some c =
    let w = c.args.at.graph.now in
    let p = c.args.path.now in
    let all = c.args.all.now in
    let f = c.args.finding.now in
    let empty = vec_empty f.faults c.is_empty.result c.is_empty.ensures c.if-not-is_empty.false in
    let object = c.in-Some.object in
    IfOk-weaker c.done_unit.result _ (IsUnitOf w p)
    (λ unit h. h w (compiled_as w p (verdicts_by all) (known_at all.definitions p) f (without_faults w p all f c.requires.found empty) object
    (c.requires.text object c.in-Some.is)))
    c.done_unit.ensures
