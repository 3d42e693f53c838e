-- The answers to the goals of `compiling::done_unit`.
use Rattle.std.proofs.Common.{◌≡◌, ℕ, List, sym, ap, subst, ◌∙◌}
use Rattle.std.specs.Prelude.{Option}
use Rattle.std.proofs.lemmas.Result.{IfOk-weaker}
use Rattle.types_expr.specs.declared.exports.ExportData.{ExportData}
use Rattle.types_expr.specs.WorldView.{known_at}
use Rattle.types_declared.specs.ExportTablesView.{export_data_in, export_data_known}
use Rattle.build_unit.specs.declared.unit.Compiled.TheVariants.{Done}
use Rattle.build_unit.specs.Units.{IsCompiled, IsUnitOf}
use Rattle.build_unit.proofs.compiling.done_unit.Goals as goal

pub returns : goal.returns
returns c =
    let p = c.args.path.now in
    let all = c.args.all.now in
    let export_data = c.in_ok-export_data.export_data in
    let object = c.args.object in
    let just = c.in_ok-export_data.ensures in
    let known = c.in_ok-known.ensures ∙ ap (λ (q : List ℕ). known_at all.definitions q) c.path.ensures in
    let same : export_data_in export_data p ≡ export_data_in all p = just.same ∙ ap (λ (k : Option ExportData). export_data_known p k) known in
    IfOk-weaker c.new.result (λ unit. unit ≡ Done export_data object) _
    (λ unit is w compiled. subst (IsUnitOf w p) (sym is)
    (record { value = subst (λ i. IsCompiled w p i object) (sym same) compiled; alone = just.alone }))
    c.new.ensures
