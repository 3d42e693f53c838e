-- The answers to the goals of `compiling::faultless_unit`.
use Rattle.std.proofs.Common.{◌≡◌, ℕ, List, sym, ap, subst, ◌∙◌}
use Rattle.std.specs.Prelude.{Option, option_copied}
use Rattle.std.proofs.lemmas.Option.{slice_get_within}
use Rattle.std.proofs.lemmas.Result.{IfOk-weaker}
use Rattle.base_files.specs.Packages.{package_paths}
use Rattle.types_expr.specs.declared.exports.ExportData.{ExportData}
use Rattle.types_expr.specs.declared.world.Definitions.{Definitions}
use Rattle.types_expr.specs.WorldView.{known_at}
use Rattle.types_declared.specs.ExportTablesView.{export_data_known}
use Rattle.workspace_check.specs.KnownFindings.{verdicts_by}
use Rattle.build_unit.specs.Compiling.{IsFaultlessPackage}
use Rattle.build_unit.specs.Units.{IsCompiled}
use Rattle.build_unit.proofs.compiling.faultless_unit.Goals as goal

pub seen-requires : goal.seen-requires
seen-requires c = record {
  in_range = slice_get_within (package_paths c.args.at.graph.now) c.args.at.number c.args.path.now c.requires.at.has_path;
  whole = c.requires.whole;
}

-- what is known of the package's own interface
own_known : (all ds : Definitions) (p q : List ℕ) (own : Option ExportData) → own ≡ known_at ds q → ds ≡ all → q ≡ p → own ≡ known_at all p
own_known all ds p q own is same path = is ∙ ap (λ (d : Definitions). known_at d q) same ∙ ap (λ (r : List ℕ). known_at all r) path

pub object_of-requires : goal.object_of-requires
object_of-requires c =
    let w = c.args.at.graph.now in
    let p = c.args.path.now in
    let all = c.args.all.now in
    let known = verdicts_by all in
    let own = own_known all.definitions c.definitions.result.now p c.path.result.now (option_copied c.export_data-own.result) c.export_data-own.ensures
    c.definitions.ensures c.path.ensures in
    record {
      at = c.requires.at;
      found = record {
        known = known;
        faultless = subst (λ (k : Option ExportData). IsFaultlessPackage w known k p c.args.found.now) (sym own) c.requires.found;
        are_seen = c.in_ok-export_table.ensures.seen p c.requires.at.has_path;
      };
    }

pub returns : goal.returns
returns c =
    let w = c.args.at.graph.now in
    let p = c.args.path.now in
    let all = c.args.all.now in
    let own = own_known all.definitions c.definitions.result.now p c.path.result.now (option_copied c.export_data-own.result) c.export_data-own.ensures
    c.definitions.ensures c.path.ensures in
    let object = c.in_ok-object.object in
    let compiled = subst (λ (k : Option ExportData). IsCompiled w p (export_data_known p k) object) own c.in_ok-object.ensures in
    IfOk-weaker c.done_unit.result _ _ (λ unit h. h w compiled) c.done_unit.ensures
