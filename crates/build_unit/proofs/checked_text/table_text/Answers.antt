-- The answers to the goals of `checked_text::table_text`.
use Rattle.std.proofs.Common.{ℕ, List, [], map, refl, sym, subst, ◌∙◌}
use Rattle.std.proofs.lemmas.Option.{same_Some, slice_get_within}
use Rattle.std.proofs.lemmas.Result.{IfOk-weaker}
use Rattle.base_files.specs.Packages.{package_paths, package_files}
use Rattle.go_ast.specs.SourceFile.{source_of}
use Rattle.workspace_graph.specs.Parsed.{AreParsed}
use Rattle.types_declared.specs.declared.states.ImportState.{ImportState}
use Rattle.types_declared.specs.ExportTablesView.{name_in, export_data_in}
use Rattle.types_info.specs.PackageOf.{IsPackageOf, package_in}
use Rattle.types_check.specs.Check.{IsSoundTable, inside}
use Rattle.build_unit.specs.Compiling.{IsPackageToBuild}
use Rattle.build_unit.proofs.CheckedText.{parsed_all}
use Rattle.build_unit.proofs.checked_text.table_text.Goals as goal

pub unit_text-requires : goal.unit_text-requires
unit_text-requires c =
    let at = c.requires.at in
    record {
      number = slice_get_within (package_paths c.args.at.graph.now) c.args.at.number c.args.of.path.now at.has_path;
      at = λ q there. subst (IsPackageToBuild c.args.at) (same_Some c.args.of.path.now q (sym at.has_path ∙ there)) at;
    }

pub returns : goal.returns
returns c =
    let w = c.args.at.graph.now in
    let p = c.args.of.path.now in
    let at = c.requires.at.has_path in
    let trees = c.as_slice.result.now in
    let i = c.args.of.export_table.now in
    let table = c.args.table in
    let parsed : AreParsed (package_files w p) trees [] =
    subst (λ ts. AreParsed (package_files w p) ts []) (sym c.as_slice.ensures.value)
    (parsed_all w c.args.at.number p c.args.of.files.now at c.requires.files c.requires.read) in
    let own = package_in p (map source_of trees) table (export_data_in i) in
    let here : (state : List ℕ → ImportState) → IsSoundTable c.args.of.files.now.trees.items state (name_in i) table →
    IsSoundTable trees state (name_in i) table =
    λ state laid. subst (λ ts. IsSoundTable ts state (name_in i) table) (sym c.as_slice.ensures.value) laid in
    let mine : (state : List ℕ → ImportState) → IsSoundTable trees state (name_in i) table → IsPackageOf p trees (name_in i) (export_data_in i) own =
    λ state laid. record { laid = table; is_laid = laid.is_laid; is_package = refl } in
    record {
      checked = IfOk-weaker c.unit_text.result _ _ (λ made checked known state laid seen states. record {
        files = trees;
        parsed = parsed;
        state = state;
        are_states = states;
        name_of = name_in i;
        export_data_of = export_data_in i;
        are_seen = seen;
        is_found = inside {p = own} (here state laid).faultless (mine state (here state laid)) checked;
      }) c.unit_text.ensures.checked;
      text = IfOk-weaker c.unit_text.result _ _ (λ made printed known state laid seen right text is. record {
        known = known;
        right = right;
        checked = own;
        is_package = record {
          files = trees;
          parsed = parsed;
          name_of = name_in i;
          export_data_of = export_data_in i;
          are_seen = seen;
          is_package = mine state (here state laid);
        };
        is_printed = printed p at text is;
      }) c.unit_text.ensures.text;
    }
