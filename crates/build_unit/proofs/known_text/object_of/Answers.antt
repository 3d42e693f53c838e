-- The answers to the goals of `known_text::object_of`.
use Rattle.std.proofs.Common.{◌≡◌, map, sym, subst, ◌∙◌}
use Rattle.std.specs.Prelude.{option_copied}
use Rattle.std.proofs.lemmas.Option.{same_Some, slice_get_within}
use Rattle.std.proofs.lemmas.Result.{IfOk-weaker}
use Rattle.base_files.specs.Packages.{package_paths, package_files}
use Rattle.workspace_graph.specs.Parsed.{AreParsed}
use Rattle.types_declared.specs.ExportTablesView.{name_in, export_data_in, export_data_known}
use Rattle.types_info.specs.MemberUses.{enterings_in, uses_in}
use Rattle.build_object.specs.ObjectView.{OwnDefinitionsOf, IsObjectTextOf}
use Rattle.build_unit.specs.Compiling.{IsPackageToBuild}
use Rattle.build_unit.specs.Units.{IsCompiled}
use Rattle.build_unit.proofs.Faultless.{definitions_by, compiled_by}
use Rattle.build_unit.proofs.known_text.object_of.Goals as goal

pub package-files-requires : goal.package-files-requires
package-files-requires c = slice_get_within (package_paths c.args.at.graph.now) c.args.at.number c.args.path.now c.requires.at.has_path

pub names_below-requires : goal.names_below-requires
names_below-requires c =
    let at = c.requires.at in
    record {
      number = slice_get_within (package_paths c.args.at.graph.now) c.args.at.number c.args.path.now at.has_path;
      at = λ q there. subst (IsPackageToBuild c.args.at) (same_Some c.args.path.now q (sym at.has_path ∙ there)) at;
    }

pub object-requires : goal.object-requires
object-requires c =
    let w = c.args.at.graph.now in
    let p = c.args.path.now in
    let one = option_copied c.args.own in
    let files = c.package-files.result.now in
    let folder : files.path.items ≡ p = same_Some files.path.items p (sym c.package-files.ensures.path ∙ c.requires.at.has_path) in
    let parsed = subst (λ q. AreParsed (package_files w q) files.trees.items files.faulty.items) folder c.package-files.ensures.files in
    let i = c.args.seen.now in
    let found = c.requires.found in
    let list = c.definitions_of-definitions.result.now in
    subst (λ ts. OwnDefinitionsOf p ts (name_in i) (export_data_in i) list) (sym c.as_slice-trees.ensures.value)
    (definitions_by w p found.known one c.args.found.now found.faultless files.trees.items files.faulty.items parsed (name_in i) (export_data_in i)
    found.are_seen list c.definitions_of-definitions.ensures)

pub returns : goal.returns
returns c =
    let w = c.args.at.graph.now in
    let p = c.args.path.now in
    let one = option_copied c.args.own in
    let f = c.args.found.now in
    let files = c.package-files.result.now in
    let folder : files.path.items ≡ p = same_Some files.path.items p (sym c.package-files.ensures.path ∙ c.requires.at.has_path) in
    let parsed = subst (λ q. AreParsed (package_files w q) files.trees.items files.faulty.items) folder c.package-files.ensures.files in
    let i = c.args.seen.now in
    let found = c.requires.found in
    let packages = c.in_ok-packages.packages in
    let text = c.in_ok-text.text.items in
    let by_members = subst (λ ms. IsObjectTextOf p c.as_slice-trees.result.now (name_in i) (export_data_in i) (map uses_in ms)
    (map enterings_in c.as_slice-2.result.now) packages text) c.as_slice.ensures.value c.in_ok-text.ensures in
    let by_both = subst (λ es. IsObjectTextOf p c.as_slice-trees.result.now (name_in i) (export_data_in i) (map uses_in f.members.items)
    (map enterings_in es) packages text) c.as_slice-2.ensures.value by_members in
    let made = subst (λ ts. IsObjectTextOf p ts (name_in i) (export_data_in i) (map uses_in f.members.items) (map enterings_in f.enterings.items) packages text)
    c.as_slice-trees.ensures.value by_both in
    let compiled : IsCompiled w p (export_data_known p one) text =
    compiled_by w p found.known one f found.faultless files.trees.items files.faulty.items parsed (name_in i) (export_data_in i)
    found.are_seen packages text (c.in_ok-packages.ensures p c.requires.at.has_path) made in
    IfOk-weaker c.new.result (λ t. t ≡ text) (IsCompiled w p (export_data_known p one)) (λ t is. subst (IsCompiled w p (export_data_known p one)) (sym is)
    compiled)
    c.new.ensures
