-- The answers to the goals of `members_abroad::add_members_by`.
use Rattle.std.proofs.Common.{◌≡◌, ap, sym, subst, ◌∙◌}
use Rattle.std.proofs.lemmas.Result.{on_ok_weaker}
use Rattle.types_declared.specs.Definitions.{AreDefinitions}
use Rattle.types_declared.specs.ExportTablesView.{name_in, export_data_in}
use Rattle.types_declared.specs.Package.{Package}
use Rattle.workspace_check.proofs.OnePackage.{one_sources}
use Rattle.workspace_check.proofs.OneSeen.{one_export_table}
use Rattle.refs_binding.specs.Members.{definitions_by}
use Rattle.refs_binding.specs.Workspaces.{known_in}
use Rattle.refs_binding.proofs.MemberParts.{known_definitions}
use Rattle.refs_uses.proofs.members_abroad.add_members_by.Goals as goal

pub returns : goal.returns
returns c = on_ok_weaker c.add_known_members.result (λ adds p is.
    let w = c.args.at.workspace.now.graph in
    let known = known_in c.args.at.workspace.now.findings in
    let seen = c.args.seen.now in
    let checked = is.is_package.is_checked in
    let own = c.own_of.result.now in
    let path : c.path_of.result.now ≡ p.path = c.path_of.ensures p.path is.has_number in
    let sees : p.export_data_of ≡ export_data_in seen =
    ap (λ (x : Package). x.export_data_of) checked.is_package.is_package ∙
    one_export_table w known p.path checked.name_of (name_in seen) checked.export_data_of (export_data_in seen) checked.are_seen
    (c.requires.seen p.path is.has_number) in
    let definitions : AreDefinitions p (definitions_by c.path_of.result.now own c.definitions.result.now) =
    subst (λ i. AreDefinitions p (definitions_by c.path_of.result.now own i)) (sym c.definitions.ensures)
    (subst (λ q. AreDefinitions p (definitions_by q own seen.definitions)) (sym path) (known_definitions p own seen (c.own_of.ensures p is) sees)) in
    adds w known p (record {
      is_package = is.is_package;
      files = one_sources (c.trees.ensures p.path is.has_number) checked.parsed ∙ sym (ap (λ (x : Package). x.files) checked.is_package.is_package);
      path = path;
      definitions = definitions;
      members = c.members_of.ensures p is;
    }) c.requires.named) c.add_known_members.ensures
