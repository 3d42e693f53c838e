-- The packages before, with the one that comes, are those of the files.
use Rattle.std.proofs.Common.{◌≡◌, List, ap, sym, subst, ◌∙◌}
use Rattle.std.specs.List.{insert}
use Rattle.base_files.specs.Workspace.{Workspace}
use Rattle.workspace_graph.specs.Graphs.{IsGraph}
use Rattle.workspace_graph.specs.Growth.{AreRows}
use Rattle.workspace_graph.specs.declared.package.ParsedPackage.{ParsedPackage}
use Rattle.workspace_graph.proofs.GrownGraph.{grown_graph, grown_grows, grown_sorted, place_fits}
use Rattle.workspace_graph.proofs.graph.Graph.grown.Goals as goal

pub with_coming-requires : goal.with_coming-requires
with_coming-requires c =
    let v = c.args.before.now in
    let old = c.deref-old.result.now in
    let whole = subst (λ parts. IsGraph parts.files parts.packages.items parts.links) (sym c.deref-old.ensures) c.before-2.invariant in
    let graph = subst (λ (x : Workspace). IsGraph x old.packages.items old.links) (ap (λ parts. parts.files) c.deref-old.ensures ∙ c.before-2.view_is) whole in
    place_fits v c.args.files old.packages.items old.links c.args.coming.one.now c.args.coming.place graph c.requires.fresh c.requires.file c.requires.stands

pub grown_links-requires : goal.grown_links-requires
grown_links-requires c =
    let v = c.args.before.now in
    let w = c.args.files in
    let old = c.deref-old.result.now in
    let one : ParsedPackage = c.args.coming.one.now in
    let place = c.args.coming.place in
    let whole = subst (λ parts. IsGraph parts.files parts.packages.items parts.links) (sym c.deref-old.ensures) c.before-2.invariant in
    let graph = subst (λ (x : Workspace). IsGraph x old.packages.items old.links) (ap (λ parts. parts.files) c.deref-old.ensures ∙ c.before-2.view_is) whole in
    let packages : List ParsedPackage = c.deref.result.now in
    let put : packages ≡ insert old.packages.items place one = c.deref.ensures.value ∙ c.in_ok-packages.ensures in
    record {
      sorted = grown_sorted v w old.packages.items old.links one place graph c.requires.fresh c.requires.file c.requires.stands packages put;
      grown = grown_grows v w old.packages.items old.links one place graph c.requires.fresh c.requires.file c.requires.stands packages put
          c.links.result.now c.links.ensures;
    }

pub joined-requires : goal.joined-requires
joined-requires c =
    let v = c.args.before.now in
    let w = c.args.files in
    let old = c.deref-old.result.now in
    let one : ParsedPackage = c.args.coming.one.now in
    let place = c.args.coming.place in
    let whole = subst (λ parts. IsGraph parts.files parts.packages.items parts.links) (sym c.deref-old.ensures) c.before-2.invariant in
    let graph = subst (λ (x : Workspace). IsGraph x old.packages.items old.links) (ap (λ parts. parts.files) c.deref-old.ensures ∙ c.before-2.view_is) whole in
    let packages : List ParsedPackage = c.in_ok-packages.packages.items in
    grown_graph v w old.packages.items old.links one place graph c.requires.fresh c.requires.file c.requires.stands packages c.in_ok-packages.ensures
    c.in_ok-links.links (subst (λ (ps : List ParsedPackage). AreRows ps c.in_ok-links.links) c.deref.ensures.value c.in_ok-links.ensures)
