-- The answers to the goals of `workspace_uses::add_where_used`.
use Rattle.std.proofs.Common.{sym, subst}
use Rattle.std.proofs.lemmas.Result.{on_ok_weaker}
use Rattle.go_scope.specs.Named.{name_value}
use Rattle.refs_binding.specs.Steps.{AddsPlaces}
use Rattle.refs_binding.specs.Workspaces.{known_in, IsUseAt}
use Rattle.refs_uses.proofs.workspace_uses.add_where_used.Goals as goal

pub add_abroad-requires-clause-abroad : goal.add_abroad-requires-clause-abroad
add_abroad-requires-clause-abroad c = c.in-Some.ensures.abroad

pub returns-in-Some : goal.returns-in-Some
returns-in-Some c =
    let w = c.args.at.workspace.now.graph in
    let known = known_in c.args.at.workspace.now.findings in
    let name = name_value c.args.sought.now.name in
    on_ok_weaker c.add_abroad.result (λ adds. subst (λ d. AddsPlaces c.args.spots.now.items c.add_abroad.new.spots.items (IsUseAt w known d name
    c.args.at.number))
    (sym c.in-Some.ensures.is_declaration) (adds c.in-Some.ensures.declared)) c.add_abroad.ensures
