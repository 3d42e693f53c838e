-- The answers to the goals of `qualified_abroad::add_abroad`.
use Rattle.std.proofs.Common.{ℕ, sym, subst}
use Rattle.std.specs.Prelude.{OnOk}
use Rattle.std.proofs.lemmas.Result.{on_ok_weaker}
use Rattle.go_scope.specs.Named.{name_value}
use Rattle.refs_binding.specs.declared.declaration.Declaration.TheVariants.{Declared}
use Rattle.refs_binding.specs.Steps.{AddsPlaces}
use Rattle.refs_binding.specs.Workspaces.{known_in, IsUseAt}
use Rattle.refs_uses.specs.Abroad.{IsQualifiedUseOf}
use Rattle.refs_uses.proofs.UsedAbroad.{used_abroad, unnamed_abroad}
use Rattle.refs_uses.proofs.qualified_abroad.add_abroad.Goals as goal

pub returns-in-None : goal.returns-in-None
returns-in-None c =
    let w = c.args.at.workspace.now.graph in
    let known = known_in c.args.at.workspace.now.findings in
    let n = c.args.at.number in
    let path = c.args.path.now in
    let a = c.args.spots.now.items in
    subst (λ o. (d : ℕ) → AddsPlaces a a (IsUseAt w known (Declared path d) (name_value o) n)) (sym c.in-None.is)
    (λ d. unnamed_abroad w known n path c.requires.abroad d a)

pub returns-in-Some : goal.returns-in-Some
returns-in-Some c =
    let w = c.args.at.workspace.now.graph in
    let known = known_in c.args.at.workspace.now.findings in
    let n = c.args.at.number in
    let path = c.args.path.now in
    let a = c.args.spots.now.items in
    let b = c.add_behind.new.spots.items in
    subst (λ o. OnOk c.add_behind.result ((d : ℕ) → AddsPlaces a b (IsUseAt w known (Declared path d) (name_value o) n))) (sym c.in-Some.is)
    (on_ok_weaker c.add_behind.result (λ adds d. used_abroad w known n path c.requires.abroad d c.in-Some.name.now a b
    (subst (λ q. AddsPlaces a b (IsQualifiedUseOf w known n q c.in-Some.name.now)) c.path.ensures adds)) c.add_behind.ensures)
