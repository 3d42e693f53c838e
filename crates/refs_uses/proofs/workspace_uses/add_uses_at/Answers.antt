-- The answers to the goals of `workspace_uses::add_uses_at`.
use Rattle.std.proofs.Common.{sym, subst}
use Rattle.std.specs.Prelude.{OnOk}
use Rattle.go_scope.specs.Named.{name_value}
use Rattle.refs_binding.specs.Steps.{AddsPlaces}
use Rattle.refs_binding.specs.Workspaces.{known_in, IsUseAt}
use Rattle.refs_uses.proofs.workspace_uses.add_uses_at.Goals as goal

pub returns-then-number-read : goal.returns-then-number-read
returns-then-number-read c =
    subst (λ n. OnOk c.add_known_uses.result (AddsPlaces c.args.spots.now.items c.add_known_uses.new.spots.items
    (IsUseAt c.args.read.workspace.now.graph (known_in c.args.read.workspace.now.findings) c.args.sought.now.declaration.now
    (name_value c.args.sought.now.name) n)))
    (sym c.if-number-read.true) c.add_known_uses.ensures

pub add_if_used-requires-clause-numbered : goal.add_if_used-requires-clause-numbered
add_if_used-requires-clause-numbered c = record { in_range = c.requires.in_range }
