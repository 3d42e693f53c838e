-- The answers to the goals of `workspace_uses::add_if_used`.
use Rattle.std.proofs.Common.{sym, ◌∙◌}
use Rattle.std.proofs.lemmas.Bool.{false≢true}
use Rattle.go_scope.specs.Named.{name_value}
use Rattle.refs_binding.specs.Workspaces.{known_in, IsUseAt}
use Rattle.refs_binding.proofs.Adding.{adds_none}
use Rattle.refs_uses.proofs.workspace_uses.add_if_used.Goals as goal

pub may_use-requires : goal.may_use-requires
may_use-requires c = record {
  in_range = c.requires.numbered.in_range;
  home = c.requires.sought.home;
  named = c.requires.sought.member;
  importing = c.requires.sought.importing;
}

pub returns-else-may_use : goal.returns-else-may_use
returns-else-may_use c =
    adds_none c.args.spots.now.items
    (IsUseAt c.args.at.workspace.now.graph (known_in c.args.at.workspace.now.findings) c.args.sought.now.declaration.now
    (name_value c.args.sought.now.name) c.args.at.number)
    (λ place used. false≢true (sym c.if-may_use.false ∙ c.may_use.ensures place used))
