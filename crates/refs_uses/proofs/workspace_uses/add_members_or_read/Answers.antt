-- The answers to the goals of `workspace_uses::add_members_or_read`.
use Rattle.std.proofs.lemmas.Result.{on_ok_weaker}
use Rattle.go_scope.specs.Named.{name_value}
use Rattle.refs_uses.proofs.workspace_uses.add_members_or_read.Goals as goal

pub add_members_abroad-requires-clause-abroad : goal.add_members_abroad-requires-clause-abroad
add_members_abroad-requires-clause-abroad c = c.is_member_abroad.ensures c.if-is_member_abroad.true

pub returns-then-is_member_abroad : goal.returns-then-is_member_abroad
returns-then-is_member_abroad c =
    on_ok_weaker c.add_members_abroad.result (λ adds. adds (name_value c.args.sought.now.name)) c.add_members_abroad.ensures
