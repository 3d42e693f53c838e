-- The answers to the goals of `workspace_uses::add_named`.
use Rattle.std.proofs.Common.{sym, subst}
use Rattle.refs_uses.specs.Importing.{AreImporting}
use Rattle.refs_uses.proofs.workspace_uses.add_named.Goals as goal

pub add_uses_beyond-requires-clause-sought : goal.add_uses_beyond-requires-clause-sought
add_uses_beyond-requires-clause-sought c = record {
  name = c.requires.name;
  member = c.member_name-member.ensures;
  home = c.home_of-home.ensures;
  importing = subst (AreImporting c.args.read.workspace.now.graph c.home_of-home.result) (sym c.deref.ensures.value) c.in_ok-importing.ensures;
}
