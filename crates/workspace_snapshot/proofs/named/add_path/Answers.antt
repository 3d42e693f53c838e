-- The path is added.
use Rattle.workspace_snapshot.proofs.NamedPaths.{adds_path}
use Rattle.workspace_snapshot.proofs.named.add_path.Goals as goal

pub returns : goal.returns
returns c = adds_path c.args.paths.now.items c.push.new.self.items c.args.path c.in_ok-push.ensures.items
