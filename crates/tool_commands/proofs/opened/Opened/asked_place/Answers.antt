-- The file of the place was read.
use Rattle.std.proofs.Common.{◌∙◌, ap}
use Rattle.std.specs.FinMap as finmap
use Rattle.base_files.specs.Workspace.{Workspace}
use Rattle.tool_commands.proofs.Tellings.{asked_there}
use Rattle.tool_commands.proofs.opened.Opened.asked_place.Goals as goal

pub returns-then-is_some : goal.returns-then-is_some
returns-then-is_some c =
    let named = rw c.in-Some.is at c.in_ok-path.ensures in
    let got = c.get.ensures ∙ ap (λ (w : Workspace). finmap.get w c.in-Some.path) c.files.ensures in
    asked_there c.args.self.now.folder.files c.args.path.now c.in-Some.path c.args.offset c.get.result c.is_some.result named.0 named.1 got
    c.is_some.ensures c.if-is_some.true
