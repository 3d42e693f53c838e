-- The command is acted on behind the look that showed the view.
use Rattle.std.proofs.Common.{subst}
use Rattle.history_machine.specs.declared.event.Reply.TheVariants.{Looked}
use Rattle.history_machine.specs.declared.view.View.{View}
use Rattle.server_commands.specs.Act.{ActsAfter}
use Rattle.server_commands.proofs.acting.act_looking_back.Goals as goal

pub returns-in-Ok : goal.returns-in-Ok
returns-in-Ok g c = (
  Looked c.in-Ok.view,
  c.look_back.new.self,
  c.in-Ok.ensures.step,
  subst (λ (v : View). ActsAfter g.D.Desk.steps c.look_back.new.self v c.args.command c.act_after.result c.act_after.new.desk) c.get.ensures.view
      c.act_after.ensures,
)
