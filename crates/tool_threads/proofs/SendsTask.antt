-- A task may go to the thread that does it, and its verdicts may come back from there.
use denote.Param.Send.{IsSend, sendable}
use Rattle.std.proofs.Crossing.{crosses}
use Rattle.server_shared.proofs.Sends.{shared_known_sent}
use Rattle.workspace_parsing.proofs.SendsGraph.{graph_sent}
use Rattle.tool_threads.specs.contracts.task.PackageTask.{the_row as package_task}

pub task_sent : IsSend package_task
task_sent = search (sendable, crosses, graph_sent, shared_known_sent) depth 30 fits 50000
