-- The threads that are begun promise what the others do.
use Rattle.std.proofs.Common.{◌≡◌}
use Rattle.tool_threads.proofs.Kept.{all_appended, whatever}
use Rattle.tool_threads.proofs.together.begin_ready.Goals as goal

pub returns : goal.returns
returns g c =
    whatever _ c.append.result
    (all_appended (λ thread. thread.promise.graph.value ≡ c.args.graph.now) c.args.begun.now.threads.items c.in_ok-threads.threads.items
    c.append.new.self.items _ c.append.ensures.items c.requires.threads c.in_ok-threads.ensures)
