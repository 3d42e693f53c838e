-- What was built of a Job has its inputs, which are those of its package in the current files.
use Rattle.std.proofs.Common.{sym, subst}
use Rattle.base_files.specs.Workspace.{Workspace}
use Rattle.build_unit.specs.Inputs.{AreInputs}
use Rattle.history_machine.specs.Machine.{Machine}
use Rattle.server_commands.proofs.desk.SoloDesk.deliver.Goals as goal

pub deliver_on_current-requires : goal.deliver_on_current-requires
deliver_on_current-requires c =
    let job = c.args.job in
    let of_job = subst (λ (m : Machine). AreInputs m.current.files job.package job.inputs) (sym c.self.view_is) c.requires.brings in
    record {
      job_inputs = of_job;
      built_inputs = subst (λ (w : Workspace). AreInputs c.self.inside.book.current.files job.package w) (sym c.requires.built.inputs) of_job;
    }
