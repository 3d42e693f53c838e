-- What was built is delivered.
use Rattle.std.proofs.Common.{inl}
use Rattle.server_commands.proofs.working.build_in.Goals as goal

pub deliver-requires : goal.deliver-requires
deliver-requires g c =
    let told = rw c.in-Ok.is at c.build_job.ensures in
    record { brings = c.requires; built = told.0; path = told.1 }

pub returns-in-Ok : goal.returns-in-Ok
returns-in-Ok g c =
    let told = rw c.in-Ok.is at c.build_job.ensures in
    inl (c.in-Ok.built, told.0, c.deliver.ensures)
