-- The answers to the goals of `worlds::file_world`.
use Rattle.std.proofs.Common.{ap, refl}
use Rattle.types_expr.specs.declared.world.World.{World}
use Rattle.types_expr.specs.WorldView.{definition_or_none, imported_at}
use Rattle.types_declared.specs.PackageView.{package_of}
use Rattle.types_info.proofs.WorldParts.{world_definitions, world_from, init_from}
use Rattle.types_check.proofs.worlds.file_world.Goals as goal

pub returns : goal.returns
returns c =
    let p = package_of c.args.pkg in
    let w : World = record {
      «package» = c.args.pkg.path;
      names = c.args.names;
      bounds = c.args.bounds;
      own = c.args.definitions;
      imported =
          c.definitions.result;
    } in
    record {
      world = λ s at. world_from p w c.args.file s at refl c.requires.names (world_definitions p w refl c.requires.definitions
          (λ path rank. ap (λ ds. definition_or_none (record { «package» = path; rank = rank }) (imported_at ds (record { «package» = path; rank = rank })))
          c.definitions.ensures));
      init = λ s at. init_from p w c.args.file s at c.requires.names;
    }
