-- The answers to the goals of `objects::own_world`. They begin as those of types_check' `worlds::file_world`: an answer speaks of the values of
-- its own function, so none can serve both.
use Rattle.std.proofs.Common.{ap, refl}
use Rattle.types_expr.specs.declared.world.World.{World}
use Rattle.types_expr.specs.WorldView.{definition_or_none, imported_at}
use Rattle.types_declared.specs.PackageView.{package_of}
use Rattle.types_info.proofs.WorldParts.{world_from}
use Rattle.build_object.proofs.OwnDefinitions.{own_definitions}
use Rattle.build_object.proofs.objects.own_world.Goals as goal

pub returns : goal.returns
returns c =
    let p = package_of c.args.unit in
    let w : World = record {
      «package» = c.args.unit.path;
      names = c.args.names;
      bounds = c.args.bounds;
      own = c.args.definitions;
      imported =
          c.definitions.result;
    } in
    record {
      world = λ s at. world_from p w c.args.file s at refl c.requires.names (own_definitions p w refl c.requires.definitions
          (λ path rank. ap (λ ds. definition_or_none (record { «package» = path; rank = rank }) (imported_at ds (record { «package» = path; rank = rank })))
          c.definitions.ensures));
      spelling = λ token. c.requires.names.spelling token;
    }
