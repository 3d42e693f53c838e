-- The answers to the goals of `here::first_near`.
use Rattle.std.proofs.Common.{rules}
use Rattle.std.proofs.lemmas.List.Sorted.{IsPartitionPoint-from_clause}
use Rattle.refactor_rename.specs.Here.{before}
use Rattle.refactor_rename.proofs.here.first_near.Goals as goal

pub returns-clause-point : goal.returns-clause-point
returns-clause-point c =
    IsPartitionPoint-from_clause (before c.args.path.now) c.args.places.now c.partition_point.result c.partition_point.ensures.partitioned c.requires
    (λ a r q k. search rules)
