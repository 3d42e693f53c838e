-- The answers to the goals of `swap::Swap::export_data`.
use Rattle.std.proofs.Common.{map, ap, ◌∙◌}
use Rattle.std.specs.Prelude.{option_copied}
use Rattle.types_expr.specs.WorldView.{definition_of}
use Rattle.law_changed_types.specs.MovedPackage.{moved_definition}
use Rattle.refactor_known.specs.MovedData.{moved_name}
use Rattle.refactor_known.specs.Swaps.{map_of}
use Rattle.refactor_known.proofs.MovedData.{data_is}
use Rattle.refactor_known.proofs.swap.Swap.export_data.Goals as goal

pub returns : goal.returns
returns c =
    data_is c.args.self.now.from (option_copied c.args.new) (map_of c.args.self.now) c.args.path.now c.args.own.now
    (record {
      scope = record { name = c.in_ok-name.name; exported = c.in_ok-exported.exported };
      definitions = c.in_ok-definitions.definitions;
    })
    (c.in_ok-name.ensures ∙ ap (moved_name c.args.self.now.from (option_copied c.args.new) c.args.path.now) c.deref.ensures.value)
    c.in_ok-exported.ensures
    (c.in_ok-definitions.ensures ∙ ap (λ ds. map (moved_definition (map_of c.args.self.now)) (map definition_of ds)) c.deref-2.ensures.value)
