-- The answers to the goals of `named_imports::named_packages_are_renumbered`.
use Rattle.law_gained_names.proofs.Laws.{named_packages_are_renumbered}
use Rattle.law_gained_names.proofs.named_imports.named_packages_are_renumbered.Goals as goal

pub returns : goal.returns
returns c = named_packages_are_renumbered
