-- The answers to the goals of `paths::add_literal`.
use Rattle.std.proofs.Common.{sym, subst}
use Rattle.std.specs.Prelude.{OnOk}
use Rattle.refs_binding.specs.Bindings.{AddsAll}
use Rattle.refactor_rename.specs.Changes.{IsPathOfLiteral}
use Rattle.refactor_rename.proofs.paths.add_literal.Goals as goal

pub returns-in-Some : goal.returns-in-Some
returns-in-Some c =
    subst (λ o. OnOk c.add_path.result (AddsAll c.args.paths.now.items c.add_path.new.paths.items (IsPathOfLiteral o))) (sym c.in-Some.is) c.add_path.ensures
