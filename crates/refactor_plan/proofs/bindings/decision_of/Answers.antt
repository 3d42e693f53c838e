-- The answers to the goals of `bindings::decision_of`.
use Rattle.std.proofs.Common.{◌≡◌, List, ap, subst, ◌∙◌}
use Rattle.std.specs.Prelude.{None, Some}
use Rattle.std.proofs.lemmas.Option.{none-some, same_Some}
use Rattle.refs_binding.specs.declared.declaration.Declaration.{Declaration}
use Rattle.refs_binding.specs.declared.declaration.Declaration.TheVariants.{Declared}
use Rattle.refs_places.specs.Outside.{declaring_path}
use Rattle.refactor_plan.specs.Bindings.{path_read}
use Rattle.refactor_plan.proofs.bindings.decision_of.Goals as goal

pub scoped_decision-requires-clause-scoped : goal.scoped_decision-requires-clause-scoped
scoped_decision-requires-clause-scoped c =
    let path = path_read c.args.read.now in
    let q = c.in-Declared.field-0 in
    let n = c.in-Declared.n in
    let home : Some q ≡ Some path = subst (λ (d : Declaration). declaring_path d ≡ Some path) c.in-Declared.is c.requires.home in
    c.in-Declared.is ∙ ap (λ (r : List _). Declared r n) (same_Some q path home)

pub unreachable-requires : goal.unreachable-requires
unreachable-requires c =
    let path = path_read c.args.read.now in
    let home : None ≡ Some path = subst (λ (d : Declaration). declaring_path d ≡ Some path) c.in-Predeclared.is c.requires.home in
    none-some path home
