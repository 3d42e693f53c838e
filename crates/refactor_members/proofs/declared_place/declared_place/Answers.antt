-- The answers to the goals of `declared_place::declared_place`.
use Rattle.std.proofs.Common.{ap, ◌∙◌}
use Rattle.std.specs.Prelude.{Some}
use Rattle.std.proofs.lemmas.Result.{IfOk-weaker}
use Rattle.refs_binding.specs.DeclaringPlaces.{HasDeclarationAt}
use Rattle.refactor_members.proofs.Homes.{choice_home}
use Rattle.refactor_members.proofs.declared_place.declared_place.Goals as goal

pub returns-in-Some-number_of : goal.returns-in-Some-number_of
returns-in-Some-number_of c =
    let w = c.args.workspace.now in
    let d = c.args.declaration.now in
    IfOk-weaker c.place_at.result _ _
    (λ found h.
    choice_home w.graph w.findings c.has_no_faults.ensures c.in-Some-number_of.number c.in-Some.path.now (c.in-Some-number_of.ensures ∙ ap Some
    c.path.ensures) d
    c.in-Some.ensures (λ q. HasDeclarationAt q d) found h) c.place_at.ensures
