-- The answers to the goals of `scope_rename::own_outcome`.
use Rattle.std.proofs.Common.{sym, ◌∙◌}
use Rattle.std.proofs.lemmas.Bool.{false≢true}
use Rattle.go_scope.specs.Packages.{layout_in, names_in}
use Rattle.go_scope.proofs.Nests.{nests}
use Rattle.refactor_scopes.proofs.OutcomeLaws.{kept_own, captured_own, lost_own}
use Rattle.refactor_scopes.proofs.scope_rename.own_outcome.Goals as goal

pub returns-in-None : goal.returns-in-None
returns-in-None c =
    let r = c.args.rename.now in
    let l = layout_in r.table.now in
    kept_own l (nests l c.is_well_formed.ensures) (names_in r.table.now) r.declaration r.name.now c.requires.declares c.requires.other_name c.in-None.ensures

pub returns-then-assigns_to : goal.returns-then-assigns_to
returns-then-assigns_to c =
    let r = c.args.rename.now in
    let l = layout_in r.table.now in
    captured_own l (nests l c.is_well_formed.ensures) (names_in r.table.now) r.declaration r.name.now c.in-Some.z c.in-Some.ensures.0
    (c.assigns_to.ensures.0 c.if-assigns_to.true)

pub returns-else-assigns_to : goal.returns-else-assigns_to
returns-else-assigns_to c =
    let r = c.args.rename.now in
    let l = layout_in r.table.now in
    lost_own l (nests l c.is_well_formed.ensures) (names_in r.table.now) r.declaration r.name.now c.in-Some.z c.in-Some.ensures.0
    (λ q. false≢true (sym c.if-assigns_to.false ∙ c.assigns_to.ensures.1 q))
