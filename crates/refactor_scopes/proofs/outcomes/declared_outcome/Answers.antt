-- The answers to the goals of `outcomes::declared_outcome`.
use Rattle.std.proofs.Common.{◌∙◌, ap, sym}
use Rattle.std.proofs.lemmas.Bool.{false≢true}
use Rattle.go_scope.specs.Packages.{layout_in, names_in}
use Rattle.go_scope.proofs.Nests.{nests}
use Rattle.refactor_scopes.proofs.OutcomeLaws.{kept_other, captured_other, lost_other}
use Rattle.refactor_scopes.proofs.outcomes.declared_outcome.Goals as goal

pub returns-then-not-displaces : goal.returns-then-not-displaces
returns-then-not-displaces c =
    let l = layout_in c.args.table.now in
    let names = names_in c.args.table.now in
    kept_other l (nests l c.is_well_formed.ensures) names c.args.d c.args.name.now c.requires.renamed.may c.args.e c.requires.declares
    (λ same. c.requires.other_name (ap names (sym same) ∙ c.requires.named)) (λ q. false≢true (sym c.if-not-displaces.true ∙ c.displaces.ensures.1 q))

pub returns-then-assigns_to : goal.returns-then-assigns_to
returns-then-assigns_to c =
    let l = layout_in c.args.table.now in
    captured_other l (nests l c.is_well_formed.ensures) (names_in c.args.table.now) c.args.d c.args.name.now c.args.e c.requires.declares c.requires.named
    (c.displaces.ensures.0 c.if-not-displaces.false) (c.assigns_to.ensures.0 c.if-assigns_to.true)

pub returns-else-assigns_to : goal.returns-else-assigns_to
returns-else-assigns_to c =
    let l = layout_in c.args.table.now in
    lost_other l (nests l c.is_well_formed.ensures) (names_in c.args.table.now) c.args.d c.args.name.now c.args.e c.requires.declares c.requires.named
    (c.displaces.ensures.0 c.if-not-displaces.false) (λ q. false≢true (sym c.if-assigns_to.false ∙ c.assigns_to.ensures.1 q))
