-- The answers to the goals of `outcomes::use_outcome`.
use Rattle.std.proofs.Common.{◌∙◌, sym}
use Rattle.std.proofs.lemmas.Bool.{false≢true}
use Rattle.go_scope.specs.Bindings.{use_bound}
use Rattle.go_scope.specs.Packages.{layout_in, names_in}
use Rattle.go_scope.proofs.Nests.{nests}
use Rattle.refactor_scopes.proofs.OutcomeLaws.{kept_unbound, kept_between, captured_between, binds_use}
use Rattle.refactor_scopes.proofs.outcomes.use_outcome.Goals as goal

pub returns-in-None : goal.returns-in-None
returns-in-None c =
    let l = layout_in c.args.table.now in
    kept_unbound l (nests l c.is_well_formed.ensures) (names_in c.args.table.now) c.args.d c.args.name.now c.requires.renamed c.requires.other_name c.args.u
    c.requires.is_use (λ e b. c.in-None.ensures e (use_bound c.requires.is_use b))

pub returns-then-comes_between : goal.returns-then-comes_between
returns-then-comes_between c =
    let l = layout_in c.args.table.now in
    let names = names_in c.args.table.now in
    let nested = nests l c.is_well_formed.ensures in
    captured_between l nested names c.args.d c.args.name.now c.requires.renamed c.requires.other_name c.args.u c.requires.is_use c.requires.named c.in-Some.old
    (binds_use l nested names c.args.d c.args.name.now c.args.u c.in-Some.old c.requires.is_use c.in-Some.ensures) (c.comes_between.ensures.0
    c.if-comes_between.true)

pub returns-else-comes_between : goal.returns-else-comes_between
returns-else-comes_between c =
    let l = layout_in c.args.table.now in
    let names = names_in c.args.table.now in
    let nested = nests l c.is_well_formed.ensures in
    kept_between l nested names c.args.d c.args.name.now c.requires.renamed c.requires.other_name c.args.u c.requires.is_use c.requires.named c.in-Some.old
    (binds_use l nested names c.args.d c.args.name.now c.args.u c.in-Some.old c.requires.is_use c.in-Some.ensures)
    (λ q. false≢true (sym c.if-comes_between.false ∙ c.comes_between.ensures.1 q))
