-- The answers to the goals of `own_uses::own_use_conflict`.
use Rattle.go_scope.specs.Packages.{layout_in, names_in}
use Rattle.go_scope.proofs.Nests.{nests}
use Rattle.law_rename.proofs.Conflicts.{none_holds}
use Rattle.refactor_scopes.proofs.OutcomeLaws.{kept_own_use, captured_own_use}
use Rattle.refactor_scopes.proofs.Renames.{own_written}
use Rattle.refactor_scopes.proofs.own_uses.own_use_conflict.Goals as goal

pub returns-in-None : goal.returns-in-None
returns-in-None c = λ u id own.
    let r = c.args.rename.now in
    let l = layout_in r.table.now in
    kept_own_use l (nests l c.is_well_formed.ensures) (names_in r.table.now) r.declaration r.name.now c.requires.declares c.requires.other_name u own
    (λ v t. c.in-None.ensures u (own, (v, t)))

pub returns-in-None-binding_of_name : goal.returns-in-None-binding_of_name
returns-in-None-binding_of_name c =
    let r = c.args.rename.now in
    let l = layout_in r.table.now in
    let taken = c.in-Some.ensures.0.1 in
    absurd (none_holds l (nests l c.is_well_formed.ensures) (names_in r.table.now) r.name.now c.in-Some.identifier c.in-None-binding_of_name.ensures taken.0
    (taken.1.declares, taken.1.named, taken.1.in_scope))

pub returns-in-Some-binding_of_name : goal.returns-in-Some-binding_of_name
returns-in-Some-binding_of_name c =
    let r = c.args.rename.now in
    let l = layout_in r.table.now in
    let names = names_in r.table.now in
    let nested = nests l c.is_well_formed.ensures in
    let own = c.in-Some.ensures.0.0 in
    let taken = c.in-Some.ensures.0.1 in (
      own_written r c.requires c.is_well_formed.ensures c.in-Some.identifier own,
      captured_own_use l nested names r.declaration r.name.now c.requires.declares c.requires.other_name c.requires.all_count c.in-Some.identifier taken.0
          c.in-Some-binding_of_name.c own taken.1 c.in-Some-binding_of_name.ensures,
      (λ u lt id mine. kept_own_use l nested names r.declaration r.name.now c.requires.declares c.requires.other_name u mine
          (λ v t. c.in-Some.ensures.1 u lt (mine, (v, t)))),
    )
