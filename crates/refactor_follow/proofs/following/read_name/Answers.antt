-- The answers to the goals of `following::read_name`.
use Rattle.std.proofs.Common.{Option, sym, subst}
use Rattle.std.proofs.lemmas.Option.{slice_get_within}
use Rattle.types_expr.proofs.Equations.{ok_map}
use Rattle.base_files.specs.Packages.{package_paths}
use Rattle.refs_binding.specs.Workspaces.{known_in}
use Rattle.refs_binding.proofs.Units.{list_of_sound}
use Rattle.refactor_conflict.specs.declared.conflict.Conflict.{Conflict}
use Rattle.refactor_follow.specs.MoveConflicts.{IsFirstOfName}
use Rattle.refactor_follow.proofs.Readings.{everywhere_marked, nowhere_used}
use Rattle.refactor_follow.proofs.Whole.{all_importers, none_imports, within}
use Rattle.refactor_follow.proofs.following.read_name.Goals as goal

pub importers-requires : goal.importers-requires
importers-requires c = slice_get_within (package_paths c.args.workspace.now.graph) c.in-Some.number c.args.new.path.now c.in-Some.ensures

pub read_among-requires : goal.read_among-requires
read_among-requires c =
    within c.args.workspace.now.graph c.args.new.path.now c.importers.result.now (c.importers.ensures c.args.new.path.now c.in-Some.ensures)

pub returns-in-None-clause-conflict : goal.returns-in-None-clause-conflict
returns-in-None-clause-conflict c =
    let w = c.args.workspace.now.graph in
    let found = c.args.workspace.now.findings in
    subst (λ (o : Option Conflict). IsFirstOfName w (known_in found) c.args.new.path.now c.args.new.name.now o) (sym c.nothing_read.ensures.conflict)
    (none_imports w (list_of_sound w found c.has_no_faults.ensures) (known_in found) c.has_no_faults.ensures.findings.right c.args.new.path.now
    c.args.new.name.now c.in-None.ensures)

pub returns-in-None-clause-uses : goal.returns-in-None-clause-uses
returns-in-None-clause-uses c =
    let w = c.args.workspace.now.graph in
    let found = c.args.workspace.now.findings in
    nowhere_used w (list_of_sound w found c.has_no_faults.ensures) (known_in found) c.has_no_faults.ensures.findings.right c.args.new.path.now
    c.nothing_read.result.uses.items c.nothing_read.ensures.uses c.in-None.ensures

pub returns-in-Some-clause-conflict : goal.returns-in-Some-clause-conflict
returns-in-Some-clause-conflict c =
    let w = c.args.workspace.now.graph in
    let found = c.args.workspace.now.findings in
    ok_map c.read_among.result
    (λ r. all_importers w (list_of_sound w found c.has_no_faults.ensures) (known_in found) c.has_no_faults.ensures.findings.right c.args.new.path.now
    c.args.new.name.now c.importers.result.now (c.importers.ensures c.args.new.path.now c.in-Some.ensures) r.conflict) c.read_among.ensures.conflict

pub returns-in-Some-clause-uses : goal.returns-in-Some-clause-uses
returns-in-Some-clause-uses c =
    let w = c.args.workspace.now.graph in
    let found = c.args.workspace.now.findings in
    ok_map c.read_among.result
    (λ r. everywhere_marked w (list_of_sound w found c.has_no_faults.ensures) (known_in found) c.has_no_faults.ensures.findings.right c.args.new.path.now
    c.importers.result.now (c.importers.ensures c.args.new.path.now c.in-Some.ensures) r.uses.items) c.read_among.ensures.uses
