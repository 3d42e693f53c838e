-- The answers to the goals of `lookup::definitions_beside`.
use Rattle.std.proofs.Common.{ap, subst, sym, ◌∙◌}
use Rattle.std.specs.Prelude.{Some, Contains}
use Rattle.std.proofs.lemmas.Option.{slice_get_within}
use Rattle.base_files.specs.Packages.{package_paths}
use Rattle.workspace_graph.proofs.ByPath.{at_contains}
use Rattle.refactor_members.specs.Renames.{workspace_before}
use Rattle.refactor_members.proofs.lookup.definitions_beside.Goals as goal

pub own_of-requires : goal.own_of-requires
own_of-requires c = slice_get_within (package_paths (workspace_before c.args.m.now)) c.in-Some.number c.path.result.now c.in-Some.ensures

pub returns-in-None-clause-own : goal.returns-in-None-clause-own
returns-in-None-clause-own c = λ has. c.in-None.ensures (subst (Contains (package_paths (workspace_before c.args.m.now))) (sym c.path.ensures) has)

pub returns-in-Some-clause-own : goal.returns-in-Some-clause-own
returns-in-Some-clause-own c = λ p is e.
    c.own_of.ensures p (record { has_number = c.in-Some.ensures ∙ ap Some (c.path.ensures ∙ sym e); is_package = is })

pub returns-in-Some-clause-there : goal.returns-in-Some-clause-there
returns-in-Some-clause-there c =
    let w = workspace_before c.args.m.now in
    subst (Contains (package_paths w)) c.path.ensures (at_contains w c.in-Some.number c.path.result.now c.in-Some.ensures)
