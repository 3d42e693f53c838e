-- The package is there, or it is not.
use Rattle.std.proofs.Common.{inl, inr, sym, ap, subst, ◌∙◌}
use Rattle.std.specs.List.{Contains}
use Rattle.std.proofs.lemmas.Bool.{not-true}
use Rattle.workspace_graph.specs.Changed.{has_file}
use Rattle.workspace_graph.specs.Graphs.{paths_of}
use Rattle.workspace_graph.proofs.ChangedPackages.{at_path}
use Rattle.workspace_graph.proofs.changed.keeps_path.Goals as goal

pub returns-in-Some : goal.returns-in-Some
returns-in-Some c = λ t.
    let paths = paths_of c.args.before.now in
    inl (
      subst (Contains paths) c.path.ensures (at_path paths c.in-Some.field-0 c.path.result.now c.in-Some.ensures),
      sym (c.has_file.ensures ∙ ap has_file c.package.ensures) ∙ t,
    )

pub returns-in-None : goal.returns-in-None
returns-in-None c = λ t.
    let paths = paths_of c.args.before.now in
    inr (
      λ has. c.in-None.ensures (subst (Contains paths) (sym c.path.ensures) has),
      sym (c.has_file-in-None.ensures ∙ ap has_file c.package-in-None.ensures) ∙ not-true c.has_file-in-None.result t,
    )
