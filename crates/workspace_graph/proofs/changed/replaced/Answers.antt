-- One more package, and all of them at the end.
use Rattle.std.proofs.Common.{List, Some, slice_get, ap, sym, subst, ◌∙◌, arith}
use Rattle.std.specs.List.{Contains}
use Rattle.std.proofs.lemmas.List.{take_all}
use Rattle.workspace_graph.specs.Changed.{AreReplaced}
use Rattle.workspace_graph.specs.Graphs.{paths_of}
use Rattle.workspace_graph.specs.declared.package.ParsedPackage.{ParsedPackage}
use Rattle.workspace_graph.proofs.ChangedPackages.{clones_are, none_replaced, replaced_none, replaced_more}
use Rattle.workspace_graph.proofs.changed.replaced.Goals.{in-Some+in_ok-packages-2, in_default}
use Rattle.workspace_graph.proofs.changed.replaced.Goals as goal

pub loop-package-init : goal.loop-package-init
loop-package-init c = none_replaced c.args.before.now.items c.in_ok-packages.packages.items
    (clones_are c.args.before.now.items c.in_ok-packages.packages.items c.in_ok-packages.ensures.cases.0)

pub loop-package-preserved : goal.loop-package-preserved
loop-package-preserved c =
    let before = c.args.before.now.items in
    let fresh = c.args.fresh.now in
    let k = c.loop-package.package-index in
    let x = c.package-item.result in
    let old = c.loop-package.packages.items in
    elim c.match-number_of.branch [
      | in-Some+in_ok-packages-2 w ↦ rw (w.packages-is, w.in_ok-packages-2.ensures.cases)
          (replaced_more before fresh old k x c.loop-package-test.true c.package-item.is c.loop-package.invariant c.requires w.in-Some.number
          (ap (λ l. slice_get l w.in-Some.number) (sym (ap paths_of c.deref.ensures.value)) ∙ w.in-Some.ensures ∙ ap Some c.path.ensures))
      | in_default w ↦ rw w.packages-is (replaced_none before fresh old k x c.loop-package-test.true c.package-item.is c.loop-package.invariant
          (λ has. w.in_default.ensures (subst (λ l. Contains l c.path.result.now) (sym (ap paths_of c.deref.ensures.value))
          (subst (Contains (paths_of before)) (sym c.path.ensures) has))))
    ]

pub returns : goal.returns
returns c =
    subst (λ (ps : List ParsedPackage). AreReplaced c.args.before.now.items ps c.loop-package.packages.items)
    (take_all c.loop-package.package-index c.args.fresh.now (omega (arith, c.loop-package-test.false))) c.loop-package.invariant
