-- The package of the path has a number that is among those of the closure.
use Rattle.std.proofs.Common.{◌≡◌, List, ℕ, sym, ap, subst, ◌∙◌}
use Rattle.std.specs.List.{Contains}
use Rattle.std.specs.List.Sorted.{IsStrictlyIncreasing}
use Rattle.base_files.specs.Packages.{package_paths}
use Rattle.base_files.specs.Workspace.{Workspace}
use Rattle.build_unit.specs.Inputs.{IsClosureAt, part_of}
use Rattle.build_unit.proofs.ClosurePart.{there_at}
use Rattle.build_unit.proofs.inputs.PackageInputs.has.Goals as goal

pub is_among-requires : goal.is_among-requires
is_among-requires c =
    let is = subst (λ x. IsClosureAt x.whole x.number x.closure) (sym c.deref-parts.ensures) c.self.invariant.0 in
    subst IsStrictlyIncreasing (sym c.as_slice.ensures) is.rising

pub returns-in-Some : goal.returns-in-Some
returns-in-Some c = λ t.
    let parts = c.deref-parts.result.now in
    let n = c.in-Some.number in
    let is = subst (λ x. IsClosureAt x.whole x.number x.closure) (sym c.deref-parts.ensures) c.self.invariant.0 in
    let view : part_of parts.whole parts.closure ≡ c.args.self.now = ap (λ x. part_of x.whole x.closure) c.deref-parts.ensures ∙ c.self.view_is in
    subst (λ (w : Workspace). Contains (package_paths w) c.args.path.now) view
    (there_at parts.whole parts.number parts.closure is n c.args.path.now (subst (λ (l : List ℕ). Contains l n) c.as_slice.ensures (c.is_among.ensures.0 t))
    c.in-Some.ensures)
