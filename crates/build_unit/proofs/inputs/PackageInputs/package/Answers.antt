-- The package at a place is that of the number there, with the same files.
use Rattle.std.proofs.Common.{◌≡◌, ◌<◌, List, ℕ, length, get_or, sym, ap, subst, ◌∙◌, arith}
use Rattle.std.specs.List.{Contains}
use Rattle.std.proofs.lemmas.List.Elements.{Contains-get_or}
use Rattle.base_files.specs.Packages.{package_paths}
use Rattle.base_files.specs.Workspace.{Workspace}
use Rattle.workspace_graph.specs.Graphs.{IsPackage}
use Rattle.build_unit.specs.Inputs.{IsClosureAt, part_of}
use Rattle.build_unit.proofs.ClosurePart.{package_at, size_at, within_at}
use Rattle.build_unit.proofs.inputs.PackageInputs.package.Goals as goal

pub number_at-number-requires : goal.number_at-number-requires
number_at-number-requires c =
    let parts = c.deref-parts.result.now in
    let is = subst (λ x. IsClosureAt x.whole x.number x.closure) (sym c.deref-parts.ensures) c.self.invariant.0 in
    let view : part_of parts.whole parts.closure ≡ c.args.self.now = ap (λ x. part_of x.whole x.closure) c.deref-parts.ensures ∙ c.self.view_is in
    let size : length (package_paths c.args.self.now) ≡ length parts.closure = ap (λ w. length (package_paths w)) (sym view) ∙
    size_at parts.whole parts.number parts.closure is in
    let same : length c.as_slice.result.now ≡ length parts.closure = ap length c.as_slice.ensures in
    omega (arith, c.requires, size, same)

pub package-requires : goal.package-requires
package-requires c =
    let parts = c.deref-parts.result.now in
    let numbers = c.as_slice.result.now in
    let is = subst (λ x. IsClosureAt x.whole x.number x.closure) (sym c.deref-parts.ensures) c.self.invariant.0 in
    let view : part_of parts.whole parts.closure ≡ c.args.self.now = ap (λ x. part_of x.whole x.closure) c.deref-parts.ensures ∙ c.self.view_is in
    let size : length (package_paths c.args.self.now) ≡ length parts.closure = ap (λ w. length (package_paths w)) (sym view) ∙
    size_at parts.whole parts.number parts.closure is in
    let same : length numbers ≡ length parts.closure = ap length c.as_slice.ensures in
    let below : c.args.place < length numbers = omega (arith, c.requires, size, same) in
    within_at parts.whole parts.number parts.closure is c.number_at-number.result
    (subst (λ n. Contains parts.closure n) (sym c.number_at-number.ensures)
    (subst (λ l. Contains l (get_or numbers c.args.place 0)) c.as_slice.ensures (Contains-get_or numbers c.args.place 0 below)))

pub returns : goal.returns
returns c =
    let parts = c.deref-parts.result.now in
    let parsed = c.package.result.now in
    let is = subst (λ x. IsClosureAt x.whole x.number x.closure) (sym c.deref-parts.ensures) c.self.invariant.0 in
    let view : part_of parts.whole parts.closure ≡ c.args.self.now = ap (λ x. part_of x.whole x.closure) c.deref-parts.ensures ∙ c.self.view_is in
    let size : length (package_paths c.args.self.now) ≡ length parts.closure = ap (λ w. length (package_paths w)) (sym view) ∙
    size_at parts.whole parts.number parts.closure is in
    let number : c.number_at-number.result ≡ get_or parts.closure c.args.place 0 = c.number_at-number.ensures ∙
    ap (λ (l : List ℕ). get_or l c.args.place 0) c.as_slice.ensures in
    subst (λ (w : Workspace). IsPackage w c.args.place parsed) view
    (package_at parts.whole parts.number parts.closure is c.args.place parsed (omega (arith, c.requires, size))
    (subst (λ (n : ℕ). IsPackage parts.whole n parsed) number c.package.ensures))
