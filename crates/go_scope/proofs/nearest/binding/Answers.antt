-- The answers to the goals of `nearest::binding`.
use Rattle.std.proofs.Common.{ℕ, subst, sym, Option, Some}
use Rattle.go_scope.specs.Numbering.{numerals}
use Rattle.go_scope.specs.OpenBlocks.{IsVisibleInside}
use Rattle.go_scope.specs.Table.{IsNearest, layout_of}
use Rattle.go_scope.proofs.Binding.{nearest_binds, inside_nearest}
use Rattle.go_scope.proofs.nearest.binding.Goals as goal

pub outside-requires-clause-none_inside : goal.outside-requires-clause-none_inside
outside-requires-clause-none_inside c =
    let l = layout_of c.args.identifiers.now in
    let names = numerals c.args.names.now in
    let u = c.args.u in
    let P : Option ℕ → Type 0 = λ o. IsNearest l (IsVisibleInside l names (names u) u) o in
    subst P c.in-None.is (subst P (sym c.index.ensures) (c.requires.linked.near u c.index.result.now c.requires.in_range c.requires.follows))

pub returns-in-Some : goal.returns-in-Some
returns-in-Some c =
    let l = layout_of c.args.identifiers.now in
    let names = numerals c.args.names.now in
    let u = c.args.u in
    let P : Option ℕ → Type 0 = λ o. IsNearest l (IsVisibleInside l names (names u) u) o in
    nearest_binds l c.requires.laid_out.well_formed names (names u) u (Some c.in-Some.d)
    (inside_nearest l names (names u) u c.in-Some.d (subst P c.in-Some.is
    (subst P (sym c.index.ensures) (c.requires.linked.near u c.index.result.now c.requires.in_range c.requires.follows))))

pub returns-in-None : goal.returns-in-None
returns-in-None c =
    let l = layout_of c.args.identifiers.now in
    let names = numerals c.args.names.now in
    nearest_binds l c.requires.laid_out.well_formed names (names c.args.u) c.args.u c.outside.result c.outside.ensures
