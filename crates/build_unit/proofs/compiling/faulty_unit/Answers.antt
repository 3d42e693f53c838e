-- The answers to the goals of `compiling::faulty_unit`.
use Rattle.std.proofs.Common.{◌≡◌, ◌<◌, List, [], ◌∷◌, length, refl, ap, ◌∙◌, arith}
use Rattle.std.specs.Prelude.{remove, slice_index_or}
use Rattle.std.proofs.Math.Path.{ap₂}
use Rattle.std.proofs.lemmas.Result.{IfOk-weaker}
use Rattle.build_unit.specs.declared.unit.Compiled.TheVariants as compiled
use Rattle.build_unit.specs.Compiling.{HoldsFaults}
use Rattle.build_unit.specs.Units.{Faults, unit_value}
use Rattle.build_unit.proofs.compiling.faulty_unit.Goals as goal

some_there : {X : Type 0} (xs : List X) → (xs ≡ [] → ⊥) → 0 < length xs
some_there [] some = absurd (some refl)
some_there (x ∷ xs) some = omega arith

-- a list is its first element before the others
first_and_others : {X : Type 0} (xs : List X) (first : X) (others : List X) → (xs ≡ [] → ⊥) → first ≡ slice_index_or xs 0 first → others ≡ remove xs 0 →
    first ∷ others ≡ xs
first_and_others [] first others some is rest = absurd (some refl)
first_and_others (x ∷ xs) first others some is rest = ap₂ (λ y ys. y ∷ ys) is rest

pub remove-first-requires : goal.remove-first-requires
remove-first-requires c = let some = some_there c.args.faults.items c.requires in omega (arith, some, c.args.faults.ok.0)

pub returns : goal.returns
returns c =
    let list = c.args.faults.items in
    let first = c.remove-first.result in
    let others = c.remove-first.new.self in
    let same : first ∷ others.items ≡ list = first_and_others list first others.items c.requires c.remove-first.ensures.value c.remove-first.ensures.items in
    IfOk-weaker c.new.result (λ unit. unit ≡ compiled.Faults first others) (HoldsFaults list) (λ unit is p. ap (unit_value p) is ∙ ap Faults same) c.new.ensures
