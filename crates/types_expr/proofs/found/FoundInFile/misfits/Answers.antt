-- The answers to the goals of `found::FoundInFile::misfits`.
use Rattle.std.proofs.Common.{◌≡◌, ◌+◌, ◌&&◌, Bool, ap, sym, ◌∙◌, drop, map, subst, ◌∷◌}
use Rattle.std.proofs.Math.ListN.{drop_of_length-le}
use Rattle.types_expr.specs.Judge.{misfits, enterings}
use Rattle.types_expr.specs.WorldView.{world_of}
use Rattle.types_expr.specs.Found.{list_value}
use Rattle.types_expr.specs.View.{type_of}
use Rattle.types_expr.proofs.Items.{next_item}
use Rattle.types_expr.proofs.Misfits.{Compared, compared_start, compared_step, compared_end, misfits_step, misfits_no_values, misfits_no_types}
use Rattle.types_expr.proofs.Misfits.{enterings_step, enterings_no_values, enterings_no_types}
use Rattle.types_expr.proofs.found.FoundInFile.misfits.Goals as goal
use Rattle.types_expr.proofs.found.FoundInFile.misfits.Goals.{then-none, else-none}

pub each-init : goal.each-init
each-init c = compared_start _ _

pub each-preserved : goal.each-preserved
each-preserved c =
    let both : c.each.none && c.in_ok-fits.fits ≡ c.if-none.none =
    elim c.if-none.branch [
      | then-none w ↦ ap (λ b. b && c.in_ok-fits.fits) w.if-none.true ∙
          sym w.none-is
      | else-none w ↦ ap (λ b. b && c.in_ok-fits.fits) w.if-none.false ∙ (sym w.if-none.false ∙ sym w.none-is)
    ] in
    subst (λ (b : Bool). Compared (misfits (world_of c.args.world.now) (map list_value c.args.values.now) (map type_of c.args.types.now))
    (misfits (world_of c.args.world.now) (map list_value (drop (c.each.i + 1) c.args.values.now)) (map type_of (drop (c.each.i + 1) c.args.types.now)))
    (enterings (world_of c.args.world.now) (map list_value c.args.values.now) (map type_of c.args.types.now))
    (enterings (world_of c.args.world.now) (map list_value (drop (c.each.i + 1) c.args.values.now)) (map type_of (drop (c.each.i + 1) c.args.types.now)))
    c.args.self.now c.misfit.new.self b) both
    (compared_step _ _ c.each.invariant c.in_ok-fits.ensures
    (ap (λ vs. misfits (world_of c.args.world.now) (map list_value vs) (map type_of (drop c.each.i c.args.types.now)))
    (next_item _ _ _ c.each-test.true c.index-values-i.is)
    ∙ (ap (λ ts. misfits (world_of c.args.world.now) (map list_value (c.index-values-i.result ∷ drop (c.each.i + 1) c.args.values.now)) (map type_of ts))
    (next_item _ _ _ c.if-i-types.true c.index-types-i.is)
    ∙ misfits_step (world_of c.args.world.now) c.index-values-i.result _ c.index-types-i.result _))
    (ap (λ vs. enterings (world_of c.args.world.now) (map list_value vs) (map type_of (drop c.each.i c.args.types.now)))
    (next_item _ _ _ c.each-test.true c.index-values-i.is)
    ∙ (ap (λ ts. enterings (world_of c.args.world.now) (map list_value (c.index-values-i.result ∷ drop (c.each.i + 1) c.args.values.now)) (map type_of ts))
    (next_item _ _ _ c.if-i-types.true c.index-types-i.is)
    ∙ enterings_step (world_of c.args.world.now) c.index-values-i.result _ c.index-types-i.result _)))

pub returns-else-i-types : goal.returns-else-i-types
returns-else-i-types c = compared_end c.each.invariant
    (ap (λ ts. misfits (world_of c.args.world.now) (map list_value (drop c.each.i c.args.values.now)) (map type_of ts))
    (drop_of_length-le _ c.if-i-types.false) ∙ misfits_no_types (world_of c.args.world.now) _)
    (ap (λ ts. enterings (world_of c.args.world.now) (map list_value (drop c.each.i c.args.values.now)) (map type_of ts))
    (drop_of_length-le _ c.if-i-types.false) ∙ enterings_no_types (world_of c.args.world.now) _)

pub returns-after-each : goal.returns-after-each
returns-after-each c = compared_end c.each.invariant
    (ap (λ vs. misfits (world_of c.args.world.now) (map list_value vs) (map type_of (drop c.each.i c.args.types.now)))
    (drop_of_length-le _ c.each-test.false) ∙ misfits_no_values (world_of c.args.world.now) _)
    (ap (λ vs. enterings (world_of c.args.world.now) (map list_value vs) (map type_of (drop c.each.i c.args.types.now)))
    (drop_of_length-le _ c.each-test.false) ∙ enterings_no_values (world_of c.args.world.now) _)
