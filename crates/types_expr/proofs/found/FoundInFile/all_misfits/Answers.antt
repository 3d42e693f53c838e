-- The answers to the goals of `found::FoundInFile::all_misfits`.
use Rattle.std.proofs.Common.{◌≡◌, ◌+◌, ◌&&◌, Bool, ap, sym, ◌∙◌, drop, map, subst}
use Rattle.std.proofs.Math.ListN.{drop_of_length-le}
use Rattle.types_expr.specs.Judge.{all_misfits, all_enterings}
use Rattle.types_expr.specs.WorldView.{world_of}
use Rattle.types_expr.specs.Found.{list_value}
use Rattle.types_expr.specs.View.{type_of}
use Rattle.types_expr.proofs.Items.{next_item}
use Rattle.types_expr.proofs.Misfits.{Compared, compared_start, compared_step, compared_end, all_misfits_step, all_misfits_end, all_enterings_step}
use Rattle.types_expr.proofs.Misfits.{all_enterings_end}
use Rattle.types_expr.proofs.found.FoundInFile.all_misfits.Goals as goal
use Rattle.types_expr.proofs.found.FoundInFile.all_misfits.Goals.{then-none, else-none}

pub loop-value-init : goal.loop-value-init
loop-value-init c = compared_start _ _

pub loop-value-preserved : goal.loop-value-preserved
loop-value-preserved c =
    let both : c.loop-value.none && c.in_ok-fits.fits ≡ c.if-none.none =
    elim c.if-none.branch [
      | then-none w ↦ ap (λ b. b && c.in_ok-fits.fits) w.if-none.true ∙
          sym w.none-is
      | else-none w ↦ ap (λ b. b && c.in_ok-fits.fits) w.if-none.false ∙ (sym w.if-none.false ∙ sym w.none-is)
    ] in
    subst (λ (b : Bool). Compared (all_misfits (world_of c.args.world.now) (map list_value c.args.values.now) (type_of c.args.wanted.now))
    (all_misfits (world_of c.args.world.now) (map list_value (drop (c.loop-value.value-index + 1) c.args.values.now)) (type_of c.args.wanted.now))
    (all_enterings (world_of c.args.world.now) (map list_value c.args.values.now) (type_of c.args.wanted.now))
    (all_enterings (world_of c.args.world.now) (map list_value (drop (c.loop-value.value-index + 1) c.args.values.now)) (type_of c.args.wanted.now))
    c.args.self.now c.misfit.new.self b) both
    (compared_step _ _ c.loop-value.invariant c.in_ok-fits.ensures
    (ap (λ vs. all_misfits (world_of c.args.world.now) (map list_value vs) (type_of c.args.wanted.now)) (next_item _ _ _ c.loop-value-test.true c.value-item.is)
    ∙ all_misfits_step (world_of c.args.world.now) c.value-item.result _ (type_of c.args.wanted.now))
    (ap (λ vs. all_enterings (world_of c.args.world.now) (map list_value vs) (type_of c.args.wanted.now))
    (next_item _ _ _ c.loop-value-test.true c.value-item.is)
    ∙ all_enterings_step (world_of c.args.world.now) c.value-item.result _ (type_of c.args.wanted.now)))

pub returns : goal.returns
returns c = compared_end c.loop-value.invariant (ap (λ vs. all_misfits (world_of c.args.world.now) (map list_value vs) (type_of c.args.wanted.now))
    (drop_of_length-le _ c.loop-value-test.false) ∙ all_misfits_end (world_of c.args.world.now) (type_of c.args.wanted.now))
    (ap (λ vs. all_enterings (world_of c.args.world.now) (map list_value vs) (type_of c.args.wanted.now))
    (drop_of_length-le _ c.loop-value-test.false) ∙ all_enterings_end (world_of c.args.world.now) (type_of c.args.wanted.now))
