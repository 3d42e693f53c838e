-- The last entry stands behind all others.
use Rattle.std.proofs.Common.{◌≡◌, ◌-◌, ◌<◌, true, Some, slice_get, length, get_or, sym, ap, ◌∙◌, arith}
use Rattle.std.specs.Ordering.{is_gt}
use Rattle.std.proofs.lemmas.Option.{slice_get_within, get_or_from_slice_get}
use Rattle.base_files.specs.Workspace.{path_cmp}
use Rattle.base_files.proofs.Standing.{after_last}
use Rattle.base_files.proofs.entries.is_last.Goals as goal

pub returns-in-Some : goal.returns-in-Some
returns-in-Some g c t =
    let path = c.args.path.now in
    let es = c.args.entries.now in
    let m = length es - 1 in
    let last = c.in-Some.last.now in
    let at : slice_get es m ≡ Some last = sym c.in-Some.ensures.value in
    let within : m < length es = slice_get_within es m last at in
    let gt : is_gt (path_cmp path (get_or es m last).0) ≡ true =
    ap (λ e. is_gt (path_cmp path e.0)) (get_or_from_slice_get es m last last at)
    ∙ sym (c.is_gt.ensures ∙ ap is_gt (c.cmp.ensures ∙ ap (path_cmp path) c.path.ensures)) ∙ t in
    after_last path es m last c.requires (omega (arith, within)) gt
