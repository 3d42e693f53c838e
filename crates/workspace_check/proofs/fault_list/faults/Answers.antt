-- The answers to the goals of `fault_list::faults`.
use Rattle.std.proofs.Common.{◌↔◌, subst, ◌∙◌, ap}
use Rattle.std.specs.Prelude.{Contains}
use Rattle.std.specs.List.{flat_map}
use Rattle.workspace_check.proofs.Listing.{list_found, faults_in}
use Rattle.workspace_check.proofs.fault_list.faults.Goals as goal

pub returns : goal.returns
returns c = λ w h.
    list_found w c.args.found.now h c.sort.new.found.items c.sort.ensures.order
    (λ f. subst (λ l. Contains c.sort.new.found.items f ↔ Contains l f) (c.in_ok-list.ensures ∙ ap (flat_map faults_in) c.deref.ensures.value)
    (c.sort.ensures.same f))
