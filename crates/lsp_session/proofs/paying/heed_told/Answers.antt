-- The answers to the goals of `paying::heed_told`.
use Rattle.std.proofs.Common.{map}
use Rattle.std.proofs.lemmas.Result.{on_ok_weaker}
use Rattle.serde_json.specs.View.{view}
use Rattle.lsp_session.proofs.paying.heed_told.Goals as goal

pub returns : goal.returns
returns g c =
    let written = rw c.as_slice.ensures.value at c.publish_all.ensures in
    on_ok_weaker c.publish_all.result (λ h. (map view c.in_ok-faults.faults.items, c.in_ok-faults.ensures, h)) written
