-- The answers to the goals of `uses::declared_told`.
use Rattle.std.proofs.Common.{subst}
use Rattle.std.specs.Option.{option_copied}
use Rattle.lsp_told.specs.Locations.{TellsLocation}
use Rattle.lsp_requests.proofs.uses.declared_told.Goals as goal

pub returns : goal.returns
returns c =
    subst (λ files. TellsLocation c.args.sight.telling files (option_copied c.args.place) c.place_told.result) c.files.ensures c.place_told.ensures
