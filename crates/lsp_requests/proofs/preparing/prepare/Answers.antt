-- The answers to the goals of `preparing::prepare`.
use Rattle.std.proofs.Common.{◌∙◌, ap, refl, subst}
use Rattle.std.specs.Prelude.{Err}
use Rattle.base_files.specs.declared.refusal.Refusal.TheVariants.{Memory}
use Rattle.lsp_told.specs.Locations.{name_from}
use Rattle.lsp_requests.specs.Uses.{PreparesNamed}
use Rattle.lsp_requests.proofs.preparing.prepare.Goals as goal

pub returns-in-Err-clause-told : goal.returns-in-Err-clause-told
returns-in-Err-clause-told g c = (Err Memory, tt, refl)

pub returns-in-Ok-clause-told : goal.returns-in-Ok-clause-told
returns-in-Ok-clause-told g c =
    subst (λ name. PreparesNamed c.args.sight.telling c.args.sight.view.now.snapshot c.args.at.now name c.prepare_named.result)
    (c.as_str.ensures.value ∙ c.in-Ok.ensures ∙ ap (λ files. name_from files c.args.at.now) c.files.ensures) c.prepare_named.ensures.told
