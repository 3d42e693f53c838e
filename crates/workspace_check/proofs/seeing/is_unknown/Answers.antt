-- The answers to the goals of `seeing::is_unknown`.
use Rattle.std.proofs.Common.{◌≡◌, sym, ap, ◌∙◌}
use Rattle.std.proofs.lemmas.Option.{same_Some}
use Rattle.types_declared.specs.ExportTablesView.{name_in}
use Rattle.workspace_check.proofs.Noting.{unknown_by}
use Rattle.workspace_check.proofs.seeing.is_unknown.Goals as goal

pub returns-in-None : goal.returns-in-None
returns-in-None c = λ t q there.
    let path : c.deref.result.now ≡ q = c.deref.ensures.value ∙ same_Some c.package.result.now.path.items q (sym c.package.ensures.path ∙ there) in
    unknown_by c.args.all.now q (ap (name_in c.args.all.now) (sym path) ∙ sym c.in-None.ensures)
