-- The answers to the goals of `quoting::package_rest`.
use Rattle.std.proofs.Common.{◌≡◌, sym, subst, ◌∙◌}
use Rattle.std.proofs.lemmas.Bool.{false≢true}
use Rattle.std.proofs.lemmas.List.{append_cancel_left}
use Rattle.refactor_move.specs.PathSteps.{IsPathRest}
use Rattle.refactor_move.proofs.quoting.package_rest.Goals as goal

pub returns-else-is_path_rest : goal.returns-else-is_path_rest
returns-else-is_path_rest c = λ rest e behind.
    let same : rest ≡ c.in_ok-rest.rest.now = append_cancel_left c.args.folder.now rest c.in_ok-rest.rest.now (sym e ∙ c.in_ok-rest.ensures) in
    false≢true (sym c.if-is_path_rest.false ∙ c.is_path_rest.ensures.1 (subst IsPathRest same behind))
