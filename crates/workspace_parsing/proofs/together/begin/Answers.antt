-- The thread promises the files of the share.
use Rattle.std.proofs.Common.{◌+◌, subst, sym, ◌∙◌, ℕ}
use Rattle.std.proofs.lemmas.Option.{IfSome_then}
use Rattle.workspace_parsing.specs.Shares.{IsPartBetween}
use Rattle.workspace_parsing.proofs.together.begin.Goals as goal

pub returns : goal.returns
returns g c =
    let n : ℕ = c.args.number in
    IfSome_then c.begin.result c.begin.ensures
    (λ thread is. subst (IsPartBetween c.args.files.now n (n + 1)) (sym (is ∙ c.new-task.ensures)) c.in_ok-part.ensures)
