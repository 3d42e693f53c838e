-- The edits are missing, or bytes stand behind them.
use Rattle.std.proofs.Common.{◌∷◌}
use Rattle.history_records.specs.Encoded.{IsNoChange}
use Rattle.history_records.proofs.Parts.{commit_fails_by_set, commit_goes_on, not_empty, told_on}
use Rattle.history_records.proofs.lists.read_commit.Goals as goal

pub returns-in_err-edits-clause-err : goal.returns-in_err-edits-clause-err
returns-in_err-edits-clause-err c =
    told_on (IsNoChange (1 ∷ c.args.bytes.now)) c.in_err-edits.field-0.0 c.from_residual-in_err-edits.result c.from_residual-in_err-edits.ensures.1
    (commit_fails_by_set c.args.bytes.now c.in_ok-basis.basis c.in_ok-basis.behind.now c.in_err-edits.field-0.0 c.in_ok-basis.ensures.ok
    c.in_err-edits.ensures.err)

pub returns-else-is_empty-clause-err : goal.returns-else-is_empty-clause-err
returns-else-is_empty-clause-err c =
    commit_goes_on c.args.bytes.now c.in_ok-basis.basis c.in_ok-basis.behind.now c.in_ok-edits.edits c.in_ok-edits.rest.now c.in_ok-basis.ensures.ok
    c.in_ok-edits.ensures.ok (not_empty c.in_ok-edits.rest.now c.is_empty.result c.is_empty.ensures c.if-is_empty.false)
