-- The bytes are no number, or more than one.
use Rattle.std.proofs.Common.{◌≡◌, ℕ, refl}
use Rattle.history_records.specs.Encoded.{IsNumber, number_bytes}
use Rattle.history_records.specs.declared.change.ChangeFault.TheVariants.{NoChange}
use Rattle.history_records.proofs.Parts.{basis_goes_on, basis_none, not_empty, told_on}
use Rattle.history_records.proofs.lists.read_basis.Goals as goal

pub returns-in_err-basis-clause-err : goal.returns-in_err-basis-clause-err
returns-in_err-basis-clause-err c =
    told_on (λ fault. (fault ≡ NoChange) × ((b : ℕ) → IsNumber b → c.args.bytes.now ≡ number_bytes b → ⊥)) c.in_err-basis.field-0.0 c.from_residual.result
    c.from_residual.ensures.1 (basis_none c.args.bytes.now c.in_err-basis.field-0.0 c.in_err-basis.ensures.err c.in_err-basis.ensures.why)

pub returns-else-is_empty-clause-err : goal.returns-else-is_empty-clause-err
returns-else-is_empty-clause-err c = (
  refl,
  basis_goes_on c.args.bytes.now c.in_ok-basis.basis c.in_ok-basis.rest.now c.in_ok-basis.ensures.ok
      (not_empty c.in_ok-basis.rest.now c.is_empty.result c.is_empty.ensures c.if-is_empty.false),
)
