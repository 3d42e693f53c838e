-- The answers to the goals of `cycles::is_behind_imports`.
use Rattle.std.proofs.Common.{◌≡◌, ◌<◌, inl, inr, get_or, sym, subst, arith}
use Rattle.std.specs.Prelude.{Contains}
use Rattle.std.proofs.lemmas.List.{take_all}
use Rattle.base_lemmas.proofs.Elements.{nothing_in}
use Rattle.workspace_check.specs.Cycles.{ComesAfter}
use Rattle.workspace_check.proofs.Members.{taken_or_next}
use Rattle.workspace_check.proofs.cycles.is_behind_imports.Goals as goal

pub loop-import-init : goal.loop-import-init
loop-import-init c = λ j none. absurd (nothing_in j none)

pub loop-import-preserved : goal.loop-import-preserved
loop-import-preserved c = λ j has.
    let items = c.imports-import-items.result.now in
    let k = c.loop-import.import-index in
    let places = c.args.places.now in
    let numbers = c.args.numbers.now in
    elim (taken_or_next items k 0 j c.loop-import-test.true has) [
      | inl before ↦ c.loop-import.invariant j before
      | inr e ↦ subst (ComesAfter places numbers c.args.number) e (
          let told = c.is_behind.ensures c.if-not-is_behind.false in
          let at_own = subst (λ a. (c.number_at.result ≡ a → ⊥) → get_or places c.number_at.result 0 < get_or places a 0) c.number_at-own.ensures told in
          subst (λ b. (b ≡ get_or numbers c.args.number 0 → ⊥) → get_or places b 0 < get_or places (get_or numbers c.args.number 0) 0)
          c.number_at.ensures at_own)
    ]

pub returns : goal.returns
returns c = λ t p at j q there imports.
    let items = c.imports-import-items.result.now in
    c.loop-import.invariant j (subst (λ l. Contains l j) (sym (take_all c.loop-import.import-index items (omega arith)))
    ((c.imports-import-items.ensures.imports p at j).1 (q, there, imports)))
