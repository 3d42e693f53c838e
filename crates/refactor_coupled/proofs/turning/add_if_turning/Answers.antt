-- The answers to the goals of `turning::add_if_turning`.
use Rattle.std.proofs.Common.{◌≡◌, ◌∙◌, ◌∷◌, ◌++◌, [], true, false, ap, sym}
use Rattle.std.specs.Prelude.{cond}
use Rattle.std.proofs.lemmas.List.{append-nil}
use Rattle.types_expr.specs.declared.symbol.Symbol.{Symbol}
use Rattle.refactor_coupled.specs.RenamedTypesView.{definitions_in, rename_of}
use Rattle.refactor_coupled.specs.Turning.{can_turn}
use Rattle.refactor_coupled.proofs.turning.add_if_turning.Goals as goal

pub returns-then-not-can_turn : goal.returns-then-not-can_turn
returns-then-not-can_turn c =
    let found = c.args.found.now.items in
    let cannot : can_turn (definitions_in c.args.types.now.types.now) (rename_of c.args.types.now.rename) c.args.moved c.args.symbol.now ≡ false =
    sym c.can_turn.ensures ∙ c.if-not-can_turn.true in
    sym (ap (λ b. found ++ cond b (c.args.symbol.now ∷ []) []) cannot ∙ append-nil found)

pub returns : goal.returns
returns c =
    let found = c.args.found.now.items in
    let can : can_turn (definitions_in c.args.types.now.types.now) (rename_of c.args.types.now.rename) c.args.moved c.args.symbol.now ≡ true =
    sym c.can_turn.ensures ∙ c.if-not-can_turn.false in
    c.in_ok-push.ensures.items ∙ ap (λ (s : Symbol). found ++ s ∷ []) c.in_ok-copy.ensures
    ∙ sym (ap (λ b. found ++ cond b (c.args.symbol.now ∷ []) []) can)
