-- The answers to the goals of `turning::turns_called`.
use Rattle.std.proofs.Common.{◌≡◌, ◌∙◌, List, true, ap, sym}
use Rattle.types_expr.specs.declared.symbol.Symbol.{Symbol}
use Rattle.refactor_coupled.specs.RenamedTypes.{moves_written}
use Rattle.refactor_coupled.specs.RenamedTypesView.{any_turns, definitions_in, rename_of}
use Rattle.refactor_coupled.proofs.Following.{moved_turns, unmoved_turns}
use Rattle.refactor_coupled.proofs.Uncalled.{none_of}
use Rattle.refactor_coupled.proofs.turning.turns_called.Goals as goal

pub returns-then-not-moves_asked : goal.returns-then-not-moves_asked
returns-then-not-moves_asked c =
    let ds = c.args.types.now.types.now in
    let r = rename_of c.args.types.now.rename in
    let i = c.args.interface.now in
    c.turns_any.ensures ∙ ap (λ (l : List Symbol). any_turns ds r l i) (c.as_slice.ensures.value ∙ c.requires.moving)
    ∙ unmoved_turns ds r c.args.called.now.all.items i (sym c.moves_asked.ensures ∙ c.if-not-moves_asked.true)

pub returns-then-asks_new : goal.returns-then-asks_new
returns-then-asks_new c =
    let ds = c.args.types.now.types.now in
    let r = rename_of c.args.types.now.rename in
    c.turns_any-then-asks_new.ensures ∙ ap (λ (l : List Symbol). any_turns ds r l c.args.interface.now) c.as_slice-then-asks_new.ensures.value

pub returns : goal.returns
returns c =
    let ds = c.args.types.now.types.now in
    let r = rename_of c.args.types.now.rename in
    let i = c.args.interface.now in
    let moved : moves_written r (definitions_in ds i) ≡ true = sym c.moves_asked.ensures ∙ c.if-not-moves_asked.false in
    let none = none_of ((definitions_in ds i).field r.new) (sym c.asks_new.ensures ∙ c.if-asks_new.false) in
    c.turns_any-2.ensures ∙ ap (λ (l : List Symbol). any_turns ds r l i) (c.as_slice-2.ensures.value ∙ c.requires.staying)
    ∙ moved_turns ds r c.args.called.now.all.items i moved none
