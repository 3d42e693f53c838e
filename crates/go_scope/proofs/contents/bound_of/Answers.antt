-- The answers to the goals of `contents::bound_of`.
use Rattle.std.proofs.Common.{ℕ, List, length, subst, sym}
use Rattle.std.proofs.lemmas.Result.{IfOk-weaker}
use Rattle.go_scope.specs.Contents.{AreBound}
use Rattle.go_scope.specs.Numbering.{numerals, AreBelow, Distinguish}
use Rattle.go_scope.specs.Table.{layout_of, names_of}
use Rattle.go_scope.proofs.NameNumbers.{found_by_names}
use Rattle.go_scope.proofs.contents.bound_of.Goals as goal

pub returns : goal.returns
returns c =
    let xs = c.args.identifiers.now in
    let numbers = c.deref.result.now in
    let P : List ℕ → Type 0 = λ ns. Distinguish (layout_of xs) (names_of xs) (length xs) ns in
    IfOk-weaker c.numbered_bindings.result
    (λ bound. AreBound (layout_of xs) (numerals numbers) (length xs) bound.declaring.items bound.bindings.items)
    (λ bound. AreBound (layout_of xs) (names_of xs) (length xs) bound.declaring.items bound.bindings.items)
    (λ bound h. found_by_names xs numbers (length xs) bound.declaring.items bound.bindings.items
    (subst P (sym c.deref.ensures.value) c.in_ok-names.ensures.apart) h)
    c.numbered_bindings.ensures

pub numbered_bindings-requires-clause-numbered : goal.numbered_bindings-requires-clause-numbered
numbered_bindings-requires-clause-numbered c =
    let P : List ℕ → Type 0 = λ ns. AreBelow (length c.args.identifiers.now) ns in
    subst P (sym c.deref.ensures.value) c.in_ok-names.ensures.below
