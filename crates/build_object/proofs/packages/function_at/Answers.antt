-- The answers to the goals of `packages::function_at`.
use Rattle.std.proofs.Common.{◌≡◌, ◌<◌, ◌≤◌, inl, inr, map, ap, sym, ◌∙◌, arith, length, Some}
use Rattle.std.specs.Prelude.{slice_get}
use Rattle.std.proofs.lemmas.Bool.{true≢false, cases_lt}
use Rattle.std.proofs.lemmas.List.{length-take-le}
use Rattle.std.proofs.lemmas.Option.{slice_get-get_or, slice_get_past, slice_get_within}
use Rattle.go_ast.specs.SourceFile.{source_of}
use Rattle.build_object.specs.LineView.{function_of}
use Rattle.build_object.proofs.NameParts.{nothing_at, initializer_at, called_at}
use Rattle.build_object.proofs.packages.function_at.Goals as goal

pub slice_bounds-initializers-end : goal.slice_bounds-initializers-end
slice_bounds-initializers-end c =
    let functions = c.args.functions.now in
    let found : slice_get functions c.args.rank ≡ Some c.in-Some.function.now =
    slice_get-get_or functions c.args.rank c.in-Some.function.now c.in-Some.ensures.lookup.3.0 ∙ ap Some (sym c.in-Some.ensures.lookup.1) in
    let within : c.args.rank < length functions = slice_get_within functions c.args.rank c.in-Some.function.now found in
    let within_or_at : c.args.rank ≤ length functions = omega arith in
    sym (length-take-le c.args.rank functions within_or_at)

pub returns-in-None : goal.returns-in-None
returns-in-None c =
    let functions = c.args.functions.now in
    let past : length functions ≤ c.args.rank = elim (cases_lt c.args.rank (length functions)) [
      | inl lt ↦ absurd (true≢false (sym (c.in-None.ensures.lookup.2 lt)))
      | inr ge ↦ ge
    ] in
    nothing_at c.args.path.now (map source_of c.args.files.now) functions c.args.rank (slice_get_past functions c.args.rank past)

pub returns-then-is_initializer : goal.returns-then-is_initializer
unfolding function_of
returns-then-is_initializer c =
    let functions = c.args.functions.now in
    let found : slice_get functions c.args.rank ≡ Some c.in-Some.function.now =
    slice_get-get_or functions c.args.rank c.in-Some.function.now c.in-Some.ensures.lookup.3.0 ∙ ap Some (sym c.in-Some.ensures.lookup.1) in
    initializer_at c.args.path.now (map source_of c.args.files.now) functions c.args.rank c.in-Some.function.now found c.initializers-number.result
    (sym c.is_initializer.ensures ∙ c.if-is_initializer.true) c.initializers-number.ensures

pub returns-else-is_initializer : goal.returns-else-is_initializer
returns-else-is_initializer c =
    let functions = c.args.functions.now in
    let found : slice_get functions c.args.rank ≡ Some c.in-Some.function.now =
    slice_get-get_or functions c.args.rank c.in-Some.function.now c.in-Some.ensures.lookup.3.0 ∙ ap Some (sym c.in-Some.ensures.lookup.1) in
    ap Some c.function_called.ensures
    ∙ called_at c.args.path.now (map source_of c.args.files.now) functions c.args.rank c.in-Some.function.now found
    (sym c.is_initializer.ensures ∙ c.if-is_initializer.false)
