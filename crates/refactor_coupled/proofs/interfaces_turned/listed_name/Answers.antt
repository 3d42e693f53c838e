-- The answers to the goals of `interfaces_turned::listed_name`.
use Rattle.std.proofs.Common.{◌≡◌, ◌∙◌, ap, rules, sym}
use Rattle.std.specs.Prelude.{Some, None, option_map, slice_get}
use Rattle.std.proofs.lemmas.Option.{slice_get-map}
use Rattle.go_ast.specs.FileView.{type_spec_view}
use Rattle.types_declared.specs.DeclaredView.{type_of}
use Rattle.types_declared.specs.Package.{type_place}
use Rattle.refactor_coupled.proofs.interfaces_turned.listed_name.Goals as goal

pub returns-in-None : goal.returns-in-None
returns-in-None c =
    let none : slice_get c.args.types.now c.args.rank ≡ None = search rules in
    sym (ap (option_map type_place) (slice_get-map type_of c.args.types.now c.args.rank ∙ ap (option_map type_of) none))

pub returns-in-Some : goal.returns-in-Some
unfolding type_spec_view
returns-in-Some c =
    let is : slice_get c.args.types.now c.args.rank ≡ Some c.in-Some.definition.now = search rules in
    sym (ap (option_map type_place) (slice_get-map type_of c.args.types.now c.args.rank ∙ ap (option_map type_of) is))
