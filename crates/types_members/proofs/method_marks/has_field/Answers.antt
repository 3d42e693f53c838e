-- The answers to the goals of `method_marks::has_field`.
use Rattle.std.proofs.Common.{◌<◌, length, sym, ap, ◌∙◌, arith}
use Rattle.std.specs.Prelude.{None, option_map}
use Rattle.std.proofs.lemmas.Bool.{false≢true}
use Rattle.std.proofs.lemmas.List.{get_or_read}
use Rattle.types_expr.specs.WorldView.{underlying_of}
use Rattle.types_declared.specs.PackageView.{package_of}
use Rattle.types_members.proofs.FieldsHad.{field_named_by, no_field_named}
use Rattle.types_members.proofs.method_marks.has_field.Goals as goal

pub returns-in-None : goal.returns-in-None
returns-in-None c =
    let d = c.args.definition in
    let own = c.args.underlying.now in
    let short : d < length own = omega (arith, c.requires.underlying.all, c.requires.in_range) in
    let e = ap (option_map underlying_of) (sym (get_or_read own d c.index-underlying-definition.result short c.index-underlying-definition.is None) ∙
    c.in-None.is) in (
      (λ t. absurd (false≢true t)),
      (λ f. absurd (no_field_named (package_of c.args.pkg) d _ c.args.name.now
          (c.requires.underlying.each d c.requires.in_range) e f)),
    )

pub returns-in-Some : goal.returns-in-Some
returns-in-Some c =
    let d = c.args.definition in
    let own = c.args.underlying.now in
    let short : d < length own = omega (arith, c.requires.underlying.all, c.requires.in_range) in
    let e = ap (option_map underlying_of) (sym (get_or_read own d c.index-underlying-definition.result short c.index-underlying-definition.is None) ∙
    c.in-Some.is) in
    field_named_by (package_of c.args.pkg) c.is_well_formed.ensures d _ (underlying_of c.in-Some.own) c.args.name.now c.underlying_has.result
    (c.requires.underlying.each d c.requires.in_range) e c.underlying_has.ensures
