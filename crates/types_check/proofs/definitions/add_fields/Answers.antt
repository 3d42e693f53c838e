-- The answers to the goals of `definitions::add_fields`.
use Rattle.std.proofs.Common.{◌<◌, ◌+◌, length, ap, sym, subst, ◌∙◌, arith}
use Rattle.std.specs.Global.{Vec}
use Rattle.std.proofs.Math.ListN.{length-map}
use Rattle.std.proofs.lemmas.Bool.{false≢true}
use Rattle.types_expr.specs.declared.world.Definition.{Definition}
use Rattle.types_declared.specs.Package.{package_types}
use Rattle.types_declared.specs.Definitions.{package_fields}
use Rattle.types_members.specs.FieldsView.{field_of}
use Rattle.types_check.specs.Building.{HaveMembersBelow}
use Rattle.types_declared.specs.PackageView.{package_of}
use Rattle.types_declared.proofs.Items.{item_at}
use Rattle.types_check.proofs.Building.{field_within, field_skipped, field_added}
use Rattle.types_check.proofs.definitions.add_fields.Goals as goal
use Rattle.types_check.proofs.definitions.add_fields.Goals.{then-counting-rank+in_ok-add_field, else-counting-rank}

pub loop-rank-preserved : goal.loop-rank-preserved
loop-rank-preserved c =
    let p = package_of c.args.of.now.pkg in
    let rank = c.loop-rank.rank in
    let old = c.loop-rank.definitions.items in
    let within : rank < length (package_fields p) = omega (arith, length-map c.args.fields.now field_of, ap length c.requires.fields) in
    let says = c.requires.counting.each rank within in
    elim c.if-counting-rank.branch [
      | then-counting-rank+in_ok-add_field w ↦
          let f = field_of w.index-fields-rank.result in
          let at = item_at field_of c.args.fields.now (package_fields p) rank w.index-fields-rank.result c.requires.fields c.loop-rank-test.true
          w.index-fields-rank.is in
          subst (λ (v : Vec Definition). HaveMembersBelow p (rank + 1) 0 v.items) (sym w.definitions-is)
          (field_added p rank 0 f old w.add_field.new.definitions.items at (says.0 w.if-counting-rank.true) w.in_ok-add_field.ensures c.loop-rank.invariant)
      | else-counting-rank w ↦
          subst (λ (v : Vec Definition). HaveMembersBelow p (rank + 1) 0 v.items) (sym w.definitions-is)
          (field_skipped p rank 0 old (λ counts. false≢true (sym w.if-counting-rank.false ∙ says.1 counts)) c.loop-rank.invariant)
    ]

pub add_field-requires-clause-in_range : goal.add_field-requires-clause-in_range
add_field-requires-clause-in_range c =
    let p = package_of c.args.of.now.pkg in
    let f = field_of c.index-fields-rank.result in
    let at = item_at field_of c.args.fields.now (package_fields p) c.loop-rank.rank c.index-fields-rank.result c.requires.fields c.loop-rank-test.true
    c.index-fields-rank.is in
    let within : f.definition < length (package_types p) = field_within p c.loop-rank.rank f at in
    omega (arith, c.loop-rank.invariant.all)
