-- The answers to the goals of `definitions::add_methods`.
use Rattle.std.proofs.Common.{ℕ, ◌<◌, ◌+◌, length, ap, sym, subst, ◌∙◌, arith}
use Rattle.std.specs.Prelude.{None, slice_index_or}
use Rattle.std.specs.Global.{Vec}
use Rattle.std.proofs.Math.ListN.{length-map}
use Rattle.std.proofs.lemmas.Bool.{false≢true}
use Rattle.types_expr.specs.declared.world.Definition.{Definition}
use Rattle.types_declared.specs.Package.{package_types, package_functions}
use Rattle.types_declared.specs.Definitions.{package_fields}
use Rattle.types_declared.specs.DeclaredView.{function_of}
use Rattle.types_members.specs.MembersView.{IsMethodOn}
use Rattle.types_check.specs.Building.{HaveMembersBelow}
use Rattle.types_declared.specs.PackageView.{package_of}
use Rattle.types_declared.proofs.Items.{item_at}
use Rattle.types_members.proofs.Owning.{HasOwner}
use Rattle.types_members.proofs.MethodNames.{owner_within}
use Rattle.types_check.proofs.Building.{method_changed, method_skipped, method_added, no_owner}
use Rattle.types_check.proofs.definitions.add_methods.Goals as goal
use Rattle.types_check.proofs.definitions.add_methods.Goals.{then-counting-rank+in-Some+in_ok-set_method, then-counting-rank+in_default, else-counting-rank}

pub loop-rank-preserved : goal.loop-rank-preserved
loop-rank-preserved c =
    let p = package_of c.args.of.now.pkg in
    let fields : ℕ = length (package_fields p) in
    let items = c.args.of.now.index.now.declared.functions.items in
    let rank = c.loop-rank.rank in
    let owners = c.args.owners.now in
    let old = c.loop-rank.definitions.items in
    let here : rank < length items = omega (arith, c.loop-rank-test.true, c.len-rank-end.ensures) in
    let within : rank < length (package_functions p) = omega (arith, length-map items function_of, ap length c.requires.index.functions) in
    let says = c.requires.counting.each rank within in
    let has : HasOwner p rank (slice_index_or owners rank None) = c.requires.owners.each rank within in
    elim c.if-counting-rank.branch [
      | then-counting-rank+in-Some+in_ok-set_method w ↦
          let d = w.in-Some.owner in
          let f = function_of w.index.result.now in
          let at = item_at function_of items (package_functions p) rank w.index.result.now c.requires.index.functions here w.index.ensures in
          let on : IsMethodOn p rank d = subst (HasOwner p rank) w.in-Some.is has in
          let known : d < length (package_types p) = owner_within p rank d on in
          let there : d < length old = omega (arith, c.loop-rank.invariant.all) in
          subst (λ (v : Vec Definition). HaveMembersBelow p fields (rank + 1) v.items) (sym w.definitions-is)
          (method_added p c.is_well_formed.ensures fields rank d f old _ at (says.0 w.if-counting-rank.true) on
          (method_changed p rank f old d w.index_mut.result.now w.set_method.new.definition there w.index_mut.ensures.value w.in_ok-set_method.ensures)
          c.loop-rank.invariant)
      | then-counting-rank+in_default w ↦
          subst (λ (v : Vec Definition). HaveMembersBelow p fields (rank + 1) v.items) (sym w.definitions-is)
          (method_skipped p fields rank old (no_owner p rank (slice_index_or owners rank None) has w.in_default.not-Some) c.loop-rank.invariant)
      | else-counting-rank w ↦
          subst (λ (v : Vec Definition). HaveMembersBelow p fields (rank + 1) v.items) (sym w.definitions-is)
          (method_skipped p fields rank old (λ counts. false≢true (sym w.if-counting-rank.false ∙ says.1 counts)) c.loop-rank.invariant)
    ]
