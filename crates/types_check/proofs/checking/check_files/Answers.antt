-- The answers to the goals of `checking::check_files`.
use Rattle.std.proofs.Common.{refl, sym, subst}
use Rattle.std.specs.Prelude.{map}
use Rattle.std.specs.Global.{Vec}
use Rattle.std.specs.List.Sorted.{IsStrictlySortedBy}
use Rattle.std.proofs.lemmas.Result.{IfOk-weaker}
use Rattle.types_declared.specs.declared.fault.Fault.{Fault}
use Rattle.types_declared.specs.contracts.fault.FaultOrd.TheImpl as order
use Rattle.types_declared.specs.Listing.{HoldsExactly}
use Rattle.go_ast.specs.SourceFile.{source_of}
use Rattle.types_resolve.specs.Stages.{IsOuterFault}
use Rattle.types_declared.specs.States.{state_in}
use Rattle.types_declared.specs.Package.{Package}
use Rattle.types_declared.specs.ExportTablesView.{name_in, export_data_in}
use Rattle.types_info.specs.PackageOf.{package_in, IsPackageOf}
use Rattle.types_check.specs.Check.{IsFindingBy, IsFindingOfPackage, IsLaterFault, IsFindingIn}
use Rattle.types_check.proofs.WholeCheck.{outer_ends, outer_goes_on, found_outside, found_inside}
use Rattle.types_check.proofs.checking.check_files.Goals as goal

pub returns-then-not-is_empty : goal.returns-then-not-is_empty
returns-then-not-is_empty c =
    let i = c.args.export_table.now in
    let path = c.args.path.now in
    let files = c.args.files.now in
    let listed : HoldsExactly (IsOuterFault (state_in i.states) (map source_of files)) c.in_ok-faults.faults.items =
    subst (λ s. HoldsExactly (IsOuterFault (state_in s) (map source_of files)) c.in_ok-faults.faults.items) c.states.ensures c.in_ok-faults.ensures.listed in
    record {
      order = subst (λ (v : Vec Fault). IsStrictlySortedBy order.ghosts.cmp v.items) (sym c.faulty.ensures.faults) c.in_ok-faults.ensures.order;
      found = found_outside path files (state_in i.states) (name_in i) (export_data_in i) c.faulty.result c.in_ok-faults.faults c.is_empty.result
          c.faulty.ensures.faults c.faulty.ensures.export_data c.is_empty.ensures
          c.if-not-is_empty.true listed;
      checked = λ p h. outer_ends (state_in i.states) path files (name_in i) (export_data_in i) p h c.faulty.result c.in_ok-faults.faults c.is_empty.result
          c.faulty.ensures.faults c.faulty.ensures.export_data c.is_empty.ensures
          c.if-not-is_empty.true listed c.in_ok-faults.ensures.order;
    }

pub returns : goal.returns
returns c =
    let i = c.args.export_table.now in
    let path = c.args.path.now in
    let files = c.args.files.now in
    let listed : HoldsExactly (IsOuterFault (state_in i.states) (map source_of files)) c.in_ok-faults.faults.items =
    subst (λ s. HoldsExactly (IsOuterFault (state_in s) (map source_of files)) c.in_ok-faults.faults.items) c.states.ensures c.in_ok-faults.ensures.listed in
    let own = package_in path (map source_of files) c.in_ok-table.table (export_data_in i) in
    let laid : IsPackageOf path files (name_in i) (export_data_in i) own = record {
      laid = c.in_ok-table.table;
      is_laid = c.in_ok-table.ensures;
      is_package = refl;
    } in
    record {
      order = IfOk-weaker c.check_laid.result (λ x. IsFindingBy (IsLaterFault own) own x) (λ x. IsStrictlySortedBy order.ghosts.cmp x.faults.items)
          (λ x checked. checked.order) c.check_laid.ensures;
      found = IfOk-weaker c.check_laid.result (λ x. IsFindingBy (IsLaterFault own) own x)
          (IsFindingIn path files (state_in i.states) (name_in i) (export_data_in i))
          (λ x checked. found_inside path files (state_in i.states) (name_in i) (export_data_in i) own laid c.in_ok-faults.faults c.is_empty.result
          c.is_empty.ensures c.if-not-is_empty.false listed x
          checked) c.check_laid.ensures;
      checked = IfOk-weaker c.check_laid.result (λ x. IsFindingBy (IsLaterFault own) own x)
          (λ x. (p : Package) → IsPackageOf path files (name_in i) (export_data_in i) p → IsFindingOfPackage (state_in i.states) p x)
          (λ x checked p h. outer_goes_on (state_in i.states) path files (name_in i) (export_data_in i) p own h laid c.in_ok-faults.faults c.is_empty.result
          c.is_empty.ensures c.if-not-is_empty.false
          listed x checked) c.check_laid.ensures;
    }
