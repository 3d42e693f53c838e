-- The answers to the goals of `export_tables::ExportTable::share_next`.
use Rattle.std.proofs.Common.{◌≡◌, sym, subst, ◌∙◌}
use Rattle.std.specs.Prelude.{Option}
use Rattle.types_expr.specs.declared.exports.ExportData.{ExportData}
use Rattle.types_expr.specs.WorldView.{shared_export_data}
use Rattle.types_declared.specs.ExportTablesView.{ComesAfterAll, EndsAt, SetsKnown}
use Rattle.types_declared.proofs.AddingExports.{none_shared, entry_shared, ends_behind}
use Rattle.types_declared.proofs.export_tables.ExportTable.share_next.Goals as goal

pub returns-in_default-clause-shared : goal.returns-in_default-clause-shared
returns-in_default-clause-shared c = none_shared c.args.others.now c.args.self.now c.args.path.now c.requires c.in_default.ensures

pub returns-in_default-clause-end : goal.returns-in_default-clause-end
returns-in_default-clause-end c = ends_behind c.args.self.now c.args.path.now c.requires

pub push-requires : goal.push-requires
push-requires c = subst (ComesAfterAll c.args.self.now) (sym (c.in_ok-own.ensures.cases ∙ c.in-Some.ensures.has_path)) c.requires

pub returns-clause-shared : goal.returns-clause-shared
returns-clause-shared c =
    let path = c.args.path.now in
    let old = c.args.self.now in
    let new = c.push.new.self in
    let is : c.in_ok-own.own ≡ path = c.in_ok-own.ensures.cases ∙ c.in-Some.ensures.has_path in
    entry_shared c.args.others.now old new path c.in-Some.entry.value.now c.in-Some.ensures.has_value
    (subst (λ q. SetsKnown old new q (shared_export_data c.in-Some.entry.value.now)) is
    (subst (λ (k : Option ExportData). SetsKnown old new c.in_ok-own.own k) c.in_ok-known.ensures c.in_ok-push.ensures.set))

pub returns-clause-end : goal.returns-clause-end
returns-clause-end c =
    subst (EndsAt c.push.new.self) (c.in_ok-own.ensures.cases ∙ c.in-Some.ensures.has_path) c.in_ok-push.ensures.end
