-- The answers to the goals of `known_text::known_text`.
use Rattle.std.proofs.Common.{◌≡◌, [], sym, subst, ◌∙◌}
use Rattle.std.specs.Prelude.{Option, option_copied}
use Rattle.std.proofs.lemmas.Option.{none-some}
use Rattle.types_expr.specs.declared.exports.ExportData.{ExportData}
use Rattle.types_declared.specs.declared.export_tables.ExportTable.{ExportTable}
use Rattle.workspace_check.specs.declared.finding.Finding.{Finding}
use Rattle.workspace_check.proofs.Gathering.{known_right}
use Rattle.workspace_check.proofs.Members.{vec_empty}
use Rattle.build_unit.specs.Compiling.{IsFaultlessBySeen}
use Rattle.build_unit.proofs.Faultless.{seen_faultless}
use Rattle.build_unit.proofs.known_text.known_text.Goals as goal

pub returns-then-not-is_empty : goal.returns-then-not-is_empty
returns-then-not-is_empty c = λ text is. absurd (none-some text is)

pub object_of-requires-clause-found : goal.object_of-requires-clause-found
object_of-requires-clause-found c =
    let w = c.args.at.graph.now in
    let p = c.args.path.now in
    let one = c.args.verdict.now in
    let all = c.args.progress.now.all in
    let f = c.finding-finding.result.now in
    let right = c.requires.right in
    let below = known_right w p all right.right (right.below p c.requires.at.has_path) in
    let empty = subst (λ (g : Finding). g.faults.items ≡ []) c.finding-finding.ensures
    (vec_empty f.faults c.is_empty.result c.is_empty.ensures c.if-not-is_empty.false) in
    let base : IsFaultlessBySeen w all.export_table one.known p one.finding =
    seen_faultless w p all.export_table one.known one.finding below c.requires.told c.requires.verdict.right c.requires.verdict.finding empty in
    let listed : IsFaultlessBySeen w all.export_table one.known p f =
    subst (IsFaultlessBySeen w all.export_table one.known p) (sym c.finding-finding.ensures) base in
    let own = option_copied c.get-own.result in
    let told : IsFaultlessBySeen w all.export_table own p f =
    subst (λ (k : Option ExportData). IsFaultlessBySeen w all.export_table k p f) (sym (c.get-own.ensures ∙ c.known.ensures)) listed in
    subst (λ (i : ExportTable). IsFaultlessBySeen w i own p f) (sym c.export_table-seen.ensures) told
