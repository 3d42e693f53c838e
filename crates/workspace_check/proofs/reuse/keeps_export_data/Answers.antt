-- The answers to the goals of `reuse::keeps_export_data`.
use Rattle.std.proofs.Common.{◌≡◌, List, ℕ, sym, subst, ◌∙◌}
use Rattle.std.specs.Prelude.{Option}
use Rattle.std.proofs.lemmas.Option.{same_Some}
use Rattle.types_expr.specs.declared.exports.ExportData.{ExportData}
use Rattle.types_check.specs.Known.{IsKnownAlike}
use Rattle.workspace_check.proofs.reuse.keeps_export_data.Goals as goal

pub returns-in-Some : goal.returns-in-Some
returns-in-Some c = λ t p at.
    let path : c.deref.result.now ≡ p = c.deref.ensures.value ∙ same_Some c.package.result.now.path.items p (sym c.package.ensures.path ∙ at) in
    record {
      verdict = c.in-Some.one.now;
      was = c.in-Some.ensures.verdict;
      alike = subst (λ (k : Option ExportData). IsKnownAlike k c.args.all.now p) c.known.ensures
          (subst (λ (q : List ℕ). IsKnownAlike c.known.result.now c.args.all.now q) path (c.are_alike.ensures.export_data t));
    }
