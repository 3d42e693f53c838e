-- The answers to the goals of `gathered::take_next`.
use Rattle.std.proofs.Common.{◌<◌, length, sym, subst}
use Rattle.std.proofs.lemmas.Bool.{false≢true}
use Rattle.base_files.specs.Packages.{package_paths}
use Rattle.types_declared.specs.ExportTablesView.{EndsAt, ComesAfterAll}
use Rattle.types_declared.proofs.AddingExports.{ends_behind}
use Rattle.types_info.proofs.MeaningLists.{slice_get_some}
use Rattle.workspace_check.proofs.Taking.{taken_before, taken_here, taken_next, taken_still}
use Rattle.workspace_check.proofs.gathered.take_next.Goals as goal

pub returns-in_default : goal.returns-in_default
returns-in_default c = record {
  right = c.requires.all;
  others = λ n other g. g;
  each = record { kept = λ n g. g; before = λ each. absurd (false≢true each); here = λ each. absurd (false≢true each) };
  end = λ p at. ends_behind c.args.taken.now.all.export_table p (c.requires.behind p at);
}

pub keep_next-requires : goal.keep_next-requires
keep_next-requires c =
    let p = slice_get_some (package_paths c.args.graph.now) c.args.number c.requires.number in
    let tells = c.requires.known c.args.number p.0 c.in-Some.verdict.now p.1 c.in-Some.ensures in
    record {
      number = subst (λ k. c.args.number < k) (sym c.requires.all.size) c.requires.number;
      behind = subst (ComesAfterAll c.args.taken.now.all.export_table) (sym tells.finding.finding.has_path) (c.requires.behind p.0 p.1);
    }

pub returns : goal.returns
returns c =
    let w = c.args.graph.now in
    let n = c.args.number in
    let p = slice_get_some (package_paths w) n c.requires.number in
    let told = c.in-Some.verdict.now in
    let old = c.args.taken.now.all in
    let new = c.keep_next.new.self in
    let kept = c.in_ok-keep_next.ensures in
    let within : n < length old.findings.items = subst (λ k. n < k) (sym c.requires.all.size) c.requires.number in
    record {
      right = taken_next w n p.0 p.1 old new c.requires.all c.requires.unknown told (c.requires.known n p.0 told p.1 c.in-Some.ensures) kept.findings
          kept.export_table;
      others = λ m other g. taken_before old.findings.items new.findings.items n told.finding kept.findings m other g;
      each = record {
        kept = λ m g. taken_still old.findings.items new.findings.items n told.finding within kept.findings m g;
        before = λ each. each;
        here = λ each. taken_here old.findings.items new.findings.items n told.finding within kept.findings;
      };
      end = λ q at. subst (EndsAt new.export_table) (c.requires.known n q told at c.in-Some.ensures).finding.finding.has_path kept.end;
    }
