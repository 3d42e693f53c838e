-- The answers to the goals of `gathered::take_known`.
use Rattle.std.proofs.Common.{◌<◌, length, sym, subst}
use Rattle.base_files.specs.Packages.{package_paths}
use Rattle.types_info.proofs.MeaningLists.{slice_get_some}
use Rattle.workspace_check.proofs.Taking.{taken_before, taken_next, taken_still}
use Rattle.workspace_check.proofs.gathered.take_known.Goals as goal

pub returns-in_default : goal.returns-in_default
returns-in_default c = record { right = c.requires.all; others = λ n other g. g; kept = λ n g. g }

pub returns : goal.returns
returns c =
    let w = c.args.graph.now in
    let n = c.args.number in
    let p = slice_get_some (package_paths w) n c.requires.number in
    let told = c.in-Some.verdict.now in
    let old = c.args.all.now in
    let new = c.keep.new.self in
    let kept = c.in_ok-keep.ensures in
    let within : n < length old.findings.items = subst (λ k. n < k) (sym c.requires.all.size) c.requires.number in
    record {
      right = taken_next w n p.0 p.1 old new c.requires.all c.requires.unknown told (c.requires.known n p.0 told p.1 c.in-Some.ensures) kept.findings
          kept.export_table;
      others = λ m other g. taken_before old.findings.items new.findings.items n told.finding kept.findings m other g;
      kept = λ m g. taken_still old.findings.items new.findings.items n told.finding within kept.findings m g;
    }
