-- The answers to the goals of `declare::identifiers_of`.
use Rattle.std.proofs.Common.{sym, arith}
use Rattle.go_scope.proofs.Adding.{adds_none, adds_as, adds_then}
use Rattle.go_scope.proofs.Declared.{files_next, no_files, no_numbers, numbered_next, package_made, package_numbered}
use Rattle.go_scope.proofs.declare.identifiers_of.Goals as goal

pub loop-rank-init : goal.loop-rank-init
loop-rank-init c = record { added = adds_as (adds_none c.add_universe.new.found.items) (sym no_files); numbered = no_numbers }

pub loop-rank-preserved : goal.loop-rank-preserved
loop-rank-preserved c = record {
  added = adds_as (adds_then c.loop-rank.invariant.added c.in_ok-add_file.ensures)
      (files_next c.args.files.now c.loop-rank.rank c.index-files-rank.result _ (omega arith) c.index-files-rank.is c.file.ensures.tree);
  numbered = numbered_next c.args.files.now c.loop-rank.rank c.index-files-rank.result (omega arith) c.index-files-rank.is c.file.ensures.is_file
      c.loop-rank.invariant.numbered;
}

pub returns : goal.returns
returns c = record {
  sites = package_made _ c.loop-rank.found.items c.args.files.now c.loop-rank.rank c.in_ok-found.ensures.items (omega arith)
      (adds_then c.in_ok-add_universe.ensures c.loop-rank.invariant.added);
  numbered = package_numbered c.args.files.now c.loop-rank.rank (omega arith) c.loop-rank.invariant.numbered;
}
