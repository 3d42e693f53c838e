-- The answers to the goals of `progress::Progress::before`.
use Rattle.std.proofs.Common.{sym, subst}
use Rattle.base_files.specs.Packages.{package_paths}
use Rattle.types_info.proofs.MeaningLists.{slice_get_some}
use Rattle.workspace_check.specs.Steps.{HoldAllBelow, KnowsExactly}
use Rattle.workspace_check.proofs.Just.{just_seen}
use Rattle.workspace_check.proofs.Underway.{all_below, known_below, not_own}
use Rattle.workspace_check.proofs.progress.Progress.before.Goals as goal

pub below_in-requires : goal.below_in-requires
below_in-requires c = record {
  number = c.requires.in_range;
  closure = c.requires.closure;
  rising = c.requires.rising;
}

pub judged-requires : goal.judged-requires
judged-requires c =
    let w = c.args.graph.now in
    let n = c.args.number in
    let p = slice_get_some (package_paths w) n c.requires.in_range in
    let found = c.in_ok-below.ensures in
    record {
      below = subst (HoldAllBelow w) (sym c.as_slice.ensures) (all_below w n p.0 p.1 c.in_ok-below.below.built_on (found.built_on p.0 p.1) found.rising);
      known = c.requires.known;
    }

pub returns : goal.returns
returns c =
    let w = c.args.graph.now in
    let n = c.args.number in
    let found = c.in_ok-below.ensures in
    let numbers = c.in_ok-below.below.built_on in
    let all = c.in_ok-taken.taken.all in
    let known = subst (λ l. KnowsExactly w l all) c.as_slice.ensures c.in_ok-taken.ensures in
    let own = slice_get_some (package_paths w) n c.requires.in_range in
    record {
      right = record {
        right = known.gathered.right;
        below = λ p at. known_below w n p at numbers (found.built_on p at) all known;
        built_on = found.built_on;
        back = found.back;
      };
      seen = λ p at. just_seen w p numbers all.findings.items all.export_table (found.built_on p at) known.gathered.right.verdicts known.gathered.just;
      unknown = λ g. not_own w n own.0 own.1 numbers (found.built_on own.0 own.1) (known.gathered.just n g);
    }
