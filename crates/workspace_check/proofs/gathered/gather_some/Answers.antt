-- The answers to the goals of `gathered::gather_some`.
use Rattle.std.proofs.Common.{◌≡◌, ◌+◌, ◌<◌, inl, inr, take, length, get_or, sym, subst, arith}
use Rattle.std.specs.Prelude.{Contains}
use Rattle.std.proofs.lemmas.Bool.{cases_eq}
use Rattle.std.proofs.lemmas.List.{take_all}
use Rattle.std.proofs.lemmas.List.Elements.{Contains-get_or}
use Rattle.base_lemmas.proofs.Elements.{nothing_in}
use Rattle.base_files.specs.Packages.{package_paths}
use Rattle.types_info.proofs.MeaningLists.{slice_get_some}
use Rattle.workspace_check.specs.Steps.{AreTakenOf, IsGathered}
use Rattle.workspace_check.proofs.Members.{next_taken, still_taken, taken_or_next}
use Rattle.workspace_check.proofs.Rising.{later_path}
use Rattle.workspace_check.proofs.Taking.{none_gathered}
use Rattle.workspace_check.proofs.Underway.{above_taken}
use Rattle.workspace_check.proofs.gathered.gather_some.Goals as goal

pub loop-number-init : goal.loop-number-init
loop-number-init c =
    let none = c.in_ok-all.ensures.none in
    let size : length c.in_ok-all.all.findings.items ≡ length (package_paths c.args.graph.now) = omega (arith, c.in_ok-all.ensures.size) in
    record {
      right = record {
        gathered = record {
          right = none_gathered c.args.graph.now _ c.in_ok-all.all size none c.in_ok-all.ensures.names c.in_ok-all.ensures.export_table;
          just = λ n g. absurd (none n g);
        };
        each = λ knew n has. absurd (nothing_in n has);
      };
      before = λ m q at above. c.in_ok-all.ensures.behind q;
    }

pub take_next-requires : goal.take_next-requires
take_next-requires c =
    let numbers = c.args.numbers.now in
    let k = c.loop-number.number-index in
    let lt : k < length numbers = omega arith in
    let n = get_or numbers k 0 in
    let taken = c.loop-number.invariant.right.gathered in
    record {
      number = c.requires.numbers.in_range n (Contains-get_or numbers k 0 lt);
      known = c.requires.known;
      all = taken.right;
      unknown = λ g. (
          let less : n < n = above_taken numbers c.requires.numbers.rising k n lt (taken.just n g) in
          omega (arith, less));
      behind = λ p at. c.loop-number.invariant.before n p at (λ m has. above_taken numbers c.requires.numbers.rising k m lt has);
    }

pub loop-number-preserved : goal.loop-number-preserved
loop-number-preserved c =
    let numbers = c.args.numbers.now in
    let k = c.loop-number.number-index in
    let lt : k < length numbers = omega arith in
    let n = get_or numbers k 0 in
    let w = c.args.graph.now in
    let p = slice_get_some (package_paths w) n (c.requires.numbers.in_range n (Contains-get_or numbers k 0 lt)) in
    let was = c.loop-number.invariant.right in
    let now = c.in_ok-take_next.ensures in
    record {
      right = record {
        gathered = record {
          right = now.right;
          just = λ m g. elim (cases_eq m n) [
            | inl e ↦ subst (Contains (take (k + 1) numbers)) (sym e) (next_taken numbers k 0 lt)
            | inr ne ↦ still_taken numbers k 0 m lt (was.gathered.just m (now.others m ne g))
          ];
        };
        each = λ knew m has. elim (taken_or_next numbers k 0 m lt has) [
          | inl before ↦ now.each.kept m (was.each (now.each.before knew) m before)
          | inr e ↦ subst (IsGathered c.take_next.new.taken.all.findings.items) e (now.each.here knew)
        ];
      };
      before = λ m q at above. now.end p.0 p.1 q (later_path w n m p.0 q p.1 at (above n (next_taken numbers k 0 lt)));
    }

pub returns : goal.returns
returns c =
    let numbers = c.args.numbers.now in
    subst (λ l. AreTakenOf c.args.graph.now l c.loop-number.taken) (take_all c.loop-number.number-index numbers (omega arith)) c.loop-number.invariant.right
