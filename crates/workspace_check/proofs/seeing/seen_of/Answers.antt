-- The answers to the goals of `seeing::seen_of`.
use Rattle.std.proofs.Common.{◌≡◌, ◌+◌, ◌<◌, take, length, get_or, refl, sym, subst, ◌∙◌, arith}
use Rattle.std.proofs.lemmas.List.{take_all}
use Rattle.std.proofs.lemmas.List.Elements.{Contains-get_or}
use Rattle.std.proofs.lemmas.Option.{same_Some, slice_get_within}
use Rattle.base_files.specs.Packages.{package_paths}
use Rattle.types_declared.specs.ExportTablesView.{EndsAt, ComesAfterAll, CopiesEntry}
use Rattle.types_info.proofs.MeaningLists.{slice_get_some}
use Rattle.workspace_check.proofs.Members.{taken_or_next, still_taken, next_taken}
use Rattle.workspace_check.proofs.Rising.{later_path}
use Rattle.workspace_check.proofs.Sharing.{none_shared, shared_next, all_seen, AreShared}
use Rattle.workspace_check.proofs.Underway.{above_taken}
use Rattle.workspace_check.proofs.seeing.seen_of.Goals as goal

pub loop-other-init : goal.loop-other-init
loop-other-init c = record {
  shared = λ p at. none_shared c.args.graph.now p _ c.args.all.now c.in_ok-seen.seen refl c.in_ok-seen.ensures.names c.in_ok-seen.ensures.export_table
      c.in_ok-seen.ensures.states;
  before = λ m q at above. c.in_ok-seen.ensures.behind q;
}

pub package-requires : goal.package-requires
package-requires c =
    let w = c.args.graph.now in
    let items = c.args.below.now in
    let k = c.loop-other.other-index in
    let n = get_or items k 0 in
    let own = Contains-get_or items k 0 (omega arith) in
    let p = slice_get_some (package_paths w) c.args.number c.requires.in_range in
    let s = (c.requires.below p.0 p.1 n).0 own in
    slice_get_within (package_paths w) n s.0 s.1

pub share_next-requires : goal.share_next-requires
share_next-requires c =
    let items = c.args.below.now in
    let k = c.loop-other.other-index in
    let lt : k < length items = omega arith in
    let n = get_or items k 0 in
    let path = c.package.result.now.path.items in
    subst (ComesAfterAll c.loop-other.seen) (sym c.deref.ensures.value)
    (c.loop-other.invariant.before n path c.package.ensures.path (λ m has. above_taken items c.requires.rising k m lt has))

pub loop-other-preserved : goal.loop-other-preserved
loop-other-preserved c =
    let w = c.args.graph.now in
    let all = c.args.all.now in
    let items = c.args.below.now in
    let k = c.loop-other.other-index in
    let lt : k < length items = omega arith in
    let n = get_or items k 0 in
    let old = c.loop-other.seen in
    let new = c.share_next.new.self in
    let own = Contains-get_or items k 0 lt in
    let path = c.package.result.now.path.items in
    let set = subst (CopiesEntry all old new) c.deref.ensures.value c.in_ok-behind.ensures.shared in
    let end = subst (EndsAt new) c.deref.ensures.value c.in_ok-behind.ensures.end in
    record {
      shared = λ p at.
          let s = (c.requires.below p at n).0 own in
          let same : path ≡ s.0 = same_Some path s.0 (sym c.package.ensures.path ∙ s.1) in
          shared_next w p (take k items) (take (k + 1) items) n s.0 s.1 (λ m h. taken_or_next items k 0 m lt h) (λ m h. still_taken items k 0 m lt h)
          (next_taken items k 0 lt) all old new s.2 (subst (CopiesEntry all old new) same set) (c.loop-other.invariant.shared p at);
      before = λ m q at above. end q (later_path w n m path q c.package.ensures.path at (above n (next_taken items k 0 lt)));
    }

pub returns-clause-seen : goal.returns-clause-seen
returns-clause-seen c = λ p at.
    let w = c.args.graph.now in
    let items = c.args.below.now in
    let whole = subst (λ l. AreShared w p l c.args.all.now c.loop-other.seen) (take_all c.loop-other.other-index items (omega arith))
    (c.loop-other.invariant.shared p at) in
    all_seen w p items c.args.all.now c.loop-other.seen
    (c.requires.below p at) c.requires.whole whole

pub returns-clause-states : goal.returns-clause-states
returns-clause-states c =
    let p = slice_get_some (package_paths c.args.graph.now) c.args.number c.requires.in_range in
    (c.loop-other.invariant.shared p.0 p.1).states
