-- The answers to the goals of `method_marks::method_marks`.
use Rattle.std.proofs.Common.{◌≡◌, ◌<◌, length, arith, sym, ap, ◌∙◌}
use Rattle.std.specs.Prelude.{None, slice_index_or}
use Rattle.std.proofs.Math.ListN.{length-map}
use Rattle.types_declared.specs.Package.{package_functions}
use Rattle.types_declared.specs.DeclaredView.{function_of}
use Rattle.types_members.specs.MemberNames.{is_noted}
use Rattle.types_members.specs.MembersView.{CountsAsMethod}
use Rattle.types_declared.specs.PackageView.{package_of}
use Rattle.types_declared.proofs.Items.{item_at}
use Rattle.types_members.proofs.Marking.{marks_none, marks_next}
use Rattle.types_members.proofs.Noting.{names_none}
use Rattle.types_members.proofs.MethodNames.{IsMethodNamed, owner_in_range, names_after, counts_here, are_counting_methods}
use Rattle.types_members.proofs.method_marks.method_marks.Goals as goal

pub note_function-requires-clause-owner : goal.note_function-requires-clause-owner
note_function-requires-clause-owner c =
    let p = package_of c.args.pkg in
    let items = c.args.index.now.declared.functions.items in
    let rank = c.loop-rank.rank in
    let here : rank < length items = omega (arith, c.loop-rank-test.true, c.len-rank-end.ensures) in
    let within : rank < length (package_functions p) = omega (arith, length-map items function_of, ap length c.requires.index.functions) in
    owner_in_range p rank (slice_index_or c.args.owners.now rank None) (c.requires.owners.each rank within)

pub loop-rank-init : goal.loop-rank-init
loop-rank-init c =
    let p = package_of c.args.pkg in
    record {
      names = names_none (IsMethodNamed p) (is_noted c.new-names.result) c.new-names.ensures;
      marks =
          marks_none (CountsAsMethod p) c.new-marks.result.items c.new-marks.ensures.items;
    }

pub loop-rank-preserved : goal.loop-rank-preserved
loop-rank-preserved c =
    let p = package_of c.args.pkg in
    let items = c.args.index.now.declared.functions.items in
    let rank = c.loop-rank.rank in
    let f = function_of c.index-function.result.now in
    let o = slice_index_or c.args.owners.now rank None in
    let here : rank < length items = omega (arith, c.loop-rank-test.true, c.len-rank-end.ensures) in
    let at = item_at function_of items (package_functions p) rank c.index-function.result.now c.requires.index.functions here c.index-function.ensures in
    let within : rank < length (package_functions p) = omega (arith, length-map items function_of, ap length c.requires.index.functions) in
    let has = c.requires.owners.each rank within in
    let old = is_noted c.loop-rank.names in
    let new = is_noted c.note_function.new.names in
    record {
      names = names_after p c.is_well_formed.ensures rank f o old new c.in_ok-counts.counts at has c.in_ok-counts.ensures c.loop-rank.invariant.names;
      marks = marks_next (CountsAsMethod p) c.loop-rank.marks.items c.push.new.self.items rank c.in_ok-counts.counts c.in_ok-push.ensures.items
          (counts_here p c.is_well_formed.ensures rank f o old new c.in_ok-counts.counts at has c.in_ok-counts.ensures c.loop-rank.invariant.names)
          c.loop-rank.invariant.marks;
    }

pub returns : goal.returns
returns c =
    let items = c.args.index.now.declared.functions.items in
    let end : c.loop-rank.rank ≡ length items = omega (arith, c.len-rank-end.ensures) in
    are_counting_methods (package_of c.args.pkg) c.loop-rank.marks.items c.loop-rank.rank
    (end ∙ sym (length-map items function_of) ∙ ap length c.requires.index.functions) c.loop-rank.invariant.marks
