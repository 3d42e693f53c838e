-- The answers to the goals of `qualified::empty_lists`.
use Rattle.std.proofs.Common.{◌≡◌, ◌+◌, ◌∙◌, length, ap, subst, arith}
use Rattle.types_declared.specs.PackageView.{package_of}
use Rattle.types_info.specs.QualifiedIdentifiers.{AreListsBelow}
use Rattle.types_info.proofs.Gathered.{no_lists, next_list}
use Rattle.types_info.proofs.qualified.empty_lists.Goals as goal

pub loop-d-init : goal.loop-d-init
loop-d-init c = (no_lists (package_of c.args.pkg) c.in_ok-lists.lists c.in_ok-lists.ensures.within, c.in_ok-lists.ensures.size, c.in_ok-lists.ensures.listed)

pub add-requires : goal.add-requires
add-requires c = c.loop-d.invariant.0.within

pub loop-d-preserved : goal.loop-d-preserved
loop-d-preserved c =
    let is = c.loop-d.invariant in
    let adds = c.in_ok-add.ensures in (
      next_list (package_of c.args.pkg) c.loop-d.d c.loop-d.lists c.add.new.self c.path.result is.0 is.1 adds c.path.ensures,
      adds.size ∙ ap (λ n. n + 1) is.1,
      λ path at h. is.2 path at (adds.listed path at h),
    )

pub returns : goal.returns
returns c =
    let e : c.loop-d.d ≡ length c.args.pkg.table.now.sites = omega (arith, c.len-d-end.ensures) in
    record {
      lists = subst (λ n. AreListsBelow (package_of c.args.pkg) n c.loop-d.lists) e c.loop-d.invariant.0;
      listed = c.loop-d.invariant.2;
    }
