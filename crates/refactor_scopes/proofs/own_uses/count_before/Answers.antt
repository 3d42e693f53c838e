-- The answers to the goals of `own_uses::count_before`.
use Rattle.std.proofs.Common.{◌≡◌, ◌+◌, ◌-◌, ◌/◌, ◌<◌, length, get_or, ap, sym, subst, ◌∙◌, arith}
use Rattle.std.proofs.lemmas.Bool.{false≢true}
use Rattle.go_scope.specs.Packages.{ScopedPackage, layout_in, names_in}
use Rattle.go_scope.specs.WellFormed.{InPlaceOrder, IsNotAfter}
use Rattle.go_scope.specs.declared.model.Position.{Position}
use Rattle.refactor_scopes.specs.Conflicts.{IsUseInScopes}
use Rattle.refactor_scopes.proofs.Listing.{at_place, read_at}
use Rattle.refactor_scopes.proofs.Taken.{behind_middle, before_middle}
use Rattle.refactor_scopes.proofs.own_uses.count_before.Goals as goal

pub loop-low-preserved-then-is_not_after : goal.loop-low-preserved-then-is_not_after
loop-low-preserved-then-is_not_after c =
    let table = c.args.rename.now.table.now in
    let l = layout_in table in
    let size = length table.sites in
    let uses = c.args.rename.now.uses.items in
    let m = c.loop-low.low + (c.loop-low.high - c.loop-low.low) / 2 in
    let P : ScopedPackage → Type 0 = λ v. InPlaceOrder (layout_in v) (length v.sites) in
    let placed = subst P c.identifiers.ensures c.are_laid_out.ensures.placed in
    let test = c.loop-low-test.true in
    let high = c.loop-low.invariant.within in
    let there : m < length uses = omega arith in
    let Q : Position → Type 0 = λ v. IsNotAfter c.args.start v in
    let placed_at : c.place.result ≡ l.place c.index.result.now = c.place.ensures in
    let place_is : l.place c.index.result.now ≡ l.place (get_or uses m 0) = ap l.place (read_at uses m c.index.result.now there c.index.ensures) in
    record {
      order = omega arith;
      within = omega arith;
      before = c.loop-low.invariant.before;
      behind = behind_middle l size placed uses (λ i lt. (at_place (IsUseInScopes l (names_in table) c.args.rename.now.declaration) size uses
          c.requires.uses i lt).0)
          c.requires.uses.ascending c.args.start m there (subst Q (placed_at ∙ place_is) (c.is_not_after.ensures.0 c.if-is_not_after.true));
    }

pub loop-low-preserved : goal.loop-low-preserved
loop-low-preserved c =
    let table = c.args.rename.now.table.now in
    let l = layout_in table in
    let size = length table.sites in
    let uses = c.args.rename.now.uses.items in
    let m = c.loop-low.low + (c.loop-low.high - c.loop-low.low) / 2 in
    let P : ScopedPackage → Type 0 = λ v. InPlaceOrder (layout_in v) (length v.sites) in
    let placed = subst P c.identifiers.ensures c.are_laid_out.ensures.placed in
    let test = c.loop-low-test.true in
    let high = c.loop-low.invariant.within in
    let there : m < length uses = omega arith in
    let Q : Position → Type 0 = λ v. IsNotAfter c.args.start v in
    let placed_at : c.place.result ≡ l.place c.index.result.now = c.place.ensures in
    let place_is : l.place c.index.result.now ≡ l.place (get_or uses m 0) = ap l.place (read_at uses m c.index.result.now there c.index.ensures) in
    record {
      order = omega arith;
      within = c.loop-low.invariant.within;
      before = before_middle l size placed uses (λ i lt. (at_place (IsUseInScopes l (names_in table) c.args.rename.now.declaration) size uses
          c.requires.uses i lt).0)
          c.requires.uses.ascending c.args.start m there
          (λ not. false≢true (sym c.if-is_not_after.false ∙ c.is_not_after.ensures.1 (subst Q (sym (placed_at ∙ place_is)) not)));
      behind = c.loop-low.invariant.behind;
    }
