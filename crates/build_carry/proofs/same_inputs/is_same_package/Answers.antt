-- The paths decide, and then the files.
use Rattle.std.proofs.Common.{◌≡◌, ◌==◌, Bool, true, false, not, refl, sym, ap, subst, ◌∙◌}
use Rattle.std.specs.Cmp.Lexicographic.{pointwise, bytes_decides}
use Rattle.std.proofs.lemmas.Bool.{true≢false}
use Rattle.std.proofs.lemmas.Option.{same_Some}
use Rattle.build_carry.specs.Changes.{HasSameFiles}
use Rattle.build_carry.proofs.same_inputs.is_same_package.Goals as goal

un_not : (b : Bool) → not b ≡ false → b ≡ true
un_not true e = refl
un_not false e = absurd (true≢false e)

-- the paths differ
pub returns-then-ne : goal.returns-then-ne
returns-then-ne c = λ p at q there.
    let own : c.package-own.result.now.path.items ≡ p = same_Some _ _ (sym c.package-own.ensures.path ∙ at) in
    let other : c.package-there.result.now.path.items ≡ q = same_Some _ _ (sym c.package-there.ensures.path ∙ there) in
    let a = c.as_slice.result.now in
    let b = c.as_slice-2.result.now in (
      λ t. absurd (true≢false (sym t)),
      λ same.
          let is : a ≡ b = c.as_slice.ensures.value ∙ own ∙ sym same.0 ∙ sym other ∙ sym c.as_slice-2.ensures.value in
          absurd (true≢false (sym c.if-ne.true ∙ c.ne.ensures ∙ ap not ((bytes_decides a b).1 is))),
    )

pub returns : goal.returns
returns c = λ p at q there.
    let v = c.args.graph.now in
    let w = c.args.other.now in
    let a = c.package-own.result.now in
    let b = c.package-there.result.now in
    let own : a.path.items ≡ p = same_Some a.path.items p (sym c.package-own.ensures.path ∙ at) in
    let other : b.path.items ≡ q = same_Some b.path.items q (sym c.package-there.ensures.path ∙ there) in
    let same_path = (bytes_decides c.as_slice.result.now c.as_slice-2.result.now).0
    (un_not (pointwise ◌==◌ c.as_slice.result.now c.as_slice-2.result.now) (sym c.ne.ensures ∙ c.if-ne.false)) in
    let paths : b.path.items ≡ a.path.items = sym c.as_slice-2.ensures.value ∙ sym same_path ∙ c.as_slice.ensures.value in
    let path : q ≡ p = sym other ∙ paths ∙ own in
    let both = c.have_same_files.ensures v w c.args.number c.args.place c.package-own.ensures c.package-there.ensures paths in (
      λ t. (path, subst (HasSameFiles v w) own (both.0 t)),
      λ same. both.1 (subst (HasSameFiles v w) (sym own) same.1),
    )
