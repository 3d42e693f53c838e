-- The package at the path decides, if there is one.
use Rattle.std.proofs.Common.{◌≡◌, Contains, Some, sym, ap, subst, ◌∙◌}
use Rattle.std.proofs.lemmas.Bool.{false≢true}
use Rattle.std.proofs.lemmas.Option.{same_Some}
use Rattle.base_files.specs.Packages.{package_paths}
use Rattle.workspace_graph.proofs.ByPath.{at_contains}
use Rattle.build_carry.specs.Changes.{HasSameFiles}
use Rattle.build_carry.proofs.ComparedPackages.{gone_there}
use Rattle.build_carry.proofs.differing.keeps_files.Goals as goal

pub returns-in-None : goal.returns-in-None
returns-in-None c = λ p at. (
  λ t. absurd (false≢true t),
  λ same.
      let path : c.deref.result.now ≡ p = c.deref.ensures.value ∙ same_Some _ _ (sym c.package-own.ensures.path ∙ at) in
      absurd (gone_there c.args.graph.now c.args.other.now p (at_contains c.args.graph.now c.args.number p at)
      (λ has. c.in-None.ensures (subst (λ q. Contains (package_paths c.args.other.now) q) (sym path) has)) same),
)

pub returns-in-Some : goal.returns-in-Some
returns-in-Some c = λ p at.
    let own : c.package-own.result.now.path.items ≡ p = same_Some _ _ (sym c.package-own.ensures.path ∙ at) in
    let there : c.package.result.now.path.items ≡ c.package-own.result.now.path.items = same_Some _ _ (sym c.package.ensures.path ∙ c.in-Some.ensures
    ∙ ap Some c.deref.ensures.value) in
    let both = c.have_same_files.ensures c.args.graph.now c.args.other.now c.args.number c.in-Some.there c.package-own.ensures c.package.ensures there in (
      λ t. subst (HasSameFiles c.args.graph.now c.args.other.now) own (both.0 t),
      λ same. both.1 (subst (HasSameFiles c.args.graph.now c.args.other.now) (sym own) same),
    )
