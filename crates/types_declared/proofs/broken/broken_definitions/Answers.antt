-- The answers to the goals of `broken::broken_definitions`.
use Rattle.std.proofs.Common.{rules, ◌≡◌, ◌++◌, ◌∷◌, [], true, length, sym, subst, ap, ◌∙◌, arith}
use Rattle.types_declared.specs.Package.{package_types}
use Rattle.types_declared.specs.PackageView.{package_of}
use Rattle.types_declared.specs.Reachability.{AreLinksInRange}
use Rattle.types_declared.specs.Broken.{AreMentions}
use Rattle.types_declared.proofs.Breaking.{are_linked, are_broken, definition_count}
use Rattle.types_declared.proofs.broken.broken_definitions.Goals as goal

pub reached-requires-clause-linked : goal.reached-requires-clause-linked
reached-requires-clause-linked c =
    subst AreLinksInRange (sym c.deref.ensures.value) (are_linked (package_of c.args.pkg) c.in_ok-links.links.items c.in_ok-links.ensures)

pub returns : goal.returns
returns c =
    let p = package_of c.args.pkg in
    let items = c.args.index.now.declared.types.items in
    let count : length items ≡ length (package_types p) = definition_count p items c.requires.types in
    let n : c.len.result ≡ length items = omega (arith, c.len.ensures) in
    are_broken p c.deref.result.now c.deref-2.result.now c.in_ok-broken.broken.items c.len.result (omega arith)
    (subst (AreMentions p) (sym c.deref.ensures.value) c.in_ok-links.ensures)
    (c.deref-2.ensures.value ∙ c.in_ok-push.ensures.items ∙ ap (λ bs. bs ++ (true ∷ [])) (c.in_ok-begins.ensures.items_if_clones_equal (search rules)))
    c.in_ok-broken.ensures.size c.in_ok-broken.ensures.reached
