-- The package is one of both workspaces, or it is the last one listed.
use Rattle.std.proofs.Common.{◌≡◌, [], ◌∷◌, ◌++◌, ◌+◌, get_or, ap, sym, subst, ◌∙◌}
use Rattle.std.specs.Prelude.{Some, Contains, slice_get}
use Rattle.std.proofs.lemmas.Bool.{false≢true}
use Rattle.std.proofs.lemmas.Option.{same_Some, slice_get-get_or}
use Rattle.base_files.specs.Packages.{package_paths}
use Rattle.workspace_graph.specs.Borrows.{names}
use Rattle.build_carry.specs.Changes.{ListsComing}
use Rattle.build_carry.proofs.ChangedFolders.{names_push}
use Rattle.build_carry.proofs.ComparedPackages.{listed_old, listed_new}
use Rattle.build_carry.proofs.differing.add_coming.Goals as goal

pub returns-then-has_package : goal.returns-then-has_package
returns-then-has_package c =
    let v = c.args.before.now in
    let w = c.args.after.now in
    let n = c.args.number in
    let p = get_or (package_paths w) n [] in
    let at : slice_get (package_paths w) n ≡ Some p = slice_get-get_or (package_paths w) n [] c.requires.number in
    let path : c.deref.result.now ≡ p = c.deref.ensures.value ∙ same_Some _ _ (sym c.package.ensures.path ∙ at) in
    listed_old v w n (names c.args.folders.now.items) p at c.requires.listed
    (subst (Contains (package_paths v)) path (c.has_package.ensures.0 c.if-has_package.true))

pub returns : goal.returns
returns c =
    let v = c.args.before.now in
    let w = c.args.after.now in
    let n = c.args.number in
    let old = c.args.folders.now.items in
    let p = get_or (package_paths w) n [] in
    let at : slice_get (package_paths w) n ≡ Some p = slice_get-get_or (package_paths w) n [] c.requires.number in
    let own = same_Some _ _ (sym c.package.ensures.path ∙ at) in
    let here : c.deref.result.now ≡ p = c.deref.ensures.value ∙ own in
    let path : c.as_slice.result.now ≡ p = c.as_slice.ensures.value ∙ own in
    let more : names c.push.new.self.items ≡ names old ++ p ∷ [] = ap names c.in_ok-push.ensures.items ∙ names_push old c.as_slice.result ∙ ap (λ q. names
    old ++ q ∷ []) path in
    subst (ListsComing v w (n + 1)) (sym more)
    (listed_new v w n (names old) p at c.requires.listed
    (λ has. false≢true (sym c.if-has_package.false ∙ c.has_package.ensures.1 (subst (Contains (package_paths v)) (sym here) has))))
