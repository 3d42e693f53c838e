-- The package is not listed, or it is the last one listed.
use Rattle.std.proofs.Common.{◌≡◌, [], ◌∷◌, ◌++◌, ◌+◌, get_or, ap, sym, subst, ◌∙◌}
use Rattle.std.specs.Prelude.{Some, slice_get}
use Rattle.std.proofs.lemmas.Bool.{false≢true}
use Rattle.std.proofs.lemmas.Option.{same_Some, slice_get-get_or}
use Rattle.base_files.specs.Packages.{package_paths}
use Rattle.workspace_graph.specs.Borrows.{names}
use Rattle.build_carry.specs.Changes.{ListsDiffering}
use Rattle.build_carry.proofs.ChangedFolders.{names_push}
use Rattle.build_carry.proofs.ComparedPackages.{differing_kept, differing_changed}
use Rattle.build_carry.proofs.differing.add_differing.Goals as goal

pub returns-then-keeps_files : goal.returns-then-keeps_files
returns-then-keeps_files c =
    let v = c.args.before.now in
    let n = c.args.number in
    let p = get_or (package_paths v) n [] in
    let at : slice_get (package_paths v) n ≡ Some p = slice_get-get_or (package_paths v) n [] c.requires.number in
    differing_kept v c.args.after.now n (names c.args.folders.now.items) p at c.requires.listed ((c.keeps_files.ensures p at).0 c.if-keeps_files.true)

pub returns : goal.returns
returns c =
    let v = c.args.before.now in
    let n = c.args.number in
    let old = c.args.folders.now.items in
    let p = get_or (package_paths v) n [] in
    let at : slice_get (package_paths v) n ≡ Some p = slice_get-get_or (package_paths v) n [] c.requires.number in
    let path : c.as_slice.result.now ≡ p = c.as_slice.ensures.value ∙ same_Some _ _ (sym c.package.ensures.path ∙ at) in
    let more : names c.push.new.self.items ≡ names old ++ p ∷ [] = ap names c.in_ok-push.ensures.items ∙ names_push old c.as_slice.result ∙ ap (λ q. names
    old ++ q ∷ []) path in
    subst (ListsDiffering v c.args.after.now (n + 1)) (sym more)
    (differing_changed v c.args.after.now n (names old) p at c.requires.listed (λ same. false≢true (sym c.if-keeps_files.false ∙ (c.keeps_files.ensures p
    at).1 same)))
