-- The path is that of a file of one of the packages, or of none.
use Rattle.std.proofs.Common.{◌≡◌, List, Some, slice_get, refl, sym, ap, subst, ◌∙◌, ◌==◌}
use Rattle.std.proofs.Math.ListN.{set}
use Rattle.std.specs.Cmp.Lexicographic.{pointwise, bytes_decides}
use Rattle.std.specs.List.{Contains}
use Rattle.std.proofs.lemmas.Bool.{and_from}
use Rattle.std.proofs.lemmas.Result.{on_ok_weaker}
use Rattle.base_files.specs.Path.{folder}
use Rattle.base_files.specs.Packages.{is_go}
use Rattle.workspace_graph.specs.Drafts.{draft_path, draft_paths}
use Rattle.workspace_graph.specs.declared.drafts.Draft.{Draft}
use Rattle.workspace_graph.proofs.SetFiles.{found_at, sets_no_go, sets_none_there, sets_one}
use Rattle.workspace_graph.proofs.drafts.set_in.Goals as goal

pub set_path-requires-clause-of_package : goal.set_path-requires-clause-of_package
set_path-requires-clause-of_package c =
    let old = c.args.drafts.now.items in
    let path = c.args.path.now in
    let n = c.in-Some.number in
    let b : Draft = c.index_mut.result.now in
    let named : slice_get (draft_paths old) n ≡ Some (folder path) =
    ap (λ (ds : List Draft). slice_get (draft_paths ds) n) (sym c.deref.ensures.value) ∙ c.in-Some.ensures ∙ ap Some c.folder.ensures in
    and_from (is_go path) (pointwise ◌==◌ (folder path) (draft_path b)) (sym c.is_go.ensures ∙ c.if-is_go.true)
    ((bytes_decides (folder path) (draft_path b)).1 (found_at old n b path named c.index_mut.ensures.value).1)

pub returns-in-Some : goal.returns-in-Some
returns-in-Some c =
    let old = c.args.drafts.now.items in
    let path = c.args.path.now in
    let n = c.in-Some.number in
    let b : Draft = c.index_mut.result.now in
    let a : Draft = c.set_path.new.draft in
    let named : slice_get (draft_paths old) n ≡ Some (folder path) =
    ap (λ (ds : List Draft). slice_get (draft_paths ds) n) (sym c.deref.ensures.value) ∙ c.in-Some.ensures ∙ ap Some c.folder.ensures in
    let found = found_at old n b path named c.index_mut.ensures.value in
    on_ok_weaker c.set_path.result
    (λ sets. sets_one c.args.known.files.now path old c.requires.sorted c.requires.drafts n b a (set old n a) found.0 refl (sym c.is_go.ensures ∙
    c.if-is_go.true)
    found.1 sets)
    c.set_path.ensures

pub returns-in_default : goal.returns-in_default
returns-in_default c =
    let ds = c.args.drafts.now.items in
    sets_none_there c.args.known.files.now c.args.path.now ds c.requires.sorted c.requires.drafts
    (λ there. c.in_default.ensures (subst (Contains (draft_paths c.deref.result.now)) (sym c.folder.ensures)
    (subst (λ (l : List Draft). Contains (draft_paths l) (folder c.args.path.now)) (sym c.deref.ensures.value) there)))

pub returns-else-is_go : goal.returns-else-is_go
returns-else-is_go c =
    sets_no_go c.args.known.files.now c.args.path.now c.args.drafts.now.items c.requires.sorted c.requires.drafts
    (sym c.is_go.ensures ∙ c.if-is_go.false)
