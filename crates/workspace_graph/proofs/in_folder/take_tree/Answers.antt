-- The tree of the number is taken out, or none.
use Rattle.std.proofs.Common.{◌≡◌, List, Some, slice_get, length, refl, ap, sym, subst, ◌∙◌}
use Rattle.std.proofs.lemmas.Option.{slice_get_read}
use Rattle.go_ast.specs.SourceFile.{FileParts}
use Rattle.workspace_graph.specs.InFolder.{tree_path, tree_paths}
use Rattle.workspace_graph.specs.Updated.{IsPlace}
use Rattle.workspace_graph.proofs.SetFiles.{gone_none, gone_one}
use Rattle.workspace_graph.proofs.UpdatedPackages.{number_within, one_out}
use Rattle.workspace_graph.proofs.in_folder.take_tree.Goals as goal

pub returns-in-Ok-clause-out : goal.returns-in-Ok-clause-out
returns-in-Ok-clause-out c =
    let old = c.args.trees.now.items in
    let at : slice_get (tree_paths old) c.in-Ok.place ≡ Some c.args.path.now =
    ap (λ (ts : List FileParts). slice_get (tree_paths ts) c.in-Ok.place) (sym c.deref.ensures.value) ∙ c.in-Ok.ensures in
    one_out tree_path c.args.path.now old c.remove.new.self.items c.in-Ok.place c.requires at
    (number_within tree_path old c.in-Ok.place c.args.path.now at)
    c.remove.ensures.items

pub returns-in-Ok-clause-gone : goal.returns-in-Ok-clause-gone
returns-in-Ok-clause-gone c =
    let old = c.args.trees.now.items in
    let n = c.in-Ok.place in
    let at : slice_get (tree_paths old) n ≡ Some c.args.path.now =
    ap (λ (ts : List FileParts). slice_get (tree_paths ts) n) (sym c.deref.ensures.value) ∙ c.in-Ok.ensures in
    gone_one c.args.path.now old n c.remove.result c.requires at
    (slice_get_read old (length old) n c.remove.result refl (number_within tree_path old n c.args.path.now at) c.remove.ensures.value)

pub returns-in-Err-clause-gone : goal.returns-in-Err-clause-gone
returns-in-Err-clause-gone c =
    gone_none c.args.path.now c.args.trees.now.items c.in-Err.place
    (subst (λ (ts : List FileParts). IsPlace (tree_paths ts) c.args.path.now c.in-Err.place) c.deref.ensures.value c.in-Err.ensures)
