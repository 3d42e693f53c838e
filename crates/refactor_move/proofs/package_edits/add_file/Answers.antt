-- The answers to the goals of `package_edits::add_file`.
use Rattle.std.proofs.Common.{◌≡◌, Some, sym, subst}
use Rattle.std.specs.Prelude.{List, map, slice_get}
use Rattle.std.specs.BTreeMap.{Updates}
use Rattle.std.proofs.lemmas.Result.{on_ok_weaker}
use Rattle.base_files.specs.Workspace.{path_cmp}
use Rattle.go_ast.specs.SourceFile.{SourceFile, source_of}
use Rattle.types_declared.proofs.PathParts.{source_at}
use Rattle.types_declared.specs.Package.{Package}
use Rattle.refactor_move.specs.Uses.{IsPackageOfMove}
use Rattle.refactor_move.proofs.EditMaps.{adds_file}
use Rattle.refactor_move.proofs.TokenEdits.{marked_edits}
use Rattle.refactor_move.proofs.package_edits.add_file.Goals as goal

pub returns : goal.returns
returns c =
    let of = c.args.of.now in
    let m = of.moved.now in
    let rank = c.args.rank in
    let old = c.args.edits.now in
    let new = c.insert.new.edits in
    let file = c.index-files-rank.result in
    let at : slice_get (map source_of of.files.now) rank ≡ Some (source_of file) = source_at of.files.now rank file c.requires c.index-files-rank.is in
    let more = λ (u : Updates path_cmp old new file.path (Some c.in_ok-found.found)) (p : Package) (is : IsPackageOfMove p of).
    let here = subst (λ (fs : List SourceFile). slice_get fs rank ≡ Some (source_of file)) (sym is.files) at in
    adds_file p m rank (source_of file) old new c.in_ok-found.found here
    (marked_edits p of.path.now is.path rank (source_of file) here m of.rows.now is.marks c.in_ok-found.found c.in_ok-found.ensures) u in
    on_ok_weaker c.insert.result more c.insert.ensures
