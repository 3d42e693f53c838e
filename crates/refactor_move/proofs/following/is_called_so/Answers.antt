-- The answers to the goals of `following::is_called_so`.
use Rattle.std.proofs.Common.{◌≡◌, ap, sym, ◌∙◌}
use Rattle.std.specs.Prelude.{Some, slice_get}
use Rattle.base_files.specs.Packages.{package_paths}
use Rattle.refactor_move.specs.Paths.{last_of}
use Rattle.refactor_move.proofs.Naming.{called_in}
use Rattle.refactor_move.proofs.following.is_called_so.Goals as goal

pub returns-in-Some : goal.returns-in-Some
returns-in-Some c =
    let w = c.args.workspace.now.graph in
    let from = c.args.from.now in
    let n = c.in-Some.number in
    let at : slice_get (package_paths w) n ≡ Some from = c.in-Some.ensures ∙ ap Some (c.as_bytes.ensures.value ∙ c.as_str.ensures.text) in
    let name : c.last_of.result.now ≡ last_of from = c.last_of.ensures ∙ ap last_of c.as_str-in-Some.ensures.text in
    let k = called_in w c.args.workspace.now.findings c.has_no_faults.ensures n from at c.trees.result.now c.trees.ensures (last_of from) in
    ((λ t. k.1 (c.is_called.ensures.0 t ∙ name)), (λ h. c.is_called.ensures.1 (k.0 h ∙ sym name)))
