-- The answers to the goals of `taken::takes_path`.
use Rattle.std.proofs.Common.{◌∙◌, sym, rules, arith, length-take, length-drop}
use Rattle.lsp_editor.proofs.Paths.{file_alone, folder_left_out, folder_taken}
use Rattle.lsp_editor.proofs.taken.takes_path.Goals as goal

pub folders-preserved : goal.folders-preserved
folders-preserved c = record {
  same = c.folders.invariant.same
      ∙ folder_taken c.folders.rest.now c.folders.end c.folders.invariant.ends c.folders-test.true
      (sym c.takes_folder.ensures ∙ c.if-not-takes_folder.false);
  ends = search rules;
  within = search rules;
  short = simp (length-take, length-drop) (omega arith);
}

pub returns-then-not-takes_folder : goal.returns-then-not-takes_folder
returns-then-not-takes_folder c =
    sym (c.folders.invariant.same
    ∙ folder_left_out c.folders.rest.now c.folders.end c.folders.invariant.ends c.folders-test.true
    (sym c.takes_folder.ensures ∙ c.if-not-takes_folder.true))

pub returns : goal.returns
returns c =
    c.takes_name.ensures
    ∙ sym (c.folders.invariant.same ∙ file_alone c.folders.rest.now c.folders.end c.folders.invariant.ends c.folders-test.false)
