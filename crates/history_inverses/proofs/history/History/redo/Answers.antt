-- The nearest inverse fits the files, since the history stands at them.
use Rattle.std.proofs.Common.{ap, ◌∙◌}
use Rattle.base_files.specs.Workspace.{Workspace}
use Rattle.base_edits.specs.EditSet.{FileChanges, edited}
use Rattle.history_inverses.proofs.Walks.{fits_last, one_last, stands_forth}
use Rattle.history_inverses.proofs.history.History.redo.Goals as goal

pub prepare-requires : goal.prepare-requires
prepare-requires c = fits_last c.args.files.now c.args.self.now.ahead c.in-Some.way.now c.in-Some.ensures c.requires.ahead

pub returns-clause-done : goal.returns-clause-done
returns-clause-done c =
    let w : Workspace = c.args.files.now in
    let way = one_last c.args.self.now.ahead c.went_forth.new.self.ahead c.in-Some.way.now c.went_forth.ensures.way c.in-Some.ensures
    c.went_forth.ensures.ahead in
    record {
      undo = c.commit-undo.result;
      steps = c.went_forth.ensures;
      files = c.commit-undo.ensures.done ∙ c.in_ok-prepared.ensures.made ∙ ap (λ (x : FileChanges). edited x w) way;
      back = c.commit-undo.ensures.back;
    }

pub returns-clause-stands : goal.returns-clause-stands
returns-clause-stands c =
    let w : Workspace = c.args.files.now in
    let way = one_last c.args.self.now.ahead c.went_forth.new.self.ahead c.in-Some.way.now c.went_forth.ensures.way c.in-Some.ensures
    c.went_forth.ensures.ahead in
    stands_forth c.args.self.now c.went_forth.new.self c.commit-undo.result w c.commit-undo.new.files c.requires c.went_forth.ensures
    (c.commit-undo.ensures.done ∙ c.in_ok-prepared.ensures.made ∙ ap (λ (x : FileChanges). edited x w) way) c.commit-undo.ensures.back
