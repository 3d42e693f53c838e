-- The nearest inverse fits the files, since the history stands at them.
use Rattle.std.proofs.Common.{ap, ◌∙◌}
use Rattle.base_files.specs.Workspace.{Workspace}
use Rattle.base_edits.specs.EditSet.{FileChanges, edited}
use Rattle.history_inverses.proofs.Walks.{fits_last, one_last, stands_back}
use Rattle.history_inverses.proofs.history.History.undo.Goals as goal

pub prepare-requires : goal.prepare-requires
prepare-requires c = fits_last c.args.files.now c.args.self.now.behind c.in-Some.way.now c.in-Some.ensures c.requires.behind

pub returns-clause-done : goal.returns-clause-done
returns-clause-done c =
    let w : Workspace = c.args.files.now in
    let way = one_last c.args.self.now.behind c.went_back.new.self.behind c.in-Some.way.now c.went_back.ensures.way c.in-Some.ensures
    c.went_back.ensures.behind in
    record {
      redo = c.commit-redo.result;
      steps = c.went_back.ensures;
      files = c.commit-redo.ensures.done ∙ c.in_ok-prepared.ensures.made ∙ ap (λ (x : FileChanges). edited x w) way;
      forth = c.commit-redo.ensures.back;
    }

pub returns-clause-stands : goal.returns-clause-stands
returns-clause-stands c =
    let w : Workspace = c.args.files.now in
    let way = one_last c.args.self.now.behind c.went_back.new.self.behind c.in-Some.way.now c.went_back.ensures.way c.in-Some.ensures
    c.went_back.ensures.behind in
    stands_back c.args.self.now c.went_back.new.self c.commit-redo.result w c.commit-redo.new.files c.requires c.went_back.ensures
    (c.commit-redo.ensures.done ∙ c.in_ok-prepared.ensures.made ∙ ap (λ (x : FileChanges). edited x w) way) c.commit-redo.ensures.back
