-- One more folder, and all of them at the end.
use Rattle.std.proofs.Common.{◌++◌, ◌∷◌, List, ℕ, ap, sym, ◌∙◌, append-nil}
use Rattle.std.specs.Map.Iter.{deref}
use Rattle.std.proofs.lemmas.Map.Iter.{rest_more, rest_all}
use Rattle.std.proofs.lemmas.List.Elements.{All-push}
use Rattle.workspace_graph.specs.Drafts.{HasFolderFiles, IsDraft, draft_paths}
use Rattle.workspace_graph.specs.Borrows.{names}
use Rattle.workspace_graph.proofs.PackagePaths.{names_sorted}
use Rattle.workspace_graph.proofs.SetFiles.{paths_push}
use Rattle.workspace_graph.proofs.drafts.drafts_at.Goals as goal

pub loop-folder-preserved : goal.loop-folder-preserved
loop-folder-preserved c =
    let left = rest_more deref _ _ _ c.in-Some.folder c.in-Some.is c.next.ensures.steps in
    let old = c.loop-folder.drafts.items in
    let one = c.in_ok-draft_at.field-0 in
    let is = c.in_ok-draft_at.ensures in
    rw c.in_ok-push.ensures.items (record {
      paths = paths_push old one (names c.next.new.self) ∙ ap (λ (p : List ℕ). draft_paths old ++ p ∷ names c.next.new.self) is.path ∙
          ap (λ ks. draft_paths old ++ names ks) (sym left) ∙ c.loop-folder.invariant.paths;
      drafts = All-push IsDraft old one c.loop-folder.invariant.drafts is.draft;
      files = λ v are. All-push (HasFolderFiles v) old one (c.loop-folder.invariant.files v are) (is.files v are);
    })

pub returns : goal.returns
returns c =
    let none = rest_all deref _ _ _ c.in-None.is c.next.ensures.steps in
    record {
      paths = sym (append-nil (draft_paths c.loop-folder.drafts.items)) ∙ ap (λ ks. draft_paths c.loop-folder.drafts.items ++ names ks) (sym none) ∙
          c.loop-folder.invariant.paths;
      sorted = names_sorted c.args.folders.now.keys c.iter-folder-items.ensures.ordered;
      drafts = c.loop-folder.invariant.drafts;
      files = c.loop-folder.invariant.files;
    }
