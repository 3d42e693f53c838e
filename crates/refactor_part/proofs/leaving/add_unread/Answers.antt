-- One more file, and all of them at the end.
use Rattle.std.proofs.Common.{◌≡◌, ◌++◌, ◌∷◌, [], map, take, sym, ap, subst, ◌∙◌, arith}
use Rattle.std.proofs.lemmas.List.{append-nil, take_all}
use Rattle.workspace_graph.specs.Borrows.{names}
use Rattle.refactor_part.specs.LeftOut.{path_of_unread}
use Rattle.refactor_part.proofs.MorePaths.{more_paths}
use Rattle.refactor_part.proofs.leaving.add_unread.Goals as goal

pub loop-file-init : goal.loop-file-init
loop-file-init c = sym (append-nil (names c.args.paths.now.items))

pub loop-file-preserved : goal.loop-file-preserved
loop-file-preserved c =
    more_paths path_of_unread c.args.files.now c.loop-file.file-index c.file-item.result c.loop-file-test.true c.file-item.is (names c.args.paths.now.items)
    c.loop-file.paths.items c.push.new.self.items c.path.result c.path.ensures c.in_ok-push.ensures.items c.loop-file.invariant

pub returns : goal.returns
returns c =
    c.loop-file.invariant
    ∙ ap (λ ts. names c.args.paths.now.items ++ map path_of_unread ts) (take_all c.loop-file.file-index c.args.files.now (omega (
      arith,
      c.loop-file-test.false,
    )))
