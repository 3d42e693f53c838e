-- A package that compares equal has the path, and where none does none has it.
use Rattle.std.proofs.Common.{rules}
use Rattle.std.proofs.lemmas.Fn.{always_returns_same}
use Rattle.workspace_graph.specs.Drafts.{draft_path}
use Rattle.workspace_graph.proofs.Numbers.{found_is, none_is, search_cmp}
use Rattle.workspace_graph.proofs.drafts.draft_number.Goals as goal

pub returns-in-Ok : goal.returns-in-Ok
returns-in-Ok c = found_is draft_path c.args.drafts.now c.args.path.now c.in-Ok.number c.in-Ok.ensures.bound
    (c.in-Ok.ensures.position (search_cmp draft_path c.args.path.now) (always_returns_same _ _ _ (λ a r f k. (search rules, search rules))))

pub returns-in-Err : goal.returns-in-Err
returns-in-Err c = none_is draft_path c.args.drafts.now c.args.path.now c.in-Err.field-0 c.requires
    (c.in-Err.ensures.position (search_cmp draft_path c.args.path.now) (always_returns_same _ _ _ (λ a r f k. (search rules, search rules))))
