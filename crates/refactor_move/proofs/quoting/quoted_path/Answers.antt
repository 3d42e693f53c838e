-- The answers to the goals of `quoting::quoted_path`.
use Rattle.std.proofs.Common.{◌≡◌, ◌++◌, ap, sym, ◌∙◌}
use Rattle.refactor_move.proofs.PathParts.{moves_behind}
use Rattle.refactor_move.proofs.quoting.quoted_path.Goals as goal

pub returns-in-None : goal.returns-in-None
returns-in-None c = λ new h.
    let m = c.args.moved.now in
    let x = moves_behind m.from m.to c.args.path.now new h in
    let bytes : c.as_bytes.result.now ≡ m.from = c.as_bytes.ensures.value ∙ c.as_str.ensures.text in
    c.in-None.ensures x.rest (x.was ∙ ap (λ f. f ++ x.rest) (sym bytes)) x.behind
