-- The answers to the goals of `broken::note_params`.
use Rattle.std.proofs.Common.{◌≡◌, ◌+◌, take, ◌++◌, ◌∷◌, [], arith}
use Rattle.go_ast.specs.View.{type_view}
use Rattle.types_declared.specs.PackageView.{package_of}
use Rattle.types_declared.specs.Broken.{IsTarget, IsTargetOfSome}
use Rattle.types_declared.proofs.Mentioning.{param_list, params_next, adds_then, some_push, some_cases}
use Rattle.types_declared.proofs.broken.note_params.Goals as goal

pub loop-param-preserved : goal.loop-param-preserved
loop-param-preserved c =
    let p = package_of c.args.pkg in
    let file = c.args.at.file in
    let i = c.loop-param.param-index in
    let before = param_list (take i c.args.params.now) in
    let after = param_list (take (i + 1) c.args.params.now) in
    let t = type_view c.param-item.result.value.param_type in
    let e : after ≡ before ++ (t ∷ []) = params_next c.args.params.now i c.param-item.result (omega arith) c.param-item.is in
    adds_then c.args.links.now.items c.loop-param.links.items c.note_type.new.links.items c.args.at.rank (IsTargetOfSome p file before) (IsTarget p file t)
    (IsTargetOfSome p file after) c.loop-param.invariant
    c.in_ok-note_type.ensures (λ a h. some_push p file before after t a e h) (λ a s. some_cases p file before after t a e s)
