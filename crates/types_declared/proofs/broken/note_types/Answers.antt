-- The answers to the goals of `broken::note_types`.
use Rattle.std.proofs.Common.{◌≡◌, ◌+◌, take, ◌++◌, ◌∷◌, [], arith}
use Rattle.go_ast.specs.View.{type_view}
use Rattle.types_declared.specs.PackageView.{package_of}
use Rattle.types_declared.specs.Broken.{IsTarget, IsTargetOfSome}
use Rattle.types_declared.proofs.Mentioning.{type_list, types_next, adds_then, some_push, some_cases}
use Rattle.types_declared.proofs.broken.note_types.Goals as goal

pub loop-written-preserved : goal.loop-written-preserved
loop-written-preserved c =
    let p = package_of c.args.pkg in
    let file = c.args.at.file in
    let i = c.loop-written.written-index in
    let before = type_list (take i c.args.types.now) in
    let after = type_list (take (i + 1) c.args.types.now) in
    let t = type_view c.written-item.result.value in
    let e : after ≡ before ++ (t ∷ []) = types_next c.args.types.now i c.written-item.result (omega arith) c.written-item.is in
    adds_then c.args.links.now.items c.loop-written.links.items c.note_type.new.links.items c.args.at.rank (IsTargetOfSome p file before) (IsTarget p file t)
    (IsTargetOfSome p file after) c.loop-written.invariant
    c.in_ok-note_type.ensures (λ a h. some_push p file before after t a e h) (λ a s. some_cases p file before after t a e s)
