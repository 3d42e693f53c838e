-- The answers to the goals of `broken::note_methods`.
use Rattle.std.proofs.Common.{◌≡◌, ◌+◌, take, ◌++◌, arith}
use Rattle.types_declared.specs.PackageView.{package_of}
use Rattle.types_declared.specs.Broken.{IsTargetOfSome}
use Rattle.types_declared.proofs.Mentioning.{method_list, method_types, methods_next, adds_then, some_joined, some_parted}
use Rattle.types_declared.proofs.broken.note_methods.Goals as goal

pub loop-method-preserved : goal.loop-method-preserved
loop-method-preserved c =
    let p = package_of c.args.pkg in
    let file = c.args.at.file in
    let i = c.loop-method.method-index in
    let before = method_list (take i c.args.methods.now) in
    let after = method_list (take (i + 1) c.args.methods.now) in
    let ts = method_types c.method-item.result.value in
    let e : after ≡ before ++ ts = methods_next c.args.methods.now i c.method-item.result (omega arith) c.method-item.is in
    adds_then c.args.links.now.items c.loop-method.links.items c.note_method.new.links.items c.args.at.rank (IsTargetOfSome p file before)
    (IsTargetOfSome p file ts) (IsTargetOfSome p file after) c.loop-method.invariant
    c.in_ok-note_method.ensures (λ a h. some_joined p file before ts after a e h) (λ a s. some_parted p file before ts after a e s)
