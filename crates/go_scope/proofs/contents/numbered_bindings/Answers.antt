-- The answers to the goals of `contents::numbered_bindings`.
use Rattle.go_scope.proofs.contents.numbered_bindings.Goals as goal

pub returns : goal.returns
returns c = record { marks = c.in_ok-declared.ensures.marks; bindings = c.in_ok-bindings.ensures }
