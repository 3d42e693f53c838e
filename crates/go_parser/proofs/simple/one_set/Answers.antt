-- The answers to the goals of `simple::one_set`.
use Rattle.std.proofs.Common.{◌∷◌, [], sym, refl}
use Rattle.go_ast.specs.Grammar.{A, Expressions, One, in_head, may_set}
use Rattle.go_parser.specs.Spelling.{expr_spelled}
use Rattle.go_parser.specs.TokenClasses.{setting_of}
use Rattle.go_parser.proofs.MachineSteps.{read_end}
use Rattle.go_parser.proofs.StatementSteps.{continued, continues_then}
use Rattle.go_parser.proofs.FormedStatements.{single_list}
use Rattle.go_parser.proofs.simple.one_set.Goals as goal

pub returns-clause-exact : goal.returns-clause-exact
returns-clause-exact c = continues_then [] (One (may_set (setting_of c.args.setting)) ∷ A (Expressions (in_head (setting_of c.args.setting))) ∷ []) _ _ _ _ _ _
    _ c.assignment.result (continued (expr_spelled c.args.first) read_end (sym c.in_ok-single.ensures.spelled)) c.assignment.ensures.exact

pub assignment-requires : goal.assignment-requires
assignment-requires c = single_list _ _ _ c.in_ok-single.ensures.alone c.requires refl

pub returns-clause-formed : goal.returns-clause-formed
returns-clause-formed c = c.assignment.ensures.formed
