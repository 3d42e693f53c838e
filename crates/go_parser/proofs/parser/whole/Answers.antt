-- The answers to the goals of `parser::whole`.
use Rattle.std.proofs.Common.{ap, sym, ◌∙◌, length, subst, ◌∷◌, []}
use Rattle.std.proofs.lemmas.List.{nil_from_length}
use Rattle.std.proofs.lemmas.Bool.{eqb-true}
use Rattle.go_ast.specs.Grammar.{A, File}
use Rattle.go_parser.specs.Machine.{ParserRun}
use Rattle.go_parser.proofs.MachineSteps.{outcome_of}
use Rattle.go_parser.proofs.WholeFile.{whole_taken, whole_left}
use Rattle.go_parser.proofs.parser.whole.Goals as goal

pub returns-then-is_empty-clause-exact : goal.returns-then-is_empty-clause-exact
returns-then-is_empty-clause-exact c = whole_taken
    (nil_from_length c.in_ok-file.rest.now (eqb-true (length c.in_ok-file.rest.now) 0 (sym c.is_empty.ensures ∙ c.if-is_empty.true))) c.in_ok-file.ensures.exact

pub returns-else-is_empty-clause-exact : goal.returns-else-is_empty-clause-exact
returns-else-is_empty-clause-exact c = λ k left e.
    subst (ParserRun 0 (A File ∷ []) c.args.tokens.now) (ap outcome_of (sym c.bad_token.ensures ∙ e))
    (whole_left c.in_ok-file.rest.now (sym c.is_empty.ensures ∙ c.if-is_empty.false) c.in_ok-file.ensures.exact)
