-- The answers to the goals of `parser::parse`.
use Rattle.std.proofs.Common.{sym, ◌∙◌, subst}
use Rattle.go_parser.specs.ParseResults.{IsRefusalOfTokens}
use Rattle.go_parser.proofs.WholeFile.{whole_text, refused_rightly}
use Rattle.go_parser.proofs.parser.parse.Goals as goal

pub returns-in-Ok-clause-text : goal.returns-in-Ok-clause-text
returns-in-Ok-clause-text c = whole_text (c.deref.ensures.value ∙ c.in_ok-tokens.ensures) c.in-Ok.ensures.exact.1

pub returns-in-Err-clause-refused : goal.returns-in-Err-clause-refused
returns-in-Err-clause-refused c = subst (IsRefusalOfTokens c.args.pieces.now) (sym c.refusal.ensures)
    (refused_rightly c.args.pieces.now c.in-Err.error _ (c.deref.ensures.value ∙ c.in_ok-tokens.ensures) c.in-Err.ensures.exact)

pub returns-in-Ok-clause-tree : goal.returns-in-Ok-clause-tree
returns-in-Ok-clause-tree c = record {
  written = c.in-Ok.ensures.exact.0 ∙ (c.deref.ensures.value ∙ c.in_ok-tokens.ensures);
  well_formed =
      c.in-Ok.ensures.formed;
}
