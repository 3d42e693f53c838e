-- The answers to the goals of `qualified_abroad::path_abroad`.
use Rattle.std.proofs.Common.{sym, ◌∙◌}
use Rattle.std.proofs.lemmas.Bool.{false≢true}
use Rattle.refs_uses.proofs.qualified_abroad.path_abroad.Goals as goal

pub returns-else-is_home : goal.returns-else-is_home
returns-else-is_home c = record {
  declared = c.in-Declared.field-1;
  is_declaration = c.in-Declared.is;
  abroad = λ p is e. false≢true (sym c.if-is_home.false ∙ (c.is_home.ensures p is).1 e);
}
