-- The answers to the goals of `lines::each_definition_has_its_line`.
use Rattle.law_faultless.proofs.PackageLines.{objects_have_lines, texts_have_lines}
use Rattle.law_faultless.proofs.lines.each_definition_has_its_line.Goals as goal

pub returns-clause-objects : goal.returns-clause-objects
returns-clause-objects c = objects_have_lines

pub returns-clause-texts : goal.returns-clause-texts
returns-clause-texts c = texts_have_lines
