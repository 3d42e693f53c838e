-- The answers to the goals of `checked_text::text_if_faultless`.
use Rattle.std.proofs.lemmas.Option.{none-some, slice_get_within}
use Rattle.base_files.specs.Packages.{package_paths}
use Rattle.workspace_check.proofs.Members.{vec_empty}
use Rattle.build_unit.proofs.checked_text.text_if_faultless.Goals as goal

pub package-files-requires : goal.package-files-requires
package-files-requires c = slice_get_within (package_paths c.args.at.graph.now) c.args.at.number c.args.path.now c.requires.at.has_path

pub known_text-requires-clause-verdict : goal.known_text-requires-clause-verdict
known_text-requires-clause-verdict c = c.requires.at.known c.args.at.number c.args.path.now c.in-Some.verdict.now c.requires.at.has_path c.in-Some.ensures

pub returns-then-not-is_empty : goal.returns-then-not-is_empty
returns-then-not-is_empty c = record { right = c.requires.right; text = λ text is. absurd (none-some text is) }

pub learn_text-requires : goal.learn_text-requires
learn_text-requires c = record {
  at = c.requires.at;
  files = c.package-files.ensures;
  read = vec_empty c.package-files.result.now.faulty c.is_empty.result c.is_empty.ensures c.if-not-is_empty.false;
  right = c.requires.right;
  told = c.requires.told;
  unknown = c.requires.unknown;
}
