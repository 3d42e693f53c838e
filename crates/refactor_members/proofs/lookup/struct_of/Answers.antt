-- The answers to the goals of `lookup::struct_of`.
use Rattle.std.proofs.Common.{subst}
use Rattle.std.specs.Option.{option_copied}
use Rattle.std.specs.Prelude.{Contains}
use Rattle.base_files.specs.Packages.{package_paths}
use Rattle.refactor_conflict.proofs.Structs.{struct_found}
use Rattle.refactor_members.specs.Renames.{workspace_before}
use Rattle.refactor_members.proofs.lookup.struct_of.Goals as goal

pub returns-in-None : goal.returns-in-None
returns-in-None c = λ p is e. absurd (c.in-None.ensures.own (subst (Contains (package_paths (workspace_before c.args.m.now))) e is.of_workspace))

pub returns-in-Some : goal.returns-in-Some
returns-in-Some c = λ p is e.
    struct_found p c.in-Some.own.now (c.in-Some.ensures.own p is e) c.args.of.now e (option_copied c.struct_among.result) c.struct_among.ensures
