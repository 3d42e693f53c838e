-- The answers to the goals of `known::types_before_members_are_known`.
use Rattle.std.proofs.Common.{◌∙◌}
use Rattle.types_info.specs.Worlds.{is_init}
use Rattle.law_faultless.proofs.FunctionsKnown.{member_found}
use Rattle.law_faultless.proofs.known.types_before_members_are_known.Goals as goal

pub returns : goal.returns
returns c = λ p files_of file f s is source g at in_file n t a. is.before n ∙ member_found s.world (is_init f) f g at n t source in_file a
