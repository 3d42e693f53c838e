-- The answers to the goals of `taken::names_platform`.
use Rattle.std.proofs.Common.{[]}
use Rattle.tool_text.specs.Taken.{platform_word}
use Rattle.tool_text.proofs.Cuts.{others_of}
use Rattle.tool_text.proofs.taken.names_platform.Goals as goal

pub parts-init : goal.parts-init
parts-init c = others_of 95 _ _ _ c.split_part-2.result.1 (platform_word [] []) c.split_part.ensures.first c.split_part-2.ensures.parts
