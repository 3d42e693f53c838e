-- The answers to the goals of `new_names::imports_are_renamed_at_once`.
use Rattle.law_moves.proofs.AtOnce.{imports_capture, imports_keep, imports_keep_at, imports_lose}
use Rattle.law_moves.proofs.new_names.imports_are_renamed_at_once.Goals as goal

pub returns : goal.returns
returns c = record { keep = imports_keep_at; same = imports_keep; capture = imports_capture; lose = imports_lose }
