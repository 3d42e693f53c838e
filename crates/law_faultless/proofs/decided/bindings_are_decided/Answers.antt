-- The answers to the goals of `decided::bindings_are_decided`.
use Rattle.law_faultless.proofs.Lexical.{binding}
use Rattle.law_faultless.proofs.decided.bindings_are_decided.Goals as goal

pub returns : goal.returns
returns c = λ l names w u. binding l names w u
