-- The answers to the goals of `decided::names_are_decided`.
use Rattle.law_faultless.proofs.Meanings.{name}
use Rattle.law_faultless.proofs.decided.names_are_decided.Goals as goal

pub returns : goal.returns
returns c = λ p w strings broken file token. name p w strings broken file token
