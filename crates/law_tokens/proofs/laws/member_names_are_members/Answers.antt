-- The answers to the goals of `laws::member_names_are_members`.
use Rattle.law_tokens.proofs.Members.{member_stands}
use Rattle.law_tokens.proofs.laws.member_names_are_members.Goals as goal

pub returns : goal.returns
returns c = λ files w at f is one u lt h. member_stands files w at f is one u lt h
