-- The answers to the goals of `laws::named_member_names_are_members`.
use Rattle.law_tokens.proofs.Members.{named_member_stands}
use Rattle.law_tokens.proofs.laws.named_member_names_are_members.Goals as goal

pub returns : goal.returns
returns c = λ names files w at f is one u lt h. named_member_stands names files w at f is one u lt h
