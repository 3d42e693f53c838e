-- The answers to the goals of `laws::begins_one_way`.
use Rattle.server_read.proofs.Unique.{Says-unique, Reads-unique}
use Rattle.server_read.proofs.laws.begins_one_way.Goals as goal

pub returns-clause-first : goal.returns-clause-first
returns-clause-first c = Says-unique

pub returns-clause-all : goal.returns-clause-all
returns-clause-all c = Reads-unique
