-- The answers to the goals of `member_names::add_name`.
use Rattle.types_members.proofs.NameKeys.{sets_name}
use Rattle.types_members.proofs.member_names.add_name.Goals as goal

pub returns-clause-set : goal.returns-clause-set
returns-clause-set c = sets_name c.args.row.now c.insert.new.self c.args.name c.in_ok-added.ensures.updates
