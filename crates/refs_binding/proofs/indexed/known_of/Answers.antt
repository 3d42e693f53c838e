-- The answers to the goals of `indexed::known_of`.
use Rattle.types_declared.specs.PackageView.{package_of}
use Rattle.refs_binding.proofs.indexed.known_of.Goals as goal

pub own_of-own-requires : goal.own_of-own-requires
own_of-own-requires c = c.requires.numbered.in_range

pub members_of-members-requires : goal.members_of-members-requires
members_of-members-requires c = c.requires.numbered.in_range

pub returns-clause-unit : goal.returns-clause-unit
returns-clause-unit c = c.requires.unit

pub returns-clause-indexed : goal.returns-clause-indexed
returns-clause-indexed c =
    let p = package_of c.args.unit in
    record {
      index = c.requires.index;
      own = c.own_of-own.ensures p c.requires.unit;
      members = c.members_of-members.ensures p c.requires.unit;
    }
