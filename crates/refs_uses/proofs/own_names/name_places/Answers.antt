-- The answers to the goals of `own_names::name_places`.
use Rattle.refs_uses.proofs.own_names.name_places.Goals as goal

pub returns : goal.returns
returns c = record { fields = c.in_ok-fields.ensures; methods = c.in_ok-methods.ensures }
