-- The answers to the goals of `places::name_in`.
use Rattle.std.proofs.Common.{sym, ◌∙◌}
use Rattle.std.proofs.lemmas.Bool.{false≢true}
use Rattle.refs_places.proofs.Starts.{a_name}
use Rattle.refs_places.proofs.places.name_in.Goals as goal

pub returns-in_ok-begin : goal.returns-in_ok-begin
returns-in_ok-begin c = a_name c.args.file.now c.args.token c.in_ok-begin.field-0 (c.is_name.ensures.0 c.if-is_name.true) c.in_ok-begin.ensures

pub returns-else-is_name : goal.returns-else-is_name
returns-else-is_name c = λ place h. false≢true (sym c.if-is_name.false ∙ c.is_name.ensures.1 h.0)
