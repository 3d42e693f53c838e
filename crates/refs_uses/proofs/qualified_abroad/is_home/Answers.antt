-- The answers to the goals of `qualified_abroad::is_home`.
use Rattle.std.proofs.Common.{◌≡◌, ◌↔◌, subst}
use Rattle.std.specs.Prelude.{IsTrue}
use Rattle.refs_uses.proofs.qualified_abroad.is_home.Goals as goal

pub returns : goal.returns
returns c = λ p is. subst (λ q. IsTrue c.is_same.result ↔ (q ≡ c.args.path.now)) (c.path_of.ensures p.path is.has_number) c.is_same.ensures
