-- The answers to the goals of `naming::refuse_at`.
use Rattle.refactor_rename.proofs.naming.refuse_at.Goals as goal

pub returns-in-None : goal.returns-in-None
returns-in-None c = rw c.in-None.is ((λ n. n), (λ n. n), (λ n. n))
