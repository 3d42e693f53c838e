-- The answers to the goals of `bindings::bindings_of`.
use Rattle.refactor_plan.proofs.bindings.bindings_of.Goals as goal

pub returns-clause-read : goal.returns-clause-read
returns-clause-read c = record { numbered = c.requires.numbered; unit = c.known_of-of.ensures.unit; indexed = c.known_of-of.ensures.indexed }
