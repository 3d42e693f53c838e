-- The answers to the goals of `declared_places::declared_near`.
use Rattle.refs_places.proofs.declared_places.declared_near.Goals as goal

pub returns-in-Predeclared : goal.returns-in-Predeclared
returns-in-Predeclared c = λ known are. rw c.in-Predeclared.is (λ place h. h)

pub returns-in-Declared : goal.returns-in-Declared
returns-in-Declared c = λ known are. rw c.in-Declared.is (rw c.in-Declared.is at (c.declared_under.ensures known are))

pub returns-in-Field : goal.returns-in-Field
returns-in-Field c = λ known are. rw c.in-Field.is (rw c.in-Field.is at (c.declared_under-in-Field.ensures known are))

pub returns-in-Method : goal.returns-in-Method
returns-in-Method c = λ known are. rw c.in-Method.is (rw c.in-Method.is at (c.declared_under-in-Method.ensures known are))
