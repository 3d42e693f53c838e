-- The answers to the goals of `declared_places::DeclaredPlaces::at`.
use Rattle.std.proofs.Common.{ap, ◌∙◌}
use Rattle.std.specs.Prelude.{None, slice_index_or}
use Rattle.refs_binding.specs.declared.declaration.Declaration.TheVariants.{Declared, Field, Method}
use Rattle.refs_places.proofs.Declared.{place_in}
use Rattle.refs_places.proofs.declared_places.DeclaredPlaces.at.Goals as goal

pub returns-in-Predeclared : goal.returns-in-Predeclared
returns-in-Predeclared c = λ p are. rw c.in-Predeclared.is (λ place s. s.is_at)

pub returns-in-Declared : goal.returns-in-Declared
returns-in-Declared c = λ p are.
    let n = c.in-Declared.d in
    let d = Declared c.in-Declared.field-0 n in
    rw c.in-Declared.is
    (place_in p d c.listed.result (slice_index_or c.args.self.now.names.items n None)
    (c.listed.ensures ∙ ap (λ l. slice_index_or l n None) c.deref.ensures.value) (are.names n))

pub returns-in-Field : goal.returns-in-Field
returns-in-Field c = λ p are.
    let s = c.in-Field.symbol in
    rw c.in-Field.is
    (place_in p (Field s) c.listed-in-Field.result (slice_index_or c.args.self.now.fields.items s.rank None)
    (c.listed-in-Field.ensures ∙ ap (λ l. slice_index_or l s.rank None) c.deref-in-Field.ensures.value) (are.fields s.rank))

pub returns-in-Method : goal.returns-in-Method
returns-in-Method c = λ p are.
    let s = c.in-Method.symbol in
    rw c.in-Method.is
    (place_in p (Method s) c.listed-in-Method.result (slice_index_or c.args.self.now.methods.items s.rank None)
    (c.listed-in-Method.ensures ∙ ap (λ l. slice_index_or l s.rank None) c.deref-in-Method.ensures.value) (are.methods s.rank))
