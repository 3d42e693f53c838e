-- What the loop of `definition::definitions_of` keeps.
use Rattle.std.proofs.Common.{◌≡◌, map}
use Rattle.types_members.specs.declared.struct_fields.FieldDef.{FieldDef}
use Rattle.refactor_members.proofs.definition.definitions_of.Given as goal

-- the list has the type definitions of the fields that were passed
abbrev pub invariant-loop-field : goal.invariant-loop-field
invariant-loop-field l = l.owners.items ≡ map (λ (f : FieldDef). f.definition) l.yielded
