-- The underlying types, fields and methods of a package, as the program has them.
use Rattle.std.specs.Prelude.{◌≡◌, map}
use Rattle.types_declared.specs.Package.{Package}
use Rattle.types_declared.specs.Definitions.{package_fields}
use Rattle.types_members.specs.declared.type_members.Fields.{Fields}
use Rattle.types_members.specs.declared.type_members.Methods.{Methods}
use Rattle.types_members.specs.declared.type_members.Members.{Members}
use Rattle.types_members.specs.FieldsView.{field_of}
use Rattle.types_members.specs.MembersView.{AreUnderlying, AreCountingFields, AreOwners, AreCountingMethods}

-- fields has the fields of the package, with a mark for each that counts
pub record AreFields (p : Package) (fields : Fields) : Type 0 where
  pub all : map field_of fields.all.items ≡ package_fields p
  pub counting : AreCountingFields p fields.counting.items

-- methods has for each function of the package its definition, if any, and a mark where it is a method that counts
pub record AreMethods (p : Package) (methods : Methods) : Type 0 where
  pub owners : AreOwners p methods.owners.items
  pub counting : AreCountingMethods p methods.counting.items

-- members has the underlying types, the fields and the methods of the package
pub record AreMembers (p : Package) (members : Members) : Type 0 where
  pub underlying : AreUnderlying p members.underlying.items
  pub fields : AreFields p members.fields
  pub methods : AreMethods p members.methods
