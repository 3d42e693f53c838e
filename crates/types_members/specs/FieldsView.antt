-- The program's fields, as the definitions see them.
use Rattle.std.specs.Prelude.{ℕ, List, map}
use Rattle.go_ast.specs.Tree.{FieldTree, MethodTree}
use Rattle.go_ast.specs.View.{type_view}
use Rattle.go_ast.specs.FileView.{method_view}
use Rattle.types_members.specs.declared.struct_fields.FieldDef.{FieldDef}
use Rattle.types_members.specs.declared.struct_fields.MemberForm.{MemberForm}
use Rattle.types_members.specs.declared.struct_fields.MemberForm.TheVariants as form
use Rattle.types_declared.specs.Package.{Package}
use Rattle.types_declared.specs.Definitions.{WrittenForm, OfType, OfSignature, PlacedField, IsFieldOf}

-- the form of the program's written member, as the definitions see it
unfoldable pub placed_form : MemberForm → WrittenForm
placed_form (form.Type written) = OfType (type_view written.now)
placed_form (form.Asked method) = OfSignature (method_view method.now).params (method_view method.now).result

-- the program's field, as the definitions see it
abbrev pub field_of : FieldDef → PlacedField
field_of f = record { definition = f.definition; file = f.file; name = f.name; form = placed_form f.form }

-- the fields of one field declaration
abbrev pub field_names : (definition file : ℕ) → FieldTree → List PlacedField
field_names definition file f = map (λ n. record { definition = definition; file = file; name = n.value; form = OfType f.type_use }) f.names

-- the method that an interface asks for, as a written member
abbrev pub asked_method : (definition file : ℕ) → MethodTree → PlacedField
asked_method definition file m = record { definition = definition; file = file; name = m.name; form = OfSignature m.params m.result }

-- the field of this rank has this name and is in the struct of this definition
pub record IsFieldNamed (p : Package) (rank definition : ℕ) (name : List ℕ) : Type 0 where
  pub field : PlacedField
  pub is_field : IsFieldOf p definition name rank field
