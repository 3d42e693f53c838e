-- The answers to the goals of `underlying::step_of`.
use Rattle.std.proofs.Common.{ap}
use Rattle.std.proofs.lemmas.Result.{IfOk-weaker}
use Rattle.go_ast.specs.View.{type_view, list_view}
use Rattle.go_ast.specs.FileView.{body_view, field_view, method_view, type_spec_view}
use Rattle.types_expr.specs.WorldView.{underlying_of}
use Rattle.types_declared.specs.DeclaredView.{type_of}
use Rattle.types_declared.specs.PackageView.{package_of}
use Rattle.types_members.proofs.Steps.{of_type, of_struct, of_interface}
use Rattle.types_members.proofs.underlying.step_of.Goals as goal

pub returns-in-Type : goal.returns-in-Type
unfolding body_view type_spec_view
returns-in-Type c =
    IfOk-weaker c.step_by.result _ _ (λ s h. of_type (package_of c.args.pkg) c.args.rank (type_of c.args.definition.now) (type_view c.in-Type.written)
    c.requires.definition (ap body_view c.in-Type.is) s h)
    c.step_by.ensures

pub returns-in_ok-own_struct-in-Struct : goal.returns-in_ok-own_struct-in-Struct
unfolding body_view type_spec_view
returns-in_ok-own_struct-in-Struct c =
    of_struct (package_of c.args.pkg) c.args.rank (type_of c.args.definition.now) c.in-Struct.at c.in-Struct.«open» c.in-Struct.close
    (list_view field_view c.in-Struct.fields.items)
    (underlying_of c.in_ok-own_struct-in-Struct.field-0) c.requires.definition (ap body_view c.in-Struct.is) c.in_ok-own_struct-in-Struct.ensures

pub returns-in_ok-own_interface-in-Interface : goal.returns-in_ok-own_interface-in-Interface
unfolding body_view type_spec_view
returns-in_ok-own_interface-in-Interface c =
    of_interface (package_of c.args.pkg) c.args.rank (type_of c.args.definition.now) c.in-Interface.at c.in-Interface.«open» c.in-Interface.close
    (list_view method_view c.in-Interface.methods.items) (underlying_of c.in_ok-own_interface-in-Interface.field-0) c.requires.definition
    (ap body_view c.in-Interface.is) c.in_ok-own_interface-in-Interface.ensures
