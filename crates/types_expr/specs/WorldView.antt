-- Views of the `World` of src/: the plain world, with its bindings, definitions and members.
use Rattle.std.specs.Prelude.{ℕ, Bool, true, false, if◌then◌else◌, List, [], Option, Some, None, option_map, map, slice_get}
use Rattle.std.specs.Arc.{arc_value}
use Rattle.std.specs.Option.{option_flatten}
use Rattle.std.specs.FinMap.{find}
use Rattle.std.specs.BTreeMap.{get_by}
use Rattle.std.specs.Cmp.Lexicographic.{slice_cmp}
use Rattle.std.specs.Global.{Global}
use Rattle.std.specs.Ordering.{nat_cmp}
use Rattle.std.specs.declared.sync.Arc.{Arc}
use Rattle.types_expr.specs.declared.types.Basic.TheVariants as basic
use Rattle.base_files.specs.Workspace.{path_cmp}
use Rattle.types_expr.specs.declared.symbol.Symbol.{Symbol}
use Rattle.types_expr.specs.declared.exports.ExportData.{ExportData}
use Rattle.types_expr.specs.declared.world.Bound.{Bound}
use Rattle.types_expr.specs.declared.world.Bound.TheVariants as bound
use Rattle.types_expr.specs.declared.world.Name.{Name}
use Rattle.types_expr.specs.declared.world.Underlying.{Underlying}
use Rattle.types_expr.specs.declared.world.Underlying.TheVariants as underlying
use Rattle.types_expr.specs.declared.world.Field.{Field}
use Rattle.types_expr.specs.declared.world.Method.{Method}
use Rattle.types_expr.specs.declared.world.Definition.{Definition}
use Rattle.types_expr.specs.declared.world.Definitions.{Definitions}
use Rattle.types_expr.specs.declared.world.World.{World}
use Rattle.types_expr.specs.declared.world.SetMethod.{SetMethod}
use Rattle.types_expr.specs.declared.world.Shape.{Shape}
use Rattle.types_expr.specs.declared.world.Shape.TheVariants as shape
use Rattle.types_expr.specs.declared.world.Member.{Member}
use Rattle.types_expr.specs.declared.world.Member.TheVariants as member
use Rattle.types_expr.specs.Types as types
use Rattle.types_expr.specs.World as plain
use Rattle.types_expr.specs.View.{type_of, signature_of, form_of}

unfoldable pub bound_of : Bound → plain.Bound
bound_of (bound.Local p) = plain.Local p
bound_of (bound.Variable t) = plain.Means (types.Value (types.Typed (type_of t)) true)
bound_of bound.Truth = plain.Means (types.Value (types.Untyped basic.Bool) false)
bound_of bound.Nil = plain.Means (types.Value types.Nil false)
bound_of (bound.TypeName t) = plain.Means (types.TypeName (type_of t))
bound_of (bound.Function s) = plain.Means (types.Function (signature_of s))
bound_of (bound.Builtin b) = plain.Means (types.BuiltinName b)
bound_of bound.Package = plain.Means types.Package
bound_of bound.BrokenVariable = plain.BrokenVariable
bound_of bound.BrokenFunction = plain.BrokenFunction
bound_of bound.BrokenType = plain.BrokenType

unfoldable pub underlying_of : Underlying → types.Underlying
underlying_of (underlying.Plain b) = types.Plain b
underlying_of (underlying.PointerTo t) = types.PointerTo (type_of t)
underlying_of (underlying.SliceOf t) = types.SliceOf (type_of t)
underlying_of (underlying.Struct s) = types.Struct s
underlying_of (underlying.Interface s) = types.Interface s

unfoldable pub shape_of : Shape → types.Underlying
shape_of (shape.Plain b) = types.Plain b
shape_of (shape.PointerTo t) = types.PointerTo (type_of t.now)
shape_of (shape.SliceOf t) = types.SliceOf (type_of t.now)
shape_of (shape.Struct s) = types.Struct s.now
shape_of (shape.Interface s) = types.Interface s.now

abbrev pub field_of : Field → plain.Field
field_of f = record { symbol = f.symbol; exported = f.exported; form = form_of f.form }

abbrev pub plain_method_of : Method → plain.Method
plain_method_of m = record { symbol = m.symbol; exported = m.exported; on_pointer = m.on_pointer; signature = option_map signature_of m.signature }

unfoldable pub member_of : Member → plain.Member
member_of (member.Field f) = plain.AField f.now.symbol (form_of f.now.form)
member_of (member.Method m) = plain.a_method m.now.symbol m.now.on_pointer (option_map signature_of m.now.signature)

abbrev pub definition_of : Definition → plain.Definition
definition_of d = record {
  underlying = underlying_of d.underlying;
  field = λ name. option_map field_of (get_by (λ key. slice_cmp nat_cmp name key.items) d.fields);
  method = λ name. option_map plain_method_of (get_by (λ key. slice_cmp nat_cmp name key.items) d.methods);
}

-- a definition that is not known: a struct of its own, without fields and methods
abbrev pub no_definition : Symbol → plain.Definition
no_definition s = record { underlying = types.Struct s; field = λ name. None; method = λ name. None }

abbrev pub definition_or_none : Symbol → Option Definition → plain.Definition
definition_or_none s None = no_definition s
definition_or_none s (Some d) = definition_of d

-- the definition at this rank
abbrev pub ranked : Option (List Definition) → ℕ → Option Definition
ranked None rank = None
ranked (Some ds) rank = slice_get ds rank

-- the export data of the package at a path, as it is shared
abbrev pub shared_at : Definitions → List ℕ → Option (Arc ExportData Global)
shared_at ds path = option_flatten (find path_cmp path ds.packages)

abbrev pub shared_export_data : Option (Arc ExportData Global) → Option ExportData
shared_export_data held = option_map (λ (i : Arc ExportData Global). arc_value i) held

-- the export data of the package at a path, if it is known
abbrev pub known_at : Definitions → List ℕ → Option ExportData
known_at ds path = shared_export_data (shared_at ds path)

abbrev pub definitions_listed : Option ExportData → Option (List Definition)
definitions_listed known = option_map (λ (i : ExportData). i.definitions.items) known

-- the type definitions of the package at a path, if they are known
abbrev pub definitions_at : Definitions → List ℕ → Option (List Definition)
definitions_at ds path = definitions_listed (known_at ds path)

-- the definition of a symbol of another package
abbrev pub imported_at : Definitions → Symbol → Option Definition
imported_at ds s = ranked (definitions_at ds s.package) s.rank

-- the definition of a symbol, of the file's own package or of another
unfoldable pub definition_at : World → Symbol → Option Definition
definition_at w s = if types.same_path w.package.now s.package then slice_get w.own.now s.rank else imported_at w.imported.now s

-- the plain definition of a symbol
unfoldable pub definition_in : World → Symbol → plain.Definition
definition_in w s = definition_or_none s (definition_at w s)

-- the underlying type of the definition of a symbol
abbrev pub underlying_in : World → Symbol → types.Underlying
underlying_in w s = (definition_in w s).underlying

-- the name at token `place`
abbrev pub name_in : World → ℕ → Option Name
name_in w place = slice_get w.names.now place

-- the index of the name's binding among the bindings of the world, if it is bound
abbrev pub bound_index : Option Name → Option ℕ
bound_index None = None
bound_index (Some n) = n.bound

abbrev pub bound_at : List Bound → Option ℕ → Option Bound
bound_at bs None = None
bound_at bs (Some i) = slice_get bs i

-- the plain binding; a name that is bound to nothing means Broken
abbrev pub bound_or_broken : Option Bound → plain.Bound
bound_or_broken None = plain.Means types.Broken
bound_or_broken (Some b) = bound_of b

-- the binding of the name at token `place`
unfoldable pub bound_in : World → ℕ → plain.Bound
bound_in w place = bound_or_broken (bound_at w.bounds.now (bound_index (name_in w place)))

-- the name's bytes
abbrev pub token_spelling : Option Name → List ℕ
token_spelling None = []
token_spelling (Some n) = n.spelling.now

-- the member that the name at token `place` denotes for type t
unfoldable pub member_in : World → ℕ → types.PlainType → Option plain.Member
member_in w place t = plain.member_by (definition_in w) w.package.now (token_spelling (name_in w place)) t

abbrev pub set_method_of : SetMethod → plain.SetMethod
set_method_of m = record { symbol = m.symbol.now; exported = m.exported; signature = option_map (λ s. signature_of s.now) m.signature }

-- the names under which a definition writes members; none where it is not known
abbrev pub names_written : Option Definition → List (List ℕ)
names_written None = []
names_written (Some d) = map (λ entry. entry.0.items) d.fields.entries

-- whether type t implements the interface that the definition of a symbol writes
unfoldable pub implements_in : World → types.PlainType → Symbol → Bool
implements_in w t s = plain.implements_by (definition_in w) (names_written (definition_at w s)) t s

abbrev pub world_of : World → plain.World
world_of w = record { bound = bound_in w; member = member_in w; definition = underlying_in w; implements = implements_in w }
