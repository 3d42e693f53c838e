-- How the methods that are coupled with one are found: type by type. The types are those with a method of one name.
use Rattle.std.specs.Prelude.{ℕ, ◌≡◌, ◌<◌, ◌⊎◌, ◌↔◌, ◌&&◌, ◌||◌, Bool, true, false}
use Rattle.std.specs.Prelude.{List, [], Option, Some, None, Contains, is_some, length, map, option_map, slice_get}
use Rattle.std.specs.Borrow.{Bor}
use Rattle.std.specs.List.{list_any}
use Rattle.types_expr.specs.declared.symbol.Symbol.{Symbol}
use Rattle.types_expr.specs.declared.world.Definition.{Definition as Held}
use Rattle.types_expr.specs.declared.world.Definitions.{Definitions}
use Rattle.types_expr.specs.Types.{Underlying, Interface, WrittenAs, AFieldOf, AMethodOf, is_interface, same_symbol}
use Rattle.types_expr.specs.World.{Definition, Field as Written, Method as Received}
use Rattle.types_expr.specs.WorldView.{definition_of, definitions_at, names_written}
use Rattle.workspace_graph.specs.Search.{IsMarked}
use Rattle.refs_binding.specs.declared.declaration.Declaration.{Declaration}
use Rattle.refs_binding.specs.declared.declaration.Declaration.TheVariants.{Predeclared, Declared, Field, Method}
use Rattle.refs_binding.specs.WorkspaceFindings.{WorkspaceFindings}
use Rattle.refs_places.specs.Outside.{declaring_path}
use Rattle.refactor_coupled.specs.Called.{AreCalled}
use Rattle.refactor_coupled.specs.Coupling.{RenamedWith}
use Rattle.refactor_coupled.specs.RenamedTypes.{SetRename, has_received_method, has_written_member}
use Rattle.refactor_coupled.specs.RenamedTypesView.{definitions_in, either_after, rename_of, types_of}
use Rattle.refactor_coupled.specs.declared.coupling.Reached.{Reached}
use Rattle.refactor_coupled.specs.declared.renamed_types.RenamedTypes.{RenamedTypes}

-- whether the written member is the method with this symbol that an interface asks for
abbrev pub is_asked_form : Symbol → WrittenAs → Symbol → Bool
is_asked_form t (AFieldOf of) s = false
is_asked_form t (AMethodOf signature) s = same_symbol t s

abbrev pub is_asked_member : Option Written → Symbol → Bool
is_asked_member None s = false
is_asked_member (Some f) s = is_asked_form f.symbol f.form s

-- whether the definition writes the method with this symbol under the name, as one that an interface asks for
abbrev pub asks_by_symbol : Definition → Symbol → (name : List ℕ) → Bool
asks_by_symbol d s name = is_asked_member (d.field name) s

-- whether one of the definitions does
abbrev pub is_asked_by_some : List Held → Symbol → (name : List ℕ) → Bool
is_asked_by_some own s name = list_any (λ d. asks_by_symbol (definition_of d) s name) own

abbrev pub is_asked_among : Option (List Held) → Symbol → (name : List ℕ) → Bool
is_asked_among None s name = false
is_asked_among (Some own) s name = is_asked_by_some own s name

-- whether one of the package of the symbol does
abbrev pub is_asked_in : Definitions → Symbol → (name : List ℕ) → Bool
is_asked_in ds s name = is_asked_among (definitions_at ds s.package) s name

-- whether the member is the one with this symbol
abbrev pub is_written_of : Option Written → Symbol → Bool
is_written_of None s = false
is_written_of (Some f) s = same_symbol f.symbol s

abbrev pub is_received_of : Option Received → Symbol → Bool
is_received_of None s = false
is_received_of (Some m) s = same_symbol m.symbol s

-- whether the member of the definition under the name is the declaration
abbrev pub is_named_by : Definition → Declaration → (name : List ℕ) → Bool
is_named_by d (Field s) name = is_written_of (d.field name) s
is_named_by d (Method s) name = is_received_of (d.method name) s
is_named_by d (Declared path n) name = false
is_named_by d (Predeclared n) name = false

-- the names under which a definition has methods of receivers
abbrev pub names_received : Held → List (List ℕ)
names_received d = map (λ entry. entry.0.items) d.methods.entries

-- the names among which that of a declaration is
abbrev pub names_for : Declaration → Held → List (List ℕ)
names_for (Field s) d = names_written (Some d)
names_for (Method s) d = names_received d
names_for (Declared path n) d = []
names_for (Predeclared n) d = []

-- A name of which the test says true, or `None` where it says so of none of the names.
abbrev pub IsNamedAmong : (test : List ℕ → Bool) → (names : List (List ℕ)) → Option (Bor (List ℕ)) → Type 0
IsNamedAmong test names None = list_any test names ≡ false
IsNamedAmong test names (Some found) = test found.now ≡ true

-- whether the definition has the declaration under one of the names that it has
abbrev pub has_declaration : Declaration → Held → Bool
has_declaration d x = list_any (is_named_by (definition_of x) d) (names_for d x)

-- A name under which one of the definitions has the declaration, or `None` where none has it.
abbrev pub IsNameOfSome : Declaration → List Held → Option (Bor (List ℕ)) → Type 0
IsNameOfSome d own None = list_any (has_declaration d) own ≡ false
IsNameOfSome d own (Some found) = list_any (λ x. is_named_by (definition_of x) d found.now) own ≡ true

abbrev pub IsNameAmong : Declaration → Option (List Held) → Option (Bor (List ℕ)) → Type 0
IsNameAmong d None found = found ≡ None
IsNameAmong d (Some own) found = IsNameOfSome d own found

-- The same of the definitions of the package of the declaration.
abbrev pub IsNameAtHome : Definitions → (home : Option (List ℕ)) → Declaration → Option (Bor (List ℕ)) → Type 0
IsNameAtHome ds None d found = found ≡ None
IsNameAtHome ds (Some path) d found = IsNameAmong d (definitions_at ds path) found

abbrev pub IsCalledName : Definitions → Declaration → Option (Bor (List ℕ)) → Type 0
IsCalledName ds d found = IsNameAtHome ds (declaring_path d) d found

-- A name under which an interface of the symbol's package asks for the method with this symbol, or `None` where none does.
abbrev pub IsAskedName : Definitions → Symbol → Option (Bor (List ℕ)) → Type 0
IsAskedName ds s None = (name : List ℕ) → is_asked_in ds s name ≡ true → ⊥
IsAskedName ds s (Some found) = is_asked_in ds s found.now ≡ true

-- whether the definition asks for the method under one of the names that it has
abbrev pub has_asked : Symbol → Held → Bool
has_asked s x = list_any (asks_by_symbol (definition_of x) s) (names_written (Some x))

-- The same of the definitions of a list.
abbrev pub IsAskedNameOfSome : Symbol → List Held → Option (Bor (List ℕ)) → Type 0
IsAskedNameOfSome s own None = list_any (has_asked s) own ≡ false
IsAskedNameOfSome s own (Some found) = is_asked_by_some own s found.now ≡ true

-- whether the definition is an interface that asks for a method of this name
abbrev pub writes_asked : Definition → (name : List ℕ) → Bool
writes_asked d name = is_interface d.underlying && is_some (d.field name)

-- whether T or `*T` implements the interface that the definition of a symbol writes, which asks for a method of the old name
abbrev pub meets_type : Definitions → SetRename → (s interface : Symbol) → Bool
meets_type ds r s interface = writes_asked (definitions_in ds interface) r.old && either_after ds r s interface

-- whether methods of the two types are coupled
abbrev pub are_types_coupled : Definitions → SetRename → (one other : Symbol) → Bool
are_types_coupled ds r one other = meets_type ds r one other || meets_type ds r other one

-- Declarations

-- the declaration of the member that the definition writes under the name, if there is one
abbrev pub written_declaration : Definition → (name : List ℕ) → Option Declaration
written_declaration d name = option_map (λ (f : Written). Field f.symbol) (d.field name)

abbrev pub received_declaration : Definition → (name : List ℕ) → Option Declaration
received_declaration d name = option_map (λ (m : Received). Method m.symbol) (d.method name)

-- the declaration of the method of this name that the type has, or pointers to it
abbrev pub declaration_through : (Symbol → Definition) → Definition → Underlying → (name : List ℕ) → Option Declaration
declaration_through definition d (Interface s) name = written_declaration (definition s) name
declaration_through definition d u name = received_declaration d name

abbrev pub declaration_called : (Symbol → Definition) → Definition → (name : List ℕ) → Option Declaration
declaration_called definition d name = declaration_through definition d d.underlying name

-- whether the list has the member
abbrev pub is_listed : List Declaration → Declaration → Bool
is_listed set (Field s) = has_written_member set s
is_listed set (Method s) = has_received_method set s
is_listed set d = false

-- The search

-- Each type in the order is marked once, and no other type is.
pub record IsOrderOfMarks (r : Reached) : Type 0 where
  pub size : length r.marks.items ≡ length r.called.items
  pub marked : (index : ℕ) → IsMarked r.marks.items index ↔ Contains r.order.items index
  pub inside : (index : ℕ) → Contains r.order.items index → index < length r.called.items
  pub once : (i j index : ℕ) → slice_get r.order.items i ≡ Some index → slice_get r.order.items j ≡ Some index → i ≡ j

-- The types of the search stay, and what was reached stays reached in its place. `P` holds of each index that was added.
pub record ReachesMore (P : ℕ → Type 0) (old new : Reached) : Type 0 where
  pub called : new.called.items ≡ old.called.items
  pub ordered : IsOrderOfMarks old → IsOrderOfMarks new
  pub places : (step index : ℕ) → slice_get old.order.items step ≡ Some index → slice_get new.order.items step ≡ Some index
  pub kept : (index : ℕ) → IsMarked old.marks.items index → IsMarked new.marks.items index
  pub only : (index : ℕ) → IsMarked new.marks.items index → IsMarked old.marks.items index ⊎ P index

-- The type of this index is reached too.
pub record ReachesOne (index : ℕ) (old new : Reached) : Type 0 where
  pub called : new.called.items ≡ old.called.items
  pub ordered : (IsMarked old.marks.items index → ⊥) → index < length old.called.items → IsOrderOfMarks old → IsOrderOfMarks new
  pub places : (step other : ℕ) → slice_get old.order.items step ≡ Some other → slice_get new.order.items step ≡ Some other
  pub each : (other : ℕ) → IsMarked new.marks.items other ↔ (IsMarked old.marks.items other ⊎ (other ≡ index))

-- The type of the index has this symbol.
abbrev pub IsTypeAt : Reached → ℕ → Symbol → Type 0
IsTypeAt r index s = slice_get r.called.items index ≡ Some s

-- The types are coupled, if there are two.
abbrev pub are_coupled_if : Definitions → SetRename → (one other : Option Symbol) → Bool
are_coupled_if ds r None other = false
are_coupled_if ds r (Some s) None = false
are_coupled_if ds r (Some s) (Some t) = are_types_coupled ds r s t

-- The types of two indexes are coupled.
abbrev pub AreCoupledAt : RenamedTypes → Reached → (one other : ℕ) → Type 0
AreCoupledAt t r one other = are_coupled_if t.types.now (rename_of t.rename) (slice_get r.called.items one) (slice_get r.called.items other) ≡ true

-- Of the types that are coupled with the one of the index only `other` may be reached too. It is, if it is one of them.
pub record ReachesIfCoupled (t : RenamedTypes) (index other : ℕ) (old new : Reached) : Type 0 where
  pub more : ReachesMore (AreCoupledAt t old index) old new
  pub all : AreCoupledAt t old index other → IsMarked new.marks.items other

-- All types that are coupled with the one of the index are reached, and no others are added.
pub record ReachesFrom (t : RenamedTypes) (index : ℕ) (old new : Reached) : Type 0 where
  pub more : ReachesMore (AreCoupledAt t old index) old new
  pub all : (other : ℕ) → AreCoupledAt t old index other → IsMarked new.marks.items other

-- The same for the type at the place of the order, if there is such a place. Else nothing changes.
pub record ReachesFromPlace (t : RenamedTypes) (place : ℕ) (old new : Reached) : Type 0 where
  pub behind : slice_get old.order.items place ≡ None → new ≡ old
  pub more : ReachesMore (λ other. (index : ℕ) × ((slice_get old.order.items place ≡ Some index) × AreCoupledAt t old index other)) old new
  pub all : (index : ℕ) → slice_get old.order.items place ≡ Some index → (other : ℕ) → AreCoupledAt t old index other → IsMarked new.marks.items other

-- The indexes that are reached from some that were, by coupling.
pub data IsReachedBy (t : RenamedTypes) (r : Reached) : ℕ → Type 0 where
  start : (index : ℕ) → IsMarked r.marks.items index → IsReachedBy t r index
  next : (one other : ℕ) → IsReachedBy t r one → AreCoupledAt t r one other → IsReachedBy t r other

-- All that are reached so are marked, and no others.
pub record ReachesAll (t : RenamedTypes) (old new : Reached) : Type 0 where
  pub called : new.called.items ≡ old.called.items
  pub order : IsOrderOfMarks new
  pub each : (index : ℕ) → IsMarked new.marks.items index ↔ IsReachedBy t old index

-- whether the type asks for the method with this symbol, if there is one
abbrev pub asks_if : RenamedTypes → Symbol → Option Symbol → Bool
asks_if t s None = false
asks_if t s (Some named) = asks_by_symbol (definitions_in t.types.now named) s t.rename.old.now

-- The type of the index asks for the method with this symbol.
abbrev pub AsksAt : RenamedTypes → Symbol → Reached → ℕ → Type 0
AsksAt t s r index = asks_if t s (slice_get r.called.items index) ≡ true

-- The type of the index is reached too exactly if it asks for the method.
pub record StartsIfAsking (t : RenamedTypes) (s : Symbol) (index : ℕ) (old new : Reached) : Type 0 where
  pub called : new.called.items ≡ old.called.items
  pub ordered : (IsMarked old.marks.items index → ⊥) → index < length old.called.items → IsOrderOfMarks old → IsOrderOfMarks new
  pub each : (other : ℕ) → IsMarked new.marks.items other ↔ (IsMarked old.marks.items other ⊎ ((other ≡ index) × AsksAt t s old index))

-- Exactly the types that ask for the method with this symbol are reached.
pub record StartsAt (t : RenamedTypes) (s : Symbol) (old new : Reached) : Type 0 where
  pub called : new.called.items ≡ old.called.items
  pub order : IsOrderOfMarks new
  pub each : (index : ℕ) → IsMarked new.marks.items index ↔ AsksAt t s old index

-- The types of the workspace with the name were searched, from those that ask for the method with this symbol.
pub record IsSearched (w : WorkspaceFindings) (t : RenamedTypes) (s : Symbol) (r : Reached) : Type 0 where
  pub types : AreCalled w t.rename.old.now t.rename.new.now false r.called.items
  pub size : length r.marks.items ≡ length r.called.items
  pub started : Reached
  pub same : started.called.items ≡ r.called.items
  pub starts : (index : ℕ) → IsMarked started.marks.items index ↔ AsksAt t s started index
  pub each : (index : ℕ) → IsMarked r.marks.items index ↔ IsReachedBy t started index

-- Adding declarations

-- The list has more declarations: those of which `P` holds.
abbrev pub AddsDeclarations : (P : Declaration → Type 0) → (old new : List Declaration) → Type 0
AddsDeclarations P old new = (e : Declaration) → Contains new e ↔ (Contains old e ⊎ P e)

abbrev pub AddsOne : Declaration → (old new : List Declaration) → Type 0
AddsOne d old new = AddsDeclarations (λ e. e ≡ d) old new

-- The declaration of the method of the type under the name of the types.
abbrev pub IsMethodOfType : RenamedTypes → Symbol → Declaration → Type 0
IsMethodOfType t s e = declaration_called (definitions_in t.types.now) (definitions_in t.types.now s) t.rename.old.now ≡ Some e

-- The declaration is the method of the type of the index, which was reached.
pub record IsReachedMethodAt (t : RenamedTypes) (r : Reached) (index : ℕ) (e : Declaration) : Type 0 where
  pub of : Symbol
  pub is_type : IsTypeAt r index of
  pub marked : IsMarked r.marks.items index
  pub is_method : IsMethodOfType t of e

-- The declaration is that of a type that was reached.
abbrev pub IsReachedMethod : RenamedTypes → Reached → Declaration → Type 0
IsReachedMethod t r e = (index : ℕ) × IsReachedMethodAt t r index e

-- All that is renamed with the declaration is added.
abbrev pub AddsCoupled : WorkspaceFindings → Declaration → (old new : List Declaration) → Type 0
AddsCoupled w d old new = AddsDeclarations (RenamedWith (definitions_in (types_of w)) d) old new
