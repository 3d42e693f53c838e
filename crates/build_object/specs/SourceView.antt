-- The source of the code of a file, as the program keeps it.
use Rattle.std.specs.Prelude.{ℕ, Bool, false, List, Option, Some, None, option_map, slice_get, slice_index_or}
use Rattle.types_expr.specs.declared.found.Entering.{Entering}
use Rattle.types_expr.specs.declared.found.MemberUse.{MemberUse}
use Rattle.types_expr.specs.View.{type_of}
use Rattle.types_expr.specs.WorldView.{world_of, name_in, token_spelling}
use Rattle.build_object.specs.declared.source.NamedMethod.{NamedMethod}
use Rattle.build_object.specs.declared.source.Mark.{Mark}
use Rattle.build_object.specs.declared.source.Source.{Source}
use Rattle.build_object.specs.Source as pure
use Rattle.build_object.specs.Lines.{GlobalName}
use Rattle.build_object.specs.LineView.{global_of, function_of}
use Rattle.build_object.specs.Names as names
use Rattle.build_object.specs.PackagesView.{function_in, position_in, asked_in}
use Rattle.build_object.specs.Numbering.{slot_of}
use Rattle.build_object.specs.Literals.{literal_number}

-- What the item of a list with this number has, if there is one.
abbrev pub item_value : {X Y : Type 0} → (X → Y) → List X → Option ℕ → Option Y
item_value value items None = None
item_value value items (Some number) = option_map value (slice_get items number)

-- A method that an interface asks for, as a value of the definitions.
abbrev pub asked_of : NamedMethod → names.MethodAsked
asked_of a = record { place = a.place; name = function_of a.name }

-- The package-level declaration of a name's mark, if it has one.
abbrev pub global_in : Option Mark → Option GlobalName
global_in None = None
global_in (Some m) = option_map global_of m.global

-- The truth value of a name's mark, false where there is no mark.
abbrev pub truth_in : Option Mark → Bool
truth_in None = false
truth_in (Some m) = m.truth

-- The source of the program, as a value of the definitions.
abbrev pub source_of : Source → pure.Source
source_of s = record {
  world = world_of s.world;
  before = λ token. item_value (λ (u : MemberUse). type_of u.before) s.uses.now (slot_of s.used.places.items token);
  entered = λ token. item_value (λ (e : Entering). type_of e.own) s.enterings.now (slot_of s.entered.places.items token);
  global = λ token. global_in (slice_get s.marks.items token);
  asks = λ token. item_value (λ (a : NamedMethod). function_of a.name) s.asked.items (slot_of s.asked_at.places.items token);
  truth = λ token. truth_in (slice_get s.marks.items token);
  number = λ token. literal_number (token_spelling (name_in s.world token));
  text = λ token. option_map (λ v. v.items) (slice_index_or s.texts.items token None);
  function = function_in s.packages.now;
  position = position_in s.packages.now;
  asked = asked_in s.packages.now;
}
