-- The types that a search reaches have exactly the methods that are renamed together.
use Rattle.std.proofs.Common.{ℕ, ◌≡◌, ◌==◌, ◌⊎◌, inl, inr, Bool, true, false, List, [], length, ap, sym, subst, refl, ◌∙◌}
use Rattle.std.specs.Prelude.{◌↔◌, Contains, Option, Some, None, is_some, option_map, slice_get}
use Rattle.std.specs.Cmp.Lexicographic.{bytes_decides}
use Rattle.std.proofs.lemmas.Bool.{and_from, and_parts, eq-eqb, false≢true, or_cases, or_left, or_right}
use Rattle.std.proofs.lemmas.Option.{none-some, same_Some, slice_get_read}
use Rattle.base_files.specs.Packages.{package_paths}
use Rattle.base_files.specs.Workspace.{Workspace}
use Rattle.types_expr.specs.declared.symbol.Symbol.{Symbol}
use Rattle.types_expr.specs.declared.world.Definition.{Definition as Held}
use Rattle.types_expr.specs.declared.world.Definitions.{Definitions}
use Rattle.types_expr.specs.Types.{Underlying, Plain, PointerTo, SliceOf, Struct, Interface}
use Rattle.types_expr.specs.Types.{Signature, WrittenAs, AFieldOf, AMethodOf, is_interface, same_path, same_symbol}
use Rattle.types_expr.specs.World.{Definition, Field as Written, Method as Received, SetMethod, Implements, has_if_asked, has_written, in_set}
use Rattle.types_expr.specs.WorldView.{definition_of, definition_or_none, imported_at, no_definition}
use Rattle.workspace_check.specs.Verdicts.{Verdicts}
use Rattle.workspace_graph.specs.Search.{IsMarked}
use Rattle.refs_binding.specs.declared.declaration.Declaration.{Declaration}
use Rattle.refs_binding.specs.declared.declaration.Declaration.TheVariants.{Field, Method}
use Rattle.refs_binding.specs.Uses.{IsCheckedPackage}
use Rattle.refactor_coupled.specs.Called.{IsSoughtType, has_either, has_either_by}
use Rattle.refactor_coupled.specs.Coupling.{AsksFor, HasInSet, IsAskedMethod, Meets, RenamedWith, coupled, declaration_in_set, itself, type_through}
use Rattle.refactor_coupled.specs.Implementing.{AreAllDefinitions, IsTypeSymbol}
use Rattle.refactor_coupled.specs.Reached.{AreCoupledAt, AsksAt, IsReachedBy, IsReachedMethod, are_coupled_if, are_types_coupled, asks_by_symbol, asks_if}
use Rattle.refactor_coupled.specs.Reached.{declaration_called, declaration_through, is_asked_form, is_asked_member, meets_type, next, start, writes_asked}
use Rattle.refactor_coupled.specs.RenamedTypes.{SetRename, unrenamed}
use Rattle.refactor_coupled.specs.RenamedTypesView.{definitions_after, definitions_in, either_after, implements_after, rename_of}
use Rattle.refactor_coupled.specs.declared.coupling.Reached.{Reached}
use Rattle.refactor_coupled.specs.declared.renamed_types.RenamedTypes.{RenamedTypes}
use Rattle.refactor_coupled.proofs.Implemented.{all_unrenamed, implemented, through_any}
use Rattle.refactor_coupled.proofs.Listed.{symbol_told}
use Rattle.refactor_coupled.proofs.MethodOwners.{IsOwner, asks, asks_method, only_owner, owned_for, owner_called, owner_type}

-- What is there

some_of : {X : Type 0} (o : Option X) → is_some o ≡ true → (x : X) × (o ≡ Some x)
some_of None e = absurd (false≢true e)
some_of (Some x) e = (x, refl)

some_is : {X : Type 0} (o : Option X) (x : X) → o ≡ Some x → is_some o ≡ true
some_is o x e = ap is_some e

some_mapped : {X Y : Type 0} (f : X → Y) (o : Option X) (y : Y) → option_map f o ≡ Some y → is_some o ≡ true
some_mapped f None y e = absurd (none-some y e)
some_mapped f (Some x) y e = refl

-- the method of this symbol that an interface asks for
pub record IsAskedWith (o : Option Written) (s : Symbol) : Type 0 where
  pub written : Written
  pub is_written : o ≡ Some written
  pub signature : Signature
  pub is_method : written.form ≡ AMethodOf signature
  pub is_symbol : written.symbol ≡ s

pub asked_with : (o : Option Written) (s : Symbol) → is_asked_member o s ≡ true → IsAskedWith o s
asked_with None s e = absurd (false≢true e)
asked_with (Some f) s e = by_form f.form refl e
  where
    by_form : (form : WrittenAs) → f.form ≡ form → is_asked_form f.symbol form s ≡ true → IsAskedWith (Some f) s
    by_form (AFieldOf t) is k = absurd (false≢true k)
    by_form (AMethodOf g) is k = record { written = f; is_written = refl; signature = g; is_method = is; is_symbol = symbol_told f.symbol s k }

pub same_itself : (s : Symbol) → same_symbol s s ≡ true
same_itself s = and_from (s.rank == s.rank) (same_path s.package s.package) (eq-eqb s.rank s.rank refl) ((bytes_decides s.package s.package).1 refl)

pub asks_with : (definition : Symbol → Definition) (i s : Symbol) (name : List ℕ) → AsksFor definition i name (Field s) →
    asks_by_symbol (definition i) s name ≡ true
asks_with definition i s name h =
    let same : h.written.symbol ≡ s = field_symbol h.written.symbol s h.is_declaration in
    ap (λ o. is_asked_member o s) h.is_written ∙ ap (λ form. is_asked_form h.written.symbol form s) h.is_method
    ∙ ap (λ t. same_symbol t s) same ∙ same_itself s
  where
    field_symbol : (f t : Symbol) → Field t ≡ Field f → f ≡ t
    field_symbol f t e = cc

-- a type with a method of the name is sought

under_called : (definition : Symbol → Definition) (d : Definition) (u : Underlying) (name : List ℕ) (e : Declaration) →
    declaration_through definition d u name ≡ Some e → has_either_by definition d u name name ≡ true
under_called definition d (Interface i) name e h = or_left (is_some ((definition i).field name)) (is_some ((definition i).field name))
    (some_mapped (λ (f : Written). Field f.symbol) ((definition i).field name) e h)
under_called definition d (Plain b) name e h =
    or_left (is_some (d.method name)) (is_some (d.method name)) (some_mapped (λ (m : Received). Method m.symbol) (d.method name) e h)
under_called definition d (PointerTo t) name e h =
    or_left (is_some (d.method name)) (is_some (d.method name)) (some_mapped (λ (m : Received). Method m.symbol) (d.method name) e h)
under_called definition d (SliceOf t) name e h =
    or_left (is_some (d.method name)) (is_some (d.method name)) (some_mapped (λ (m : Received). Method m.symbol) (d.method name) e h)
under_called definition d (Struct s) name e h =
    or_left (is_some (d.method name)) (is_some (d.method name)) (some_mapped (λ (m : Received). Method m.symbol) (d.method name) e h)

-- what an interface asks for under a name, a type that implements it has

has_asked_for : (f : Written) (g : Signature) (m : Option SetMethod) → f.form ≡ AMethodOf g → has_if_asked (Some f) m ≡ true → (x : SetMethod) × (m ≡ Some x)
has_asked_for f g None is h = absurd (false≢true (sym (ap (λ form. has_written f form None) is) ∙ h))
has_asked_for f g (Some x) is h = (x, refl)

-- The workspace, and all its type definitions. A rename of nothing has the name of the methods.
module _ (w : Workspace) (known : Verdicts) (ds : Definitions) (are : AreAllDefinitions (IsCheckedPackage w known) (definitions_in ds))
    (decided : (s : Symbol) → IsTypeSymbol (IsCheckedPackage w known) s ⊎ (definitions_in ds s ≡ no_definition s)) (r : SetRename) (none : r.set ≡ []) where
  abbrev types : Symbol → Definition
  types = definitions_in ds

  abbrev name : List ℕ
  name = r.old

  abbrev Owner : Symbol → Declaration → Type 0
  Owner s e = IsOwner types s name e

  as_before : r ≡ unrenamed r
  as_before = ap (λ set. record { set = set; old = r.old; new = r.new }) none

  types_stay : definitions_after ds r ≡ types
  types_stay = ap (definitions_after ds) as_before ∙ all_unrenamed ds r

  through : (star : Bool) (a b : Symbol) → (implements_after ds r star a b ≡ true) ↔ Implements types (type_through star a) b
  through star a b =
      subst (λ (k : Symbol → Definition). (implements_after ds r star a b ≡ true) ↔ Implements k (type_through star a) b) types_stay (implemented ds r star a b)

  -- T or `*T` implements an interface that asks for a method of the name
  record MeetsByType (a b : Symbol) : Type 0 where
    writes : is_interface (types b).underlying ≡ true
    asked : Written
    is_asked : (types b).field name ≡ Some asked
    star : Bool
    implements : Implements types (type_through star a) b

  meets_told : (a b : Symbol) → meets_type ds r a b ≡ true → MeetsByType a b
  meets_told a b h =
      let both = and_parts (writes_asked (types b) name) (either_after ds r a b) h in
      let parts = and_parts (is_interface (types b).underlying) (is_some ((types b).field name)) both.0 in
      let asked = some_of ((types b).field name) parts.1 in
      elim (or_cases (implements_after ds r false a b) (implements_after ds r true a b) both.1) [
        | inl value ↦ record {
          writes = parts.0;
          asked = asked.0;
          is_asked = asked.1;
          star = false;
          implements = (through false a b).0 value;
        }
        | inr pointer ↦ record {
          writes = parts.0;
          asked = asked.0;
          is_asked = asked.1;
          star = true;
          implements = (through true a b).0 pointer;
        }
      ]

  either_through : (star : Bool) (a b : Symbol) → Implements types (type_through star a) b → either_after ds r a b ≡ true
  either_through false a b h = or_left (implements_after ds r false a b) (implements_after ds r true a b) ((through false a b).1 h)
  either_through true a b h = or_right (implements_after ds r false a b) (implements_after ds r true a b) ((through true a b).1 h)

  meets_by : (star : Bool) (a b : Symbol) (e : Declaration) → AsksFor types b name e → Implements types (type_through star a) b → meets_type ds r a b ≡ true
  meets_by star a b e asked h =
      and_from (writes_asked (types b) name) (either_after ds r a b)
      (and_from (is_interface (types b).underlying) (is_some ((types b).field name)) h.writes_one (some_is ((types b).field name) asked.written
      asked.is_written))
      (either_through star a b h)

  -- the methods by which they do
  record MeetingMethods (a b : Symbol) : Type 0 where
    had : Declaration
    is_had : declaration_called types (types a) name ≡ Some had
    asked : Declaration
    is_asked : declaration_called types (types b) name ≡ Some asked
    meets : Meets types had asked

  meeting : (a b : Symbol) → MeetsByType a b → MeetingMethods a b
  meeting a b h =
      let method = asks_method w known types are decided b name h.asked h.is_asked h.writes in
      let asked : AsksFor types b name (Field h.asked.symbol) =
      record { written = h.asked; is_written = h.is_asked; signature = method.0; is_method = method.1; is_declaration = refl } in
      let set = in_set types h.star a name in
      let under : has_if_asked (Some h.asked) set ≡ true =
      sym (ap (λ o. has_if_asked o set) h.is_asked) ∙ sym (ap (λ f. has_if_asked ((types b).field name) (f name)) (through_any types a h.star))
      ∙ h.implements.has name in
      let x = has_asked_for h.asked method.0 set method.1 under in
      let had : HasInSet types h.star a name (declaration_in_set (types a).underlying x.0.symbol) =
      record { method = x.0; is_method = x.1; is_declaration = refl } in
      record {
        had = declaration_in_set (types a).underlying x.0.symbol;
        is_had = (owned_for w known types are decided a h.star name (declaration_in_set (types a).underlying x.0.symbol) had).called;
        asked = Field h.asked.symbol;
        is_asked = owner_called w known types are decided b name (Field h.asked.symbol) (asks asked);
        meets = record { of = a; star = h.star; interface = b; implements = h.implements; name = name; asked = asked; has = had };
      }

  -- A list has all types with a method of the name.
  module _ (found : List Symbol) (each : (a : Symbol) → Contains found a ↔ IsSoughtType ds name name false (package_paths w) a) where
    held_at : (a : Symbol) (e : Declaration) → declaration_called types (types a) name ≡ Some e → (o : Option Held) → imported_at ds a ≡ o →
        (x : Held) × ((o ≡ Some x) × (has_either types (definition_of x) name name ≡ true))
    held_at a e h None is =
        let same : types a ≡ no_definition a = ap (definition_or_none a) is in
        absurd (none-some e (sym (ap (λ d. declaration_called types d name) same) ∙ h))
    held_at a e h (Some x) is =
        let same : types a ≡ definition_of x = ap (definition_or_none a) is in
        let there : declaration_called types (definition_of x) name ≡ Some e = sym (ap (λ d. declaration_called types d name) same) ∙ h in
        (x, (refl, under_called types (definition_of x) (definition_of x).underlying name e there))

    listed_type : (a : Symbol) → IsTypeSymbol (IsCheckedPackage w known) a → (e : Declaration) → declaration_called types (types a) name ≡ Some e →
        Contains found a
    listed_type a of e h =
        let x = held_at a e h (imported_at ds a) refl in
        (each a).1 (record {
          of_package = subst (Contains (package_paths w)) (sym (ap (λ (s : Symbol). s.package) of.is_symbol)) of.is_package.of_workspace;
          held = x.0;
          is_held = x.1.0;
          sought = x.1.1;
        })

    pub owner_listed : (s : Symbol) (e : Declaration) → Owner s e → (index : ℕ) × (slice_get found index ≡ Some s)
    owner_listed s e owns =
        let has = listed_type s (owner_type w known types are decided s name e owns) e (owner_called w known types are decided s name e owns) in
        (has.0, slice_get_read found (length found) has.0 s refl has.1 (sym has.2))

-- The search, with the name of the methods as the old and the new name of a rename of nothing
module _ (w : Workspace) (known : Verdicts) (t : RenamedTypes) (are : AreAllDefinitions (IsCheckedPackage w known) (definitions_in t.types.now))
    (decided : (a : Symbol) → IsTypeSymbol (IsCheckedPackage w known) a ⊎ (definitions_in t.types.now a ≡ no_definition a)) (none : t.rename.set.now ≡ [])
    (s : Symbol) (r started : Reached) (same : started.called.items ≡ r.called.items)
    (each : (a : Symbol) → Contains started.called.items a ↔ IsSoughtType t.types.now t.rename.old.now t.rename.old.now false (package_paths w) a)
    (starts : (index : ℕ) → IsMarked started.marks.items index ↔ AsksAt t s started index)
    (reaches : (index : ℕ) → IsMarked r.marks.items index ↔ IsReachedBy t started index) where
  abbrev all : Symbol → Definition
  all = definitions_in t.types.now

  abbrev method : List ℕ
  method = t.rename.old.now

  abbrev renames : SetRename
  renames = rename_of t.rename

  abbrev Met : Symbol → Symbol → Type 0
  Met a b = MeetsByType w known t.types.now are decided renames none a b

  -- the types of two indexes that are coupled
  record CoupledThere (one other : ℕ) : Type 0 where
    first : Symbol
    at_first : slice_get started.called.items one ≡ Some first
    second : Symbol
    at_second : slice_get started.called.items other ≡ Some second
    coupled_by : Met first second ⊎ Met second first

  coupled_of : (one other : ℕ) (o p : Option Symbol) → slice_get started.called.items one ≡ o → slice_get started.called.items other ≡ p →
      are_coupled_if t.types.now renames o p ≡ true → CoupledThere one other
  coupled_of one other None p at_one at_other h = absurd (false≢true h)
  coupled_of one other (Some a) None at_one at_other h = absurd (false≢true h)
  coupled_of one other (Some a) (Some b) at_one at_other h = record {
    first = a;
    at_first = at_one;
    second = b;
    at_second = at_other;
    coupled_by = elim (or_cases (meets_type t.types.now renames a b) (meets_type t.types.now renames b a) h) [
      | inl to ↦ inl (meets_told w known t.types.now are decided renames none a b to)
      | inr from ↦ inr (meets_told w known t.types.now are decided renames none b a from)
    ];
  }

  coupled_there : (one other : ℕ) → AreCoupledAt t started one other → CoupledThere one other
  coupled_there one other c =
      coupled_of one other (slice_get started.called.items one) (slice_get started.called.items other) refl refl c

  -- The method of a type that is reached is renamed with the one of the search.

  abbrev Renamed : Declaration → Type 0
  Renamed e = IsAskedMethod all (Field s) × RenamedWith all (Field s) e

  begun : (index : ℕ) → IsMarked started.marks.items index → (a : Symbol) → slice_get started.called.items index ≡ Some a → (e : Declaration) →
      declaration_called all (all a) method ≡ Some e → Renamed e
  begun index m a at e called =
      let asks_it : asks_by_symbol (all a) s method ≡ true = sym (ap (asks_if t s) at) ∙ (starts index).0 m in
      let h = asked_with ((all a).field method) s asks_it in
      let asked : AsksFor all a method (Field s) = record {
        written = h.written;
        is_written = h.is_written;
        signature = h.signature;
        is_method = h.is_method;
        is_declaration = ap Field (sym h.is_symbol);
      } in
      let is : e ≡ Field s = same_Some e (Field s) (sym called ∙ owner_called w known all are decided a method (Field s) (asks asked)) in
      (record { interface = a; name = method; asked = asked }, subst (RenamedWith all (Field s)) (sym is) itself)

  abbrev RenamesAt : ℕ → Type 0
  RenamesAt index = (a : Symbol) → slice_get started.called.items index ≡ Some a → (e : Declaration) → declaration_called all (all a) method ≡ Some e →
      Renamed e

  one_further : (one other : ℕ) → RenamesAt one → AreCoupledAt t started one other → RenamesAt other
  one_further one other before c b at e called =
      let two = coupled_there one other c in
      let is : b ≡ two.second = same_Some b two.second (sym at ∙ two.at_second) in
      let there : declaration_called all (all two.second) method ≡ Some e = subst (λ x. declaration_called all (all x) method ≡ Some e) is called in
      elim two.coupled_by [
        | inl met ↦
            let m = meeting w known t.types.now are decided renames none two.first two.second met in
            let was = before two.first two.at_first m.had m.is_had in
            (was.0, subst (RenamedWith all (Field s)) (same_Some m.asked e (sym m.is_asked ∙ there)) (coupled was.0 was.1 (inl m.meets)))
        | inr met ↦
            let m = meeting w known t.types.now are decided renames none two.second two.first met in
            let was = before two.first two.at_first m.asked m.is_asked in
            (was.0, subst (RenamedWith all (Field s)) (same_Some m.had e (sym m.is_had ∙ there)) (coupled was.0 was.1 (inr m.meets)))
      ]

  renamed_by : {index : ℕ} → IsReachedBy t started index → RenamesAt index
  renamed_by (start index m) = begun index m
  renamed_by (next one other before c) = one_further one other (renamed_by before) c

  -- What is renamed with it is the method of a type that is reached.

  record IsOwnedThere (e : Declaration) : Type 0 where
    owner : Symbol
    owns : IsOwner all owner method e
    index : ℕ
    at : slice_get started.called.items index ≡ Some owner
    reached : IsReachedBy t started index

  place_of_owner : (a : Symbol) (e : Declaration) → IsOwner all a method e → (index : ℕ) × (slice_get started.called.items index ≡ Some a)
  place_of_owner a e owns = owner_listed w known t.types.now are decided renames none started.called.items each a e owns

  coupled_at : (i j : ℕ) (a b : Symbol) → slice_get started.called.items i ≡ Some a → slice_get started.called.items j ≡ Some b →
      are_types_coupled t.types.now renames a b ≡ true → AreCoupledAt t started i j
  coupled_at i j a b at_a at_b h =
      ap (λ o. are_coupled_if t.types.now renames o (slice_get started.called.items j)) at_a ∙ ap (are_coupled_if t.types.now renames (Some a)) at_b ∙ h

  reach_asking : (e f : Declaration) → IsOwnedThere e → Meets all e f → IsOwnedThere f
  reach_asking e f before m =
      let from = owned_for w known all are decided m.of m.star m.name e m.has in
      let one = only_owner w known all are decided from.owner before.owner m.name method e from.owns before.owns in
      let asked : AsksFor all m.interface method f = subst (λ n. AsksFor all m.interface n f) one.1 m.asked in
      let place = place_of_owner m.interface f (asks asked) in
      let met : Implements all (type_through m.star before.owner) m.interface =
      subst (λ o. Implements all (type_through m.star o) m.interface) one.0 (from.keeps m.interface m.implements) in
      let meets = meets_by w known t.types.now are decided renames none m.star before.owner m.interface f asked met in
      record {
        owner = m.interface;
        owns = asks asked;
        index = place.0;
        at = place.1;
        reached = next before.index place.0 before.reached
            (coupled_at before.index place.0 before.owner m.interface before.at place.1
            (or_left (meets_type t.types.now renames before.owner m.interface) (meets_type t.types.now renames m.interface before.owner) meets));
      }

  reach_asked : (e f : Declaration) → IsOwnedThere e → Meets all f e → IsOwnedThere f
  reach_asked e f before m =
      let one = only_owner w known all are decided m.interface before.owner m.name method e (asks m.asked) before.owns in
      let from = owned_for w known all are decided m.of m.star m.name f m.has in
      let owns : IsOwner all from.owner method f = subst (λ n. IsOwner all from.owner n f) one.1 from.owns in
      let place = place_of_owner from.owner f owns in
      let asked : AsksFor all before.owner method e =
      subst (λ n. AsksFor all before.owner n e) one.1 (subst (λ i. AsksFor all i m.name e) one.0 m.asked) in
      let met : Implements all (type_through m.star from.owner) before.owner =
      subst (λ i. Implements all (type_through m.star from.owner) i) one.0 (from.keeps m.interface m.implements) in
      let meets = meets_by w known t.types.now are decided renames none m.star from.owner before.owner e asked met in
      record {
        owner = from.owner;
        owns = owns;
        index = place.0;
        at = place.1;
        reached = next before.index place.0 before.reached
            (coupled_at before.index place.0 before.owner from.owner before.at place.1
            (or_right (meets_type t.types.now renames before.owner from.owner) (meets_type t.types.now renames from.owner before.owner) meets));
      }

  module _ (interface : Symbol) (asked : AsksFor all interface method (Field s)) where
    the_first : IsOwnedThere (Field s)
    the_first =
        let place = place_of_owner interface (Field s) (asks asked) in
        record {
          owner = interface;
          owns = asks asked;
          index = place.0;
          at = place.1;
          reached = start place.0 ((starts place.0).1 (ap (asks_if t s) place.1 ∙ asks_with all interface s method asked));
        }

    owned_there : (e : Declaration) → RenamedWith all (Field s) e → IsOwnedThere e
    owned_there _ itself = the_first
    owned_there _ (coupled {e = e} {f = f} is before c) = elim c [
      | inl m ↦ reach_asking e f (owned_there e before) m
      | inr m ↦ reach_asked e f (owned_there e before) m
    ]

    pub renamed_together : (e : Declaration) → IsReachedMethod t r e ↔ RenamedWith all (Field s) e
    renamed_together e = (
      (λ k. let renamed = renamed_by ((reaches k.0).0 k.1.marked) k.1.of (ap (λ l. slice_get l k.0) same ∙ k.1.is_type) e k.1.is_method in renamed.1),
      (λ k. let b = owned_there e k in (
        b.index,
        record {
          of = b.owner;
          is_type = ap (λ l. slice_get l b.index) (sym same) ∙ b.at;
          marked = (reaches b.index).1 b.reached;
          is_method = owner_called w known all are decided b.owner method e b.owns;
        },
      )),
    )
