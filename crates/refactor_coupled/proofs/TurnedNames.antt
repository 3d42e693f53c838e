-- The names of interfaces that turn for a type of a list are those of all that turn.
use Rattle.std.proofs.Common.{ℕ, ◌≡◌, inl, inr, Bool, true, false, List, [], ◌∷◌, ap, sym, subst, refl, ◌∙◌}
use Rattle.std.specs.Prelude.{◌↔◌, Contains, Option, Some, None, option_map}
use Rattle.std.specs.List.{list_any}
use Rattle.std.proofs.lemmas.Bool.{cases_Bool, false≢true, or_cases, or_left, or_right}
use Rattle.std.proofs.lemmas.List.Folds.{list_any_at}
use Rattle.std.proofs.lemmas.Option.{none-some, same_Some}
use Rattle.base_lemmas.proofs.Elements.{first_in, later_in, nothing_in}
use Rattle.base_files.specs.Packages.{package_paths}
use Rattle.base_files.specs.declared.place.Place.{Place}
use Rattle.types_expr.specs.declared.symbol.Symbol.{Symbol}
use Rattle.types_expr.specs.declared.world.Definition.{Definition as Held}
use Rattle.types_expr.specs.declared.world.Definitions.{Definitions}
use Rattle.types_expr.specs.Types.{PlainType, Defined, Underlying, Plain, PointerTo, SliceOf, Struct, Interface}
use Rattle.types_expr.specs.World.{Definition, Implements}
use Rattle.types_expr.specs.WorldView.{definition_of, definition_or_none, imported_at, no_definition}
use Rattle.types_declared.specs.Package.{Package, symbol_in, type_place}
use Rattle.types_declared.specs.Definitions.{HasUnderlying, IsUnderlyingOf, has, has_none}
use Rattle.refs_binding.specs.Uses.{IsCheckedPackage}
use Rattle.refs_binding.specs.WorkspaceFindings.{WorkspaceFindings}
use Rattle.refs_binding.specs.Workspaces.{IsFaultless, known_in}
use Rattle.refs_binding.proofs.Units.{one_package}
use Rattle.refs_places.specs.DeclaredPlaces.{TokenBeginsAt}
use Rattle.refactor_coupled.specs.Called.{AreCalled, IsSoughtType, asks_either, has_either, writes_either}
use Rattle.refactor_coupled.specs.Coupling.{type_through}
use Rattle.refactor_coupled.specs.FirstTurns.{IsBeforeFirst, IsFirstTurn, IsTypeNameAt, IsTypeNameIn, KeepsFirstOf}
use Rattle.refactor_coupled.specs.FirstTurns.{NamesAreFree, TellsFirstTurn, TurnsUnder, named_turns, turns_if}
use Rattle.refactor_coupled.specs.Implementing.{IsTypeSymbol, MayHaveMethods, behind_star, value}
use Rattle.refactor_coupled.specs.Obstacles.{IsInterfaceNamedAt}
use Rattle.refactor_coupled.specs.RenamedTypes.{SetRename, renamed_definitions}
use Rattle.refactor_coupled.specs.RenamedTypesView.{any_turns, definitions_in, either_turns, interface_of, rename_of, turns_through, types_of}
use Rattle.refactor_coupled.specs.declared.renamed_types.RenamedTypes.{RenamedTypes}
use Rattle.refactor_coupled.proofs.AllDefinitions.{all_definitions, type_or_none}
use Rattle.refactor_coupled.proofs.Implemented.{turned}
use Rattle.refactor_coupled.proofs.MethodOwners.{interface_type, its_definition, under_is}
use Rattle.refactor_coupled.proofs.TypeNames.{IsTurnedAmong}
use Rattle.refactor_coupled.proofs.Uncalled.{unasked_same, uncalled_same}

-- one of a list

any_of_list : {X : Type 0} (test : X → Bool) (xs : List X) → list_any test xs ≡ true → (x : X) × (Contains xs x × (test x ≡ true))
any_of_list test [] h = absurd (false≢true h)
any_of_list test (x ∷ xs) h = elim (or_cases (test x) (list_any test xs) h) [
  | inl here ↦ (x, (first_in x xs, here))
  | inr later ↦ let r = any_of_list test xs later in (r.0, (later_in x xs r.0 r.1.0, r.1.1))
]

of_list : {X : Type 0} (test : X → Bool) (xs : List X) (x : X) → Contains xs x → test x ≡ true → list_any test xs ≡ true
of_list test xs x at is = list_any_at test xs at.0 x at.1 (subst (λ y. test y ≡ true) (sym at.2) is)

-- the interface that is an underlying type
interface_told : (u : Underlying) (i : Symbol) → interface_of u ≡ Some i → u ≡ Interface i
interface_told (Interface s) i e = ap Interface (same_Some s i e)
interface_told (Plain b) i e = absurd (none-some i e)
interface_told (PointerTo t) i e = absurd (none-some i e)
interface_told (SliceOf t) i e = absurd (none-some i e)
interface_told (Struct s) i e = absurd (none-some i e)

-- an underlying type that a definition has
under_had : (p : Package) (rank : ℕ) (u : Underlying) (i : Symbol) → IsUnderlyingOf p rank u → u ≡ Interface i →
    HasUnderlying p (Defined (symbol_in p rank)) (Interface i)
under_had p rank u i (has h) e = subst (HasUnderlying p (Defined (symbol_in p rank))) e h
under_had p rank _ i (has_none none) e = let never : ⊥ = cc in absurd never

module _ (w : WorkspaceFindings) (sound : IsFaultless w.graph w.findings) (r : SetRename) where
  abbrev IsPackage : Package → Type 0
  IsPackage = IsCheckedPackage w.graph (known_in w.findings)

  abbrev IsType : Symbol → Type 0
  IsType s = IsTypeSymbol IsPackage s

  abbrev ds : Definitions
  ds = types_of w

  abbrev before : Symbol → Definition
  before = definitions_in ds

  abbrev after : Symbol → Definition
  after = renamed_definitions r before

  abbrev Turns : (star : Bool) → (s i : Symbol) → Type 0
  Turns star s i = ¬ (Implements before (type_through star s) i ↔ Implements after (type_through star s) i)

  type_with : (s : Symbol) (P : Definition → Type 0) → P (before s) → (P (no_definition s) → ⊥) → IsType s
  type_with s P h not = elim (type_or_none w sound s) [ inl is ↦ is | inr none ↦ absurd (not (subst P none h)) ]

  -- a type that is sought is one of the workspace

  held_is : (s : Symbol) (x : Held) → imported_at ds s ≡ Some x → before s ≡ definition_of x
  held_is s x at = ap (definition_or_none s) at

  called_type : (s : Symbol) → IsSoughtType ds r.old r.new false (package_paths w.graph) s → IsType s
  called_type s k =
      type_with s (λ d. has_either before d r.old r.new ≡ true)
      (subst (λ d. has_either before d r.old r.new ≡ true) (sym (held_is s k.held k.is_held)) k.sought) (λ e. false≢true e)

  sought_by : (s : Symbol) (only : Bool) (test : Definition → Bool) (of : IsType s) → test (before s) ≡ true → (test (no_definition s) ≡ true → ⊥) →
      (x : Option Held) → imported_at ds s ≡ x → (y : Held) × ((x ≡ Some y) × (test (definition_of y) ≡ true))
  sought_by s only test of h not None at = absurd (not (subst (λ d. test d ≡ true) (ap (definition_or_none s) at) h))
  sought_by s only test of h not (Some y) at = (y, (refl, subst (λ d. test d ≡ true) (held_is s y at) h))

  path_of_type : (s : Symbol) → IsType s → Contains (package_paths w.graph) s.package
  path_of_type s of = subst (Contains (package_paths w.graph)) (sym (ap (λ (t : Symbol). t.package) of.is_symbol)) of.is_package.of_workspace

  sought_type : (s : Symbol) → IsType s → has_either before (before s) r.old r.new ≡ true → IsSoughtType ds r.old r.new false (package_paths w.graph) s
  sought_type s of h =
      let x = sought_by s false (λ d. has_either before d r.old r.new) of h (λ e. false≢true e) (imported_at ds s) refl in
      record { of_package = path_of_type s of; held = x.0; is_held = x.1.0; sought = x.1.1 }

  sought_interface : (s : Symbol) → IsType s → asks_either before (before s).underlying r.old r.new ≡ true →
      IsSoughtType ds r.old r.new true (package_paths w.graph) s
  sought_interface s of h =
      let x = sought_by s true (λ d. asks_either before d.underlying r.old r.new) of h (λ e. false≢true e) (imported_at ds s) refl in
      record { of_package = path_of_type s of; held = x.0; is_held = x.1.0; sought = x.1.1 }

  -- places of names

  named_at : (s i : Symbol) (of : IsType s) → (before s).underlying ≡ Interface i → (place : Place) → IsTypeNameAt IsPackage s place →
      IsInterfaceNamedAt IsPackage i place
  named_at s i of under place k = record {
    inside = of.inside;
    is_package = of.is_package;
    rank = of.rank;
    definition = of.definition;
    has_rank = of.has_rank;
    underlying = under_had of.inside of.rank (before s).underlying i
        (its_definition w.graph (known_in w.findings) before (all_definitions w sound) (type_or_none w sound) s of).underlying under;
    at = subst (λ o. TokenBeginsAt of.inside.files (option_map type_place o) place) of.has_rank here;
  } where
    path : k.inside.path ≡ of.inside.path
    path = k.of_path ∙ ap (λ (t : Symbol). t.package) of.is_symbol

    one : k.inside ≡ of.inside
    one = one_package w.graph (known_in w.findings) k.inside of.inside k.is_package of.is_package path

    here : IsTypeNameIn of.inside.files of.rank place
    here =
        subst (λ (n : ℕ). IsTypeNameIn of.inside.files n place) (ap (λ (t : Symbol). t.rank) of.is_symbol)
        (subst (λ (p : Package). IsTypeNameIn p.files s.rank place) one k.holds)

  type_named : (i : Symbol) (place : Place) (n : IsInterfaceNamedAt IsPackage i place) → IsTypeNameAt IsPackage (symbol_in n.inside n.rank) place
  type_named i place n = record {
    inside = n.inside;
    is_package = n.is_package;
    of_path = refl;
    holds = subst (λ o. TokenBeginsAt n.inside.files (option_map type_place o) place) (sym n.has_rank) n.at;
  }

  -- What a type of the list turns is turned.

  may_have : (star : Bool) (s : Symbol) → IsType s → MayHaveMethods IsPackage (type_through star s)
  may_have false s of = value of
  may_have true s of = behind_star of

  turned_there : (s i : Symbol) (place : Place) (star : Bool) → IsType s → IsInterfaceNamedAt IsPackage i place → turns_through ds r star s i ≡ true →
      TurnsUnder w r place
  turned_there s i place star of named h = record {
    interface = i;
    named = named;
    of = type_through star s;
    may_have = may_have star s of;
    turned = (turned ds r star s i).0 h;
  }

  by_interface : (called : List Symbol) → ((s : Symbol) → Contains called s ↔ IsSoughtType ds r.old r.new false (package_paths w.graph) s) →
      (i : Symbol) (place : Place) → IsInterfaceNamedAt IsPackage i place → any_turns ds r called i ≡ true → TurnsUnder w r place
  by_interface called each i place named h =
      let one = any_of_list (λ s. either_turns ds r s i) called h in
      let of = called_type one.0 ((each one.0).0 one.1.0) in
      elim (or_cases (turns_through ds r false one.0 i) (turns_through ds r true one.0 i) one.1.1) [
        | inl plain ↦ turned_there one.0 i place false of named plain
        | inr pointer ↦ turned_there one.0 i place true of named pointer
      ]

  by_option : (called : List Symbol) → ((s : Symbol) → Contains called s ↔ IsSoughtType ds r.old r.new false (package_paths w.graph) s) →
      (named : Symbol) (place : Place) → IsTypeNameAt IsPackage named place → (o : Option Symbol) → interface_of (before named).underlying ≡ o →
      turns_if ds r called o ≡ true → TurnsUnder w r place
  by_option called each named place at None is h = absurd (false≢true h)
  by_option called each named place at (Some i) is h =
      let under : (before named).underlying ≡ Interface i = interface_told (before named).underlying i is in
      let of = interface_type w.graph (known_in w.findings) before (all_definitions w sound) (type_or_none w sound) named i under in
      by_interface called each i place (named_at named i of under place at) h

  -- What is turned is turned by a type of the list, and its name is one of those of the interfaces.

  module _ (free : NamesAreFree before r) where
    type_is_called : (star : Bool) (s i : Symbol) → IsType s → Turns star s i → IsSoughtType ds r.old r.new false (package_paths w.graph) s
    type_is_called star s i of h = elim (cases_Bool (has_either before (before s) r.old r.new)) [
      | inl some ↦ sought_type s of some
      | inr none ↦ absurd (h (uncalled_same r before s free star none i))
    ]

    interface_is_called : (star : Bool) (s i n : Symbol) → IsType n → (before n).underlying ≡ Interface i → Turns star s i →
        IsSoughtType ds r.old r.new true (package_paths w.graph) n
    interface_is_called star s i n of under h = elim (cases_Bool (writes_either (before i) r.old r.new)) [
      | inl some ↦ sought_interface n of (ap (λ u. asks_either before u r.old r.new) under ∙ some)
      | inr none ↦ absurd (h (unasked_same r before star s i none))
    ]

    either_through : (star : Bool) (s i : Symbol) → Turns star s i → either_turns ds r s i ≡ true
    either_through false s i h = or_left (turns_through ds r false s i) (turns_through ds r true s i) ((turned ds r false s i).1 h)
    either_through true s i h = or_right (turns_through ds r false s i) (turns_through ds r true s i) ((turned ds r true s i).1 h)

    -- the type T or `*T`
    record IsThrough (of : PlainType) : Type 0 where
      star : Bool
      symbol : Symbol
      is_type : IsType symbol
      same : of ≡ type_through star symbol

    through_of : (of : PlainType) → MayHaveMethods IsPackage of → IsThrough of
    through_of _ (value {s = s} is) = record { star = false; symbol = s; is_type = is; same = refl }
    through_of _ (behind_star {s = s} is) = record { star = true; symbol = s; is_type = is; same = refl }

    -- the type for which an interface turns, and the interface, are sought
    record AreSought (place : Place) (t : TurnsUnder w r place) : Type 0 where
      star : Bool
      symbol : Symbol
      called : IsSoughtType ds r.old r.new false (package_paths w.graph) symbol
      turns : Turns star symbol t.interface
      under : (before (symbol_in t.named.inside t.named.rank)).underlying ≡ Interface t.interface
      asking : IsSoughtType ds r.old r.new true (package_paths w.graph) (symbol_in t.named.inside t.named.rank)

    are_sought : (place : Place) (t : TurnsUnder w r place) → AreSought place t
    are_sought place t =
        let x = through_of t.of t.may_have in
        let n = symbol_in t.named.inside t.named.rank in
        let of : IsType n = record {
          inside = t.named.inside;
          is_package = t.named.is_package;
          rank = t.named.rank;
          definition = t.named.definition;
          has_rank = t.named.has_rank;
          is_symbol = refl;
        } in
        let under : (before n).underlying ≡ Interface t.interface =
        under_is w.graph (known_in w.findings) before (all_definitions w sound) (type_or_none w sound) n of (Interface t.interface) t.named.underlying in
        let turns : Turns x.star x.symbol t.interface =
        subst (λ y. ¬ (Implements before y t.interface ↔ Implements after y t.interface)) x.same t.turned in
        record {
          star = x.star;
          symbol = x.symbol;
          called = type_is_called x.star x.symbol t.interface x.is_type turns;
          turns = turns;
          under = under;
          asking = interface_is_called x.star x.symbol t.interface n of under turns;
        }

    pub never_turned : (interfaces : List Symbol) → interfaces ≡ [] →
        ((s : Symbol) → Contains interfaces s ↔ IsSoughtType ds r.old r.new true (package_paths w.graph) s) → (place : Place) → TurnsUnder w r place → ⊥
    never_turned interfaces empty each place t =
        let n = symbol_in t.named.inside t.named.rank in
        let a = are_sought place t in
        nothing_in n (subst (λ (l : List Symbol). Contains l n) empty ((each n).1 a.asking))

    module _ (called interfaces : List Symbol) (each : (s : Symbol) → Contains called s ↔ IsSoughtType ds r.old r.new false (package_paths w.graph) s)
        (asking : (s : Symbol) → Contains interfaces s ↔ IsSoughtType ds r.old r.new true (package_paths w.graph) s) where
      -- the name of an interface of the list that turns
      pub record IsTurnedHere (place : Place) : Type 0 where
        pub named : Symbol
        pub listed : Contains interfaces named
        pub turns : named_turns ds r called named ≡ true
        pub at : IsTypeNameAt IsPackage named place

      turned_here : (place : Place) → TurnsUnder w r place → IsTurnedHere place
      turned_here place t =
          let a = are_sought place t in
          record {
            named = symbol_in t.named.inside t.named.rank;
            listed = (asking (symbol_in t.named.inside t.named.rank)).1 a.asking;
            turns =
                ap (λ u. turns_if ds r called (interface_of u)) a.under
                ∙ of_list (λ s. either_turns ds r s t.interface) called a.symbol ((each a.symbol).1 a.called) (either_through a.star a.symbol t.interface
                a.turns);
            at = type_named t.interface place t.named;
          }

      here_turned : (place : Place) → IsTurnedHere place → TurnsUnder w r place
      here_turned place k = by_option called each k.named place k.at (interface_of (before k.named).underlying) refl k.turns

      pub first_told : (found : Option Place) → ((place : Place) → found ≡ Some place → IsTurnedHere place) →
          ((place : Place) → IsTurnedHere place → IsBeforeFirst place found → ⊥) → IsFirstTurn w r found
      first_told None from none_before = λ place turns. none_before place (turned_here place turns) tt
      first_told (Some first) from none_before = (
        here_turned first (from first refl),
        λ other less turns. none_before other (turned_here other turns) less,
      )

-- what was kept of the list is the first
pub kept_first : (w : WorkspaceFindings) → IsFaultless w.graph w.findings → (t : RenamedTypes) → t.types.now ≡ types_of w → (called interfaces : List Symbol) →
    AreCalled w t.rename.old.now t.rename.new.now false called → AreCalled w t.rename.old.now t.rename.new.now true interfaces → (found : Option Place) →
    KeepsFirstOf (IsTurnedAmong w t called interfaces) None found → TellsFirstTurn w (rename_of t.rename) found
kept_first w sound t types called interfaces each asking found h free =
    first_told w sound (rename_of t.rename) free called interfaces each asking found
    (λ place is. elim (h.from place is) [
      | inl none ↦ absurd (none-some place none)
      | inr k ↦ record {
        named = k.0;
        listed = k.1.0;
        turns = subst (λ ds. named_turns ds (rename_of t.rename) called k.0 ≡ true) types k.1.1.turns;
        at = k.1.1.at;
      }
    ])
    (λ place k. h.none_before place (
      k.named,
      (k.listed, record { turns = subst (λ ds. named_turns ds (rename_of t.rename) called k.named ≡ true) (sym types) k.turns; at = k.at }),
    ))
