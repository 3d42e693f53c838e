-- A planned move that preserves bindings leaves which types implement which interfaces: moved types implement the moved interfaces.
use Rattle.std.proofs.Common.{ℕ, ◌≡◌, inl, inr, Bool, true, false, List, [], ap, refl, sym, subst, ◌∙◌}
use Rattle.std.specs.Prelude.{◌↔◌, Contains, None, Some, slice_get}
use Rattle.base_edits.specs.EditSet.{FileChanges, edited}
use Rattle.base_edits.specs.Revisions.{Revision}
use Rattle.base_edits.specs.RevisionsOfEdits.{revision_of}
use Rattle.base_files.specs.Packages.{package_paths}
use Rattle.base_files.specs.Workspace.{Workspace}
use Rattle.base_files.specs.declared.place.Place.{Place}
use Rattle.types_expr.specs.declared.symbol.Symbol.{Symbol}
use Rattle.types_expr.specs.Types.{Struct}
use Rattle.types_expr.specs.World.{BrokenVariable, Definition, Implements, World}
use Rattle.types_expr.specs.WorldView.{no_definition}
use Rattle.types_declared.specs.Definitions.{IsDefinition}
use Rattle.types_declared.specs.Package.{Package, PlacedType, package_types, symbol_in, type_place}
use Rattle.types_info.proofs.OneWorld.{one_definition}
use Rattle.workspace_check.specs.FaultLists.{ListsFaults}
use Rattle.workspace_check.specs.Verdicts.{Verdicts, AreVerdicts}
use Rattle.workspace_check.proofs.OnePackage.{layout_formed}
use Rattle.refs_binding.specs.DeclaringPlaces.{TokenAt}
use Rattle.refs_binding.specs.Uses.{IsCheckedPackage}
use Rattle.refs_binding.proofs.Units.{one_package}
use Rattle.refs_places.proofs.Starts.{token_once}
use Rattle.refactor_coupled.specs.Coupling.{type_through}
use Rattle.refactor_coupled.specs.Implementing.{IsTypeSymbol}
use Rattle.refactor_coupled.specs.Obstacles.{BecomesType, KeepsImplementing}
use Rattle.law_changed_types.specs.Moved.{PathMap, moved_symbol, moved_type}
use Rattle.law_changed_types.specs.MovedPackage.{IsMovedPackage, moved_definition}
use Rattle.law_changed_types.proofs.Defined.{definition_moves}
use Rattle.law_changed_types.proofs.ImplementingMoves.{implementing_back, implementing_moves}
use Rattle.law_changed_types.proofs.Moving.{Move}
use Rattle.law_changed_types.proofs.Written.{same_place_types, symbols}
use Rattle.law_moves.specs.Agreement.{MovesAgree, MovesAreChecked, MovesAreScoped}
use Rattle.law_moves.specs.Moves.{IsMove, moved_path}
use Rattle.law_moves.specs.Moving.{AreCheckedMoves, AreScopedMoves}
use Rattle.law_moves.proofs.MoveAgreementLaws.{are_scoped}
use Rattle.law_moves.proofs.MovedFiles.{package_was}
use Rattle.law_moves.proofs.MovedTo.{moved_to}
use Rattle.law_moves.proofs.MovesDecideLaws.{agree, are_checked}
use Rattle.law_moves.proofs.PlacesApart.{moved_once}
use Rattle.law_renamed_workspaces.proofs.Packages.{package_there}
use Rattle.law_renamed_workspaces.proofs.SeenLookups.{all_before}
use Rattle.law_implementing.specs.UnnamedObstacles.{MovesPreserveAll}
use Rattle.law_implementing.proofs.AllDefinitions.{are_before, type_or_not}
use Rattle.law_implementing.proofs.Deciding.{implementing_after, implementing_for}
use Rattle.law_implementing.proofs.TypesBecome.{one_type_there, type_begins, type_home, type_stands}

-- A move by paths alone

nothing : PathMap → World
nothing g = record { bound = λ token. BrokenVariable; member = λ token t. None; definition = λ s. Struct s; implements = λ t s. false }

move_by : (g : PathMap) → ((a b : List ℕ) → g a ≡ g b → a ≡ b) → Move
unfolding nothing
move_by g injective = record {
  path = g;
  injective = injective;
  old = nothing g;
  new = nothing g;
  bound = λ token. refl;
  definition = λ s. refl;
  implements = λ t s. refl;
}

module _ (w : Workspace) (known : Verdicts) (from to : List ℕ) (s : FileChanges) (h : IsMove w known from to s)
    (scoped : AreScopedMoves w known (revision_of w s) (moved_path from to)) (after : Verdicts)
    (c : AreCheckedMoves w known (revision_of w s) (moved_path from to) after) where
  abbrev r : Revision
  r = revision_of w s

  abbrev x : Workspace
  x = edited s w

  abbrev sound : ListsFaults w []
  sound = h.sound

  abbrev right : AreVerdicts w known
  right = h.right

  abbrev old : Symbol → Definition
  old = all_before w h.sound known h.right

  abbrev new : Symbol → Definition
  new = all_before (edited s w) c.sound after c.right

  -- packages

  module _ (p : Package) (is : IsCheckedPackage w known p) where
    abbrev q : Package
    q = (c.there p is).0

    is_q : IsCheckedPackage (edited s w) after (c.there p is).0
    is_q = (c.there p is).1.0

    moved : IsMovedPackage c.g p (c.there p is).0
    moved = (c.there p is).1.1

    same_types : package_types (c.there p is).0 ≡ package_types p
    same_types = same_place_types c.g c.injective p q moved

    type_now : (rank : ℕ) (t : PlacedType) → slice_get (package_types p) rank ≡ Some t → slice_get (package_types (c.there p is).0) rank ≡ Some t
    type_now rank t at = subst (λ l. slice_get l rank ≡ Some t) (sym same_types) at

    token_now : (rank : ℕ) (t : PlacedType) (place : Place) → TokenAt p (type_place t) place →
        TokenAt (c.there p is).0 (type_place t) ((revision_of w s).moved place)
    token_now rank t place token = (moved_to w known r (moved_path from to) scoped after c p is).begins.tokens (type_place t) place token

  -- each package after the move is one of before
  record WasThere (path : List ℕ) : Type 0 where
    inside : Package
    is_package : IsCheckedPackage w known inside
    goes : path ≡ c.g inside.path

  was_there : (path : List ℕ) → Contains (package_paths (edited s w)) path → WasThere path
  was_there path has =
      let o = package_was w known from to s h path has in
      let p = package_there w sound known right o.0 o.1.0 in
      record {
        inside = p.0;
        is_package = p.1.0;
        goes = o.1.1 ∙ ap (moved_path from to) (sym p.1.1) ∙ sym (c.agrees p.0.path p.1.0.of_workspace);
      }

  -- A type definition after the move

  module _ (t : Symbol) (of : IsTypeSymbol (IsCheckedPackage (edited s w) after) t) where
    was : WasThere of.inside.path
    was = was_there of.inside.path of.is_package.of_workspace

    one : (c.there was.inside was.is_package).0 ≡ of.inside
    one =
        one_package x after (q was.inside was.is_package) of.inside (is_q was.inside was.is_package) of.is_package
        ((moved was.inside was.is_package).path ∙ sym was.goes)

    had_type : slice_get (package_types was.inside) of.rank ≡ Some of.definition
    had_type =
        subst (λ l. slice_get l of.rank ≡ Some of.definition) (same_types was.inside was.is_package)
        (subst (λ (z : Package). slice_get (package_types z) of.rank ≡ Some of.definition) (sym one) of.has_rank)

    -- was one before it
    type_was : (z : Symbol) → t ≡ moved_symbol c.g z → IsTypeSymbol (IsCheckedPackage w known) z
    type_was z same =
        let symbol : moved_symbol c.g z ≡ symbol_in of.inside of.rank = sym same ∙ of.is_symbol in
        let path : z.package ≡ was.inside.path =
        c.injective z.package was.inside.path (ap (λ (y : Symbol). y.package) symbol ∙ was.goes) in
        let rank : z.rank ≡ of.rank = ap (λ (y : Symbol). y.rank) symbol in
        record {
          inside = was.inside;
          is_package = was.is_package;
          rank = of.rank;
          definition = of.definition;
          has_rank = had_type;
          is_symbol = ap (λ (q : List ℕ). record { «package» = q; rank = z.rank }) path
              ∙ ap (λ (n : ℕ). record { «package» = was.inside.path; rank = n }) rank;
        }

  -- the definitions move

  moved_type_definition : (z : Symbol) → IsTypeSymbol (IsCheckedPackage w known) z → new (moved_symbol c.g z) ≡ moved_definition c.g (old z)
  moved_type_definition z of =
      let y = of.inside in
      let now = q y of.is_package in
      let own = symbol_in y of.rank in
      let goes : symbol_in now of.rank ≡ moved_symbol c.g own = symbols c.g c.injective y now (moved y of.is_package) of.rank in
      let there : IsDefinition now of.rank (new (symbol_in now of.rank)) =
      (are_before x c.sound after c.right).each now (is_q y of.is_package) of.rank of.definition (type_now y of.is_package of.rank of.definition of.has_rank) in
      let comes : IsDefinition now of.rank (moved_definition c.g (old own)) =
      definition_moves c.g c.injective y now (moved y of.is_package) of.rank (old own)
      ((are_before w sound known right).each y of.is_package of.rank of.definition of.has_rank) in
      subst (λ e. new (moved_symbol c.g e) ≡ moved_definition c.g (old e)) (sym of.is_symbol)
      (ap new (sym goes) ∙ one_definition now (layout_formed x after now.path now (is_q y of.is_package).is_checked) of.rank (new (symbol_in now of.rank))
      (moved_definition c.g (old own)) there comes)

  nothing_moves : (z : Symbol) → moved_definition c.g (no_definition z) ≡ no_definition (moved_symbol c.g z)
  nothing_moves z = refl

  definitions_move : (z : Symbol) → new (moved_symbol c.g z) ≡ moved_definition c.g (old z)
  definitions_move z = elim (type_or_not w sound known right z) [
    | inl of ↦ moved_type_definition z of
    | inr never ↦
        (are_before x c.sound after c.right).others (moved_symbol c.g z) (λ of. never (type_was (moved_symbol c.g z) of z refl))
        ∙ sym (nothing_moves z) ∙ ap (moved_definition c.g) (sym ((are_before w sound known right).others z never))
  ]

  -- a type definition becomes the one of its moved symbol

  module _ (t u : Symbol) (b : BecomesType (IsCheckedPackage w known) (IsCheckedPackage (edited s w) after) (revision_of w s).moved t u) where
    abbrev then : WasThere b.new.inside.path
    then = was u b.new

    begun : (place : Place) × TokenAt (was u b.new).inside (type_place b.new.definition) place
    begun = type_begins (was u b.new).inside b.new.rank b.new.definition (had_type u b.new)

    one_place : begun.0 ≡ b.place
    one_place =
        let here : TokenAt (q then.inside then.is_package) (type_place b.new.definition) (r.moved begun.0) =
        token_now then.inside then.is_package b.new.rank b.new.definition begun.0 begun.1 in
        let there : TokenAt (q then.inside then.is_package) (type_place b.new.definition) (r.moved b.place) =
        subst (λ (z : Package). TokenAt z (type_place b.new.definition) (r.moved b.place)) (sym (one u b.new)) b.is_new in
        let same : r.moved begun.0 ≡ r.moved b.place =
        token_once (slice_get (q then.inside then.is_package).files b.new.definition.file) b.new.definition.spec.name (r.moved begun.0) (r.moved b.place) here
        there in
        moved_once w known from to s h begun.0 b.place
        (type_stands w sound known right then.inside then.is_package b.new.rank b.new.definition (had_type u b.new) begun.0 begun.1)
        (type_stands w sound known right b.old.inside b.old.is_package b.old.rank b.old.definition b.old.has_rank b.place b.is_old) same

    there_token : TokenAt (was u b.new).inside (type_place b.new.definition) b.place
    there_token = subst (λ (place : Place). TokenAt then.inside (type_place b.new.definition) place) one_place begun.1

    one_home : b.old.inside ≡ (was u b.new).inside
    one_home =
        one_package w known b.old.inside then.inside b.old.is_package then.is_package
        (sym (type_home w sound known right b.old.inside b.old.is_package b.old.rank b.old.definition b.old.has_rank b.place b.is_old)
        ∙ type_home w sound known right then.inside then.is_package b.new.rank b.new.definition (had_type u b.new) b.place there_token)

    one_rank : b.new.rank ≡ b.old.rank
    one_rank =
        one_type_there w sound known right then.inside then.is_package b.new.rank b.old.rank b.new.definition b.old.definition (had_type u b.new)
        (subst (λ (z : Package). slice_get (package_types z) b.old.rank ≡ Some b.old.definition) one_home b.old.has_rank) b.place there_token
        (subst (λ (z : Package). TokenAt z (type_place b.old.definition) b.place) one_home b.is_old)

    becomes : u ≡ moved_symbol c.g t
    becomes =
        let path : b.new.inside.path ≡ c.g b.old.inside.path = then.goes ∙ ap (λ (z : Package). c.g z.path) (sym one_home) in
        b.new.is_symbol ∙ ap (λ (q : List ℕ). record { «package» = q; rank = b.new.rank }) path
        ∙ ap (λ (n : ℕ). record { «package» = c.g b.old.inside.path; rank = n }) one_rank ∙ ap (moved_symbol c.g) (sym b.old.is_symbol)

  -- so what implements what stays

  through : (star : Bool) (t : Symbol) → moved_type c.g (type_through star t) ≡ type_through star (moved_symbol c.g t)
  through false t = refl
  through true t = refl

  by_paths : (star : Bool) (t i : Symbol) →
      Implements old (type_through star t) i ↔ Implements new (moved_type c.g (type_through star t)) (moved_symbol c.g i)
  unfolding move_by
  by_paths star t i = (
    implementing_moves (move_by c.g c.injective) old new definitions_move (type_through star t) i,
    implementing_back (move_by c.g c.injective) old new definitions_move (type_through star t) i,
  )

  stays : (star : Bool) (t i : Symbol) →
      Implements old (type_through star t) i ↔ Implements new (type_through star (moved_symbol c.g t)) (moved_symbol c.g i)
  stays star t i =
      subst (λ z. Implements old (type_through star t) i ↔ Implements new z (moved_symbol c.g i)) (through star t) (by_paths star t i)

  pub keeps : KeepsImplementing w known (revision_of w s) after
  keeps = record {
    old = old;
    are_old = are_before w h.sound known h.right;
    new = new;
    are_new = are_before (edited s w) c.sound after c.right;
    keeps = λ star t u i j of interface.
        subst (λ z. Implements old (type_through star t) i ↔ Implements new (type_through star u) z) (sym (becomes i j interface))
        (subst (λ z. Implements old (type_through star t) i ↔ Implements new (type_through star z) (moved_symbol c.g i))
        (sym (becomes t u of)) (stays star t i));
  }

preserve_by : MovesAgree → MovesAreScoped → MovesAreChecked → MovesPreserveAll
preserve_by agree scoped checked w known from to s h allowed kept =
    let r = revision_of w s in
    let none = (agree w known from to s h allowed).1 kept in
    let c = checked w known from to s h allowed none in
    let moves = keeps w known from to s h (scoped w known from to s h) c.0 c.1 in
    record {
      bindings = kept;
      implementing = implementing_for w known kept.before h.right kept.right r kept.after
          (implementing_after w known r c.0 kept.after c.1.right kept.right_after moves);
    }

pub moves_preserve_all : MovesPreserveAll
moves_preserve_all = preserve_by agree are_scoped are_checked
