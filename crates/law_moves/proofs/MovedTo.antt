-- The checked packages after a move: each has the scopes of the package that is there without checking, and its tokens are moved.
use Rattle.std.proofs.Common.{ℕ, ◌≡◌, List, ap, sym, subst, refl, ◌∙◌}
use Rattle.std.specs.Prelude.{slice_get, Some}
use Rattle.base_files.specs.Workspace.{Workspace}
use Rattle.base_files.specs.declared.place.Place.{Place}
use Rattle.base_edits.specs.Revisions.{Revision}
use Rattle.go_ast.specs.SourceFile.{SourceFile}
use Rattle.go_scope.specs.declared.model.Position.{Position}
use Rattle.go_scope.specs.Bindings.{Layout, Names, Counts, IsBoundTo, use_bound, own}
use Rattle.types_declared.specs.Definitions.{package_fields, fields_from, IsMethodOf}
use Rattle.types_declared.specs.Laid.{literal_of}
use Rattle.types_declared.specs.Package.{Package, PlacedFunction, spelled, spelled_at}
use Rattle.workspace_check.specs.Verdicts.{Verdicts}
use Rattle.refs_binding.specs.declared.declaration.Declaration.{Declaration}
use Rattle.refs_binding.specs.declared.declaration.Declaration.TheVariants.{Predeclared, Declared, Field, Method}
use Rattle.refs_binding.specs.Binding.{IsPredeclaredNumber, IsFieldAt, IsMethodAt}
use Rattle.refs_binding.specs.DeclaringPlaces.{TokenAt, TokenBegins, IsDeclaredAt}
use Rattle.refs_binding.specs.Identifiers.{BeginsAt}
use Rattle.refs_binding.specs.Uses.{IsCheckedPackage}
use Rattle.refactor_conflict.specs.Corresponding.{Corresponds, stands}
use Rattle.refactor_conflict.specs.ScopedPackages.{IsScopedIn}
use Rattle.refactor_conflict.proofs.OneScoped.{one_scoped}
use Rattle.law_renamed_workspaces.specs.Layouts.{IsToken}
use Rattle.law_renamed_workspaces.specs.ScopedPackages.{HasMovedTokens, HasSameScopes}
use Rattle.law_renamed_workspaces.proofs.FaultlessScopes.{faultless_scoped}
use Rattle.law_renamed_workspaces.proofs.MovedTokens.{have_places}
use Rattle.law_agreement.proofs.Preserved.{begins_same}
use Rattle.law_agreement.proofs.UnboundStay.{field_counts, method_counts}
use Rattle.law_changed_types.specs.Moved.{PathMap, moved_symbol}
use Rattle.law_changed_types.specs.MovedPackage.{IsMovedPackage}
use Rattle.law_changed_types.proofs.Written.{binds, declares_type, same_place_functions, same_place_types}
use Rattle.law_moves.specs.Moving.{IsScopedMove, AreScopedMoves, AreCheckedMoves}

turned : (q o : Package) → HasSameScopes q o → HasSameScopes o q
turned q o s = record { path = sym s.path; layout = sym s.layout; names = sym s.names; size = sym s.size; files = sym s.files }

pub counts_of : (l : Layout) (names : Names) (u d : ℕ) → IsBoundTo l names u d → Counts l names d
counts_of l names u d (use_bound used b) = b.counts
counts_of l names u d (own e c) = c

-- What a declaration has become after the move.
abbrev pub moved_declaration : PathMap → Declaration → Declaration
moved_declaration g (Predeclared n) = Predeclared n
moved_declaration g (Declared path n) = Declared (g path) n
moved_declaration g (Field s) = Field (moved_symbol g s)
moved_declaration g (Method s) = Method (moved_symbol g s)

module _ (w : Workspace) (known : Verdicts) (r : Revision) (goes : PathMap) (h : AreScopedMoves w known r goes) (after : Verdicts)
    (c : AreCheckedMoves w known r goes after) where
  abbrev pub x : Workspace
  x = r.after

  -- The checked package `q` is p after the move.
  pub record IsMovedTo (p q : Package) : Type 0 where
    pub is : IsCheckedPackage x after q
    pub moved : IsMovedPackage c.g p q
    pub begins : HasMovedTokens r p q
    pub tokens : (at : Position) (place : Place) → IsToken p at place → spelled q at.file at.index ≡ r.called place (spelled p at.file at.index)
    pub names : (u : ℕ) (place : Place) → BeginsAt p place.path place.offset u → q.names u ≡ r.called place (p.names u)

  module _ (p : Package) (is : IsCheckedPackage w known p) where
    abbrev pub q : Package
    q = (c.there p is).0

    is_q : IsCheckedPackage x after q
    is_q = (c.there p is).1.0

    moved : IsMovedPackage c.g p q
    moved = (c.there p is).1.1

    abbrev o : Package
    o = (faultless_scoped x after c.right c.sound q is_q).0

    is_o : IsScopedIn x o
    is_o = (faultless_scoped x after c.right c.sound q is_q).1.0

    alike : HasSameScopes q o
    alike = (faultless_scoped x after c.right c.sound q is_q).1.1

    abbrev pub there : Package
    there = (h.there p is).0

    pub scoped : IsScopedMove w r goes p there
    scoped = (h.there p is).1

    same : o ≡ there
    same =
        one_scoped x o there is_o scoped.is_scoped
        (alike.path ∙ moved.path ∙ c.agrees p.path is.of_workspace ∙ sym scoped.path)

    files : q.files ≡ there.files
    files = sym alike.files ∙ ap (λ (z : Package). z.files) same

    pub same_names : q.names ≡ there.names
    same_names = sym alike.names ∙ ap (λ (z : Package). z.names) same

    token_there : (at : Position) (place : Place) → TokenAt p at place → TokenAt q at (r.moved place)
    token_there at place t =
        subst (λ (fs : List SourceFile). TokenBegins (slice_get fs at.file) at.index (r.moved place)) (sym files) (scoped.begins.tokens at place t)

    begins_there : (u : ℕ) (place : Place) → BeginsAt p place.path place.offset u → BeginsAt q (r.moved place).path (r.moved place).offset u
    begins_there u place b =
        begins_same o q (turned q o alike) (r.moved place).path (r.moved place).offset u
        (subst (λ (z : Package). BeginsAt z (r.moved place).path (r.moved place).offset u) (sym same) (scoped.begins.names u place b))

    pub moved_to : IsMovedTo p q
    moved_to = record {
      is = is_q;
      moved = moved;
      begins = record { tokens = token_there; names = begins_there };
      tokens = λ at place t. ap (λ (fs : List SourceFile). spelled_at (slice_get fs at.file) at.index) files ∙ scoped.tokens at place t;
      names = λ u place b. ap (λ (n : Names). n u) same_names ∙ scoped.names u place b;
    }

    -- declarations

    pub bound_there : (u n : ℕ) → IsBoundTo p.layout p.names u n → IsBoundTo q.layout q.names u n
    bound_there u n b = subst (λ (l : Layout). IsBoundTo l q.names u n) (sym moved.layout) ((moved.bindings u n).0 b)

    pub counts_there : (n : ℕ) → Counts p.layout p.names n → Counts q.layout q.names n
    counts_there n k = counts_of q.layout q.names n n (bound_there n n (own refl k))

    pub field_there : (rank : ℕ) (at : Position) → IsFieldAt p rank at → IsFieldAt q rank at
    field_there rank at k =
        let f = k.counts.field in
        let fields : package_fields q ≡ package_fields p = ap (fields_from 0) (same_place_types c.g c.injective p q moved) in
        let has : slice_get (package_fields q) rank ≡ Some f = ap (λ fs. slice_get fs rank) fields ∙ k.counts.counting.is_field.has_rank in
        record {
          counts = record {
            definition = f.definition;
            name = spelled q f.file f.name;
            field = f;
            counting = field_counts x c.sound after c.right q is_q rank f has;
          };
          named_at = k.named_at;
        }

    method_of : (definition rank : ℕ) (name : List ℕ) (f : PlacedFunction) → IsMethodOf p definition name rank f →
        IsMethodOf q definition (spelled q f.file f.function.name) rank f
    method_of definition rank name f m = record {
      has_rank = ap (λ fs. slice_get fs rank) (same_place_functions c.g c.injective p q moved) ∙ m.has_rank;
      receiver = m.receiver;
      received = m.received;
      declaration = m.declaration;
      binds = binds c.g c.injective p q moved f.file m.receiver.type_name m.declaration m.binds;
      of_type = declares_type c.g c.injective p q moved m.declaration definition m.of_type;
      named = refl;
    }

    pub method_there : (rank : ℕ) (at : Position) → IsMethodAt p rank at → IsMethodAt q rank at
    method_there rank at k =
        let f = k.counts.method in
        let d = k.counts.definition in
        let name = spelled q f.file f.function.name in
        record {
          counts = record {
            definition = d;
            name = name;
            method = f;
            counting =
                method_counts x c.sound after c.right q is_q d rank name f (method_of d rank k.counts.name f k.counts.counting.is_method);
          };
          named_at = k.named_at;
        }

  -- a declaration is declared afterwards where its place is moved
  declared_there : (d : Declaration) (place : Place) → IsDeclaredAt (IsCheckedPackage w known) d place →
      IsDeclaredAt (IsCheckedPackage x after) (moved_declaration c.g d) (r.moved place)
  declared_there (Predeclared n) place k = absurd k
  declared_there (Declared path n) place k =
      let p = k.inside in
      let m = moved_to p k.is_package in
      record {
        inside = q p k.is_package;
        is_package = m.is;
        of_path = m.moved.path ∙ ap c.g k.of_path;
        holds = record {
          at = k.holds.at;
          is_at = record {
            own = k.holds.is_at.own;
            counts = counts_there p k.is_package n k.holds.is_at.counts;
            stands = ap (λ (l : Layout). l.place (literal_of l n)) m.moved.layout ∙ k.holds.is_at.stands;
          };
          begins = m.begins.tokens k.holds.at place k.holds.begins;
        };
      }
  declared_there (Field s) place k =
      let p = k.inside in
      let m = moved_to p k.is_package in
      record {
        inside = q p k.is_package;
        is_package = m.is;
        of_path = m.moved.path ∙ ap c.g k.of_path;
        holds = record {
          at = k.holds.at;
          is_at = field_there p k.is_package s.rank k.holds.at k.holds.is_at;
          begins = m.begins.tokens k.holds.at place k.holds.begins;
        };
      }
  declared_there (Method s) place k =
      let p = k.inside in
      let m = moved_to p k.is_package in
      record {
        inside = q p k.is_package;
        is_package = m.is;
        of_path = m.moved.path ∙ ap c.g k.of_path;
        holds = record {
          at = k.holds.at;
          is_at = method_there p k.is_package s.rank k.holds.at k.holds.is_at;
          begins = m.begins.tokens k.holds.at place k.holds.begins;
        };
      }

  abbrev pub Becomes : Declaration → Declaration → Type 0
  Becomes d e = Corresponds (IsCheckedPackage w known) (IsCheckedPackage x after) r.moved d e

  pub becomes : (d : Declaration) (place : Place) → IsDeclaredAt (IsCheckedPackage w known) d place → Becomes d (moved_declaration c.g d)
  becomes d place k = stands place k (declared_there d place k)

  pub scope_becomes : (p : Package) → IsCheckedPackage w known p → (n : ℕ) → (IsPredeclaredNumber n → ⊥) → Counts p.layout p.names n →
      Becomes (Declared p.path n) (Declared (c.g p.path) n)
  scope_becomes p is n apart counts =
      let place = have_places w known p is n counts apart in
      becomes (Declared p.path n) place.0 (record {
        inside = p;
        is_package = is;
        of_path = refl;
        holds = record {
          at = p.layout.place (literal_of p.layout n);
          is_at = record { own = apart; counts = counts; stands = refl };
          begins = place.1;
        };
      })
