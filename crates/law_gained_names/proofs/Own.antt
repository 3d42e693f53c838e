-- The package in which an import without a name gains one: what its identifiers are bound to after the rename, by the old numbers.
use Rattle.std.proofs.Common.{ℕ, ◌≡◌, ◌⊎◌, inl, inr, List, refl, sym, ap, subst, ◌∙◌}
use Rattle.std.specs.Prelude.{◌↔◌}
use Rattle.base_files.specs.Workspace.{Workspace}
use Rattle.base_files.specs.declared.place.Place.{Place}
use Rattle.base_edits.specs.EditSet.{FileChanges}
use Rattle.base_edits.specs.Moved.{moved}
use Rattle.base_edits.specs.Revisions.{Revision}
use Rattle.base_edits.specs.RevisionsOfEdits.{revision_of}
use Rattle.go_scope.specs.Bindings.{Counts, IsBoundTo, Layout, own}
use Rattle.types_declared.specs.Laid.{literal_of}
use Rattle.types_declared.specs.Package.{Package}
use Rattle.workspace_check.specs.Verdicts.{Verdicts}
use Rattle.refs_binding.specs.declared.declaration.Declaration.{Declaration}
use Rattle.refs_binding.specs.declared.declaration.Declaration.TheVariants.{Predeclared, Declared, Field, Method}
use Rattle.refs_binding.specs.Binding.{IsPredeclaredNumber}
use Rattle.refs_binding.specs.DeclaringPlaces.{IsDeclaredAt}
use Rattle.refs_binding.specs.Identifiers.{BeginsAt}
use Rattle.refs_binding.specs.Uses.{IsCheckedPackage}
use Rattle.refs_places.proofs.Declared.{one_place}
use Rattle.refactor_conflict.specs.Corresponding.{IsSamePredeclared}
use Rattle.refactor_conflict.specs.Corresponding.{predeclared, stands}
use Rattle.refactor_conflict.proofs.Becoming.{StandBoth, by_cases}
use Rattle.refactor_conflict.specs.ScopedPackages.{IsScopedIn}
use Rattle.refactor_conflict.specs.BoundAfter.{HasBecome, IsBoundByScopes}
use Rattle.refactor_conflict.proofs.BoundAfter.{counted_use}
use Rattle.law_renamed_workspaces.proofs.OwnNames.{counted}
use Rattle.law_agreement.specs.ConflictsByTables.{IsOwnNumber}
use Rattle.law_agreement.proofs.OwnConflicts.{bound_as, number_after, numbered, one_numbered}
use Rattle.law_agreement.proofs.ScopedPlaces.{bound_there}
use Rattle.law_renamed_workspaces.specs.Apart.{MoveApart}
use Rattle.law_renamed_workspaces.proofs.MovedApart.{move_apart}
use Rattle.law_renamed_workspaces.proofs.MovedTokens.{have_places}
use Rattle.law_renamed_workspaces.proofs.There.{becomes_itself}
use Rattle.law_agreement.proofs.Afterwards.{becomes_once}
use Rattle.law_gained_names.specs.UnnamedRenames.{IsNamedFirst, IsUnnamedRename}
use Rattle.law_gained_names.proofs.Numbered as numbers
use Rattle.law_gained_names.proofs.Tokens as tokens

module _ (w : Workspace) (known : Verdicts) (p : Package) (n : ℕ) (name : List ℕ) (s : FileChanges) (h : IsUnnamedRename w known p n name s)
    (f : IsNamedFirst w known p n name s) where
  abbrev pub r : Revision
  r = revision_of w s

  abbrev v : Workspace
  v = numbers.v w known p n name s h f

  abbrev q : Package
  q = numbers.q w known p n name s h f

  abbrev o : Package
  o = numbers.o w known p n name s h f

  abbrev g : ℕ → ℕ
  g = numbers.g w known p n name s h f

  abbrev second : Revision
  second = numbers.second w known p n name s h f

  abbrev names : ℕ → List ℕ
  names = numbers.names w known p n name s h f

  bound : (later : ℕ → List ℕ) (u d : ℕ) → IsBoundTo p.layout (λ z. later (g z)) u d ↔ IsBoundTo q.layout later (g u) (g d)
  bound = numbers.bound w known p n name s h f

  second_apart : MoveApart v known second
  second_apart = move_apart v known (Declared q.path n) name f.renaming f.renames.rename.rename

  pub both_apart : MoveApart w known r
  both_apart = move_apart w known (Declared p.path n) name s h.rename

  -- the declaration `d` of the workspace between stands where `c` did: what `d` becomes by the second step, `c` becomes by both
  pub became : (c d e : Declaration) (place : Place) → IsDeclaredAt (IsCheckedPackage w known) c place →
      IsDeclaredAt (IsCheckedPackage v known) d (moved f.naming place) → HasBecome v known second d e → HasBecome w known r c e
  became c d e place old middle b = by_way (by_cases (IsCheckedPackage v known) (IsScopedIn second.after) second.moved d e b)
    where
      by_way : IsSamePredeclared d e ⊎ StandBoth (IsCheckedPackage v known) (IsScopedIn second.after) second.moved d e → HasBecome w known r c e
      by_way (inl same) = absurd (subst (λ x. IsDeclaredAt (IsCheckedPackage v known) x (moved f.naming place)) same.one middle)
      by_way (inr both) =
          let one : both.place ≡ moved f.naming place = one_place v known d both.place (moved f.naming place) both.old middle in
          let there : second.moved both.place ≡ r.moved place = ap (moved f.renaming) one ∙ sym (f.moves place) in
          stands place old
          (subst (λ (x : Workspace). IsDeclaredAt (IsScopedIn x) e (r.moved place)) (sym f.files)
          (subst (λ y. IsDeclaredAt (IsScopedIn second.after) e y) there both.new))

  -- the package afterwards

  pub scoped : IsScopedIn r.after o
  scoped = subst (λ (x : Workspace). IsScopedIn x o) (sym f.files) (numbers.after w known p n name s h f).1.0

  pub begins_after : (u : ℕ) (place : Place) → BeginsAt p place.path place.offset u → BeginsAt o (r.moved place).path (r.moved place).offset (g u)
  begins_after u place b =
      subst (λ (y : Place). BeginsAt o y.path y.offset (g u)) (sym (f.moves place))
      ((numbers.after w known p n name s h f).1.1.1.names (g u) (moved f.naming place) (tokens.begins w known p n name s h f u place b))

  -- what is declared at a number

  declared_there : (m : ℕ) → (IsPredeclaredNumber m → ⊥) → Counts p.layout p.names m → (place : Place) ×
      IsDeclaredAt (IsCheckedPackage w known) (Declared p.path m) place
  declared_there m other counts =
      let place = have_places w known p h.is_package m counts other in (
        place.0,
        record {
          inside = p;
          is_package = h.is_package;
          of_path = refl;
          holds = record {
            at = p.layout.place (literal_of p.layout m);
            is_at = record { own = other; counts = counts; stands = refl };
            begins = place.1;
          };
        },
      )

  becomes_number : (m : ℕ) → (IsPredeclaredNumber m → ⊥) → Counts p.layout p.names m → Counts p.layout names m →
      HasBecome w known r (Declared p.path m) (Declared q.path (g m))
  becomes_number m other was now =
      let place = declared_there m other was in
      let relaid = numbers.relaid w known p n name s h f in
      let moves = (numbers.after w known p n name s h f).1.1.1 in
      let before : Counts q.layout q.names (g m) =
      counted q.layout q.names (g m) (g m) ((numbers.bound_first w known p n name s h f m m).0 (own refl was)) in
      let then : Counts q.layout o.names (g m) = counted q.layout o.names (g m) (g m) ((bound o.names m m).0 (own refl now)) in
      let there : Counts o.layout o.names (g m) = subst (λ (l : Layout). Counts l o.names (g m)) (sym relaid.layout) then in
      let itself : HasBecome v known second (Declared q.path (g m)) (Declared q.path (g m)) =
      becomes_itself v known second q o f.renames.is_package (numbers.after w known p n name s h f).1.0 relaid moves (g m)
      (numbers.own_after w known p n name s h f m other) before there in
      became (Declared p.path m) (Declared q.path (g m)) (Declared q.path (g m)) place.0 place.1 (tokens.declared w known p n name s h f m place.0 place.1)
      itself

  -- The declaration `e` afterwards is that of `d`, which has the number `m`.
  pub record IsNumberAfter (m : ℕ) (d e : Declaration) : Type 0 where
    pub own : IsOwnNumber q (g m) e
    pub become : Counts p.layout p.names m → Counts p.layout names m → HasBecome w known r d e

  pub goes_on : (m : ℕ) (d : Declaration) → IsOwnNumber p m d → (e : Declaration) × IsNumberAfter m d e
  goes_on m (Predeclared k) i =
      let same = numbers.same_predeclared w known p n name s h f m i.1 in (
        Predeclared k,
        record {
          own = (i.0 ∙ sym same, subst (λ j. IsPredeclaredNumber j) (sym same) i.1);
          become = λ was now. predeclared;
        },
      )
  goes_on m (Declared path k) i = (
    Declared q.path (g m),
    record {
      own = (refl, refl, numbers.own_after w known p n name s h f m i.2);
      become = λ was now.
          subst (λ z. HasBecome w known r (Declared z k) (Declared q.path (g m))) (sym i.0)
          (subst (λ j. HasBecome w known r (Declared p.path j) (Declared q.path (g m))) (sym i.1) (becomes_number m i.2 was now));
    },
  )
  goes_on m (Field t) i = absurd i
  goes_on m (Method t) i = absurd i

  -- what an identifier is bound to afterwards

  module _ (u : ℕ) (place : Place) (begins : BeginsAt p place.path place.offset u) where
    pub used_after : (m : ℕ) (d e : Declaration) → IsNumberAfter m d e → IsBoundTo p.layout names u m → IsBoundByScopes r place e
    used_after m d e i b = record {
      used_in = o;
      is_package = scoped;
      user = g u;
      begins = begins_after u place begins;
      bound =
          bound_as v known second second_apart q o f.renames.is_package (numbers.after w known p n name s h f).1.0
          (numbers.relaid w known p n name s h f) (numbers.after w known p n name s h f).1.1.1 (g u) (g m) e i.own ((bound o.names u m).0 b);
    }

    -- An identifier of this number declares `e` afterwards, and the identifier is bound to it.
    pub record IsFoundAs (e : Declaration) : Type 0 where
      pub number : ℕ
      pub was : Declaration
      pub numbered : IsOwnNumber p number was
      pub after : IsNumberAfter number was e
      pub bound : IsBoundTo p.layout names u number

    pub found : (e : Declaration) → IsBoundByScopes r place e → IsFoundAs e
    found e used =
        let there = bound_there r.after o scoped (r.moved place) (g u) (begins_after u place begins) e used in
        let at =
        number_after v known second second_apart q o f.renames.is_package (numbers.after w known p n name s h f).1.0
        (numbers.relaid w known p n name s h f) (numbers.after w known p n name s h f).1.1.1 (g u) e there in
        let m = numbers.bound_to_old w known p n name s h f o.names u at.0 at.1.1 in
        let d = numbered p m.0 in
        let to = goes_on m.0 d.0 d.1 in
        let own_too : IsOwnNumber q (g m.0) e = subst (λ k. IsOwnNumber q k e) (sym m.1) at.1.0 in
        let same : to.0 ≡ e = one_numbered q (g m.0) to.0 e to.1.own own_too in
        record {
          number = m.0;
          was = d.0;
          numbered = d.1;
          after = subst (IsNumberAfter m.0 d.0) same to.1;
          bound = (bound o.names u m.0).1 (subst (λ k. IsBoundTo q.layout o.names (g u) k) (sym m.1) at.1.1);
        }

    -- it was one declaration
    pub only : (c d e : Declaration) → IsBoundByScopes r place e → HasBecome w known r c e → HasBecome w known r d e → c ≡ d
    only c d e used a b = becomes_once w known r both_apart c d e (counted_use r.after (r.moved place) e used) a b
