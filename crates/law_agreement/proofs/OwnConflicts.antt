-- What a plain rename does to the identifiers that the scopes of the declaring package bind is told by the old names.
use Rattle.std.proofs.Common.{ℕ, ◌≡◌, ◌<◌, ◌⊎◌, inl, inr, List, length, refl, sym, ap, subst, ◌∙◌, arith}
use Rattle.std.specs.Prelude.{◌↔◌, Option, Some, None}
use Rattle.std.proofs.lemmas.Bool.{cases_lt}
use Rattle.base_files.specs.Workspace.{Workspace}
use Rattle.base_files.specs.declared.place.Place.{Place}
use Rattle.base_edits.specs.Revisions.{Revision}
use Rattle.base_edits.specs.RevisionsOfEdits.{revision_of}
use Rattle.go_scope.specs.Bindings.{Layout, Names, Counts, IsBoundTo, use_bound, own}
use Rattle.go_scope.specs.FileSites.{universe}
use Rattle.go_scope.proofs.Nests.{nests}
use Rattle.go_scope.proofs.Uniqueness.{same_or_not, bound_once}
use Rattle.law_rename.specs.Renaming.{WouldCapture, WouldLose, HasNoConflictAt, Renames, IsCaptured}
use Rattle.law_rename.proofs.AfterRename.{declared_before}
use Rattle.law_rename.proofs.Captured.{told}
use Rattle.law_rename.proofs.Conflicts.{captures, loses}
use Rattle.law_rename.proofs.Exactness.{exact_at}
use Rattle.types_declared.specs.Package.{Package}
use Rattle.workspace_check.specs.Verdicts.{Verdicts}
use Rattle.refs_binding.specs.declared.declaration.Declaration.{Declaration}
use Rattle.refs_binding.specs.declared.declaration.Declaration.TheVariants.{Predeclared, Declared, Field, Method}
use Rattle.refs_binding.specs.Binding.{IsPredeclaredNumber, BindsByScope}
use Rattle.refs_binding.specs.DeclaringPlaces.{IsDeclaredAt}
use Rattle.refs_binding.specs.Identifiers.{BeginsAt}
use Rattle.refs_binding.specs.Uses.{IsCheckedPackage}
use Rattle.refactor_conflict.specs.Corresponding.{IsSamePredeclared}
use Rattle.refactor_conflict.specs.Corresponding.{predeclared}
use Rattle.refactor_conflict.proofs.Becoming.{StandBoth, by_cases}
use Rattle.refactor_conflict.specs.ScopedPackages.{IsScopedIn}
use Rattle.refactor_conflict.specs.ScopeBindings.{IsScopeUse}
use Rattle.refactor_conflict.proofs.OneUse.{one_scope_use}
use Rattle.refactor_conflict.specs.BoundAfter.{HasBecome, IsBoundByScopes}
use Rattle.refactor_conflict.specs.Conflicts.{IsCapturer, LostOrCaptured, is_lost, is_captured}
use Rattle.refactor_conflict.specs.declared.conflict.Capturer.{Capturer}
use Rattle.refactor_conflict.proofs.BoundAfter.{counted_use}
use Rattle.refactor_conflict.proofs.OnePlace.{only_place}
use Rattle.law_renamed_workspaces.specs.Layouts.{IsRelaid}
use Rattle.law_renamed_workspaces.proofs.OwnNames.{own_renames}
use Rattle.law_agreement.specs.ConflictsByTables.{IsOwnNumber, WouldTurn, OwnConflictsAreTold}
use Rattle.law_renamed_workspaces.specs.Apart.{MoveApart, DeclarationsMoveApart}
use Rattle.law_renamed_workspaces.specs.ScopedPackages.{HasMovedTokens, ScopedPackagesAreRelaid}
use Rattle.law_renamed_workspaces.proofs.MovedApart.{move_apart}
use Rattle.law_renamed_workspaces.proofs.ScopedAfter.{scoped_relaid}
use Rattle.law_renamed_workspaces.proofs.There.{becomes_itself as declared_again}
use Rattle.law_agreement.proofs.ScopedPlaces.{bound_there}

-- The declaration that has a number in the scopes of a package.
module _ (p : Package) where
  pub numbered : (n : ℕ) → (d : Declaration) × IsOwnNumber p n d
  numbered n = elim (cases_lt n (length universe)) [
    | inl lt ↦ (Predeclared n, (refl, lt))
    | inr ge ↦ (Declared p.path n, (refl, refl, (λ (lt : n < length universe). absurd (omega (arith, lt, ge)))))
  ]

  pub number_of : (u : ℕ) (d : Declaration) → BindsByScope p u d → (n : ℕ) × (IsOwnNumber p n d × IsBoundTo p.layout p.names u n)
  number_of u (Predeclared n) h = (n, ((refl, h.0), h.1))
  number_of u (Declared path n) h = (n, ((h.0, refl, h.1), h.2))
  number_of u (Field s) h = absurd h
  number_of u (Method s) h = absurd h

  pub one_numbered : (n : ℕ) (d e : Declaration) → IsOwnNumber p n d → IsOwnNumber p n e → d ≡ e
  one_numbered n (Predeclared m) (Predeclared k) h x = ap Predeclared (h.0 ∙ sym x.0)
  one_numbered n (Predeclared m) (Declared path k) h x = absurd (x.2 h.1)
  one_numbered n (Declared path m) (Predeclared k) h x = absurd (h.2 x.1)
  one_numbered n (Declared path m) (Declared other k) h x = ap (λ q. Declared q m) (h.0 ∙ sym x.0) ∙ ap (Declared other) (h.1 ∙ sym x.1)
  one_numbered n (Predeclared m) (Field s) h x = absurd x
  one_numbered n (Predeclared m) (Method s) h x = absurd x
  one_numbered n (Declared path m) (Field s) h x = absurd x
  one_numbered n (Declared path m) (Method s) h x = absurd x
  one_numbered n (Field s) e h x = absurd h
  one_numbered n (Method s) e h x = absurd h

  -- a declaration has one number
  pub one_number : (m n : ℕ) (d : Declaration) → IsOwnNumber p m d → IsOwnNumber p n d → m ≡ n
  one_number m n (Predeclared k) h x = sym h.0 ∙ x.0
  one_number m n (Declared path k) h x = sym h.1 ∙ x.1
  one_number m n (Field s) h x = absurd h
  one_number m n (Method s) h x = absurd h

counts_of : (l : Layout) (names : Names) (u d : ℕ) → IsBoundTo l names u d → Counts l names d
counts_of l names u d (use_bound used b) = b.counts
counts_of l names u d (own e c) = c

-- A package of the workspace before the change, and that package after it.
module _ (w : Workspace) (known : Verdicts) (r : Revision) (apart : MoveApart w known r) (p q : Package) (is : IsCheckedPackage w known p)
    (scoped : IsScopedIn r.after q) (relaid : IsRelaid r p q) (moved : HasMovedTokens r p q) where
  abbrev B : Declaration → Declaration → Type 0
  B = HasBecome w known r

  pub bound_as : (u n : ℕ) (d : Declaration) → IsOwnNumber p n d → IsBoundTo p.layout q.names u n → BindsByScope q u d
  bound_as u n (Predeclared m) h b =
      let here : IsBoundTo q.layout q.names u n = subst (λ l. IsBoundTo l q.names u n) (sym relaid.layout) b in
      subst (λ k. IsPredeclaredNumber k × IsBoundTo q.layout q.names u k) (sym h.0) (h.1, here)
  bound_as u n (Declared path m) h b =
      let here : IsBoundTo q.layout q.names u n = subst (λ l. IsBoundTo l q.names u n) (sym relaid.layout) b in
      let other : (IsPredeclaredNumber m → ⊥) × IsBoundTo q.layout q.names u m =
      subst (λ k. (IsPredeclaredNumber k → ⊥) × IsBoundTo q.layout q.names u k) (sym h.1) (h.2, here) in
      (h.0 ∙ sym relaid.path, other.0, other.1)
  bound_as u n (Field s) h b = absurd h
  bound_as u n (Method s) h b = absurd h

  pub number_after : (u : ℕ) (d : Declaration) → BindsByScope q u d → (n : ℕ) × (IsOwnNumber p n d × IsBoundTo p.layout q.names u n)
  number_after u (Predeclared n) h = (n, ((refl, h.0), subst (λ l. IsBoundTo l q.names u n) relaid.layout h.1))
  number_after u (Declared path n) h = (n, ((h.0 ∙ relaid.path, refl, h.1), subst (λ l. IsBoundTo l q.names u n) relaid.layout h.2))
  number_after u (Field s) h = absurd h
  number_after u (Method s) h = absurd h

  -- what counts before and after the change has become what has its number
  pub becomes_itself : (n : ℕ) (d : Declaration) → IsOwnNumber p n d → Counts p.layout p.names n → Counts p.layout q.names n → B d d
  becomes_itself n (Predeclared m) h before after = predeclared
  becomes_itself n (Declared path m) h before after =
      let counted : Counts q.layout q.names n = subst (λ (k : Layout). Counts k q.names n) (sym relaid.layout) after in
      subst (λ z. B (Declared z m) (Declared z m)) (sym h.0)
      (subst (λ k. B (Declared p.path k) (Declared p.path k)) (sym h.1)
      (declared_again w known r p q is scoped relaid moved n h.2 before counted))
  becomes_itself n (Field s) h before after = absurd h
  becomes_itself n (Method s) h before after = absurd h

  -- and nothing else has become that
  nowhere : (e : Declaration) (n : ℕ) → e ≡ Predeclared n → (place : Place) → IsDeclaredAt (IsScopedIn r.after) e place → ⊥
  nowhere e n same place h = subst (λ d. IsDeclaredAt (IsScopedIn r.after) d place) same h

  pub only_itself : (c d e : Declaration) (u : ℕ) (place : Place) → IsScopeUse r.after e place → B c e → B d e → c ≡ d
  only_itself c d e u place used h k =
      by_ways (by_cases (IsCheckedPackage w known) (IsScopedIn r.after) r.moved c e h) (by_cases (IsCheckedPackage w known) (IsScopedIn r.after) r.moved d e k)
    where
      by_ways : IsSamePredeclared c e ⊎ StandBoth (IsCheckedPackage w known) (IsScopedIn r.after) r.moved c e →
          IsSamePredeclared d e ⊎ StandBoth (IsCheckedPackage w known) (IsScopedIn r.after) r.moved d e → c ≡ d
      by_ways (inl m) (inl n) = m.one ∙ (sym m.other ∙ n.other) ∙ sym n.one
      by_ways (inl m) (inr s) = absurd (nowhere e m.number m.other (r.moved s.place) s.new)
      by_ways (inr s) (inl n) = absurd (nowhere e n.number n.other (r.moved s.place) s.new)
      by_ways (inr s) (inr t) =
          apart c d s.place t.place s.old t.old
          (only_place r.after e (counted_use r.after place e used) (r.moved s.place) (r.moved t.place) s.new t.new)

-- the conflicts of one identifier
module _ (w : Workspace) (known : Verdicts) (r : Revision) (apart : MoveApart w known r) (p q : Package)
    (is : IsCheckedPackage w known p) (scoped : IsScopedIn r.after q) (relaid : IsRelaid r p q) (moved : HasMovedTokens r p q)
    (n : ℕ) (name : List ℕ) (renames : Renames p.layout p.names n name q.names) (place : Place) (u : ℕ)
    (begins : BeginsAt p place.path place.offset u) (old : Declaration) (was : BindsByScope p u old) where
  abbrev E : Declaration → Type 0
  E = IsBoundByScopes r place

  abbrev Bec : Declaration → Declaration → Type 0
  Bec = HasBecome w known r

  after_begins : BeginsAt q (r.moved place).path (r.moved place).offset u
  after_begins = moved.names u place begins

  -- what the identifier is bound to before and after, by numbers
  abbrev m : ℕ
  m = (number_of p u old was).0

  is_old : IsOwnNumber p m old
  is_old = (number_of p u old was).1.0

  was_bound : IsBoundTo p.layout p.names u m
  was_bound = (number_of p u old was).1.1

  counts_before : (c : ℕ) → IsBoundTo p.layout q.names u c → Counts p.layout p.names c
  counts_before c b =
      renames.all_count c
      (declared_before p.layout (nests p.layout renames.well_formed) p.names q.names n name renames.all_count renames.declared renames.renaming c
      (counts_of p.layout q.names u c b).declares)

  now_used : (c : ℕ) (d : Declaration) → IsOwnNumber p c d → IsBoundTo p.layout q.names u c → E d
  now_used c d h b =
      record { used_in = q; is_package = scoped; user = u; begins = after_begins; bound = bound_as w known r apart p q is scoped relaid moved u c d h b }

  now_is : (c : ℕ) (d : Declaration) → IsOwnNumber p c d → IsBoundTo p.layout q.names u c → Bec d d
  now_is c d h b =
      becomes_itself w known r apart p q is scoped relaid moved c d h (counts_before c b) (counts_of p.layout q.names u c b)

  found : (e : Declaration) → E e → (c : ℕ) × (IsOwnNumber p c e × IsBoundTo p.layout q.names u c)
  found e h = number_after w known r apart p q is scoped relaid moved u e (bound_there r.after q scoped (r.moved place) u after_begins e h)

  only : (c d e : Declaration) → E e → Bec c e → Bec d e → c ≡ d
  only c d e h x y = only_itself w known r apart p q is scoped relaid moved c d e u (r.moved place) h x y

  is_told : (c : ℕ) → IsCaptured p.layout p.names q.names u c → WouldCapture p.layout p.names n name u c
  is_told c k =
      told p.layout (nests p.layout renames.well_formed) p.names q.names n name renames.all_count renames.declared renames.other_name renames.renaming u c k

  is_taken : (c : ℕ) → WouldCapture p.layout p.names n name u c → IsCaptured p.layout p.names q.names u c
  is_taken c k =
      captures p.layout (nests p.layout renames.well_formed) p.names q.names n name renames.all_count renames.declared renames.other_name renames.renaming u c k

  stays : IsBoundTo p.layout q.names u m ↔ HasNoConflictAt p.layout p.names n name u
  stays =
      exact_at p.layout (nests p.layout renames.well_formed) p.names q.names n name renames.all_count renames.declared renames.other_name renames.renaming u m
      was_bound

  pub to_turn : (by : Option Capturer) → LostOrCaptured Bec (IsCheckedPackage w known) E old by → WouldTurn w known p n name u by
  to_turn by (is_lost none) =
      let unbound : (c : ℕ) → IsBoundTo p.layout q.names u c → ⊥ =
      (λ c b. let d = numbered p c in none d.0 d.0 (now_used c d.0 d.1 b) (now_is c d.0 d.1 b)) in
      ((λ safe. unbound m (stays.1 safe)), (λ c k. unbound c (is_taken c k).now_bound))
  to_turn by (is_captured {by = x} e c used become tells not) =
      let f = found e used in
      let itself : Bec e e = now_is f.0 e f.1.0 f.1.1 in
      let other : f.0 ≡ m → ⊥ =
      (λ same. let here : old ≡ e = one_numbered p m old e is_old (subst (λ k. IsOwnNumber p k e) same f.1.0) in
      not e used (subst (λ d. Bec d e) (sym here) itself)) in (
        f.0,
        (
          is_told f.0 (record { old = m; was = was_bound; other = other; now_bound = f.1.1 }),
          (e, (f.1.0, subst (λ d. IsCapturer (IsCheckedPackage w known) d x) (only c e e used become itself) tells)),
        ),
      )

  pub from_turn : (by : Option Capturer) → WouldTurn w known p n name u by → LostOrCaptured Bec (IsCheckedPackage w known) E old by
  from_turn None h =
      is_lost (λ e c used become.
      let f = found e used in
      elim (same_or_not f.0 m) [
        | inl same ↦ h.0 (stays.0 (subst (λ k. IsBoundTo p.layout q.names u k) same f.1.1))
        | inr other ↦ h.1 f.0 (is_told f.0 (record { old = m; was = was_bound; other = other; now_bound = f.1.1 }))
      ])
  from_turn (Some x) h =
      let c = h.0 in
      let taken = is_taken c h.1.0 in
      let d = h.1.1.0 in
      let is_d : IsOwnNumber p c d = h.1.1.1.0 in
      let used : E d = now_used c d is_d taken.now_bound in
      let itself : Bec d d = now_is c d is_d taken.now_bound in
      is_captured d d used itself h.1.1.1.1 (λ e now become.
      let same : d ≡ e = one_scope_use r.after (r.moved place) d e used now in
      let olds : old ≡ d = only old d d used (subst (λ z. Bec old z) (sym same) become) itself in
      let number : m ≡ c = one_number p m c d (subst (IsOwnNumber p m) olds is_old) is_d in
      let before : m ≡ taken.old = bound_once p.layout (nests p.layout renames.well_formed) p.names u m taken.old was_bound taken.was in
      taken.other (sym number ∙ before))

  -- An identifier of which the old names tell that another declaration displaces it is lost.
  pub displaced_turns : WouldLose p.layout p.names n name u → WouldTurn w known p n name u None
  displaced_turns lost = (
    (λ safe. safe.not_lost lost),
    (λ c k.
        (loses p.layout (nests p.layout renames.well_formed) p.names q.names n name renames.all_count renames.declared renames.other_name
        renames.renaming u lost).bound_to_none c (is_taken c k).now_bound),
  )

own_conflicts_by : ScopedPackagesAreRelaid → DeclarationsMoveApart → OwnConflictsAreTold
own_conflicts_by relaid apart w known p n name s rename is place u begins old was by =
    let r = revision_of w s in
    let q = relaid w known (Declared p.path n) name s rename p is in
    let renames = own_renames w known p.path n name s rename p q.0 is refl q.1.1.0 in
    let far = apart w known (Declared p.path n) name s rename.rename in (
      to_turn w known r far p q.0 is q.1.0 q.1.1.0 q.1.1.1 n name renames place u begins old was by,
      from_turn w known r far p q.0 is q.1.0 q.1.1.0 q.1.1.1 n name renames place u begins old was by,
    )

pub own_conflicts_told : OwnConflictsAreTold
own_conflicts_told = own_conflicts_by scoped_relaid move_apart
