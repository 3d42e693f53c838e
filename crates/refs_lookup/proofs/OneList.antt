-- There is at most one list of uses for a byte, and at most one right answer besides running out of memory.
use Rattle.std.proofs.Common.{ℕ, ◌≡◌, List, [], ◌∷◌, ap, sym, subst, refl}
use Rattle.std.specs.Prelude.{None, Result, Ok, Err}
use Rattle.std.specs.FinMap as files
use Rattle.base_files.specs.Path.{IsPath}
use Rattle.base_files.specs.Workspace.{Workspace}
use Rattle.base_files.specs.declared.fault_kind.FaultKind.{FaultKind}
use Rattle.base_files.specs.declared.place.Place.{Place}
use Rattle.base_files.specs.declared.refusal.Refusal.{Refusal}
use Rattle.base_files.specs.declared.refusal.Refusal.TheVariants as refusal
use Rattle.types_declared.specs.Package.{Package}
use Rattle.workspace_check.specs.declared.fault.FileFault.{FileFault}
use Rattle.workspace_check.specs.FaultLists.{ListsFaults}
use Rattle.workspace_check.specs.Verdicts.{Verdicts, AreVerdicts}
use Rattle.workspace_check.proofs.Members.{one_sorted}
use Rattle.workspace_check.proofs.OneList.{one_whole_list}
use Rattle.refs_binding.specs.Identifiers.{HoldsByte}
use Rattle.refs_binding.specs.Uses.{BindsThroughLiteral, IsUseOf, IsFilePackage, ListsUses}
use Rattle.refs_binding.specs.Uses.{HasNoIdentifier, HasNoDeclaration, HasFileAt, HasFirstFault, AnswersUses}
use Rattle.refs_lookup.proofs.OnePlace.{one_asked}
use Rattle.refs_binding.proofs.PlaceOrder.{place_cmp_total}
use Rattle.refs_binding.proofs.Alike.{use_for, asked_for, held_for}
use Rattle.refs_lookup.proofs.OneDeclaration.{one_held}

module _ (w : Workspace) (path : List ℕ) (offset : ℕ) where
  pub one_list : (xs ys : List Place) → ListsUses w path offset xs → ListsUses w path offset ys → xs ≡ ys
  one_list xs ys h k =
      let same : h.declaration ≡ k.declaration =
      one_held w k.known path offset h.declaration k.declaration (held_for w h.known k.known h.right k.right path offset h.declaration h.is_asked) k.is_asked in
      one_sorted place_cmp_total xs ys h.in_order k.in_order
      (λ place c. (k.each place).1
      (subst (λ d. IsUseOf w k.known d place) same (use_for w h.known k.known h.right k.right h.declaration place ((h.each place).0 c))))
      (λ place c. (h.each place).1
      (subst (λ d. IsUseOf w h.known d place) (sym same) (use_for w k.known h.known k.right h.right k.declaration place ((k.each place).0 c))))

  nothing_held : (known : Verdicts) → AreVerdicts w known → (p : Package) (u : ℕ) → IsFilePackage w known path p → HoldsByte p path offset u →
      HasNoIdentifier w path offset → ⊥
  nothing_held known right p u is at n = n.none p (asked_for w known n.known right n.right path p is) u at

  nothing_bound : (xs : List Place) → ListsUses w path offset xs → HasNoDeclaration w path offset → ⊥
  nothing_bound xs h n =
      let x = held_for w h.known n.known h.right n.right path offset h.declaration h.is_asked in
      let same = one_asked w n.known path offset x.asked_in n.asked_in x.number n.number x.is_asked n.is_asked x.at n.at in
      let bound : BindsThroughLiteral w n.known n.asked_in x.number h.declaration =
      subst (λ (p : Package). BindsThroughLiteral w n.known p x.number h.declaration) same.0 x.bound in
      n.unbound h.declaration (subst (λ u. BindsThroughLiteral w n.known n.asked_in u h.declaration) same.1 bound)

-- An answer other than running out of memory.
data Told (w : Workspace) (path : List ℕ) (offset : ℕ) : Result (List Place) Refusal → Type 0 where
  lists : {xs : List Place} → HasFileAt w path → ListsFaults w [] → ListsUses w path offset xs → Told w path offset (Ok xs)
  no_path : (IsPath 2 path → ⊥) → Told w path offset (Err refusal.BadPath)
  no_file : IsPath 2 path → files.get w path ≡ None → Told w path offset (Err refusal.NoFile)
  faulty : {place : Place} {kind : FaultKind} → HasFileAt w path → HasFirstFault w place kind → Told w path offset (Err (refusal.Faulty place kind))
  unheld : HasFileAt w path → ListsFaults w [] → HasNoIdentifier w path offset → Told w path offset (Err refusal.NoIdentifier)
  unbound : HasFileAt w path → ListsFaults w [] → HasNoDeclaration w path offset → Told w path offset (Err refusal.NotRenamable)

told : (w : Workspace) (path : List ℕ) (offset : ℕ) (r : Result (List Place) Refusal) → AnswersUses w path offset r → (r ≡ Err refusal.Memory → ⊥) →
    Told w path offset r
told w path offset (Ok xs) h other = lists h.0 h.1 h.2
told w path offset (Err refusal.Memory) h other = absurd (other refl)
told w path offset (Err refusal.BadPath) h other = no_path h
told w path offset (Err refusal.NoFile) h other = no_file h.0 h.1
told w path offset (Err (refusal.Faulty place kind)) h other = faulty h.0 h.1
told w path offset (Err refusal.NoIdentifier) h other = unheld h.0 h.1 h.2
told w path offset (Err refusal.NotRenamable) h other = unbound h.0 h.1 h.2
told w path offset (Err r) h other = absurd h

abbrev first_or : FileFault → List FileFault → FileFault
first_or f [] = f
first_or f (x ∷ xs) = x

module _ (w : Workspace) where
  not_sound : (place : Place) (kind : FaultKind) → HasFirstFault w place kind → ListsFaults w [] → ⊥
  not_sound place kind h sound =
      let fault : FileFault = record { place = place; kind = kind } in
      let same : (fault ∷ h.others) ≡ [] = one_whole_list w (fault ∷ h.others) [] h.listed sound in
      let z : ⊥ = cc in z

  one_fault : (place other : Place) (kind sort : FaultKind) → HasFirstFault w place kind → HasFirstFault w other sort →
      ◌≡◌ {A = Result (List Place) Refusal} (Err (refusal.Faulty place kind)) (Err (refusal.Faulty other sort))
  one_fault place other kind sort h k =
      let fault : FileFault = record { place = place; kind = kind } in
      let also : FileFault = record { place = other; kind = sort } in
      let same : (fault ∷ h.others) ≡ (also ∷ k.others) = one_whole_list w (fault ∷ h.others) (also ∷ k.others) h.listed k.listed in
      ap (λ l. Err (refusal.Faulty (first_or fault l).place (first_or fault l).kind)) same

module _ (w : Workspace) (path : List ℕ) (offset : ℕ) where
  one_told : (r s : Result (List Place) Refusal) → Told w path offset r → Told w path offset s → r ≡ s
  one_told _ _ (lists {xs = xs} f c l) (lists {xs = ys} f' c' l') = ap Ok (one_list w path offset xs ys l l')
  one_told _ _ (lists {xs = xs} f c l) (no_path n') = absurd (n' (f.0))
  one_told _ _ (lists {xs = xs} f c l) (no_file p' g') = absurd (f.1 g')
  one_told _ _ (lists {xs = xs} f c l) (faulty {place = a'} {kind = k'} f' h') = absurd (not_sound w a' k' h' c)
  one_told _ _ (lists {xs = xs} f c l) (unheld f' c' n') =
      absurd (nothing_held w path offset l.known l.right l.is_asked.asked_in l.is_asked.number l.is_asked.is_asked l.is_asked.at n')
  one_told _ _ (lists {xs = xs} f c l) (unbound f' c' n') = absurd (nothing_bound w path offset xs l n')
  one_told _ _ (no_path n) (lists {xs = ys} f' c' l') = absurd (n (f'.0))
  one_told _ _ (no_path n) (no_path n') = refl
  one_told _ _ (no_path n) (no_file p' g') = absurd (n (p'))
  one_told _ _ (no_path n) (faulty {place = a'} {kind = k'} f' h') = absurd (n (f'.0))
  one_told _ _ (no_path n) (unheld f' c' n') = absurd (n (f'.0))
  one_told _ _ (no_path n) (unbound f' c' n') = absurd (n (f'.0))
  one_told _ _ (no_file p g) (lists {xs = ys} f' c' l') = absurd (f'.1 g)
  one_told _ _ (no_file p g) (no_path n') = absurd (n' (p))
  one_told _ _ (no_file p g) (no_file p' g') = refl
  one_told _ _ (no_file p g) (faulty {place = a'} {kind = k'} f' h') = absurd (f'.1 g)
  one_told _ _ (no_file p g) (unheld f' c' n') = absurd (f'.1 g)
  one_told _ _ (no_file p g) (unbound f' c' n') = absurd (f'.1 g)
  one_told _ _ (faulty {place = a} {kind = k} f h) (lists {xs = ys} f' c' l') = absurd (not_sound w a k h c')
  one_told _ _ (faulty {place = a} {kind = k} f h) (no_path n') = absurd (n' (f.0))
  one_told _ _ (faulty {place = a} {kind = k} f h) (no_file p' g') = absurd (f.1 g')
  one_told _ _ (faulty {place = a} {kind = k} f h) (faulty {place = a'} {kind = k'} f' h') = one_fault w a a' k k' h h'
  one_told _ _ (faulty {place = a} {kind = k} f h) (unheld f' c' n') = absurd (not_sound w a k h c')
  one_told _ _ (faulty {place = a} {kind = k} f h) (unbound f' c' n') = absurd (not_sound w a k h c')
  one_told _ _ (unheld f c n) (lists {xs = ys} f' c' l') =
      absurd (nothing_held w path offset l'.known l'.right l'.is_asked.asked_in l'.is_asked.number l'.is_asked.is_asked l'.is_asked.at n)
  one_told _ _ (unheld f c n) (no_path n') = absurd (n' (f.0))
  one_told _ _ (unheld f c n) (no_file p' g') = absurd (f.1 g')
  one_told _ _ (unheld f c n) (faulty {place = a'} {kind = k'} f' h') = absurd (not_sound w a' k' h' c)
  one_told _ _ (unheld f c n) (unheld f' c' n') = refl
  one_told _ _ (unheld f c n) (unbound f' c' n') = absurd (nothing_held w path offset n'.known n'.right n'.asked_in n'.number n'.is_asked n'.at n)
  one_told _ _ (unbound f c n) (lists {xs = ys} f' c' l') = absurd (nothing_bound w path offset ys l' n)
  one_told _ _ (unbound f c n) (no_path n') = absurd (n' (f.0))
  one_told _ _ (unbound f c n) (no_file p' g') = absurd (f.1 g')
  one_told _ _ (unbound f c n) (faulty {place = a'} {kind = k'} f' h') = absurd (not_sound w a' k' h' c)
  one_told _ _ (unbound f c n) (unheld f' c' n') = absurd (nothing_held w path offset n.known n.right n.asked_in n.number n.is_asked n.at n')
  one_told _ _ (unbound f c n) (unbound f' c' n') = refl

  pub one_answer : (r s : Result (List Place) Refusal) → AnswersUses w path offset r → AnswersUses w path offset s → (r ≡ Err refusal.Memory → ⊥) →
      (s ≡ Err refusal.Memory → ⊥) → r ≡ s
  one_answer r s h k fine also = one_told r s (told w path offset r h fine) (told w path offset s k also)
