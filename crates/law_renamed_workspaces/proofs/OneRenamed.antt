-- One of many members gets another name: which members stand under a name before and after.
use Rattle.std.proofs.Common.{ℕ, ◌≡◌, inl, inr, List, sym, subst}
use Rattle.std.proofs.lemmas.Bool.{cases_eq}

-- The members of owners, by name and rank.
abbrev pub Members : Type 1
Members = (owner : ℕ) → (name : List ℕ) → (rank : ℕ) → Type 0

-- A member has one owner and one name, and an owner has one member of a name.
pub record AreSingle (A : Members) : Type 0 where
  pub one : (d e : ℕ) (m n : List ℕ) (rank : ℕ) → A d m rank → A e n rank → (d ≡ e) × (m ≡ n)
  pub one_named : (d : ℕ) (n : List ℕ) (r s : ℕ) → A d n r → A d n s → r ≡ s

-- The member of the rank `renamed` is called `old` before and `new` after, and all others keep their names.
pub record IsOneRenamed (A B : Members) (owner renamed : ℕ) (old new : List ℕ) : Type 0 where
  pub single : AreSingle A
  pub single_after : AreSingle B
  pub was : A owner old renamed
  pub now : B owner new renamed
  pub apart : old ≡ new → ⊥
  pub there : (d : ℕ) (n : List ℕ) (rank : ℕ) → (rank ≡ renamed → ⊥) → A d n rank → B d n rank
  pub back : (d : ℕ) (n : List ℕ) (rank : ℕ) → (rank ≡ renamed → ⊥) → B d n rank → A d n rank

module _ (A B : Members) (owner renamed : ℕ) (old new : List ℕ) (h : IsOneRenamed A B owner renamed old new) where
  -- other owners have the members that they had

  pub elsewhere : (d : ℕ) → (d ≡ owner → ⊥) → (n : List ℕ) (rank : ℕ) → A d n rank → B d n rank
  elsewhere d other n rank a = elim (cases_eq rank renamed) [
    | inl same ↦ absurd (other (h.single.one d owner n old renamed (subst (A d n) same a) h.was).0)
    | inr apart ↦ h.there d n rank apart a
  ]

  pub elsewhere_back : (d : ℕ) → (d ≡ owner → ⊥) → (n : List ℕ) (rank : ℕ) → B d n rank → A d n rank
  elsewhere_back d other n rank b = elim (cases_eq rank renamed) [
    | inl same ↦ absurd (other (h.single_after.one d owner n new renamed (subst (B d n) same b) h.now).0)
    | inr apart ↦ h.back d n rank apart b
  ]

  -- what stood under the old name stands under the new one

  pub moved : (rank : ℕ) → A owner old rank → B owner new rank
  moved rank a = subst (B owner new) (sym (h.single.one_named owner old rank renamed a h.was)) h.now

  pub moved_back : (rank : ℕ) → B owner new rank → A owner old rank
  moved_back rank b = subst (A owner old) (sym (h.single_after.one_named owner new rank renamed b h.now)) h.was

  -- nothing stands under the old name

  pub freed : (rank : ℕ) → B owner old rank → ⊥
  freed rank b = elim (cases_eq rank renamed) [
    | inl same ↦ h.apart (h.single_after.one owner owner old new renamed (subst (B owner old) same b) h.now).1
    | inr apart ↦ apart (h.single.one_named owner old rank renamed (h.back owner old rank apart b) h.was)
  ]

  -- all else stands where it stood

  pub kept : (n : List ℕ) → (n ≡ old → ⊥) → (rank : ℕ) → A owner n rank → B owner n rank
  kept n other rank a = elim (cases_eq rank renamed) [
    | inl same ↦ absurd (other (h.single.one owner owner n old renamed (subst (A owner n) same a) h.was).1)
    | inr apart ↦ h.there owner n rank apart a
  ]

  pub kept_back : (n : List ℕ) → (n ≡ new → ⊥) → (rank : ℕ) → B owner n rank → A owner n rank
  kept_back n other rank b = elim (cases_eq rank renamed) [
    | inl same ↦ absurd (other (h.single_after.one owner owner n new renamed (subst (B owner n) same b) h.now).1)
    | inr apart ↦ h.back owner n rank apart b
  ]
