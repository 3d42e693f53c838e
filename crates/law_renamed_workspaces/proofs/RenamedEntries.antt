-- What stands in a map of names under the new name, the old name and others.
use Rattle.std.proofs.Common.{ℕ, ◌≡◌, inl, inr, true, false, List, sym, subst, refl}
use Rattle.std.specs.Prelude.{Option, None, if◌then◌else◌}
use Rattle.std.specs.Cmp.Lexicographic.{bytes_decides}
use Rattle.types_expr.specs.Types.{same_path}
use Rattle.types_declared.proofs.ByteKeys.{cases_bytes}
use Rattle.types_info.proofs.WorldParts.{is_other}
use Rattle.law_renamed_workspaces.specs.RenamedData.{renamed_entry}

-- What holds of the entry under each name: of the new one, of the old one, of all others.
pub entry_holds : {X : Type 0} (P : List ℕ → Option X → Type 0) (old new : List ℕ) (entry : Option X) (f : List ℕ → Option X) → P new entry →
    P old None → ((name : List ℕ) → (name ≡ old → ⊥) → (name ≡ new → ⊥) → P name (f name)) → (name : List ℕ) → P name (renamed_entry old new entry f name)
entry_holds P old new entry f moved freed kept name = elim (cases_bytes name new) [
  | inl same ↦
      let here : same_path name new ≡ true = (bytes_decides name new).1 same in
      subst (λ b. P name (if b then entry else if same_path name old then None else f name)) (sym here) (subst (λ n. P n entry) (sym same) moved)
  | inr other ↦
      let not_new : same_path name new ≡ false = is_other name new other (same_path name new) refl in
      subst (λ b. P name (if b then entry else if same_path name old then None else f name)) (sym not_new)
      (elim (cases_bytes name old) [
        | inl was ↦
            let there : same_path name old ≡ true = (bytes_decides name old).1 was in
            subst (λ b. P name (if b then None else f name)) (sym there) (subst (λ n. P n None) (sym was) freed)
        | inr apart ↦
            let not_old : same_path name old ≡ false = is_other name old apart (same_path name old) refl in
            subst (λ b. P name (if b then None else f name)) (sym not_old) (kept name apart other)
      ])
]
