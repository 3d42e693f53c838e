-- A path has at most one state for its importer, and a package sees at most one export data of it.
use Rattle.std.proofs.Common.{ℕ, ◌≡◌, List, refl, sym, ◌∙◌}
use Rattle.std.specs.Prelude.{Option}
use Rattle.std.proofs.Math.Path.{fun_ext}
use Rattle.std.proofs.lemmas.Bool.{true≢false}
use Rattle.base_files.specs.Workspace.{Workspace}
use Rattle.types_declared.specs.declared.states.ImportState.{ImportState}
use Rattle.types_declared.specs.Package.{ExportData}
use Rattle.workspace_check.specs.Verdicts.{Verdicts, IsStateOf, is_missing, is_on_cycle, is_faulty, is_good, IsSeenAs, seen, unseen, AreSeen}
use Rattle.workspace_check.proofs.Closed.{from_package, to_package}

pub one_state : (w : Workspace) (known : Verdicts) (p q : List ℕ) (s t : ImportState) → IsStateOf w known p q s → IsStateOf w known p q t → s ≡ t
one_state w known p q _ _ (is_missing none) (is_missing other) = refl
one_state w known p q _ _ (is_missing none) (is_on_cycle back) = absurd (none (from_package w q p back))
one_state w known p q _ _ (is_missing none) (is_faulty on is) = absurd (none (to_package w p q on.imported))
one_state w known p q _ _ (is_missing none) (is_good on is) = absurd (none (to_package w p q on.imported))
one_state w known p q _ _ (is_on_cycle back) (is_missing none) = absurd (none (from_package w q p back))
one_state w known p q _ _ (is_on_cycle back) (is_on_cycle other) = refl
one_state w known p q _ _ (is_on_cycle back) (is_faulty on is) = absurd (on.not_back back)
one_state w known p q _ _ (is_on_cycle back) (is_good on is) = absurd (on.not_back back)
one_state w known p q _ _ (is_faulty on is) (is_missing none) = absurd (none (to_package w p q on.imported))
one_state w known p q _ _ (is_faulty on is) (is_on_cycle back) = absurd (on.not_back back)
one_state w known p q _ _ (is_faulty on is) (is_faulty other so) = refl
one_state w known p q _ _ (is_faulty on is) (is_good other so) = absurd (true≢false (sym is ∙ so))
one_state w known p q _ _ (is_good on is) (is_missing none) = absurd (none (to_package w p q on.imported))
one_state w known p q _ _ (is_good on is) (is_on_cycle back) = absurd (on.not_back back)
one_state w known p q _ _ (is_good on is) (is_faulty other so) = absurd (true≢false (sym so ∙ is))
one_state w known p q _ _ (is_good on is) (is_good other so) = refl

one_seen : (w : Workspace) (known : Verdicts) (p q : List ℕ) (m n : Option (List ℕ)) (i j : ExportData) → IsSeenAs w known p q m i →
    IsSeenAs w known p q n j → (m ≡ n) × (i ≡ j)
one_seen w known p q _ _ _ _ (seen on is) (seen other so) = (refl, refl)
one_seen w known p q _ _ _ _ (seen on is) (unseen none) = absurd (true≢false (sym (none on) ∙ is))
one_seen w known p q _ _ _ _ (unseen none) (seen on is) = absurd (true≢false (sym (none on) ∙ is))
one_seen w known p q _ _ _ _ (unseen none) (unseen other) = (refl, refl)

pub one_names : (w : Workspace) (known : Verdicts) (p : List ℕ) (m n : List ℕ → Option (List ℕ)) (i j : List ℕ → ExportData) → AreSeen w known p m i →
    AreSeen w known p n j → m ≡ n
one_names w known p m n i j a b = fun_ext (λ q. (one_seen w known p q (m q) (n q) (i q) (j q) (a q) (b q)).0)

pub one_export_table : (w : Workspace) (known : Verdicts) (p : List ℕ) (m n : List ℕ → Option (List ℕ)) (i j : List ℕ → ExportData) → AreSeen w known p m i →
    AreSeen w known p n j → i ≡ j
one_export_table w known p m n i j a b = fun_ext (λ q. (one_seen w known p q (m q) (n q) (i q) (j q) (a q) (b q)).1)
