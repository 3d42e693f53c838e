-- Verdicts that a workspace takes in, package after package.
use Rattle.std.proofs.Common.{◌≡◌, ℕ, ◌+◌, ◌<◌, ◌≤◌, inl, inr, List, length, get_or, sym, ap, subst, ◌∙◌, ⊎_elim, arith}
use Rattle.std.specs.Prelude.{Option, Some, None, slice_get}
use Rattle.std.specs.Global.{Vec}
use Rattle.std.proofs.Math.ListN.{set}
use Rattle.std.proofs.lemmas.Bool.{cases_eq, cases_lt}
use Rattle.std.proofs.lemmas.Option.{same_Some, slice_get-get_or}
use Rattle.base_files.specs.Packages.{package_paths}
use Rattle.base_files.specs.Workspace.{Workspace}
use Rattle.workspace_graph.proofs.PackagePaths.{one_number, paths_sorted}
use Rattle.workspace_graph.proofs.Filled.{set_elsewhere, set_there}
use Rattle.workspace_check.specs.Found.{KnowsVerdicts}
use Rattle.workspace_check.specs.declared.known.Known.{Known}
use Rattle.workspace_check.specs.declared.known.KnownVerdict.{KnownVerdict}
use Rattle.build_carry.specs.Learned.{HasVerdictAt, HasKeptVerdict, KeepsVerdicts, LearnsFirst, LearnsFrom}

-- the verdict stands at the number of its package
pub kept_at : (v : Workspace) (known : Known) (w : Workspace) (p : List ℕ) (n : ℕ) → slice_get (package_paths v) n ≡ Some p →
    HasKeptVerdict v known w p → HasVerdictAt known n
kept_at v known w p n at has =
    subst (HasVerdictAt known) (one_number (package_paths v) (paths_sorted v) has.number n p has.of_path at) has.verdict

-- a verdict is set where none stood
module _ (old new : Known) (number : ℕ) (one : KnownVerdict) (within : number < length old.verdicts.items)
    (is_set : new.verdicts.items ≡ set old.verdicts.items number (Some one)) where
  pub stands_there : HasVerdictAt new number
  stands_there =
      let items = old.verdicts.items in
      let there : slice_get items number ≡ Some (get_or items number None) = slice_get-get_or items number None within in
      (one, ap (λ l. slice_get l number) is_set ∙ set_there items number (get_or items number None) (Some one) there)

  pub stands_still : ((two : KnownVerdict) → slice_get old.verdicts.items number ≡ Some (Some two) → ⊥) → KeepsVerdicts old new
  stands_still none n two has = elim (cases_eq n number) [
    | inl same ↦ absurd (none two (subst (λ k. slice_get old.verdicts.items k ≡ Some (Some two)) same has))
    | inr other ↦ ap (λ l. slice_get l n) is_set ∙ set_elsewhere old.verdicts.items number n (Some one) other ∙ has
  ]

-- one package more
module _ (w : Workspace) (own : Known) (v : Workspace) (found : Known) where
  pub learns_begin : (new : Known) → KnowsVerdicts w new → KeepsVerdicts own new → LearnsFirst w own v found 0 new
  learns_begin new right keeps = record { right = right; kept = keeps; learned = λ n p below at has. absurd (omega (arith, below)) }

  pub learns_next : (count : ℕ) (p : List ℕ) (old new : Known) → slice_get (package_paths w) count ≡ Some p → KnowsVerdicts w new → KeepsVerdicts old new →
      (HasKeptVerdict v found w p → HasVerdictAt new count) → LearnsFirst w own v found count old → LearnsFirst w own v found (count + 1) new
  learns_next count p old new at_p right keeps learns so = record {
    right = right;
    kept = λ n one has. keeps n one (so.kept n one has);
    learned = λ n q below at has. ⊎_elim
        (λ (less : n < count). let there = so.learned n q less at has in (there.0, keeps n there.0 there.1))
        (λ (more : count ≤ n).
        let here : count ≡ n = omega (arith, below, more) in
        let is : q ≡ p = same_Some q p (sym (subst (λ k. slice_get (package_paths w) k ≡ Some q) (sym here) at) ∙ at_p) in
        subst (HasVerdictAt new) here (learns (subst (HasKeptVerdict v found w) is has)))
        (cases_lt n count);
  }

  -- what is known of each package stays as it is
  pub learns_nothing : ((n : ℕ) → n < length (package_paths w) → HasVerdictAt own n) → KnowsVerdicts w own → LearnsFrom w own v found own
  learns_nothing each right = record { right = right; kept = λ n one has. has; learned = λ n p below at has. each n below }

  -- the earlier verdicts beside them change nothing
  pub learns_still : (count : ℕ) (old new : Known) → new.verdicts ≡ old.verdicts → KnowsVerdicts w new → LearnsFirst w own v found count old →
      LearnsFirst w own v found count new
  learns_still count old new same right so =
      let items : new.verdicts.items ≡ old.verdicts.items = ap (λ (x : Vec (Option KnownVerdict)). x.items) same in record {
        right = right;
        kept = λ n one has. ap (λ l. slice_get l n) items ∙ so.kept n one has;
        learned = λ n p below at has. let there = so.learned n p below at has in (there.0, ap (λ l. slice_get l n) items ∙ there.1);
      }
