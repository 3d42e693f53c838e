-- A use is bound to the import of its name that counts, unless it is in the scope of an inner declaration of that name.
use Rattle.std.proofs.Common.{ℕ, ◌≡◌, inl, inr, refl, sym, ◌∙◌, subst, ap}
use Rattle.std.proofs.lemmas.Bool.{cases_order}
use Rattle.go_scope.specs.declared.model.Block.{Block}
use Rattle.go_scope.specs.declared.model.Block.TheVariants.{Universe, Package, File, Inner}
use Rattle.go_scope.specs.Scopes.{scope_for, Holds, IsInside}
use Rattle.go_scope.specs.Bindings.{Layout, Names, Counts, IsUse, IsBoundTo, use_bound, InScope, block_of, start_of, scope_of}

-- a declaration, not in an inner block, whose scope lies in that of an import is in the import's block
in_file_block : (B : Block) (s f : ℕ) → ((g a b : ℕ) → B ≡ Inner g a b → ⊥) → IsInside (scope_for B s) (scope_for (File f) 0) → B ≡ File f
in_file_block Universe s f other inside = absurd inside
in_file_block Package s f other inside = absurd inside
in_file_block (File g) s f other inside = ap File inside
in_file_block (Inner g a b) s f other inside = absurd (other g a b refl)

pub import_bound : (l : Layout) (names : Names) (u i f : ℕ) → Counts l names i → block_of (l.role i) ≡ File f → names i ≡ names u → (l.place u).file ≡ f →
    IsUse l names u →
    ((e g a b : ℕ) → Counts l names e → names e ≡ names u → InScope l e u → block_of (l.role e) ≡ Inner g a b → ⊥) → IsBoundTo l names u i
import_bound l names u i f c file named at used other =
    let S : Block → Type 0 = λ B. Holds (scope_for B (start_of (l.role i))) (l.place u) in
    use_bound used (record {
      counts = c;
      named = named;
      in_scope = subst S (sym file) at;
      innermost = λ e d same holds inside.
          let I : Block → Type 0 = λ B. IsInside (scope_of (l.role e)) (scope_for B (start_of (l.role i))) in
          let block : block_of (l.role e) ≡ File f = in_file_block (block_of (l.role e)) (start_of (l.role e)) f (λ g a b. other e g a b d same holds)
          (subst I file inside) in
          elim (cases_order e i) [
            | inl one ↦ one
            | inr o ↦ elim o [
              | inl less ↦ absurd (c.first e d.declares (same ∙ sym named) (inl (block ∙ sym file, less)))
              | inr more ↦ absurd (d.first i c.declares (named ∙ sym same) (inl (file ∙ sym block, more)))
            ]
          ];
    })
