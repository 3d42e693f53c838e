-- What identifiers are bound to after the revision, package by package.
use Rattle.std.proofs.Common.{ℕ, ◌≡◌, inl, inr, List, refl, sym, ap, ◌∙◌, subst}
use Rattle.base_files.specs.Workspace.{Workspace}
use Rattle.base_edits.specs.Revisions.{Revision}
use Rattle.go_scope.specs.declared.model.Position.{Position}
use Rattle.go_scope.specs.Bindings.{Counts, IsBoundTo, Layout, Names, own as own_bound, use_bound}
use Rattle.types_check.specs.Exports.{DoesExport}
use Rattle.types_declared.proofs.ByteKeys.{cases_bytes}
use Rattle.types_declared.specs.Laid.{is_exported}
use Rattle.types_declared.specs.Package.{Package}
use Rattle.types_expr.specs.World.{ABrokenMethod, AField, AMethod, Member}
use Rattle.workspace_check.specs.Verdicts.{Verdicts}
use Rattle.refs_binding.specs.declared.declaration.Declaration.{Declaration}
use Rattle.refs_binding.specs.declared.declaration.Declaration.TheVariants.{Declared, Field, Method, Predeclared}
use Rattle.refs_binding.specs.Binding.{Binds, BindsByScope, BindsQualified, DeclaresMember, UsesMemberAt, by_member, by_name, by_package, by_scope}
use Rattle.refs_binding.specs.Binding.{declaration_of}
use Rattle.refs_binding.specs.Identifiers.{IsInFiles}
use Rattle.refs_binding.specs.Uses.{IsCheckedPackage}
use Rattle.refs_binding.proofs.Units.{one_package}
use Rattle.law_renumbered.specs.Bindings.{MemberNamesRenumber, QualifiersRenumber, UsedMembersRenumber}
use Rattle.law_changed_types.specs.RenumberedPackage.{NewNumbers}
use Rattle.law_changed_types.proofs.Numbered.{there}
use Rattle.law_renumbered.specs.RenumberedWorkspace.{IsRenumberedBy, Renumbers, elsewhere, field, method, own, predeclared}

counts_of : (l : Layout) (names : Names) (u d : ℕ) → IsBoundTo l names u d → Counts l names d
counts_of l names u d (use_bound is b) = b.counts
counts_of l names u d (own_bound e c) = c

-- a member keeps its rank
member_same : (n : NewNumbers) (path : List ℕ) (m : Member) (d : Declaration) → declaration_of m ≡ d → Renumbers n path d d
member_same n path (AField s t) d e = subst (λ z. Renumbers n path z z) e field
member_same n path (AMethod s on_pointer signature) d e = subst (λ z. Renumbers n path z z) e method
member_same n path (ABrokenMethod s) d e = subst (λ z. Renumbers n path z z) e method

-- what an identifier is bound to afterwards
pub record BoundThen (After : Package → Type 0) (n : NewNumbers) (path : List ℕ) (y : Package) (v : ℕ) (d : Declaration) : Type 0 where
  pub declaration : Declaration
  pub renumbers : Renumbers n path d declaration
  pub bound : Binds After y v declaration

module _ (qualifiers : QualifiersRenumber) (names : MemberNamesRenumber) (members : UsedMembersRenumber) (w : Workspace) (known : Verdicts) (r : Revision)
    (n : NewNumbers) (p q : Package) (h : IsRenumberedBy w known r n p q) where
  abbrev Before : Package → Type 0
  Before = IsCheckedPackage w known

  abbrev pub After : Package → Type 0
  After = IsCheckedPackage r.after known

  abbrev g : ℕ → ℕ
  g = n.identifier

  abbrev Then : Package → ℕ → Declaration → Type 0
  Then y v d = BoundThen After n p.path y v d

  own_by : (path : List ℕ) (k : ℕ) → path ≡ p.path → Renumbers n p.path (Declared path k) (Declared path (g k))
  own_by path k same = subst (λ o. Renumbers n p.path (Declared o k) (Declared o (g k))) (sym same) own

  exports_then : (k : ℕ) → DoesExport p k → DoesExport q (g k)
  exports_then k e = record {
    package_level = (there n p q h.renumbered).level k (g k) refl e.package_level;
    counts = counts_of q.layout q.names (g k) (g k) ((h.renumbered.bound k k).0 (own_bound refl e.counts));
    exported = ap is_exported (h.keeps.names k) ∙ e.exported;
  }

  -- in the package itself

  pub in_package : (u : ℕ) → IsInFiles p u → (d : Declaration) → Binds Before p u d → Then q (g u) d
  in_package u stands d (by_scope b) = scoped d b
    where
      scoped : (d : Declaration) → BindsByScope p u d → Then q (g u) d
      scoped (Predeclared k) b = record {
        declaration = Predeclared k;
        renumbers = predeclared;
        bound = by_scope (b.0, subst (IsBoundTo q.layout q.names (g u)) (h.predeclared k b.0) ((h.renumbered.bound u k).0 b.1));
      }
      scoped (Declared path k) b = record {
        declaration = Declared path (g k);
        renumbers = own_by path k b.0;
        bound = by_scope (b.0 ∙ sym h.renumbered.path, h.own k b.1, (h.renumbered.bound u k).0 b.2);
      }
      scoped (Field s) b = absurd b
      scoped (Method s) b = absurd b
  in_package u stands d (by_package b) = behind d b
    where
      behind : (d : Declaration) → BindsQualified Before p u d → Then q (g u) d
      behind (Predeclared k) b = absurd b
      behind (Declared path k) b =
          let other = h.no_round u path b.behind in
          record {
            declaration = Declared path k;
            renumbers = elsewhere other;
            bound = by_package (record {
              behind = (qualifiers n p q h.renumbered u (h.firsts u stands) (h.firsts_too u stands) path).0 b.behind;
              other = b.other;
              is_package = h.others b.other b.is_package (λ same. other (sym b.of_path ∙ same));
              of_path = b.of_path;
              seen = b.seen;
              named = b.named ∙ sym (h.keeps.names u);
            });
          }
      behind (Field s) b = absurd b
      behind (Method s) b = absurd b
  in_package u stands d (by_member b) =
      let at = p.layout.place u in
      let now = members n p q h.renumbered at.file at.index d b (h.judged at.file b.uses b.judged) in
      record {
        declaration = d;
        renumbers = member_same n p.path b.member d b.declares;
        bound =
            by_member
            (subst (λ (z : Position). UsesMemberAt q z.file z.index d) (sym (h.renumbered.places u)) now);
      }
  in_package u stands d (by_name b) = named d b
    where
      named : (d : Declaration) → DeclaresMember p u d → Then q (g u) d
      named (Predeclared k) b = absurd b
      named (Declared path k) b = absurd b
      named (Field s) b = record { declaration = Field s; renumbers = field; bound = by_name (names n p q h.renumbered u (Field s) b) }
      named (Method s) b = record { declaration = Method s; renumbers = method; bound = by_name (names n p q h.renumbered u (Method s) b) }

  -- in another one

  pub elsewhere_bound : (y : Package) → Before y → (y.path ≡ p.path → ⊥) → (u : ℕ) (d : Declaration) → Binds Before y u d → Then y u d
  elsewhere_bound y is apart u d (by_scope b) = scoped d b
    where
      scoped : (d : Declaration) → BindsByScope y u d → Then y u d
      scoped (Predeclared k) b = record { declaration = Predeclared k; renumbers = predeclared; bound = by_scope b }
      scoped (Declared path k) b = record {
        declaration = Declared path k;
        renumbers = elsewhere (λ same. apart (sym b.0 ∙ same));
        bound = by_scope b;
      }
      scoped (Field s) b = absurd b
      scoped (Method s) b = absurd b
  elsewhere_bound y is apart u d (by_package b) = behind d b
    where
      behind : (d : Declaration) → BindsQualified Before y u d → Then y u d
      behind (Predeclared k) b = absurd b
      behind (Declared path k) b = elim (cases_bytes b.other.path p.path) [
        | inr other ↦ record {
          declaration = Declared path k;
          renumbers = elsewhere (λ same. other (b.of_path ∙ same));
          bound = by_package (record {
            behind = b.behind;
            other = b.other;
            is_package = h.others b.other b.is_package other;
            of_path = b.of_path;
            seen = b.seen;
            named = b.named;
          });
        }
        | inl same ↦
            let whole : b.other ≡ p = one_package w known b.other p b.is_package h.was same in
            record {
              declaration = Declared path (g k);
              renumbers = own_by path k (sym b.of_path ∙ same);
              bound = by_package (record {
                behind = b.behind;
                other = q;
                is_package = h.is;
                of_path = h.renumbered.path ∙ sym same ∙ b.of_path;
                seen = exports_then k (subst (λ (z : Package). DoesExport z k) whole b.seen);
                named = h.keeps.names k ∙ ap (λ (z : Package). z.names k) (sym whole) ∙ b.named;
              });
            }
      ]
      behind (Field s) b = absurd b
      behind (Method s) b = absurd b
  elsewhere_bound y is apart u d (by_member b) =
      record { declaration = d; renumbers = member_same n p.path b.member d b.declares; bound = by_member b }
  elsewhere_bound y is apart u d (by_name b) = named d b
    where
      named : (d : Declaration) → DeclaresMember y u d → Then y u d
      named (Predeclared k) b = absurd b
      named (Declared path k) b = absurd b
      named (Field s) b = record { declaration = Field s; renumbers = field; bound = by_name b }
      named (Method s) b = record { declaration = Method s; renumbers = method; bound = by_name b }
