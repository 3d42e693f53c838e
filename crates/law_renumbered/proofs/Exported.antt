-- The export data of a package with other numbers.
use Rattle.std.proofs.Common.{ℕ, ◌≡◌, List, Option, Some, None, refl, sym, ap, ◌∙◌, subst}
use Rattle.std.specs.Prelude.{slice_get}
use Rattle.std.proofs.lemmas.Option.{none-some}
use Rattle.go_scope.specs.declared.model.Position.{Position}
use Rattle.go_scope.specs.Bindings.{Layout, Names, Counts, IsBoundTo, use_bound, own}
use Rattle.types_expr.specs.Types.{Meaning}
use Rattle.types_expr.specs.World.{Bound}
use Rattle.types_expr.specs.World.{Means as Stands}
use Rattle.types_expr.specs.WorldView.{no_definition}
use Rattle.types_declared.specs.Laid.{is_exported}
use Rattle.types_declared.specs.Package.{Package, PlacedType, Export, ExportData, package_types}
use Rattle.types_declared.specs.MeaningOf.{IsMeaningOf}
use Rattle.types_check.specs.Exports.{IsExportBy, IsExported, IsExportData}
use Rattle.law_changed_types.specs.RenumberedPackage.{NewNumbers, IsRenumberedPackage}
use Rattle.law_changed_types.proofs.RenumberedTypesAlike.{Turned, TurnedIdentifiers, symbols}
use Rattle.law_changed_types.proofs.RenumberedTypesLaws.{meanings_renumber, definitions_renumber}
use Rattle.law_changed_types.proofs.RenumberedTypesMeanings.{SameBound, same_local, same_meaning, same_variable, same_function, same_type, meaning}
use Rattle.law_changed_types.proofs.Numbered.{FollowsToken, FollowsIdentifier, there, back}
use Rattle.law_renumbered.specs.Findings.{KeepsNames}

-- to what something is bound, that counts
bound_counts : (l : Layout) (names : Names) (u d : ℕ) → IsBoundTo l names u d → Counts l names d
bound_counts l names u d (use_bound is x) = x.counts
bound_counts l names u d (own p c) = c

-- a meaning that is none of a local is the same
same_form : (T : ℕ → ℕ → ℕ → Type 0) (file : ℕ) (b c : Bound) → SameBound T file b c → (m : Meaning) → b ≡ Stands m → c ≡ Stands m
same_form T file _ _ (same_local {a = x} {b = y} s) m e = absurd (let z : ⊥ = cc in z)
same_form T file _ _ (same_meaning {m = x}) m e = e
same_form T file _ _ same_variable m e = e
same_form T file _ _ same_function m e = e
same_form T file _ _ same_type m e = e

module _ (n : NewNumbers) (p q : Package) (a : IsRenumberedPackage n p q) (k : KeepsNames n p q) where
  counts_there : (d : ℕ) → Counts p.layout p.names d → Counts q.layout q.names (n.identifier d)
  counts_there d c = bound_counts q.layout q.names (n.identifier d) (n.identifier d) ((a.bound d d).0 (own refl c))

  counts_back : (d : ℕ) → Counts q.layout q.names (n.identifier d) → Counts p.layout p.names d
  counts_back d c = bound_counts p.layout p.names d d ((a.bound d d).1 (own refl c))

  means_back : (d : ℕ) (m : Meaning) → IsMeaningOf q (n.identifier d) (Stands m) → IsMeaningOf p d (Stands m)
  means_back d m is =
      let T = FollowsToken n in
      let I = FollowsIdentifier n in
      let file = (p.layout.place d).file in
      let was = meaning (Turned T) (TurnedIdentifiers I) q p (back n p q a) (there n p q a) (n.identifier d) d file (Stands m) refl is
      (λ f x y block. ap (λ (z : Position). z.index) (a.places d)) in
      subst (IsMeaningOf p d) (same_form (Turned T) file (Stands m) was.0 was.1.0 m refl) was.1.1

  export_there : (d : ℕ) (x : Export) → IsExportBy p d x → IsExportBy q (n.identifier d) x
  export_there d x h = record {
    seen = record {
      package_level = (there n p q a).level d (n.identifier d) refl h.seen.package_level;
      counts = counts_there d h.seen.counts;
      exported = ap is_exported (k.names d) ∙ h.seen.exported;
    };
    means = meanings_renumber n p q a d (Stands x.meaning) h.means;
  }

  export_back : (d : ℕ) (x : Export) → IsExportBy q (n.identifier d) x → IsExportBy p d x
  export_back d x h = record {
    seen = record {
      package_level = (back n p q a).level (n.identifier d) d refl h.seen.package_level;
      counts = counts_back d h.seen.counts;
      exported = sym (ap is_exported (k.names d)) ∙ h.seen.exported;
    };
    means = means_back d x.meaning h.means;
  }

  exported : (name : List ℕ) (o : Option Export) → IsExported p name o → IsExported q name o
  exported name None none = λ x h.
      let d = k.declared h.declaration h.by_declaration.seen.counts in
      none x (record {
        declaration = d.0;
        named = sym (k.names d.0) ∙ ap q.names (sym d.1) ∙ h.named;
        by_declaration = export_back d.0 x (subst (λ e. IsExportBy q e x) d.1 h.by_declaration);
      })
  exported name (Some x) h = record {
    declaration = n.identifier h.declaration;
    named = k.names h.declaration ∙ h.named;
    by_declaration = export_there h.declaration x h.by_declaration;
  }

  none_there : (rank : ℕ) (o : Option PlacedType) → slice_get (package_types p) rank ≡ o → slice_get (package_types q) rank ≡ None →
      slice_get (package_types p) rank ≡ None
  none_there rank None at none = at
  none_there rank (Some d) at none = let e = (there n p q a).types rank d at in absurd (none-some e.0 (sym none ∙ e.1.0))

  pub export_data : (i : ExportData) → IsExportData p i → IsExportData q i
  export_data i h = record {
    name = h.name ∙ sym k.name;
    exported = λ name. exported name (i.exported name) (h.exported name);
    definitions = λ rank e at.
        let d = (back n p q a).types rank e at in
        (definitions_renumber n p q a rank (i.definition rank)).0 (h.definitions rank d.0 d.1.0);
    beyond = λ rank none.
        h.beyond rank (none_there rank (slice_get (package_types p) rank) refl none)
        ∙ ap no_definition (sym (symbols (FollowsToken n) (FollowsIdentifier n) p q (there n p q a) rank));
  }
