-- What identifiers are bound to after a change.
use Rattle.std.proofs.Common.{ℕ, ◌≡◌, ◌∙◌, List, [], sym, ap, subst, refl}
use Rattle.std.specs.Prelude.{slice_get}
use Rattle.std.proofs.lemmas.Option.{same_Some}
use Rattle.base_files.specs.Path.{folder}
use Rattle.base_files.specs.Workspace.{Workspace}
use Rattle.base_files.specs.declared.place.Place.{Place}
use Rattle.go_scope.specs.Bindings.{Layout, Names, IsBoundTo, Counts, use_bound, own}
use Rattle.go_scope.proofs.Innermost.{one_in_block}
use Rattle.go_scope.proofs.Nests.{nests}
use Rattle.types_declared.specs.Package.{Package}
use Rattle.types_check.specs.Exports.{DoesExport}
use Rattle.refs_binding.specs.declared.declaration.Declaration.{Declaration}
use Rattle.refs_binding.specs.declared.declaration.Declaration.TheVariants.{Predeclared, Declared, Field, Method}
use Rattle.base_edits.specs.Revisions.{Revision, PackageMovesTo}
use Rattle.refactor_conflict.specs.ScopeBindings.{IsScopeUse}
use Rattle.refactor_conflict.proofs.OneScoped.{one_scoped}
use Rattle.refactor_conflict.proofs.OneUse.{scoped_formed}
use Rattle.refactor_conflict.specs.BoundAfter.{IsExportAfter}
use Rattle.refactor_conflict.specs.ScopesAfter.{IsBindable}

-- A declaration that scopes bind to counts.
counts_of : (l : Layout) (names : Names) (u d : ℕ) → IsBoundTo l names u d → Counts l names d
counts_of l names u d (use_bound used b) = b.counts
counts_of l names u d (own e c) = c

pub counted_use : (w : Workspace) (place : Place) (e : Declaration) → IsScopeUse w e place → IsBindable w e
counted_use w place (Predeclared n) h = tt
counted_use w place (Declared path n) h =
    let p = h.used_in in (p, (h.is_package, (sym h.bound.0, counts_of p.layout p.names h.user n h.bound.2)))
counted_use w place (Field s) h = absurd h.bound
counted_use w place (Method s) h = absurd h.bound

pub counted_export : (w : Workspace) (r : Revision) (path name : List ℕ) (e : Declaration) → IsExportAfter w r path name e → IsBindable r.after e
counted_export w r path name e h =
    let counted : IsBindable r.after (Declared h.other.path h.declaration) = (h.other, (h.is_package, (refl, h.seen.counts))) in
    subst (IsBindable r.after) (sym h.exported) counted

pub one_goal : (w : Workspace) (r : Revision) (path a b : List ℕ) → PackageMovesTo w r path a → PackageMovesTo w r path b → a ≡ b
one_goal w r path a b h k =
    let first : h.first ≡ k.first = same_Some h.first k.first (ap (λ l. slice_get l 0) (sym h.files ∙ k.files)) in
    h.goes ∙ ap (λ (f : List ℕ × List ℕ). folder (r.moved (record { path = f.0; offset = 0 })).path) first ∙ sym k.goes

-- a package exports one declaration under a name
pub one_export : (w : Workspace) (r : Revision) (path name : List ℕ) (d e : Declaration) → IsExportAfter w r path name d →
    IsExportAfter w r path name e → d ≡ e
one_export w r path name d e a b =
    let p = a.other in
    let paths : b.other.path ≡ p.path = one_goal w r path b.other.path p.path b.goes a.goes in
    let same : b.other ≡ p = one_scoped r.after b.other p b.is_package a.is_package paths in
    let seen : DoesExport p b.declaration = subst (λ (q : Package). DoesExport q b.declaration) same b.seen in
    let named : p.names b.declaration ≡ name = subst (λ (q : Package). q.names b.declaration ≡ name) same b.named in
    let number : a.declaration ≡ b.declaration =
    one_in_block p.layout (nests p.layout (scoped_formed r.after p a.is_package)) p.names a.declaration b.declaration a.seen.counts seen.counts
    (a.named ∙ sym named) (a.seen.package_level ∙ sym seen.package_level) in
    a.exported ∙ ap (Declared p.path) number ∙ ap (λ q. Declared q b.declaration) (sym paths) ∙ sym b.exported
