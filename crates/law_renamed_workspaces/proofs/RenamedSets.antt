-- What is renamed with a declaration.
use Rattle.std.proofs.Common.{ℕ, ◌≡◌, ◌⊎◌, inl, inr, List, [], ◌∷◌, refl, sym, ap, subst, ◌∙◌}
use Rattle.std.specs.Prelude.{Contains, Some}
use Rattle.std.proofs.lemmas.Bool.{cases_eq}
use Rattle.base_lemmas.proofs.Elements.{first_in, first_or_later, nothing_in, later_in}
use Rattle.types_declared.specs.Package.{Package}
use Rattle.workspace_check.specs.Verdicts.{Verdicts}
use Rattle.base_files.specs.Workspace.{Workspace}
use Rattle.base_edits.specs.EditSet.{FileChanges}
use Rattle.refs_binding.specs.declared.declaration.Declaration.{Declaration}
use Rattle.refs_binding.specs.declared.declaration.Declaration.TheVariants.{Predeclared, Declared, Field, Method}
use Rattle.refs_binding.specs.Uses.{IsBoundToDeclaration, IsCheckedPackage}
use Rattle.refactor_rename.specs.Naming.{IsReservedFor}
use Rattle.types_expr.specs.declared.symbol.Symbol.{Symbol}
use Rattle.types_declared.proofs.ByteKeys.{cases_bytes}
use Rattle.refs_places.specs.Homes.{IsHomeOfSome}
use Rattle.refs_places.specs.Outside.{declaring_path}
use Rattle.law_renamed_workspaces.specs.Reaching.{home_of}
use Rattle.law_renamed_workspaces.specs.Renames.{IsMember, IsPlainRename, IsSetWith}

-- The identifier of the package is bound to one of the declarations.
pub record IsBoundToSome (w : Workspace) (known : Verdicts) (set : List Declaration) (p : Package) (u : ℕ) : Type 0 where
  pub declaration : Declaration
  pub among : Contains set declaration
  pub bound : IsBoundToDeclaration w known p u declaration

-- a declaration alone is a set
pub alone : (Is : Package → Type 0) (d : Declaration) → IsSetWith Is d (d ∷ [])
alone Is d = record {
  has_it = first_in d [];
  others = λ e h. inl (elim (first_or_later d [] e h) [ inl same ↦ sym same | inr later ↦ absurd (nothing_in e later) ]);
}

-- What is no member is renamed alone.
pub own_alone : (Is : Package → Type 0) (d : Declaration) (set : List Declaration) → IsSetWith Is d set → (IsMember d → ⊥) → (e : Declaration) →
    Contains set e → e ≡ d
own_alone Is d set is none e h = elim (is.others e h) [ inl same ↦ same | inr alike ↦ absurd (none alike.first) ]

-- So is what no member is of the set.
pub other_alone : (Is : Package → Type 0) (d : Declaration) (set : List Declaration) → IsSetWith Is d set → (e : Declaration) → Contains set e →
    (IsMember e → ⊥) → e ≡ d
other_alone Is d set is e h none = elim (is.others e h) [ inl same ↦ same | inr alike ↦ absurd (none alike.second) ]

-- What is no member and is renamed is the declaration itself.
pub is_own : (w : Workspace) (known : Verdicts) (d : Declaration) (name : List ℕ) (s : FileChanges) (h : IsPlainRename w known d name s)
    (k e : Declaration) → Contains h.rename.set e → (IsMember k → ⊥) → e ≡ k → d ≡ k
is_own w known d name s h k e in_set none same =
    sym (other_alone (IsCheckedPackage w known) d h.rename.set h.rename.is_set e in_set (λ m. none (subst IsMember same m))) ∙ same

-- no name is reserved for a member
no_member_reserved : (Is : Package → Type 0) (e : Declaration) (name : List ℕ) → IsMember e → IsReservedFor Is e name → ⊥
no_member_reserved Is (Predeclared n) name m r = m
no_member_reserved Is (Declared path n) name m r = m
no_member_reserved Is (Field s) name m r = r.0.holds
no_member_reserved Is (Method s) name m r = r.0.holds

pub reserved_among : (Is : Package → Type 0) (d : Declaration) (set : List Declaration) → IsSetWith Is d set → (name : List ℕ) (e : Declaration) →
    Contains set e → IsReservedFor Is e name → IsReservedFor Is d name
reserved_among Is d set is name e h r = elim (is.others e h) [
  | inl same ↦ subst (λ k. IsReservedFor Is k name) same r
  | inr alike ↦ absurd (no_member_reserved Is e name alike.second r)
]

-- whether a declaration is the member

same_symbol : (s t : Symbol) → (s ≡ t) ⊎ (s ≡ t → ⊥)
same_symbol s t = elim (cases_bytes s.package t.package) [
  | inr other ↦ inr (λ e. other (ap (λ (y : Symbol). y.package) e))
  | inl path ↦ elim (cases_eq s.rank t.rank) [
    | inr other ↦ inr (λ e. other (ap (λ (y : Symbol). y.rank) e))
    | inl rank ↦ inl
        (ap (λ q. record { «package» = q; rank = s.rank }) path ∙ ap (λ n. record { «package» = t.package; rank = n }) rank)
  ]
]

abbrev symbol_or : Symbol → Declaration → Symbol
symbol_or s (Field t) = t
symbol_or s (Method t) = t
symbol_or s e = s

pub same_or_other : (e d : Declaration) → IsMember e → (e ≡ d) ⊎ (e ≡ d → ⊥)
same_or_other (Field s) (Field t) m = elim (same_symbol s t) [ inl same ↦ inl (ap Field same) | inr other ↦ inr (λ e. other (ap (symbol_or s) e)) ]
same_or_other (Field s) (Method t) m = inr (λ e. let z : ⊥ = cc in z)
same_or_other (Field s) (Predeclared n) m = inr (λ e. let z : ⊥ = cc in z)
same_or_other (Field s) (Declared path n) m = inr (λ e. let z : ⊥ = cc in z)
same_or_other (Method s) (Method t) m = elim (same_symbol s t) [ inl same ↦ inl (ap Method same) | inr other ↦ inr (λ e. other (ap (symbol_or s) e)) ]
same_or_other (Method s) (Field t) m = inr (λ e. let z : ⊥ = cc in z)
same_or_other (Method s) (Predeclared n) m = inr (λ e. let z : ⊥ = cc in z)
same_or_other (Method s) (Declared path n) m = inr (λ e. let z : ⊥ = cc in z)
same_or_other (Predeclared n) d m = absurd m
same_or_other (Declared path n) d m = absurd m

-- the path of the package of a member
home_declared : (e : Declaration) → IsMember e → declaring_path e ≡ Some (home_of e)
home_declared (Predeclared n) m = absurd m
home_declared (Declared path n) m = absurd m
home_declared (Field s) m = refl
home_declared (Method s) m = refl

pub home_among : (set : List Declaration) (e : Declaration) → IsMember e → Contains set e → IsHomeOfSome set (home_of e)
home_among set e member h = record { declaration = e; among = h; declares = home_declared e member }

-- whether a member is one of the set
pub among_or_not : (set : List Declaration) (e : Declaration) → IsMember e → Contains set e ⊎ (Contains set e → ⊥)
among_or_not [] e member = inr (λ h. nothing_in e h)
among_or_not (d ∷ ds) e member = elim (same_or_other e d member) [
  | inl same ↦ inl (subst (Contains (d ∷ ds)) (sym same) (first_in d ds))
  | inr other ↦ elim (among_or_not ds e member) [
    | inl later ↦ inl (later_in d ds e later)
    | inr none ↦ inr (λ h. elim (first_or_later d ds e h) [ inl same ↦ other (sym same) | inr later ↦ none later ])
  ]
]
