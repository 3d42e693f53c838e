-- The kinds of the tokens at which identifiers stand: names, strings for the literals of imports, and either a name or `_` for uses.
use Rattle.std.proofs.Common.{ℕ, Bool, List, [], ◌∷◌, ◌++◌, sym, ap, subst}
use Rattle.std.specs.List.{AllByRecursion, flat_map}
use Rattle.base_lemmas.proofs.EachElement.{all_append, all_front, all_back}
use Rattle.go_ast.specs.declared.syntax.Kind.{Kind}
use Rattle.go_ast.specs.declared.syntax.Kind.TheVariants as kind
use Rattle.go_ast.specs.declared.syntax.Token.{Token}
use Rattle.go_ast.specs.Flatten.{all_tokens, imports_tokens, decl_tokens, flatten}
use Rattle.go_ast.specs.Tree.{FileTree}
use Rattle.go_scope.specs.declared.model.Purpose.TheVariants as purpose
use Rattle.go_scope.specs.declared.model.Role.{Role}
use Rattle.go_scope.specs.declared.model.Role.TheVariants.{Use, Declaring, LeftName, Implied, NotLexical}
use Rattle.go_scope.specs.Site.{Site, TokenSpellings}
use Rattle.go_scope.specs.FileSites.{imports_sites, decl_sites, file_sites}
use Rattle.go_scope.specs.IdentifierTokens.{is_ident_token, is_header_name}
use Rattle.go_scope.proofs.Covers.{Covers, Stands, ends, skips, takes, selects, keys}
use Rattle.go_scope.proofs.CoveredFiles.{imports_covered, decls_named}

-- What the role of an identifier tells of the kind of its token.
abbrev pub Fits : (Kind → ℕ → Type 0) → ℕ → Role → Type 0
Fits K i Use = Unit {0}
Fits K i (Declaring b start) = K kind.Name i
Fits K i (LeftName b start) = K kind.Name i
Fits K i (Implied b start) = K kind.Name i
Fits K i (NotLexical purpose.Blank) = Unit {0}
Fits K i (NotLexical purpose.UnnamedImport) = K kind.Text i
Fits K i (NotLexical purpose.ImportPath) = K kind.Text i
Fits K i (NotLexical p) = K kind.Name i

module _ (K : Kind → ℕ → Type 0) where
  role_fits : (i : ℕ) (r : Role) (k : Kind) → Stands r k → K k i → Fits K i r
  role_fits i Use k h x = tt
  role_fits i (Declaring b start) k h x = subst (λ z. K z i) h x
  role_fits i (LeftName b start) k h x = subst (λ z. K z i) h x
  role_fits i (Implied b start) k h x = absurd h
  role_fits i (NotLexical purpose.Selected) k h x = absurd h
  role_fits i (NotLexical purpose.Key) k h x = absurd h
  role_fits i (NotLexical purpose.PackageClause) k h x = subst (λ z. K z i) h x
  role_fits i (NotLexical purpose.Member) k h x = subst (λ z. K z i) h x
  role_fits i (NotLexical purpose.ImportPath) k h x = subst (λ z. K z i) h x
  role_fits i (NotLexical purpose.UnnamedImport) k h x = subst (λ z. K z i) h x
  role_fits i (NotLexical purpose.InitFunction) k h x = subst (λ z. K z i) h x
  role_fits i (NotLexical purpose.Blank) k h x = tt

  abbrev P : Site → Type 0
  P x = Fits K x.place.index x.role

  abbrev AllOf : List Token → Type 0
  AllOf ts = AllByRecursion (λ (t : Token). K t.kind t.place) ts

  covers_fit : (Q : Kind → Bool) (s : TokenSpellings) (xs : List Site) (ts : List Token) → Covers Q s xs ts → AllOf ts → AllByRecursion P xs
  covers_fit Q s _ _ ends h = tt
  covers_fit Q s xs _ (skips {ts = ts} k a) h = covers_fit Q s xs ts a h.1
  covers_fit Q s _ _ (takes {x = x} {xs = xs} {t = t} {ts = ts} k i e a) h = (
    subst (λ n. Fits K n x.role) (sym (ap (λ (y : Site). y.place.index) e)) (role_fits t.place x.role t.kind i h.0),
    covers_fit Q s xs ts a h.1,
  )
  covers_fit Q s _ _ (selects {x = x} {xs = xs} {d = d} {t = t} {ts = ts} dot out k w e a) h =
      (subst P (sym e) (subst (λ z. K z t.place) w h.1.0), covers_fit Q s xs ts a h.1.1)
  covers_fit Q s _ _ (keys {x = x} {xs = xs} {t = t} {c = c} {ts = ts} colon out k w e a) h =
      (subst P (sym e) (subst (λ z. K z t.place) w h.0), covers_fit Q s xs ts a h.1.1)

-- the identifiers of a file, where K holds of its tokens
pub file_fits : (K : Kind → ℕ → Type 0) (s : TokenSpellings) (f : FileTree) → AllByRecursion (λ (t : Token). K t.kind t.place) (flatten f) →
    AllByRecursion (λ x. Fits K x.place.index x.role) (file_sites s f)
unfolding file_sites flatten
file_fits K s f h =
    let header = all_tokens imports_tokens f.imports in
    let rest = all_tokens decl_tokens f.decls in
    let imports = flat_map (imports_sites s) f.imports in
    let decls = flat_map (decl_sites s) f.decls in
    let holds = λ (t : Token). K t.kind t.place in (
      h.1.0,
      all_append (λ (x : Site). Fits K x.place.index x.role) imports decls
          (covers_fit K is_header_name s imports header (imports_covered s f.imports) (all_front holds header rest h.1.1.1))
          (covers_fit K is_ident_token s decls rest (decls_named s f.decls) (all_back holds header rest h.1.1.1)),
    )
