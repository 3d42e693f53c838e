-- No identifier of a declaration is the string literal of an import without a name.
use Rattle.std.proofs.Common.{◌≡◌, List, [], ◌∷◌, false, refl, sym, subst}
use Rattle.std.specs.List.{flat_map}
use Rattle.std.proofs.lemmas.Bool.{true≢false}
use Rattle.go_ast.specs.declared.syntax.Kind.{Kind}
use Rattle.go_ast.specs.declared.syntax.Token.{Token}
use Rattle.go_ast.specs.Flatten.{all_tokens, decl_tokens}
use Rattle.go_ast.specs.Tree.{DeclTree}
use Rattle.go_scope.specs.declared.model.Role.{Role}
use Rattle.go_scope.specs.declared.model.Role.TheVariants.{Use, Declaring, LeftName, Implied, NotLexical}
use Rattle.go_scope.specs.declared.model.Purpose.TheVariants as purpose
use Rattle.go_scope.specs.Named.{is_unnamed_import}
use Rattle.go_scope.specs.Site.{Site, TokenSpellings}
use Rattle.go_scope.specs.FileSites.{decl_sites}
use Rattle.go_scope.proofs.Regions.{Each}
use Rattle.go_scope.specs.IdentifierTokens.{is_ident_token}
use Rattle.go_scope.proofs.Covers.{Covers, Stands, IsTaken, ends, skips, takes, selects, keys}
use Rattle.go_scope.proofs.CoveredFiles.{decls_named}

abbrev pub IsOther : Site → Type 0
IsOther x = is_unnamed_import x.role ≡ false

-- at a name or `_` stands no literal of an import
no_literal_stands : (r : Role) (k : Kind) → Stands r k → IsTaken is_ident_token k → is_unnamed_import r ≡ false
no_literal_stands Use k h t = refl
no_literal_stands (Declaring block start) k h t = refl
no_literal_stands (LeftName block start) k h t = refl
no_literal_stands (Implied block start) k h t = refl
no_literal_stands (NotLexical purpose.Selected) k h t = refl
no_literal_stands (NotLexical purpose.Key) k h t = refl
no_literal_stands (NotLexical purpose.PackageClause) k h t = refl
no_literal_stands (NotLexical purpose.Member) k h t = refl
no_literal_stands (NotLexical purpose.ImportPath) k h t = refl
no_literal_stands (NotLexical purpose.UnnamedImport) k h t = absurd (true≢false (sym (subst (IsTaken is_ident_token) h t)))
no_literal_stands (NotLexical purpose.InitFunction) k h t = refl
no_literal_stands (NotLexical purpose.Blank) k h t = refl

covers_others : (s : TokenSpellings) (xs : List Site) (ts : List Token) → Covers is_ident_token s xs ts → Each IsOther xs
covers_others s _ _ ends = tt
covers_others s xs _ (skips {ts = ts} k a) = covers_others s xs ts a
covers_others s _ _ (takes {x = x} {xs = xs} {t = t} {ts = ts} k i e a) = (no_literal_stands x.role t.kind i k, covers_others s xs ts a)
covers_others s _ _ (selects {xs = xs} {ts = ts} dot out k w e a) = (subst IsOther (sym e) refl, covers_others s xs ts a)
covers_others s _ _ (keys {xs = xs} {ts = ts} colon out k w e a) = (subst IsOther (sym e) refl, covers_others s xs ts a)

pub other_decls : (s : TokenSpellings) (ds : List DeclTree) → Each IsOther (flat_map (decl_sites s) ds)
other_decls s ds = covers_others s (flat_map (decl_sites s) ds) (all_tokens decl_tokens ds) (decls_named s ds)
