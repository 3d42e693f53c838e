-- The identifiers of a file stand at its tokens, in their order.
use Rattle.std.proofs.Common.{Bool, List, ◌++◌, ap, refl}
use Rattle.std.specs.List.{flat_map}
use Rattle.go_ast.specs.declared.syntax.Kind.{Kind}
use Rattle.go_ast.specs.declared.syntax.Token.{Token}
use Rattle.go_ast.specs.Flatten.{all_tokens, imports_tokens, decl_tokens, flatten}
use Rattle.go_ast.specs.Tree.{FileTree}
use Rattle.go_scope.specs.IdentifierTokens.{is_ident_token, is_header_name}
use Rattle.go_scope.specs.Site.{Site, TokenSpellings}
use Rattle.go_scope.specs.FileSites.{imports_sites, decl_sites, file_sites}
use Rattle.go_scope.proofs.AmongTokens as among
use Rattle.go_scope.proofs.AmongTokens.{AreAmong, among_append}
use Rattle.go_scope.proofs.Covers.{Covers, ends, skips, takes, selects, keys}
use Rattle.go_scope.proofs.CoveredFiles.{imports_covered, decls_named}

covers_among : (P : Kind → Bool) (s : TokenSpellings) (xs : List Site) (ts : List Token) → Covers P s xs ts → AreAmong s.rank xs ts
covers_among P s _ _ ends = among.ends
covers_among P s xs _ (skips {ts = ts} k a) = among.skips (covers_among P s xs ts a)
covers_among P s _ _ (takes {xs = xs} {t = t} {ts = ts} k i e a) = among.takes (ap (λ (x : Site). x.place) e) (covers_among P s xs ts a)
covers_among P s _ _ (selects {xs = xs} {t = t} {ts = ts} dot out k w e a) =
    among.skips (among.takes (ap (λ (x : Site). x.place) e) (covers_among P s xs ts a))
covers_among P s _ _ (keys {xs = xs} {t = t} {ts = ts} colon out k w e a) =
    among.takes (ap (λ (x : Site). x.place) e) (among.skips (covers_among P s xs ts a))

pub file_among : (s : TokenSpellings) (f : FileTree) → AreAmong s.rank (file_sites s f) (flatten f)
unfolding file_sites flatten
file_among s f =
    let header = all_tokens imports_tokens f.imports in
    let rest = all_tokens decl_tokens f.decls in
    let imports = flat_map (imports_sites s) f.imports in
    let decls = flat_map (decl_sites s) f.decls in
    among.skips (among.takes refl (among.skips (among_append s.rank imports decls header rest
    (covers_among is_header_name s imports header (imports_covered s f.imports)) (covers_among is_ident_token s decls rest (decls_named s f.decls)))))
