-- What holds of the identifier at each token of a file, in each role, holds of all its identifiers.
use Rattle.std.proofs.Common.{ℕ, List, [], ◌∷◌, sym, subst}
use Rattle.go_ast.specs.declared.syntax.Token.{Token}
use Rattle.go_ast.specs.Flatten.{flatten}
use Rattle.go_ast.specs.Tree.{FileTree}
use Rattle.go_scope.specs.declared.model.Role.{Role}
use Rattle.go_scope.specs.Site.{Site, TokenSpellings, site}
use Rattle.go_scope.specs.FileSites.{file_sites}
use Rattle.go_scope.proofs.Regions.{Each}
use Rattle.law_tokens.specs.Tokens.{identifiers_among}
use Rattle.law_tokens.proofs.Covering.{Pairs, file_pairs}

module _ (s : TokenSpellings) (P : Site → Type 0) (all : (i : ℕ) (role : Role) → P (site s i role)) where
  each_paired : (xs : List Site) (ts : List Token) → Pairs s xs ts → Each P xs
  each_paired [] ts h = tt
  each_paired (x ∷ xs) [] h = absurd h
  each_paired (x ∷ xs) (t ∷ ts) h = (subst P (sym h.1) (all t.place x.role), each_paired xs ts h.2)

  pub in_file : (f : FileTree) → Each P (file_sites s f)
  in_file f = each_paired (file_sites s f) (identifiers_among (flatten f)) (file_pairs s f)
