-- The grammar derives the tokens of a file's tree, and they have no other tree.
use Rattle.std.proofs.Common.{◌≡◌, List, [], ◌∷◌, refl, ap, sym, ◌∙◌, append-nil}
use Rattle.go_ast.specs.declared.syntax.Token.{Token}
use Rattle.go_ast.specs.Grammar.{A, File}
use Rattle.go_ast.specs.Language.{Derives, ends}
use Rattle.go_ast.specs.Tree.{FileTree}
use Rattle.go_ast.specs.Flatten.{flatten}
use Rattle.go_ast.specs.WellFormed.{IsTreeOf}
use Rattle.go_parser.proofs.OneValue.{one_value}
use Rattle.go_parser.proofs.Made.{Made, along}
use Rattle.go_parser.proofs.MadeDecls.{made_file}

end_of_file : Made [] tt []
end_of_file = record { by = ends; gives = refl }

made_whole : {f : FileTree} {ts : List Token} → IsTreeOf f ts → Made (A File ∷ []) (f, tt) ts
made_whole {f = f} w = along (sym w.written ∙ sym (append-nil (flatten f))) (made_file f w.well_formed end_of_file)

pub derived : {f : FileTree} {ts : List Token} → IsTreeOf f ts → Derives (A File ∷ []) ts
derived w = (made_whole w).by

pub one_tree : {f g : FileTree} {ts : List Token} → IsTreeOf f ts → IsTreeOf g ts → f ≡ g
one_tree v w =
    let a = made_whole v in
    let b = made_whole w in
    ap (λ x. x.0) (sym a.gives ∙ (one_value a.by b.by ((λ k e. cc), tt) ∙ b.gives))
