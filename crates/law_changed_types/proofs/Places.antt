-- The tokens at which trees begin and report their faults get their new numbers.
use Rattle.std.proofs.Common.{ℕ, ◌≡◌, List, [], ◌∷◌, refl, sym, ap, ◌∙◌}
use Rattle.go_ast.specs.Tree.{Item, IdentTree, Named, Underscore, TypeTree, ExprTree, LinkTrees, LiteralTree}
use Rattle.go_ast.specs.Tree as tree
use Rattle.types_expr.specs.Places.{first_token, first_of_type, first_of_literal, place_of, place_of_links}
use Rattle.types_stmt.specs.Sides.{first_of_exprs, first_of_idents, ident_place}
use Rattle.types_stmt.specs.Declarations.{first_name}
use Rattle.law_rename.specs.Renumbered.{items_by, ident_by, type_by, expr_by, exprs_by, links_by, literal_by}
use Rattle.law_changed_types.proofs.Renumber.{Renumber}

pub type_begins : (m : Renumber) (t : TypeTree) → first_of_type (type_by m.to t) ≡ m.to (first_of_type t)
unfolding type_by
type_begins m (tree.Local n) = refl
type_begins m (tree.Imported p d n) = refl
type_begins m (tree.Pointer s t) = refl
type_begins m (tree.Slice o c t) = refl

literal_begins : (m : Renumber) (l : LiteralTree) → first_of_literal (literal_by m.to l) ≡ m.to (first_of_literal l)
unfolding expr_by
literal_begins m (tree.literal t o es c) = type_begins m t

pub begins : (m : Renumber) (e : ExprTree) → first_token (expr_by m.to e) ≡ m.to (first_token e)
unfolding first_token expr_by
begins m (tree.Number p) = refl
begins m (tree.Text p) = refl
begins m (tree.Name p) = refl
begins m (tree.Blank p) = refl
begins m (tree.Composite l) = literal_begins m l
begins m (tree.Paren o e c) = refl
begins m (tree.Prefix op p e) = refl
begins m (tree.Address p l) = refl
begins m (tree.Chain e ls) = begins m e
begins m (tree.Binary e os) = begins m e

links_report : (m : Renumber) (ls : LinkTrees) (start here : ℕ) →
    place_of_links (m.to start) (m.to here) (links_by m.to ls) ≡ m.to (place_of_links start here ls)
unfolding place_of_links expr_by
links_report m tree.no_link start here = refl
links_report m (tree.selector d n rest) start here = links_report m rest start n
links_report m (tree.index o e c rest) start here = links_report m rest start start
links_report m (tree.call o xs c rest) start here = links_report m rest start start

pub reports : (m : Renumber) (e : ExprTree) → place_of (expr_by m.to e) ≡ m.to (place_of e)
unfolding place_of expr_by
reports m (tree.Number p) = begins m (tree.Number p)
reports m (tree.Text p) = begins m (tree.Text p)
reports m (tree.Name p) = begins m (tree.Name p)
reports m (tree.Blank p) = begins m (tree.Blank p)
reports m (tree.Composite l) = begins m (tree.Composite l)
reports m (tree.Paren o e c) = begins m (tree.Paren o e c)
reports m (tree.Prefix op p e) = begins m (tree.Prefix op p e)
reports m (tree.Address p l) = begins m (tree.Address p l)
reports m (tree.Chain e ls) = ap (λ z. place_of_links z z (links_by m.to ls)) (begins m e) ∙ links_report m ls (first_token e) (first_token e)
reports m (tree.Binary e os) = begins m (tree.Binary e os)

pub exprs_begin : (m : Renumber) (is : List (Item ExprTree)) → first_of_exprs (exprs_by m.to is) ≡ m.to (first_of_exprs is)
unfolding first_of_exprs
exprs_begin m [] = sym m.numbers.first
exprs_begin m (i ∷ is) = begins m i.value

ident_begins : (m : Renumber) (i : IdentTree) → ident_place (ident_by m.to i) ≡ m.to (ident_place i)
unfolding ident_place
ident_begins m (Named n) = refl
ident_begins m (Underscore n) = refl

pub idents_begin : (m : Renumber) (is : List (Item IdentTree)) → first_of_idents (items_by m.to (ident_by m.to) is) ≡ m.to (first_of_idents is)
unfolding first_of_idents
idents_begin m [] = sym m.numbers.first
idents_begin m (i ∷ is) = ident_begins m i.value

pub names_begin : (m : Renumber) (is : List (Item ℕ)) → first_name (items_by m.to m.to is) ≡ m.to (first_name is)
unfolding first_name
names_begin m [] = sym m.numbers.first
names_begin m (i ∷ is) = refl
