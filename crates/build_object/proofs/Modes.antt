-- The modes of chains behind their links, and the mode of the operand before each link, as far as this link depends on it.
use Rattle.std.proofs.Common.{ℕ, ◌≡◌, ◌∷◌, ◌++◌, [], List, ap, sym, ◌∙◌, refl, Bool, true, false, Option, Some, None, zero, suc, ◌+◌, ◌<◌, ◌==◌, ◌&&◌}
use Rattle.std.proofs.Common.{length, take, get_or, arith}
use Rattle.std.proofs.Math.Seq.{take-suc}
use Rattle.std.proofs.lemmas.List.{take_more}
use Rattle.go_ast.specs.declared.tree.Link.{Link}
use Rattle.go_ast.specs.declared.tree.Link.TheVariants as link
use Rattle.go_ast.specs.Tree.{no_link}
use Rattle.go_ast.specs.View.{link_view}
use Rattle.types_expr.specs.Lists.{links_in}
use Rattle.types_expr.specs.Types.{PlainType, AFieldOf, AMethodOf}
use Rattle.types_expr.specs.World.{Member, AField, AMethod, ABrokenMethod}
use Rattle.build_object.specs.Lines.{FunctionName}
use Rattle.build_object.specs.Source.{Source}
use Rattle.build_object.specs.Operands.{Mode, Values, Called, CalledAsked, asked_mode, Converts}
use Rattle.build_object.specs.Operands.{Predeclared, Qualifies, CodeOperand, qualifies, unqualified, function_mode}
use Rattle.build_object.specs.Operands.{field_operand, member_operand, typed_selector, selected_by, calling, left_by_call}
use Rattle.build_object.specs.Expressions.{linked, one_link}
use Rattle.build_object.specs.Making.{before_link}

pub qualifies_before : (s : Mode) → qualifies (before_link s) ≡ qualifies s
unfolding before_link
qualifies_before (Values n) = refl
qualifies_before (Called r f n) = refl
qualifies_before (CalledAsked f n) = refl
qualifies_before Converts = refl
qualifies_before (Predeclared b) = refl
qualifies_before Qualifies = refl

pub calling_before : (n : ℕ) (s : Mode) → calling n (before_link s) ≡ calling n s
unfolding before_link calling
calling_before n (Values k) = refl
calling_before n (Called r f k) = refl
calling_before n (CalledAsked f k) = refl
calling_before n Converts = refl
calling_before n (Predeclared b) = refl
calling_before n Qualifies = refl

pub left_before : (s : Mode) → left_by_call (before_link s) ≡ left_by_call s
unfolding before_link left_by_call
left_before (Values k) = refl
left_before (Called r f k) = refl
left_before (CalledAsked f k) = refl
left_before Converts = refl
left_before (Predeclared b) = refl
left_before Qualifies = refl

pub same_qualifies : (a b : Mode) → before_link a ≡ before_link b → qualifies a ≡ qualifies b
same_qualifies a b e = sym (qualifies_before a) ∙ (ap qualifies e ∙ qualifies_before b)

pub same_calling : (n : ℕ) (a b : Mode) → before_link a ≡ before_link b → calling n a ≡ calling n b
same_calling n a b e = sym (calling_before n a) ∙ (ap (calling n) e ∙ calling_before n b)

pub same_left : (a b : Mode) → before_link a ≡ before_link b → left_by_call a ≡ left_by_call b
same_left a b e = sym (left_before a) ∙ (ap left_by_call e ∙ left_before b)

-- behind a link never stands the name of a package

unqualified_never : (s : Mode) → qualifies (unqualified s) ≡ false
unqualified_never (Values n) = refl
unqualified_never (Called r f n) = refl
unqualified_never (CalledAsked f n) = refl
unqualified_never Converts = refl
unqualified_never (Predeclared b) = refl
unqualified_never Qualifies = refl

function_never : (name : Option FunctionName) (r : Bool) (n : ℕ) → qualifies (function_mode name r n) ≡ false
function_never None r n = refl
function_never (Some f) r n = refl

field_never : (o : CodeOperand) (through : Bool) (i : Option ℕ) → qualifies (field_operand o through i).mode ≡ false
field_never o true i = refl
field_never o false i = refl

asked_never : (name : Option FunctionName) (n : ℕ) → qualifies (asked_mode name n) ≡ false
asked_never None n = refl
asked_never (Some f) n = refl

member_never : (s : Source) (o : CodeOperand) (t : PlainType) (m : Option Member) → qualifies (member_operand s o t m).mode ≡ false
unfolding member_operand
member_never s o t None = refl
member_never s o t (Some (AField f (AFieldOf own))) = field_never o _ _
member_never s o t (Some (AField f (AMethodOf signature))) = asked_never (s.asked f) _
member_never s o t (Some (AMethod m on_pointer signature)) = function_never (s.function m) true _
member_never s o t (Some (ABrokenMethod m)) = refl

typed_never : (s : Source) (n : ℕ) (o : CodeOperand) (t : Option PlainType) → qualifies (typed_selector s n o t).mode ≡ false
unfolding typed_selector
typed_never s n o None = refl
typed_never s n o (Some t) = member_never s o t (s.world.member n t)

selected_never : (s : Source) (slots : List ℕ) (n : ℕ) (o : CodeOperand) (stands : Mode) → qualifies (selected_by s slots n o stands).mode ≡ false
unfolding selected_by
selected_never s slots n o Qualifies = unqualified_never _
selected_never s slots n o (Values k) = typed_never s n o _
selected_never s slots n o (Called r f k) = typed_never s n o _
selected_never s slots n o (CalledAsked f k) = typed_never s n o _
selected_never s slots n o Converts = typed_never s n o _
selected_never s slots n o (Predeclared b) = typed_never s n o _

pub link_never : (s : Source) (slots : List ℕ) (l : Link) (o : CodeOperand) → qualifies (one_link s slots (link_view l no_link) o).mode ≡ false
unfolding one_link link_view
link_never s slots (link.Selector d n) o = selected_never s slots n o o.mode
link_never s slots (link.Index' b p e c) o = refl
link_never s slots (link.Call' b c shape row) o = refl

-- links in turn

pub linked_step : (s : Source) (slots : List ℕ) (o : CodeOperand) (l : Link) (rest : List Link) →
    linked s slots o (links_in (l ∷ rest)) ≡ linked s slots (one_link s slots (link_view l no_link) o) (links_in rest)
unfolding linked one_link links_in link_view
linked_step s slots o (link.Selector d n) rest = refl
linked_step s slots o (link.Index' b p e c) rest = refl
linked_step s slots o (link.Call' b c shape row) rest = refl

pub linked_end : (s : Source) (slots : List ℕ) (o : CodeOperand) → linked s slots o (links_in []) ≡ o
unfolding linked links_in
linked_end s slots o = refl

pub linked_last : (s : Source) (slots : List ℕ) (o : CodeOperand) (xs : List Link) (l : Link) →
    linked s slots o (links_in (xs ++ (l ∷ []))) ≡ one_link s slots (link_view l no_link) (linked s slots o (links_in xs))
linked_last s slots o [] l = linked_step s slots o l [] ∙ (linked_end s slots (one_link s slots (link_view l no_link) o)
    ∙ ap (one_link s slots (link_view l no_link)) (sym (linked_end s slots o)))
linked_last s slots o (x ∷ xs) l = linked_step s slots o x (xs ++ (l ∷ [])) ∙ (linked_last s slots (one_link s slots (link_view x no_link) o) xs l
    ∙ ap (one_link s slots (link_view l no_link)) (sym (linked_step s slots o x xs)))

pub linked_never : (s : Source) (slots : List ℕ) (o : CodeOperand) (xs : List Link) (l : Link) →
    qualifies (linked s slots o (links_in (xs ++ (l ∷ [])))).mode ≡ false
linked_never s slots o xs l = ap (λ p. qualifies p.mode) (linked_last s slots o xs l) ∙ link_never s slots l (linked s slots o (links_in xs))

-- whether the name of a package stands before the link of a number
pub known_before : (s : Source) (slots : List ℕ) (links : List Link) (n : ℕ) (head : Mode) (o : CodeOperand) → n < length links →
    before_link o.mode ≡ before_link head →
    qualifies (linked s slots o (links_in (take n links))).mode ≡ (n == 0 && qualifies head)
known_before s slots links zero head o lt same = ap (λ p. qualifies p.mode) (linked_end s slots o) ∙ same_qualifies o.mode head same
known_before s slots [] (suc n) head o lt same = let none : ⊥ = omega arith in absurd none
known_before s slots (x ∷ links) (suc n) head o lt same =
    let never : (suc n == 0) ≡ false = grind (arith) in
    let split : take (suc n) (x ∷ links) ≡ take n (x ∷ links) ++ (get_or (x ∷ links) n x ∷ []) = take-suc (x ∷ links) n x (omega arith) in
    ap (λ ls. qualifies (linked s slots o (links_in ls)).mode) split ∙
    (linked_never s slots o (take n (x ∷ links)) (get_or (x ∷ links) n x) ∙ sym (ap (λ b. b && qualifies head) never))

-- a link of a number, behind those before it
pub link_at : (s : Source) (slots : List ℕ) (links : List Link) (n : ℕ) (x : Link) (o : CodeOperand) → n < length links → x ≡ get_or links n x →
    linked s slots o (links_in (take (n + 1) links)) ≡ one_link s slots (link_view x no_link) (linked s slots o (links_in (take n links)))
link_at s slots links n x o lt is =
    ap (λ ls. linked s slots o (links_in ls)) (take_more links n x lt ∙ ap (λ y. take n links ++ (y ∷ [])) (sym is)) ∙ linked_last s slots o (take n links) x
