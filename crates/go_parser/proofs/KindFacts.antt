-- Facts on each kind of token, by a test of all kinds.
use Rattle.std.proofs.Common.{ℕ, zero, suc, ◌≡◌, Bool, true, false, List, [], ◌∷◌, ◌&&◌, get_or, ap, sym, ◌∙◌, subst, refl, Option, Some, None}
use Rattle.go_ast.specs.declared.syntax.Kind.{Kind}
use Rattle.go_ast.specs.declared.syntax.Kind.TheVariants as kind
use Rattle.go_ast.specs.declared.syntax.BinaryOp.{BinaryOp}
use Rattle.go_ast.specs.declared.syntax.PrefixOp.{PrefixOp}
use Rattle.go_ast.specs.Grammar.{number_of, is, binary_of, prefix_of, is_binary, is_prefix, is_some}
use Rattle.go_ast.specs.Flatten.{binary_kind, prefix_kind}
use Rattle.go_parser.proofs.KindTests.{kinds, at_number, is_only}

abbrev pub every : (Kind → Bool) → List Kind → Bool
every f [] = true
every f (k ∷ ks) = f k && every f ks

left : (a b : Bool) → (a && b) ≡ true → a ≡ true
left true b e = refl
left false b e = cc

right : (a b : Bool) → (a && b) ≡ true → b ≡ true
right true b e = e
right false b e = cc

every_at : (f : Kind → Bool) (ks : List Kind) (n : ℕ) (d : Kind) → every f ks ≡ true → f d ≡ true → f (get_or ks n d) ≡ true
every_at f [] n d e h = h
every_at f (k ∷ ks) zero d e h = left (f k) (every f ks) e
every_at f (k ∷ ks) (suc n) d e h = every_at f ks n d (right (f k) (every f ks) e) h

pub each_kind : (f : Kind → Bool) → every f kinds ≡ true → f kind.Name ≡ true → (k : Kind) → f k ≡ true
each_kind f e h k = subst (λ j. f j ≡ true) (at_number k) (every_at f kinds (number_of k) kind.Name e h)

-- the kind of an operator

abbrev kind_by_binary : Kind → Option BinaryOp → Kind
kind_by_binary k None = k
kind_by_binary k (Some op) = binary_kind op

abbrev kind_by_prefix : Kind → Option PrefixOp → Kind
kind_by_prefix k None = k
kind_by_prefix k (Some op) = prefix_kind op

pub binary_back : (k : Kind) (op : BinaryOp) → binary_of k ≡ Some op → k ≡ binary_kind op
binary_back k op e = sym (is_only k (kind_by_binary k (binary_of k)) (each_kind (λ k. is k (kind_by_binary k (binary_of k))) refl refl k)) ∙
    ap (kind_by_binary k) e

pub prefix_back : (k : Kind) (op : PrefixOp) → prefix_of k ≡ Some op → k ≡ prefix_kind op
prefix_back k op e = sym (is_only k (kind_by_prefix k (prefix_of k)) (each_kind (λ k. is k (kind_by_prefix k (prefix_of k))) refl refl k)) ∙
    ap (kind_by_prefix k) e

pub binary_some : (k : Kind) (op : BinaryOp) → binary_of k ≡ Some op → is_binary k ≡ true
binary_some k op e = ap is_some e

pub binary_none : (k : Kind) → binary_of k ≡ None → is_binary k ≡ false
binary_none k e = ap is_some e

pub prefix_some : (k : Kind) (op : PrefixOp) → prefix_of k ≡ Some op → is_prefix k ≡ true
prefix_some k op e = ap is_some e

pub prefix_none : (k : Kind) → prefix_of k ≡ None → is_prefix k ≡ false
prefix_none k e = ap is_some e
