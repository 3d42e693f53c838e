-- Tokens of a class: contracts of the functions that parse one of them.
use Rattle.std.proofs.Common.{ℕ, ◌≡◌, Bool, true, false, List, [], ◌∷◌, length, ap, sym, ◌∙◌, subst, refl, Some, None}
use Rattle.go_ast.specs.declared.syntax.Kind.{Kind}
use Rattle.go_ast.specs.declared.syntax.Kind.TheVariants as kind
use Rattle.go_ast.specs.declared.syntax.Token.{Token}
use Rattle.go_ast.specs.declared.syntax.StepOp.{StepOp}
use Rattle.go_ast.specs.declared.syntax.UpdateOp.{UpdateOp}
use Rattle.go_ast.specs.declared.syntax.TokenFaultKind.TheVariants.{Syntax}
use Rattle.go_parser.specs.declared.parse_error.ParseError.{ParseError}
use Rattle.go_parser.specs.declared.parse_error.ParseError.TheVariants.{Fault}
use Rattle.go_ast.specs.declared.tree.Ident.{Ident}
use Rattle.go_ast.specs.declared.tree.BasicLit.{BasicLit}
use Rattle.go_parser.specs.declared.token_classes.Setting.{Setting}
use Rattle.go_parser.specs.declared.token_classes.Setting.TheVariants as setting
use Rattle.go_parser.specs.declared.token_classes.SetOp.{SetOp}
use Rattle.go_ast.specs.Grammar.{One, is_ident, is_literal, is_step, is_update, may_set}
use Rattle.go_parser.specs.Machine.{ParserRun, take}
use Rattle.go_parser.specs.Parsing.{Read, Fails}
use Rattle.go_ast.specs.Flatten.{sign, step_kind, update_kind}
use Rattle.go_parser.specs.Spelling.{ident_spelled, basic_spelled}
use Rattle.go_parser.specs.TokenClasses.{step_of, update_of, set_of, either_set, plain_set, set_kind, setting_of, IsAllowed, ident_of, basic_of}
use Rattle.go_parser.proofs.MachineSteps.{refuses_one, at_end, at_token}

none_some : {X : Type 0} {x : X} → None ≡ Some x → ⊥
none_some e = cc

some_none : {X : Type 0} {x : X} → Some x ≡ None → ⊥
some_none e = cc

some_same : {X : Type 0} {x y : X} → Some x ≡ Some y → x ≡ y
some_same e = cc

-- a token of a class, with its kind known
pub read_class : (c : Kind → Bool) (k : Kind) (t : Token) {d : ℕ} {ts rest : List Token} → ts ≡ t ∷ rest → c t.kind ≡ true → t.kind ≡ k →
    Read (One c ∷ []) (sign k t.place ∷ []) d ts d rest
read_class c k t {d = d} {rest = rest} e within same = record {
  text = e ∙ ap (λ j. sign j t.place ∷ rest) same;
  passes = record { runs = λ after o r. subst (λ ts. ParserRun d (One c ∷ after) ts o) (sym e) (take within r) };
}

-- a token of another class is refused
pub token_refused : (c : Kind → Bool) (d : ℕ) (t : Token) {ts rest : List Token} {e : ParseError} → ts ≡ t ∷ rest → c t.kind ≡ false →
    e ≡ Fault Syntax (length ts) → Fails (One c ∷ []) d ts e
token_refused c d t {ts = ts} {rest = rest} same without is =
    subst (λ e. Fails (One c ∷ []) d ts e) (sym is) (refuses_one c d ts (at_token c false t ts rest same without))

-- the end of the tokens is refused
pub end_refused : (c : Kind → Bool) (d : ℕ) {ts : List Token} {e : ParseError} → ts ≡ [] → e ≡ Fault Syntax (length ts) → Fails (One c ∷ []) d ts e
end_refused c d {ts = ts} same is = subst (λ e. Fails (One c ∷ []) d ts e) (sym is) (refuses_one c d ts (at_end c ts same))

-- identifiers

pub ident_class : (k : Kind) (p : ℕ) (i : Ident) → ident_of k p ≡ Some i → (is_ident k ≡ true) × (sign k p ∷ [] ≡ ident_spelled i)
ident_class kind.Name p i e = (refl, ap ident_spelled (some_same e))
ident_class kind.Blank p i e = (refl, ap ident_spelled (some_same e))
ident_class _ p i e = absurd (none_some e)

pub ident_refused : (k : Kind) (p : ℕ) → ident_of k p ≡ None → is_ident k ≡ false
ident_refused kind.Name p e = absurd (some_none e)
ident_refused kind.Blank p e = absurd (some_none e)
ident_refused _ p e = refl

-- literals of one token

pub basic_class : (k : Kind) (p : ℕ) (b : BasicLit) → basic_of k p ≡ Some b → (is_literal k ≡ true) × (sign k p ∷ [] ≡ basic_spelled b)
basic_class kind.Number p b e = (refl, ap basic_spelled (some_same e))
basic_class kind.Text p b e = (refl, ap basic_spelled (some_same e))
basic_class _ p b e = absurd (none_some e)

pub basic_refused : (k : Kind) (p : ℕ) → basic_of k p ≡ None → is_literal k ≡ false
basic_refused kind.Number p e = absurd (some_none e)
basic_refused kind.Text p e = absurd (some_none e)
basic_refused _ p e = refl

-- `++` and `--`

pub step_class : (k : Kind) (op : StepOp) → step_of k ≡ Some op → (is_step k ≡ true) × (k ≡ step_kind op)
step_class kind.Increment op e = (refl, ap step_kind (some_same e))
step_class kind.Decrement op e = (refl, ap step_kind (some_same e))
step_class _ op e = absurd (none_some e)

pub step_refused : (k : Kind) → step_of k ≡ None → is_step k ≡ false
step_refused kind.Increment e = absurd (some_none e)
step_refused kind.Decrement e = absurd (some_none e)
step_refused _ e = refl

-- operators such as `+=`

pub update_class : (k : Kind) (op : UpdateOp) → update_of k ≡ Some op → (is_update k ≡ true) × (k ≡ update_kind op)
update_class kind.AddAssign op e = (refl, ap update_kind (some_same e))
update_class kind.SubAssign op e = (refl, ap update_kind (some_same e))
update_class kind.MulAssign op e = (refl, ap update_kind (some_same e))
update_class kind.DivAssign op e = (refl, ap update_kind (some_same e))
update_class kind.RemAssign op e = (refl, ap update_kind (some_same e))
update_class _ op e = absurd (none_some e)

pub update_refused : (k : Kind) → update_of k ≡ None → is_update k ≡ false
update_refused kind.AddAssign e = absurd (some_none e)
update_refused kind.SubAssign e = absurd (some_none e)
update_refused kind.MulAssign e = absurd (some_none e)
update_refused kind.DivAssign e = absurd (some_none e)
update_refused kind.RemAssign e = absurd (some_none e)
update_refused _ e = refl

-- `=` and `:=`

either_class : (k : Kind) (op : SetOp) → either_set k ≡ Some op → (may_set (setting_of setting.Plain) k ≡ true) × (k ≡ set_kind op)
either_class kind.Assign op e = (refl, ap set_kind (some_same e))
either_class kind.Define op e = (refl, ap set_kind (some_same e))
either_class _ op e = absurd (none_some e)

plain_class : (k : Kind) (op : SetOp) → plain_set k ≡ Some op → (may_set (setting_of setting.Post) k ≡ true) × (k ≡ set_kind op)
plain_class kind.Assign op e = (refl, ap set_kind (some_same e))
plain_class _ op e = absurd (none_some e)

pub set_class : (s : Setting) (k : Kind) (op : SetOp) → set_of s k ≡ Some op → (may_set (setting_of s) k ≡ true) × (k ≡ set_kind op)
set_class setting.Plain k op e = either_class k op e
set_class setting.Head k op e = either_class k op e
set_class setting.Post k op e = plain_class k op e

post_allowed : (k : Kind) (op : SetOp) → plain_set k ≡ Some op → IsAllowed setting.Post op
post_allowed kind.Assign op e = subst (IsAllowed setting.Post) (some_same e) tt
post_allowed _ op e = absurd (none_some e)

pub set_allowed : (s : Setting) (k : Kind) (op : SetOp) → set_of s k ≡ Some op → IsAllowed s op
set_allowed setting.Plain k op e = tt
set_allowed setting.Head k op e = tt
set_allowed setting.Post k op e = post_allowed k op e

either_refused : (k : Kind) → either_set k ≡ None → may_set (setting_of setting.Plain) k ≡ false
either_refused kind.Assign e = absurd (some_none e)
either_refused kind.Define e = absurd (some_none e)
either_refused _ e = refl

plain_refused : (k : Kind) → plain_set k ≡ None → may_set (setting_of setting.Post) k ≡ false
plain_refused kind.Assign e = absurd (some_none e)
plain_refused _ e = refl

pub set_refused : (s : Setting) (k : Kind) → set_of s k ≡ None → may_set (setting_of s) k ≡ false
set_refused setting.Plain k e = either_refused k e
set_refused setting.Head k e = either_refused k e
set_refused setting.Post k e = plain_refused k e
