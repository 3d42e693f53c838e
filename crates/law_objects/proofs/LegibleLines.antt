-- The types and the lines of code of an object in which one declaration gets a new name.
use Rattle.std.proofs.Common.{◌≡◌, ◌∙◌, ◌==◌, ℕ, Bool, true, false, not, List, [], ◌∷◌}
use Rattle.std.proofs.Common.{◌++◌, Option, Some, None, option_map, append_assoc, append-nil, refl, sym, ap, subst, codes}
use Rattle.std.specs.Fmt.{decimal}
use Rattle.std.specs.List.{flat_map, list_all}
use Rattle.go_ast.specs.declared.syntax.BinaryOp.{BinaryOp}
use Rattle.go_ast.specs.declared.syntax.BinaryOp.TheVariants as op
use Rattle.types_expr.specs.declared.symbol.Symbol.{Symbol}
use Rattle.types_expr.specs.declared.types.Basic.{Basic}
use Rattle.types_expr.specs.declared.types.Basic.TheVariants as basic
use Rattle.types_expr.specs.declared.types.Builtin.{Builtin}
use Rattle.types_expr.specs.declared.types.Builtin.TheVariants as builtin
use Rattle.types_expr.specs.Types.{PlainType, BasicType, Defined, Pointer, Slice}
use Rattle.types_declared.specs.Written.{basic_name}
use Rattle.types_declared.specs.MeaningOf.{builtin_name}
use Rattle.build_object.specs.Lines.{GlobalName, CodeLine}
use Rattle.build_object.specs.Lines as line
use Rattle.build_object.specs.Text.{bytes_text, function_text, global_text, known_text, operator_text}
use Rattle.build_object.specs.Text.{truth_text, type_list, type_text, types_behind, types_joined, words_of}
use Rattle.build_names.specs.Words.{NameChange, is_break, symbol_text}
use Rattle.law_objects.specs.Replaced.{function_of_global, line_by, of_global, renamed_global}
use Rattle.law_objects.specs.Legible.{AreLegibleNames, IsLegibleChange, IsLegibleLine}
use Rattle.law_objects.proofs.Turns.{Turns, is_plain, legible_plain, plain_both, turns_joined, turns_plain}
use Rattle.law_objects.proofs.Symbols.{legible_decimal, plain_hex, turns_function, turns_global}

plain_basic : (b : Basic) → is_plain (basic_name b) ≡ true
plain_basic basic.Bool = refl
plain_basic basic.Int = refl
plain_basic basic.String = refl

plain_builtin : (b : Builtin) → is_plain (builtin_name b) ≡ true
plain_builtin builtin.Append = refl
plain_builtin builtin.Len = refl
plain_builtin builtin.Panic = refl
plain_builtin builtin.Print = refl
plain_builtin builtin.Println = refl

plain_operator : (o : BinaryOp) → is_plain (operator_text o) ≡ true
unfolding operator_text
plain_operator op.Multiply = refl
plain_operator op.Divide = refl
plain_operator op.Remainder = refl
plain_operator op.Add = refl
plain_operator op.Subtract = refl
plain_operator op.Equal = refl
plain_operator op.NotEqual = refl
plain_operator op.Less = refl
plain_operator op.LessEqual = refl
plain_operator op.Greater = refl
plain_operator op.GreaterEqual = refl
plain_operator op.And = refl
plain_operator op.Or = refl

plain_truth : (b : Bool) → is_plain (truth_text b) ≡ true
plain_truth true = refl
plain_truth false = refl

pub plain_decimal : (n : ℕ) → is_plain (decimal n) ≡ true
plain_decimal n = legible_plain (decimal n) (legible_decimal n)

pub plain_bytes : (bytes : List ℕ) → is_plain (bytes_text bytes) ≡ true
plain_bytes bytes = plain_hex bytes

module _ (c : NameChange) (is : IsLegibleChange c) (names : Symbol → Option GlobalName) (named : AreLegibleNames names) where
  abbrev new : List ℕ
  new = symbol_text c.path c.new

  abbrev T : List ℕ → List ℕ → Type 0
  T = Turns c.path c.old new

  abbrev by : GlobalName → GlobalName
  by = renamed_global c.path c.old c.new

  abbrev pub now : Symbol → Option GlobalName
  now s = option_map by (names s)

  -- types

  turns_known : (o : Option GlobalName) (s : Symbol) → names s ≡ o → T (known_text o) (known_text (option_map by o))
  turns_known None s e = turns_plain c.path c.old new [] refl
  turns_known (Some g) s e = turns_global c is g (named s g e)

  pub turns_type : (t : PlainType) → T (type_text names t) (type_text now t)
  unfolding type_text
  turns_type (BasicType b) = turns_plain c.path c.old new (basic_name b) (plain_basic b)
  turns_type (Defined s) = turns_known (names s) s refl
  turns_type (Pointer t) =
      turns_joined c.path c.old new [] [] (turns_plain c.path c.old new [] refl) 42 refl (type_text names t) (type_text now t) (turns_type t)
  turns_type (Slice t) =
      turns_joined c.path c.old new [] [] (turns_plain c.path c.old new [] refl) 91 refl (93 ∷ type_text names t) (93 ∷ type_text now t)
      (turns_joined c.path c.old new [] [] (turns_plain c.path c.old new [] refl) 93 refl (type_text names t) (type_text now t) (turns_type t))

  turns_behind : (b : ℕ) → is_break b ≡ true → (ts : List PlainType) (x y : List ℕ) → T x y →
      T (x ++ types_behind names (b ∷ []) ts) (y ++ types_behind now (b ∷ []) ts)
  turns_behind b between [] x y first = subst (λ l. T l (y ++ [])) (sym (append-nil x)) (subst (T x) (sym (append-nil y)) first)
  turns_behind b between (t ∷ ts) x y first =
      let whole = turns_behind b between ts (x ++ b ∷ type_text names t) (y ++ b ∷ type_text now t)
      (turns_joined c.path c.old new x y first b between (type_text names t) (type_text now t) (turns_type t)) in
      subst (λ l. T l (y ++ types_behind now (b ∷ []) (t ∷ ts))) (append_assoc x (b ∷ type_text names t) (types_behind names (b ∷ []) ts))
      (subst (T ((x ++ b ∷ type_text names t) ++ types_behind names (b ∷ []) ts))
      (append_assoc y (b ∷ type_text now t) (types_behind now (b ∷ []) ts)) whole)

  pub turns_types : (b : ℕ) → is_break b ≡ true → (ts : List PlainType) → T (types_joined names (b ∷ []) ts) (types_joined now (b ∷ []) ts)
  turns_types b between [] = turns_plain c.path c.old new [] refl
  turns_types b between (t ∷ ts) = turns_behind b between ts (type_text names t) (type_text now t) (turns_type t)

  pub turns_list : (ts : List PlainType) → T (type_list names ts) (type_list now ts)
  turns_list ts =
      turns_joined c.path c.old new [] [] (turns_plain c.path c.old new [] refl) 40 refl (types_joined names (codes ",") ts ++ 41 ∷ [])
      (types_joined now (codes ",") ts ++ 41 ∷ [])
      (turns_joined c.path c.old new (types_joined names (codes ",") ts) (types_joined now (codes ",") ts) (turns_types 44 refl ts) 41 refl [] []
      (turns_plain c.path c.old new [] refl))

  -- lines of code

  numbered : (word : List ℕ) (n : ℕ) → is_plain word ≡ true → T (word ++ decimal n) (word ++ decimal n)
  numbered word n plain = turns_plain c.path c.old new (word ++ decimal n) (plain_both word (decimal n) plain (plain_decimal n))

  fixed : (word : List ℕ) → is_plain word ≡ true → T word word
  fixed word plain = turns_plain c.path c.old new word plain

  pub turns_line : (l : CodeLine) → IsLegibleLine l → T (words_of names l) (words_of now (line_by (of_global c.path c.old c.new) l))
  unfolding words_of
  turns_line (line.Integer n) k = numbered (codes "int ") n refl
  turns_line (line.Text bytes) k = fixed (codes "str " ++ bytes_text bytes) (plain_both (codes "str ") (bytes_text bytes) refl (plain_bytes bytes))
  turns_line (line.Truth b) k = fixed (codes "bool " ++ truth_text b) (plain_both (codes "bool ") (truth_text b) refl (plain_truth b))
  turns_line line.Nil k = fixed (codes "nil") refl
  turns_line (line.Local n) k = numbered (codes "local ") n refl
  turns_line (line.Global g) k =
      turns_joined c.path c.old new (codes "global") (codes "global") (fixed (codes "global") refl) 32 refl (global_text g)
      (global_text (by g)) (turns_global c is g k)
  turns_line (line.Field i) k = numbered (codes "field ") i refl
  turns_line (line.FieldThrough i) k = numbered (codes "ptrfield ") i refl
  turns_line line.Index k = fixed (codes "index") refl
  turns_line line.Load k = fixed (codes "load") refl
  turns_line line.Negate k = fixed (codes "neg") refl
  turns_line line.Not k = fixed (codes "not") refl
  turns_line (line.Operate o) k = fixed (codes "op " ++ operator_text o) (plain_both (codes "op ") (operator_text o) refl (plain_operator o))
  turns_line line.Duplicate k = fixed (codes "dup") refl
  turns_line line.Pop k = fixed (codes "pop") refl
  turns_line (line.JumpUnless n) k = numbered (codes "jz ") n refl
  turns_line (line.JumpIf n) k = numbered (codes "jnz ") n refl
  turns_line (line.Jump n) k = numbered (codes "jump ") n refl
  turns_line (line.JumpBack n) k = numbered (codes "jump -") n refl
  turns_line (line.Call f n) k =
      turns_joined c.path c.old new (codes "call") (codes "call") (fixed (codes "call") refl) 32 refl
      (function_text f ++ 32 ∷ decimal n) (function_text (function_of_global by f) ++ 32 ∷ decimal n)
      (turns_joined c.path c.old new (function_text f) (function_text (function_of_global by f)) (turns_function c is f k) 32 refl
      (decimal n) (decimal n) (fixed (decimal n) (plain_decimal n)))
  turns_line (line.CallAsked f n) k =
      turns_joined c.path c.old new (codes "icall") (codes "icall") (fixed (codes "icall") refl) 32 refl
      (function_text f ++ 32 ∷ decimal n) (function_text (function_of_global by f) ++ 32 ∷ decimal n)
      (turns_joined c.path c.old new (function_text f) (function_text (function_of_global by f)) (turns_function c is f k) 32 refl
      (decimal n) (decimal n) (fixed (decimal n) (plain_decimal n)))
  turns_line (line.Enter t) k =
      turns_joined c.path c.old new (codes "iface") (codes "iface") (fixed (codes "iface") refl) 32 refl (type_text names t) (type_text now t) (turns_type t)
  turns_line (line.CallBuiltin b n) k =
      fixed (codes "builtin " ++ (builtin_name b ++ (codes " " ++ decimal n)))
      (plain_both (codes "builtin ") (builtin_name b ++ (codes " " ++ decimal n)) refl
      (plain_both (builtin_name b) (codes " " ++ decimal n) (plain_builtin b) (plain_both (codes " ") (decimal n) refl (plain_decimal n))))
  turns_line (line.Zero t) k =
      turns_joined c.path c.old new (codes "zero") (codes "zero") (fixed (codes "zero") refl) 32 refl (type_text names t) (type_text now t) (turns_type t)
  turns_line (line.With i) k = numbered (codes "with ") i refl
  turns_line (line.MakeSlice n) k = numbered (codes "slice ") n refl
  turns_line line.New k = fixed (codes "new") refl
  turns_line (line.LocalAddress n) k = numbered (codes "addrlocal ") n refl
  turns_line (line.GlobalAddress g) k =
      turns_joined c.path c.old new (codes "addrglobal") (codes "addrglobal") (fixed (codes "addrglobal") refl) 32 refl
      (global_text g) (global_text (by g)) (turns_global c is g k)
  turns_line (line.FieldAddress i) k = numbered (codes "addrfield ") i refl
  turns_line line.IndexAddress k = fixed (codes "addrindex") refl
  turns_line line.BlankAddress k = fixed (codes "blank") refl
  turns_line (line.Set n) k = numbered (codes "set ") n refl
  turns_line (line.Assign n) k = numbered (codes "assign ") n refl
  turns_line (line.Return n) k = numbered (codes "ret ") n refl
  turns_line line.End k = fixed (codes "end") refl
