-- Lists of values.
use Rattle.std.proofs.Common.{◌≡◌, ◌∷◌, [], List, ◌&&◌, ap, refl, map, Option, Some, None, is_some, option_map, ◌∙◌}
use Rattle.std.specs.List.{list_all}
use Rattle.types_expr.specs.declared.meaning.ListValue.{ListValue}
use Rattle.types_expr.specs.declared.types.ValueKind.{ValueKind}
use Rattle.types_expr.specs.Judge.{all_whole, is_whole, all_printed, is_printed_value}
use Rattle.types_expr.specs.Found.{list_value}
use Rattle.types_expr.specs.View.{kind_of}
use Rattle.types_expr.specs.World.{World}

whole_one : (k : Option ValueKind) → is_whole (option_map kind_of k) ≡ is_some k
whole_one None = refl
whole_one (Some k) = refl

pub whole_found : (vs : List ListValue) → all_whole (map list_value vs) ≡ list_all (λ v. is_some v.kind) vs
unfolding all_whole
whole_found [] = refl
whole_found (v ∷ vs) = ap (λ b. b && all_whole (map list_value vs)) (whole_one v.kind) ∙ ap (λ b. is_some v.kind && b) (whole_found vs)

pub printed_found : (w : World) (vs : List ListValue) → all_printed w (map list_value vs) ≡ list_all (λ v. is_printed_value w (option_map kind_of v.kind)) vs
unfolding all_printed
printed_found w [] = refl
printed_found w (v ∷ vs) = ap (λ b. is_printed_value w (option_map kind_of v.kind) && b) (printed_found w vs)
