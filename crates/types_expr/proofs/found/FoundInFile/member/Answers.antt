-- The answers to the goals of `found::FoundInFile::member`.
use Rattle.std.proofs.Common.{Option, ap, ◌∙◌, ◌++◌, ◌∷◌, [], map}
use Rattle.types_expr.specs.declared.symbol.Symbol.{Symbol}
use Rattle.types_expr.specs.View.{type_of}
use Rattle.types_expr.specs.WorldView.{world_of}
use Rattle.types_expr.specs.Judge.{OfMember}
use Rattle.types_expr.specs.Found.{noted_of}
use Rattle.types_expr.proofs.AddedJudgements.{adds_member}
use Rattle.types_expr.proofs.Equations.{ok_map}
use Rattle.types_expr.proofs.found.FoundInFile.member.Goals as goal

pub returns : goal.returns
returns c = ok_map c.means_or_wrong.result (λ m a. adds_member (world_of c.args.world.now) (type_of c.args.before) c.args.name c.args.addressable _ _
    c.member-member.ensures c.in_ok-meaning.ensures c.in_ok-note_use.ensures.faults
    (c.in_ok-note_use.ensures.uses ∙ ap (λ (s : Option Symbol).
    map noted_of c.args.self.now.uses.items ++ (OfMember (record { place = c.args.name; before = type_of c.args.before; member = s }) ∷ []))
    c.in_ok-symbol.ensures) a)
    c.means_or_wrong.ensures
