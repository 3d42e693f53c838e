-- The answers to the goals of `code::Code::turn_back`.
use Rattle.std.proofs.Common.{ap, refl, ◌-◌, ◌∙◌}
use Rattle.std.specs.Vec.{with_item}
use Rattle.build_object.specs.declared.instructions.Instruction.TheVariants as instruction
use Rattle.build_object.proofs.Putting.{with_jump_back}
use Rattle.build_object.proofs.code.Code.turn_back.Goals as goal

pub returns : goal.returns
returns c = λ lines rest l size was. with_jump_back c.args.self.now
    (record { lines = with_item c.args.self.now.lines c.args.end (instruction.JumpBack (c.len.result - c.args.end)) }) c.args.end
    (c.len.result - c.args.end) refl (ap (λ n. n - c.args.end) (c.len.ensures ∙ c.args.self.now.lines.ok.0)) lines rest l size was
