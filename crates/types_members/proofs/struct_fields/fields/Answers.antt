-- The answers to the goals of `struct_fields::fields`.
use Rattle.std.proofs.Common.{ap, ◌∙◌, map}
use Rattle.std.proofs.lemmas.Result.{IfOk-weaker}
use Rattle.types_declared.specs.DeclaredView.{type_of}
use Rattle.types_declared.specs.Definitions.{fields_from}
use Rattle.types_members.proofs.struct_fields.fields.Goals as goal

pub returns : goal.returns
returns c = IfOk-weaker c.fields_of.result _ _ (λ found e. e ∙ ap (λ ts. fields_from 0 (map type_of ts)) c.deref.ensures.value ∙
    ap (fields_from 0) c.requires.types) c.fields_of.ensures
