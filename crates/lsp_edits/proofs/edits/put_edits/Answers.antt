-- The answers to the goals of `edits::put_edits`.
use Rattle.std.proofs.Common.{◌∙◌, ap, string_bytes, subst}
use Rattle.serde_json.specs.Data.{array, put}
use Rattle.serde_json.specs.View.{members_view}
use Rattle.serde_json.specs.declared.value.Value.{Array}
use Rattle.serde_json.proofs.Views.{members_view-insert_entry, view-Array}
use Rattle.lsp_edits.specs.Edits.{IsToldUri}
use Rattle.lsp_edits.proofs.edits.put_edits.Goals as goal

pub returns-in-Ok : goal.returns-in-Ok
returns-in-Ok c =
    let old = members_view c.args.edits.now.entries in
    let uri = string_bytes c.in_ok-uri.uri in (
      uri,
      subst (λ name. IsToldUri c.args.telling name uri) c.as_str.ensures.text c.in_ok-uri.ensures,
      ap members_view c.in-Ok.ensures.entries
          ∙ members_view-insert_entry c.args.edits.now.entries c.in_ok-uri.uri (Array c.in_ok-values.values)
          ∙ ap (λ value. put uri value old) (view-Array c.in_ok-values.values ∙ ap array c.in_ok-values.ensures),
    )
