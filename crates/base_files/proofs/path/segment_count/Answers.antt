-- The answers to the goals of `path::segment_count`.
use Rattle.std.proofs.Common.{◌≡◌, ◌+◌, ◌==◌, sym, ap, ◌∙◌, rules}
use Rattle.std.specs.List.{count_by}
use Rattle.std.proofs.lemmas.List.Splits.{length-slice_split}
use Rattle.base_files.proofs.path.segment_count.Goals as goal

pub returns : goal.returns
returns c =
    let slashes : c.count.result ≡ count_by (λ b. b == 47) c.args.text.now = search rules in
    ap (λ n. n + 1) slashes ∙ sym (length-slice_split (λ b. b == 47) c.args.text.now)
