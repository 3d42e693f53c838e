-- The answers to the goals of `names_of_files::file_names`.
use Rattle.std.proofs.Common.{arith}
use Rattle.types_declared.specs.PackageView.{package_of}
use Rattle.types_info.proofs.MeaningLists.{bounds_stay}
use Rattle.types_info.proofs.NameParts.{no_names, next_name, all_names, nothing_past}
use Rattle.types_info.proofs.names_of_files.file_names.Goals as goal

pub loop-token-init : goal.loop-token-init
loop-token-init c = record {
  named = no_names (package_of c.args.pkg) c.args.file c.args.bounds.now.list.items c.in_ok-names.names.items
      c.in_ok-names.ensures.items;
  kept = c.requires.bounds;
}

pub loop-token-preserved : goal.loop-token-preserved
loop-token-preserved c =
    let p = package_of c.args.pkg in
    record {
      named = next_name p c.args.file c.loop-token.token c.loop-token.bounds.list.items c.name_at.new.bounds.list.items c.loop-token.names.items
          c.push.new.self.items c.in_ok-name_at.field-0
          c.in_ok-name_at.ensures.extends c.in_ok-push.ensures.items c.in_ok-name_at.ensures.named c.loop-token.invariant.named;
      kept = bounds_stay p c.loop-token.bounds.list.items c.loop-token.bounds.of.items c.name_at.new.bounds.list.items c.name_at.new.bounds.of.items
          c.in_ok-name_at.ensures.extends
          c.in_ok-name_at.ensures.same c.loop-token.invariant.kept;
    }

pub returns : goal.returns
returns c =
    let p = package_of c.args.pkg in
    let n = c.loop-token.token in
    record {
      named = all_names p c.args.file n c.loop-token.bounds.list.items c.loop-token.names.items
          (λ token le. c.token_count-token-end.ensures.spelled token (omega (arith, le)))
          (λ token le. nothing_past p c.args.file token _ (c.token_count-token-end.ensures.identified token (omega (arith, le)))
          (c.requires.index.identifiers c.args.file token)) c.loop-token.invariant.named;
      bounds = c.loop-token.invariant.kept;
    }
