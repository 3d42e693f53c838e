-- The answer to the goal of `gained::named_import_is_among_the_identifiers`.
use Rattle.law_rename.proofs.Sites.{put_sites}
use Rattle.law_rename.proofs.gained.named_import_is_among_the_identifiers.Goals as goal

pub returns : goal.returns
returns c = put_sites
