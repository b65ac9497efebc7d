use Rattle.std.proofs.Common.{rules, ◌≡◌, FitsSigned, w64, ◌∙◌}
use Rattle.std.proofs.lemmas.Int.{to_z-of_z}
use Rattle.cluster_backup.proofs.Bringing.{passed}
use Rattle.cluster_backup.proofs.Given.{log_numbered}
use Rattle.cluster_backup.proofs.give.entries_packet.Goals as goal

pub encode_backup-requires : goal.encode_backup-requires
encode_backup-requires c =
    let signed : FitsSigned w64 c.number.result = search rules in
    log_numbered (passed c.number.result) c.args.start c.args.events (to_z-of_z w64 c.number.result signed ∙ c.number.ensures) c.requires.start c.requires.some c.requires.few c.requires.events
