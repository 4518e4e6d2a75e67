use Rattle.ga_report.proofs.Transferring.{kept_none}
use Rattle.ga_report.proofs.transfer_watch.TransferWatch.new.Goals as goal

pub returns-clause-kept : goal.returns-clause-kept
returns-clause-kept c =
    kept_none c.args.from _ _ c.in_ok-no_posts.ensures c.new.ensures.items
