use Rattle.std.proofs.Common.{◌∙◌, List, ℕ, None, Option, ap, get_or, sym}
use Rattle.ga_report.specs.Transfers.{transfer_by}
use Rattle.ga_report.proofs.Transferring.{kept_more, ok_of}
use Rattle.ga_report.proofs.transfer_watch.TransferWatchObserver.see.Goals as goal

pub returns : goal.returns
returns c begun steps (from, kept) =
    let old = c.args.self.now in
    let step = c.args.step in (
      from,
      kept_more begun.from old.from old.posts.items c.keep_post.new.posts.items old.transfers.items
          c.push_few.new.transfers.items old.has_failed c.is_err-failed.result c.either-self.result
          c.transfer_by-transfer.result steps step from
          (c.transfer_by-transfer.ensures
          ∙ ap (λ (l : List (Option ℕ)). transfer_by old.from (λ cell. get_or l cell None) step)
          c.as_slice.ensures.value)
          (λ fine. ok_of c.push_few.result (sym c.is_err-failed.ensures.value ∙ fine)
          c.push_few.ensures.kept) c.either-self.ensures c.keep_post.ensures.kept kept,
    )
