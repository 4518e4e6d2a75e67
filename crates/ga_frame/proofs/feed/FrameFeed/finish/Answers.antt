use Rattle.std.proofs.Common.{◌∙◌, ap, sym}
use Rattle.ga_frame.proofs.OneReading.{only_frames}
use Rattle.ga_frame.proofs.Taking.{cut_none}
use Rattle.ga_frame.proofs.feed.FrameFeed.finish.Goals as goal

pub returns-then-self-clause-only : goal.returns-then-self-clause-only
returns-then-self-clause-only c =
    λ words frames other r. only_frames words frames other
    (r.ends (ap (λ v. v.ended) (sym c.self.view_is) ∙ c.if-self.true)).0

pub returns-then-len-lt3-clause-none : goal.returns-then-len-lt3-clause-none
returns-then-len-lt3-clause-none c =
    λ words frames r. cut_none words frames c.args.self r
    (ap (λ v. v.ended) (sym c.self.view_is) ∙ c.if-self.false)

pub returns-clause-none : goal.returns-clause-none
returns-clause-none c =
    λ words frames r. cut_none words frames c.args.self r
    (ap (λ v. v.ended) (sym c.self.view_is) ∙ c.if-self.false)
