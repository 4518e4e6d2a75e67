use Rattle.std.proofs.Common.{[], ap, get_or, refl, subst, sym}
use Rattle.ga_race.specs.Shown.{Kept, Shows, ShowsClock}
use Rattle.ga_race.proofs.Keeping.{row_read, row_set}
use Rattle.ga_race.proofs.race_watch.RaceWatch.keep_post.Goals as goal

pub returns-clause-shows : goal.returns-clause-shows
returns-clause-shows c = λ w shown.
    let s = subst (λ k. Shows k w) (sym c.self.view_is) shown in
    record {
      nodes = s.nodes;
      posts = row_set c.self.inside.posts.items c.index-2.result.now c.index-3.result c.args.cell
          w.clocks.posts (w.clocks.nodes c.args.node) c.self.invariant.1 c.index-3.ensures.bound
          c.index-3.ensures.value s.posts (subst (λ r. ShowsClock r (w.clocks.nodes c.args.node))
          (sym (row_read c.self.inside.nodes.items c.args.self.now.nodes c.index-2.result.now
          c.index.result c.index.result 144 c.index-2.ensures refl c.index.ensures.bound
          c.self.invariant.0 (ap (λ (k : Kept). k.nodes) c.self.view_is)))
          (subst (λ n. ShowsClock (get_or c.args.self.now.nodes c.index.result [])
          (w.clocks.nodes n)) c.index.ensures.back (shown.nodes c.index.result
          c.index.ensures.bound)));
      takes = s.takes;
      words = s.words;
      left_at = s.left_at;
      race = s.race;
    }
