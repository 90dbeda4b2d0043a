-- `reach::live` meets its contract. Assumes nothing.
use mathlib.Core.Path.{◌∙◌}
use native.Mathlib.Omega.{arith}
use Rattle.reach.proofs.Laws.{those_cong, numbered-reached}
use Rattle.reach.proofs.live.Goals as goal

pub returns : goal.returns
returns c =
    let few = c.requires.few in
    let lists = c.sorted.ensures in (
      record {
        front = lists.front ∙ those_cong _ _ _ (λ s h. numbered-reached _ _ _ _ c.walk.ensures s (omega (arith, h, few)));
        few = lists.few;
        long = lists.long;
      },
      c.walk.ensures.queue.codes_long,
    )
