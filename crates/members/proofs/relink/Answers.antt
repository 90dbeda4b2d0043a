use Prim.Native.Nat.{ℕ, ◌<◌, ◌≤◌}
use native.Mathlib.Omega.{arith}
use mathlib.Core.Path.{◌≡◌, refl, ◌∙◌}
use mathlib.Core.List.{List}
use Rattle.meaning.specs.Search.{at}
use Rattle.members.proofs.Laws.{Hop, at_head, hop}
use Rattle.members.proofs.Relinking.{Relinked, Joined, relinked_none, relinked_skip, relinked_more, relinked_all}
use Rattle.members.proofs.Relinking.{joined_none, joined_one}
use Rattle.members.proofs.relink.Goals as goal
use Rattle.members.proofs.relink.Goals.{After-from-behind, After-from-d, In-loop-s, then-before, else-before}

pub loop-s-init : goal.loop-s-init
loop-s-init c =
    let lent = c.requires in
    let none = relinked_none _ _ _ _ _ _ _ refl lent.linked.long c.filled-latest.ensures.0 in
    (lent, at_head _ _ _ lent.heads, relinked_skip none _ (omega arith) (λ x h l. lent.heads.before x l))

-- from s on the links are still the older ones
step : (c : After-from-behind)
    → let a = c.args in
    Hop c.loop-s.invariant.0.old a.n a.c c.loop-s.s c.from-behind.result
step c =
    let here = c.loop-s-test.true in
    let inv = c.loop-s.invariant in
    let same = inv.2.still c.loop-s.s here (λ l. absurd (omega arith)) in
    hop _ _ _ inv.0.linked _ _ _ inv.1 here (c.from-behind.ensures ∙ same)

-- a new name has a place of its own
name-fits : (c : After-from-d) → c.from-d.result < 256
name-fits c =
    let here = c.loop-s-test.true in
    let inv = c.loop-s.invariant in
    let low = inv.0.low c.loop-s.s here (inv.1.member here) in
    omega (arith, c.from-d.ensures, low, inv.0.few)

-- and so has the last member with it
last-fits : {old P next₀ next latest : List ℕ} {n c s : ℕ} → Relinked old P n c next₀ next latest s → n ≤ 256 → s < n → (d : ℕ) → d < 256
    → (at latest d ≡ 65535 → ⊥) → at latest d < 256
last-fits r few here d low some = omega (arith, (r.known d low).before some)

pub loop-s-preserved : goal.loop-s-preserved
loop-s-preserved c =
    let here = c.loop-s-test.true in
    let inv = c.loop-s.invariant in
    let next = step (goal.at.loop-s-preserved c).After-from-behind in
    let fits = name-fits (goal.at.loop-s-preserved c).After-from-d in
    let joined : Joined c.loop-s.next (at c.loop-s.latest c.from-d.result) c.loop-s.s c.if-before.next =
    elim c.if-before.branch [
      | then-before w ↦ joined_one inv.2 w.from.ensures w.next-is
          (rw w.from.ensures (last-fits inv.2 inv.0.few here c.from-d.result fits w.if-before.true))
      | else-before w ↦ joined_none inv.2 w.next-is w.if-before.false
    ] in
    let more = relinked_more inv.2 here inv.0.few (inv.1.member here) c.from-d.ensures fits joined in
    (inv.0, next.stands, relinked_skip more _ (omega (arith, next.after)) (λ x h l. next.gap x (omega arith) l))

pub returns : goal.returns
returns c = let inv = c.loop-s.invariant in
    relinked_all inv.0 inv.2 inv.1.inside c.loop-s-test.false

pub offset_bounds-next-from : goal.offset_bounds-next-from
offset_bounds-next-from c =
    let inv = c.loop-s.invariant in
    omega (arith, c.from.ensures, last-fits inv.2 inv.0.few c.loop-s-test.true c.from-d.result (name-fits (goal.at.offset_bounds-next-from c).After-from-d) c.if-before.true)

pub bounds-latest-d : goal.bounds-latest-d
bounds-latest-d c = name-fits (goal.at.bounds-latest-d c).After-from-d

pub bounds-latest-d-in-loop-s : goal.bounds-latest-d-in-loop-s
bounds-latest-d-in-loop-s c = name-fits (goal.at.bounds-latest-d-in-loop-s c).After-from-d

pub bounds-next-from : goal.bounds-next-from
bounds-next-from c =
    let inv = c.loop-s.invariant in
    omega (arith, c.from.ensures, last-fits inv.2 inv.0.few c.loop-s-test.true c.from-d.result (name-fits (goal.at.bounds-next-from c).After-from-d) c.if-before.true)
