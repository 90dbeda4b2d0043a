use Rattle.std.proofs.Common.{◌≡◌, ◌<◌, ℕ, ◌+◌, List, [], ◌∷◌, ◌++◌, length, arith, refl, sym, ap, ◌∙◌, append_assoc, append-nil, length-append}
use Rattle.std.proofs.lemmas.List.{get_or_at}
use Rattle.meaning.specs.Search.{at}
use Rattle.members.proofs.Laws.{linking_none, linking_more, linking_all}
use Rattle.members.proofs.follow.Goals as goal

pub loop-state-init : goal.loop-state-init
loop-state-init c =
    let pre = c.requires in
    let all : c.into_iter-state-iterator.result.iter.rest.now ≡ c.args.live.now = cc in
    rw all ([], sym (append-nil _), linking_none _ _ _ pre.seated _ _ pre.few pre.next_long c.filled-nearest.ensures.0)

-- the last of those that are left
last : (live rest left behind : List ℕ) (x : ℕ) → live ≡ rest ++ behind → rest ≡ left ++ x ∷ []
    → (live ≡ left ++ x ∷ behind) × (length rest ≡ length left + 1) × (length left < length live) × (x ≡ at live (length left))
last live rest left behind x e r =
    let all : live ≡ left ++ x ∷ behind = e ∙ ap (λ (l : List ℕ). l ++ behind) r ∙ append_assoc left (x ∷ []) behind in
    let more : length rest ≡ length left + 1 = ap length r ∙ length-append left (x ∷ []) in
    let long : length live ≡ length left + length (x ∷ behind) = ap length all ∙ length-append left (x ∷ behind) in
    (all, more, omega arith, rw all (sym (get_or_at left x behind 0 (length left) refl)))

pub loop-state-preserved : goal.loop-state-preserved
loop-state-preserved c =
    let inv = c.loop-state.invariant in
    let p = last _ _ _ _ _ inv.1 c.in-Some.ensures.steps in (
      c.in-Some.state.now ∷ inv.0,
      p.0,
      linking_more _ _ _ c.requires.seated inv.2 c.requires.few _ _ _ p.1 p.2 (c.from-s.ensures ∙ p.3) c.from-c.ensures,
    )

pub returns : goal.returns
returns c = linking_all _ _ _ c.requires.seated c.loop-state.invariant.2 (omega (arith, c.in-None.ensures.steps))
