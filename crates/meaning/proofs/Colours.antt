-- The classes of the beginning are as many as the colours of states that take part. Assumes nothing.
use Rattle.std.specs.Prelude.{ℕ, zero, suc, ◌+◌, ◌<◌, ◌≡◌, refl, Bool, not, ◌&&◌, eqb}
use Rattle.std.proofs.Common.{sym, ap, ◌∙◌, arith, eq-eqb, ne_eqb}
use Rattle.meaning.specs.Search.{any, least, count, bit, at}
use Rattle.meaning.specs.Cases.{cases_of, and_intro}
use Rattle.meaning.specs.SearchLaws.{any_elim, any_none, least_le, least_is, count_none, count_cong, count_or}
use Rattle.meaning.specs.Classes.{Task, initial, named, classes}
use Rattle.meaning.proofs.Reduction.{Fair, initial_in, initial_out}

-- how many colours below k some state below n has that takes part
unfoldable pub occurring : (ℕ → Bool) → (ℕ → ℕ) → ℕ → ℕ → ℕ
occurring live colour n k = count (λ c. any (λ s. live s && eqb (colour s) c) n) k

-- how many states below n are the first of their colour among those that take part
unfoldable pub firsts : (ℕ → Bool) → (ℕ → ℕ) → ℕ → ℕ
firsts live colour n = count (λ s. live s && not (any (λ t. live t && eqb (colour t) (colour s)) s)) n

pub occurring-firsts : (live : ℕ → Bool) (colour : ℕ → ℕ) (k n : ℕ) → ((s : ℕ) → s < n → colour s < k) → occurring live colour n k ≡ firsts live colour n
unfolding occurring firsts any count
occurring-firsts live colour k zero h = count_none k
occurring-firsts live colour k (suc n) h =
    count_or (live n) (colour n) (λ c. any (λ s. live s && eqb (colour s) c) n) k (h n (omega arith))
    ∙ ap (λ i. i + bit (live n && not (any (λ t. live t && eqb (colour t) (colour n)) n))) (occurring-firsts live colour k n (λ s l. h s (omega arith)))

-- the states that name a class at the beginning are those
named-first : (T : Task) → Fair T → (s : ℕ) → s < T.size → named (initial T) s ≡ (T.live s && not (any (λ t. T.live t && eqb (T.colour t) (T.colour s)) s))
named-first T fair s h =
    let p : ℕ → Bool = λ t. T.live t && eqb (T.colour t) (T.colour s) in
    cases_of (T.live s)
    (λ l. ap (λ k. eqb k s) (initial_in T fair s h l) ∙ cases_of (any p s)
    (λ q. let (t, k, e) = any_elim p s q in
    rw (q, l) (ne_eqb (least p T.size) s (λ z. omega (arith, least_le p T.size t e))))
    (λ q. rw (q, l) (eq-eqb _ _ (least_is p T.size s h (and_intro l (eq-eqb (T.colour s) (T.colour s) refl)) (λ i k. any_none p s i k q)))))
    (λ l. rw l (ne_eqb (at (initial T) s) s (λ z. omega (arith, fair.small, initial_out T fair s h l))))

pub classes-occurring : (T : Task) → Fair T → (k : ℕ) → ((s : ℕ) → s < T.size → T.colour s < k) → classes T.size (initial T) ≡ occurring T.live T.colour T.size k
unfolding classes firsts
classes-occurring T fair k h =
    count_cong (named (initial T)) _ T.size (λ s l. named-first T fair s l)
    ∙ sym (occurring-firsts T.live T.colour k T.size h)
