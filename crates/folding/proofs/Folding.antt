-- What the code reduces is the filter in the file: its table, colours and names are the filter's. Assumes nothing.
use Prim.Native.Nat.{ℕ, ◌≤◌, ◌<◌}
use mathlib.Core.Path.{◌≡◌, sym, ap, ap₂, ◌∙◌, subst}
use mathlib.Core.Bool.{Bool, true, false}
use mathlib.Core.List.{List, [], ◌∷◌}
use mathlib.Core.Option.{Option}
use native.Mathlib.Nat.{le_trans}
use native.Mathlib.Omega.{arith}
use lib.ListN.{length, take}
use lib.Pow.{pow_mono}
use borrow.Author.Tests.{eq-eqb, ne_eqb}
use Rattle.bits.specs.Bits.{Bytes}
use Rattle.meaning.specs.Search.{tab, at}
use Rattle.meaning.specs.Pick.{pick}
use Rattle.meaning.specs.Cases.{cases_of}
use Rattle.meaning.specs.SearchLaws.{length-tab, tab_cong}
use Rattle.meaning.specs.Reach.{reached}
use Rattle.meaning.proofs.ReachLaws.{reached_labels}
use Rattle.meaning.specs.Filter.{Filter, states, in_order}
use Rattle.meaning.specs.Trace.{edge, colour}
use Rattle.meaning.specs.Classes.{Task, Classes, initial, groups, reduction, classes, number}
use Rattle.meaning.proofs.Traced.{In, opt}
use Rattle.meaning.proofs.Demand.{fits, start_live, target-live, in_live, good}
use Rattle.meaning.specs.Reduced.{live, task_over, task, reduce, merged_over, merged, reduced, class_list, distinct}
use Rattle.layout.specs.declared.profile.Profile.{Profile}
use Rattle.layout.specs.declared.Reading.{Reading}
use Rattle.layout.specs.Layout.{length_of}
use Rattle.layout.specs.Contents.{filter_in}
use Rattle.refusals.specs.Refusals.{accepted}
use Rattle.layout.proofs.Bounds.{states_high, labels_fit}
use Rattle.files.specs.Tests.{Writable, writable_in_order, writable_write, ReadIs}
use Rattle.files.specs.Written.{length-filter, read_writable}
use Rattle.table.specs.Table.{Table, look, Rows}
use Rattle.loading.proofs.Laws.{look-within}
use Rattle.folding.specs.Folding.{counts_of}
use Rattle.rounds.specs.Rounds.{task_of}
use Rattle.rounds.proofs.Run.{task_labels}
use Rattle.merging.specs.Merged.{Within, merged_by}
use Rattle.numbering.specs.Names.{Names, new_number}
use Rattle.merging.specs.Merged as merging
use Rattle.storing.specs.Stored.{Packable}
use Rattle.folding.proofs.Accepted.{reduced_writable, file_shorter}

module _ (Q : Profile) (narrow : Q.labels ≤ 6) (s : List ℕ) (r : Reading) (is : ReadIs Q s r) where
  abbrev F : Filter
  F = filter_in Q s

  abbrev n : ℕ
  n = r.states

  states_are : n ≡ states F
  states_are = is.states_are ∙ sym (length-filter Q s)

  labels_are : r.labels ≡ F.labels
  unfolding filter_in
  labels_are = is.labels_are

  start_is : r.start ≡ F.start
  unfolding filter_in
  start_is = is.start_is

  writable : Writable Q F
  writable = read_writable Q Q.usable s is.sound

  ok : in_order F ≡ true
  ok = writable_in_order Q F writable

  few : states F ≤ 256
  few = rw (length-filter Q s) (states_high Q Q.usable s)

  pub few_states : n ≤ 256
  few_states = rw states_are few

  pub few_labels : r.labels ≤ 64
  few_labels = rw is.labels_are (le_trans (labels_fit Q Q.usable s) (pow_mono {j = 6} narrow))

  pub start_state : r.start < n
  start_state = let b = (fits F few ok).begins in omega (arith, states_are, start_is)

  module _ (T : Table) (colours : List ℕ) (by-table : look T ≡ edge F) (by-colours : at colours ≡ colour F) where
    pub within : Within (look T) n r.labels
    within a y t e =
        let v = look-within Q Q.usable s _ T is.answer by-table a y t e in
        (omega (arith, v.0, is.states_are), omega (arith, v.1, is.labels_are), omega (arith, v.2, is.states_are))

    -- who takes part, as the code finds it
    abbrev reachable : ℕ → Bool
    reachable = reached (look T) 64 n r.start

    live_is : reachable ≡ live F
    unfolding live
    live_is =
        reached_labels (look T) r.labels 64 r.start few_labels
        (λ a y h. opt (look T a y) (λ o. o) (λ t o. absurd (omega (arith, h, (within a y t o).1)))) n
        ∙ ap₂ (λ (next : ℕ → ℕ → Option ℕ) (m : ℕ). reached next m n r.start) by-table labels_are
        ∙ ap₂ (λ (k b : ℕ). reached (edge F) F.labels k b) states_are start_is

    task_is : task_of reachable groups T colours n ≡ task F
    task_is =
        task_labels reachable groups T colours r.labels n few_labels (λ a y t e. (within a y t e).1)
        ∙ ap₂ (λ (next : ℕ → ℕ → Option ℕ) (hue : ℕ → ℕ). task_over reachable groups next hue r.labels n) by-table by-colours
        ∙ ap₂ (λ (m k : ℕ). task_over reachable groups (edge F) (colour F) m k) labels_are states_are
        ∙ ap (λ (l : ℕ → Bool). task_over l groups (edge F) (colour F) F.labels (states F)) live_is

    pub reduce_is : reduction (task_of reachable groups T colours n) ≡ reduce F
    unfolding reduce
    reduce_is = ap reduction task_is

    distinct_is : classes n (initial (task_of reachable groups T colours n)) ≡ distinct F
    unfolding distinct
    distinct_is = ap₂ (λ (k : ℕ) (T : Task). classes k (initial T)) states_are task_is

    module _ (names : List ℕ) (ended : take n names ≡ (reduce F).names) where
      -- the states that take part are in a class, and no others
      seat : (a : ℕ) → a < n → live F a ≡ true → at (take n names) a < n
      seat a h l = rw (ended, states_are) ((good F few ok).all a (omega (arith, h, states_are)) l)

      no_seat : (a : ℕ) → a < n → live F a ≡ false → at (take n names) a ≡ 65535
      no_seat a h l = rw ended ((good F few ok).out a (omega (arith, h, states_are)) l)

      seated_live : (a : ℕ) → a < n → at (take n names) a < n → live F a ≡ true
      seated_live a h l = in_live F few ok a (subst (λ (P : List ℕ). In (states F) P a) ended (record {
        state = omega (arith, h, states_are);
        seat = omega (arith, l, states_are);
      }))

      named : length names ≡ 256 → Names n names
      named long = record {
        few = few_states;
        long = long;
        right = rw (ended, states_are) (good F few ok).right;
        seated = λ a h e. cases_of (live F a) (seat a h) (λ q. absurd (e (no_seat a h q)));
      }

      pub filter_is : merged_by T colours names r ≡ reduced F
      unfolding reduced merged
      filter_is =
          ap₂ (λ (next : ℕ → ℕ → Option ℕ) (hue : ℕ → ℕ). merged_over next hue n r.labels r.start (take n names)) by-table by-colours
          ∙ ap₂ (λ (k m : ℕ). merged_over (edge F) (colour F) k m r.start (take n names)) states_are labels_are
          ∙ ap₂ (λ (b : ℕ) (P : List ℕ). merged_over (edge F) (colour F) (states F) F.labels b P) start_is ended

      pub foldable : (answer list : ℕ) → Bytes s → Rows T n → length colours ≡ 256 → length names ≡ 256 → length s ≤ answer → n ≤ list →
          merging.Foldable Q T colours names r answer list
      foldable answer list bytes rows lc ln la ll = record {
        labels = few_labels;
        begins = start_state;
        begins_in = seat r.start start_state (subst (λ (a : ℕ). live F a ≡ true) (sym start_is) (start_live F few ok));
        rows = rows;
        within = within;
        leads = λ a y t e l.
            let w = within a y t e in
            seat t w.2 (target-live F few ok a y t (seated_live a w.0 l) (sym (ap (λ (f : ℕ → ℕ → Option ℕ). f a y) by-table) ∙ e));
        colours_long = lc;
        named = named ln;
        list_room = ll;
        answer_room = subst (λ (G : Filter). Packable Q G answer) (sym filter_is)
            (writable_write Q (reduced F) answer (reduced_writable Q Q.usable F writable)
            (omega (arith, file_shorter Q Q.usable s bytes _ is.answer)));
      }

      pub list_is : tab n (new_number (take n names)) ≡ class_list F
      unfolding class_list new_number
      list_is =
          tab_cong n _ _ (λ a h. cases_of (live F a)
          (λ q. rw (q, ne_eqb (at (take n names) a) 65535 (λ z. omega (arith, z, few_states, seat a h q))) (ap (λ (P : List ℕ). number P a) ended))
          (λ q. rw (q, eq-eqb (at (take n names) a) 65535 (no_seat a h q))))
          ∙ ap (λ (k : ℕ). tab k (λ s. pick (live F s) (number (reduce F).names s) 65535)) states_are

      states_made : classes n (take n names) ≡ states (reduced F)
      unfolding reduced merged
      states_made = ap₂ classes states_are ended ∙ sym (length-tab (classes (states F) (reduce F).names) _)

      pub counts_are : (k c q l : ℕ) → k ≡ classes n (take n names) → c ≡ classes n (initial (task_of reachable groups T colours n)) →
          q ≡ (reduction (task_of reachable groups T colours n)).rounds → l ≡ length_of Q (merged_by T colours names r) → accepted (k ∷ c ∷ q ∷ l ∷ []) ≡ accepted (counts_of Q F)
      unfolding counts_of
      counts_are k c q l hk hc hq hl =
          ap₂ (λ (x y : ℕ). accepted (x ∷ y ∷ q ∷ l ∷ [])) (hk ∙ states_made) (hc ∙ distinct_is)
          ∙ ap₂ (λ (x y : ℕ). accepted (states (reduced F) ∷ distinct F ∷ x ∷ y ∷ [])) (hq ∙ ap (λ (Q : Classes). Q.rounds) reduce_is) (hl ∙ ap (length_of Q) filter_is)
