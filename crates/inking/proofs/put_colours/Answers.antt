use mathlib.Core.Path.{◌≡◌}
use mathlib.Core.List.{List, [], ◌∷◌, ◌++◌}
use Prim.Native.Nat.{ℕ, ◌+◌, ◌<◌}
use native.Mathlib.Nat.{mul_comm}
use native.Mathlib.Numerals.{add-one}
use native.Mathlib.Omega.{arith}
use lib.ListN.{length, get_or, take, replicate-append-replicate}
use lib.Seq.{take-suc}
use Rattle.pen.proofs.Runs.{total-replicate}
use Rattle.pen.proofs.Pens.{drawn_none, drawn-behind}
use Rattle.layout.proofs.Bounds.{colours_high}
use Rattle.files.specs.Written.{colours_fit}
use Rattle.spelling.specs.declared.Number.{Number}
use Rattle.spelling.specs.Spelling.{number_at}
use Rattle.drawing.specs.Reader.{colours_of, read_of}
use Rattle.surveying.specs.declared.Survey.{Survey}
use Rattle.surveying.specs.Surveys.{Known}
use Rattle.inking.specs.Inking.{filter_read}
use Rattle.inking.proofs.Laws.{AtState, states_are, states_few, first_state, next_state}
use Rattle.inking.proofs.put_colours.Goals as goal

-- the next state's colour is read, and the place behind its statement
is_next : (text : List ℕ) (s : Survey) → Known text s → (i at : ℕ) → i < s.states → AtState text i at →
    (state colour : Number) → state ≡ number_at text at → colour ≡ number_at text (state.end + 8) →
    (colour.value ≡ get_or (colours_of (read_of text)) i 0) × AtState text (i + 1) (colour.end + 3)
is_next text s known i at more here state colour is then = rw (then, is) (next_state text s known i at more here)

pub loop-init : goal.loop-init
loop-init c = record { drawn = drawn_none _ _ c.requires.ready; here = first_state c.args.text.now c.args.s c.requires.known }

pub push-pen-requires : goal.push-pen-requires
push-pen-requires c =
    let loop = c.loop in
    let p = c.args.p in
    let ok = c.args.p.usable in
    let high = colours_high p ok loop.counter (omega (arith, states_few c.args.text.now c.args.s c.requires.known c.args.p c.args.p.usable c.requires.writable)) in
    record {
      ready = loop.invariant.drawn.ready;
      narrow = omega (arith, ok.colour≤);
      small = rw (is_next c.args.text.now c.args.s c.requires.known loop.counter loop.at c.loop-test.true loop.invariant.here c.number_at-state.result c.number_at-colour.result c.number_at-state.ensures.0 c.number_at-colour.ensures.0).0 (colours_fit p ok (filter_read (read_of c.args.text.now)) c.requires.writable loop.counter);
      near = omega (arith, loop.invariant.drawn.place, total-replicate loop.counter p.colour, mul_comm loop.counter p.colour, high, ok.colour≤, c.requires.begin);
    }

pub loop-preserved : goal.loop-preserved
loop-preserved c =
    let loop = c.loop in
    let text = c.args.text.now in
    let cs = colours_of (read_of text) in
    let i = loop.counter in
    let next = (is_next c.args.text.now c.args.s c.requires.known loop.counter loop.at c.loop-test.true loop.invariant.here c.number_at-state.result c.number_at-colour.result c.number_at-state.ensures.0 c.number_at-colour.ensures.0) in
    let l : i < length cs = omega (arith, states_are text c.args.s c.requires.known, c.loop-test.true) in
    let longer : take (i + 1) cs ≡ take i cs ++ (c.number_at-colour.result.value ∷ []) = rw (add-one i, next.0) (take-suc cs i 0 l) in
    record {
      drawn = rw (← replicate-append-replicate i 1 c.args.p.colour, longer) (drawn-behind loop.invariant.drawn c.push-pen.ensures);
      here = next.1;
    }
