use mathlib.Core.Path.{◌≡◌, ap, sym, subst, ◌∙◌}
use mathlib.Core.List.{List, [], ◌∷◌}
use Prim.Native.Nat.{ℕ, ◌+◌, ◌<◌}
use native.Mathlib.Nat.{le_antisymm}
use native.Mathlib.Omega.{arith}
use lib.ListN.{get_or, take}
use lib.Seq.{take-length}
use lib.Pow.{pow_pos}
use Rattle.pen.specs.Runs.{put_fields, inked, place_of, Drawn}
use Rattle.pen.proofs.Runs.{fit_length, puts_append}
use Rattle.pen.proofs.Pens.{drawn-behind}
use Rattle.meaning.specs.Filter.{Edge}
use Rattle.layout.specs.Layout.{edge_widths, flat}
use Rattle.layout.specs.Code.{edge_of}
use Rattle.layout.proofs.Bounds.{edges_high, fill_lt}
use Rattle.layout.proofs.EdgeLists.{total_edges, widths_append}
use Rattle.files.specs.Written.{edges_fit}
use Rattle.drawing.specs.declared.Line.{Line}
use Rattle.drawing.specs.Reader.{edges_of, read_of, line_at}
use Rattle.surveying.specs.declared.Survey.{Survey}
use Rattle.surveying.specs.Surveys.{Known}
use Rattle.inking.specs.Inking.{filter_read}
use Rattle.inking.proofs.Laws.{nowhere, flat_more, edge_fit, AtEdge, edges_are, edges_few, first_edge, next_edge}
use Rattle.inking.proofs.put_all.Goals as goal

-- the next edge is read, and the place behind its statement
is_next : (text : List ℕ) (s : Survey) → Known text s → (i at : ℕ) → i < s.edges → AtEdge text i at → (line : Line) → line ≡ line_at text at →
    (edge_of line.edge ≡ get_or (edges_of (read_of text)) i nowhere) × AtEdge text (i + 1) line.end
is_next text s known i at more here line is = rw is (next_edge text s known i at more here)

pub loop-init : goal.loop-init
unfolding edge_widths flat
loop-init c = record {
  drawn = c.begin-pen.ensures;
  here = first_edge c.args.text.now c.args.s c.requires.known;
}

pub push-pen-requires : goal.push-pen-requires
push-pen-requires c =
    let loop = c.loop in
    let p = c.args.p in
    let pre = c.requires in
    let r = filter_read (read_of c.args.text.now) in
    let is = (is_next c.args.text.now c.args.s c.requires.known loop.counter loop.at c.loop-test.true loop.invariant.here c.line_at-line.result c.line_at-line.ensures).0 in
    let f = edge_fit p r.edges loop.counter (edges_fit p p.usable r pre.writable) (omega (arith, edges_are c.args.text.now c.args.s c.requires.known, c.loop-test.true)) in
    record {
      ready = loop.invariant.drawn.ready;
      near = omega (arith, loop.invariant.drawn.place, total_edges p loop.counter, pre.begin, edges_high p p.usable loop.counter (omega (arith, edges_few c.args.text.now c.args.s c.requires.known c.args.p c.args.p.usable c.requires.writable, loop.auto.counter-end)));
      source = rw (ap (λ (e : Edge). e.source) is) f.0;
      label = rw (ap (λ (e : Edge). e.label) is) f.1;
      target = rw (ap (λ (e : Edge). e.target) is) f.2;
    }

pub loop-preserved : goal.loop-preserved
loop-preserved c =
    let loop = c.loop in
    let es = edges_of (read_of c.args.text.now) in
    let i = loop.counter in
    let next = is_next c.args.text.now c.args.s c.requires.known loop.counter loop.at c.loop-test.true loop.invariant.here c.line_at-line.result c.line_at-line.ensures in
    let p = c.args.p in
    let drawn =
    subst (λ (e : Edge). Drawn (inked loop.part loop.pen) (place_of loop.pen) (edge_widths p 1) (flat (e ∷ [])) c.push-pen.new.room c.push-pen.result)
    next.0 c.push-pen.ensures in
    record {
      drawn = rw (flat_more es i (omega (arith, edges_are c.args.text.now c.args.s c.requires.known, c.loop-test.true)), widths_append p i 1) (drawn-behind loop.invariant.drawn drawn);
      here = next.1;
    }

pub fill-requires : goal.fill-requires
fill-requires c =
    let loop = c.loop in
    let p = c.args.p in
    record {
      ready = loop.invariant.drawn.ready;
      narrow = omega (arith, c.fill_bits.ensures, fill_lt p c.args.s.states c.args.s.edges);
      small = pow_pos c.fill_bits.result;
      near = omega (
        arith,
        loop.invariant.drawn.place,
        total_edges p loop.counter,
        c.requires.begin,
        edges_high p c.args.p.usable loop.counter (omega (arith, edges_few c.args.text.now c.args.s c.requires.known c.args.p c.args.p.usable c.requires.writable, loop.auto.counter-end)),
        c.fill_bits.ensures,
        fill_lt p c.args.s.states c.args.s.edges,
      );
    }

pub returns : goal.returns
unfolding put_fields
returns c =
    let loop = c.loop in
    let p = c.args.p in
    let es = edges_of (read_of c.args.text.now) in
    let all : loop.counter ≡ c.args.s.edges = le_antisymm loop.auto.counter-end c.loop-test.false in
    let whole : take c.args.s.edges es ≡ es = rw (edges_are c.args.text.now c.args.s c.requires.known) (take-length es) in
    let drawn : Drawn c.args.part.now c.args.bit (edge_widths p c.args.s.edges) (flat es) loop.part loop.pen =
    rw (all, whole) at loop.invariant.drawn in
    c.fill.ensures ∙ rw (drawn.ink, drawn.place, c.fill_bits.ensures)
    (sym (puts_append c.args.part.now c.args.bit (edge_widths p c.args.s.edges) _ (flat es) (0 ∷ []) (fit_length _ _ drawn.fit)))
