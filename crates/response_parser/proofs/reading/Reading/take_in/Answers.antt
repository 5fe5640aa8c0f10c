use Rattle.proof_prelude.proofs.{◌≡◌, ◌+◌, [], inr, ◌∙◌, sym, ap, subst, length, length-drop, take, arith}
use Rattle.response_parser.specs.{after, piece_of, pieces, state_of}
use Rattle.response_parser.proofs.{after_copied, after_taken, given_none, pieces_before, pieces_copied, pieces_taken, rest_of}
use Rattle.response_parser.proofs.reading.Reading.take_in.Goals as goal

pub returns-then-stops-clause-state : goal.returns-then-stops-clause-state
returns-then-stops-clause-state c =
    let i = c.loop-i.invariant in
    after_taken (state_of c.args.self.now) (state_of c.loop-i.self) (state_of c.take.new.self) c.args.bytes.now c.loop-i.i c.loop-i-test.true i.state c.in_ok-take.ensures

pub returns-then-stops-clause-pieces : goal.returns-then-stops-clause-pieces
returns-then-stops-clause-pieces c =
    let i = c.loop-i.invariant in
    pieces_taken (state_of c.args.self.now) (state_of c.loop-i.self) (state_of c.take.new.self) c.args.bytes.now c.loop-i.i c.loop-i-test.true i.state c.in_ok-take.ensures i.pieces

pub loop-i-preserved : goal.loop-i-preserved
loop-i-preserved c =
    let i = c.loop-i.invariant in
    let s = state_of c.args.self.now in
    let m = state_of c.take.new.self in
    let n = state_of c.copy.new.self in
    let b = c.args.bytes.now in
    let k = c.in_ok-i.field-0 in
    let none = given_none m (sym c.stops.ensures ∙ c.if-stops.false) in
    let one = after_taken s (state_of c.loop-i.self) m b c.loop-i.i c.loop-i-test.true i.state c.in_ok-take.ensures in
    let empty = pieces_taken s (state_of c.loop-i.self) m b c.loop-i.i c.loop-i-test.true i.state c.in_ok-take.ensures i.pieces ∙ none in
    let rest = rest_of b (c.loop-i.i + 1) in
    record {
      within = omega (arith, c.in_ok-i.ensures.within, ap length rest, length-drop (c.loop-i.i + 1) b, c.loop-i-test.true);
      state = after_copied s m n b (c.loop-i.i + 1) k one (subst (λ r. n ≡ after m (take k r)) rest c.in_ok-i.ensures.state);
      pieces = pieces_copied s m n b (c.loop-i.i + 1) k one (subst (λ r. pieces m (take k r) ≡ []) rest c.in_ok-i.ensures.none) empty;
      going = inr (ap (λ f. piece_of f n.text) c.in_ok-i.ensures.found);
    }

pub returns-clause-first : goal.returns-clause-first
returns-clause-first c = pieces_before (state_of c.args.self.now) c.args.bytes.now c.loop-i.i c.loop-i.invariant.pieces
