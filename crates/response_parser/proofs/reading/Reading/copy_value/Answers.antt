use Rattle.proof_prelude.proofs.{◌≡◌, ◌+◌, ◌≤◌, min, take, length, refl, sym, ap, ◌∙◌, length-take-le, arith}
use Rattle.response_parser.specs.{state_of}
use Rattle.response_parser.specs.Runs.{IsInValue, in_value_of}
use Rattle.response_parser.proofs.{copies_none, more_by-min}
use Rattle.response_parser.proofs.reading.Reading.copy_value.Goals as goal
use Rattle.response_parser.proofs.reading.Reading.copy_value.Goals.{then-spot, else-spot}

pub returns-clause-state : goal.returns-clause-state
returns-clause-state c =
    let s = state_of c.args.self.now in
    let spot = c.spot_after-spot.result in
    let xs = take spot.count c.args.bytes.now in
    let v : IsInValue s c.args.name c.args.quoted s.nesting = record { place = c.requires.place; nesting_is = refl; found = c.requires.found; begun = sym c.has_no_text.ensures ∙ c.if-has_no_text.false } in
    let copies = c.spot_after-spot.ensures.continues s c.args.name c.args.quoted s.nesting v (copies_none c.args.name s c.args.quoted s.nesting v) in
    let place : c.if-spot.self ≡ in_value_of c.args.name spot.quoted = elim c.if-spot.branch [ then-spot w ↦ w.self-is ∙ ap (in_value_of c.args.name) (sym w.if-spot.true) | else-spot w ↦ w.self-is ∙ ap (in_value_of c.args.name) (sym w.if-spot.false) ] in
    let small : s.taken ≤ 18446744073709551615 = omega arith in
    let count : length xs ≡ spot.count = length-take-le spot.count c.args.bytes.now c.spot_after-spot.ensures.within in
    let taken = c.saturating_add-self.ensures ∙ ap (λ z. min (s.taken + z) 18446744073709551615) (sym count) ∙ sym (more_by-min s.taken xs small) in
    (λ i. record s { place = place i; nesting = spot.nesting; text = c.in_ok-extend_from_slice.ensures.items i; taken = taken i }) ∙ sym copies.state

pub returns-clause-none : goal.returns-clause-none
returns-clause-none c =
    let s = state_of c.args.self.now in
    let v : IsInValue s c.args.name c.args.quoted s.nesting = record { place = c.requires.place; nesting_is = refl; found = c.requires.found; begun = sym c.has_no_text.ensures ∙ c.if-has_no_text.false } in
    (c.spot_after-spot.ensures.continues s c.args.name c.args.quoted s.nesting v (copies_none c.args.name s c.args.quoted s.nesting v)).none
