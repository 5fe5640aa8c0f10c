use Rattle.proof_prelude.proofs.{ℕ, ◌+◌, ◌-◌, List, ap, ◌∙◌, arith, take, drop, MatchOption-at_some}
use Rattle.couch_relay.specs.Inbox.{pending}
use Rattle.couch_relay.proofs.Lines.{head_read, after_head}
use Rattle.couch_relay.proofs.inbox.Inbox.head.Goals as goal

pub returns-clause-head : goal.returns-clause-head
returns-clause-head g c =
    let held : List ℕ = c.line.new.self.held.items in
    let at : ℕ = c.line.new.self.at in
    let size : ℕ = c.in-Some.size in
    head_read c.in_ok-head.head _ _ _ (pending c.args.self.now) (pending c.line.new.self) _ _ size c.in_ok-size.ensures.filled
    (MatchOption-at_some _ _ _ c.in-Some.is c.in_ok-size.ensures.found)
    (ap (λ (xs : List ℕ). take (at + size - at) (drop at xs)) c.as_slice.ensures.value ∙ ap (λ (n : ℕ). take n (drop at held)) (omega arith))
    (after_head held at size) c.in_ok-head.ensures
