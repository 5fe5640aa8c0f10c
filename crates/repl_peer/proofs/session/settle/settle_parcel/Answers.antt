use Rattle.proof_prelude.proofs.{◌≡◌, ◌+◌, ◌-◌, ◌≤◌, List, Some, Ok, length, drop, slice_get, true, false, sym, ap, ◌∙◌, subst, arith, same_Some, list_all, inl, inr}
use Rattle.doc_json.specs.Document.{Document}
use Rattle.couch_base.specs.{most, AreMade, WindowValue, ParcelValue}
use Rattle.range_front.specs.{FrontValue, bounds, is_done, finish_answer}
use Rattle.repl_peer.specs.{SessionValue, window_bounds, has_row, Reached, ReachedAll, settling_at, known_of}
use Rattle.repl_peer.proofs.{passed_by, room_of, can_finish, grown_by, reached_whole, keeps_reached, keeps_marked, passed_stored, gives_from, stopped, ended_err, ended_ok}
use Rattle.repl_peer.proofs.session.settle.settle_parcel.Goals as goal

pub settle_in_order-requires : goal.settle_in_order-requires
settle_in_order-requires g c =
    let docs : c.deref.result.now ≡ c.args.parcel.docs = c.deref.ensures.value ∙ sym (ap (λ (p : ParcelValue). p.docs) c.into_parts-asked.ensures.parts) in
    let p = c.in_ok-checked.ensures.ok in
    let q = passed_by c.args.session.now c.args.parcel _ _ _ p in
    let room = room_of c.args.session.now p.window c.args.parcel q.room in
    record {
      rows = (p.window, p.at, subst (λ (l : List Document). list_all (has_row p.window) l ≡ true) (sym docs) q.rows);
      remains = λ w at. subst (λ (v : WindowValue). is_done c.args.session.now.front v.lo v.hi ≡ false) (same_Some p.window w (sym p.at ∙ at)) q.remains;
      room = subst (λ (l : List Document). c.args.session.now.counts.read + length l ≤ most) (sym docs) room.read;
      made = subst (λ (l : List Document). AreMade l c.into_parts-asked.result.3.items) (sym c.deref.ensures.value) c.into_parts-asked.ensures.made;
    }

pub returns-in-Err : goal.returns-in-Err
returns-in-Err g c =
    let read = c.deref.result.now in
    let docs : read ≡ c.args.parcel.docs = c.deref.ensures.value ∙ sym (ap (λ (p : ParcelValue). p.docs) c.into_parts-asked.ensures.parts) in
    let p = c.in_ok-checked.ensures.ok in
    let before = settling_at c.args.db.now c.args.session.now in
    let after = settling_at c.settle_in_order.new.db c.settle_in_order.new.session in
    let refuses = g.F.WriteFilter.refuses c.args.filter.now in
    let known = known_of c.settle_in_order.new.db c.settle_in_order.new.ledgered in
    let n = c.in-Err.stop.settled in
    let left : c.without_first.result.items ≡ drop n read = c.without_first.ensures ∙ ap (drop n) (sym c.deref.ensures.value) in
    let reached = c.in-Err.ensures.reached p.window p.at in
    record {
      gives =
          gives_from refuses known before after c.args.parcel _ _ _ _ p
          (stopped refuses known p.window before after c.args.parcel read n c.without_first.result c.in-Err.stop.cause docs
          (subst (λ (l : List Document). Reached refuses p.window before read n l after) (sym left) reached)
          (c.in-Err.ensures.why p.window p.at));
      keeps = keeps_reached _ _ before _ _ _ _ _ _ reached c.settle_in_order.ensures.indexed;
    }

pub mark_window-marked-requires : goal.mark_window-marked-requires
mark_window-marked-requires g c =
    let p = c.in_ok-checked.ensures.ok in
    let bounded = subst (λ (s : SessionValue). window_bounds s.windows ≡ bounds s.front) c.session.view_is c.session.invariant.bounds in
    let q = passed_by c.args.session.now c.args.parcel _ _ _ p in
    let room = room_of c.args.session.now p.window c.args.parcel q.room in
    let before = settling_at c.args.db.now c.args.session.now in
    let all = c.in_default.ensures.ok p.window p.at in
    let grown = grown_by _ _ before _ _ _ _ (reached_whole _ _ before _ _ all) in
    record {
      documents = passed_stored _ _ before _ _ _ _ _ all
          (elim c.stored_docs-stored.ensures [ inl both ↦ inl (both.0, both.1 ∙ c.deref-2.ensures.value ∙ sym c.deref.ensures.value) | inr none ↦ inr none.1 ])
          (ap (λ (s : SessionValue). s.counts.failures) c.session.view_is) (ap (λ (s : SessionValue). s.counts.failures) c.session-2.view_is);
      stored = (
        p.window,
        subst (λ (l : List WindowValue). slice_get l c.in_ok-checked.checked.place ≡ Some p.window) (sym c.settle_in_order.ensures.windows) p.at,
        subst (λ (f : FrontValue). finish_answer f p.window.lo p.window.hi ≡ Ok tt) (sym c.settle_in_order.ensures.front)
            (can_finish c.args.session.now.front c.args.session.now.windows c.in_ok-checked.checked.place p.window bounded p.at q.remains),
      );
      checked = omega (arith, room.checked, grown.checked, p.leaf_count);
      found = omega (arith, room.found, grown.found, p.asked_count);
    }

pub returns-in-Err-marked : goal.returns-in-Err-marked
returns-in-Err-marked g c =
    let docs = ap (λ (p : ParcelValue). p.docs) c.into_parts-asked.ensures.parts in
    let p = c.in_ok-checked.ensures.ok in
    let before = settling_at c.args.db.now c.args.session.now in
    let mid = settling_at c.settle_in_order.new.db c.settle_in_order.new.session in
    let after = settling_at c.settle_in_order.new.db c.mark_window-marked.new.session in
    let refuses = g.F.WriteFilter.refuses c.args.filter.now in
    let known = known_of c.settle_in_order.new.db c.settle_in_order.new.ledgered in
    let all = subst (λ (l : List Document). ReachedAll refuses p.window before l mid) (c.deref.ensures.value ∙ sym docs) (c.in_default.ensures.ok p.window p.at) in
    let count : c.len-settled.result ≡ length c.args.parcel.docs = omega (arith, c.into_parts-asked.result.1.ok, c.len-settled.ensures, ap length docs) in
    let still = subst (λ (l : List WindowValue). slice_get l c.in_ok-checked.checked.place ≡ Some p.window) (sym c.settle_in_order.ensures.windows) p.at in
    record {
      gives =
          gives_from refuses known before after c.args.parcel _ _ _ _ p
          (ended_err refuses known p.window before mid.db mid.session after.session c.args.parcel c.len-settled.result c.in_ok-checked.checked.leaves c.in_ok-checked.checked.asked c.in-Err-marked.fault all count (c.in-Err-marked.ensures.ends p.window still));
      keeps =
          keeps_marked _ _ _ _ _ (keeps_reached _ _ before _ _ _ _ _ _ (reached_whole refuses p.window before mid c.args.parcel.docs all) c.settle_in_order.ensures.indexed)
          c.mark_window-marked.ensures.id c.mark_window-marked.ensures.rep c.mark_window-marked.ensures.ledger;
    }

pub overflow_sub-result : goal.overflow_sub-result
overflow_sub-result g c =
    let p = c.in_ok-checked.ensures.ok in
    let before = settling_at c.args.db.now c.args.session.now in
    let grown = grown_by _ _ before _ _ _ _ (reached_whole _ _ before _ _ (c.in_default.ensures.ok p.window p.at)) in
    omega (arith, grown.written, c.mark_window-marked.ensures.written, ap (λ (s : SessionValue). s.counts.written) c.session.view_is, ap (λ (s : SessionValue). s.counts.written) c.session-3.view_is)

pub overflow_sub-result-2 : goal.overflow_sub-result-2
overflow_sub-result-2 g c =
    let p = c.in_ok-checked.ensures.ok in
    let before = settling_at c.args.db.now c.args.session.now in
    let grown = grown_by _ _ before _ _ _ _ (reached_whole _ _ before _ _ (c.in_default.ensures.ok p.window p.at)) in
    omega (arith, grown.failures, c.mark_window-marked.ensures.failures, ap (λ (s : SessionValue). s.counts.failures) c.session.view_is, ap (λ (s : SessionValue). s.counts.failures) c.session-3.view_is)

pub returns : goal.returns
returns g c =
    let docs = ap (λ (p : ParcelValue). p.docs) c.into_parts-asked.ensures.parts in
    let p = c.in_ok-checked.ensures.ok in
    let before = settling_at c.args.db.now c.args.session.now in
    let mid = settling_at c.settle_in_order.new.db c.settle_in_order.new.session in
    let after = settling_at c.settle_in_order.new.db c.mark_window-marked.new.session in
    let refuses = g.F.WriteFilter.refuses c.args.filter.now in
    let known = known_of c.settle_in_order.new.db c.settle_in_order.new.ledgered in
    let all = subst (λ (l : List Document). ReachedAll refuses p.window before l mid) (c.deref.ensures.value ∙ sym docs) (c.in_default.ensures.ok p.window p.at) in
    let still = subst (λ (l : List WindowValue). slice_get l c.in_ok-checked.checked.place ≡ Some p.window) (sym c.settle_in_order.ensures.windows) p.at in
    record {
      gives =
          gives_from refuses known before after c.args.parcel _ _ _ _ p
          (ended_ok refuses known p.window before mid.db mid.session after.session c.args.parcel c.len-settled.result c.in_ok-checked.checked.leaves c.in_ok-checked.checked.asked _ _ all (c.in_default-marked.ensures.ends p.window still) p.leaf_count p.asked_count
          (λ i. (ap (λ (s : SessionValue). s.counts.written) c.session-3.view_is ∙ c.mark_window-marked.ensures.written) i - ap (λ (s : SessionValue). s.counts.written) c.session.view_is i)
          (λ i. (ap (λ (s : SessionValue). s.counts.failures) c.session-3.view_is ∙ c.mark_window-marked.ensures.failures) i - ap (λ (s : SessionValue). s.counts.failures) c.session.view_is i));
      keeps =
          keeps_marked _ _ _ _ _ (keeps_reached _ _ before _ _ _ _ _ _ (reached_whole refuses p.window before mid c.args.parcel.docs all) c.settle_in_order.ensures.indexed)
          c.mark_window-marked.ensures.id c.mark_window-marked.ensures.rep c.mark_window-marked.ensures.ledger;
    }
