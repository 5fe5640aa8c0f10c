use Rattle.proof_prelude.proofs.{ℕ, subst, ◌≡◌, ◌+◌, ◌-◌, ◌^◌, ◌&&◌, true, false, min, is_some, nat_le, List, length, sym, ap, ◌∙◌, and_parts, false≢true, list_all, sum_by}
use Rattle.couch_base.specs.{most, RowValue, AskedValue, WantedValue}
use Rattle.range_front.specs.{is_done}
use Rattle.repl_peer.specs.{settle_at, has_row, has_room, leaf_count, asked_count, session_value, Consecutive, StoredWindowValue, windows_of}
use Rattle.repl_peer.proofs.{foreign, done_already, count_full, passes_all, cut_fits, uncut, windows-consecutive, found_stored, whole_at}
use Rattle.repl_peer.proofs.session.stored.check.Goals as goal

pub find_window-requires : goal.find_window-requires
find_window-requires c =
    let s = c.session.inside in
    subst (λ (l : List StoredWindowValue). (start : ℕ) × Consecutive start (windows_of l)) (sym c.deref.ensures.value) (s.front.front.start, windows-consecutive s.front.front (windows_of s.windows.items) c.session.invariant.bounds c.session.invariant.front)

pub returns-then-not-has_rows_of-clause-err : goal.returns-then-not-has_rows_of-clause-err
returns-then-not-has_rows_of-clause-err c =
    let s = session_value c.session.inside in
    let parcel = c.args.parcel.now in
    let v = c.index-window.result.now in
    let w = v.window in
    let f = found_stored c.session.inside.windows.items c.deref.result.now _ _ _ _ c.in-Some.place v c.deref.ensures.value c.lo-lo.ensures.value c.hi-hi.ensures.value c.in-Some.ensures.some c.index-window.ensures in
    let rows : list_all (has_row w) parcel.docs ≡ false = ap (list_all (has_row w)) (sym c.docs.ensures.value) ∙ sym c.has_rows_of.ensures ∙ c.if-not-has_rows_of.true in
    rw (← c.session.view_is) (ap (settle_at s parcel) f.first ∙ foreign s parcel w rows)

pub returns-then-is_done-clause-err : goal.returns-then-is_done-clause-err
returns-then-is_done-clause-err c =
    let s = session_value c.session.inside in
    let parcel = c.args.parcel.now in
    let v = c.index-window.result.now in
    let w = v.window in
    let f = found_stored c.session.inside.windows.items c.deref.result.now _ _ _ _ c.in-Some.place v c.deref.ensures.value c.lo-lo.ensures.value c.hi-hi.ensures.value c.in-Some.ensures.some c.index-window.ensures in
    let rows : list_all (has_row w) parcel.docs ≡ true = ap (list_all (has_row w)) (sym c.docs.ensures.value) ∙ sym c.has_rows_of.ensures ∙ c.if-not-has_rows_of.false in
    let finished : is_done s.front w.lo w.hi ≡ true = (λ i. is_done s.front ((f.lo_is ∙ sym c.lo-lo.ensures.value) i) ((f.hi_is ∙ sym c.hi-hi.ensures.value) i)) ∙ sym c.is_done.ensures.value ∙ c.if-is_done.true in
    rw (← c.session.view_is) (ap (settle_at s parcel) f.first ∙ done_already s parcel w rows finished)

pub unreachable-requires : goal.unreachable-requires
unreachable-requires c =
    let s = session_value c.session.inside in
    let v = c.index-window.result.now in
    let w = v.window in
    let f = found_stored c.session.inside.windows.items c.deref.result.now _ _ _ _ c.in-Some.place v c.deref.ensures.value c.lo-lo.ensures.value c.hi-hi.ensures.value c.in-Some.ensures.some c.index-window.ensures in
    let remains : is_done s.front w.lo w.hi ≡ false = (λ i. is_done s.front ((f.lo_is ∙ sym c.lo-lo.ensures.value) i) ((f.hi_is ∙ sym c.hi-hi.ensures.value) i)) ∙ sym c.is_done.ensures.value ∙ c.if-is_done.false in
    let whole = whole_at s.front c.session.inside.windows.items c.in-Some.place w v c.session.invariant.thinned f.at c.index-window.ensures remains in
    false≢true (ap is_some (sym c.in_default-rows.is) ∙ c.rows.ensures.whole ∙ whole)

pub returns-then-not-has_room-clause-err : goal.returns-then-not-has_room-clause-err
returns-then-not-has_room-clause-err c =
    let s = session_value c.session.inside in
    let parcel = c.args.parcel.now in
    let v = c.index-window.result.now in
    let w = v.window in
    let f = found_stored c.session.inside.windows.items c.deref.result.now _ _ _ _ c.in-Some.place v c.deref.ensures.value c.lo-lo.ensures.value c.hi-hi.ensures.value c.in-Some.ensures.some c.index-window.ensures in
    let rows : list_all (has_row w) parcel.docs ≡ true = ap (list_all (has_row w)) (sym c.docs.ensures.value) ∙ sym c.has_rows_of.ensures ∙ c.if-not-has_rows_of.false in
    let finished : is_done s.front w.lo w.hi ≡ false = (λ i. is_done s.front ((f.lo_is ∙ sym c.lo-lo.ensures.value) i) ((f.hi_is ∙ sym c.hi-hi.ensures.value) i)) ∙ sym c.is_done.ensures.value ∙ c.if-is_done.false in
    let leaves : c.leaf_count-leaves.result ≡ min (leaf_count w) (2 ^ 64 - 1) = c.leaf_count-leaves.ensures ∙ ap (λ (l : List RowValue). min (sum_by (λ (row : RowValue). length row.leaves) l) (2 ^ 64 - 1)) c.in-Some-rows.ensures.rows in
    let asked : c.asked_count-asked.result ≡ min (asked_count parcel.asked) (2 ^ 64 - 1) = c.asked_count-asked.ensures ∙ ap (λ (l : List WantedValue). min (sum_by (λ (wanted : WantedValue). length wanted.revs) l) (2 ^ 64 - 1)) (c.docs-2.ensures.value ∙ ap (λ (a : AskedValue). a.docs) c.asked.ensures.value) in
    let cut : (nat_le (s.counts.read + length parcel.docs) most && (nat_le (s.counts.checked + min (leaf_count w) (2 ^ 64 - 1)) most && nat_le (s.counts.found + min (asked_count parcel.asked) (2 ^ 64 - 1)) most)) ≡ false =
    (λ i. nat_le ((c.session.view_is i).counts.read + length (sym c.docs-3.ensures.value i)) most && (nat_le ((c.session.view_is i).counts.checked + sym leaves i) most && nat_le ((c.session.view_is i).counts.found + sym asked i) most)) ∙ sym c.has_room.ensures ∙ c.if-not-has_room.true in
    let room : has_room s w parcel ≡ false = (λ i. nat_le (s.counts.read + length parcel.docs) most && (sym (cut_fits s.counts.checked (leaf_count w)) i && sym (cut_fits s.counts.found (asked_count parcel.asked)) i)) ∙ cut in
    rw (← c.session.view_is) (ap (settle_at s parcel) f.first ∙ count_full s parcel w rows finished room)

pub returns-clause-ok : goal.returns-clause-ok
returns-clause-ok c =
    let s = session_value c.session.inside in
    let parcel = c.args.parcel.now in
    let v = c.index-window.result.now in
    let w = v.window in
    let f = found_stored c.session.inside.windows.items c.deref.result.now _ _ _ _ c.in-Some.place v c.deref.ensures.value c.lo-lo.ensures.value c.hi-hi.ensures.value c.in-Some.ensures.some c.index-window.ensures in
    let rows : list_all (has_row w) parcel.docs ≡ true = ap (list_all (has_row w)) (sym c.docs.ensures.value) ∙ sym c.has_rows_of.ensures ∙ c.if-not-has_rows_of.false in
    let finished : is_done s.front w.lo w.hi ≡ false = (λ i. is_done s.front ((f.lo_is ∙ sym c.lo-lo.ensures.value) i) ((f.hi_is ∙ sym c.hi-hi.ensures.value) i)) ∙ sym c.is_done.ensures.value ∙ c.if-is_done.false in
    let leaves : c.leaf_count-leaves.result ≡ min (leaf_count w) (2 ^ 64 - 1) = c.leaf_count-leaves.ensures ∙ ap (λ (l : List RowValue). min (sum_by (λ (row : RowValue). length row.leaves) l) (2 ^ 64 - 1)) c.in-Some-rows.ensures.rows in
    let asked : c.asked_count-asked.result ≡ min (asked_count parcel.asked) (2 ^ 64 - 1) = c.asked_count-asked.ensures ∙ ap (λ (l : List WantedValue). min (sum_by (λ (wanted : WantedValue). length wanted.revs) l) (2 ^ 64 - 1)) (c.docs-2.ensures.value ∙ ap (λ (a : AskedValue). a.docs) c.asked.ensures.value) in
    let cut : (nat_le (s.counts.read + length parcel.docs) most && (nat_le (s.counts.checked + min (leaf_count w) (2 ^ 64 - 1)) most && nat_le (s.counts.found + min (asked_count parcel.asked) (2 ^ 64 - 1)) most)) ≡ true =
    (λ i. nat_le ((c.session.view_is i).counts.read + length (sym c.docs-3.ensures.value i)) most && (nat_le ((c.session.view_is i).counts.checked + sym leaves i) most && nat_le ((c.session.view_is i).counts.found + sym asked i) most)) ∙ sym c.has_room.ensures ∙ c.if-not-has_room.false in
    let room : has_room s w parcel ≡ true = (λ i. nat_le (s.counts.read + length parcel.docs) most && (sym (cut_fits s.counts.checked (leaf_count w)) i && sym (cut_fits s.counts.found (asked_count parcel.asked)) i)) ∙ cut in
    let parts = and_parts _ _ (and_parts _ _ cut).1 in
    rw (← c.session.view_is) (record {
      window = w;
      at = f.at;
      answer = ap (settle_at s parcel) f.first ∙ passes_all s parcel w rows finished room;
      leaf_count = leaves ∙ uncut s.counts.checked (leaf_count w) parts.0;
      asked_count = asked ∙ uncut s.counts.found (asked_count parcel.asked) parts.1;
    })
