-- The check of a parcel against the windows.
use Rattle.proof_prelude.proofs.{◌≡◌, ℕ, ◌+◌, ◌-◌, ◌≤◌, ◌^◌, ◌==◌, Bool, true, false, ◌&&◌, min, nat_le, List, [], ◌∷◌, inl, inr, length, get_or, Option, Some, None, Result, Ok, Err, is_ok, if◌then◌else◌, zero, suc, slice_get, refl, sym, ap, ◌∙◌, subst, arith, and_parts, lt-leb, cases_lt, and_from, or_left, or_right, false≢true, get_or_from_slice_get, list_all, list_any, eqb-true, leb-true, le-leb, eq-eqb, find}
use Rattle.couch_base.specs.{most, WindowValue, found_member, none_some, some_is, ParcelValue}
use Rattle.range_front.specs.{FrontValue, bounds, is_window, is_done, finish_answer, is_window-bounds, finish_answer-ok}
use Rattle.rev_tree.specs.{SessionId}
use Rattle.repl_peer.specs.{PeerValue, SessionValue, session_in, found_answer, settle_at, settle_check, window_in, has_row, has_room, leaf_count, asked_count, IsWindowAt, Passes, window_bounds, TargetFault}
use Rattle.repl_peer.specs.declared.fault.TargetFault.TheVariants as faults

-- the window that was found is the session's
pub record Found (ws : List WindowValue) (lo hi place : ℕ) (w : WindowValue) : Type 0 where
  pub at : slice_get ws place ≡ Some w
  pub first : find (λ w. (w.lo == lo) && (w.hi == hi)) ws ≡ Some w
  pub lo_is : w.lo ≡ lo
  pub hi_is : w.hi ≡ hi

pub found : (ws read : List WindowValue) (lo hi low high place : ℕ) (w : WindowValue) → read ≡ ws → lo ≡ low → hi ≡ high → IsWindowAt read lo hi place → w ≡ get_or ws place w → Found ws low high place w
found ws read lo hi low high place w same a b h is =
    let stored : IsWindowAt ws low high place =
    subst (λ (n : ℕ). IsWindowAt ws low n place) b (subst (λ (n : ℕ). IsWindowAt ws n hi place) a (subst (λ (l : List WindowValue). IsWindowAt l lo hi place) same h)) in
    let here : stored.window ≡ w = sym (is ∙ get_or_from_slice_get ws place stored.window w stored.at) in
    let passes = (found_member (λ (w : WindowValue). (w.lo == low) && (w.hi == high)) ws stored.window stored.first).1 in
    let parts = and_parts _ _ passes in
    record {
      at = stored.at ∙ ap (λ x. Some x) here;
      first = stored.first ∙ ap (λ x. Some x) here;
      lo_is = ap (λ (x : WindowValue). x.lo) (sym here) ∙ eqb-true _ _ parts.0;
      hi_is = ap (λ (x : WindowValue). x.hi) (sym here) ∙ eqb-true _ _ parts.1;
    }

-- ---- the results of the check

pub foreign : (s : SessionValue) (parcel : ParcelValue) (w : WindowValue) → list_all (has_row w) parcel.docs ≡ false → settle_at s parcel (Some w) ≡ Err faults.ForeignParcel
foreign s parcel w rows = rw rows

pub done_already : (s : SessionValue) (parcel : ParcelValue) (w : WindowValue) → list_all (has_row w) parcel.docs ≡ true → is_done s.front w.lo w.hi ≡ true → settle_at s parcel (Some w) ≡ Err faults.AlreadyDone
done_already s parcel w rows done = rw (rows, done)

pub count_full : (s : SessionValue) (parcel : ParcelValue) (w : WindowValue) → list_all (has_row w) parcel.docs ≡ true → is_done s.front w.lo w.hi ≡ false → has_room s w parcel ≡ false → settle_at s parcel (Some w) ≡ Err faults.CountFull
count_full s parcel w rows done room = rw (rows, done, room)

pub passes_all : (s : SessionValue) (parcel : ParcelValue) (w : WindowValue) → list_all (has_row w) parcel.docs ≡ true → is_done s.front w.lo w.hi ≡ false → has_room s w parcel ≡ true → settle_at s parcel (Some w) ≡ Ok (s, w)
passes_all s parcel w rows done room = rw (rows, done, room)

-- ---- counts

-- a count that was capped at the maximum is in range exactly if the exact one is
pub cut_fits : (count more : ℕ) → nat_le (count + min more (2 ^ 64 - 1)) most ≡ nat_le (count + more) most
cut_fits count more =
    elim (cases_lt most (count + more)) [
      | inl over ↦ lt-leb _ _ (omega (arith, over)) ∙ sym (lt-leb _ _ over)
      | inr under ↦ le-leb _ _ (omega (arith, under)) ∙ sym (le-leb _ _ under)
    ]

-- a capped count that is in range is exact
pub uncut : (count more : ℕ) → nat_le (count + min more (2 ^ 64 - 1)) most ≡ true → min more (2 ^ 64 - 1) ≡ more
uncut count more h = let under = leb-true _ _ h in omega (arith, under)

-- ---- the facts of a passed check

pub record Passed (s : SessionValue) (parcel : ParcelValue) (w : WindowValue) : Type 0 where
  pub rows : list_all (has_row w) parcel.docs ≡ true
  pub remains : is_done s.front w.lo w.hi ≡ false
  pub room : has_room s w parcel ≡ true

abbrev answer : Bool → Bool → Bool → SessionValue → WindowValue → Result (SessionValue × WindowValue) TargetFault
answer rows done room s w = if rows then (if done then Err faults.AlreadyDone else (if room then Ok (s, w) else Err faults.CountFull)) else Err faults.ForeignParcel

abbrev answered : Result (SessionValue × WindowValue) TargetFault → SessionValue × WindowValue → SessionValue × WindowValue
answered (Ok at) none = at
answered (Err fault) none = none

tested : (s : SessionValue) (parcel : ParcelValue) (w : WindowValue) (at : SessionValue × WindowValue) (a b c : Bool) → list_all (has_row w) parcel.docs ≡ a → is_done s.front w.lo w.hi ≡ b → has_room s w parcel ≡ c
    → answer a b c s w ≡ Ok at → (at ≡ (s, w)) × Passed s parcel w
tested s parcel w at false b c x y z h = cc h
tested s parcel w at true true c x y z h = cc h
tested s parcel w at true false false x y z h = cc h
tested s parcel w at true false true x y z h = (sym (ap (λ r. answered r (s, w)) h), record { rows = x; remains = y; room = z })

-- the window that was found, with the session
pub passed : (s : SessionValue) (parcel : ParcelValue) (o : Option WindowValue) (at : SessionValue × WindowValue) → settle_at s parcel o ≡ Ok at → (w : WindowValue) × (o ≡ Some w) × (at ≡ (s, w)) × Passed s parcel w
passed s parcel None at h = cc h
passed s parcel (Some w) at h = let t = tested s parcel w at _ _ _ refl refl refl h in (w, refl, t.0, t.1)

-- ---- errors before the documents

-- one of four errors
pub check_refused : (P : TargetFault → Type 0) (p : PeerValue) (id : SessionId) (parcel : ParcelValue) (fault : TargetFault)
    → P faults.NoSuchSession → P faults.ForeignParcel → P faults.AlreadyDone → P faults.CountFull → settle_check p id parcel ≡ Err fault → P fault
check_refused P p id parcel fault absent foreign done full h = in_peer (session_in p.sessions id) h
  where
    told : (why : TargetFault) → P why → ◌≡◌ {A = Result (SessionValue × WindowValue) TargetFault} (Err why) (Err fault) → P fault
    told why holds e = subst P (let same : why ≡ fault = cc in same) holds

    by : (s : SessionValue) (w : WindowValue) (a b c : Bool) → answer a b c s w ≡ Err fault → P fault
    by s w false b c e = told faults.ForeignParcel foreign e
    by s w true true c e = told faults.AlreadyDone done e
    by s w true false false e = told faults.CountFull full e
    by s w true false true e = absurd (false≢true (sym (ap is_ok e)))

    in_window : (s : SessionValue) (o : Option WindowValue) → settle_at s parcel o ≡ Err fault → P fault
    in_window s None e = told faults.ForeignParcel foreign e
    in_window s (Some w) e = by s w (list_all (has_row w) parcel.docs) (is_done s.front w.lo w.hi) (has_room s w parcel) e

    in_peer : (o : Option SessionValue) → found_answer (λ s. settle_at s parcel (window_in s parcel.asked.lo parcel.asked.hi)) o ≡ Err fault → P fault
    in_peer None e = told faults.NoSuchSession absent e
    in_peer (Some s) e = in_window s (window_in s parcel.asked.lo parcel.asked.hi) e

-- ---- stored windows and the front

bound_there : (ws : List WindowValue) (i : ℕ) (w : WindowValue) → slice_get ws i ≡ Some w → list_any (λ (b : ℕ × ℕ). (b.0 == w.lo) && (b.1 == w.hi)) (window_bounds ws) ≡ true
bound_there [] i w at = absurd (none_some w at)
bound_there (x ∷ ws) zero w at =
    let same = some_is x w at in
    or_left _ _ (and_from _ _ (eq-eqb x.lo w.lo (ap (λ (v : WindowValue). v.lo) same)) (eq-eqb x.hi w.hi (ap (λ (v : WindowValue). v.hi) same)))
bound_there (x ∷ ws) (suc i) w at = or_right _ _ (bound_there ws i w at)

-- the front can mark a stored window that is not done
pub can_finish : (f : FrontValue) (ws : List WindowValue) (i : ℕ) (w : WindowValue) → window_bounds ws ≡ bounds f → slice_get ws i ≡ Some w → is_done f w.lo w.hi ≡ false → finish_answer f w.lo w.hi ≡ Ok tt
can_finish f ws i w same at remains =
    let there : is_window f w.lo w.hi ≡ true = is_window-bounds f w.lo w.hi ∙ ap (list_any (λ (b : ℕ × ℕ). (b.0 == w.lo) && (b.1 == w.hi))) (sym same) ∙ bound_there ws i w at in
    finish_answer-ok f w.lo w.hi there remains

pub passed_by : (s : SessionValue) (parcel : ParcelValue) (place leaves asked : ℕ) → (p : Passes s parcel place leaves asked) → Passed s parcel p.window
passed_by s parcel place leaves asked p =
    let k = passed s parcel (window_in s parcel.asked.lo parcel.asked.hi) (s, p.window) p.answer in
    subst (Passed s parcel) (ap (λ (at : SessionValue × WindowValue). at.1) (sym k.2)) k.3

-- the counts are in range
pub record Room (s : SessionValue) (w : WindowValue) (parcel : ParcelValue) : Type 0 where
  pub read : s.counts.read + length parcel.docs ≤ most
  pub checked : s.counts.checked + leaf_count w ≤ most
  pub found : s.counts.found + asked_count parcel.asked ≤ most

pub room_of : (s : SessionValue) (w : WindowValue) (parcel : ParcelValue) → has_room s w parcel ≡ true → Room s w parcel
room_of s w parcel h =
    let parts = and_parts _ _ h in
    let others = and_parts _ _ parts.1 in
    record { read = leb-true _ _ parts.0; checked = leb-true _ _ others.0; found = leb-true _ _ others.1 }
