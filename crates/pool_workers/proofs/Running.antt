-- What the caller's thread has, as workers start and end.
use Rattle.proof_prelude.proofs.{◌≡◌, ℕ, sum, ◌+◌, ◌<◌, ◌≤◌, List, [], ◌∷◌, ◌++◌, length, Option, None, Some, IfSome, option_to_list, vec_len, vec_capacity, refl, sym, ap, ◌∙◌, subst, arith, append-nil}
use Rattle.crossbeam_channel.specs.Claims.{view, IsSeatAt}
use Rattle.crossbeam_channel.specs.Ends.{sends_on}
use Rattle.progress_board.specs.{Board, BoardSeat}
use Rattle.pool_workers.specs.{total, held, Channels, Place, Halt, Rest, Worker, Writer, WindowView, ParcelView, window_view, amounts, names, FetchedKnows, WrittenKnows, WriterShows, Allows, AllowsOn, MayFill, IsOneOf, AreBack, HaveShown, HasRest, HaveEnded, IsReady, IsStarting, Owned, Roles, Keeps, fetchers_in, writers_in, seat_of}
use Rattle.pool_workers.specs.declared.fault.Halt.TheVariants as halts
use Rattle.pool_workers.proofs.Sums.{total_snoc}
use Rattle.pool_workers.proofs.Boarding.{held_push, back_one, back_length, back_same, seats_seated, shown_none, shown_one}
use Rattle.pool_workers.proofs.Halting.{one_of}

-- a halt that is allowed where the gate stops nobody is always allowed
allows_more : (P : Place → Type 0) (h : Halt) → Allows (λ _. ⊥) h → Allows P h
allows_more P (halts.Stopped place) a = absurd a
allows_more P (halts.Refused fault) a = a
allows_more P halts.CountFull a = tt
allows_more P halts.BoardFull a = a
allows_more P halts.Memory a = tt
allows_more P halts.Lost a = tt

some_more : (P : Place → Type 0) (o : Option Halt) → IfSome o (Allows (λ _. ⊥)) → IfSome o (Allows P)
some_more P None a = tt
some_more P (Some h) a = allows_more P h a

-- what a worker keeps for the channels, the board and the gate of its thread, it keeps for those of the run
pub keeps_there : {S L D : Type 0} (may : D → Place → Type 0) (a b : Channels S) (y z : D) (o p : Option Board) (given r : Worker S L) → a ≡ b → y ≡ z → o ≡ p → Keeps a o (may y) given r → Keeps b p (may z) given r
keeps_there may a b y z o p given r e f h k =
    subst (λ c. Keeps c p (may z) given r) e (subst (λ d. Keeps a p (may d) given r) f (subst (λ q. Keeps a q (may y) given r) h k))

-- the same numbers and seats, written in another way
pub recount : (P : ℕ → ℕ → List BoardSeat → Type 0) (m n k j : ℕ) (l r : List BoardSeat) → m ≡ k → n ≡ j → l ≡ r → P m n l → P k j r
recount P m n k j l r e f h p = subst (λ x. P x j r) e (subst (λ x. P m x r) f (subst (λ x. P m n x) h p))

module _ {S L : Type 0} {channels : Channels S} {board : Option Board} {may : Place → Type 0} {workers : ℕ} {given : List BoardSeat} where
  -- a fetcher's parts come back
  pub takes_fetcher : {fetchers writers : ℕ} {held : List BoardSeat} {r : Rest S L} (t : Rest S L) (o : Option Halt) → HasRest channels board may workers given (fetchers + 1) writers held r
      → IsSeatAt (sends_on channels.to_fetchers) t.windows → (view t.windows).parts ≡ (view r.windows).parts + 1
      → IsSeatAt (sends_on channels.to_writers) t.parcels → (view t.parcels).parts ≡ (view r.parcels).parts + 1 → (view t.parcels).got ≡ (view r.parcels).got
      → FetchedKnows (view t.windows) (view t.parcels) t.fetched → IfSome t.fetched.stopped (IsOneOf r.fetched.stopped o) → IfSome o (Allows may)
      → vec_len t.fetched.counts ≡ vec_len r.fetched.counts + 1 → vec_capacity t.fetched.counts ≡ vec_capacity r.fetched.counts
      → HasRest channels board may workers given fetchers writers held (record r { windows = t.windows; parcels = t.parcels; fetched = t.fetched })
  takes_fetcher {fetchers} {writers} {held} {r} t o h window_seat windows parcel_seat parcels got knows told allowed more same =
      record {
        window_seat = window_seat;
        window_parts = (omega (arith, windows), omega (arith, windows, h.window_parts.1));
        parcel_seat = parcel_seat;
        parcel_parts = (omega (arith, parcels), omega (arith, parcels, h.parcel_parts.1));
        all = h.all;
        counts = omega (arith, more, same, h.counts);
        tells = (knows, λ none. let k = h.tells.1 none in (k.0 ∙ ap amounts (sym got), k.1 ∙ ap (length {A = ℕ × ℕ}) (sym got)));
        halted = (one_of (Allows may) t.fetched.stopped r.fetched.stopped o tt told h.halted.0 allowed, h.halted.1);
        back = h.back;
        shown = h.shown;
        room = h.room;
      }

  -- a writer's parts and its seat come back
  pub takes_writer : {fetchers writers : ℕ} {r : Rest S L} (held : List BoardSeat) (seat : Option BoardSeat) (one : Writer S L) (t : Rest S L) → HasRest channels board may workers given fetchers (writers + 1) (option_to_list seat ++ held) r
      → IsSeatAt (sends_on channels.to_writers) t.parcels → (view t.parcels).parts ≡ (view r.parcels).parts + 1 → (view t.parcels).sent ≡ (view r.parcels).sent
      → t.all.parts ≡ r.all.parts + 1 → t.all.amount ≡ r.all.amount + one.share.amount → WrittenKnows (view t.parcels) t.all.amount t.written
      → IfSome t.written.stopped (IsOneOf r.written.stopped one.stopped) → (t.written.stopped ≡ None → (r.written.stopped ≡ None) × (one.stopped ≡ None)) → IfSome one.stopped (AllowsOn (MayFill board) may)
      → WriterShows board seat one → t.seats.items ≡ r.seats.items ++ option_to_list one.seat → vec_capacity t.seats ≡ vec_capacity r.seats
      → HasRest channels board may workers given fetchers writers held (record r { parcels = t.parcels; all = t.all; written = t.written; seats = t.seats })
  takes_writer {fetchers} {writers} {r} held seat one t h parcel_seat parcels sent parts amount knows told free allowed shows is capacity =
      let gs = option_to_list seat in
      let ts = option_to_list one.seat in
      let back : AreBack board given (t.seats.items ++ held) = subst (λ l. AreBack board given (l ++ held)) (sym is) (back_one board given r.seats.items gs ts held h.back shows.0) in
      record {
        window_seat = h.window_seat;
        window_parts = h.window_parts;
        parcel_seat = parcel_seat;
        parcel_parts = (omega (arith, parcels), omega (arith, parcels, h.parcel_parts.1));
        all = omega (arith, parts, h.all);
        counts = h.counts;
        tells = (λ none. let k = h.tells.0 none in (k.0 ∙ ap amounts (sym sent), k.1 ∙ ap (length {A = ℕ × ℕ}) (sym sent), k.2 ∙ ap names (sym sent)), knows);
        halted = (h.halted.0, one_of (AllowsOn (MayFill board) may) t.written.stopped r.written.stopped one.stopped tt told h.halted.1 allowed);
        back = back;
        shown =
            subst (λ l. HaveShown board t.all.amount t.written.stopped given (l ++ held)) (sym is)
            (subst (λ n. HaveShown board n t.written.stopped given (r.seats.items ++ ts ++ held)) (sym amount)
            (shown_one board r.all.amount one.share.amount r.written.stopped one.stopped t.written.stopped given r.seats.items gs ts held h.shown shows.1 free));
        room = omega (arith, back_length board given (t.seats.items ++ held) back, back_length board given (r.seats.items ++ (gs ++ held)) h.back, h.room, capacity);
      }

  -- a worker keeps its roles
  pub keeps_roles : (fetchers writers : ℕ) {held : List BoardSeat} {t : Rest S L} {w r : Worker S L} → Keeps channels board may w r → HasRest channels board may workers given (fetchers + fetchers_in w) (writers + writers_in w) held t
      → HasRest channels board may workers given (fetchers + fetchers_in r) (writers + writers_in r) held t
  keeps_roles fetchers writers {held} {t} k h =
      recount (λ m n l. HasRest channels board may workers given m n l t) _ _ _ _ _ _ (ap (λ n. fetchers + n) (sym k.fetchers)) (ap (λ n. writers + n) (sym k.writers)) refl h

  -- end messages change nothing
  pub tells_ends : {fetchers writers : ℕ} {held : List BoardSeat} {r : Rest S L} (t : Rest S L) → HasRest channels board may workers given fetchers writers held r → IsSeatAt (sends_on channels.to_fetchers) t.windows × (view t.windows ≡ view r.windows)
      → IsSeatAt (sends_on channels.to_writers) t.parcels × (view t.parcels ≡ view r.parcels)
      → HasRest channels board may workers given fetchers writers held (record r { windows = t.windows; parcels = t.parcels })
  tells_ends {fetchers} {writers} {held} {r} t h windows parcels = record {
    window_seat = windows.0;
    window_parts = subst (λ (v : WindowView). (0 < v.parts) × (v.parts + fetchers ≡ 1024)) (sym windows.1) h.window_parts;
    parcel_seat = parcels.0;
    parcel_parts = subst (λ (v : ParcelView). (0 < v.parts) × (v.parts + (fetchers + writers) ≡ 1024)) (sym parcels.1) h.parcel_parts;
    all = h.all;
    counts = h.counts;
    tells =
        subst (λ (v : WindowView). FetchedKnows v (view t.parcels) r.fetched × WrittenKnows (view t.parcels) r.all.amount r.written) (sym windows.1)
        (subst (λ (v : ParcelView). FetchedKnows (view r.windows) v r.fetched × WrittenKnows v r.all.amount r.written) (sym parcels.1) h.tells);
    halted = h.halted;
    back = h.back;
    shown = h.shown;
    room = h.room;
  }

  -- the caller's thread has read windows
  pub reads : {fetchers writers : ℕ} {held : List BoardSeat} {r : Rest S L} (t : Rest S L) → HasRest channels board may workers given fetchers writers held r → view r.windows ≡ window_view (view r.windows).parts 1 0 []
      → IsSeatAt (sends_on channels.to_fetchers) t.windows → (n : ℕ) × (view t.windows ≡ window_view (view r.windows).parts 1 n [])
      → HasRest channels board may workers given fetchers writers held (record r { windows = t.windows })
  reads {fetchers} {writers} {held} {r} t h unread seat windows =
      let parts = ap (λ (v : WindowView). v.parts) windows.1 in
      let taken = ap (λ (v : WindowView). v.taken) windows.1 in
      let none = ap (λ (v : WindowView). v.taken) unread in
      record {
        window_seat = seat;
        window_parts = (omega (arith, parts, h.window_parts.0), omega (arith, parts, h.window_parts.1));
        parcel_seat = h.parcel_seat;
        parcel_parts = h.parcel_parts;
        all = h.all;
        counts = h.counts;
        tells = (λ free. let k = h.tells.0 free in (k.0, k.1, taken ∙ sym none ∙ k.2), h.tells.1);
        halted = h.halted;
        back = h.back;
        shown = h.shown;
        room = h.room;
      }

  -- no worker runs any more
  pub ended_all : {r : Rest S L} (read : Option Halt) → IfSome read (Allows (λ _. ⊥)) → HasRest channels board may workers given 0 0 [] r
      → HaveEnded channels board may workers given (Some (record { windows = r.windows; parcels = r.parcels; all = r.all; read = read; fetched = r.fetched; written = r.written })) r.seats.items
  ended_all {r} read free h = record {
    window_seat = h.window_seat;
    parcel_seat = h.parcel_seat;
    whole = (omega (arith, h.window_parts.1), omega (arith, h.parcel_parts.1), omega (arith, h.all));
    tells = h.tells;
    halted = (some_more may read free, h.halted.0, h.halted.1);
    back = subst (AreBack board given) (append-nil r.seats.items) h.back;
    shown = subst (HaveShown board r.all.amount r.written.stopped given) (append-nil r.seats.items) h.shown;
  }

  pub ended_early : {r : Rest S L} → HasRest channels board may workers given 0 0 [] r → HaveEnded {S = S} {L = L} channels board may workers given None r.seats.items
  ended_early {r} h = record {
    window_seat = tt;
    parcel_seat = tt;
    whole = tt;
    tells = tt;
    halted = tt;
    back = subst (AreBack board given) (append-nil r.seats.items) h.back;
    shown = tt;
  }

-- no worker has started yet
pub starts_empty : {S L : Type 0} (channels : Channels S) (board : Option Board) (may : Place → Type 0) (roles : Roles) (o : Owned S L) → IsReady channels board roles.workers o → vec_len o.counts ≡ 0 → length o.seats.items ≤ vec_capacity o.seats
    → IsStarting channels board may roles o.seats.items 0 0 0 [] (record { windows = o.windows; parcels = o.parcels; all = o.all; fetched = record { counts = o.counts; sent = 0; stopped = None }; written = record { got = 0; stopped = None }; seats = o.seats })
starts_empty channels board may roles o h none limit =
    let w = ap (λ (v : WindowView). v.parts) h.windows.1 in
    let taken = ap (λ (v : WindowView). v.taken) h.windows.1 in
    let p = ap (λ (v : ParcelView). v.parts) h.parcels.1 in
    let sent = ap (λ (v : ParcelView). v.sent) h.parcels.1 in
    let got = ap (λ (v : ParcelView). v.got) h.parcels.1 in
    let same = append-nil o.seats.items in
    let long = ap (length {A = BoardSeat}) same in
    let settled = h.all.1 in
    record {
      rest = record {
        window_seat = h.windows.0;
        window_parts = (omega (arith, w), omega (arith, w));
        parcel_seat = h.parcels.0;
        parcel_parts = (omega (arith, p), omega (arith, p));
        all = omega (arith, h.all.0);
        counts = omega (arith, none, h.counts.1);
        tells = (λ _. (ap sum h.counts.0 ∙ ap amounts (sym sent), ap (length {A = ℕ × ℕ}) (sym sent), taken ∙ ap names (sym sent)), λ _. (settled ∙ ap amounts (sym got), ap (length {A = ℕ × ℕ}) (sym got)));
        halted = (tt, tt);
        back = subst (AreBack board o.seats.items) (sym same) (back_same board o.seats.items (seats_seated board 0 roles.workers o.seats.items h.seats));
        shown = subst (HaveShown board o.all.amount None o.seats.items) (sym same) (subst (λ n. HaveShown board n None o.seats.items o.seats.items) (sym settled) (shown_none board o.seats.items));
        room = omega (arith, long, limit);
      };
      few_fetchers = omega arith;
      few_writers = omega arith;
      seated = h.seats;
      unread = h.windows.1 ∙ ap (λ n. window_view n 1 0 []) (sym w);
      unsettled = settled;
      uncounted = (none, h.counts.1);
    }

-- ---- what the workers of a list have

module _ {S L X : Type 0} (worker : X → Worker S L) (P : ℕ → ℕ → List BoardSeat → Type 0) where
  abbrev Over : List X → Type 0
  Over xs = P (total (λ y. fetchers_in (worker y)) xs) (total (λ y. writers_in (worker y)) xs) (held (λ y. seat_of (worker y)) xs)

  -- one more worker has started
  pub starts_last : (xs ys : List X) (x : X) → ys ≡ xs ++ x ∷ []
      → P (total (λ y. fetchers_in (worker y)) xs + fetchers_in (worker x)) (total (λ y. writers_in (worker y)) xs + writers_in (worker x)) (option_to_list (seat_of (worker x)) ++ held (λ y. seat_of (worker y)) xs) → Over ys
  starts_last xs ys x is p =
      subst Over (sym is)
      (recount P _ _ _ _ _ _ (sym (total_snoc (λ y. fetchers_in (worker y)) xs x)) (sym (total_snoc (λ y. writers_in (worker y)) xs x)) (sym (held_push (λ y. seat_of (worker y)) xs x)) p)

  -- the last worker, which is r now, has ended
  pub ends_last : (xs ys : List X) (x : X) (r : Worker S L) → xs ≡ ys ++ x ∷ [] → fetchers_in r ≡ fetchers_in (worker x) → writers_in r ≡ writers_in (worker x) → Over xs
      → P (total (λ y. fetchers_in (worker y)) ys + fetchers_in r) (total (λ y. writers_in (worker y)) ys + writers_in r) (option_to_list (seat_of (worker x)) ++ held (λ y. seat_of (worker y)) ys)
  ends_last xs ys x r is f w p =
      recount P _ _ _ _ _ _ (total_snoc (λ y. fetchers_in (worker y)) ys x ∙ ap (λ m. total (λ y. fetchers_in (worker y)) ys + m) (sym f)) (total_snoc (λ y. writers_in (worker y)) ys x ∙ ap (λ m. total (λ y. writers_in (worker y)) ys + m) (sym w)) (held_push (λ y. seat_of (worker y)) ys x)
      (subst Over is p)

  pub none_left : (xs : List X) → xs ≡ [] → Over xs → P 0 0 []
  none_left xs none p = subst Over none p
