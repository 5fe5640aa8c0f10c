-- The claims of a lawful peer's sessions are true.
use Rattle.proof_prelude.proofs.{◌≡◌, ℕ, ◌<◌, ◌≤◌, List, [], ◌∷◌, Bool, true, map, sym, ap, ◌∙◌, subst, inl, inr, arith}
use Rattle.doc_json.specs.Document.{Document}
use Rattle.couch_base.specs.{Among, Rises, RowValue, WindowValue, IsWindow, rises_le, Among-mapped, each_member}
use Rattle.range_front.specs.{is_done, low_water, reached, is_window-is_done}
use Rattle.repl_log.specs.{AddUp}
use Rattle.repl_peer.specs.{PeerValue, SessionValue, Honest, LawfulSession, LawfulSessions}
use Rattle.repl_peer.proofs.lemmas.session.WindowsFollow.{windows-consecutive, window-above, window-stored, one_window}

-- rising numbers are between their bounds
pub rises_member : (lo : ℕ) (ns : List ℕ) (hi n : ℕ) → Rises lo ns hi → Among n ns → (lo < n) × (n ≤ hi)
rises_member lo [] hi n r m = absurd m
rises_member lo (k ∷ ns) hi n r (inl e) = (omega (arith, r.0, e), omega (arith, e, rises_le k ns hi r.1))
rises_member lo (k ∷ ns) hi n r (inr m) = let h = rises_member k ns hi n r.1 m in (omega (arith, r.0, h.0), h.1)

-- a row is inside its window
pub row_within : (w : WindowValue) (row : RowValue) → IsWindow w → Among row w.rows → (w.lo < row.seq) × (row.seq ≤ w.hi)
row_within w row window m = rises_member w.lo (map (λ (r : RowValue). r.seq) w.rows) w.hi row.seq window.rising (Among-mapped (λ (r : RowValue). r.seq) row w.rows m)

-- a window with a sequence at or below the low water is done
pub reached_done : (refuses : Document → Bool) (p : PeerValue) (s : SessionValue) → LawfulSession refuses p s → (w : WindowValue) → Among w s.windows → (n : ℕ) → w.lo < n → n ≤ w.hi → n ≤ low_water s.front → is_done s.front w.lo w.hi ≡ true
reached_done refuses p s l w m n above below under =
    let follows = windows-consecutive s.front s.windows l.bounds l.front in
    let start = (window-above s.front.start s.windows w follows m).0 in
    let at = reached s.front n l.front (omega (arith, start, above)) under in
    let v = window-stored s.front s.windows at.0 at.1 l.bounds (is_window-is_done s.front at.0 at.1 at.4) in
    let same = one_window s.front.start s.windows v.0 w n follows v.1 m (omega (arith, v.2, at.2)) (omega (arith, v.3, at.3)) above below in
    let lo : at.0 ≡ w.lo = sym v.2 ∙ ap (λ (x : WindowValue). x.lo) same in
    let hi : at.1 ≡ w.hi = sym v.3 ∙ ap (λ (x : WindowValue). x.hi) same in
    subst (λ a. is_done s.front a w.hi ≡ true) lo (subst (λ b. is_done s.front at.0 b ≡ true) hi at.4)

-- everything at or below a session's recorded sequence is covered
pub honest_is : (refuses : Document → Bool) (p : PeerValue) → LawfulSessions refuses p → (s : SessionValue) → Among s p.sessions → Honest p s s.recorded
honest_is refuses p l s held w m row n under leaf k =
    let law = l.sessions s held in
    let within = row_within w row (each_member IsWindow w s.windows law.windows m) n in
    law.done w m (reached_done refuses p s law w m row.seq within.0 within.1 (omega (arith, under, law.recorded))) row n leaf k

-- each document that a session has read was written or refused
pub counts_are : (refuses : Document → Bool) (p : PeerValue) → LawfulSessions refuses p → (s : SessionValue) → Among s p.sessions → AddUp s.counts
counts_are refuses p l s held = (l.sessions s held).read
