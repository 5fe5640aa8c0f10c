-- A failed call changes nothing.
use Rattle.proof_prelude.proofs.{◌≡◌, Bool, cond, List, [], ◌∷◌, Option, Some, None, Result, Ok, Err, is_ok, map, refl, sym, ap, ◌∙◌, inl, inr, cond_both, false≢true, eqb-true}
use Rattle.rev_tree.specs.{SessionId}
use Rattle.doc_json.specs.Document.{Document}
use Rattle.couch_base.specs.{Among, WindowValue}
use Rattle.repl_peer.specs.{PeerValue, SessionValue, is_of, session_in, with_session, on_found, found_answer, append_in, append_answer, with_window, after_append, LawfulSessions, TargetFault}
use Rattle.repl_peer.proofs.lemmas.peer.LaterPeers.{one_session, session_found}

map-same : {X : Type 0} (f : X → X) (xs : List X) → ((x : X) → Among x xs → f x ≡ x) → map f xs ≡ xs
map-same f [] h = refl
map-same f (x ∷ xs) h = λ i. h x (inl refl) i ∷ map-same f xs (λ y m. h y (inr m)) i

-- replacing a session by itself changes nothing
with_session-same : (refuses : Document → Bool) (p : PeerValue) (s : SessionValue) → LawfulSessions refuses p → Among s p.sessions → with_session p.sessions s ≡ p.sessions
with_session-same refuses p s l m =
    map-same (λ (x : SessionValue). cond (is_of s.id x) s x) p.sessions
    (λ x n. cond_both (is_of s.id x) s x (λ y. y ≡ x) (λ e. one_session p.sessions s x l.distinct m n (sym (eqb-true _ _ e))) (λ _. refl))

pub append_refused : (refuses : Document → Bool) (p : PeerValue) (id : SessionId) (w : WindowValue) (why : TargetFault) → LawfulSessions refuses p → append_answer p id w ≡ Err why → after_append p id w ≡ p
append_refused refuses p id w why l h = go (session_in p.sessions id) refl h
  where
    stays : (s : SessionValue) (r : Result (Unit {0}) TargetFault) → r ≡ Err why → with_window w s r ≡ s
    stays s (Ok done) e = absurd (false≢true (sym (ap is_ok e)))
    stays s (Err fault) e = refl

    go : (o : Option SessionValue) → session_in p.sessions id ≡ o → found_answer (append_in w) o ≡ Err why → on_found p (λ s. with_window w s (append_in w s)) o ≡ p
    go None e k = refl
    go (Some s) e k =
        let held = (session_found p.sessions id s e).0 in
        ap (λ t. record p { sessions = with_session p.sessions t }) (stays s (append_in w s) k) ∙ ap (λ ss. record p { sessions = ss }) (with_session-same refuses p s l held)
