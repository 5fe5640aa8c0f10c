-- A lawful peer is trusted.
use Rattle.proof_prelude.proofs.{◌≡◌, Bool, true, ◌&&◌, inl, inr, bytes_eq, or_cases, and_parts, bytes_eq-Decides}
use Rattle.rev_core.specs.{RevId, is_among}
use Rattle.doc_json.specs.Document.{Document}
use Rattle.couch_base.specs.{Id, any_member}
use Rattle.repl_peer.specs.{PeerValue, SessionValue, RefusedValue, in_ledger, covers, LawfulSessions, HasOrigins, IsAccounted, IsTrusted}
use Rattle.repl_peer.proofs.lemmas.peer.HonestSessions.{honest_is, counts_are}

-- what a lawful peer covers is in a tree, or was rightly refused
pub covered_accounted : (refuses : Document → Bool) (p : PeerValue) → LawfulSessions refuses p → (id : Id) (r : RevId) → covers p id r ≡ true → IsAccounted refuses p id r
covered_accounted refuses p l id r c =
    elim (or_cases _ _ c) [
      | inl there ↦ inl there
      | inr refused ↦
          let s = any_member (λ (s : SessionValue). in_ledger s.ledger id r) p.sessions refused in
          let x = any_member (λ (x : RefusedValue). bytes_eq x.doc.id id && is_among r x.doc.ancestry) s.0.ledger s.2 in
          let both = and_parts _ _ x.2 in
          inr (record { by = s.0; held = s.1; refused = x.0; stored = x.1; of = (bytes_eq-Decides x.0.doc.id id).0 both.0; holds = both.1; rightly = (l.sessions s.0 s.1).ledger x.0 x.1 })
    ]

pub trusted_is : (refuses : Document → Bool) (p : PeerValue) → LawfulSessions refuses p → HasOrigins p → IsTrusted refuses p
trusted_is refuses p l origins = record {
  recorded = λ s m w n row k under leaf j. covered_accounted refuses p l row.id leaf (honest_is refuses p l s m w n row k under leaf j);
  origins = origins;
  counts = λ s m. counts_are refuses p l s m;
}
