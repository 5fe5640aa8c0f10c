-- Defines an encoding of peers as data, by which proofs decide whether two peers are equal.
use Rattle.std.specs.Prelude.{◌≡◌, ◌⊎◌, ℕ, List, Option, refl}
use Rattle.std.specs.Coded.{Coded, code_by, coded×, coded⊎, coded_ℕ, coded_list, coded_option}
use mathlib.Core.Logic.{inl, inr}
use base.Stored.{coded_unit}
use Rattle.rev_core.specs.Rev.{RevId}
use Rattle.rev_core.specs.RevOrder.{coded_rev}
use Rattle.rev_tree.specs.declared.origin.SessionId.{SessionId}
use Rattle.rev_tree.specs.Tree.{coded_session_id}
use Rattle.doc_json.specs.Document.{Document, coded_doc}
use Rattle.couch_base.specs.Database.{Id, DatabaseValue, coded_id, coded_database}
use Rattle.couch_base.specs.Feed.{WindowValue, coded_window}
use Rattle.range_front.specs.Front.{FrontValue, coded_front}
use Rattle.repl_log.specs.declared.replication.RepId.{RepId}
use Rattle.repl_log.specs.Counts.{coded_counts}
use Rattle.repl_log.specs.Entry.{EntryValue, coded_entry}
use Rattle.repl_log.specs.declared.counts.Counts.{Counts}
use Rattle.repl_log.specs.Text.{coded_rep}
use Rattle.repl_peer.specs.peer.Peer.{PeerValue, SessionValue, WrittenValue, RefusedValue}
use Rattle.repl_peer.specs.peer.Backups.{BackupValue}
use Rattle.repl_peer.specs.declared.fault.Reason.{Reason}
use Rattle.repl_peer.specs.declared.fault.Reason.TheVariants.{Filtered, Contradicting}
use Rattle.repl_peer.specs.declared.session.beginning.Scope.{Scope}

-- ---- documents and reasons

abbrev pub coded_written : Coded WrittenValue
coded_written =
    code_by (Id × List RevId) (coded× coded_id (coded_list coded_rev)) (λ w. (w.id, w.ancestry))
    (λ p. record { id = p.0; ancestry = p.1 }) (λ _. refl)

-- The reason why a document is in a ledger, encoded as data. If the document contradicts the tree, the encoded reason
-- has three revisions: a child, the child's parent in the tree, and the child's parent in the document. If the write
-- filter rejected the document, the reason is encoded as the unit value `tt`.
abbrev reason_parts : Reason → Unit {0} ⊎ (RevId × (RevId × RevId))
reason_parts Filtered = inl tt
reason_parts (Contradicting child known given) = inr (child, (known, given))

abbrev reason_from : Unit {0} ⊎ (RevId × (RevId × RevId)) → Reason
reason_from (inl _) = Filtered
reason_from (inr p) = Contradicting p.0 p.1.0 p.1.1

pub reason_back : (r : Reason) → reason_from (reason_parts r) ≡ r
reason_back Filtered = refl
reason_back (Contradicting child known given) = refl

abbrev pub coded_reason : Coded Reason
coded_reason =
    code_by (Unit {0} ⊎ (RevId × (RevId × RevId))) (coded⊎ coded_unit (coded× coded_rev (coded× coded_rev coded_rev)))
    reason_parts reason_from reason_back

abbrev pub coded_refused : Coded RefusedValue
coded_refused =
    code_by (Document × Reason) (coded× coded_doc coded_reason) (λ x. (x.doc, x.reason))
    (λ p. record { doc = p.0; reason = p.1 }) (λ _. refl)

-- ---- sessions

-- The scope of a session, encoded as data.
abbrev coded_scope : Coded Scope
coded_scope =
    code_by (RepId × (ℕ × (Option SessionId × ℕ)))
    (coded× coded_rep (coded× coded_ℕ (coded× (coded_option coded_session_id) coded_ℕ)))
    (λ c. (c.rep, (c.life, (c.base, c.goal))))
    (λ p. record { rep = p.0; life = p.1.0; base = p.1.1.0; goal = p.1.1.1 }) (λ _. refl)

-- In the encoding of a session, a triple of the type `Windows` has the session's front (which windows are done), the
-- session's windows, and the session's recorded sequence.
abbrev Windows : Type 0
Windows = FrontValue × (List WindowValue × ℕ)

-- In the encoding of a session, a pair of the type `Brought` has the session's arrivals (stored documents) and the
-- session's ledger.
abbrev Brought : Type 0
Brought = List WrittenValue × List RefusedValue

-- The type `Counted` is the part of an encoded session that has the session's counts and the session's two timestamps.
abbrev Counted : Type 0
Counted = Counts × (ℕ × ℕ)

abbrev pub coded_session : Coded SessionValue
coded_session = code_by ((SessionId × Scope) × (Windows × (Brought × Counted)))
    (coded× (coded× coded_session_id coded_scope)
    (coded× (coded× coded_front (coded× (coded_list coded_window) coded_ℕ))
    (coded× (coded× (coded_list coded_written) (coded_list coded_refused))
    (coded× coded_counts (coded× coded_ℕ coded_ℕ)))))
    (λ s. (
      (s.id, s.scope),
      (
        (s.front, (s.windows, s.recorded)),
        ((s.arrivals, s.ledger), (s.counts, (s.start_time, s.end_time))),
      ),
    ))
    (λ p. record {
      id = p.0.0;
      scope = p.0.1;
      front = p.1.0.0;
      windows = p.1.0.1.0;
      recorded = p.1.0.1.1;
      arrivals = p.1.1.0.0;
      ledger = p.1.1.0.1;
      counts = p.1.1.1.0;
      start_time = p.1.1.1.1.0;
      end_time = p.1.1.1.1.1;
    })
    (λ _. refl)

-- ---- peers

abbrev pub coded_peer : Coded PeerValue
coded_peer = code_by (DatabaseValue × (List WrittenValue × (List SessionValue × List (RepId × List EntryValue))))
    (coded× coded_database
    (coded× (coded_list coded_written)
    (coded× (coded_list coded_session) (coded_list (coded× coded_rep (coded_list coded_entry))))))
    (λ p. (p.db, (p.locals, (p.sessions, p.outgoing))))
    (λ q. record { db = q.0; locals = q.1.0; sessions = q.1.1.0; outgoing = q.1.1.1 }) (λ _. refl)

-- ---- backups

abbrev pub coded_backup : Coded BackupValue
coded_backup = code_by (DatabaseValue × (List WrittenValue × List (RepId × List EntryValue)))
    (coded× coded_database
    (coded× (coded_list coded_written) (coded_list (coded× coded_rep (coded_list coded_entry)))))
    (λ b. (b.db, (b.locals, b.outgoing))) (λ q. record { db = q.0; locals = q.1.0; outgoing = q.1.1 }) (λ _. refl)
