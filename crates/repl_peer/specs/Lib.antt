pub mod peer
pub mod session
pub mod logs
pub use peer.Backups.{BackupValue, IsBackup, after_restore, backup_answer, copy_of, greater_life, is_target, peer_of, restore_answer, restored}
pub use peer.Backups.{restored_by}
pub use peer.Covered.{CoversWindow, Honest, Leaf, contradiction_of, covers, covers_window, first_uncovered, first_unknown, in_ledger, knows_row}
pub use peer.Covered.{refusal_of, rightly_refused, unknown_in}
pub use peer.Later.{IsLaterPeer, Keeps}
pub use peer.Law.{AllBased, Lawful, LawfulCounts, LawfulSession, LawfulSessions, LawfulStore, session_numbers, window_bounds}
pub use peer.Local.{stood_on, with_edit, with_edited, with_load}
pub use peer.Noted.{noted_writes}
pub use peer.Origins.{ComesFrom, HasOrigins}
pub use peer.Peer.{PeerValue, RefusedValue, SessionValue, WrittenValue, entry_of, holds, is_of, new_peer, new_peer_at, session_in, with_session}
pub use peer.Peer.{written_of}
pub use peer.Rules.{rules_refuse}
pub use peer.Stands.{Follows, StandsIn}
pub use peer.Stored.{AreCounted, IsStoredBackup, IsStoredPeer}
pub use peer.Trusted.{IsAccounted, IsTrusted}
pub use peer.Writing.{after_edit, after_load, load_edited, next_local}
pub use session.LedgerIndex.{is_ledgered}
pub use session.PackedIds.{AreEnds, ends_from, ids_from}
pub use session.ReadCounts.{read_in, read_of, taken}
pub use session.RepIndex.{listed}
pub use session.SessionCalls.{begin_in, changed, in_ledgers, recorded_by, recorded_of, with_changed}
pub use session.Sessions.{GivesUnlessMemory, after_append, after_begin, after_conclude, after_record, append_answer, append_in, base_answer, base_in}
pub use session.Sessions.{begin_answer, begun, conclude_answer, conclude_in, found_answer, goal_answer, new_session, next_in, on_base, on_found}
pub use session.Sessions.{on_session, record_answer, recorded_at, report_of, session_answer, start_answer, with_window}
pub use session.Settling.{Halts, SettleGives, Settles, SettlesAt, Settling, after_all, after_documents, after_front, after_settle, after_stop}
pub use session.Settling.{asked_count, fed, has_room, has_row, is_full, is_uncovered, leaf_count, marked, seq_in, settle_as, settle_at, settle_check}
pub use session.Settling.{settle_docs, settle_one, settled_at, settled_before, settling_of, stopped_at, stops_as, stops_at, stops_in, window_in}
pub use session.Settling.{with_arrival, with_checked, with_done, with_refused, with_settling}
pub use session.SettlingParts.{Consecutive, HasDocuments, IndexesMore, IsIndexedWith, IsRowOf, IsSameIndex, IsWindowAt, KeepsIndexed, Marks, PartsGive}
pub use session.SettlingParts.{PartsSettle, PartsSettled, Passes, Reached, ReachedAll, Steps, cause_at, known_of, settling_at, with_mark, with_parts}
pub use session.Stored.{session_value}
pub use session.StoredSessions.{AreListed, Indexes, IsTableOf, ids_of, sessions_of}
pub use session.Windows.{IsThinnedWhereDone, IsThinner, StoredWindowValue, windows_of}
pub use logs.Checkpoint.{rep_between}
pub use logs.Logs.{after_put_entry, as_log_answers, log_of, put_by, put_entry_answer, source_log, target_log}
pub use declared.fault.Cause.{Cause}
pub use declared.fault.Reason.{Reason}
pub use declared.fault.Report.{Report}
pub use declared.fault.Settled.{Settled}
pub use declared.fault.TargetFault.{TargetFault}
pub use declared.peer.filter.Rules.{Rules}
pub use declared.session.beginning.Beginning.{Beginning}
pub use declared.session.beginning.Scope.{Scope}
pub use declared.session.ledger_index.LedgerIndex.{LedgerIndex}
pub use declared.session.rep_index.RepIndex.{RepIndex}
