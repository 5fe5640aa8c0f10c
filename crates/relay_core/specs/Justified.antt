-- Defines when the relay may request a server to record a sequence in the server's log. The history of a run is the
-- list of the run's exchanges (a request and its response), newest exchange first.
use Rattle.std.specs.Prelude.{ℕ, ◌≡◌, ◌+◌, ◌-◌, ◌^◌, ◌≤◌, ◌==◌, codes, Bool, true, false, ◌&&◌, ◌||◌, not, if◌then◌else◌, List, [], ◌∷◌, ◌++◌, Option, None, Some, min, bytes_eq}
use Rattle.std.specs.List.{list_any}
use Rattle.relay_core.specs.declared.messages.Side.{Side}
use Rattle.relay_core.specs.declared.messages.Side.TheVariants.{Source, Target}
use Rattle.relay_core.specs.Messages.{Text, DocView, PageView, EntryView, LogView, RequestView, get_log, get_changes, revs_diff, carry_docs, put_log, tell, done, ResponseView, log_response, page_response, missing_response, row_errors_response, rejected_response, stored_response, Exchange, exchange_of}
use Rattle.relay_core.specs.Leaves.{names, are_distinct, leaf_count, docs_where, refuses, is_alone}

-- ---- what settles a leaf

-- Whether the target's response to a `_revs_diff` request shows that the target has the given leaf. A leaf is found if
-- the documents of the `_revs_diff` request have distinct ids, the request names the leaf, and the response does not
-- name the leaf as missing.
abbrev pub finds : RequestView → ResponseView → Text → Text → Bool
finds (revs_diff docs) (missing_response missing) id leaf = are_distinct docs && (names docs id leaf && not (names missing id leaf))
finds q r id leaf = false

-- Whether the target rejected a request as too large, that is, with status 413.
abbrev pub is_too_large : Side → ℕ → Bool
is_too_large Target status = status == 413
is_too_large Source status = false

-- Whether a response to a `carry` request refuses the given leaf. A `carry` request transfers documents to the target.
-- If the target rejects the request as too large, the response refuses the leaf exactly if the leaf's document is the
-- only document of the request.
abbrev pub rejects : RequestView → ResponseView → Text → Text → Bool
rejects (carry_docs docs) (row_errors_response rows) id leaf = refuses rows id leaf
rejects (carry_docs docs) (rejected_response side status words) id leaf = is_too_large side status && is_alone docs id
rejects q r id leaf = false

abbrev pub is_found : List Exchange → Text → Text → Bool
is_found h id leaf = list_any (λ e. finds e.request e.response id leaf) h

abbrev pub is_rejected : List Exchange → Text → Text → Bool
is_rejected h id leaf = list_any (λ e. rejects e.request e.response id leaf) h

-- The target has, or has refused, each leaf of a page's rows.
abbrev pub AreSettled : List Exchange → List DocView → Type 0
AreSettled h rows = (id leaf : Text) → names rows id leaf ≡ true → (is_found h id leaf || is_rejected h id leaf) ≡ true

-- Those leaves of a page's rows for which no response shows that the target has them (`is_found`).
abbrev pub not_found : List Exchange → List DocView → List DocView
not_found h rows = docs_where (λ id leaf. not (is_found h id leaf)) rows

-- ---- the replication logs

-- The replication log that a response contains, if it contains one.
abbrev pub log_in : ResponseView → Option LogView
log_in (log_response log) = Some log
log_in r = None

-- The log that the server `side` (the source or the target) has returned last, up to and including an exchange. The
-- parameter `before` is the log that the server had last returned before the exchange.
abbrev pub log_after : Side → RequestView → ResponseView → Option LogView → Option LogView
log_after Source (get_log Source) r before = log_in r
log_after Target (get_log Target) r before = log_in r
log_after side q r before = before

-- The log in the last response of the server `side` to a request for its log. The result is `None` if the server never
-- responded to a request for its log, or if its last response to such a request has no log.
abbrev pub last_log : Side → List Exchange → Option LogView
last_log side [] = None
last_log side (e ∷ h) = log_after side e.request e.response (last_log side h)

-- Whether one of a log's entries has the given session and sequence.
abbrev pub has_pair : List EntryView → Text → Text → Bool
has_pair entries session seq = list_any (λ e. bytes_eq e.session session && bytes_eq e.seq seq) entries

-- The session and sequence of the first entry of the target's log that is also in the source's log.
abbrev pub newest_common : List EntryView → List EntryView → Option (Text × Text)
newest_common [] source = None
newest_common (e ∷ target) source = if has_pair source e.session e.seq then Some (e.session, e.seq) else newest_common target source

-- The sequence at which a window begins. The optional argument has the session and the sequence of the newest common
-- entry of the two replication logs. The sequence is 0 if the logs have no common entry.
abbrev pub seq_of : Option (Text × Text) → Text
seq_of None = codes "0"
seq_of (Some pair) = pair.1

-- ---- progress of a run

-- The relay has read consecutive pages of changes from the sequence `begin` to the sequence s. For each leaf of a page,
-- a later response showed that the target has the leaf, or refused the leaf. The number n counts the refused leaves of
-- the pages. A leaf is not counted if a response during the page's transfer (`after`) showed that the target has the
-- leaf.
pub data Reached : Text → List Exchange → Text → ℕ → Type 0 where
  begun : {begin : Text} {h : List Exchange} {s : Text} {n : ℕ} → begin ≡ s → n ≡ 0 → Reached begin h s n
  paged : {begin : Text} {h : List Exchange} {s : Text} {n : ℕ} (before after rest : List Exchange) (since : Text) (wait : Option ℕ) (page : PageView) (m : ℕ) → h ≡ rest ++ (after ++ exchange_of (get_changes since wait) (page_response page) ∷ before) → Reached begin before since m → AreSettled after page.rows → page.last_seq ≡ s → n ≡ m + leaf_count (not_found after page.rows) → Reached begin h s n

-- ---- the theorem

abbrev pub log_of : Side → LogView → LogView → LogView
log_of Target target source = target
log_of Source target source = source

-- The run processed the pages of changes up to the sequence s. The first page begins at the sequence of the newest
-- entry that the logs `target` and `source` share. After processing the pages up to s, the run read the replication
-- logs of the source and the target.
pub record AreReady (h : List Exchange) (target source : LogView) (s : Text) (failures : ℕ) : Type 0 where
  pub before : List Exchange
  pub later : List Exchange
  pub is : h ≡ later ++ before
  pub target_is : last_log Target later ≡ Some target
  pub source_is : last_log Source later ≡ Some source
  pub rejected : ℕ
  pub reached : Reached (seq_of (newest_common target.history source.history)) before s rejected
  pub counted : min rejected (2 ^ 64 - 1) ≤ failures

-- The relay has processed the pages of changes up to the sequence s. The relay must not ask a server to record the
-- sequence s before the relay has processed the pages up to s. The history of a written log is the new entry, followed
-- by the history of the log that was last read.
pub record IsReady (h : List Exchange) (side : Side) (log : LogView) (s : Text) (failures : ℕ) : Type 0 where
  pub target : LogView
  pub source : LogView
  pub ready : AreReady h target source s failures
  pub own : log ≡ log_of side target source

-- In the exchange of the request q and the response r, the target stored its log and recorded the sequence s. If q is
-- the request `tell`, which only prints a message, the statement `before` about the earlier exchanges is required
-- instead.
abbrev pub IsStoring : RequestView → ResponseView → Text → Type 0 → Type 0
IsStoring (put_log Target log checkpoint) stored_response s before = checkpoint.seq ≡ s
IsStoring (tell notice) r s before = before
IsStoring q r s before = ⊥

-- In the last exchange that does not just print a message (`tell`), the target stored its log with the recorded
-- sequence s.
abbrev pub IsStored : List Exchange → Text → Type 0
IsStored [] s = ⊥
IsStored (e ∷ h) s = IsStoring e.request e.response s (IsStored h s)

-- The relay requests the source to record a sequence in the source's log only if the target has just stored its log
-- with this sequence (`IsStored`).
abbrev pub IsInOrder : List Exchange → Side → Text → Type 0
IsInOrder h Target s = Unit {0}
IsInOrder h Source s = IsStored h s

abbrev pub MayAsk : List Exchange → RequestView → Type 0
MayAsk h (get_log side) = Unit {0}
MayAsk h (get_changes since wait) = Unit {0}
MayAsk h (revs_diff docs) = Unit {0}
MayAsk h (carry_docs docs) = Unit {0}
MayAsk h (put_log side log checkpoint) = IsReady h side log checkpoint.seq checkpoint.counts.doc_write_failures × IsInOrder h side checkpoint.seq
MayAsk h (tell notice) = Unit {0}
MayAsk h (done fault counts recorded) = Unit {0}

-- Each request of the relay's history was allowed when it was sent.
abbrev pub IsJustified : List Exchange → Type 0
IsJustified [] = Unit {0}
IsJustified (e ∷ h) = MayAsk h e.request × IsJustified h
