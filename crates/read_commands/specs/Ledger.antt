-- Defines the command `ledger`, as specified in docs/PROFILE.md, "Command lines" and "Answers".
use Rattle.std.specs.Prelude.{ℕ, List, [], ◌∷◌, ◌++◌, codes, decimal, length, Option, Result, Ok, option_map}
use Rattle.std.specs.List.{flat_map}
use Rattle.serde_json.specs.Data.{Data}
use Rattle.rev_core.specs.Ancestry.{head_of}
use Rattle.rev_core.specs.Text.{rev_text}
use Rattle.rev_tree.specs.declared.origin.SessionId.{SessionId}
use Rattle.repl_peer.specs.peer.Peer.{PeerValue, RefusedValue, session_in}
use Rattle.repl_peer.specs.declared.fault.Reason.{Reason}
use Rattle.repl_peer.specs.declared.fault.Reason.TheVariants as reasons
use Rattle.script_engine.specs.Serving.{Answering}
use Rattle.script_databases.specs.Databases.{State}
use Rattle.script_databases.specs.declared.refusal.Refusal.{Refusal}
use Rattle.script_databases.specs.declared.refusal.Refusal.TheVariants as why
use Rattle.rev_core.specs.Checks.{◌>>=◌, or_refused}
use Rattle.command_api.specs.Checks.{needed}
use Rattle.command_api.specs.Members.{as_uuid, name_at, optional, if_only}
use Rattle.command_api.specs.Telling.{database_of, Reads}
use Rattle.command_api.specs.Texts.{ended, quoted, text_of_any}
use Rattle.read_commands.specs.declared.ledger.Ledger.{Ledger}

-- ---- its parameters

-- The parameters of `ledger`, which prints the documents that a target refused in a session. The session id is a UUID
-- as a number.
pub record LedgerAsk : Type 0 where
  pub target : List ℕ
  pub session : ℕ

abbrev pub ledger_asked : Ledger → LedgerAsk
ledger_asked ask = record { target = ask.target.now; session = ask.session }

abbrev pub ledger_in : Data → Result LedgerAsk Refusal
ledger_in d = do
  target ← needed (name_at (codes "target") d)
  given ← needed (optional as_uuid (codes "session") d)
  session ← needed given
  needed (if_only (codes "do" ∷ codes "target" ∷ codes "session" ∷ []) d (record { target = target; session = session }))

-- ---- its output

-- A part of a line of `ledger`: a keyword, a document id and a revision.
abbrev pub rev_part : List ℕ → List ℕ → List ℕ → List ℕ
rev_part word id rev = word ++ codes " " ++ quoted id ++ codes " " ++ rev

-- A part of a line of `ledger`: a revision's parent in the target's tree, and the revision's parent in the ledger's
-- document.
abbrev pub parents_part : List ℕ → List ℕ → List ℕ
parents_part known given = codes " known " ++ known ++ codes " given " ++ given

-- The line that `ledger` prints for a document that the write filter refused. The line has the document's id and newest
-- revision.
abbrev pub denied_line : List ℕ → List ℕ → List ℕ
denied_line id rev = ended (rev_part (codes "denied") id rev)

-- The line that `ledger` prints for a refused document if one of the document's revisions has another parent in the
-- target's tree.
abbrev pub contradicted_line : List ℕ → List ℕ → List ℕ → List ℕ → List ℕ
contradicted_line id rev known given =
    ended (rev_part (codes "contradicted") id rev ++ parents_part known given)

abbrev pub refused_for : Reason → RefusedValue → List ℕ
refused_for reasons.Filtered x = denied_line x.doc.id (text_of_any (head_of x.doc.ancestry))
refused_for (reasons.Contradicting rev known given) x =
    contradicted_line x.doc.id (rev_text rev) (rev_text known) (rev_text given)

abbrev pub refused_line : RefusedValue → List ℕ
refused_line x = refused_for x.reason x

abbrev pub ledger_line : ℕ → List ℕ
ledger_line count = ended (codes "ledger " ++ decimal count)

abbrev pub ledger_text : List RefusedValue → List ℕ
ledger_text rows = flat_map refused_line rows ++ ledger_line (length rows)

-- ---- its result

-- The ledger of a session, if the peer has the session.
abbrev pub ledger_of : PeerValue → ℕ → Option (List RefusedValue)
ledger_of l session = option_map (λ s. s.ledger) (session_in l.sessions (record { 0 = session }))

abbrev pub ledger_told : State → LedgerAsk → Result (List ℕ) Refusal
ledger_told s ask = do
  l ← database_of s ask.target
  rows ← or_refused why.NoSuchSession (ledger_of l ask.session)
  Ok (ledger_text rows)

abbrev pub ListsLedger : Answering State LedgerAsk
ListsLedger old ask told new = Reads (ledger_told old ask) old told new
