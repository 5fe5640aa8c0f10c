-- Defines the command `audit`, as specified in docs/PROFILE.md, "Command lines" and "Answers".
use Rattle.std.specs.Prelude.{◌≡◌, ℕ, List, [], ◌∷◌, ◌++◌, codes, decimal, Option, Some, None, Result, Ok, Err, option_map}
use Rattle.serde_json.specs.Data.{Data}
use Rattle.json_values.specs.LineView.{line_items}
use Rattle.rev_core.specs.Text.{rev_text}
use Rattle.doc_json.specs.Chosen.{Choice}
use Rattle.repl_peer.specs.peer.Covered.{Leaf}
use Rattle.repl_peer.specs.peer.Peer.{PeerValue}
use Rattle.repl_target.specs.Audit.{audit_answer}
use Rattle.repl_target.specs.ties.Ties.{IsTiedPair}
use Rattle.script_engine.specs.Serving.{Told, Answering}
use Rattle.script_databases.specs.Databases.{State, peer_at}
use Rattle.script_databases.specs.declared.refusal.Refusal.{Refusal}
use Rattle.rev_core.specs.Checks.{◌>>=◌}
use Rattle.command_api.specs.Checks.{needed}
use Rattle.command_api.specs.Given.{choice_given}
use Rattle.command_api.specs.Members.{as_texts, name_at, optional, texts_of, if_only}
use Rattle.command_api.specs.Telling.{database_of, Reads}
use Rattle.command_api.specs.Texts.{ended, quoted}
use Rattle.read_commands.specs.declared.audit.Audit.{Audit}

-- ---- its parameters

-- The parameters of `audit`. For a selection of documents, `audit` checks that the target covers every leaf that the
-- common checkpoint claims.
pub record AuditAsk : Type 0 where
  pub source : List ℕ
  pub target : List ℕ
  pub doc_ids : Option (List (List ℕ))

abbrev pub audit_asked : Audit → AuditAsk
audit_asked ask = record {
  source = ask.source.now;
  target = ask.target.now;
  doc_ids = option_map (λ v. texts_of (line_items v.now)) ask.doc_ids;
}

abbrev pub audit_in : Data → Result AuditAsk Refusal
audit_in d = do
  source ← needed (name_at (codes "source") d)
  target ← needed (name_at (codes "target") d)
  doc_ids ← needed (optional as_texts (codes "doc_ids") d)
  needed (if_only (codes "do" ∷ codes "source" ∷ codes "target" ∷ codes "doc_ids" ∷ []) d
      (record { source = source; target = target; doc_ids = doc_ids }))

-- ---- its output

-- The line that `audit` prints for a leaf that is not covered, with the leaf's sequence.
abbrev pub hole_line : Leaf → List ℕ
hole_line leaf =
    ended (codes "hole " ++ decimal leaf.seq ++ codes " " ++ quoted leaf.id ++ codes " " ++ rev_text leaf.rev)

abbrev pub audit_text : Option Leaf → List ℕ
audit_text None = codes "clean\n"
audit_text (Some leaf) = hole_line leaf

-- ---- its result

abbrev pub audit_told : State → AuditAsk → Result (List ℕ) Refusal
audit_told s ask = do
  source ← database_of s ask.source
  target ← database_of s ask.target
  chosen ← choice_given ask.doc_ids
  Ok (audit_text (audit_answer source target chosen))

-- If the two peers of an `audit` line are consistent, the audit finds no uncovered leaf.
abbrev pub FindsNone : State → AuditAsk → Type 0
FindsNone s ask =
    (p q : PeerValue) (chosen : Choice) → peer_at s ask.source ≡ Some p → peer_at s ask.target ≡ Some q
    → choice_given ask.doc_ids ≡ Ok chosen → IsTiedPair p q chosen → audit_answer p q chosen ≡ None

abbrev pub Audits : Answering State AuditAsk
Audits old ask told new = Reads (audit_told old ask) old told new × FindsNone old ask

-- ---- The guarantee of `audit`, as specified in docs/PROFILE.md, "Tied databases"

-- An `audit` line prints `clean`, or fails with an error.
abbrev pub IsClean : Told → Type 0
IsClean (Ok text) = text ≡ codes "clean\n"
IsClean (Err name) = Unit {0}
