-- Defines when the databases of a script are consistent with each other, as specified in docs/PROFILE.md, "Tied
-- databases".
use Rattle.std.specs.Prelude.{◌≡◌, ℕ, true, List, Some}
use Rattle.doc_json.specs.Chosen.{Choice, is_chosen}
use Rattle.couch_base.specs.Lists.{Among}
use Rattle.couch_base.specs.Database.{Id, LawfulDatabase}
use Rattle.couch_base.specs.Feed.{RowValue, chosen_feed}
use Rattle.repl_peer.specs.peer.Peer.{PeerValue}
use Rattle.repl_peer.specs.peer.Law.{Lawful}
use Rattle.repl_peer.specs.peer.Trusted.{IsAccounted}
use Rattle.rev_core.specs.Rev.{RevId}
use Rattle.repl_peer.specs.peer.Backups.{BackupValue}
use Rattle.repl_target.specs.Audit.{CoversFeed}
use Rattle.repl_target.specs.replication.Sync.{HasRefusedNone, Meets}
use Rattle.repl_network.specs.Network.{IsNetwork}
use Rattle.script_databases.specs.Databases.{State, NamedBackupValue, peer_at}
use Rattle.script_databases.specs.Replications.{deny_refuses}
use Rattle.script_databases.specs.Stored.{AllDeny, Beside, Entries, IsIndex, state_of}

-- Backup b is stored as a backup of the database with name n.
abbrev pub IsCopyOf : State → List ℕ → BackupValue → Type 0
IsCopyOf s n b = (k : NamedBackupValue) × Among k s.backups × (k.db ≡ n) × (k.backup ≡ b)

-- Each database satisfies the invariant of a peer with the program's filter (`Lawful`).
abbrev pub AreLawful : State → Type 0
AreLawful s =
    (name : List ℕ) (p : PeerValue) → peer_at s name ≡ Some p
    → Lawful (deny_refuses s.program.deny) p × LawfulDatabase p.db

-- The databases of a script are a network whose keys are the names of the databases (`IsNetwork`). For every selection
-- of documents, each database as a source, with its backups, is consistent with each other database as a target. Each
-- database satisfies the invariant of peers (`AreLawful`).
abbrev pub IsConsistent : State → Type 0
IsConsistent s = IsNetwork (peer_at s) (IsCopyOf s) × AreLawful s

-- The invariant of the stored databases. All peers of the stored table have the program's filter, the list `uuids`
-- contains the UUIDs of the databases, and all databases are consistent.
abbrev pub IsStored : Beside → Entries → List ℕ → Type 0
IsStored beside entries uuids =
    AllDeny beside.program.deny entries × IsIndex (peer_at (state_of beside entries)) uuids
    × IsConsistent (state_of beside entries)

-- The update sequence of the database `source` is n, and the database `target` covers the source's selected feed up to
-- n.
abbrev pub CoversUpTo : State → List ℕ → List ℕ → Choice → ℕ → Type 0
CoversUpTo s source target chosen n =
    (p : PeerValue) × (q : PeerValue) × (peer_at s source ≡ Some p) × (peer_at s target ≡ Some q)
    × (n ≡ p.db.update_seq) × CoversFeed p q chosen n

-- The database `target` accounts for each leaf of the source's selected feed up to sequence n (`IsAccounted`, with the
-- program's filter).
abbrev pub AccountsUpTo : State → List ℕ → List ℕ → Choice → ℕ → Type 0
AccountsUpTo s source target chosen n =
    (p : PeerValue) × (q : PeerValue) × (peer_at s source ≡ Some p) × (peer_at s target ≡ Some q)
    × ((row : RowValue) → Among row (chosen_feed chosen p.db 0 n) → (leaf : RevId) → Among leaf row.leaves
    → IsAccounted (deny_refuses s.program.deny) q row.id leaf)

-- The guarantee of replications in both directions between the databases a and b, from state `old` to state `new`. Each
-- document that both selections contain satisfies `Meets`, if both databases satisfy `HasRefusedNone` for the document
-- in state `new`.
abbrev pub MeetsAfter : State → State → List ℕ → List ℕ → Choice → Choice → Type 0
MeetsAfter old new a b there back =
    (p : PeerValue) × (q : PeerValue) × (p' : PeerValue) × (q' : PeerValue)
    × (peer_at old a ≡ Some p) × (peer_at old b ≡ Some q) × (peer_at new a ≡ Some p') × (peer_at new b ≡ Some q')
    × ((id : Id) → HasRefusedNone p' id → HasRefusedNone q' id → is_chosen there id ≡ true → is_chosen back id ≡ true
    → Meets p.db q.db p'.db q'.db id)
