-- Defines the values by which contracts describe the stored databases of a script.
use Rattle.std.specs.Prelude.{◌≡◌, ℕ, true, cond, List, map, nat_eq, Option, Some, option_map, String, string_bytes}
use Rattle.std.specs.declared.alloc.Global.{Global}
use Rattle.std.specs.FinMap as finmap
use Rattle.std.specs.FinMap.{FinMap}
use Rattle.std.specs.List.{list_any}
use Rattle.std.specs.Map.{lookup}
use Rattle.std.specs.Str.{bytes_eq}
use Rattle.repl_peer.specs.peer.Backups.{BackupValue}
use Rattle.repl_peer.specs.peer.Peer.{PeerValue}
use Rattle.repl_peer.specs.declared.peer.filter.Rules.{Rules}
use Rattle.repl_network.specs.Network.{IsHeldBy}
use Rattle.script_databases.specs.Databases.{Program, State, NamedBackupValue, text_cmp}
use Rattle.script_databases.specs.declared.backups.BackupName.{BackupName}
use Rattle.script_databases.specs.declared.settings.Settings.{Settings}

-- The entries of the stored table of databases: for each name, the filter and the peer.
abbrev pub Entries : Type 0
Entries = List (String Global × (Rules × PeerValue))

-- The peers in the stored table of a script's databases, by the databases' names.
abbrev pub peers_of : Entries → FinMap text_cmp PeerValue
peers_of entries = finmap.from_entries (map (λ e. (string_bytes e.0, e.1.1)) entries)

-- The filter and the peer with the given name in a stored table, or `None` if the table does not have this name.
abbrev pub entry_at : Entries → List ℕ → Option (Rules × PeerValue)
entry_at entries name = lookup (λ k. bytes_eq name (string_bytes k)) entries

-- All parts of a script's state except the peers.
pub record Beside : Type 0 where
  pub program : Program
  pub drawn : ℕ
  pub backups : List NamedBackupValue

abbrev pub state_of : Beside → Entries → State
state_of beside entries =
    record { program = beside.program; drawn = beside.drawn; backups = beside.backups; peers = peers_of entries }

-- The id prefix that a filter refuses, or `None` if the filter has no prefix.
abbrev pub deny_of : Rules → Option (List ℕ)
deny_of rules = option_map string_bytes rules.deny

-- All peers of a table refuse the id prefix `deny`, or no prefix if `deny` is `None`.
abbrev pub AllDeny : Option (List ℕ) → Entries → Type 0
AllDeny deny entries =
    (name : List ℕ) (p : Rules × PeerValue) → entry_at entries name ≡ Some p → deny_of p.0 ≡ deny

-- The table `new` equals the table `old`, except that `new` has p under the name a.
abbrev pub IsWithOne : Entries → List ℕ → Rules × PeerValue → Entries → Type 0
IsWithOne old a p new =
    (name : List ℕ) → entry_at new name ≡ cond (bytes_eq a name) (Some p) (entry_at old name)

-- The table `new` equals the table `old`, except that `new` has p under the name a, and q under the name b.
abbrev pub IsWithBoth : Entries → List ℕ → List ℕ → Rules × PeerValue → Rules × PeerValue → Entries → Type 0
IsWithBoth old a b p q new =
    (name : List ℕ)
    → entry_at new name ≡ cond (bytes_eq b name) (Some q) (cond (bytes_eq a name) (Some p) (entry_at old name))

-- The model of the program's settings in contracts: the settings, with strings as lists of bytes.
abbrev pub program_of : Settings → Program
program_of s =
    record {
      deny = option_map string_bytes s.deny;
      seed = s.seed;
      at = s.at;
      workers = s.workers;
      batch = s.batch;
      quiet = s.quiet;
    }

abbrev pub beside_of : Settings → ℕ → List NamedBackupValue → Beside
beside_of s drawn backups = record { program = program_of s; drawn = drawn; backups = backups }

-- The list of the backups in the stored table of backups.
abbrev pub copies_of : List (BackupName × BackupValue) → List NamedBackupValue
copies_of entries = map (λ e. record { db = string_bytes e.0.db; name = string_bytes e.0.name; backup = e.1 }) entries

-- The list `uuids` contains exactly the UUIDs of the given databases.
pub record IsIndex (peers : List ℕ → Option PeerValue) (uuids : List ℕ) : Type 0 where
  pub noted : (uuid : ℕ) → list_any (nat_eq uuid) uuids ≡ true → IsHeldBy peers uuid
  pub taken : (uuid : ℕ) → IsHeldBy peers uuid → list_any (nat_eq uuid) uuids ≡ true
