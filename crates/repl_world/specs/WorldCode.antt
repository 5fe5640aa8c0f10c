-- Defines how two peers, the messages between them and the source's backups are encoded as data.
use Rattle.std.specs.Prelude.{ℕ, List, refl}
use Rattle.std.specs.Coded.{Coded, code_by, coded×, coded_ℕ, coded_list}
use Rattle.doc_json.specs.Chosen.{Choice}
use Rattle.couch_base.specs.Feed.{WindowValue, coded_window}
use Rattle.couch_base.specs.Messages.{AskedValue, ParcelValue, coded_asked, coded_parcel}
use Rattle.repl_log.specs.Entry.{EntryValue, coded_entry}
use Rattle.repl_log.specs.Text.{coded_choice}
use Rattle.repl_peer.specs.peer.Peer.{PeerValue}
use Rattle.repl_peer.specs.peer.Backups.{BackupValue}
use Rattle.repl_peer.specs.peer.PeerCode.{coded_peer, coded_backup}
use Rattle.repl_world.specs.Bags.{BagValue}
use Rattle.repl_world.specs.Worlds.{WorldValue}

abbrev pub coded_bag : Coded BagValue
coded_bag =
    code_by
    (List WindowValue
    × (List (ℕ × AskedValue) × (List (ℕ × ParcelValue) × (List EntryValue × List (ℕ × List EntryValue)))))
    (coded× (coded_list coded_window)
    (coded× (coded_list (coded× coded_ℕ coded_asked))
    (coded× (coded_list (coded× coded_ℕ coded_parcel))
    (coded× (coded_list coded_entry) (coded_list (coded× coded_ℕ (coded_list coded_entry)))))))
    (λ b. (b.windows, (b.asked, (b.parcels, (b.entries, b.logs)))))
    (λ p. record {
      windows = p.0;
      asked = p.1.0;
      parcels = p.1.1.0;
      entries = p.1.1.1.0;
      logs = p.1.1.1.1;
    }) (λ _. refl)

abbrev pub coded_world : Coded WorldValue
coded_world =
    code_by ((PeerValue × PeerValue) × (Choice × (BagValue × List BackupValue)))
    (coded× (coded× coded_peer coded_peer) (coded× coded_choice (coded× coded_bag (coded_list coded_backup))))
    (λ w. ((w.source, w.target), (w.chosen, (w.bag, w.backups))))
    (λ p. record {
      source = p.0.0;
      target = p.0.1;
      chosen = p.1.0;
      bag = p.1.1.0;
      backups = p.1.1.1;
    }) (λ _. refl)
