-- Defines the counts of a session, as specified in docs/PROFILE.md, "Replication ids and logs".
use Rattle.std.specs.Prelude.{◌≡◌, ℕ, ◌+◌, refl}
use Rattle.std.specs.Coded.{Coded, code_by, coded×, coded_ℕ}
use Rattle.repl_log.specs.declared.counts.Counts.{Counts}

abbrev pub no_counts : Counts
no_counts = record { checked = 0; found = 0; read = 0; written = 0; failures = 0 }

-- The number of documents that a session has read is the number of written documents plus the number of refused
-- documents.
abbrev pub AddUp : Counts → Type 0
AddUp c = c.read ≡ c.written + c.failures

abbrev pub coded_counts : Coded Counts
coded_counts = code_by (ℕ × (ℕ × (ℕ × (ℕ × ℕ))))
    (coded× coded_ℕ (coded× coded_ℕ (coded× coded_ℕ (coded× coded_ℕ coded_ℕ))))
    (λ c. (c.checked, (c.found, (c.read, (c.written, c.failures)))))
    (λ p. record { checked = p.0; found = p.1.0; read = p.1.1.0; written = p.1.1.1.0; failures = p.1.1.1.1 })
    (λ _. refl)
