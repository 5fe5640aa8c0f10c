-- Defines the values by which contracts describe the entries that a log's history keeps.
use Rattle.std.specs.Prelude.{List, map}
use Rattle.relay_requests.specs.declared.logs.Recorded.{Recorded}
use Rattle.relay_requests.specs.Logs as logs

abbrev pub recorded_view : Recorded → logs.Recorded
recorded_view r = (r.session_id.now, r.seq.now)

abbrev pub kept_view : List Recorded → List logs.Recorded
kept_view kept = map recorded_view kept
