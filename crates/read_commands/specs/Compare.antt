-- Defines the command `compare`, as specified in docs/PROFILE.md, "Command lines" and "Answers".
use Rattle.std.specs.Prelude.{◌≡◌, ℕ, List, [], ◌∷◌, ◌++◌, codes, decimal, Option, Some, None, Result, Ok, option_map, string_bytes}
use Rattle.std.specs.List.{flat_map}
use Rattle.serde_json.specs.Data.{Data}
use Rattle.json_values.specs.LineView.{line_items}
use Rattle.rev_tree.specs.declared.fault.Contradiction.{Contradiction}
use Rattle.doc_json.specs.Chosen.{Choice}
use Rattle.couch_base.specs.Database.{DatabaseValue}
use Rattle.couch_base.specs.Feed.{RowValue, chosen_feed}
use Rattle.repl_inspect.specs.Comparing.{ComparisonValue}
use Rattle.repl_inspect.specs.Comparisons.{compared_at, comparisons}
use Rattle.repl_inspect.specs.Totals.{total_of}
use Rattle.repl_inspect.specs.declared.total.Total.{Total}
use Rattle.script_engine.specs.Serving.{Answering}
use Rattle.script_databases.specs.Databases.{State, peer_at}
use Rattle.script_databases.specs.declared.refusal.Refusal.{Refusal}
use Rattle.rev_core.specs.Checks.{◌>>=◌}
use Rattle.command_api.specs.Checks.{needed}
use Rattle.command_api.specs.Given.{choice_given}
use Rattle.command_api.specs.Members.{as_texts, name_at, optional, texts_of, if_only}
use Rattle.command_api.specs.Telling.{database_of, Reads}
use Rattle.command_api.specs.Texts.{ended, revs_line}
use Rattle.read_commands.specs.Walks.{left_in, holds_in, rows_left, rows_walked}
use Rattle.read_commands.specs.declared.compare.Compare.{Compare}
use Rattle.read_commands.specs.declared.compare.CompareRest.{CompareRest}

-- ---- its parameters

-- The parameters of `compare`. For each selected document of the source, `compare` prints the leaves that the target
-- lacks, and revisions whose parent or content differs.
pub record CompareAsk : Type 0 where
  pub source : List ℕ
  pub target : List ℕ
  pub doc_ids : Option (List (List ℕ))

abbrev pub compare_asked : Compare → CompareAsk
compare_asked ask = record {
  source = ask.source.now;
  target = ask.target.now;
  doc_ids = option_map (λ v. texts_of (line_items v.now)) ask.doc_ids;
}

abbrev pub compare_in : Data → Result CompareAsk Refusal
compare_in d = do
  source ← needed (name_at (codes "source") d)
  target ← needed (name_at (codes "target") d)
  doc_ids ← needed (optional as_texts (codes "doc_ids") d)
  needed (if_only (codes "do" ∷ codes "source" ∷ codes "target" ∷ codes "doc_ids" ∷ []) d
      (record { source = source; target = target; doc_ids = doc_ids }))

-- ---- its output

-- The line that `compare` prints for a revision whose parent differs at the target, or the empty text if there is no
-- such revision.
abbrev pub contradicts_line : List ℕ → Option Contradiction → List ℕ
contradicts_line id None = []
contradicts_line id (Some c) = revs_line (codes "contradicts") id (c.child ∷ [])

-- The lines that `compare` prints for a document.
abbrev pub comparison_lines : List ℕ → ComparisonValue → List ℕ
comparison_lines id c =
    revs_line (codes "missing") id c.missing ++ contradicts_line id c.contradiction ++ revs_line (codes "differs") id c.differing

abbrev pub compared_lines : DatabaseValue → DatabaseValue → RowValue → List ℕ
compared_lines source target r = comparison_lines r.id (compared_at source target r.id)

-- The part of the last line of `compare` that gives the numbers of compared documents and leaves.
abbrev pub compared_part : Total → List ℕ
compared_part t = codes "compared " ++ decimal t.documents ++ codes " documents " ++ decimal t.leaves ++ codes " leaves"

-- The part of the last line of `compare` that gives the numbers of differences.
abbrev pub found_part : Total → List ℕ
found_part t =
    codes " missing " ++ decimal t.missing ++ codes " contradicting " ++ decimal t.contradicting ++ codes " differing "
    ++ decimal t.differing

abbrev pub compared_line : Total → List ℕ
compared_line t = ended (compared_part t ++ found_part t)

-- The output of `compare`: the lines for each document in the source's selected feed, and the totals.
abbrev pub compare_text : DatabaseValue → DatabaseValue → Choice → List ℕ
compare_text source target chosen =
    flat_map (compared_lines source target) (chosen_feed chosen source 0 source.update_seq)
    ++ compared_line (total_of (comparisons source target (chosen_feed chosen source 0 source.update_seq)))

-- The output that `compare` has not yet printed, which ends with the totals of all rows.
abbrev pub compare_left : State → CompareRest → List ℕ
compare_left s r =
    left_in (peer_at s (string_bytes r.source)) (λ source. left_in (peer_at s (string_bytes r.target)) (λ target.
    flat_map (compared_lines source.db target.db) (rows_left source.db r.walk)
    ++ compared_line (total_of (comparisons source.db target.db (rows_walked source.db r.walk)))))

-- The totals of `compare` so far count exactly the feed rows whose lines `compare` has already printed.
abbrev pub FitsCompare : State → CompareRest → Type 0
FitsCompare s r =
    holds_in (peer_at s (string_bytes r.source)) (λ source. holds_in (peer_at s (string_bytes r.target)) (λ target.
    (earlier : List RowValue) × (r.total ≡ total_of (comparisons source.db target.db earlier))
    × (earlier ++ rows_left source.db r.walk ≡ rows_walked source.db r.walk)))

-- ---- its result

abbrev pub compare_told : State → CompareAsk → Result (List ℕ) Refusal
compare_told s ask = do
  source ← database_of s ask.source
  target ← database_of s ask.target
  chosen ← choice_given ask.doc_ids
  Ok (compare_text source.db target.db chosen)

abbrev pub Compares : Answering State CompareAsk
Compares old ask told new = Reads (compare_told old ask) old told new
