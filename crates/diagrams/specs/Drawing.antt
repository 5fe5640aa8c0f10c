-- Defines the pictures of a script's output, as specified in docs/PROFILE.md, "Pictures".
use Rattle.std.specs.Prelude.{◌≡◌, ℕ, ◌<◌, ◌≤◌, Bool, true, false, List, [], ◌∷◌, ◌++◌, Option, Some, None, Result, Ok, Err, IsPermutation, map, codes, option_map, String, string_bytes, Vec, vec_len, chars, ⊤}
use Rattle.std.specs.declared.alloc.Global.{Global}
use Rattle.std.specs.Borrow.{Bor}
use Rattle.std.specs.Io.KnownBytes.{Appends}
use Rattle.rev_core.specs.Rev.{RevId}
use Rattle.rev_core.specs.Ancestry.{head_of}
use Rattle.script_engine.specs.Device.{Gives}
use Rattle.script_engine.specs.Serving.{Answering}
use Rattle.script_engine.specs.Script.{AnswersCut, AnswersFirst, IsAnswered}
use Rattle.script_engine.specs.declared.fault.ScriptFault.{ScriptFault}
use Rattle.script_engine.specs.declared.fault.ScriptFault.TheVariants.{Read, Write, Memory, Cut}
use Rattle.output_parser.specs.Lines.{Tells}
use Rattle.output_parser.specs.declared.told.Found.{Found}
use Rattle.output_parser.specs.declared.told.Log.{Log}
use Rattle.output_parser.specs.declared.told.Row.{Row}
use Rattle.output_parser.specs.declared.told.Told.{Told}
use Rattle.output_parser.specs.declared.told.Told.TheVariants as told
use Rattle.diagrams.specs.declared.document.Document.{Document}
use Rattle.diagrams.specs.declared.document.Leaf.{Leaf}
use Rattle.diagrams.specs.declared.form.Form.{Form}
use Rattle.diagrams.specs.declared.reading.Whole.{Whole}
use Rattle.diagrams.specs.declared.reading.Whole.TheVariants as wholes
use Rattle.diagrams.specs.declared.tally.Outcome.{Outcome}
use Rattle.diagrams.specs.declared.tally.Tally.{Tally}
use Rattle.diagrams.specs.Shown.{IsSafe, shown}
use Rattle.diagrams.specs.Tallies.{none_counted, with_line, with_told}
use Rattle.diagrams.specs.Ink.{Draws, signs_of, signs_of_found, signs_of_log, signs_of_row}

-- ---- documents, line by line

-- A leaf in a picture: its revision, whether it is the winner, and whether it is live.
abbrev pub State : Type 0
State = RevId × Bool × Bool

abbrev pub state_of : Leaf → State
state_of l = (l.rev, l.wins, l.live)

abbrev pub states : Document → List State
states d = map state_of d.leaves.items

-- The leaves of a document in a picture after one leaf is added. The first leaf of a document in a picture is the
-- winner.
abbrev pub with_leaf : List State → RevId → Bool → List State
with_leaf [] r live = (r, true, live) ∷ []
with_leaf (s ∷ rest) r live = (s ∷ rest) ++ (r, false, live) ∷ []

-- The leaves of a document after several live leaves are added.
abbrev pub with_all : List State → List RevId → List State
with_all leaves [] = leaves
with_all leaves (r ∷ revs) = with_all (with_leaf leaves r true) revs

-- The id of document `d` is `id`, and the leaves of `d` that were read so far are `leaves`.
pub record Holds (d : Document) (id : List ℕ) (leaves : List State) : Type 0 where
  pub named : string_bytes d.id ≡ id
  pub read : states d ≡ leaves

-- Says which document is incomplete after a line of a script's output. The relation also says which item the line
-- completes: a document, a comparison, a row of numbers or a log.
pub data IsNext : Option Document → Told → Option Document → Option Whole → Type 0 where
  -- A line of a script's output that begins a document.
  opened : {old : Option Document} {id : String Global} {count : ℕ} {d : Document} → Holds d (string_bytes id) [] → d.count ≡ count
      → IsNext old (told.Document id count) (Some d) None
  -- A line of a script's output that prints a leaf of an incomplete document, but not the document's last leaf.
  more : {d e : Document} {live : Bool} {revs : Vec RevId Global} (r : RevId) → head_of revs.items ≡ Some r
      → Holds e (string_bytes d.id) (with_leaf (states d) r live) → e.count ≡ d.count → vec_len e.leaves < e.count
      → IsNext (Some d) (told.Leaf live revs) (Some e) None
  -- A line of a script's output that prints the last leaf of a document, and so completes the document.
  whole : {d e : Document} {live : Bool} {revs : Vec RevId Global} (r : RevId) → head_of revs.items ≡ Some r
      → Holds e (string_bytes d.id) (with_leaf (states d) r live) → e.count ≡ d.count → e.count ≤ vec_len e.leaves
      → IsNext (Some d) (told.Leaf live revs) None (Some (wholes.Tree e))
  -- A line of a script's output that prints a leaf, while no document is incomplete.
  loose : {live : Bool} {revs : Vec RevId Global} → IsNext None (told.Leaf live revs) None None
  -- A line of a script's output with a leaf whose list of revisions is empty. Parsing never produces a leaf with an
  -- empty list of revisions.
  empty : {old : Option Document} {live : Bool} {revs : Vec RevId Global} → head_of revs.items ≡ None → IsNext old (told.Leaf live revs) None None
  -- A line of a script's output that prints a document's id and its live leaves.
  conflict : {old : Option Document} {id : String Global} {revs : Vec RevId Global} {e : Document} → Holds e (string_bytes id) (with_all [] revs.items)
      → IsNext old (told.Conflict id revs) None (Some (wholes.Tree e))
  -- A line that `compare` prints about a document, or a line of numbers that `compare`, `info` or `replicate` prints.
  found : {old : Option Document} {f : Found} → IsNext old (told.Found f) None (Some (wholes.Found f))
  row : {old : Option Document} {r : Row} → IsNext old (told.Row r) None (Some (wholes.Row r))
  -- A line of a script's output that prints a replication log.
  log : {old : Option Document} {l : Log} → IsNext old (told.Log l) None (Some (wholes.Log l))
  -- A line that pictures do not show: an output line of another kind, or a line that cannot be output of
  -- `couch_replicate`.
  other : {old : Option Document} → IsNext old told.Other None None
  unknown : {old : Option Document} → IsNext old told.Unknown None None

-- ---- pictures

-- A picture of document d. The picture has the document's id and each leaf once, in any order. If a database name is
-- given, a text picture also has the commands that resolve the conflict of document d.
pub record IsPicture (form : Form) (db : Option (List ℕ)) (d : Document) (text : List ℕ) : Type 0 where
  pub leaves : List Leaf
  pub each : IsPermutation (states d) (map state_of leaves)
  pub draws : Draws [] text (signs_of form db (string_bytes d.id) leaves)

-- The drawing of a complete item of a picture, or the empty text if there is no item.
abbrev pub IsDrawn : Form → Option (List ℕ) → Option Whole → List ℕ → Type 0
IsDrawn form db None text = text ≡ []
IsDrawn form db (Some (wholes.Tree d)) text = IsPicture form db d text
IsDrawn form db (Some (wholes.Found f)) text = Draws [] text (signs_of_found form f.finding (string_bytes f.id) f.revs.items)
IsDrawn form db (Some (wholes.Row r)) text = Draws [] text (signs_of_row form r.table (string_bytes r.name) r.numbers.items)
IsDrawn form db (Some (wholes.Log l)) text = Draws [] text (signs_of_log form (string_bytes l.id) l.entries.items)

-- The state of drawing between two lines of the input: the picture's format, the database's name, the incomplete
-- document, and the counts of lines.
pub record Sketch : Type 0 where
  pub form : Form
  pub db : Option (List ℕ)
  pub begun : Option Document
  pub tally : Tally

abbrev pub sketch_of : Form → Option (Bor (List ℕ)) → Option Document → Tally → Sketch
sketch_of form db begun tally =
    record { form = form; db = option_map (λ (s : Bor (List ℕ)). s.now) db; begun = begun; tally = tally }

-- What a line of a script's output adds to a picture: the drawing of the item that the line completes, or the empty
-- text. The line is counted.
pub record Takes (old : Sketch) (line : List ℕ) (new : Sketch) (text : List ℕ) : Type 0 where
  pub told : Told
  pub whole : Option Whole
  pub tells : Tells line told
  pub next : IsNext old.begun told new.begun whole
  pub drawn : IsDrawn old.form old.db whole text
  pub form : new.form ≡ old.form
  pub db : new.db ≡ old.db
  pub tally : new.tally ≡ with_told old.tally told

-- The result of processing a line of a script's output: the drawing of the item that the line completes, or an error.
-- If an allocation fails, any incomplete document is dropped, and the processed line is counted as a line that
-- `couch_replicate` can print.
abbrev pub Pictures : Answering Sketch (List ℕ)
Pictures old line (Ok text) new = Takes old line new text
Pictures old line (Err name) new =
    (name ≡ codes "Memory") × (new.begun ≡ None) × (new.form ≡ old.form) × (new.db ≡ old.db)
    × (new.tally ≡ with_line old.tally)

-- ---- everything from a reader

-- The state (`Sketch`) in which the conversion of a script's output into a picture begins. The state `first_sketch` has
-- no incomplete document.
abbrev pub first_sketch : Form → Option (List ℕ) → Sketch
first_sketch form db = record { form = form; db = db; begun = None; tally = none_counted }

-- A picture of a script's output, which has a start, the drawings for the output's lines, and an end. The result
-- `outcome` says whether memory was sufficient for drawing every line of the script's output, and has the counts of the
-- lines. Input texts have no hidden characters in the picture, and also no markup if the picture is an SVG picture.
pub record IsPictureOf (form : Form) (db : Option (List ℕ)) (input : List ℕ) (outcome : Outcome) (picture : List ℕ) : Type 0 where
  pub head : List ℕ
  pub head_drawn : Draws [] head []
  pub text : List ℕ
  pub left_open : Sketch
  pub answered : IsAnswered Pictures (first_sketch form db) input outcome.clean text left_open
  pub counts : outcome.tally ≡ left_open.tally
  pub tail : List ℕ
  pub tail_drawn : Draws [] tail []
  pub parts : picture ≡ (head ++ text) ++ tail
  pub safe : (shows : List ℕ) → IsSafe form (shown form (chars shows))

-- The call wrote a picture of its input. The input consists of all bytes `left` that the reader had not returned before
-- the call. The writer had accepted the bytes `held` before the call, and the bytes `held'` after the call.
pub record IsPictured (form : Form) (db : Option (List ℕ)) (outcome : Outcome) (left held held' : Option (List ℕ)) : Type 0 where
  pub input : List ℕ
  pub gives : Gives left input
  pub picture : List ℕ
  pub pictured : IsPictureOf form db input outcome picture
  pub written : Appends held held' picture

-- The given text is the start of a picture, followed by drawings for which the condition `holds` is true.
abbrev pub BeginsPicture : (List ℕ → Type 0) → List ℕ → Type 0
BeginsPicture holds text = (head : List ℕ) × Draws [] head [] × (drawn : List ℕ) × holds drawn × (text ≡ head ++ drawn)

-- The given text is the part of a picture that was written before the given error occurred. After an error `Read` or
-- `Memory`, each drawing in the text is complete. After the error `Cut`, the text ends within a drawing. After the
-- error `Write`, the text may be any text.
abbrev pub IsDrawnUntil : ScriptFault → Form → Option (List ℕ) → List ℕ → List ℕ → Type 0
IsDrawnUntil Read form db input text = BeginsPicture (AnswersFirst Pictures (first_sketch form db) input) text
IsDrawnUntil Write form db input text = ⊤
IsDrawnUntil Memory form db input text = BeginsPicture (AnswersFirst Pictures (first_sketch form db) input) text
IsDrawnUntil Cut form db input text = BeginsPicture (AnswersCut Pictures (first_sketch form db) input) text

-- The call failed. The text that it wrote is the beginning of a picture that shows its input. The input consists of all
-- bytes `left` that the reader had not returned before the call. The writer had accepted the bytes `held` before the
-- call, and the bytes `held'` after the call.
pub record IsPicturedUntil (fault : ScriptFault) (form : Form) (db : Option (List ℕ)) (left held held' : Option (List ℕ)) : Type 0 where
  pub input : List ℕ
  pub gives : Gives left input
  pub outcome : Outcome
  pub picture : List ℕ
  pub pictured : IsPictureOf form db input outcome picture
  pub text : List ℕ
  pub missing : List ℕ
  pub parts : picture ≡ text ++ missing
  pub written : Appends held held' text
  pub drawn : IsDrawnUntil fault form db input text

-- If `draw_answers` succeeds, it has read a script's output from the reader to the end, and has written a complete
-- picture of this output. If `draw_answers` fails, the text that it has written is a prefix of a picture.
abbrev pub PicturedBy : Result Outcome ScriptFault → Form → Option (List ℕ) → Option (List ℕ) → Option (List ℕ) → Option (List ℕ) → Type 0
PicturedBy (Ok outcome) form db left held held' = IsPictured form db outcome left held held'
PicturedBy (Err fault) form db left held held' = IsPicturedUntil fault form db left held held'
