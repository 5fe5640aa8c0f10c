-- Defines the contents of pictures, as specified in docs/PROFILE.md, "Pictures".
use Rattle.std.specs.Prelude.{◌≡◌, ◌==◌, ◌&&◌, ◌*◌, ◌/◌, ◌-◌, nat_le, drop, get_or, ℕ, Bool, true, false, not, if◌then◌else◌, List, [], ◌∷◌, ◌++◌, Option, Some, None, map, codes, chars, decimal, encode_utf8_all, max, string_bytes, take}
use Rattle.std.specs.List.{flat_map}
use Rattle.rev_core.specs.Rev.{RevId}
use Rattle.rev_core.specs.Text.{rev_text}
use Rattle.output_parser.specs.Lines.{finding_text}
use Rattle.output_parser.specs.Columns.{columns_of}
use Rattle.output_parser.specs.declared.told.Column.{Column}
use Rattle.output_parser.specs.declared.told.Column.TheVariants as columns
use Rattle.output_parser.specs.declared.told.Entry.{Entry}
use Rattle.output_parser.specs.declared.told.Finding.{Finding}
use Rattle.output_parser.specs.declared.told.Table.{Table}
use Rattle.output_parser.specs.declared.told.Table.TheVariants as tables
use Rattle.diagrams.specs.declared.document.Leaf.{Leaf}
use Rattle.diagrams.specs.declared.form.Form.{Form}
use Rattle.diagrams.specs.declared.form.Form.TheVariants as forms
use Rattle.diagrams.specs.declared.markup.Markup.{Markup}
use Rattle.diagrams.specs.declared.markup.Markup.TheVariants as own
use Rattle.diagrams.specs.Shown.{shown}

-- The markup that the program writes into a picture, in UTF-8.
abbrev pub markup_text : Markup → List ℕ
markup_text own.Space = codes " "
markup_text own.LineEnd = codes "\n"
markup_text own.Indent = codes "  "
markup_text own.Blank = codes "   "
markup_text own.Bar = 32 ∷ 226 ∷ 148 ∷ 130 ∷ 32 ∷ []  --  │
markup_text own.Step = 32 ∷ 226 ∷ 148 ∷ 128 ∷ 32 ∷ []  --  ─
markup_text own.Fork = 32 ∷ 226 ∷ 148 ∷ 172 ∷ 32 ∷ []  --  ┬
markup_text own.Branch = 32 ∷ 226 ∷ 148 ∷ 156 ∷ 32 ∷ []  --  ├
markup_text own.Corner = 32 ∷ 226 ∷ 148 ∷ 148 ∷ 32 ∷ []  --  └
markup_text own.More = codes " more"
markup_text own.Head = codes "<svg xmlns=\"http://www.w3.org/2000/svg\" role=\"img\" font-family=\"sans-serif\" font-size=\"13\"><title>Revision trees</title><desc>Each document is a tree of its revisions, the oldest to the left, with the winner in the first row. Filled marks are live leaves, a disc for the winner and squares for those that lose; hollow marks are deleted leaves.</desc><style>svg{background:#fff}text{fill:#222;white-space:pre}.b{font-weight:bold}.r{font-size:10px;text-anchor:middle;fill:#555}.e{stroke:#7f8c8d;stroke-width:1.6;fill:none}.a{fill:#95a5a6}.w{fill:#0072b2}.l{fill:#d55e00}.d{fill:#fff;stroke:#555;stroke-width:2}@media(prefers-color-scheme:dark){svg{background:#1b1b1b}text{fill:#eee}.r{fill:#bbb}.d{fill:#1b1b1b;stroke:#bbb}}</style>\n"
markup_text own.TailWidth = codes "<style>svg{width:"
markup_text own.TailHeight = codes "px;height:"
markup_text own.Tail = codes "px}</style></svg>\n"
markup_text own.Group = codes "<g transform=\"translate(0,"
markup_text own.Title = codes ")\"><text x=\"20\" y=\"18\" class=\"b\">"
markup_text own.TitleEnd = codes "</text>\n"
markup_text own.GroupEnd = codes "</g>\n"
markup_text own.Path = codes "<path class=\"e\" d=\"M"
markup_text own.Comma = codes ","
markup_text own.Curve = codes " C"
markup_text own.PathEnd = codes "\"/>\n"
markup_text own.Node = codes "<g transform=\"translate("
markup_text own.NodeTitle = codes ")\"><title>"
markup_text own.Ancestor = codes "</title><circle r=\"6\" class=\"a\"/><text y=\"-11\" class=\"r\">"
markup_text own.Folded = codes ")\"><text y=\"4\" class=\"r\">"
markup_text own.NodeNone = codes ")\"></g>\n"
markup_text own.NodeEnd = codes "</text></g>\n"
markup_text own.Line = codes ")\"><text x=\"20\" y=\"18\">"
markup_text own.Numbers = codes "</text>\n<text x=\"20\" y=\"40\">"

-- The short form of a revision: the generation and the first six characters of the signature.
abbrev pub short_text : RevId → List ℕ
short_text r = decimal r.generation ++ 45 ∷ take 6 r.sig

-- ---- signs

-- The label of a leaf, which says whether the leaf is the winner, and whether it is live.
abbrev pub label_text : Bool → Bool → List ℕ
label_text true true = codes "  wins, live\n"
label_text true false = codes "  wins, deleted\n"
label_text false true = codes "  live\n"
label_text false false = codes "  deleted\n"

abbrev pub shape_text : Bool → Bool → List ℕ
shape_text true true = codes "</title><circle r=\"8\" class=\"w\"/><text y=\"-11\" class=\"r\">"
shape_text true false = codes "</title><circle r=\"8\" class=\"d\"/><text y=\"-11\" class=\"r\">"
shape_text false true = codes "</title><rect x=\"-7\" y=\"-7\" width=\"14\" height=\"14\" class=\"l\"/><text y=\"-11\" class=\"r\">"
shape_text false false = codes "</title><rect x=\"-7\" y=\"-7\" width=\"14\" height=\"14\" class=\"d\"/><text y=\"-11\" class=\"r\">"

abbrev pub node_label : Bool → Bool → List ℕ
node_label true true = codes "</text><text x=\"14\" y=\"4\">wins, live</text></g>\n"
node_label true false = codes "</text><text x=\"14\" y=\"4\">wins, deleted</text></g>\n"
node_label false true = codes "</text><text x=\"14\" y=\"4\">live</text></g>\n"
node_label false false = codes "</text><text x=\"14\" y=\"4\">deleted</text></g>\n"

-- The UTF-8 bytes with which a picture shows a text of the input. Hidden characters (`is_hidden`) are escaped, and in
-- SVG also markup characters.
abbrev pub shown_text : Form → List ℕ → List ℕ
shown_text form text = encode_utf8_all (shown form (chars text))

-- An item that a picture must show, such as a leaf or a bar.
pub data Sign : Type 0 where
  -- A document id in a picture.
  title : Form → List ℕ → Sign
  -- A leaf in a picture: its revision, and two flags that say whether the leaf wins, and whether the leaf is live.
  leaf : Form → RevId → Bool → Bool → Sign
  -- In a text picture, the command that would delete a losing leaf. The command has the database, the document id and
  -- the leaf's revision.
  edit : List ℕ → List ℕ → RevId → Sign
  -- In a picture, a finding of `compare` together with the document's id.
  found : Form → Finding → List ℕ → Sign
  -- In a picture, one of the revisions that a finding of `compare` lists.
  listed : RevId → Sign
  -- The heading of a row of numbers in a picture, such as `database` with the database's name.
  heading : Form → Table → List ℕ → Sign
  -- One number in a row of numbers in a picture, with the caption of the number's column.
  count : Column → ℕ → Sign
  -- A bar in a picture, whose filled part represents a part of a total.
  bar : Form → ℕ → ℕ → Sign
  -- The replication id of a log in a picture.
  log : Form → List ℕ → Sign
  -- The start time of a session in a picture of a replication log.
  moment : Form → List ℕ → Sign
  -- A session's bar in a picture of a replication log. The first two numbers of `chart` are the numbers of documents
  -- that the session wrote and read. The last number of `chart` is the greatest number of documents read by any session
  -- of the log, or 1 if this number is 0.
  chart : Form → ℕ → ℕ → ℕ → Sign

abbrev pub leaf_ink : Form → RevId → Bool → Bool → List ℕ
leaf_ink forms.Text r wins live = short_text r ++ label_text wins live
leaf_ink forms.Svg r wins live = rev_text r ++ (shape_text wins live ++ (short_text r ++ node_label wins live))

abbrev pub edit_ink : List ℕ → List ℕ → RevId → List ℕ
edit_ink db id r =
    codes "  to keep the winner alone: {\"do\":\"edit\",\"db\":\"" ++ (shown_text forms.Text db ++ (codes "\",\"id\":"
    ++ (shown_text forms.Text id ++ (codes ",\"parent\":\"" ++ (rev_text r ++ codes "\",\"deleted\":true}\n")))))

-- The caption of a column of numbers.
abbrev pub caption : Column → List ℕ
caption columns.ComparedDocuments = codes "documents"
caption columns.ComparedLeaves = codes "leaves"
caption columns.ComparedMissing = codes "missing leaves"
caption columns.Contradicting = codes "contradicting documents"
caption columns.Differing = codes "differing leaves"
caption columns.Seq = codes "seq"
caption columns.Life = codes "life"
caption columns.Documents = codes "documents"
caption columns.Deleted = codes "deleted"
caption columns.Leaves = codes "leaves"
caption columns.Conflicts = codes "conflicts"
caption columns.Revisions = codes "revisions"
caption columns.Sessions = codes "sessions"
caption columns.From = codes "from"
caption columns.To = codes "to"
caption columns.Checked = codes "checked"
caption columns.Found = codes "found"
caption columns.Read = codes "read"
caption columns.Written = codes "written"
caption columns.Failed = codes "failed"

-- The text `compare`, `database` or `session`, with which a row of numbers in a picture begins.
abbrev pub table_text : Table → List ℕ
table_text tables.Compared = codes "compare"
table_text tables.Info = codes "database "
table_text tables.Session = codes "session "

-- The length with which a bar shows the number `part`. The complete bar has the length 400, and shows the total `all`.
-- A `share` is at most 400, and is 400 if the total `all` is 0.
abbrev pub share : ℕ → ℕ → ℕ
share part all = if all == 0 then 400 else (if nat_le 400 (part * 400 / all) then 400 else part * 400 / all)

abbrev pub ratio : ℕ → ℕ → List ℕ
ratio part all = (decimal part ++ codes " of ") ++ decimal all

-- The bytes of a bar in a picture. A bar is 40 characters long in a text picture, and 400 units wide in an SVG picture.
abbrev pub bar_ink : Form → ℕ → ℕ → List ℕ
bar_ink forms.Text part all =
    ((((codes "  [" ++ take (share part all / 10) (codes "########################################"))
    ++ drop (share part all / 10) (codes "........................................")) ++ codes "] ") ++ ratio part all) ++ codes "\n"
bar_ink forms.Svg part all =
    (((codes "<rect x=\"20\" y=\"54\" width=\"400\" height=\"10\" class=\"d\"/><rect x=\"20\" y=\"54\" width=\""
    ++ decimal (share part all)) ++ codes "\" height=\"10\" class=\"w\"/><text x=\"432\" y=\"63\">") ++ ratio part all)
    ++ codes "</text>\n"

-- The number of filled characters in a bar of 40 characters.
abbrev pub filled : ℕ → ℕ → ℕ
filled written most = share written most / 10

abbrev pub reached : ℕ → ℕ → ℕ → ℕ
reached written read most = max (filled written most) (share read most / 10)

abbrev pub chart_ink : Form → ℕ → ℕ → ℕ → List ℕ
chart_ink forms.Text written read most =
    (((codes "  [" ++ take (filled written most) (codes "########################################"))
    ++ take (reached written read most - filled written most) (codes "........................................"))
    ++ drop (reached written read most) (codes "                                        ")) ++ codes "]"
chart_ink forms.Svg written read most =
    (((codes "</text>\n<rect x=\"250\" y=\"8\" height=\"10\" class=\"d\" width=\"" ++ decimal (share read most))
    ++ codes "\"/><rect x=\"250\" y=\"8\" height=\"10\" class=\"w\" width=\"") ++ decimal (share written most))
    ++ codes "\"/>\n<text x=\"662\" y=\"18\">"

abbrev pub sign_ink : Sign → List ℕ
sign_ink (title form text) = shown_text form text
sign_ink (leaf form r wins live) = leaf_ink form r wins live
sign_ink (edit db id r) = edit_ink db id r
sign_ink (found form finding id) = finding_text finding ++ shown_text form id
sign_ink (listed r) = codes " " ++ short_text r
sign_ink (heading form table name) = table_text table ++ shown_text form name
sign_ink (count column n) = ((codes "  " ++ caption column) ++ codes " ") ++ decimal n
sign_ink (bar form part all) = bar_ink form part all
sign_ink (log form id) = codes "log " ++ shown_text form id
sign_ink (moment form text) = shown_text form text
sign_ink (chart form written read most) = chart_ink form written read most

-- ---- pieces

-- A piece of a picture: markup, a number, an ancestor, or an item that the picture must show (`Sign`).
pub data Piece : Type 0 where
  mark : Markup → Piece
  number : ℕ → Piece
  whole : RevId → Piece
  short : RevId → Piece
  sign : Sign → Piece

-- The bytes of one piece of a picture, such as markup, a number, an ancestor or a leaf.
abbrev pub ink_of : Piece → List ℕ
ink_of (mark m) = markup_text m
ink_of (number n) = decimal n
ink_of (whole r) = rev_text r
ink_of (short r) = short_text r
ink_of (sign s) = sign_ink s

-- The item (`Sign`) that a piece of a picture shows, as a list of one item. If the piece is markup, a number or an
-- ancestor, the list is empty.
abbrev pub sign_in : Piece → List Sign
sign_in (mark m) = []
sign_in (number n) = []
sign_in (whole r) = []
sign_in (short r) = []
sign_in (sign s) = s ∷ []

-- The text `new` is the text `old`, followed by pieces of a picture such as markup, numbers, ancestors and leaves. The
-- list `signs` has the items that the added pieces show, such as document ids and leaves, in the order of the pieces.
pub record Draws (old new : List ℕ) (signs : List Sign) : Type 0 where
  pub pieces : List Piece
  pub ink : new ≡ old ++ flat_map ink_of pieces
  pub drawn : flat_map sign_in pieces ≡ signs

-- ---- signs of a document

abbrev pub leaf_sign : Form → Leaf → Sign
leaf_sign form l = leaf form l.rev l.wins l.live

-- The command that would delete leaf l of document `id` in the database `db`, as a list of one command. The list is
-- empty if l is deleted or is the winner.
abbrev pub edit_of : List ℕ → List ℕ → Leaf → List Sign
edit_of db id l = if not l.wins && l.live then edit db id l.rev ∷ [] else []

abbrev pub edits_of : Option (List ℕ) → List ℕ → List Leaf → List Sign
edits_of None id leaves = []
edits_of (Some db) id leaves = flat_map (edit_of db id) leaves

-- What a picture must show of a document: its id, its leaves, and, in a text picture, the commands that resolve the
-- document's conflict.
abbrev pub signs_of : Form → Option (List ℕ) → List ℕ → List Leaf → List Sign
signs_of forms.Text db id leaves = title forms.Text id ∷ (map (leaf_sign forms.Text) leaves ++ edits_of db id leaves)
signs_of forms.Svg db id leaves = title forms.Svg id ∷ map (leaf_sign forms.Svg) leaves

-- ---- signs of other lines

-- What a picture must show of a line of `compare` about a document: the finding with the document's id, and each listed
-- revision.
abbrev pub signs_of_found : Form → Finding → List ℕ → List RevId → List Sign
signs_of_found form finding id revs = found form finding id ∷ map listed revs

-- What a picture must show of the numbers of a line: each number, after the caption of the number's column.
abbrev pub counts_of : List Column → List ℕ → List Sign
counts_of (c ∷ cs) (n ∷ ns) = count c n ∷ counts_of cs ns
counts_of cs ns = []

-- The bars that a picture has after a row of numbers: one bar after the numbers of `compare` or of a session, and no
-- bar after the numbers of `info`. For the numbers of `compare`, the filled part of the bar represents the compared
-- leaves that the target has. For the numbers of a session, the complete bar represents the documents read, and the
-- filled part represents the documents written.
abbrev pub bars_of : Form → Table → List ℕ → List Sign
bars_of form tables.Compared ns = bar form (get_or ns 1 0 - get_or ns 2 0) (get_or ns 1 0) ∷ []
bars_of form tables.Info ns = []
bars_of form tables.Session ns = bar form (get_or ns 5 0) (get_or ns 4 0) ∷ []

-- What a picture must show of a line of numbers: a heading, the numbers, and a bar unless `info` printed the line.
abbrev pub signs_of_row : Form → Table → List ℕ → List ℕ → List Sign
signs_of_row form table name ns = heading form table name ∷ (counts_of (columns_of table) ns ++ bars_of form table ns)

-- The greatest number of documents that one of the given sessions read, or the number `most` if `most` is greater.
abbrev pub most_from : ℕ → List Entry → ℕ
most_from most [] = most
most_from most (e ∷ es) = most_from (max most e.read) es

-- What a picture must show of a session in a log: the start time, a bar, the numbers of documents, and the session's
-- id.
abbrev pub signs_of_session : Form → ℕ → Entry → List Sign
signs_of_session form most e =
    moment form (string_bytes e.begun) ∷ chart form e.written e.read most ∷ count columns.Read e.read ∷ count columns.Written e.written
    ∷ count columns.Failed e.failed ∷ heading form tables.Session (string_bytes e.session) ∷ []

-- What a picture must show of a replication log: the log's replication id, and then each session of the log.
abbrev pub signs_of_log : Form → List ℕ → List Entry → List Sign
signs_of_log form id es = log form id ∷ flat_map (signs_of_session form (most_from 1 es)) es
