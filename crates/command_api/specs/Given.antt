-- Defines how the values in a line of a script are parsed, and the errors of invalid values, as specified in
-- docs/PROFILE.md, "Order of checks".
use Rattle.std.specs.Prelude.{ℕ, List, [], ◌∷◌, Option, Some, None, unwrap_or, Result, Ok, Err}
use Rattle.serde_json.specs.Data.{Data, object, no_members}
use Rattle.rev_core.specs.Rev.{RevId}
use Rattle.rev_core.specs.Text.{rev_read}
use Rattle.rev_core.specs.Checks.{◌>>=◌}
use Rattle.doc_json.specs.Body.{body_read}
use Rattle.doc_json.specs.Chosen.{Choice, chosen_answer}
use Rattle.doc_json.specs.DocId.{doc_id_read}
use Rattle.doc_json.specs.DocRead.{doc_read}
use Rattle.doc_json.specs.Document.{Document}
use Rattle.script_databases.specs.Refusals.{told_as, doc_refusal, rev_refusal}
use Rattle.script_databases.specs.declared.refusal.Refusal.{Refusal}

-- The document id parsed from a string, or the error of parsing the string.
abbrev pub id_given : List ℕ → Result (List ℕ) Refusal
id_given text = told_as doc_refusal (doc_id_read text)

abbrev pub some_of : {A : Type 0} → Result A Refusal → Result (Option A) Refusal
some_of (Ok x) = Ok (Some x)
some_of (Err refusal) = Err refusal

-- The document ids parsed from a list of strings, in order, or the error of the first invalid string.
abbrev pub ids_given : List (List ℕ) → Result (List (List ℕ)) Refusal
ids_given [] = Ok []
ids_given (text ∷ texts) = do
  id ← id_given text
  ids ← ids_given texts
  Ok (id ∷ ids)

-- The selection of the documents whose ids are in a list, or the error of creating this selection.
abbrev pub chosen_given : List (List ℕ) → Result Choice Refusal
chosen_given ids = some_of (told_as doc_refusal (chosen_answer ids))

-- The selection of documents, given an optional list of strings that are parsed as ids. If there is no list, the
-- selection is all documents.
abbrev pub choice_given : Option (List (List ℕ)) → Result Choice Refusal
choice_given None = Ok None
choice_given (Some texts) = do
  ids ← ids_given texts
  chosen_given ids

-- The revision id parsed from an optional string, or the error of parsing the string.
abbrev pub rev_given : Option (List ℕ) → Result (Option RevId) Refusal
rev_given None = Ok None
rev_given (Some text) = some_of (told_as rev_refusal (rev_read text))

-- The body read from a JSON value, or the error of reading the value.
abbrev pub body_given : Data → Result (List ℕ) Refusal
body_given d = told_as doc_refusal (body_read d)

-- The body read from an optional JSON value, or the error of reading the value. If there is no value, the body is the
-- empty object.
abbrev pub body_given_or_empty : Option Data → Result (List ℕ) Refusal
body_given_or_empty d = body_given (unwrap_or d (object no_members))

-- The document read from an optional JSON value, or the error of reading the value.
abbrev pub document_given : Option Data → Result (Option Document) Refusal
document_given None = Ok None
document_given (Some d) = some_of (told_as doc_refusal (doc_read d))
