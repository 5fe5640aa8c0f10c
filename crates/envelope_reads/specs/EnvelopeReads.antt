-- Defines the result of reading the envelope of a document, as specified in docs/PROFILE.md, "Documents in envelopes"
-- and "What `read_doc` accepts".
use Rattle.std.specs.Prelude.{ℕ, List, Option, Some, None, option_and_then, Result, Ok}
use Rattle.rev_core.specs.{◌>>=◌}
use Rattle.serde_json.specs.Data.{Data}
use Rattle.serde_json.specs.Read.{read as read_text}
use Rattle.doc_json.specs.{doc_read}
use Rattle.doc_json.specs.Document.{Document}
use Rattle.doc_json.specs.declared.fault.DocFault.{DocFault}
use Rattle.doc_envelope.specs.Envelopes.{enveloped}

-- The result of reading the document in an optional JSON value: the document, an error, or `None` if the value is
-- absent.
abbrev pub read_if_any : Option Data → Result (Option Document) DocFault
read_if_any None = Ok None
read_if_any (Some value) = doc_read value >>= λ doc. Ok (Some doc)

-- The result of reading the envelope that wraps the text `document`. The result is `None` if the text has no envelope,
-- or the envelope is not JSON.
abbrev pub envelope_read : List ℕ → Result (Option Document) DocFault
envelope_read document = read_if_any (option_and_then read_text (enveloped document))
